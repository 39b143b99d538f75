use Rattle.std.proofs.Common.{ap, sym, ◌∙◌}
use Rattle.mesh_rules.specs.Spots.{held_of}
use Rattle.config_rules.specs.SchemeRules.{is_wrongly_fed, is_unfed}
use Rattle.config_rules.proofs.exchanges.is_unfed.Goals as goal

pub returns-in-Read : goal.returns-in-Read
returns-in-Read c =
    let config = c.args.config.now in
    c.is_wrongly_fed.ensures
    ∙ (ap (λ reader. is_wrongly_fed config reader c.in-Read.earlier.now c.as_str-in-Read.result.now) c.as_str.ensures
    ∙ (ap (λ name. is_wrongly_fed config c.in-Read.table.now.name c.in-Read.earlier.now name) c.as_str-in-Read.ensures
    ∙ ap (λ held. is_unfed config (held_of held)) (sym c.in-Read.is)))
