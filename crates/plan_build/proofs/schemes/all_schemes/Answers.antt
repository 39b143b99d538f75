use Rattle.std.proofs.Common.{List, length, refl, ap, sym, subst, ◌∙◌, arith}
use Rattle.std.specs.Prelude.{slice_get}
use Rattle.std.proofs.lemmas.Option.{slice_get_read}
use Rattle.cpl_config.specs.declared.config.Config.{Config}
use Rattle.cpl_config.specs.declared.config.SchemeTable.{SchemeTable}
use Rattle.cpl_config.specs.SoundConfig.{IsSoundConfig}
use Rattle.cpl_plan.specs.declared.parts.Exchange.{Exchange}
use Rattle.scheme_parts.proofs.Lookups.{few_before}
use Rattle.plan_build.proofs.schemes.all_schemes.Goals as goal

pub overflow_cast-before : goal.overflow_cast-before
overflow_cast-before c =
    let same = c.config.ensures.same in
    let at = slice_get_read c.as_slice-tables.result.now (length c.as_slice-tables.result.now) c.tables.number c.index-tables-number.result refl c.tables-test.true c.index-tables-number.is in
    let there = sym (ap (λ (tables : List SchemeTable). slice_get tables c.tables.number) (c.as_slice-tables.ensures ∙ ap (λ (config : Config). config.scheme) same)) ∙ at in
    let few = few_before c.args.config.now c.tables.number c.index-tables-number.result (subst IsSoundConfig same c.config.ensures.sound) there in
    omega (arith, few, c.tables.invariant.before, ap (λ (exchanges : List Exchange). length exchanges) c.as_slice.ensures.value)

pub numbered_part-requires-clause-few : goal.numbered_part-requires-clause-few
numbered_part-requires-clause-few c =
    let same = c.config.ensures.same in
    let at = slice_get_read c.as_slice-tables.result.now (length c.as_slice-tables.result.now) c.tables.number c.index-tables-number.result refl c.tables-test.true c.index-tables-number.is in
    let there = sym (ap (λ (tables : List SchemeTable). slice_get tables c.tables.number) (c.as_slice-tables.ensures ∙ ap (λ (config : Config). config.scheme) same)) ∙ at in
    let few = few_before c.args.config.now c.tables.number c.index-tables-number.result (subst IsSoundConfig same c.config.ensures.sound) there in
    omega (arith, few, c.tables.invariant.before, ap (λ (exchanges : List Exchange). length exchanges) c.as_slice.ensures.value)
