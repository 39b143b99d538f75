-- What a table gives to a plan, put together.
use Rattle.std.proofs.Common.{◌≡◌, ℕ, List, option_map, Some, ap, sym, ◌∙◌}
use Rattle.std.specs.Prelude.{slice_get}
use Rattle.cpl_config.specs.declared.config.Config.{Config}
use Rattle.cpl_config.specs.declared.config.SchemeTable.{SchemeTable}
use Rattle.cpl_plan.specs.declared.parts.Scheme.{Scheme}
use Rattle.cpl_plan.specs.declared.parts.Exchange.{Exchange}
use Rattle.scheme_parts.specs.declared.part.SchemePart.{SchemePart}
use Rattle.scheme_parts.specs.NumbersOf.{exchanges_before}
use Rattle.scheme_parts.specs.ExchangeOf.{exchanges_of}
use Rattle.scheme_parts.specs.SchemeOf.{scheme_of, scheme_part}

abbrev of_two : Scheme → List Exchange → SchemePart
of_two scheme exchanges = record { scheme = scheme; exchanges = exchanges }

pub part_made : (config same : Config) (s before : ℕ) (table : SchemeTable) (part : SchemePart) → same ≡ config → before ≡ exchanges_before config s → slice_get config.scheme s ≡ Some table
    → part.scheme ≡ scheme_of same before table → part.exchanges ≡ exchanges_of same s table → option_map (scheme_part config s) (slice_get config.scheme s) ≡ Some part
part_made config same s before table part is counted at scheme exchanges =
    let own : part.scheme ≡ scheme_of config (exchanges_before config s) table = scheme ∙ (ap (λ (c : Config). scheme_of c before table) is ∙ ap (λ (n : ℕ). scheme_of config n table) counted) in
    let listed : part.exchanges ≡ exchanges_of config s table = exchanges ∙ ap (λ (c : Config). exchanges_of c s table) is in
    let made : part ≡ scheme_part config s table = ap (λ (x : Scheme). of_two x part.exchanges) own ∙ ap (of_two (scheme_of config (exchanges_before config s) table)) listed in
    ap (option_map (scheme_part config s)) at ∙ ap (λ (p : SchemePart). Some p) (sym made)
