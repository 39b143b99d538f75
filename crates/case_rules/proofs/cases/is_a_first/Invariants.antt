use Rattle.std.proofs.Common.{◌≡◌, false, drop}
use Rattle.std.specs.List.{list_any}
use Rattle.std.specs.Option.{option_map_or}
use Rattle.std.specs.Str.{bytes_eq}
use Rattle.cpl_config.specs.declared.config.SchemeTable.{SchemeTable}
use Rattle.case_rules.proofs.cases.is_a_first.Given as goal

-- it is the first of one of the rest where it is of one of all
abbrev pub invariant-schemes : goal.invariant-schemes
invariant-schemes l =
    list_any (λ (scheme : SchemeTable). option_map_or (bytes_eq l.part.name) scheme.first false) (drop l.scheme-index l.schemes)
    ≡ list_any (λ (scheme : SchemeTable). option_map_or (bytes_eq l.part.name) scheme.first false) l.schemes
