use Rattle.std.proofs.Common.{◌≡◌, drop}
use Rattle.std.specs.List.{list_any}
use Rattle.config_rules.specs.WindowRules.{goes_forward}
use Rattle.config_rules.proofs.windows.some_goes_forward.Given as goal

-- an exchange of the rest goes forward where one of the scheme does
abbrev pub invariant-entries : goal.invariant-entries
invariant-entries l = list_any (goes_forward l.table) (drop l.entry-index l.entry-items) ≡ list_any (goes_forward l.table) l.table.exchange
