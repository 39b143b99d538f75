use Rattle.std.proofs.Common.{◌≡◌, drop}
use Rattle.std.specs.List.{list_any}
use Rattle.std.specs.Str.{bytes_eq}
use Rattle.config_rules.proofs.exchanges.has_data.Given as goal

-- an entry of the rest is of the data where one of all is
abbrev pub invariant-entries : goal.invariant-entries
invariant-entries l = list_any (λ entry. bytes_eq entry.data_name l.data_name) (drop l.entry-index l.entries) ≡ list_any (λ entry. bytes_eq entry.data_name l.data_name) l.entries
