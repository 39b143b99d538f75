use Rattle.std.proofs.Common.{◌≡◌, drop}
use Rattle.std.specs.List.{list_any}
use Rattle.std.specs.Str.{bytes_eq}
use Rattle.config_rules.specs.Members.{exchanges_data}
use Rattle.config_rules.proofs.groups.exchanges_data.Given as goal

-- an exchange of the rest exchanges the data where one of the scheme does
abbrev pub invariant-entries : goal.invariant-entries
invariant-entries l = list_any (λ entry. bytes_eq entry.data_name l.data_name) (drop l.entry-index l.entry-items) ≡ exchanges_data l.table l.data_name
