use Rattle.std.proofs.Common.{◌≡◌, ◌&&◌, drop}
use Rattle.std.specs.List.{list_any}
use Rattle.std.specs.Str.{bytes_eq}
use Rattle.config_rules.specs.Members.{is_iterated}
use Rattle.config_rules.specs.SchemeRules.{relaxes}
use Rattle.config_rules.proofs.relaxed.relaxes.Given as goal

-- an exchange of the rest relaxes the data where one of the scheme does
abbrev pub invariant-entries : goal.invariant-entries
invariant-entries l = list_any (λ entry. bytes_eq entry.data_name l.data_name && is_iterated l.table entry) (drop l.entry-index l.entry-items) ≡ relaxes l.table l.data_name
