use Rattle.std.proofs.Common.{◌≡◌, find, drop}
use Rattle.std.specs.Str.{bytes_eq}
use Rattle.scheme_parts.proofs.map_places.entry_with.Given as goal

-- what is found in the rest is found in the whole
abbrev pub invariant-entries : goal.invariant-entries
invariant-entries l = find (λ entry. bytes_eq entry.data_name l.data_name) (drop l.entry-index l.entries) ≡ find (λ entry. bytes_eq entry.data_name l.data_name) l.entries
