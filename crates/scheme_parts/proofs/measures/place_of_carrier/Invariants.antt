use Rattle.std.proofs.Common.{◌≡◌, drop, position}
use Rattle.std.specs.List.{position_from}
use Rattle.std.specs.Str.{bytes_eq}
use Rattle.scheme_parts.proofs.measures.place_of_carrier.Given as goal

-- what is found in the rest is found in the whole
abbrev pub invariant-entries : goal.invariant-entries
invariant-entries l = position_from (λ entry. bytes_eq entry.data_name l.data_name) l.index (drop l.index l.entries) ≡ position (λ entry. bytes_eq entry.data_name l.data_name) l.entries
