-- Tables whose lists a number of 32 bits counts. The project's own.
use Rattle.std.specs.Prelude.{◌-◌, ◌^◌, ◌≤◌, [], length}
use Rattle.std.specs.List.{AllByRecursion}
use Rattle.std.specs.Option.{option_map_or}
use Rattle.cpl_tables.specs.Keys.{keys_of}
use Rattle.cpl_tables.specs.Values.{list_of}
use Rattle.cpl_rules.specs.Seen.{Seen, value_at}

-- no list under a key of the table has more items than the greatest number of 32 bits
abbrev pub HasFewItems : Seen → Type 0
HasFewItems seen = AllByRecursion (λ key. length (option_map_or list_of (value_at seen key) []) ≤ 2 ^ 32 - 1) (keys_of seen.kind)
