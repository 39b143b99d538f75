use Rattle.std.proofs.Common.{◌≡◌, drop, position}
use Rattle.std.specs.List.{position_from}
use Rattle.std.specs.Str.{bytes_eq}
use Rattle.config_rules.proofs.circles.number_of.Given as goal

-- what is found in the rest is found in the whole
abbrev pub invariant-tables : goal.invariant-tables
invariant-tables l = position_from (λ table. bytes_eq table.name l.name) l.index (drop l.index l.tables) ≡ position (λ table. bytes_eq table.name l.name) l.fn.config.participant
