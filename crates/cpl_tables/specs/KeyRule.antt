-- A key that is listed for a kind of table. The project's own.
use Rattle.std.specs.Prelude.{ℕ, List}
use Rattle.cpl_tables.specs.declared.shapes.Key.{Key}
use Rattle.cpl_tables.specs.declared.shapes.Presence.{Presence}
use Rattle.cpl_tables.specs.declared.shapes.Shape.{Shape}

-- its name, whether it may be left out, and what its value has to be
pub record KeyRule : Type 0 where
  pub name : List ℕ
  pub presence : Presence
  pub shape : Shape

-- what a key of the code says
abbrev pub rule_of_key : Key → KeyRule
rule_of_key key = record { name = key.name.now; presence = key.presence; shape = key.shape }
