-- Why and where the tables of a file are refused. The project's own.
use Rattle.std.specs.Prelude.{◌≡◌, ℕ, List, [], ◌∷◌, Option, option_map}
use Rattle.cpl_rules.specs.declared.rules.Rule.{Rule}
use Rattle.cpl_rules.specs.declared.rules.Rule.TheVariants.{UnknownKey, MissingKey, WrongType, BadSpelling, BadLength, Repeated}
use Rattle.cpl_rules.specs.declared.rules.Refusal.{Refusal}
use Rattle.cpl_rules.specs.Seen.{Seen}
use Rattle.cpl_rules.specs.SeenTables.{all_tables}
use Rattle.cpl_rules.specs.BrokenRules.{breaks}
use Rattle.cpl_rules.specs.FirstBroken.{first_broken, IsFirstBroken, IsUnbroken}

-- the number by which a refusal names a rule
abbrev pub number_of_rule : Rule → ℕ
number_of_rule UnknownKey = 3
number_of_rule MissingKey = 4
number_of_rule WrongType = 5
number_of_rule BadSpelling = 6
number_of_rule BadLength = 7
number_of_rule Repeated = 8

-- the rules on tables, in their order
abbrev pub table_rules : List Rule
table_rules = UnknownKey ∷ MissingKey ∷ WrongType ∷ BadSpelling ∷ BadLength ∷ Repeated ∷ []

-- a broken rule and the table that breaks it, as they are told
abbrev pub refused_for : Rule × Seen → Refusal
refused_for found = record { rule = number_of_rule found.0; place = found.1.place }

-- the first broken rule of a file with this top table
abbrev pub refusal_of : Seen → Option Refusal
refusal_of top = option_map refused_for (first_broken breaks table_rules (all_tables top))

-- the refusal tells the first broken rule of a file with this top table, and its first place
pub record IsRefused (top : Seen) (refusal : Refusal) : Type 0 where
  pub rule : Rule
  pub at : Seen
  pub told : refusal ≡ refused_for (rule, at)
  pub first : IsFirstBroken breaks table_rules (all_tables top) rule at

-- no table of a file with this top table breaks a rule
abbrev pub IsInOrder : Seen → Type 0
IsInOrder top = (rule : Rule) → IsUnbroken (breaks rule) (all_tables top)
