-- What a refusal tells.
use Rattle.std.proofs.Common.{◌≡◌, Option, Some, None, option_map, IfSome, IfNone, All, refl, lit<}
use Rattle.cpl_rules.specs.declared.rules.Rule.{Rule}
use Rattle.cpl_rules.specs.declared.rules.Rule.TheVariants.{UnknownKey, MissingKey, WrongType, BadSpelling, BadLength, Repeated}
use Rattle.cpl_rules.specs.declared.rules.Refusal.{Refusal}
use Rattle.cpl_rules.specs.Seen.{Seen}
use Rattle.cpl_rules.specs.SeenTables.{all_tables}
use Rattle.cpl_rules.specs.BrokenRules.{breaks}
use Rattle.cpl_rules.specs.FirstBroken.{first_broken, IsUnbroken}
use Rattle.cpl_rules.specs.Refused.{refused_for, table_rules, refusal_of, IsRefused, IsInOrder}
use Rattle.cpl_rules.proofs.FirstPlaces.{first_broken-none, first_broken-some}

-- a refusal tells the first broken rule, and where there is none no rule is broken
abbrev pub Says : Seen → Option Refusal → Type 0
Says top refusal = IfSome refusal (IsRefused top) × IfNone refusal (IsInOrder top)

all_rules : (top : Seen) → All (λ rule. IsUnbroken (breaks rule) (all_tables top)) table_rules → IsInOrder top
all_rules top h UnknownKey = h 0 UnknownKey (lit< tt)
all_rules top h MissingKey = h 1 UnknownKey (lit< tt)
all_rules top h WrongType = h 2 UnknownKey (lit< tt)
all_rules top h BadSpelling = h 3 UnknownKey (lit< tt)
all_rules top h BadLength = h 4 UnknownKey (lit< tt)
all_rules top h Repeated = h 5 UnknownKey (lit< tt)

says_found : (top : Seen) (found : Option (Rule × Seen)) → first_broken breaks table_rules (all_tables top) ≡ found → Says top (option_map refused_for found)
says_found top None h = (tt, all_rules top (first_broken-none breaks table_rules (all_tables top) h))
says_found top (Some found) h = (record { rule = found.0; at = found.1; told = refl; first = first_broken-some breaks table_rules (all_tables top) found.0 found.1 h }, tt)

pub refusal-says : (top : Seen) (refusal : Option Refusal) → refusal ≡ refusal_of top → Says top refusal
refusal-says top refusal h = rw h (says_found top (first_broken breaks table_rules (all_tables top)) refl)
