-- From the tests on the value of a key to what the configuration's field then is, one lemma a shape.
use Rattle.std.proofs.Common.{◌≤◌, ℕ, Bool, true, false, List, [], map, length, ℤ, pos, All, IfSome, IsTrue, Option, Some, None, option_map, unwrap_or, leb-true, nat_le, zero-le}
use Rattle.std.specs.List.{list_all}
use Rattle.std.specs.Option.{option_map_or}
use Rattle.std.proofs.lemmas.Bool.{and_parts, false≢true}
use Rattle.std.proofs.lemmas.List.Elements.{All-map, All-weaker}
use Rattle.std.proofs.lemmas.List.{length-map}
use Rattle.std.proofs.lemmas.List.Sums.{AllPass-from_list_all}
use Rattle.toml.specs.Data.{Data, Members, integer}
use Rattle.cpl_tables.specs.declared.kinds.TableKind.{TableKind}
use Rattle.cpl_tables.specs.declared.shapes.Range.{Range}
use Rattle.cpl_tables.specs.declared.shapes.Limit.{Limit}
use Rattle.cpl_tables.specs.declared.shapes.Limit.TheVariants.{Items as ItemsLimit}
use Rattle.cpl_tables.specs.declared.shapes.Presence.{Presence}
use Rattle.cpl_tables.specs.declared.shapes.Presence.TheVariants.{Required, Optional}
use Rattle.cpl_tables.specs.declared.shapes.Shape.{Shape}
use Rattle.cpl_tables.specs.declared.shapes.Shape.TheVariants.{Name, Text, Integer, Number, Names, Numbers, Tables}
use Rattle.cpl_tables.specs.Values.{list_of, text_of, number_of, has_type, is_spelled, has_length, has_no_repeat, is_in_range, is_number_in, is_name_text, is_short_text, is_within}
use Rattle.cpl_config.specs.TreeValues.{integer_of, units_of, members_of}
use Rattle.cpl_config.specs.SoundConfig.{IsName, IsIn, IsNameList}

-- a value is as its shape asks
pub record IsRight (shape : Shape) (value : Data) : Type 0 where
  pub typed : IsTrue (has_type shape value)
  pub spelled : IsTrue (is_spelled shape value)
  pub long : IsTrue (has_length shape value)
  pub once : IsTrue (has_no_repeat shape value)

-- a key may be without a value
abbrev pub may_lack : Presence → Bool
may_lack Required = false
may_lack Optional = true

-- what a table has under a key: a value where there has to be one, and a right one where there is one
abbrev pub Fits : Presence → Shape → Option Data → Type 0
Fits presence shape None = IsTrue (may_lack presence)
Fits presence shape (Some value) = IsRight shape value

pub record IsRightAt (presence : Presence) (shape : Shape) (value : Option Data) : Type 0 where
  pub fits : Fits presence shape value

-- Names and texts

pub name_there : {o : Option Data} → IsRightAt Required Name o → IsName (option_map_or text_of o [])
name_there {o = None} right = absurd (false≢true right.fits)
name_there {o = Some value} right = right.fits.spelled

pub name_if : {o : Option Data} → IsRightAt Optional Name o → IfSome (option_map text_of o) IsName
name_if {o = None} right = tt
name_if {o = Some value} right = right.fits.spelled

pub text_there : {o : Option Data} → IsRightAt Required Text o → IsTrue (is_short_text (option_map_or text_of o []))
text_there {o = None} right = absurd (false≢true right.fits)
text_there {o = Some value} right = right.fits.spelled

-- Integers

spelled_integer : (range : Range) (value : Data) → IsRight (Integer range) value → IsIn range (integer_of value)
spelled_integer range (integer z) right = right.spelled
spelled_integer range _ right = absurd (false≢true right.typed)

pub integer_there : {range : Range} {o : Option Data} → IsRightAt Required (Integer range) o → IsIn range (option_map_or integer_of o (pos 0))
integer_there {range} {o = None} right = absurd (false≢true right.fits)
integer_there {range} {o = Some value} right = spelled_integer range value right.fits

pub integer_or_default : {range : Range} {o : Option Data} (default : ℤ) → IsIn range default → IsRightAt Optional (Integer range) o → IsIn range (option_map_or integer_of o default)
integer_or_default {range} {o = None} default within right = within
integer_or_default {range} {o = Some value} default within right = spelled_integer range value right.fits

pub integer_if_there : {range : Range} {o : Option Data} → IsRightAt Optional (Integer range) o → IfSome (option_map integer_of o) (IsIn range)
integer_if_there {range} {o = None} right = tt
integer_if_there {range} {o = Some value} right = spelled_integer range value right.fits

-- Numbers

pub units_within : (range : Range) (number : Option ℤ) → IsTrue (option_map_or (is_in_range range) number false) → IsIn range (unwrap_or number (pos 0))
units_within range None within = absurd (false≢true within)
units_within range (Some z) within = within

spelled_number : (range : Range) (value : Data) → IsTrue (is_number_in range value) → IsIn range (units_of value)
spelled_number range value spelled = units_within range (number_of value) spelled

pub number_there : {range : Range} {o : Option Data} → IsRightAt Required (Number range) o → IsIn range (option_map_or units_of o (pos 0))
number_there {range} {o = None} right = absurd (false≢true right.fits)
number_there {range} {o = Some value} right = spelled_number range value right.fits.spelled

-- the numbers of a list
pub numbers_spelled : (range : Range) (value : Data) → IsTrue (list_all (is_number_in range) (list_of value)) → All (IsIn range) (map units_of (list_of value))
numbers_spelled range value spelled =
    All-map (IsIn range) units_of (list_of value)
    (All-weaker (λ v. IsTrue (is_number_in range v)) (λ v. IsIn range (units_of v)) (λ v number. spelled_number range v number) (list_of value)
    (AllPass-from_list_all (is_number_in range) (list_of value) spelled))

pub numbers_there : {range : Range} {o : Option Data} {limit : Limit} → IsRightAt Required (Numbers limit range) o → All (IsIn range) (map units_of (option_map_or list_of o []))
numbers_there {range} {o = None} right = absurd (false≢true right.fits)
numbers_there {range} {o = Some value} right = numbers_spelled range value right.fits.spelled

-- Lists of names

name_list : {limit : Limit} (value : Data) → IsRight (Names limit) value → IsNameList (map text_of (list_of value))
name_list value right = record { each = All-map IsName text_of (list_of value) (AllPass-from_list_all is_name_text (list_of value) right.spelled); once = right.once }

pub names_there : {limit : Limit} {o : Option Data} → IsRightAt Required (Names limit) o → IsNameList (map text_of (option_map_or list_of o []))
names_there {o = None} right = absurd (false≢true right.fits)
names_there {o = Some value} right = name_list value right.fits

pub names_if : {limit : Limit} {o : Option Data} → IsRightAt Optional (Names limit) o → IfSome (option_map (λ value. map text_of (list_of value)) o) IsNameList
names_if {o = None} right = tt
names_if {o = Some value} right = name_list value right.fits

-- a list of names is no longer than its limit
long_names : (least most : ℕ) (items : List Data) → IsTrue (is_within (ItemsLimit least most) (length items)) → length (map text_of items) ≤ most
long_names least most items within =
    let both = and_parts (nat_le least (length items)) (nat_le (length items) most) within in
    simp length-map (leb-true (length items) most both.1)

pub few_names : {least most : ℕ} {o : Option Data} → IsRightAt Required (Names (ItemsLimit least most)) o → length (map text_of (option_map_or list_of o [])) ≤ most
few_names {least} {most} {o = None} right = absurd (false≢true right.fits)
few_names {least} {most} {o = Some value} right = long_names least most (list_of value) right.fits.long

-- Lists of tables

-- so many tables are under a key, whatever each of them means
long_list : {T : Type 0} (meaning : Members → T) {least most : ℕ} (items : List Data) → IsTrue (is_within (ItemsLimit least most) (length items))
    → (least ≤ length (map meaning (map members_of items))) × (length (map meaning (map members_of items)) ≤ most)
long_list meaning {least} {most} items within =
    let both = and_parts (nat_le least (length items)) (nat_le (length items) most) within in
    simp length-map (leb-true least (length items) both.0, leb-true (length items) most both.1)

pub within_limits : {T : Type 0} (meaning : Members → T) {kind : TableKind} {least most : ℕ} {o : Option Data} → IsRightAt Required (Tables kind (ItemsLimit least most)) o
    → (least ≤ length (map meaning (map members_of (option_map_or list_of o [])))) × (length (map meaning (map members_of (option_map_or list_of o []))) ≤ most)
within_limits meaning {kind} {least} {most} {o = None} right = absurd (false≢true right.fits)
within_limits meaning {kind} {least} {most} {o = Some value} right = long_list meaning (list_of value) right.fits.long

pub few : {T : Type 0} (meaning : Members → T) {kind : TableKind} {most : ℕ} {o : Option Data} → IsRightAt Optional (Tables kind (ItemsLimit 0 most)) o
    → length (map meaning (map members_of (option_map_or list_of o []))) ≤ most
few meaning {kind} {most} {o = None} right = zero-le
few meaning {kind} {most} {o = Some value} right = (long_list meaning {least = 0} (list_of value) right.fits.long).1
