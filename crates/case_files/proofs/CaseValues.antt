-- From the tests on the value of a key to what the field of a case then is, one lemma a shape.
use Rattle.std.proofs.Common.{◌≡◌, ◌≤◌, ◌^◌, ℕ, List, [], map, length, pos, All, IfSome, IsTrue, Option, Some, None, option_map, unwrap_or, leb-true, nat_le, zero-le}
use Rattle.std.specs.Option.{option_map_or}
use Rattle.std.proofs.lemmas.Bool.{and_parts}
use Rattle.std.proofs.lemmas.List.Elements.{All-map, All-weaker, All-nil}
use Rattle.std.proofs.lemmas.List.{length-map}
use Rattle.std.proofs.lemmas.List.Sums.{AllPass-from_list_all}
use Rattle.toml.specs.Data.{Data}
use Rattle.cpl_tables.specs.declared.shapes.Range.{Range}
use Rattle.cpl_tables.specs.declared.shapes.Range.TheVariants.{Within}
use Rattle.cpl_tables.specs.declared.shapes.Limit.TheVariants.{Items as ItemsLimit}
use Rattle.cpl_tables.specs.declared.shapes.Presence.TheVariants.{Optional}
use Rattle.cpl_tables.specs.declared.shapes.Shape.TheVariants.{Number, Numbers, Points, Pairs}
use Rattle.cpl_tables.specs.Values.{list_of, number_of_pair, is_within, is_point_in, is_pair_in}
use Rattle.cpl_config.specs.TreeValues.{units_of}
use Rattle.cpl_config.specs.SoundConfig.{IsIn}
use Rattle.cpl_config.proofs.SoundValues.{IsRightAt, number_there, numbers_spelled, units_within}
use Rattle.line_solvers.specs.declared.case.Pair.{Pair}
use Rattle.case_files.specs.CaseOf.{units_list_of, points_of, pair_of}
use Rattle.case_files.specs.SoundCase.{IsCoefficient, IsCoordinateUnits, IsStateList, IsPointList}

-- Numbers that may be left out

pub number_or_zero : {range : Range} {o : Option Data} → IsIn range (pos 0) → IsRightAt Optional (Number range) o → IsIn range (option_map_or units_of o (pos 0))
number_or_zero {range} {o = None} zero right = zero
number_or_zero {range} {o = Some value} zero right = number_there {o = Some value} (record { fits = right.fits })

pub number_if : {range : Range} {o : Option Data} → IsRightAt Optional (Number range) o → IfSome (option_map units_of o) (IsIn range)
number_if {range} {o = None} right = tt
number_if {range} {o = Some value} right = number_there {o = Some value} (record { fits = right.fits })

-- a number that is left out is zero
pub zero_where_absent : (range : Range) {o : Option Data} → IsIn range (pos 0) → o ≡ None → IsIn range (option_map_or units_of o (pos 0))
zero_where_absent range {o = None} zero absent = zero
zero_where_absent range {o = Some value} zero absent = absurd (cc)

-- Lists

-- what the items of a list mean is as many things as there are items
meant_within : {T : Type 0} (meaning : Data → T) {least most : ℕ} (items : List Data) → IsTrue (is_within (ItemsLimit least most) (length items))
    → (least ≤ length (map meaning items)) × (length (map meaning items) ≤ most)
meant_within meaning {least} {most} items within =
    let both = and_parts (nat_le least (length items)) (nat_le (length items) most) within in
    simp length-map (leb-true least (length items) both.0, leb-true (length items) most both.1)

pub state_if : {o : Option Data} → IsRightAt Optional (Numbers (ItemsLimit 1 60000) (Within (10 ^ 13))) o → IfSome (option_map units_list_of o) IsStateList
state_if {o = None} right = tt
state_if {o = Some value} right =
    let long = meant_within units_of {least = 1} {most = 60000} (list_of value) right.fits.long in
    record { some_value = long.0; not_long = long.1; values = numbers_spelled (Within (10 ^ 13)) value right.fits.spelled }

pub points_if : {o : Option Data} → IsRightAt Optional (Points (ItemsLimit 0 10000) (Within (10 ^ 12))) o → IfSome (option_map points_of o) IsPointList
points_if {o = None} right = tt
points_if {o = Some value} right =
    record {
      few = (meant_within units_list_of {least = 0} {most = 10000} (list_of value) right.fits.long).1;
      coordinates = All-map (All IsCoordinateUnits) units_list_of (list_of value)
          (All-weaker (λ v. IsTrue (is_point_in (Within (10 ^ 12)) v)) (λ v. All IsCoordinateUnits (units_list_of v)) (λ v point. numbers_spelled (Within (10 ^ 12)) v point) (list_of value)
          (AllPass-from_list_all (is_point_in (Within (10 ^ 12))) (list_of value) right.fits.spelled));
    }

pair_spelled : (value : Data) → IsTrue (is_pair_in (Within (10 ^ 9)) value) → IsCoefficient (unwrap_or (number_of_pair value) (pos 0))
pair_spelled value spelled = units_within (Within (10 ^ 9)) (number_of_pair value) spelled

-- few pairs, each with a coefficient
pub record ArePairs (pairs : List Pair) : Type 0 where
  pub few : length pairs ≤ 64
  pub numbers : All (λ pair. IsCoefficient pair.number) pairs

pub pairs_there : {o : Option Data} → IsRightAt Optional (Pairs (ItemsLimit 0 64) (Within (10 ^ 9))) o → ArePairs (map pair_of (option_map_or list_of o []))
pairs_there {o = None} right = record { few = zero-le; numbers = All-nil (λ pair. IsCoefficient pair.number) }
pairs_there {o = Some value} right =
    record {
      few = (meant_within pair_of {least = 0} {most = 64} (list_of value) right.fits.long).1;
      numbers = All-map (λ pair. IsCoefficient pair.number) pair_of (list_of value)
          (All-weaker (λ v. IsTrue (is_pair_in (Within (10 ^ 9)) v)) (λ v. IsCoefficient (unwrap_or (number_of_pair v) (pos 0))) pair_spelled (list_of value)
          (AllPass-from_list_all (is_pair_in (Within (10 ^ 9))) (list_of value) right.fits.spelled));
    }
