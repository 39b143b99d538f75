-- Looking through a list from its front on.
use Rattle.std.proofs.Common.{◌≡◌, ap, ◌∙◌, ℕ, zero, suc, ◌+◌, ◌-◌, ◌<◌, List, [], ◌∷◌, ◌++◌, length, arith}
use Rattle.std.specs.Prelude.{slice_get, Some}
use Rattle.std.specs.List.{range_with_len}
use Rattle.cpl_plan.specs.Looks.{IsLook}
use Rattle.cpl_plan.specs.declared.needs.Look.{Look}
use Rattle.cpl_plan.specs.declared.needs.Look.TheVariants.{Here, Past}

-- one place further on
pub look-next : {X : Type 0} (x : X) (xs : List X) (place : ℕ) (found : Look X) → IsLook xs place found → IsLook (x ∷ xs) (suc place) found
look-next x xs place (Here y) is = is
look-next x xs place (Past rest) is = omega (arith, is)

-- what is found in the first of two lists
pub slice_get-here : {X : Type 0} (xs ys : List X) (place : ℕ) (x : X) → slice_get xs place ≡ Some x → slice_get (xs ++ ys) place ≡ Some x
slice_get-here [] ys place x is = grind (arith, is)
slice_get-here (y ∷ xs) ys zero x is = is
slice_get-here (y ∷ xs) ys (suc place) x is = slice_get-here xs ys place x is

-- what is past the first of two lists
pub slice_get-past : {X : Type 0} (xs ys : List X) (rest : ℕ) → slice_get (xs ++ ys) (length xs + rest) ≡ slice_get ys rest
slice_get-past [] ys rest = ap (slice_get ys) {x = 0 + rest} {y = rest} (omega (arith))
slice_get-past (x ∷ xs) ys rest =
    ap (slice_get (x ∷ xs ++ ys)) {y = suc (length xs + rest)} (omega (arith)) ∙ slice_get-past xs ys rest

-- the numbers from one on are it and those after it
pub range-next : (from to : ℕ) → from < to → range_with_len from (to - from) ≡ from ∷ range_with_len (from + 1) (to - (from + 1))
range-next from to below = ap (range_with_len from) {y = suc (to - (from + 1))} (omega (arith, below))
