-- How large weighted values and their sums can be, and the sum of one pair more.
use Rattle.std.proofs.Common.{◌≡◌, ℕ, ◌+◌, ◌*◌, ◌^◌, ◌<◌, ◌≤◌, List, [], ◌∷◌, length, get_or, take, fold, All, ℤ, pos, ◌+ℤ◌, unsigned_abs, arith, zero-add, length-take}
use mir.Syntax.{w128}
use mir.Val.{SFits}
use Rattle.std.proofs.lemmas.Int.{ints, unsigned_abs-mul, fits_signed_from_abs}
use Rattle.std.proofs.Math.Nat.{mul-le-mul, suc-mul}
use Rattle.std.proofs.lemmas.List.Sums.{fold_more}
use Rattle.std.proofs.lemmas.List.Elements.{All-head, All-tail, All-weaker, All-take}
use Rattle.fixed_num.specs.Numbers.{IsValue, IsRoundedQuotient}
use Rattle.line_solvers.specs.declared.case.Pair.{Pair}
use Rattle.line_solvers.specs.declared.case.RowParts.{RowParts}
use Rattle.line_solvers.specs.RowsStep.{weighted, weighted_sum}
use Rattle.line_solvers.specs.Sound.{IsPairOf, IsSoundRow}

unsigned_abs-add : (a b : ℤ) → unsigned_abs (a +ℤ b) ≤ unsigned_abs a + unsigned_abs b
unsigned_abs-add a b = omega (arith, ints)

pub weighted-le : (values : List ℤ) (pair : Pair) → IsPairOf (length values) pair → All IsValue values → unsigned_abs (weighted values pair) ≤ 10 ^ 22
weighted-le values pair sound all =
    rw (unsigned_abs-mul pair.number (get_or values (unsigned_abs pair.index) (pos 0)))
    (mul-le-mul {n₂ = 10 ^ 9} {m₂ = 10 ^ 13} sound.factor (all (unsigned_abs pair.index) (pos 0) sound.in_range))

-- one pair more adds its weighted value
pub weighted_sum-take_more : (pairs : List Pair) (values : List ℤ) (i : ℕ) (d : Pair) → i < length pairs
    → weighted_sum (take (i + 1) pairs) values ≡ weighted_sum (take i pairs) values +ℤ weighted values (get_or pairs i d)
unfolding weighted_sum
weighted_sum-take_more pairs values i d h = fold_more (λ so_far pair. so_far +ℤ weighted values pair) (pos 0) pairs i d h

sum_from-le : (pairs : List Pair) (values : List ℤ) (m : ℕ) (start : ℤ) → All (λ pair. unsigned_abs (weighted values pair) ≤ m) pairs
    → unsigned_abs (fold (λ so_far pair. so_far +ℤ weighted values pair) start pairs) ≤ unsigned_abs start + length pairs * m
sum_from-le [] values m start all = omega arith
sum_from-le (pair ∷ pairs) values m start all =
    let here : unsigned_abs (weighted values pair) ≤ m = All-head (λ (p : Pair). unsigned_abs (weighted values p) ≤ m) pair pairs all in
    let rest = sum_from-le pairs values m (start +ℤ weighted values pair) (All-tail (λ (p : Pair). unsigned_abs (weighted values p) ≤ m) pair pairs all) in
    omega (arith, rest, here, unsigned_abs-add start (weighted values pair), suc-mul (length pairs) m)

-- a sum of k weighted values is within k times the bound on each
pub weighted_sum-le : (pairs : List Pair) (values : List ℤ) → All (IsPairOf (length values)) pairs → All IsValue values
    → unsigned_abs (weighted_sum pairs values) ≤ length pairs * 10 ^ 22
unfolding weighted_sum
weighted_sum-le pairs values sound all =
    let bound = sum_from-le pairs values (10 ^ 22) (pos 0) (All-weaker (IsPairOf (length values)) (λ (pair : Pair). unsigned_abs (weighted values pair) ≤ 10 ^ 22) (λ pair here. weighted-le values pair here all) pairs sound) in
    rw zero-add at bound

-- the sum over a part of a row's pairs
pub weighted_sum-take-le : (pairs : List Pair) (values : List ℤ) (i : ℕ) → length pairs ≤ 64 → All (IsPairOf (length values)) pairs → All IsValue values
    → unsigned_abs (weighted_sum (take i pairs) values) ≤ 64 * 10 ^ 22
weighted_sum-take-le pairs values i few sound all =
    let bound = weighted_sum-le (take i pairs) values (All-take (IsPairOf (length values)) i pairs sound) all in
    omega (arith, bound, length-take i pairs)

-- the sum over a row's pairs
pub weighted_sum-row-le : (pairs : List Pair) (values : List ℤ) → length pairs ≤ 64 → All (IsPairOf (length values)) pairs → All IsValue values
    → unsigned_abs (weighted_sum pairs values) ≤ 64 * 10 ^ 22
weighted_sum-row-le pairs values few sound all = omega (arith, weighted_sum-le pairs values sound all)

-- both sums of a row
pub total-le : (inputs state : List ℤ) (row : RowParts) → IsSoundRow (length state) (length inputs) row → All IsValue state → All IsValue inputs
    → unsigned_abs (weighted_sum row.states state +ℤ weighted_sum row.reads inputs) ≤ 128 * 10 ^ 22
total-le inputs state row sound values reads =
    omega (
      arith,
      weighted_sum-row-le row.states state sound.few_states sound.states values,
      weighted_sum-row-le row.reads inputs sound.few_reads sound.reads reads,
      unsigned_abs-add (weighted_sum row.states state) (weighted_sum row.reads inputs),
    )

-- a sum fits where the magnitudes of its parts are small
pub sum_fits : (a b : ℤ) (m n : ℕ) → unsigned_abs a ≤ m → unsigned_abs b ≤ n → m + n < 2 ^ 127 → SFits w128 (a +ℤ b)
sum_fits a b m n left right small = fits_signed_from_abs w128 (a +ℤ b) (omega (arith, unsigned_abs-add a b))

pub small_fits : (a : ℤ) (m : ℕ) → unsigned_abs a ≤ m → m < 2 ^ 127 → SFits w128 a
small_fits a m bound small = fits_signed_from_abs w128 a (omega arith)

-- a quotient by a million, by its relation, is no larger than the dividend and one
pub quotient-le : (a n : ℤ) → IsRoundedQuotient a (10 ^ 6) n → unsigned_abs n ≤ unsigned_abs a + 1
quotient-le a n rounded = let near = rounded.near in omega (arith, ints, near)
