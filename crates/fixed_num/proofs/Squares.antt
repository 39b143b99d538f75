-- The sum of squares of differences, as a loop over both lists carries it on.
use Rattle.std.proofs.Common.{◌≡◌, ℕ, ◌+◌, ◌*◌, ◌^◌, ◌≤◌, All, length, fold, sum_by, List, ◌∷◌, arith}
use Rattle.std.specs.List.{zip}
use Rattle.std.proofs.lemmas.List.Elements.{All-tail}

-- the sum so far, carried on over the pairs that are left, is the whole; there is room for their squares
pub record CarriesSquares {X : Type 0} (IsSmall : X → Type 0) (square_of : X × X → ℕ) (xs ys a b : List X) (sum : ℕ) : Type 0 where
  pub alike : length xs ≡ length ys
  pub first : All IsSmall xs
  pub second : All IsSmall ys
  pub whole : fold (λ (so_far : ℕ) (pair : X × X). so_far + square_of pair) sum (zip xs ys) ≡ sum_by square_of (zip a b)
  pub room : sum + length xs * (64 * 10 ^ 26) ≤ 30000 * (64 * 10 ^ 26)

-- one pair further
pub CarriesSquares-next : {X : Type 0} (IsSmall : X → Type 0) (square_of : X × X → ℕ) (x y : X) (xs ys a b : List X) (sum square : ℕ)
    → square ≡ square_of (x, y) → square ≤ 64 * 10 ^ 26
    → CarriesSquares IsSmall square_of (x ∷ xs) (y ∷ ys) a b sum → CarriesSquares IsSmall square_of xs ys a b (sum + square)
CarriesSquares-next IsSmall square_of x y xs ys a b sum square is small before =
    record {
      alike = omega (arith, before.alike);
      first = All-tail IsSmall x xs before.first;
      second = All-tail IsSmall y ys before.second;
      whole = rw is before.whole;
      room = omega (arith, before.room);
    }
