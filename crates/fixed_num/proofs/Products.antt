-- The sum of products of pairs, as a loop over both lists carries it on.
use Rattle.std.proofs.Common.{◌≡◌, ◌+◌, ◌*◌, ◌^◌, ◌≤◌, All, length, fold, ℤ, ◌+ℤ◌, ◌*ℤ◌, unsigned_abs, List, ◌∷◌, arith}
use Rattle.std.specs.List.{zip}
use Rattle.std.proofs.lemmas.Int.{ints}
use Rattle.std.proofs.lemmas.List.Elements.{All-tail}
use Rattle.fixed_num.specs.Norm.{product_sum}

-- how large an entry may be
abbrev pub IsEntry : ℤ → Type 0
IsEntry x = unsigned_abs x ≤ 4 * 10 ^ 13

-- the sum so far, carried on over the pairs that are left, is the whole; there is room for their products
pub record Carries (xs ys a b : List ℤ) (sum : ℤ) : Type 0 where
  pub alike : length xs ≡ length ys
  pub first : All IsEntry xs
  pub second : All IsEntry ys
  pub whole : fold (λ (so_far : ℤ) (pair : ℤ × ℤ). so_far +ℤ pair.0 *ℤ pair.1) sum (zip xs ys) ≡ product_sum a b
  pub room : unsigned_abs sum + length xs * (16 * 10 ^ 26) ≤ 200000 * (16 * 10 ^ 26)

unsigned_abs-add : (a b : ℤ) → unsigned_abs (a +ℤ b) ≤ unsigned_abs a + unsigned_abs b
unsigned_abs-add a b = omega (arith, ints)

-- one pair further
pub Carries-next : (x y : ℤ) (xs ys a b : List ℤ) (sum product : ℤ) → product ≡ x *ℤ y → unsigned_abs product ≤ 16 * 10 ^ 26
    → Carries (x ∷ xs) (y ∷ ys) a b sum → Carries xs ys a b (sum +ℤ product)
Carries-next x y xs ys a b sum product is small before =
    record {
      alike = omega (arith, before.alike);
      first = All-tail IsEntry x xs before.first;
      second = All-tail IsEntry y ys before.second;
      whole = rw is before.whole;
      room = omega (arith, before.room, unsigned_abs-add sum product);
    }

pub Carries-sum : (xs ys a b : List ℤ) (s t : ℤ) → s ≡ t → Carries xs ys a b t → Carries xs ys a b s
Carries-sum xs ys a b s t e known = rw e known
