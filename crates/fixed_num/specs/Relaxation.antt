-- A step from one value towards another, and Aitken's factor. From the coupling documentation's relaxation and Aitken's method; the rounding and the limits are the project's own.
use Rattle.std.specs.Prelude.{ℕ, ◌^◌, ℤ, pos, neg_ℤ, ◌+ℤ◌, ◌-ℤ◌, ◌*ℤ◌}
use Rattle.std.specs.Int.{int_max, int_min}
use Rattle.fixed_num.specs.Numbers.{quotient}

-- x and w times the way from x to y, rounded
abbrev pub relaxed : (x y w : ℤ) → ℤ
relaxed x y w = x +ℤ quotient (w *ℤ (y -ℤ x)) (10 ^ 6)

-- the number nearest to a within the limit
abbrev pub within : ℕ → ℤ → ℤ
within limit a = int_max (neg_ℤ (pos limit)) (int_min a (pos limit))

-- dot / square in units, within 10^12
abbrev pub projection : ℤ → ℕ → ℤ
projection dot square = within (10 ^ 12) (quotient (dot *ℤ pos (10 ^ 6)) square)

-- the next factor: minus the last one times the projection, within the Factors
abbrev pub aitken_factor : (w dot : ℤ) (square : ℕ) → ℤ
aitken_factor w dot square = within (10 ^ 9) (neg_ℤ (quotient (w *ℤ projection dot square) (10 ^ 6)))
