-- Values, coordinates, factors and the rounded quotient. The project's own: the coupling documentation has floating point.
use Rattle.std.specs.Prelude.{◌≡◌, ℕ, ◌+◌, ◌*◌, ◌/◌, ◌%◌, ◌^◌, ◌≤◌, Bool, ℤ, pos, negsuc, neg_ℤ, ◌-ℤ◌, ◌*ℤ◌, unsigned_abs, nat_lt, nat_le, if◌then◌else◌, suc}

-- a Value is a whole number of units within 10^13
abbrev pub IsValue : ℤ → Type 0
IsValue units = unsigned_abs units ≤ 10 ^ 13

-- whether a number of units is a Value
abbrev pub is_value : ℤ → Bool
is_value units = nat_le (unsigned_abs units) (10 ^ 13)

-- a coordinate is a whole number of units within 10^12
abbrev pub IsCoordinate : ℤ → Type 0
IsCoordinate units = unsigned_abs units ≤ 10 ^ 12

-- a Factor is a whole number of units within 10^9
abbrev pub IsFactor : ℤ → Type 0
IsFactor units = unsigned_abs units ≤ 10 ^ 9

-- how far a is from n times b
abbrev pub distance : ℤ → ℕ → ℤ → ℕ
distance a b n = unsigned_abs (a -ℤ (n *ℤ pos b))

-- n is the whole number nearest to a/b, and the even one where a/b lies midway between two
pub record IsRoundedQuotient (a : ℤ) (b : ℕ) (n : ℤ) : Type 0 where
  pub near : 2 * distance a b n ≤ b
  pub even_midway : 2 * distance a b n ≡ b → unsigned_abs n % 2 ≡ 0

-- that number, of naturals: the whole part, one more past the middle, and the even of the two at it
unfoldable pub nearest_of : ℕ → ℕ → ℕ
nearest_of a b =
    let whole = a / b in
    let twice = 2 * (a % b) in
    if nat_lt twice b then whole else if nat_lt b twice then whole + 1 else whole + whole % 2

-- q(a, b): that number; a negative a has the opposite of its magnitude's
unfoldable pub quotient : ℤ → ℕ → ℤ
quotient (pos a) b = pos (nearest_of a b)
quotient (negsuc a) b = neg_ℤ (pos (nearest_of (suc a) b))
