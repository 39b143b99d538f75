-- The cells within reach of a coordinate.
use Rattle.std.proofs.Common.{◌≡◌, ℕ, zero, suc, ◌+◌, ◌-◌, ◌*◌, ◌/◌, ◌<◌, ◌≤◌, min, Bool, true, false, cond, ltb, leb, ◌⊎◌, ℤ, pos, negsuc, ◌-ℤ◌, unsigned_abs, refl, inl, inr, arith}
use Rattle.std.proofs.lemmas.Bool.{le-leb, ltb-true, ltb-false, lt-ltb, cases_Bool, cases_lt, le-ltb}
use Rattle.std.proofs.lemmas.Int.{ints}
use Rattle.grid_index.specs.Block.{floor_quotient, are_beside}
use Rattle.grid_index.specs.Boxes.{span_at, IsSpan}
use Rattle.grid_index.proofs.Quotients.{div-le, div-step, div-none}

-- where the coordinate lies too far before the cells there is none, and else there are those up to an end
end_at : (c w reach short : ℕ) → (reach ≤ short) × ((span_at c w reach (negsuc short)).end ≡ 0) ⊎ (short < reach) × ((span_at c w reach (negsuc short)).end ≡ min ((reach - suc short) / w + 1) c)
end_at c w reach short =
    elim (cases_lt short reach) [
      | inl near ↦ inr (near, rw (lt-ltb short reach near))
      | inr far ↦ inl (far, rw (le-ltb short reach far))
    ]

pub span_at-IsSpan : (c w reach : ℕ) (o : ℤ) → 0 < w → IsSpan c (span_at c w reach o)
span_at-IsSpan c w reach (pos past) some =
    let rising = div-le (past - reach) (past + reach) w some (omega arith) in
    record { ordered = omega (arith, rising); within = omega arith }
span_at-IsSpan c w reach (negsuc short) some =
    elim (end_at c w reach short) [
      | inl far ↦ record { ordered = omega arith; within = omega (arith, far.1) }
      | inr near ↦ record { ordered = omega arith; within = omega (arith, near.1) }
    ]

-- a greater reach has the cells of a smaller one
pub record Encloses (c w reach farther : ℕ) (o : ℤ) : Type 0 where
  pub first : (span_at c w farther o).first ≤ (span_at c w reach o).first
  pub last : (span_at c w reach o).end ≤ (span_at c w farther o).end

pub span_at-Encloses : (c w reach farther : ℕ) (o : ℤ) → 0 < w → reach ≤ farther → Encloses c w reach farther o
span_at-Encloses c w reach farther (pos past) some more =
    let low = div-le (past - farther) (past - reach) w some (omega arith) in
    let high = div-le (past + reach) (past + farther) w some (omega arith) in
    record { first = omega (arith, low); last = omega (arith, high) }
span_at-Encloses c w reach farther (negsuc short) some more =
    elim (end_at c w reach short) [
      | inl far ↦ record { first = omega arith; last = omega (arith, far.1) }
      | inr near ↦ elim (end_at c w farther short) [
        | inl far ↦ absurd (omega (arith, near.0, far.0))
        | inr nearer ↦
            let high = div-le (reach - suc short) (farther - suc short) w some (omega (arith, near.0, nearer.0)) in
            record { first = omega arith; last = omega (arith, near.1, nearer.1, high) }
      ]
    ]

-- the cell of what is within reach is among them
pub record Covers (c w reach : ℕ) (o : ℤ) (m : ℕ) : Type 0 where
  pub first : (span_at c w reach o).first ≤ m / w
  pub last : m / w < (span_at c w reach o).end

pub span_at-Covers : (c w reach : ℕ) (o : ℤ) (m : ℕ) → 0 < w → m / w < c → unsigned_abs (o -ℤ pos m) ≤ reach → Covers c w reach o m
span_at-Covers c w reach (pos past) m some inside near =
    let low = div-le (past - reach) m w some (omega (arith, ints)) in
    let high = div-le m (past + reach) w some (omega (arith, ints)) in
    record { first = omega (arith, low); last = omega (arith, high) }
span_at-Covers c w reach (negsuc short) m some inside near =
    let sum : m + suc short ≤ reach = omega (arith, ints) in
    elim (end_at c w reach short) [
      | inl far ↦ absurd (omega (arith, far.0))
      | inr nearer ↦
          let high = div-le m (reach - suc short) w some (omega arith) in
          record { first = omega arith; last = omega (arith, nearer.1, high) }
    ]

-- where the reach is no more than a width, there are at most three, each of them beside the coordinate's own
pub span_at-few : (c w reach : ℕ) (o : ℤ) → 0 < w → reach ≤ w → (span_at c w reach o).end ≤ (span_at c w reach o).first + 3
span_at-few c w reach (pos past) some small =
    let low = div-step past (past - reach) w some (omega arith) in
    let high = div-step (past + reach) past w some (omega arith) in
    omega (arith, low, high)
span_at-few c w reach (negsuc short) some small =
    elim (end_at c w reach short) [
      | inl far ↦ omega (arith, far.1)
      | inr near ↦ omega (arith, near.1, div-none (reach - suc short) w (omega (arith, near.0)))
    ]

pub span_at-beside : (c w reach : ℕ) (o : ℤ) (d : ℕ) → 0 < w → reach ≤ w → (span_at c w reach o).first ≤ d → d < (span_at c w reach o).end
    → are_beside (floor_quotient o w) (pos d) ≡ true
span_at-beside c w reach (pos past) d some small low high =
    let down = div-step past (past - reach) w some (omega arith) in
    let up = div-step (past + reach) past w some (omega arith) in
    let d_high : d ≤ (past + reach) / w = omega arith in
    let d_low : (past - reach) / w ≤ d = omega arith in
    le-leb _ 1 (omega (arith, ints, down, up, d_high, d_low))
span_at-beside c w reach (negsuc short) d some small low high =
    elim (end_at c w reach short) [
      | inl far ↦ absurd (omega (arith, far.1))
      | inr near ↦
          let none = div-none (reach - suc short) w (omega (arith, near.0)) in
          let own = div-none short w (omega (arith, near.0)) in
          let first : d ≡ 0 = omega (arith, near.1, none) in
          le-leb _ 1 (omega (arith, ints, first, own))
    ]
