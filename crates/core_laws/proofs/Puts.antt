-- One participant stands otherwise: what the others are, and two of them in either order.
use Rattle.std.proofs.Common.{◌≡◌, ℕ, inl, inr, refl, sym, ◌∙◌}
use Rattle.coupled_loop.specs.Numbered.{put}
use Rattle.std.proofs.Math.Path.{fun_ext}
use Rattle.std.proofs.lemmas.Bool.{eq-eqb, ne_eqb, cases_eq}

module _ {X : Type 0} where
  pub put_same : (state : ℕ → X) (part : ℕ) (side : X) → put state part side part ≡ side
  put_same state part side = rw (eq-eqb part part refl) refl

  pub put_other : (state : ℕ → X) (part : ℕ) (side : X) (other : ℕ) → ¬ (other ≡ part) → put state part side other ≡ state other
  put_other state part side other apart = rw (ne_eqb other part apart) refl

  -- the later one counts
  pub put_twice : (state : ℕ → X) (part : ℕ) (first later : X) → put (put state part first) part later ≡ put state part later
  put_twice state part first later = fun_ext (λ one. elim (cases_eq one part) [
    | inl e ↦ rw (eq-eqb one part e) refl
    | inr apart ↦ rw (ne_eqb one part apart) refl
  ])

  -- what is there already
  pub put_there : (state : ℕ → X) (part : ℕ) (side : X) → state part ≡ side → put state part side ≡ state
  put_there state part side is = fun_ext (λ one. elim (cases_eq one part) [
    | inl e ↦ rw e (put_same state part side ∙ sym is)
    | inr apart ↦ put_other state part side one apart
  ])

  pub put_swapped : (state : ℕ → X) (part other : ℕ) (side beside : X) → ¬ (other ≡ part)
      → put (put state part side) other beside ≡ put (put state other beside) part side
  put_swapped state part other side beside apart = fun_ext (λ one. elim (cases_eq one part) [
    | inl e ↦ rw (e, ne_eqb part other (λ same. apart (sym same)), eq-eqb part part refl) refl
    | inr off ↦ rw (ne_eqb one part off) refl
  ])

-- a part of each is put as the whole is
pub put_mapped : {X Y : Type 0} (part_of : X → Y) (state : ℕ → X) (part : ℕ) (side : X)
    → (λ (one : ℕ). part_of (put state part side one)) ≡ put (λ one. part_of (state one)) part (part_of side)
put_mapped part_of state part side = fun_ext (λ one. elim (cases_eq one part) [
  | inl e ↦ rw (eq-eqb one part e) refl
  | inr apart ↦ rw (ne_eqb one part apart) refl
])
