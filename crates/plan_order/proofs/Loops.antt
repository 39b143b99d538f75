-- Among nodes of which each has one before it a walk comes back to where it began.
use Rattle.std.proofs.Common.{◌≡◌, ℕ, zero, suc, ◌<◌, ◌≤◌, ◌⊎◌, inl, inr, length, get_or, List, [], ◌∷◌, refl, ap, sym, subst, ◌∙◌, arith, Contains}
use Rattle.std.specs.List.{remove}
use Rattle.std.proofs.lemmas.List.Edits.{length-remove, get_or-remove_below, get_or-remove_above}
use Rattle.plan_order.specs.NodeOrder.{StandsBefore}
use Rattle.plan_order.specs.Cycle.{Leads, HasCycle}

pub head_in : {X : Type 0} (x : X) (xs : List X) → Contains (x ∷ xs) x
head_in x xs = (0, omega arith, refl)

pub tail_in : {X : Type 0} (y : X) (xs : List X) (x : X) → Contains xs x → Contains (y ∷ xs) x
tail_in y xs x inside = (suc inside.0, omega (arith, inside.1), inside.2)

pub in_cons : {X : Type 0} (y : X) (xs : List X) (x : X) → Contains (y ∷ xs) x → (y ≡ x) ⊎ Contains xs x
in_cons y xs x (zero, below, is) = inl is
in_cons y xs x (suc k, below, is) = inr (k, omega (arith, below), is)

pub below_or_more : (j k : ℕ) → (j < k) ⊎ ((j ≡ k) ⊎ (k < j))
below_or_more zero zero = inr (inl refl)
below_or_more zero (suc k) = inl (omega arith)
below_or_more (suc j) zero = inr (inr (omega arith))
below_or_more (suc j) (suc k) =
    elim (below_or_more j k) [
      | inl below ↦ inl (omega arith)
      | inr (inl same) ↦ inr (inl (ap suc same))
      | inr (inr above) ↦ inr (inr (omega arith))
    ]

pub agrees : {X : Type 0} (xs : List X) (k : ℕ) (y z : X) → k < length xs → get_or xs k y ≡ get_or xs k z
agrees [] k y z within = absurd (omega arith)
agrees (x ∷ xs) zero y z within = refl
agrees (x ∷ xs) (suc k) y z within = agrees xs k y z (omega arith)

above : {X : Type 0} (xs : List X) (k j : ℕ) (y : X) → k < length xs → k < j → j < length xs → get_or xs j y ≡ y → Contains (remove xs k) y
above xs k zero y within more below is = absurd (omega arith)
above xs k (suc j) y within more below is =
    (j, omega (arith, length-remove xs k within), get_or-remove_above xs k y j (omega arith) within ∙ (ap (λ i. get_or xs i y) (omega arith) ∙ is))

-- what is in a list is the element that is taken out, or is still in it
pub in_remove : {X : Type 0} (xs : List X) (k : ℕ) (z : X) → k < length xs → get_or xs k z ≡ z → (y : X) → Contains xs y → Contains (remove xs k) y ⊎ (y ≡ z)
in_remove xs k z within at y (j, below, is) =
    elim (below_or_more j k) [
      | inl less ↦ inl (j, omega (arith, length-remove xs k within), get_or-remove_below xs k y j less within ∙ is)
      | inr (inl same) ↦ inr (sym is ∙ (ap (λ i. get_or xs i y) same ∙ (agrees xs k y z within ∙ at)))
      | inr (inr more) ↦ inl (above xs k j y within more below is)
    ]

module _ {N : Type 0} (members : N → List ℕ) (pairs : List (ℕ × ℕ)) where
  -- a walk from x to each of these
  Reaches : N → List N → Type 0
  Reaches x seen = (y : N) → Contains seen y → (between : List N) × Leads members pairs x between y

  reaches_from : (z x : N) (seen : List N) → StandsBefore members pairs z x → Reaches x seen → Reaches z (x ∷ seen)
  unfolding Reaches
  reaches_from z x seen stands reached y inside =
      elim (in_cons x seen y inside) [
        | inl same ↦ ([], subst (λ (w : N). StandsBefore members pairs z w) same stands)
        | inr old ↦ (x ∷ (reached y old).0, (stands, (reached y old).1))
      ]

  meets : (z x : N) (seen : List N) → StandsBefore members pairs z x → Reaches x seen → Contains seen z ⊎ (z ≡ x) → HasCycle members pairs
  unfolding Reaches
  meets z x seen stands reached (inl old) = record { start = z; between = x ∷ (reached z old).0; walk = (stands, (reached z old).1) }
  meets z x seen stands reached (inr same) = record { start = x; between = []; walk = subst (λ (w : N). StandsBefore members pairs w x) same stands }

  -- one that is kept is still to come, has been seen, or is where the walk stands
  Covers : (N → Type 0) → List N → List N → N → Type 0
  Covers Kept rest seen x = (y : N) → Kept y → Contains rest y ⊎ (Contains seen y ⊎ (y ≡ x))

  covers_more : (Kept : N → Type 0) (rest seen : List N) (x z : N) (fresh : Contains rest z) → Covers Kept rest seen x → Covers Kept (remove rest fresh.0) (x ∷ seen) z
  unfolding Covers
  covers_more Kept rest seen x z fresh cover y kept =
      elim (cover y kept) [
        | inl inside ↦ elim (in_remove rest fresh.0 z fresh.1 fresh.2 y inside) [
          | inl still ↦ inl still
          | inr same ↦ inr (inr same)
        ]
        | inr (inl old) ↦ inr (inl (tail_in x seen y old))
        | inr (inr same) ↦ inr (inl (subst (λ (w : N). Contains (x ∷ seen) w) (sym same) (head_in x seen)))
      ]

  -- a walk back from x, each step to one that is kept; `rest` are still to come, and as many steps are enough
  walk_back : (Kept : N → Type 0) → ((y : N) → Kept y → (x : N) × StandsBefore members pairs x y × Kept x)
      → (n : ℕ) (rest seen : List N) (x : N) → length rest ≤ n → Kept x → Covers Kept rest seen x → Reaches x seen → HasCycle members pairs
  unfolding Covers
  walk_back Kept before zero rest seen x few kept cover reached =
      let step = before x kept in
      elim (cover step.0 step.2) [
        | inl fresh ↦ absurd (omega (arith, fresh.1))
        | inr met ↦ meets step.0 x seen step.1 reached met
      ]
  walk_back Kept before (suc n) rest seen x few kept cover reached =
      let step = before x kept in
      elim (cover step.0 step.2) [
        | inl fresh ↦ walk_back Kept before n (remove rest fresh.0) (x ∷ seen) step.0 (omega (arith, length-remove rest fresh.0 fresh.1)) step.2
            (covers_more Kept rest seen x step.0 fresh cover) (reaches_from step.0 x seen step.1 reached)
        | inr met ↦ meets step.0 x seen step.1 reached met
      ]

  -- where each of some nodes has one of them before it, there is a cycle
  pub cycle_among : (Kept : N → Type 0) (nodes : List N) → ((y : N) → Kept y → Contains nodes y)
      → ((y : N) → Kept y → (x : N) × StandsBefore members pairs x y × Kept x) → (x : N) → Kept x → HasCycle members pairs
  unfolding Covers Reaches
  cycle_among Kept nodes inside before x kept =
      walk_back Kept before (length nodes) nodes [] x (omega arith) kept (λ y k. inl (inside y k)) (λ y none. absurd (omega (arith, none.1)))
