-- How many edges lead to a number from those that are not placed, while they are placed one by one.
use Rattle.std.proofs.Common.{◌≡◌, ℕ, zero, suc, ◌+◌, ◌<◌, ◌≤◌, ◌⊎◌, inl, inr, get_or, Bool, true, false, not, ◌&&◌, ◌||◌, cond, List, [], ◌∷◌, ◌++◌, refl, ap, sym, subst, ◌∙◌, arith, Contains, count_by, eqb}
use Rattle.std.specs.List.{list_any}
use Rattle.std.proofs.lemmas.Bool.{eqb-true, eq-eqb, cases_Bool, and_parts, and_from, false≢true}
use Rattle.std.proofs.lemmas.List.Sums.{sum_by-cons, get_or-le-sum_by}
use Rattle.plan_order.specs.Edges.{edges_to, edges_between}
use Rattle.plan_order.proofs.Loops.{head_in, tail_in, in_cons}

-- whether a number is in a list
abbrev pub is_in : List ℕ → ℕ → Bool
is_in xs x = list_any (λ other. eqb other x) xs

pub in_from_is_in : (xs : List ℕ) (x : ℕ) → is_in xs x ≡ true → Contains xs x
in_from_is_in [] x is = absurd (false≢true is)
in_from_is_in (y ∷ xs) x is =
    elim (cases_Bool (eqb y x)) [
      | inl same ↦ subst (λ (z : ℕ). Contains (z ∷ xs) x) (sym (eqb-true y x same)) (head_in x xs)
      | inr other ↦ tail_in y xs x (in_from_is_in xs x (ap (λ b. b || is_in xs x) (sym other) ∙ is))
    ]

pub is_in_from_in : (xs : List ℕ) (x : ℕ) → Contains xs x → is_in xs x ≡ true
is_in_from_in [] x inside = absurd (omega (arith, inside.1))
is_in_from_in (y ∷ xs) x inside =
    elim (in_cons y xs x inside) [
      | inl same ↦ ap (λ b. b || is_in xs x) (eq-eqb y x same)
      | inr rest ↦ elim (cases_Bool (eqb y x)) [
        | inl holds ↦ ap (λ b. b || is_in xs x) holds
        | inr fails ↦ ap (λ b. b || is_in xs x) fails ∙ is_in_from_in xs x rest
      ]
    ]

counts : (b : Bool) → b ≡ true → 1 ≤ cond b 1 0
counts true is = omega arith
counts false is = absurd (false≢true is)

skips : (b : Bool) → b ≡ false → cond b 1 0 ≤ 0
skips true is = absurd (false≢true (sym is))
skips false is = omega arith

-- what is counted is there, and what is there is counted
pub counted : {X : Type 0} (p : X → Bool) (xs : List X) (x : X) → Contains xs x → p x ≡ true → 0 < count_by p xs
counted p xs x inside passes =
    let one : 1 ≤ cond (p (get_or xs inside.0 x)) 1 0 = counts (p (get_or xs inside.0 x)) (ap p inside.2 ∙ passes) in
    omega (arith, one, get_or-le-sum_by (λ z. cond (p z) 1 0) xs inside.0 x inside.1)

pub found : {X : Type 0} (p : X → Bool) (xs : List X) → 0 < count_by p xs → (x : X) × Contains xs x × (p x ≡ true)
found p [] some = absurd (omega arith)
found p (y ∷ xs) some =
    elim (cases_Bool (p y)) [
      | inl holds ↦ (y, head_in y xs, holds)
      | inr fails ↦
          let one : cond (p y) 1 0 ≤ 0 = skips (p y) fails in
          let rest = found p xs (omega (arith, one, some, sum_by-cons (λ z. cond (p z) 1 0) y xs)) in
          (rest.0, tail_in y xs rest.0 rest.1, rest.2)
    ]

-- how many edges lead to b from a number that is not placed
abbrev pub waiting : List ℕ → List (ℕ × ℕ) → ℕ → ℕ
waiting placed edges b = count_by (λ edge. not (is_in placed edge.0) && eqb edge.1 b) edges

pub waits_at_first : (edges : List (ℕ × ℕ)) (b : ℕ) → waiting [] edges b ≡ edges_to edges b
waits_at_first edges b = refl

pub is_in_push : (xs : List ℕ) (y x : ℕ) → is_in (xs ++ y ∷ []) x ≡ (is_in xs x || eqb y x)
is_in_push [] y x = elim (eqb y x) as (λ b. (b || false) ≡ (false || b)) [ true ↦ refl | false ↦ refl ]
is_in_push (z ∷ xs) y x =
    elim (eqb z x) as (λ b. (b || is_in (xs ++ y ∷ []) x) ≡ ((b || is_in xs x) || eqb y x)) [ true ↦ refl | false ↦ is_in_push xs y x ]

one_edge : (i k t : Bool) → (k ≡ true → i ≡ false) → cond (not (i || k) && t) 1 0 + cond (k && t) 1 0 ≡ cond (not i && t) 1 0
one_edge true true t apart = absurd (false≢true (sym (apart refl)))
one_edge true false t apart = refl
one_edge false true true apart = refl
one_edge false true false apart = refl
one_edge false false true apart = refl
one_edge false false false apart = refl

flipped : (a x : ℕ) → eqb x a ≡ eqb a x
flipped a x =
    elim (cases_Bool (eqb a x)) [
      | inl holds ↦ eq-eqb x a (sym (eqb-true a x holds)) ∙ sym holds
      | inr fails ↦ elim (cases_Bool (eqb x a)) [
        | inl holds ↦ absurd (false≢true (sym fails ∙ eq-eqb a x (sym (eqb-true x a holds))))
        | inr fails' ↦ fails' ∙ sym fails
      ]
    ]

-- where a is placed, b waits for as many edges less as lead to it from a
pub waiting_less : (placed : List ℕ) (a : ℕ) → (Contains placed a → ⊥) → (edges : List (ℕ × ℕ)) (b : ℕ)
    → waiting (placed ++ a ∷ []) edges b + edges_between edges a b ≡ waiting placed edges b
waiting_less placed a new [] b = refl
waiting_less placed a new ((x, y) ∷ edges) b =
    let unlike : eqb a x ≡ true → is_in placed x ≡ false = λ (same : eqb a x ≡ true).
    elim (cases_Bool (is_in placed x)) as (λ _. is_in placed x ≡ false) [
      | inl holds ↦ absurd (new (subst (λ (z : ℕ). Contains placed z) (sym (eqb-true a x same)) (in_from_is_in placed x holds)))
      | inr fails ↦ fails
    ] in
    let here : cond (not (is_in (placed ++ a ∷ []) x) && eqb y b) 1 0 + cond (eqb x a && eqb y b) 1 0 ≡ cond (not (is_in placed x) && eqb y b) 1 0 =
    ap (λ i. cond (not i && eqb y b) 1 0 + cond (eqb x a && eqb y b) 1 0) (is_in_push placed a x)
    ∙ (ap (λ k. cond (not (is_in placed x || eqb a x) && eqb y b) 1 0 + cond (k && eqb y b) 1 0) (flipped a x)
    ∙ one_edge (is_in placed x) (eqb a x) (eqb y b) unlike) in
    omega (
      arith,
      here,
      waiting_less placed a new edges b,
      sum_by-cons (λ (edge : ℕ × ℕ). cond (not (is_in (placed ++ a ∷ []) edge.0) && eqb edge.1 b) 1 0) (x, y) edges,
      sum_by-cons (λ (edge : ℕ × ℕ). cond (eqb edge.0 a && eqb edge.1 b) 1 0) (x, y) edges,
      sum_by-cons (λ (edge : ℕ × ℕ). cond (not (is_in placed edge.0) && eqb edge.1 b) 1 0) (x, y) edges,
    )

-- b waits for none exactly where all that have an edge to it are placed
pub placed_before : (placed : List ℕ) (edges : List (ℕ × ℕ)) (a b : ℕ) → waiting placed edges b ≡ 0 → Contains edges (a, b) → Contains placed a
placed_before placed edges a b none inside =
    elim (cases_Bool (is_in placed a)) [
      | inl holds ↦ in_from_is_in placed a holds
      | inr fails ↦
          let some = counted (λ (edge : ℕ × ℕ). not (is_in placed edge.0) && eqb edge.1 b) edges (a, b) inside
          (and_from (not (is_in placed a)) (eqb b b) (ap not fails) (eq-eqb b b refl)) in
          absurd (omega (arith, some, none))
    ]

pub one_unplaced : (placed : List ℕ) (edges : List (ℕ × ℕ)) (b : ℕ) → 0 < waiting placed edges b → (a : ℕ) × Contains edges (a, b) × (Contains placed a → ⊥)
one_unplaced placed edges b some =
    let edge = found (λ (edge : ℕ × ℕ). not (is_in placed edge.0) && eqb edge.1 b) edges some in
    let parts = and_parts (not (is_in placed edge.0.0)) (eqb edge.0.1 b) edge.2 in (
      edge.0.0,
      subst (λ (y : ℕ). Contains edges (edge.0.0, y)) (eqb-true edge.0.1 b parts.1) edge.1,
      λ inside. false≢true (sym (ap not (is_in_from_in placed edge.0.0 inside)) ∙ parts.0),
    )

pub waits_for_none : (placed : List ℕ) (edges : List (ℕ × ℕ)) (b : ℕ) → ((a : ℕ) → Contains edges (a, b) → Contains placed a) → waiting placed edges b ≡ 0
waits_for_none placed edges b all =
    elim (none_or_some (waiting placed edges b)) [
      | inl none ↦ none
      | inr some ↦ let one = one_unplaced placed edges b some in absurd (one.2 (all one.0 one.1))
    ]
  where
    none_or_some : (n : ℕ) → (n ≡ 0) ⊎ (0 < n)
    none_or_some zero = inl refl
    none_or_some (suc n) = inr (omega arith)

pub edge_counted : (edges : List (ℕ × ℕ)) (a b : ℕ) → Contains edges (a, b) → 0 < edges_between edges a b
edge_counted edges a b inside =
    counted (λ (edge : ℕ × ℕ). eqb edge.0 a && eqb edge.1 b) edges (a, b) inside (and_from (eqb a a) (eqb b b) (eq-eqb a a refl) (eq-eqb b b refl))

pub edge_found : (edges : List (ℕ × ℕ)) (a b : ℕ) → 0 < edges_between edges a b → Contains edges (a, b)
edge_found edges a b some =
    let edge = found (λ (edge : ℕ × ℕ). eqb edge.0 a && eqb edge.1 b) edges some in
    let parts = and_parts (eqb edge.0.0 a) (eqb edge.0.1 b) edge.2 in
    let P : ℕ → ℕ → Type 0 = λ x y. Contains edges (x, y) in
    subst (λ (x : ℕ). P x b) (eqb-true edge.0.0 a parts.0) (subst (λ (y : ℕ). P edge.0.0 y) (eqb-true edge.0.1 b parts.1) edge.1)
