-- Nodes without a cycle have an order: the ready node with the least first member is placed, again and again.
use Rattle.std.proofs.Common.{◌≡◌, ℕ, zero, suc, ◌<◌, ◌≤◌, ◌⊎◌, inl, inr, length, Bool, true, false, not, ◌&&◌, ◌||◌, nat_lt, List, [], ◌∷◌, ◌++◌, refl, ap, sym, subst, ◌∙◌, arith, Contains}
use Rattle.std.specs.List.{list_all, remove}
use Rattle.std.proofs.lemmas.Bool.{cases_Bool, and_from, or_parts, false≢true, true≢false, lt-ltb}
use Rattle.std.proofs.lemmas.List.Edits.{length-remove}
use Rattle.std.proofs.lemmas.List.Elements.{Contains-push, Contains-append_left}
use Rattle.plan_order.specs.declared.node.Node.{Node}
use Rattle.plan_order.specs.NodeOrder.{first_member, StandsBefore, IsReady, GoesOn, IsNodeOrder}
use Rattle.plan_order.specs.Cycle.{HasCycle}
use Rattle.plan_order.proofs.Loops.{head_in, tail_in, in_cons, in_remove, cycle_among}
use Rattle.plan_order.proofs.Orders.{none_in_nil}
use Rattle.plan_order.proofs.SmallOrders.{placed_in, placed_is, is_placed, stands, is_ready, ready_told, ready_tested, found_pair}

some_fails : {X : Type 0} (p : X → Bool) (xs : List X) → list_all p xs ≡ false → (x : X) × Contains xs x × (p x ≡ false)
some_fails p [] is = absurd (true≢false is)
some_fails p (x ∷ xs) is =
    elim (cases_Bool (p x)) [
      | inl holds ↦
          let rest = some_fails p xs (sym (ap (λ t. t && list_all p xs) holds) ∙ is) in
          (rest.0, tail_in x xs rest.0 rest.1, rest.2)
      | inr fails ↦ (x, head_in x xs, fails)
    ]

-- the least of those that pass, or none passes
module _ {X : Type 0} (p : X → Bool) (size : X → ℕ) where
  NonePasses : List X → Type 0
  NonePasses xs = (x : X) → Contains xs x → p x ≡ false

  record IsLeast (xs : List X) (x : X) : Type 0 where
    inside : Contains xs x
    passes : p x ≡ true
    least : (y : X) → Contains xs y → p y ≡ true → size x ≤ size y

  none_more : (x : X) (xs : List X) → p x ≡ false → NonePasses xs → NonePasses (x ∷ xs)
  unfolding NonePasses
  none_more x xs fails none y inside = elim (in_cons x xs y inside) [
    | inl same ↦ subst (λ (z : X). p z ≡ false) same fails
    | inr rest ↦ none y rest
  ]

  alone_least : (x : X) (xs : List X) → p x ≡ true → NonePasses xs → IsLeast (x ∷ xs) x
  unfolding NonePasses
  alone_least x xs holds none = record {
    inside = head_in x xs;
    passes = holds;
    least = λ y inside passes. elim (in_cons x xs y inside) [
      | inl same ↦ subst (λ (z : X). size x ≤ size z) same (omega arith)
      | inr rest ↦ absurd (false≢true (sym (none y rest) ∙ passes))
    ];
  }

  first_least : (x : X) (xs : List X) (z : X) → p x ≡ true → IsLeast xs z → size x ≤ size z → IsLeast (x ∷ xs) x
  first_least x xs z holds best less = record {
    inside = head_in x xs;
    passes = holds;
    least = λ y inside passes. elim (in_cons x xs y inside) [
      | inl same ↦ subst (λ (w : X). size x ≤ size w) same (omega arith)
      | inr rest ↦ let more = best.least y rest passes in omega (arith, more, less)
    ];
  }

  later_least : (x : X) (xs : List X) (z : X) → IsLeast xs z → (p x ≡ true → size z ≤ size x) → IsLeast (x ∷ xs) z
  later_least x xs z best less = record {
    inside = tail_in x xs z best.inside;
    passes = best.passes;
    least = λ y inside passes. elim (in_cons x xs y inside) [
      | inl same ↦ subst (λ (w : X). size z ≤ size w) same (less (subst (λ (w : X). p w ≡ true) (sym same) passes))
      | inr rest ↦ best.least y rest passes
    ];
  }

  le_or_more : (a b : ℕ) → (a ≤ b) ⊎ (b ≤ a)
  le_or_more zero b = inl (omega arith)
  le_or_more (suc a) zero = inr (omega arith)
  le_or_more (suc a) (suc b) = elim (le_or_more a b) [ inl less ↦ inl (omega (arith, less)) | inr more ↦ inr (omega (arith, more)) ]

  least_of : (xs : List X) → NonePasses xs ⊎ ((x : X) × IsLeast xs x)
  unfolding NonePasses
  least_of [] = inl (λ x inside. absurd (none_in_nil x inside))
  least_of (x ∷ xs) =
      elim (cases_Bool (p x)) [
        | inl holds ↦ elim (least_of xs) [
          | inl none ↦ inr (x, alone_least x xs holds none)
          | inr best ↦ elim (le_or_more (size x) (size best.0)) [
            | inl less ↦ inr (x, first_least x xs best.0 holds best.1 less)
            | inr more ↦ inr (best.0, later_least x xs best.0 best.1 (λ _. more))
          ]
        ]
        | inr fails ↦ elim (least_of xs) [
          | inl none ↦ inl (none_more x xs fails none)
          | inr best ↦ inr (best.0, later_least x xs best.0 best.1 (λ is. absurd (false≢true (sym fails ∙ is))))
        ]
      ]

module _ (members : Node → List ℕ) (pairs : List (ℕ × ℕ)) (nodes : List Node) (all : (x : Node) → 0 < length (members x) → Contains nodes x)
    (no_cycle : HasCycle members pairs → ⊥) where
  -- a node that is still to be placed
  Waits : List Node → Node → Type 0
  Waits placed y = (0 < length (members y)) × (placed_in placed y ≡ false)

  -- one that waits and is not ready waits for another
  waits_for : (placed : List Node) (y : Node) → Waits placed y → is_ready members pairs nodes placed y ≡ false → (x : Node) × StandsBefore members pairs x y × Waits placed x
  unfolding Waits
  waits_for placed y waits fails =
      let own : (nat_lt 0 (length (members y)) && not (placed_in placed y)) ≡ true =
      and_from (nat_lt 0 (length (members y))) (not (placed_in placed y)) (lt-ltb 0 (length (members y)) waits.0) (ap not waits.1) in
      let other = some_fails (λ x. not (stands members pairs nodes x y) || placed_in placed x) nodes
      (sym (ap (λ t. t && list_all (λ x. not (stands members pairs nodes x y) || placed_in placed x) nodes) own) ∙ fails) in
      let both = or_parts (not (stands members pairs nodes other.0 y)) (placed_in placed other.0) other.2 in
      let pair = found_pair members pairs nodes other.0 y pairs (back (stands members pairs nodes other.0 y) both.0) in (
        other.0,
        record { pair = pair.0; listed = pair.1; from = pair.2; to = pair.3 },
        (omega (arith, pair.2.1), both.1),
      )
    where
      back : (b : Bool) → not b ≡ false → b ≡ true
      back true is = refl
      back false is = absurd (true≢false is)

  -- where no node is ready, all are placed
  all_in : (placed rest : List Node) → ((x : Node) → Waits placed x → Contains rest x)
      → ((x : Node) → Contains rest x → is_ready members pairs nodes placed x ≡ false) → GoesOn members pairs placed []
  unfolding Waits
  all_in placed rest left none = λ node has.
      elim (cases_Bool (placed_in placed node)) [
        | inl holds ↦ placed_is placed node holds
        | inr fails ↦
            absurd (no_cycle (cycle_among members pairs (Waits placed) nodes (λ y waits. all y waits.0)
            (λ y waits. waits_for placed y waits (none y (left y waits))) node (has, fails)))
      ]

  -- those that wait are in `rest`, and as many steps are enough
  go_on : (n : ℕ) (placed rest : List Node) → length rest ≤ n → ((x : Node) → Waits placed x → Contains rest x) → (order : List Node) × GoesOn members pairs placed order
  unfolding Waits NonePasses
  go_on zero placed rest few left = ([], all_in placed rest left (λ x inside. absurd (omega (arith, few, inside.1))))
  go_on (suc n) placed rest few left =
      elim (least_of (is_ready members pairs nodes placed) (λ x. first_member (members x)) rest) [
        | inl none ↦ ([], all_in placed rest left none)
        | inr best ↦
            let ready = ready_told members pairs nodes all placed best.0 best.1.passes in
            let k : ℕ = best.1.inside.0 in
            let later = go_on n (placed ++ best.0 ∷ []) (remove rest best.1.inside.0)
            (omega (arith, few, length-remove rest best.1.inside.0 best.1.inside.1))
            (λ x waits. elim (in_remove rest best.1.inside.0 best.0 best.1.inside.1 best.1.inside.2 x (left x (waits.0, before placed best.0 x waits.1))) [
              | inl still ↦ still
              | inr same ↦ absurd (false≢true (sym waits.1
                  ∙ is_placed (placed ++ best.0 ∷ []) x (subst (λ (y : Node). Contains (placed ++ best.0 ∷ []) y) (sym same) (Contains-push placed best.0))))
            ]) in (
              best.0 ∷ later.0,
              (
                record {
                  ready = ready;
                  least = λ other free.
                      best.1.least other (left other (free.is_node, unplaced placed other free))
                      (ready_tested members pairs nodes all placed other free);
                },
                later.1,
              ),
            )
      ]
    where
      unplaced : (placed : List Node) (other : Node) → IsReady members pairs placed other → placed_in placed other ≡ false
      unplaced placed other free = elim (cases_Bool (placed_in placed other)) [
        | inl holds ↦ absurd (free.unplaced (placed_is placed other holds))
        | inr fails ↦ fails
      ]

      before : (placed : List Node) (y x : Node) → placed_in (placed ++ y ∷ []) x ≡ false → placed_in placed x ≡ false
      before placed y x fails = elim (cases_Bool (placed_in placed x)) [
        | inl holds ↦ absurd (false≢true (sym fails ∙ is_placed (placed ++ y ∷ []) x (Contains-append_left placed (y ∷ []) x (placed_is placed x holds))))
        | inr is ↦ is
      ]

  pub some_order : (order : List Node) × IsNodeOrder members pairs order
  unfolding Waits
  some_order = go_on (length nodes) [] nodes (omega arith) (λ x waits. all x waits.0)
