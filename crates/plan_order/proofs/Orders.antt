-- What an order of nodes amounts to: each node once, after all that stand before it; one order at most, and none where there is a cycle.
use Rattle.std.proofs.Common.{◌≡◌, ℕ, zero, suc, ◌<◌, inl, inr, length, List, [], ◌∷◌, ◌++◌, refl, ap, sym, subst, append_assoc, arith, Contains}
use Rattle.std.proofs.lemmas.List.Elements.{Contains-push_cases, Contains-append_left}
use Rattle.plan_order.specs.NodeOrder.{first_member, StandsBefore, IsReady, IsNext, GoesOn, IsNodeOrder}
use Rattle.plan_order.specs.Cycle.{Leads, HasCycle}

pub append_nil : {N : Type 0} (xs : List N) → xs ++ [] ≡ xs
append_nil [] = refl
append_nil (x ∷ xs) = ap (λ ys. x ∷ ys) (append_nil xs)

pub none_in_nil : {N : Type 0} (x : N) → Contains [] x → ⊥
none_in_nil x found = omega (arith, found.1)

module _ {N : Type 0} (members : N → List ℕ) (pairs : List (ℕ × ℕ)) where
  -- each node of an order is the next one after those before it
  split : (placed before : List N) (node : N) (after : List N) → GoesOn members pairs placed (before ++ node ∷ after) → IsNext members pairs (placed ++ before) node
  split placed [] node after goes = subst (λ (xs : List N). IsNext members pairs xs node) (sym (append_nil placed)) goes.0
  split placed (first ∷ before) node after goes =
      subst (λ (xs : List N). IsNext members pairs xs node) (append_assoc placed (first ∷ []) before) (split (placed ++ first ∷ []) before node after goes.1)

  pub next_at : (order before : List N) (node : N) (after : List N) → IsNodeOrder members pairs order → order ≡ before ++ node ∷ after → IsNext members pairs before node
  next_at order before node after is e = split [] before node after (subst (λ (xs : List N). IsNodeOrder members pairs xs) e is)

  all_after : (placed order : List N) → GoesOn members pairs placed order → (node : N) → 0 < length (members node) → Contains (placed ++ order) node
  all_after placed [] goes node is = subst (λ (xs : List N). Contains xs node) (sym (append_nil placed)) (goes node is)
  all_after placed (first ∷ rest) goes node is =
      subst (λ (xs : List N). Contains xs node) (append_assoc placed (first ∷ []) rest) (all_after (placed ++ first ∷ []) rest goes.1 node is)

  pub all_placed : (order : List N) → IsNodeOrder members pairs order → (node : N) → 0 < length (members node) → Contains order node
  all_placed order is node has = all_after [] order is node has

  -- a set that has each node that stands before one of its own
  IsClosed : List N → Type 0
  IsClosed placed = (x y : N) → StandsBefore members pairs x y → Contains placed y → Contains placed x

  -- a walk that ends in it begins in it
  begins_inside : (placed : List N) → IsClosed placed → (x : N) (between : List N) (y : N) → Leads members pairs x between y → Contains placed y → Contains placed x
  unfolding IsClosed
  begins_inside placed closed x [] y walk inside = closed x y walk inside
  begins_inside placed closed x (next ∷ rest) y walk inside = closed x next walk.0 (begins_inside placed closed next rest y walk.1 inside)

  -- so does one that ends at a node that is ready
  begins_before : (placed : List N) → IsClosed placed → (node : N) → IsReady members pairs placed node
      → (x : N) (between : List N) → Leads members pairs x between node → Contains placed x
  unfolding IsClosed
  begins_before placed closed node ready x [] walk = ready.released x walk
  begins_before placed closed node ready x (next ∷ rest) walk = closed x next walk.0 (begins_before placed closed node ready next rest walk.1)

  closed_more : (placed : List N) (node : N) → IsClosed placed → IsReady members pairs placed node → IsClosed (placed ++ node ∷ [])
  unfolding IsClosed
  closed_more placed node closed ready x y stands inside =
      elim (Contains-push_cases placed node y inside) [
        | inl before ↦ Contains-append_left placed (node ∷ []) x (closed x y stands before)
        | inr same ↦ Contains-append_left placed (node ∷ []) x (ready.released x (subst (λ (z : N). StandsBefore members pairs x z) (sym same) stands))
      ]

  -- no walk leads from one of them back to it
  HasNoLoop : List N → Type 0
  HasNoLoop placed = (x : N) (between : List N) → Contains placed x → Leads members pairs x between x → ⊥

  no_loop_more : (placed : List N) (node : N) → IsClosed placed → HasNoLoop placed → IsReady members pairs placed node → HasNoLoop (placed ++ node ∷ [])
  unfolding HasNoLoop
  no_loop_more placed node closed none ready x between inside walk =
      elim (Contains-push_cases placed node x inside) [
        | inl before ↦ none x between before walk
        | inr same ↦ ready.unplaced
            (begins_before placed closed node ready node between (subst (λ (z : N). Leads members pairs z between z) (sym same) walk))
      ]

  no_loop_after : (placed order : List N) → IsClosed placed → HasNoLoop placed → GoesOn members pairs placed order → (x : N) (between : List N) → 0 < length (members x) → Leads members pairs x between x → ⊥
  unfolding HasNoLoop
  no_loop_after placed [] closed none goes x between has walk = none x between (goes x has) walk
  no_loop_after placed (node ∷ rest) closed none goes x between has walk =
      no_loop_after (placed ++ node ∷ []) rest (closed_more placed node closed goes.0.ready) (no_loop_more placed node closed none goes.0.ready) goes.1 x between has walk

  -- what stands before another is a node
  starts_at_node : (x : N) (between : List N) (y : N) → Leads members pairs x between y → 0 < length (members x)
  starts_at_node x [] y walk = omega (arith, walk.from.1)
  starts_at_node x (next ∷ rest) y walk = omega (arith, walk.0.from.1)

  pub no_cycle : (order : List N) → IsNodeOrder members pairs order → HasCycle members pairs → ⊥
  unfolding HasNoLoop IsClosed
  no_cycle order is cycle =
      no_loop_after [] order (λ x y stands inside. absurd (none_in_nil y inside)) (λ x between inside walk. none_in_nil x inside) is
      cycle.start cycle.between (starts_at_node cycle.start cycle.between cycle.start cycle.walk) cycle.walk

  -- at each place the next node is the same one, where first members tell nodes apart
  same_after : ((x y : N) → 0 < length (members x) → 0 < length (members y) → first_member (members x) ≡ first_member (members y) → x ≡ y)
      → (placed order other : List N) → GoesOn members pairs placed order → GoesOn members pairs placed other → order ≡ other
  same_after apart placed [] [] one two = refl
  same_after apart placed [] (node ∷ rest) one two = absurd (two.0.ready.unplaced (one node two.0.ready.is_node))
  same_after apart placed (node ∷ rest) [] one two = absurd (one.0.ready.unplaced (two node one.0.ready.is_node))
  same_after apart placed (node ∷ rest) (node' ∷ rest') one two =
      let same : node ≡ node' = apart node node' one.0.ready.is_node two.0.ready.is_node
      (omega (arith, one.0.least node' two.0.ready, two.0.least node one.0.ready)) in
      let others = same_after apart (placed ++ node ∷ []) rest rest' one.1
      (subst (λ (x : N). GoesOn members pairs (placed ++ x ∷ []) rest') (sym same) two.1) in
      cc

  pub only_order : ((x y : N) → 0 < length (members x) → 0 < length (members y) → first_member (members x) ≡ first_member (members y) → x ≡ y)
      → (order other : List N) → IsNodeOrder members pairs order → IsNodeOrder members pairs other → order ≡ other
  only_order apart order other one two = same_after apart [] order other one two

  -- a cycle has a pair
  pub some_pairs : HasCycle members pairs → 0 < length pairs
  some_pairs cycle = along cycle.start cycle.between cycle.start cycle.walk
    where
      along : (x : N) (between : List N) (y : N) → Leads members pairs x between y → 0 < length pairs
      along x [] y walk = omega (arith, walk.listed.1)
      along x (next ∷ rest) y walk = omega (arith, walk.0.listed.1)

  -- only nodes stand in an order
  only_after : (placed order : List N) → GoesOn members pairs placed order → (x : N) → Contains order x → 0 < length (members x)
  only_after placed [] goes x inside = absurd (none_in_nil x inside)
  only_after placed (node ∷ rest) goes x (zero, below, is) = subst (λ (y : N). 0 < length (members y)) is goes.0.ready.is_node
  only_after placed (node ∷ rest) goes x (suc k, below, is) = only_after (placed ++ node ∷ []) rest goes.1 x (k, omega (arith, below), is)

  pub only_nodes : (order : List N) → IsNodeOrder members pairs order → (x : N) → Contains order x → 0 < length (members x)
  only_nodes order is x inside = only_after [] order is x inside
