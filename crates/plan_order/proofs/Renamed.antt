-- An order stays one where nodes are named otherwise, or participants numbered otherwise.
use Rattle.std.proofs.Common.{◌≡◌, ℕ, ◌<◌, ◌≤◌, inl, inr, length, map, List, [], ◌∷◌, ◌++◌, refl, ap, sym, subst, arith, Contains}
use Rattle.std.proofs.lemmas.List.{map-append, length-map}
use Rattle.std.proofs.lemmas.List.Elements.{Contains-push_cases}
use Rattle.plan_order.specs.NodeOrder.{first_member, StandsBefore, IsReady, IsNext, GoesOn, IsNodeOrder}
use Rattle.plan_order.specs.Renaming.{IsRenaming, IsRenumbering, renumbered}
use Rattle.plan_order.proofs.Loops.{below_or_more}
use Rattle.plan_order.proofs.Orders.{none_in_nil}
use Rattle.plan_order.proofs.Named.{in_map, from_map}

module _ {N M : Type 0} (members : N → List ℕ) (pairs : List (ℕ × ℕ)) (members' : M → List ℕ) (pairs' : List (ℕ × ℕ)) (name : N → M)
    (is : IsRenaming members pairs members' pairs' name) where
  -- only nodes are placed
  AreNodes : List N → Type 0
  AreNodes placed = (x : N) → Contains placed x → 0 < length (members x)

  -- a node is placed where its name is
  back : (placed : List N) → AreNodes placed → (x : N) → 0 < length (members x) → Contains (map name placed) (name x) → Contains placed x
  unfolding AreNodes
  back placed nodes x has inside =
      let one = from_map name placed (name x) inside in
      subst (λ (y : N). Contains placed y) (is.apart one.0 x (nodes one.0 one.1) has one.2) one.1

  ready_renamed : (placed : List N) → AreNodes placed → (x : N) → IsReady members pairs placed x → IsReady members' pairs' (map name placed) (name x)
  ready_renamed placed nodes x ready = record {
    is_node = is.stays x ready.is_node;
    unplaced = λ inside. ready.unplaced (back placed nodes x ready.is_node inside);
    released = λ other stands.
        let one = is.onto other (omega (arith, stands.from.1)) in
        let down : StandsBefore members pairs one.0 x =
        (is.before one.0 x one.1 ready.is_node).1 (subst (λ (y : M). StandsBefore members' pairs' y (name x)) (sym one.2) stands) in
        subst (λ (y : M). Contains (map name placed) y) one.2 (in_map name placed one.0 (ready.released one.0 down));
  }

  ready_before : (placed : List N) → AreNodes placed → (x : N) → 0 < length (members x) → IsReady members' pairs' (map name placed) (name x) → IsReady members pairs placed x
  ready_before placed nodes x has ready = record {
    is_node = has;
    unplaced = λ inside. ready.unplaced (in_map name placed x inside);
    released = λ other stands.
        let node : 0 < length (members other) = omega (arith, stands.from.1) in
        back placed nodes other node (ready.released (name other) ((is.before other x node has).0 stands));
  }

  next_renamed : (placed : List N) → AreNodes placed → (x : N) → IsNext members pairs placed x → IsNext members' pairs' (map name placed) (name x)
  next_renamed placed nodes x next = record {
    ready = ready_renamed placed nodes x next.ready;
    least = λ other ready.
        let one = is.onto other ready.is_node in
        let there : IsReady members' pairs' (map name placed) (name one.0) = subst (λ (y : M). IsReady members' pairs' (map name placed) y) (sym one.2) ready in
        subst (λ (y : M). first_member (members' (name x)) ≤ first_member (members' y)) one.2
        (is.first x one.0 next.ready.is_node one.1 (next.least one.0 (ready_before placed nodes one.0 one.1 there)));
  }

  goes_renamed : (placed order : List N) → AreNodes placed → GoesOn members pairs placed order → GoesOn members' pairs' (map name placed) (map name order)
  unfolding AreNodes
  goes_renamed placed [] nodes goes = λ other has.
      let one = is.onto other has in
      subst (λ (y : M). Contains (map name placed) y) one.2 (in_map name placed one.0 (goes one.0 one.1))
  goes_renamed placed (x ∷ rest) nodes goes = (
    next_renamed placed nodes x goes.0,
    subst (λ (xs : List M). GoesOn members' pairs' xs (map name rest)) (map-append name placed (x ∷ []))
        (goes_renamed (placed ++ x ∷ []) rest (λ y inside. elim (Contains-push_cases placed x y inside) [
          | inl before ↦ nodes y before
          | inr same ↦ subst (λ (z : N). 0 < length (members z)) same goes.0.ready.is_node
        ]) goes.1),
  )

  pub order_renamed : (order : List N) → IsNodeOrder members pairs order → IsNodeOrder members' pairs' (map name order)
  unfolding AreNodes
  order_renamed order goes = goes_renamed [] order (λ x inside. absurd (none_in_nil x inside)) goes

module _ (number : ℕ → ℕ) (rises : (a b : ℕ) → a < b → number a < number b) where
  keeps : (a b : ℕ) → a ≤ b → number a ≤ number b
  keeps a b up = elim (below_or_more a b) [
    | inl below ↦ let less = rises a b below in omega (arith, less)
    | inr (inl same) ↦ subst (λ (c : ℕ). number a ≤ number c) same (omega arith)
    | inr (inr above) ↦ absurd (omega (arith, up, above))
  ]

  tells : (a b : ℕ) → number a ≡ number b → a ≡ b
  tells a b same = elim (below_or_more a b) [
    | inl below ↦ absurd (omega (arith, rises a b below, same))
    | inr (inl is) ↦ is
    | inr (inr above) ↦ absurd (omega (arith, rises b a above, same))
  ]

  first_renumbered : (xs : List ℕ) → 0 < length xs → first_member (map number xs) ≡ number (first_member xs)
  first_renumbered [] some = absurd (omega (arith, some))
  first_renumbered (x ∷ xs) some = refl

module _ {N M : Type 0} (members : N → List ℕ) (members' : M → List ℕ) (number : ℕ → ℕ) (name : N → M) (is : IsRenumbering members members' number name) (pairs : List (ℕ × ℕ)) where
  in_node : (x : N) (p : ℕ) → 0 < length (members x) → Contains (members x) p → Contains (members' (name x)) (number p)
  in_node x p has inside = subst (λ (xs : List ℕ). Contains xs (number p)) (sym (is.same x has)) (in_map number (members x) p inside)

  from_node : (x : N) (p : ℕ) → 0 < length (members x) → Contains (members' (name x)) (number p) → Contains (members x) p
  from_node x p has inside =
      let one = from_map number (members x) (number p) (subst (λ (xs : List ℕ). Contains xs (number p)) (is.same x has) inside) in
      subst (λ (q : ℕ). Contains (members x) q) (tells number is.rises one.0 p one.2) one.1

  pair_of : ℕ × ℕ → ℕ × ℕ
  pair_of pair = (number pair.0, number pair.1)

  stands_on : (x y : N) → 0 < length (members x) → 0 < length (members y) → StandsBefore members pairs x y → StandsBefore members' (renumbered number pairs) (name x) (name y)
  unfolding pair_of
  stands_on x y one other stands = record {
    pair = pair_of stands.pair;
    listed = in_map pair_of pairs stands.pair stands.listed;
    from = in_node x stands.pair.0 one stands.from;
    to = in_node y stands.pair.1 other stands.to;
  }

  stood_on : (x y : N) → 0 < length (members x) → 0 < length (members y) → StandsBefore members' (renumbered number pairs) (name x) (name y) → StandsBefore members pairs x y
  unfolding pair_of
  stood_on x y one other stands =
      let old = from_map pair_of pairs stands.pair stands.listed in
      record {
        pair = old.0;
        listed = old.1;
        from = from_node x old.0.0 one (subst (λ (p : ℕ × ℕ). Contains (members' (name x)) p.0) (sym old.2) stands.from);
        to = from_node y old.0.1 other (subst (λ (p : ℕ × ℕ). Contains (members' (name y)) p.1) (sym old.2) stands.to);
      }

  some_renumbered : (x : N) → 0 < length (members x) → 0 < length (members' (name x))
  some_renumbered x has = omega (arith, has, ap length (is.same x has), length-map (members x) number)

  pub renumbering_renames : IsRenaming members pairs members' (renumbered number pairs) name
  renumbering_renames = record {
    stays = some_renumbered;
    onto = is.onto;
    apart = is.apart;
    before = λ x y one other. (stands_on x y one other, stood_on x y one other);
    first = λ x y one other less.
        omega (
          arith,
          keeps number is.rises (first_member (members x)) (first_member (members y)) less,
          ap first_member (is.same x one),
          ap first_member (is.same y other),
          first_renumbered number is.rises (members x) one,
          first_renumbered number is.rises (members y) other,
        );
  }
