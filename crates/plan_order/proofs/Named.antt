-- Nodes by their first members: an order or a cycle of those is an order or a cycle of the nodes.
use Rattle.std.proofs.Common.{◌≡◌, ℕ, ◌+◌, ◌<◌, inl, inr, length, get_or, map, take, List, [], ◌∷◌, ◌++◌, ap, sym, subst, ◌∙◌, arith, All, Contains, slice_index}
use Rattle.std.proofs.lemmas.Grind.{get_or_default_zero}
use Rattle.std.proofs.lemmas.List.{map-append, take-map, length-map}
use Rattle.std.proofs.lemmas.List.Elements.{Contains-push_cases, All-contains, All-take, All-map, Contains-get_or}
use Rattle.plan_order.specs.NodeOrder.{first_member, StandsBefore, IsReady, IsNext, GoesOn, IsNodeOrder}
use Rattle.plan_order.specs.Cycle.{Leads, HasCycle, ClosesCycle}
use Rattle.plan_order.specs.Edges.{alone, edges_of}
use Rattle.plan_order.proofs.Loops.{head_in, tail_in, in_cons}
use Rattle.plan_order.proofs.Orders.{none_in_nil}
use Rattle.plan_order.proofs.GroupNodes.{first_in}
use Rattle.plan_order.proofs.Placing.{in_alone, alone_node, node_alone, first_alone, edge_stands, stands_edge}

pub in_map : {X Y : Type 0} (f : X → Y) (xs : List X) (x : X) → Contains xs x → Contains (map f xs) (f x)
in_map f [] x inside = absurd (omega (arith, inside.1))
in_map f (y ∷ xs) x inside =
    elim (in_cons y xs x inside) [
      | inl same ↦ subst (λ z. Contains (f y ∷ map f xs) (f z)) same (head_in (f y) (map f xs))
      | inr rest ↦ tail_in (f y) (map f xs) (f x) (in_map f xs x rest)
    ]

pub from_map : {X Y : Type 0} (f : X → Y) (xs : List X) (y : Y) → Contains (map f xs) y → (x : X) × Contains xs x × (f x ≡ y)
from_map f [] y inside = absurd (omega (arith, inside.1))
from_map f (x ∷ xs) y inside =
    elim (in_cons (f x) (map f xs) y inside) [
      | inl same ↦ (x, head_in x xs, same)
      | inr rest ↦ let one = from_map f xs y rest in (one.0, tail_in x xs one.0 one.1, one.2)
    ]

-- `at` is the node of each participant, and `heads` are the first members of these
pub record AreNamed {N : Type 0} (members : N → List ℕ) (parts : ℕ) (at : ℕ → N) (heads : List ℕ) : Type 0 where
  pub own : (p : ℕ) → p < parts → Contains (members (at p)) p
  pub only : (x : N) (p : ℕ) → Contains (members x) p → (p < parts) × (x ≡ at p)
  pub count : length heads ≡ parts
  pub first : (p : ℕ) → p < parts → slice_index heads p ≡ first_member (members (at p))

module _ {N : Type 0} (members : N → List ℕ) (parts : ℕ) (at : ℕ → N) (heads : List ℕ) (named : AreNamed members parts at heads) where
  first_of : N → ℕ
  first_of x = first_member (members x)

  head_is : (x : N) (p : ℕ) → Contains (members x) p → slice_index heads p ≡ first_of x
  unfolding first_of
  head_is x p inside = named.first p (named.only x p inside).0 ∙ ap (λ y. first_member (members y)) (sym (named.only x p inside).1)

  at_first : (x : N) → 0 < length (members x) → x ≡ at (first_of x)
  unfolding first_of
  at_first x has = (named.only x (first_member (members x)) (first_in (members x) has)).1

  has_name : (x : N) → 0 < length (members x) → Contains heads (first_of x)
  unfolding first_of
  has_name x has =
      let inside = first_in (members x) has in
      let within : first_member (members x) < length heads = omega (arith, (named.only x (first_member (members x)) inside).0, named.count) in
      (first_member (members x), within, get_or_default_zero heads (first_member (members x)) (first_member (members x)) within ∙ head_is x (first_member (members x)) inside)

  some_in : (xs : List ℕ) (p : ℕ) → Contains xs p → 0 < length xs
  some_in xs p inside = omega (arith, inside.1)

  -- a name is the first member of the node at it
  name_of : (h : ℕ) → Contains heads h → (h < parts) × (0 < length (members (at h))) × (first_of (at h) ≡ h)
  unfolding first_of
  name_of h inside =
      let k : ℕ = inside.0 in
      let below : inside.0 < parts = omega (arith, inside.1, named.count) in
      let own = named.own inside.0 below in
      let is : first_member (members (at inside.0)) ≡ h =
      sym (named.first inside.0 below) ∙ (sym (get_or_default_zero heads inside.0 h inside.1) ∙ inside.2) in
      let there : Contains (members (at inside.0)) h =
      subst (λ (p : ℕ). Contains (members (at inside.0)) p) is (first_in (members (at inside.0)) (some_in (members (at inside.0)) inside.0 own)) in
      let same = named.only (at inside.0) h there in (
        same.0,
        subst (λ (x : N). 0 < length (members x)) same.1 (some_in (members (at inside.0)) inside.0 own),
        ap (λ x. first_member (members x)) (sym same.1) ∙ is,
      )

  -- the names are below their number
  pub names_below : All (λ id. id < length heads) heads
  names_below = λ k d within. omega (arith, (name_of (get_or heads k d) (Contains-get_or heads k d within)).0, named.count)

  -- two names of one node are the same
  same_name : (a b : ℕ) → Contains heads a → Contains heads b → at a ≡ at b → a ≡ b
  unfolding first_of
  same_name a b one two same = sym (name_of a one).2 ∙ (ap (λ x. first_member (members x)) same ∙ (name_of b two).2)

  module _ (pairs : List (ℕ × ℕ)) (within : All (λ pair. (pair.0 < parts) × (pair.1 < parts)) pairs) where
    pub ends_named : All (λ edge. Contains heads edge.0 × Contains heads edge.1) (edges_of heads pairs)
    ends_named =
        All-map (λ (edge : ℕ × ℕ). Contains heads edge.0 × Contains heads edge.1) (λ (pair : ℕ × ℕ). (slice_index heads pair.0, slice_index heads pair.1)) pairs
        (λ k d there.
        let below = within k d there in (
          Contains-get_or heads (get_or pairs k d).0 0 (omega (arith, below.0, named.count)),
          Contains-get_or heads (get_or pairs k d).1 0 (omega (arith, below.1, named.count)),
        ))

    stands_down : (x y : N) → StandsBefore members pairs x y → StandsBefore (alone heads) (edges_of heads pairs) (first_of x) (first_of y)
    stands_down x y stands =
        let from = head_is x stands.pair.0 stands.from in
        let to = head_is y stands.pair.1 stands.to in
        edge_stands heads (edges_of heads pairs) (first_of x) (first_of y)
        (has_name x (some_in (members x) stands.pair.0 stands.from)) (has_name y (some_in (members y) stands.pair.1 stands.to))
        (subst (λ (a : ℕ). Contains (edges_of heads pairs) (a, first_of y)) from
        (subst (λ (b : ℕ). Contains (edges_of heads pairs) (slice_index heads stands.pair.0, b)) to
        (in_map (λ (pair : ℕ × ℕ). (slice_index heads pair.0, slice_index heads pair.1)) pairs stands.pair stands.listed)))

    -- a participant is in the node that its node's first member names
    inside_named : (p a : ℕ) → p < parts → slice_index heads p ≡ a → Contains (members (at a)) p
    inside_named p a below is =
        let own = named.own p below in
        let first : first_member (members (at p)) ≡ a = sym (named.first p below) ∙ is in
        let there = named.only (at p) a (subst (λ (q : ℕ). Contains (members (at p)) q) first (first_in (members (at p)) (some_in (members (at p)) p own))) in
        subst (λ (x : N). Contains (members x) p) there.1 own

    stands_up : (a b : ℕ) → StandsBefore (alone heads) (edges_of heads pairs) a b → StandsBefore members pairs (at a) (at b)
    stands_up a b stands =
        let one = from_map (λ (pair : ℕ × ℕ). (slice_index heads pair.0, slice_index heads pair.1)) pairs (a, b) (stands_edge heads (edges_of heads pairs) a b stands) in
        let below = All-contains (λ (pair : ℕ × ℕ). (pair.0 < parts) × (pair.1 < parts)) pairs one.0 within one.1 in
        record {
          pair = one.0;
          listed = one.1;
          from = inside_named one.0.0 a below.0 (ap (λ (e : ℕ × ℕ). e.0) one.2);
          to = inside_named one.0.1 b below.1 (ap (λ (e : ℕ × ℕ). e.1) one.2);
        }

    walk_up : (x : ℕ) (between : List ℕ) (y : ℕ) → Leads (alone heads) (edges_of heads pairs) x between y → Leads members pairs (at x) (map at between) (at y)
    walk_up x [] y walk = stands_up x y walk
    walk_up x (next ∷ rest) y walk = (stands_up x next walk.0, walk_up next rest y walk.1)

    walk_down : (x : N) (between : List N) (y : N) → Leads members pairs x between y → Leads (alone heads) (edges_of heads pairs) (first_of x) (map first_of between) (first_of y)
    walk_down x [] y walk = stands_down x y walk
    walk_down x (next ∷ rest) y walk = (stands_down x next walk.0, walk_down next rest y walk.1)

    pub cycle_up : HasCycle (alone heads) (edges_of heads pairs) → HasCycle members pairs
    cycle_up cycle = record { start = at cycle.start; between = map at cycle.between; walk = walk_up cycle.start cycle.between cycle.start cycle.walk }

    pub cycle_down : HasCycle members pairs → HasCycle (alone heads) (edges_of heads pairs)
    cycle_down cycle = record { start = first_of cycle.start; between = map first_of cycle.between; walk = walk_down cycle.start cycle.between cycle.start cycle.walk }

    -- a node is placed exactly where its name is
    placed_up : (placed : List ℕ) (x : N) → 0 < length (members x) → Contains placed (first_of x) → Contains (map at placed) x
    placed_up placed x has inside = subst (λ (y : N). Contains (map at placed) y) (sym (at_first x has)) (in_map at placed (first_of x) inside)

    placed_down : (placed : List ℕ) → ((k : ℕ) → Contains placed k → Contains heads k) → (a : ℕ) → Contains heads a → Contains (map at placed) (at a) → Contains placed a
    placed_down placed names a name inside =
        let one = from_map at placed (at a) inside in
        subst (λ (k : ℕ). Contains placed k) (same_name one.0 a (names one.0 one.1) name one.2) one.1

    next_up : (placed : List ℕ) → ((k : ℕ) → Contains placed k → Contains heads k) → (id : ℕ)
        → IsNext (alone heads) (edges_of heads pairs) placed id → IsNext members pairs (map at placed) (at id)
    unfolding first_of
    next_up placed names id next =
        let name = alone_node heads id next.ready.is_node in
        let is = name_of id name in
        record {
          ready = record {
            is_node = is.1;
            unplaced = λ inside. next.ready.unplaced (placed_down placed names id name inside);
            released = λ other stands.
                let down : StandsBefore (alone heads) (edges_of heads pairs) (first_of other) id =
                subst (λ (b : ℕ). StandsBefore (alone heads) (edges_of heads pairs) (first_of other) b) is.2 (stands_down other (at id) stands) in
                placed_up placed other (some_in (members other) stands.pair.0 stands.from) (next.ready.released (first_of other) down);
          };
          least = λ other ready.
              let there = has_name other ready.is_node in
              let free : IsReady (alone heads) (edges_of heads pairs) placed (first_of other) = record {
                is_node = node_alone heads (first_of other) there;
                unplaced = λ inside. ready.unplaced (placed_up placed other ready.is_node inside);
                released = λ a stands.
                    let up : StandsBefore members pairs (at a) other =
                    subst (λ (y : N). StandsBefore members pairs (at a) y) (sym (at_first other ready.is_node)) (stands_up a (first_of other) stands) in
                    placed_down placed names a (in_alone heads a stands.pair.0 stands.from).0 (ready.released (at a) up);
              } in
              omega (arith, next.least (first_of other) free, first_alone heads id name, first_alone heads (first_of other) there, is.2);
        }

    goes_up : (placed order : List ℕ) → ((k : ℕ) → Contains placed k → Contains heads k) → GoesOn (alone heads) (edges_of heads pairs) placed order → GoesOn members pairs (map at placed) (map at order)
    goes_up placed [] names goes = λ node has. placed_up placed node has (goes (first_of node) (node_alone heads (first_of node) (has_name node has)))
    goes_up placed (id ∷ rest) names goes = (
      next_up placed names id goes.0,
      subst (λ (xs : List N). GoesOn members pairs xs (map at rest)) (map-append at placed (id ∷ []))
          (goes_up (placed ++ id ∷ []) rest (λ k inside. elim (Contains-push_cases placed id k inside) [
            | inl before ↦ names k before
            | inr same ↦ subst (λ (h : ℕ). Contains heads h) same (alone_node heads id goes.0.ready.is_node)
          ]) goes.1),
    )

    pub order_up : (order : List ℕ) → IsNodeOrder (alone heads) (edges_of heads pairs) order → IsNodeOrder members pairs (map at order)
    order_up order is = goes_up [] order (λ k inside. absurd (none_in_nil k inside)) is

  pub closes_up : (pairs : List (ℕ × ℕ)) (within : All (λ pair. (pair.0 < parts) × (pair.1 < parts)) pairs) (number : ℕ)
      → ClosesCycle (alone heads) (edges_of heads pairs) number → ClosesCycle members pairs number
  closes_up pairs within number closes =
      let P : List (ℕ × ℕ) → Type 0 = λ edges. HasCycle (alone heads) edges in
      record {
        in_range = omega (arith, closes.in_range, length-map {B = ℕ × ℕ} pairs (λ (pair : ℕ × ℕ). (slice_index heads pair.0, slice_index heads pair.1)));
        closed = cycle_up (take (number + 1) pairs) (All-take (λ pair. (pair.0 < parts) × (pair.1 < parts)) (number + 1) pairs within)
            (subst P (take-map (λ (pair : ℕ × ℕ). (slice_index heads pair.0, slice_index heads pair.1)) (number + 1) pairs) closes.closed);
        first = λ cycle. closes.first
            (subst P (sym (take-map (λ (pair : ℕ × ℕ). (slice_index heads pair.0, slice_index heads pair.1)) number pairs))
            (cycle_down (take number pairs) (All-take (λ pair. (pair.0 < parts) × (pair.1 < parts)) number pairs within) cycle));
      }
