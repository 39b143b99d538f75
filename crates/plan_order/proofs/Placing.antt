-- The numbers are placed one by one, each the least of those that wait for none.
use Rattle.std.proofs.Common.{◌≡◌, ℕ, zero, suc, ◌+◌, ◌<◌, ◌≤◌, ◌⊎◌, ◌↔◌, inl, inr, length, Bool, true, false, not, cond, List, [], ◌∷◌, ◌++◌, refl, ap, sym, subst, ◌∙◌, append_assoc, arith, All, Contains, IsTrue, slice_index, count_by, nat_lt, eqb, ◌||◌}
use Rattle.std.specs.List.{list_any}
use Rattle.std.specs.Ordering.{nat_cmp}
use Rattle.std.specs.BTreeSet.{BTreeSet, contains, Updates}
use Rattle.std.specs.BTreeMap.{is_at}
use Rattle.std.proofs.lemmas.Bool.Decides.{nat_tests}
use Rattle.std.proofs.lemmas.Bool.{cases_Bool, false≢true, ltb-true, ltb-false, eqb-true, or_parts, eq-eqb, ne_eqb, cases_eq}
use Rattle.std.proofs.lemmas.List.Elements.{Contains-push, Contains-push_cases, Contains-append_left, All-contains}
use Rattle.std.proofs.lemmas.List.Sums.{sum_by-cons}
use Rattle.plan_order.specs.Edges.{alone, edges_to, edges_between}
use Rattle.plan_order.specs.NodeOrder.{first_member, StandsBefore, IsNext, GoesOn, IsNodeOrder}
use Rattle.plan_order.specs.Cycle.{HasCycle}
use Rattle.plan_order.proofs.Loops.{head_in, tail_in, in_cons, cycle_among}
use Rattle.plan_order.proofs.Orders.{append_nil, none_in_nil}
use Rattle.plan_order.proofs.EdgeSteps.{times}
use Rattle.plan_order.proofs.Waiting.{is_in, in_from_is_in, is_in_from_in, is_in_push, counted, found, waiting, waits_at_first, waiting_less, placed_before, one_unplaced, waits_for_none, edge_found}

-- each number is a node of its own
pub alone_is : (ids : List ℕ) (b : ℕ) → Contains ids b → alone ids b ≡ b ∷ []
alone_is ids b inside = ap (λ t. cond t (b ∷ []) []) (is_in_from_in ids b inside)

pub in_alone : (ids : List ℕ) (b x : ℕ) → Contains (alone ids b) x → Contains ids b × (b ≡ x)
in_alone ids b x inside =
    elim (cases_Bool (is_in ids b)) [
      | inl holds ↦ (
        in_from_is_in ids b holds,
        elim (in_cons b [] x (subst (λ (xs : List ℕ). Contains xs x) (ap (λ t. cond t (b ∷ []) []) holds) inside)) [
          | inl same ↦ same
          | inr none ↦ absurd (none_in_nil x none)
        ],
      )
      | inr fails ↦ absurd (none_in_nil x (subst (λ (xs : List ℕ). Contains xs x) (ap (λ t. cond t (b ∷ []) []) fails) inside))
    ]

pub alone_node : (ids : List ℕ) (b : ℕ) → 0 < length (alone ids b) → Contains ids b
alone_node ids b has =
    elim (cases_Bool (is_in ids b)) [
      | inl holds ↦ in_from_is_in ids b holds
      | inr fails ↦ absurd (omega (arith, has, ap (λ t. length (cond t (b ∷ []) [])) fails))
    ]

pub node_alone : (ids : List ℕ) (b : ℕ) → Contains ids b → 0 < length (alone ids b)
node_alone ids b inside = omega (arith, ap length (alone_is ids b inside))

pub first_alone : (ids : List ℕ) (b : ℕ) → Contains ids b → first_member (alone ids b) ≡ b
first_alone ids b inside = ap first_member (alone_is ids b inside)

-- the edges are what stands before what
pub edge_stands : (ids : List ℕ) (edges : List (ℕ × ℕ)) (a b : ℕ) → Contains ids a → Contains ids b → Contains edges (a, b) → StandsBefore (alone ids) edges a b
edge_stands ids edges a b from to inside =
    record {
      pair = (a, b);
      listed = inside;
      from = subst (λ (xs : List ℕ). Contains xs a) (sym (alone_is ids a from)) (head_in a []);
      to = subst (λ (xs : List ℕ). Contains xs b) (sym (alone_is ids b to)) (head_in b []);
    }

pub stands_edge : (ids : List ℕ) (edges : List (ℕ × ℕ)) (a b : ℕ) → StandsBefore (alone ids) edges a b → Contains edges (a, b)
stands_edge ids edges a b stands =
    subst (λ (x : ℕ). Contains edges (x, b)) (sym (in_alone ids a stands.pair.0 stands.from).1)
    (subst (λ (y : ℕ). Contains edges (stands.pair.0, y)) (sym (in_alone ids b stands.pair.1 stands.to).1) stands.listed)

-- both ends of each edge are among the numbers
abbrev pub Joins : List ℕ → List (ℕ × ℕ) → Type 0
Joins ids edges = All (λ edge. Contains ids edge.0 × Contains ids edge.1) edges

cases_none : (n : ℕ) → (n ≡ 0) ⊎ (0 < n)
cases_none zero = inl refl
cases_none (suc n) = inr (omega arith)

-- what the loop keeps: the order so far can be gone on with, and the counts are of those that are not placed
pub record Placing (ids : List ℕ) (edges : List (ℕ × ℕ)) (order waits : List ℕ) (ready : BTreeSet ℕ) : Type 0 where
  pub goes_on : (rest : List ℕ) → GoesOn (alone ids) edges order rest → IsNodeOrder (alone ids) edges (order ++ rest)
  pub released : (b : ℕ) → Contains order b → waiting order edges b ≡ 0
  pub counts : (b : ℕ) → slice_index waits b ≡ waiting order edges b
  pub free : (b : ℕ) → IsTrue (contains nat_cmp ready b) ↔ (Contains ids b × (Contains order b → ⊥) × (waiting order edges b ≡ 0))

pub placing_first : (ids : List ℕ) (edges : List (ℕ × ℕ)) (waits : List ℕ) (ready : BTreeSet ℕ)
    → ((b : ℕ) → slice_index waits b ≡ edges_to edges b)
    → ((b : ℕ) → IsTrue (contains nat_cmp ready b) ↔ (Contains ids b × (slice_index waits b ≡ 0)))
    → Placing ids edges [] waits ready
placing_first ids edges waits ready counts free =
    record {
      goes_on = λ rest goes. goes;
      released = λ b inside. absurd (none_in_nil b inside);
      counts = λ b. counts b ∙ sym (waits_at_first edges b);
      free = λ b. (
        λ is. let both = (free b).0 is in (both.0, none_in_nil b, waits_at_first edges b ∙ (sym (counts b) ∙ both.1)),
        λ (inside, new, none). (free b).1 (inside, counts b ∙ (sym (waits_at_first edges b) ∙ none)),
      );
    }

module _ (ids : List ℕ) (edges : List (ℕ × ℕ)) (joins : Joins ids edges) (order waits : List ℕ) (ready : BTreeSet ℕ) (so_far : Placing ids edges order waits ready) where
  -- the least of those that are ready is the next one
  next_one : (id : ℕ) → IsTrue (contains nat_cmp ready id) → ((q : ℕ) → IsTrue (contains nat_cmp ready q) → id ≤ q) → IsNext (alone ids) edges order id
  next_one id is least =
      let own = (so_far.free id).0 is in
      record {
        ready = record {
          is_node = node_alone ids id own.0;
          unplaced = own.1;
          released = λ other stands. placed_before order edges other id own.2 (stands_edge ids edges other id stands);
        };
        least = λ other free.
            let inside = alone_node ids other free.is_node in
            let none = waits_for_none order edges other
            (λ a edge. free.released a (edge_stands ids edges a other (All-contains (λ e. Contains ids e.0 × Contains ids e.1) edges (a, other) joins edge).0 inside edge)) in
            omega (arith, least other ((so_far.free other).1 (inside, free.unplaced, none)), first_alone ids id own.0, first_alone ids other inside);
      }

  module _ (id : ℕ) (is : IsTrue (contains nat_cmp ready id)) (ends : List ℕ) (between : (b : ℕ) → times b ends ≡ edges_between edges id b) where
    own : Contains ids id × (Contains order id → ⊥) × (waiting order edges id ≡ 0)
    own = (so_far.free id).0 is

    less : (b : ℕ) → waiting (order ++ id ∷ []) edges b + edges_between edges id b ≡ waiting order edges b
    unfolding own
    less b = waiting_less order id own.1 edges b

    pub enough : (b : ℕ) → times b ends ≤ slice_index waits b
    enough b = omega (arith, between b, so_far.counts b, less b)

    pub ends_inside : (b : ℕ) → Contains ends b → Contains ids b
    ends_inside b inside =
        let some : 0 < times b ends = counted (λ end. eqb end b) ends b inside (eq-eqb b b refl) in
        (All-contains (λ e. Contains ids e.0 × Contains ids e.1) edges (id, b) joins (edge_found edges id b (omega (arith, some, between b)))).1

    -- one more is placed, and those that its edges lead to wait for less
    pub placing_more : (rest : BTreeSet ℕ) (waits' : List ℕ) (ready' : BTreeSet ℕ)
        → ((q : ℕ) → IsTrue (contains nat_cmp ready q) → id ≤ q)
        → ((q : ℕ) → IsTrue (contains nat_cmp rest q) ↔ ((id ≡ q → ⊥) × IsTrue (contains nat_cmp ready q)))
        → ((b : ℕ) → slice_index waits' b + times b ends ≡ slice_index waits b)
        → ((b : ℕ) → IsTrue (contains nat_cmp ready' b) ↔ (IsTrue (contains nat_cmp rest b) ⊎ (Contains ends b × (slice_index waits' b ≡ 0))))
        → Placing ids edges (order ++ id ∷ []) waits' ready'
    unfolding own
    placing_more rest waits' ready' least others lowered freed =
        record {
          goes_on = λ after goes.
              subst (λ (xs : List ℕ). IsNodeOrder (alone ids) edges xs) (sym (append_assoc order (id ∷ []) after))
              (so_far.goes_on (id ∷ after) (next_one id is least, goes));
          released = λ b inside. elim (Contains-push_cases order id b inside) [
            | inl before ↦ omega (arith, less b, so_far.released b before)
            | inr same ↦ omega (arith, less b, subst (λ (z : ℕ). waiting order edges z ≡ 0) same own.2)
          ];
          counts = λ b. counts' b;
          free = λ b. (
            λ now. elim ((freed b).0 now) [
              | inl before ↦
                  let other = (others b).0 before in
                  let free = (so_far.free b).0 other.1 in
                  (free.0, (λ inside. elim (Contains-push_cases order id b inside) [ inl early ↦ free.1 early | inr same ↦ other.0 same ]), omega (arith, less b, free.2))
              | inr here ↦ (
                ends_inside b here.0,
                (λ inside. elim (Contains-push_cases order id b inside) [
                  | inl early ↦ omega (arith, so_far.released b early, led b here.0)
                  | inr same ↦ omega (arith, subst (λ (z : ℕ). waiting order edges z ≡ 0) same own.2, led b here.0)
                ]),
                sym (counts' b) ∙ here.1,
              )
            ],
            λ (inside, new, none). elim (cases_none (waiting order edges b)) [
              | inl was ↦
                  (freed b).1 (inl ((others b).1 (
                    (λ same. new (subst (λ (z : ℕ). Contains (order ++ id ∷ []) z) same (Contains-push order id))),
                    (so_far.free b).1 (inside, (λ early. new (Contains-append_left order (id ∷ []) b early)), was),
                  )))
              | inr some ↦ (freed b).1 (inr (times_in b (omega (arith, some, none, less b, between b)), counts' b ∙ none))
            ],
          );
        }
      where
        counts' : (b : ℕ) → slice_index waits' b ≡ waiting (order ++ id ∷ []) edges b
        counts' b = omega (arith, between b, lowered b, so_far.counts b, less b)

        led : (b : ℕ) → Contains ends b → 0 < waiting order edges b
        led b inside = omega (arith, counted (λ end. eqb end b) ends b inside (eq-eqb b b refl), between b, less b)

        times_in : (b : ℕ) → 0 < times b ends → Contains ends b
        times_in b some =
            let one = found (λ end. eqb end b) ends some in
            subst (λ (z : ℕ). Contains ends z) (eqb-true one.0 b one.2) one.1

  -- with none left that is ready, those that are not placed wait for each other
  module _ (none_left : (b : ℕ) → IsTrue (contains nat_cmp ready b) → ⊥) where
    waits_on : (b : ℕ) → Contains ids b → (Contains order b → ⊥) → 0 < waiting order edges b
    waits_on b inside new =
        elim (cases_none (waiting order edges b)) [
          | inl none ↦ absurd (none_left b ((so_far.free b).1 (inside, new, none)))
          | inr some ↦ some
        ]

    pub stuck : list_any (λ id. nat_lt 0 (slice_index waits id)) ids ≡ true → HasCycle (alone ids) edges
    stuck some =
        let one = waiting_one ids some in
        cycle_among (alone ids) edges (λ b. Contains ids b × (Contains order b → ⊥)) ids (λ b kept. kept.0)
        (λ b kept.
        let before = one_unplaced order edges b (waits_on b kept.0 kept.1) in
        let inside = (All-contains (λ e. Contains ids e.0 × Contains ids e.1) edges (before.0, b) joins before.1).0 in
        (before.0, edge_stands ids edges before.0 b inside kept.0 before.1, (inside, before.2)))
        one.0 (one.1, λ placed. omega (arith, so_far.released one.0 placed, so_far.counts one.0, one.2))
      where
        waiting_one : (xs : List ℕ) → list_any (λ id. nat_lt 0 (slice_index waits id)) xs ≡ true → (x : ℕ) × Contains xs x × (0 < slice_index waits x)
        waiting_one [] is = absurd (false≢true is)
        waiting_one (x ∷ xs) is =
            elim (cases_Bool (nat_lt 0 (slice_index waits x))) [
              | inl holds ↦ (x, head_in x xs, ltb-true 0 (slice_index waits x) holds)
              | inr fails ↦
                  let one = waiting_one xs (ap (λ t. t || list_any (λ id. nat_lt 0 (slice_index waits id)) xs) (sym fails) ∙ is) in
                  (one.0, tail_in x xs one.0 one.1, one.2)
            ]

    pub finished : list_any (λ id. nat_lt 0 (slice_index waits id)) ids ≡ false → IsNodeOrder (alone ids) edges order
    finished none =
        subst (λ (xs : List ℕ). IsNodeOrder (alone ids) edges xs) (append_nil order)
        (so_far.goes_on [] (λ node is. placed node (alone_node ids node is)))
      where
        waits_none : (xs : List ℕ) → list_any (λ id. nat_lt 0 (slice_index waits id)) xs ≡ false → (x : ℕ) → Contains xs x → slice_index waits x ≡ 0
        waits_none [] is x inside = absurd (none_in_nil x inside)
        waits_none (y ∷ xs) is x inside =
            let both = or_parts (nat_lt 0 (slice_index waits y)) (list_any (λ id. nat_lt 0 (slice_index waits id)) xs) is in
            elim (in_cons y xs x inside) [
              | inl same ↦ subst (λ (z : ℕ). slice_index waits z ≡ 0) same (omega (arith, ltb-false 0 (slice_index waits y) both.0))
              | inr rest ↦ waits_none xs both.1 x rest
            ]

        placed : (node : ℕ) → Contains ids node → Contains order node
        placed node inside =
            elim (cases_Bool (is_in order node)) [
              | inl holds ↦ in_from_is_in order node holds
              | inr fails ↦
                  let some = waits_on node inside (λ there. false≢true (sym fails ∙ is_in_from_in order node there)) in
                  absurd (omega (arith, some, so_far.counts node, waits_none ids none node inside))
            ]

-- fewer are not placed once one more is
pub fewer_left : (ids order : List ℕ) (id : ℕ) → Contains ids id → (Contains order id → ⊥)
    → count_by (λ b. not (is_in (order ++ id ∷ []) b)) ids < count_by (λ b. not (is_in order b)) ids
fewer_left ids order id inside new = strictly ids inside
  where
    here : (b : ℕ) → cond (not (is_in (order ++ id ∷ []) b)) 1 0 + 0 ≤ cond (not (is_in order b)) 1 0
    here b = rw (is_in_push order id b) (bools (is_in order b) (eqb id b))
      where
        bools : (i k : Bool) → cond (not (i || k)) 1 0 + 0 ≤ cond (not i) 1 0
        bools true k = omega arith
        bools false true = omega arith
        bools false false = omega arith

    at_it : cond (not (is_in (order ++ id ∷ []) id)) 1 0 + 0 < cond (not (is_in order id)) 1 0
    at_it =
        elim (cases_Bool (is_in order id)) [
          | inl holds ↦ absurd (new (in_from_is_in order id holds))
          | inr fails ↦ rw (is_in_push order id id, fails, eq-eqb id id refl) (omega arith)
        ]

    weakly : (xs : List ℕ) → count_by (λ b. not (is_in (order ++ id ∷ []) b)) xs ≤ count_by (λ b. not (is_in order b)) xs
    weakly [] = omega arith
    weakly (x ∷ xs) =
        omega (arith, here x, weakly xs, sum_by-cons (λ b. cond (not (is_in (order ++ id ∷ []) b)) 1 0) x xs, sum_by-cons (λ b. cond (not (is_in order b)) 1 0) x xs)

    strictly : (xs : List ℕ) → Contains xs id → count_by (λ b. not (is_in (order ++ id ∷ []) b)) xs < count_by (λ b. not (is_in order b)) xs
    strictly [] there = absurd (none_in_nil id there)
    strictly (x ∷ xs) there =
        let less_by = sum_by-cons (λ b. cond (not (is_in (order ++ id ∷ []) b)) 1 0) x xs in
        let more_by = sum_by-cons (λ b. cond (not (is_in order b)) 1 0) x xs in
        elim (in_cons x xs id there) [
          | inl same ↦
              let strict : cond (not (is_in (order ++ id ∷ []) x)) 1 0 + 0 < cond (not (is_in order x)) 1 0 =
              subst (λ (z : ℕ). cond (not (is_in (order ++ id ∷ []) z)) 1 0 + 0 < cond (not (is_in order z)) 1 0) (sym same) at_it in
              omega (arith, strict, weakly xs, less_by, more_by)
          | inr rest ↦ omega (arith, here x, strictly xs rest, less_by, more_by)
        ]

at_is : (id q : ℕ) → is_at (nat_cmp id) q ≡ eqb id q
at_is id q = grind (arith, nat_tests)

-- what is left of a set without its least number
pub others_left : (ready rest : BTreeSet ℕ) (id : ℕ) → Updates nat_cmp ready rest id false
    → (q : ℕ) → IsTrue (contains nat_cmp rest q) ↔ ((id ≡ q → ⊥) × IsTrue (contains nat_cmp ready q))
others_left ready rest id updates q =
    elim (cases_eq id q) [
      | inl same ↦
          let none : contains nat_cmp rest q ≡ false = updates.0 q ∙ ap (λ t. cond t false (contains nat_cmp ready q)) (at_is id q ∙ eq-eqb id q same) in
          ((λ is. absurd (false≢true (sym none ∙ is))), (λ (apart, is). absurd (apart same)))
      | inr apart ↦
          let as_before : contains nat_cmp rest q ≡ contains nat_cmp ready q =
          updates.0 q ∙ ap (λ t. cond t false (contains nat_cmp ready q)) (at_is id q ∙ ne_eqb id q apart) in
          ((λ is. (apart, sym as_before ∙ is)), (λ (_, is). as_before ∙ is))
    ]
