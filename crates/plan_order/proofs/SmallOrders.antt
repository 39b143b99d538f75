-- The order of a small plan, by a test that computes: `order_from_test .. refl` proves it.
use Rattle.std.proofs.Common.{◌≡◌, ℕ, zero, suc, ◌<◌, inl, inr, length, get_or, Bool, true, false, not, ◌&&◌, ◌||◌, cond, nat_lt, leb, eqb, List, [], ◌∷◌, ◌++◌, refl, ap, sym, subst, ◌∙◌, arith, Contains}
use Rattle.std.specs.List.{list_any, list_all}
use Rattle.std.proofs.lemmas.Bool.{and_parts, and_from, or_cases, ltb-true, leb-true, eqb-true, eq-eqb, cases_Bool, false≢true, lt-ltb}
use Rattle.std.proofs.lemmas.List.Elements.{All-contains}
use Rattle.std.proofs.lemmas.List.Sums.{AllPass-from_list_all, list_all-from_AllPass}
use Rattle.plan_order.specs.declared.node.Node.{Node}
use Rattle.plan_order.specs.declared.node.Node.TheVariants.{Single, Group}
use Rattle.plan_order.specs.NodeOrder.{first_member, IsReady, GoesOn, IsNodeOrder}
use Rattle.plan_order.specs.Groups.{members_of}
use Rattle.plan_order.proofs.Loops.{head_in, tail_in, in_cons}
use Rattle.plan_order.proofs.Waiting.{is_in, in_from_is_in, is_in_from_in}

abbrev pub same_node : Node → Node → Bool
same_node (Single p) (Single q) = eqb p q
same_node (Single p) (Group h) = false
same_node (Group g) (Single q) = false
same_node (Group g) (Group h) = eqb g h

same_is : (x y : Node) → same_node x y ≡ true → x ≡ y
same_is (Single p) (Single q) is = ap Single (eqb-true p q is)
same_is (Single p) (Group h) is = absurd (false≢true is)
same_is (Group g) (Single q) is = absurd (false≢true is)
same_is (Group g) (Group h) is = ap Group (eqb-true g h is)

is_same : (x : Node) → same_node x x ≡ true
is_same (Single p) = eq-eqb p p refl
is_same (Group g) = eq-eqb g g refl

-- whether a node is placed
abbrev pub placed_in : List Node → Node → Bool
placed_in placed x = list_any (λ y. same_node y x) placed

pub placed_is : (placed : List Node) (x : Node) → placed_in placed x ≡ true → Contains placed x
placed_is [] x is = absurd (false≢true is)
placed_is (y ∷ placed) x is =
    elim (or_cases (same_node y x) (placed_in placed x) is) [
      | inl same ↦ subst (λ (z : Node). Contains (y ∷ placed) z) (same_is y x same) (head_in y placed)
      | inr rest ↦ tail_in y placed x (placed_is placed x rest)
    ]

pub is_placed : (placed : List Node) (x : Node) → Contains placed x → placed_in placed x ≡ true
is_placed [] x inside = absurd (omega (arith, inside.1))
is_placed (y ∷ placed) x inside =
    elim (in_cons y placed x inside) [
      | inl same ↦ ap (λ t. t || placed_in placed x) (subst (λ (z : Node). same_node y z ≡ true) same (is_same y))
      | inr rest ↦ elim (same_node y x) as (λ t. (t || placed_in placed x) ≡ true) [ true ↦ refl | false ↦ is_placed placed x rest ]
    ]

module _ (members : Node → List ℕ) (pairs : List (ℕ × ℕ)) (nodes : List Node) where
  abbrev pub stands : Node → Node → Bool
  stands x y = list_any (λ pair. is_in (members x) pair.0 && is_in (members y) pair.1) pairs

  abbrev pub is_ready : List Node → Node → Bool
  is_ready placed y = (nat_lt 0 (length (members y)) && not (placed_in placed y)) && list_all (λ x. not (stands x y) || placed_in placed x) nodes

  abbrev pub is_next : List Node → Node → Bool
  is_next placed y = is_ready placed y && list_all (λ x. not (is_ready placed x) || leb (first_member (members y)) (first_member (members x))) nodes

  abbrev pub goes_on : List Node → List Node → Bool
  goes_on placed [] = list_all (placed_in placed) nodes
  goes_on placed (node ∷ rest) = is_next placed node && goes_on (placed ++ node ∷ []) rest

  found_in : (x y : Node) (list : List (ℕ × ℕ)) (pair : ℕ × ℕ) → Contains list pair → Contains (members x) pair.0 → Contains (members y) pair.1
      → list_any (λ pair. is_in (members x) pair.0 && is_in (members y) pair.1) list ≡ true
  found_in x y [] pair inside from to = absurd (omega (arith, inside.1))
  found_in x y (other ∷ list) pair inside from to =
      elim (in_cons other list pair inside) [
        | inl same ↦
            ap (λ t. t || list_any (λ pair. is_in (members x) pair.0 && is_in (members y) pair.1) list)
            (subst (λ (p : ℕ × ℕ). (is_in (members x) p.0 && is_in (members y) p.1) ≡ true) (sym same)
            (and_from (is_in (members x) pair.0) (is_in (members y) pair.1) (is_in_from_in (members x) pair.0 from) (is_in_from_in (members y) pair.1 to)))
        | inr rest ↦
            elim (is_in (members x) other.0 && is_in (members y) other.1) as (λ t. (t || list_any (λ pair. is_in (members x) pair.0 && is_in (members y) pair.1) list) ≡ true)
            [ true ↦ refl | false ↦ found_in x y list pair rest from to ]
      ]

  pub found_pair : (x y : Node) (list : List (ℕ × ℕ)) → list_any (λ pair. is_in (members x) pair.0 && is_in (members y) pair.1) list ≡ true
      → (pair : ℕ × ℕ) × Contains list pair × Contains (members x) pair.0 × Contains (members y) pair.1
  found_pair x y [] is = absurd (false≢true is)
  found_pair x y (pair ∷ list) is =
      elim (or_cases (is_in (members x) pair.0 && is_in (members y) pair.1) (list_any (λ p. is_in (members x) p.0 && is_in (members y) p.1) list) is) [
        | inl here ↦
            let both = and_parts (is_in (members x) pair.0) (is_in (members y) pair.1) here in
            (pair, head_in pair list, in_from_is_in (members x) pair.0 both.0, in_from_is_in (members y) pair.1 both.1)
        | inr rest ↦ let later = found_pair x y list rest in (later.0, tail_in pair list later.0 later.1, later.2, later.3)
      ]

  module _ (all : (x : Node) → 0 < length (members x) → Contains nodes x) where
    implied : (t s : Bool) → (not t || s) ≡ true → t ≡ true → s ≡ true
    implied true s either is = either
    implied false s either is = absurd (false≢true is)

    pub ready_told : (placed : List Node) (y : Node) → is_ready placed y ≡ true → IsReady members pairs placed y
    ready_told placed y is =
        let both = and_parts (nat_lt 0 (length (members y)) && not (placed_in placed y)) (list_all (λ x. not (stands x y) || placed_in placed x) nodes) is in
        let own = and_parts (nat_lt 0 (length (members y))) (not (placed_in placed y)) both.0 in
        record {
          is_node = ltb-true 0 (length (members y)) own.0;
          unplaced = λ inside. false≢true (sym (ap not (is_placed placed y inside)) ∙ own.1);
          released = λ other before.
              let node = all other (omega (arith, before.from.1)) in
              let either = All-contains (λ x. (not (stands x y) || placed_in placed x) ≡ true) nodes other (AllPass-from_list_all (λ x. not (stands x y) || placed_in placed x) nodes both.1) node in
              placed_is placed other (implied (stands other y) (placed_in placed other) either (found_in other y pairs before.pair before.listed before.from before.to));
        }

    pub ready_tested : (placed : List Node) (y : Node) → IsReady members pairs placed y → is_ready placed y ≡ true
    ready_tested placed y ready =
        and_from (nat_lt 0 (length (members y)) && not (placed_in placed y)) (list_all (λ x. not (stands x y) || placed_in placed x) nodes)
        (and_from (nat_lt 0 (length (members y))) (not (placed_in placed y)) (lt-ltb 0 (length (members y)) ready.is_node)
        (elim (cases_Bool (placed_in placed y)) [ inl holds ↦ absurd (ready.unplaced (placed_is placed y holds)) | inr fails ↦ ap not fails ]))
        (list_all-from_AllPass (λ x. not (stands x y) || placed_in placed x) nodes (λ k d within. one (get_or nodes k d)))
      where
        one : (x : Node) → (not (stands x y) || placed_in placed x) ≡ true
        one x =
            elim (cases_Bool (stands x y)) [
              | inl holds ↦
                  let pair = found_pair x y pairs holds in
                  ap (λ t. not t || placed_in placed x) holds
                  ∙ is_placed placed x (ready.released x (record { pair = pair.0; listed = pair.1; from = pair.2; to = pair.3 }))
              | inr fails ↦ ap (λ t. not t || placed_in placed x) fails
            ]

    goes_told : (placed order : List Node) → goes_on placed order ≡ true → GoesOn members pairs placed order
    goes_told placed [] is = λ node has. placed_is placed node (All-contains (λ x. placed_in placed x ≡ true) nodes node (AllPass-from_list_all (placed_in placed) nodes is) (all node has))
    goes_told placed (node ∷ rest) is =
        let both = and_parts (is_next placed node) (goes_on (placed ++ node ∷ []) rest) is in
        let own = and_parts (is_ready placed node) (list_all (λ x. not (is_ready placed x) || leb (first_member (members node)) (first_member (members x))) nodes) both.0 in (
          record {
            ready = ready_told placed node own.0;
            least = λ other ready.
                let either = All-contains (λ x. (not (is_ready placed x) || leb (first_member (members node)) (first_member (members x))) ≡ true) nodes other
                (AllPass-from_list_all (λ x. not (is_ready placed x) || leb (first_member (members node)) (first_member (members x))) nodes own.1) (all other ready.is_node) in
                leb-true (first_member (members node)) (first_member (members other))
                (implied (is_ready placed other) (leb (first_member (members node)) (first_member (members other))) either (ready_tested placed other ready));
          },
          goes_told (placed ++ node ∷ []) rest both.1,
        )

    pub order_from_test : (order : List Node) → goes_on [] order ≡ true → IsNodeOrder members pairs order
    order_from_test order is = goes_told [] order is

-- an example: of three participants the second comes before the first
three_nodes : List Node
three_nodes = Single 0 ∷ Single 1 ∷ Single 2 ∷ []

all_three : (x : Node) → 0 < length (members_of 3 [] x) → Contains three_nodes x
unfolding three_nodes
all_three (Single p) has =
    elim (cases_Bool (nat_lt p 3)) [
      | inl holds ↦ one_of p (ltb-true p 3 holds)
      | inr fails ↦ absurd (omega (arith, has, ap (λ t. length (cond (t && true) (p ∷ []) [])) fails))
    ]
  where
    one_of : (p : ℕ) → p < 3 → Contains (Single 0 ∷ Single 1 ∷ Single 2 ∷ []) (Single p)
    one_of zero below = (0, omega arith, refl)
    one_of (suc zero) below = (1, omega arith, refl)
    one_of (suc (suc zero)) below = (2, omega arith, refl)
    one_of (suc (suc (suc p))) below = absurd (omega arith)
all_three (Group g) has = absurd (omega (arith, has))

second_first : IsNodeOrder (members_of 3 []) ((1, 0) ∷ []) (Single 1 ∷ Single 0 ∷ Single 2 ∷ [])
unfolding three_nodes
second_first = order_from_test (members_of 3 []) ((1, 0) ∷ []) (Single 0 ∷ Single 1 ∷ Single 2 ∷ []) all_three (Single 1 ∷ Single 0 ∷ Single 2 ∷ []) refl
