-- The nodes of groups are named by their first members.
use Rattle.std.proofs.Common.{◌≡◌, ℕ, zero, suc, ◌<◌, inl, inr, length, get_or, map, true, not, ◌&&◌, cond, List, [], ◌∷◌, refl, ap, sym, subst, ◌∙◌, arith, Contains, nat_lt}
use Rattle.std.proofs.lemmas.Bool.{cases_lt, false≢true, and_parts, ltb-true, or_left, or_right}
use Rattle.std.proofs.lemmas.List.{get_or-map, get_or_past, length-map}
use Rattle.std.proofs.lemmas.List.Elements.{All-contains}
use Rattle.plan_order.specs.declared.node.Node.{Node}
use Rattle.plan_order.specs.declared.node.Node.TheVariants.{Single, Group}
use Rattle.plan_order.specs.NodeOrder.{first_member}
use Rattle.plan_order.specs.Groups.{is_grouped, members_of, AreGroups}
use Rattle.plan_order.specs.Heads.{IsFilled, head_of}
use Rattle.plan_order.proofs.Orders.{none_in_nil}
use Rattle.plan_order.proofs.GroupNodes.{in_single}
use Rattle.plan_order.proofs.Named.{AreNamed}
use Rattle.plan_order.proofs.Waiting.{is_in, is_in_from_in}

pub grouped : (groups : List (List ℕ)) (g part : ℕ) → Contains (get_or groups g []) part → is_grouped groups part ≡ true
grouped [] g part inside = absurd (none_in_nil part inside)
grouped (group ∷ groups) zero part inside = or_left (is_in group part) (is_grouped groups part) (is_in_from_in group part inside)
grouped (group ∷ groups) (suc g) part inside = or_right (is_in group part) (is_grouped groups part) (grouped groups g part inside)

alone_ungrouped : (parts : ℕ) (groups : List (List ℕ)) (q g part : ℕ) → Contains (members_of parts groups (Single q)) part → Contains (get_or groups g []) part → ⊥
alone_ungrouped parts groups q g part one two =
    let own = in_single (nat_lt q parts && not (is_grouped groups q)) q part one in
    let both = and_parts (nat_lt q parts) (not (is_grouped groups q)) own.0 in
    let there : is_grouped groups q ≡ true = ap (is_grouped groups) own.1 ∙ grouped groups g part two in
    false≢true (sym (ap not there) ∙ both.1)

-- a participant is in one node
one_node : (parts : ℕ) (groups : List (List ℕ)) → AreGroups parts groups → (x y : Node) (part : ℕ)
    → Contains (members_of parts groups x) part → Contains (members_of parts groups y) part → x ≡ y
one_node parts groups are (Single q) (Single r) part one two =
    let p = in_single (nat_lt q parts && not (is_grouped groups q)) q part one in
    let p' = in_single (nat_lt r parts && not (is_grouped groups r)) r part two in
    ap Single (p.1 ∙ sym p'.1)
one_node parts groups are (Single q) (Group g) part one two = absurd (alone_ungrouped parts groups q g part one two)
one_node parts groups are (Group g) (Single q) part one two = absurd (alone_ungrouped parts groups q g part two one)
one_node parts groups are (Group g) (Group h) part one two = ap Group (are.disjoint g h part one two)

member_below : (parts : ℕ) (groups : List (List ℕ)) → AreGroups parts groups → (x : Node) (part : ℕ) → Contains (members_of parts groups x) part → part < parts
member_below parts groups are (Single q) part inside =
    let own = in_single (nat_lt q parts && not (is_grouped groups q)) q part inside in
    let both = and_parts (nat_lt q parts) (not (is_grouped groups q)) own.0 in
    subst (λ (p : ℕ). p < parts) own.1 (ltb-true q parts both.0)
member_below parts groups are (Group g) part inside =
    elim (cases_lt g (length groups)) [
      | inl within ↦ All-contains (λ p. p < parts) (get_or groups g []) part (are.in_range g [] within) inside
      | inr past ↦ absurd (none_in_nil part (subst (λ (xs : List ℕ). Contains xs part) (get_or_past groups g [] past) inside))
    ]

head_first : (parts : ℕ) (groups : List (List ℕ)) (x : Node) (part : ℕ) → Contains (members_of parts groups x) part → head_of groups x ≡ first_member (members_of parts groups x)
head_first parts groups (Single q) part inside =
    let own = in_single (nat_lt q parts && not (is_grouped groups q)) q part inside in
    sym (ap (λ t. first_member (cond t (q ∷ []) [])) own.0)
head_first parts groups (Group g) part inside = refl

pub filled : (parts : ℕ) (groups : List (List ℕ)) (x : Node) (part : ℕ) → Contains (members_of parts groups x) part → IsFilled groups x
filled parts groups (Single q) part inside = tt
filled parts groups (Group g) part inside = omega (arith, inside.1)

pub are_named : (parts : ℕ) (groups : List (List ℕ)) (nodes : List Node) (heads : List ℕ) → AreGroups parts groups → length nodes ≡ parts
    → ((part : ℕ) → part < parts → (d : Node) → Contains (members_of parts groups (get_or nodes part d)) part)
    → heads ≡ map (head_of groups) nodes → AreNamed (members_of parts groups) parts (λ p. get_or nodes p (Single 0)) heads
are_named parts groups nodes heads are count own is =
    record {
      own = λ p below. own p below (Single 0);
      only = λ x p inside.
          let below = member_below parts groups are x p inside in
          (below, one_node parts groups are x (get_or nodes p (Single 0)) p inside (own p below (Single 0)));
      count = ap length is ∙ (length-map nodes (head_of groups) ∙ count);
      first = λ p below.
          ap (λ xs. get_or xs p 0) is
          ∙ (get_or-map (head_of groups) nodes p (Single 0) 0 (omega (arith, below, count))
          ∙ head_first parts groups (get_or nodes p (Single 0)) p (own p below (Single 0)));
    }
