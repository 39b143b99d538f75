-- The node of each participant, as groups are made one by one.
use Rattle.std.proofs.Common.{◌≡◌, ℕ, zero, suc, ◌+◌, ◌<◌, ◌≤◌, inl, inr, length, get_or, set, take, map, Bool, true, false, not, ◌&&◌, cond, List, [], ◌∷◌, refl, ap, sym, subst, ◌∙◌, arith, Contains, nat_lt, eqb}
use Rattle.std.specs.List.{list_any}
use Rattle.std.proofs.lemmas.Bool.{cases_eq, cases_Bool, false≢true, and_parts, and_from, eqb-true, ne_eqb, or_from, or_parts, cases_lt, not-true}
use Rattle.std.proofs.lemmas.List.{get_or-set_same, get_or-set_other, get_or-take, get_or-map, length-map, length-take, get_or_past}
use Rattle.std.proofs.lemmas.List.Elements.{Contains-get_or, All-contains}
use Rattle.std.proofs.lemmas.Map.Views.{Contains-from_any}
use Rattle.std.proofs.lemmas.Map.Keys.{IsDistinct-from_apart}
use Rattle.std.proofs.lemmas.Map.Steps.{length-le_from_distinct_below}
use Rattle.plan_order.specs.declared.node.Node.{Node}
use Rattle.plan_order.specs.declared.node.Node.TheVariants.{Single, Group}
use Rattle.plan_order.specs.NodeOrder.{first_member}
use Rattle.plan_order.specs.Groups.{is_grouped, members_of, AreGroups}
use Rattle.plan_order.proofs.Loops.{head_in, in_cons}
use Rattle.plan_order.proofs.Orders.{none_in_nil}
use Rattle.plan_order.proofs.Ready.{seen_more}
use Rattle.plan_order.proofs.Waiting.{is_in, in_from_is_in, is_in_from_in}

-- one member more of a group gets its node
pub joined_more : {V : Type 0} (group : List ℕ) (nodes : List V) (new : V) (i part : ℕ) → i < length group → get_or group i 0 < length nodes
    → ((p : ℕ) → Contains (take i group) p → (d : V) → get_or nodes p d ≡ new)
    → Contains (take (i + 1) group) part → (d : V) → get_or (set nodes (get_or group i 0) new) part d ≡ new
joined_more group nodes new i part within bound so_far inside d =
    elim (cases_eq (get_or group i 0) part) [
      | inl same ↦
          subst (λ (p : ℕ). get_or (set nodes (get_or group i 0) new) p d ≡ new) same (get_or-set_same nodes (get_or group i 0) new d bound)
      | inr apart ↦ elim (seen_more group i part within inside) [
        | inl before ↦ get_or-set_other nodes (get_or group i 0) part new d (λ e. apart (sym e)) ∙ so_far part before d
        | inr same ↦ absurd (apart same)
      ]
    ]

pub others_stay : {V : Type 0} (group : List ℕ) (nodes : List V) (new : V) (i part : ℕ) (d : V) → i < length group → (Contains group part → ⊥)
    → get_or (set nodes (get_or group i 0) new) part d ≡ get_or nodes part d
others_stay group nodes new i part d within outside =
    get_or-set_other nodes (get_or group i 0) part new d (λ e. outside (subst (λ (p : ℕ). Contains group p) (sym e) (Contains-get_or group i 0 within)))

-- the first of some members is one of them
pub first_in : (xs : List ℕ) → 0 < length xs → Contains xs (first_member xs)
first_in [] some = absurd (omega arith)
first_in (x ∷ xs) some = head_in x xs

-- there are no more groups than participants
pub few_groups : (parts : ℕ) (groups : List (List ℕ)) → AreGroups parts groups → length groups ≤ parts
few_groups parts groups are =
    omega (
      arith,
      length-map groups first_member,
      length-le_from_distinct_below (map first_member groups) parts
          (IsDistinct-from_apart eqb (map first_member groups) (λ i j d below within. ne_eqb _ _ (apart i j d below within)))
          (λ q is. under q is),
    )
  where
    firsts_in : (i d : ℕ) → i < length groups → Contains (get_or groups i []) (get_or (map first_member groups) i d)
    firsts_in i d within =
        let first : get_or (map first_member groups) i d ≡ first_member (get_or groups i []) =
        get_or-map first_member groups i [] d within in
        subst (λ (x : ℕ). Contains (get_or groups i []) x) (sym first) (first_in (get_or groups i []) (are.filled i [] within))

    apart : (i j d : ℕ) → i < j → j < length (map first_member groups) → get_or (map first_member groups) i d ≡ get_or (map first_member groups) j d → ⊥
    apart i j d below within same =
        let there : j < length groups = omega (arith, within, length-map groups first_member) in
        let one = are.disjoint i j (get_or (map first_member groups) i d) (firsts_in i d (omega arith))
        (subst (λ (x : ℕ). Contains (get_or groups j []) x) (sym same) (firsts_in j d there)) in
        omega (arith, one)

    under : (q : ℕ) → list_any (eqb q) (map first_member groups) ≡ true → q < parts
    under q is =
        let found = Contains-from_any {eq = eqb} (λ x y e. eqb-true x y e) q (map first_member groups) is in
        let within : found.0 < length groups = omega (arith, found.1, length-map groups first_member) in
        All-contains (λ part. part < parts) (get_or groups found.0 []) q (are.in_range found.0 [] within)
        (subst (λ (x : ℕ). Contains (get_or groups found.0 []) x) found.2 (firsts_in found.0 q within))

-- whether a participant is in the groups, with one more of them
grouped_more : (groups : List (List ℕ)) (k part : ℕ) → k < length groups → is_grouped (take k groups) part ≡ false
    → is_in (get_or groups k []) part ≡ false → is_grouped (take (suc k) groups) part ≡ false
grouped_more [] k part within before here = absurd (omega arith)
grouped_more (group ∷ groups) zero part within before here = or_from _ _ here refl
grouped_more (group ∷ groups) (suc k) part within before here =
    let both = or_parts (is_in group part) (is_grouped (take k groups) part) before in
    or_from _ _ both.0 (grouped_more groups k part (omega arith) both.1 here)

pub in_single : (t : Bool) (q part : ℕ) → Contains (cond t (q ∷ []) []) part → (t ≡ true) × (q ≡ part)
in_single true q part inside = elim (in_cons q [] part inside) [ inl same ↦ (refl, same) | inr none ↦ absurd (none_in_nil part none) ]
in_single false q part inside = absurd (none_in_nil part inside)

pub single_in : (t : Bool) (q part : ℕ) → t ≡ true → q ≡ part → Contains (cond t (q ∷ []) []) part
single_in true q part is same = subst (λ (p : ℕ). Contains (q ∷ []) p) same (head_in q [])
single_in false q part is same = absurd (false≢true is)

-- a participant's node, once group k is made
pub member_more : (parts : ℕ) (groups : List (List ℕ)) (k part : ℕ) (old new : Node) → k < length groups
    → Contains (members_of parts (take k groups) old) part
    → (Contains (get_or groups k []) part → new ≡ Group k)
    → ((Contains (get_or groups k []) part → ⊥) → new ≡ old)
    → Contains (members_of parts (take (k + 1) groups) new) part
member_more parts groups k part old new within was joined stays =
    elim (cases_Bool (is_in (get_or groups k []) part)) [
      | inl holds ↦
          let inside = in_from_is_in (get_or groups k []) part holds in
          subst (λ (node : Node). Contains (members_of parts (take (k + 1) groups) node) part) (sym (joined inside))
          (subst (λ (xs : List ℕ). Contains xs part) (sym (get_or-take (k + 1) groups k [] (omega arith))) inside)
      | inr fails ↦
          subst (λ (node : Node). Contains (members_of parts (take (k + 1) groups) node) part)
          (sym (stays (λ inside. false≢true (sym fails ∙ is_in_from_in (get_or groups k []) part inside)))) (kept old was fails)
    ]
  where
    kept : (old : Node) → Contains (members_of parts (take k groups) old) part → is_in (get_or groups k []) part ≡ false
        → Contains (members_of parts (take (k + 1) groups) old) part
    kept (Single q) was fails =
        let own = in_single (nat_lt q parts && not (is_grouped (take k groups) q)) q part was in
        let both = and_parts (nat_lt q parts) (not (is_grouped (take k groups) q)) own.0 in
        let next : is_grouped (take (suc k) groups) q ≡ false =
        grouped_more groups k q within (not-true (is_grouped (take k groups) q) both.1) (ap (is_in (get_or groups k [])) own.1 ∙ fails) in
        let one : k + 1 ≡ suc k = omega arith in
        let still : is_grouped (take (k + 1) groups) q ≡ false = ap (λ n. is_grouped (take n groups) q) one ∙ next in
        single_in (nat_lt q parts && not (is_grouped (take (k + 1) groups) q)) q part
        (and_from (nat_lt q parts) (not (is_grouped (take (k + 1) groups) q)) both.0 (ap not still)) own.1
    kept (Group g) was fails =
        elim (cases_lt g k) [
          | inl below ↦
              subst (λ (xs : List ℕ). Contains xs part)
              (get_or-take k groups g [] below ∙ sym (get_or-take (k + 1) groups g [] (omega arith))) was
          | inr past ↦
              absurd (none_in_nil part (subst (λ (xs : List ℕ). Contains xs part) (get_or_past (take k groups) g [] (omega (arith, past, length-take k groups))) was))
        ]
