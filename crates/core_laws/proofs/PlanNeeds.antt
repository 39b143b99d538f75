-- What a participant of a valid plan needs is of the window before, or of somebody who comes before it.
use Rattle.std.proofs.Common.{◌≡◌, ℕ, ◌-◌, ◌<◌, ◌⊎◌, inl, inr, Bool, true, false, not, ◌&&◌, nat_eq, cond, List, [], ◌∷◌, length, map, slice_get, Some, refl, ap, sym, subst, ◌∙◌, arith, Contains, eqb-true}
use Rattle.std.specs.List.{range_with_len}
use Rattle.std.proofs.lemmas.Bool.{and_parts, and_from, ne_eqb, not_from_false, eqb-false, not-true}
use Rattle.std.proofs.lemmas.Option.{same_Some}
use Rattle.plan_order.specs.declared.node.Node.{Node}
use Rattle.plan_order.specs.NodeOrder.{StandsBefore}
use Rattle.plan_order.proofs.Loops.{head_in, tail_in, in_cons}
use Rattle.plan_order.proofs.Orders.{none_in_nil, next_at}
use Rattle.cpl_plan.specs.ExchangeKinds.{is_implicit}
use Rattle.cpl_plan.specs.Needs.{is_second, asked, partners, needs_in, needs}
use Rattle.cpl_plan.specs.PlanWords.{is_among}
use Rattle.cpl_plan.specs.PlanTests.{has_members}
use Rattle.cpl_plan.specs.PlanNodes.{node_members, solved_before, first_and_second}
use Rattle.cpl_plan.specs.ValidPlan.{IsValidPlan}
use Rattle.cpl_plan.specs.declared.parts.PlanParts.{PlanParts}
use Rattle.cpl_plan.specs.declared.parts.Scheme.{Scheme}
use Rattle.cpl_plan.specs.declared.parts.SchemeKind.{SchemeKind}
use Rattle.cpl_plan.specs.declared.parts.SchemeKind.TheVariants.{SerialExplicit, ParallelExplicit, SerialImplicit, ParallelImplicit, Multi}
use Rattle.cpl_plan.specs.declared.words.Need.{Need}
use Rattle.cpl_plan.specs.declared.words.Item.TheVariants.{Completed, Posted}
use Rattle.cpl_plan.proofs.Readings.{each_at, passes_at, among_in, in_among, filter_in, in_filter, in_numbers}
use Rattle.coupled_loop.specs.PlanFrames.{Exchanged, frame_of, group_of}
use Rattle.core_laws.specs.Before.{ComesBefore, IsInEarlierNode, IsEarlierMember}
use Rattle.core_laws.proofs.Sound.{node_by, IsOfEarlierNode, IsOfEarlierMember}
use Rattle.core_laws.proofs.PlanLists.{at_split, in_cond, map_in, in_map, flat_map_in, in_flat_map, range_in}
use Rattle.core_laws.proofs.PlanPlaces.{declared, scheme_members, implicit_members, group_is, own_node, node_placed}

-- what a member asks is of the window before, but for the second of a serial scheme
asked_so : (kind : SchemeKind) (second : Bool) (w k : ℕ)
    → (asked kind second w k ≡ Completed (w - 1))
    ⊎ (((kind ≡ SerialExplicit) × (second ≡ true) × (asked kind second w k ≡ Completed w))
    ⊎ ((kind ≡ SerialImplicit) × (second ≡ true) × (asked kind second w k ≡ Posted w k)))
asked_so SerialExplicit true w k = inr (inl (refl, refl, refl))
asked_so SerialExplicit false w k = inl refl
asked_so ParallelExplicit second w k = inl refl
asked_so SerialImplicit true w k = inr (inr (refl, refl, refl))
asked_so SerialImplicit false w k = inl refl
asked_so ParallelImplicit second w k = inl refl
asked_so Multi second w k = inl refl

-- the second of two has the first as its partner
pub two_members : (scheme : Scheme) (members : List ℕ) (part owner : ℕ) → scheme.members ≡ members → length members ≡ 2 → is_second scheme part ≡ true
    → Contains members owner → ¬ (owner ≡ part) → members ≡ owner ∷ part ∷ []
two_members scheme [] part owner are two second inside other = absurd (none_in_nil owner inside)
two_members scheme (a ∷ []) part owner are two second inside other = absurd (omega (arith, two))
two_members scheme (a ∷ b ∷ []) part owner are two second inside other =
    let at = passes_at scheme.members 1 (λ m. nat_eq m part) second in
    let last : b ≡ part = same_Some b at.0 (sym (ap (λ ns. slice_get ns 1) are) ∙ at.1) ∙ eqb-true at.0 part at.2 in
    elim (in_cons a (b ∷ []) owner inside) [
      | inl same ↦ ap (λ n. n ∷ b ∷ []) same ∙ ap (λ n. owner ∷ n ∷ []) last
      | inr rest ↦ elim (in_cons b [] owner rest) [
        | inl same ↦ absurd (other (sym same ∙ last))
        | inr none ↦ absurd (none_in_nil owner none)
      ]
    ]
two_members scheme (a ∷ b ∷ c ∷ more) part owner are two second inside other = absurd (omega (arith, two))

-- all kinds of schemes but one have two members
two_counted : (kind : SchemeKind) (n : ℕ) → has_members kind n ≡ true → (kind ≡ SerialExplicit) ⊎ (kind ≡ SerialImplicit) → n ≡ 2
two_counted SerialExplicit n is serial = eqb-true n 2 is
two_counted ParallelExplicit n is serial = eqb-true n 2 is
two_counted SerialImplicit n is serial = eqb-true n 2 is
two_counted ParallelImplicit n is serial = eqb-true n 2 is
two_counted Multi n is (inl e) = absurd (differ e)
  where
    differ : Multi ≡ SerialExplicit → ⊥
    differ e = cc
two_counted Multi n is (inr e) = absurd (differ e)
  where
    differ : Multi ≡ SerialImplicit → ⊥
    differ e = cc

-- a need, and the scheme for whose sake it is
pub record IsAsked (plan : PlanParts) (part w k : ℕ) (need : Need) : Type 0 where
  pub number : ℕ
  pub scheme : Scheme
  pub stands : slice_get plan.schemes number ≡ Some scheme
  pub member : Contains scheme.members part
  pub partner : Contains scheme.members need.owner
  pub other : ¬ (need.owner ≡ part)
  pub item : need.item ≡ asked scheme.kind (is_second scheme part) w k

-- a partner is another member
is_partner : (members : List ℕ) (parts part other : ℕ) → Contains (partners members parts part) other → (¬ (other ≡ part)) × Contains members other × (other < parts)
is_partner members parts part other inside =
    let own = filter_in (λ o. not (nat_eq o part) && is_among o members) (range_with_len 0 parts) other inside in
    let both = and_parts (not (nat_eq other part)) (is_among other members) own.1 in
    let within = range_in 0 parts other own.0 in
    (eqb-false other part (not-true (nat_eq other part) both.0), among_in other members both.1, omega (arith, within))

pub is_asked : (plan : PlanParts) (part w k : ℕ) (need : Need) → Contains (needs plan part w k) need → IsAsked plan part w k need × (need.owner < length plan.parts)
is_asked plan part w k need inside =
    let from = flat_map_in (λ scheme. needs_in scheme (length plan.parts) part w k) plan.schemes need inside in
    of from.0 from.1 from.2 from.3
  where
    of : (number : ℕ) (scheme : Scheme) → slice_get plan.schemes number ≡ Some scheme → Contains (needs_in scheme (length plan.parts) part w k) need
        → IsAsked plan part w k need × (need.owner < length plan.parts)
    of number scheme stands inside =
        let need_of : ℕ → Need = λ other. record { owner = other; item = asked scheme.kind (is_second scheme part) w k } in
        let own = in_cond _ _ need inside in
        let partner = map_in need_of (partners scheme.members (length plan.parts) part) need own.1 in
        let is = is_partner scheme.members (length plan.parts) part partner.0 partner.1 in
        let owner : partner.0 ≡ need.owner = ap (λ n. n.owner) partner.2 in (
          record {
            number = number;
            scheme = scheme;
            stands = stands;
            member = among_in part scheme.members own.0;
            partner = subst (λ (p : ℕ). Contains scheme.members p) owner is.1;
            other = subst (λ (p : ℕ). ¬ (p ≡ part)) owner is.0;
            item = sym (ap (λ n. n.item) partner.2);
          },
          subst (λ (p : ℕ). p < length plan.parts) owner is.2,
        )

module _ (plan : PlanParts) (valid : IsValidPlan plan) where
  -- a member needs something of each other member
  pub asks_of : (part w k number : ℕ) (scheme : Scheme) (other : ℕ) → slice_get plan.schemes number ≡ Some scheme → Contains scheme.members part → Contains scheme.members other
      → ¬ (other ≡ part) → Contains (needs plan part w k) (record { owner = other; item = asked scheme.kind (is_second scheme part) w k })
  asks_of part w k number scheme other stands member partner apart =
      let need_of : ℕ → Need = λ o. record { owner = o; item = asked scheme.kind (is_second scheme part) w k } in
      let below = declared plan valid number other scheme stands partner in
      let test : (not (nat_eq other part) && is_among other scheme.members) ≡ true =
      and_from (not (nat_eq other part)) (is_among other scheme.members) (not_from_false (nat_eq other part) (ne_eqb other part apart)) (in_among other scheme.members partner) in
      let inside : Contains (partners scheme.members (length plan.parts) part) other =
      in_filter (λ o. not (nat_eq o part) && is_among o scheme.members) (range_with_len 0 (length plan.parts)) other (in_numbers plan.parts other below) test in
      in_flat_map (λ s. needs_in s (length plan.parts) part w k) plan.schemes number scheme (need_of other) stands
      (subst (λ (b : Bool). Contains (cond b (map need_of (partners scheme.members (length plan.parts) part)) []) (need_of other)) (sym (in_among part scheme.members member))
      (in_map need_of (partners scheme.members (length plan.parts) part) other inside))

  -- a serial scheme has a first and a second
  pub serial_members : (number : ℕ) (scheme : Scheme) (part owner : ℕ) → slice_get plan.schemes number ≡ Some scheme → (scheme.kind ≡ SerialExplicit) ⊎ (scheme.kind ≡ SerialImplicit)
      → is_second scheme part ≡ true → Contains scheme.members owner → ¬ (owner ≡ part) → scheme.members ≡ owner ∷ part ∷ []
  serial_members number scheme part owner stands serial second inside other =
      let counted = each_at (λ _ z. has_members z.kind (length z.members)) plan.schemes valid.schemes.members_counted number scheme stands in
      two_members scheme scheme.members part owner refl (two_counted scheme.kind (length scheme.members) counted serial) second inside other

  -- the second of a serial-explicit scheme waits for the first, whose node stands before its own
  earlier_node : (part w k : ℕ) (need : Need) → part < length plan.parts → need.owner < length plan.parts → (is : IsAsked plan part w k need)
      → is.scheme.kind ≡ SerialExplicit → is.scheme.members ≡ need.owner ∷ part ∷ []
      → ComesBefore plan.nodes (node_by need.owner (group_of plan need.owner)) (node_by part (group_of plan part))
  earlier_node part w k need below owner_below is kind members =
      let own : Node = node_by part (group_of plan part) in
      let first : Node = node_by need.owner (group_of plan need.owner) in
      let place = at_split plan.nodes own (node_placed plan valid part below) in
      let pair : first_and_second is.scheme.kind is.scheme.members ≡ (need.owner, part) ∷ [] =
      ap (λ kd. first_and_second kd is.scheme.members) kind ∙ ap (first_and_second SerialExplicit) members in
      let listed : Contains (solved_before plan) (need.owner, part) =
      in_flat_map (λ s. first_and_second s.kind s.members) plan.schemes is.number is.scheme (need.owner, part) is.stands
      (subst (λ (ps : List (ℕ × ℕ)). Contains ps (need.owner, part)) (sym pair) (head_in (need.owner, part) [])) in
      let stands : StandsBefore (node_members plan) (solved_before plan) first own =
      record { pair = (need.owner, part); listed = listed; from = own_node plan valid need.owner owner_below; to = own_node plan valid part below } in
      record {
        before = place.0;
        after = place.1;
        stands = place.2;
        earlier = (next_at (node_members plan) (solved_before plan) plan.nodes place.0 own place.1 valid.nodes place.2).ready.released first stands;
      }

  -- a need, by what it is of
  data Source (part w k : ℕ) (need : Need) : Type 0 where
    of_before : need.item ≡ Completed (w - 1) → Source part w k need
    of_node : need.item ≡ Completed w → ComesBefore plan.nodes (node_by need.owner (group_of plan need.owner)) (node_by part (group_of plan part)) → Source part w k need
    of_member : need.item ≡ Posted w k → (number : ℕ) → (scheme : Scheme) → slice_get plan.schemes number ≡ Some scheme → scheme.kind ≡ SerialImplicit
        → scheme.members ≡ need.owner ∷ part ∷ [] → Source part w k need

  source : (part w k : ℕ) (need : Need) → part < length plan.parts → Contains (needs plan part w k) need → Source part w k need
  source part w k need below inside =
      let own = is_asked plan part w k need inside in
      let is = own.0 in
      let members : (is.scheme.kind ≡ SerialExplicit) ⊎ (is.scheme.kind ≡ SerialImplicit) → is_second is.scheme part ≡ true → is.scheme.members ≡ need.owner ∷ part ∷ [] =
      λ serial second. serial_members is.number is.scheme part need.owner is.stands serial second is.partner is.other in
      elim (asked_so is.scheme.kind (is_second is.scheme part) w k) [
        | inl before ↦ of_before (is.item ∙ before)
        | inr (inl so) ↦ of_node (is.item ∙ so.2) (earlier_node part w k need below own.1 is so.0 (members (inl so.0) so.1))
        | inr (inr so) ↦ of_member (is.item ∙ so.2) is.number is.scheme is.stands so.0 (members (inr so.0) so.1)
      ]

  -- each need is of the window before, of an earlier node, or of an earlier member of the same scheme
  pub came_before : (part w k : ℕ) (need : Need) → part < length plan.parts → Contains (needs plan part w k) need
      → (need.item ≡ Completed (w - 1)) ⊎ ((need.item ≡ Completed w) × IsInEarlierNode plan need.owner part) ⊎ ((need.item ≡ Posted w k) × IsEarlierMember plan need.owner part)
  came_before part w k need below inside = by (source part w k need below inside)
    where
      by : Source part w k need
          → (need.item ≡ Completed (w - 1)) ⊎ ((need.item ≡ Completed w) × IsInEarlierNode plan need.owner part) ⊎ ((need.item ≡ Posted w k) × IsEarlierMember plan need.owner part)
      by (of_before item) = inl item
      by (of_node item order) =
          inr (inl (
            item,
            record {
              node = node_by need.owner (group_of plan need.owner);
              next = node_by part (group_of plan part);
              member = own_node plan valid need.owner (is_asked plan part w k need inside).1;
              waits = own_node plan valid part below;
              order = order;
            },
          ))
      by (of_member item number scheme stands kind members) =
          let implicit : is_implicit scheme.kind ≡ true = ap is_implicit kind in
          inr (inr (
            item,
            record {
              scheme = number;
              order = record { before = need.owner ∷ []; after = []; stands = implicit_members plan number scheme stands implicit ∙ members; earlier = head_in need.owner [] };
            },
          ))

  -- and so it is in the frame, whatever is exchanged
  pub needs_are : {Post Inputs Fault : Type 0} (exchanged : Exchanged Post Inputs Fault) (part w k : ℕ) (need : Need) → part < length plan.parts → Contains (needs plan part w k) need
      → (need.item ≡ Completed (w - 1)) ⊎ IsOfEarlierNode (frame_of plan exchanged) part w need ⊎ IsOfEarlierMember (frame_of plan exchanged) part w k need
  needs_are exchanged part w k need below inside = by (source part w k need below inside)
    where
      by : Source part w k need
          → (need.item ≡ Completed (w - 1)) ⊎ IsOfEarlierNode (frame_of plan exchanged) part w need ⊎ IsOfEarlierMember (frame_of plan exchanged) part w k need
      by (of_before item) = inl item
      by (of_node item order) = inr (inl (record { before = order.before; after = order.after; stands = order.stands; earlier = order.earlier; item = item }))
      by (of_member item number scheme stands kind members) =
          inr (inr (record {
            scheme = number;
            group = group_is plan valid number part scheme stands (ap is_implicit kind)
                (subst (λ (ns : List ℕ). Contains ns part) (sym members) (tail_in need.owner (part ∷ []) part (head_in part [])));
            before = need.owner ∷ [];
            after = [];
            stands = scheme_members plan number scheme stands ∙ members;
            earlier = head_in need.owner [];
            item = item;
          }))
