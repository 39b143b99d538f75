-- What a valid plan says of an exchange: its scheme, whose members it joins, and its kind by the table.
use Rattle.std.proofs.Common.{◌≡◌, ℕ, ◌-◌, ◌≤◌, suc, Bool, true, false, not, ◌&&◌, nat_eq, nat_le, List, length, filter, sum_by, slice_get, Some, IsSome, option_map, option_to_list, refl, ap, sym, subst, ◌∙◌, arith, Contains}
use Rattle.std.specs.Cmp.Lexicographic.{pointwise}
use Rattle.std.specs.Option.{option_map_or}
use Rattle.std.proofs.lemmas.Bool.{and_parts, eqb-true, eqb-false, not-true, false≢true}
use Rattle.std.proofs.lemmas.Option.{same_Some}
use Rattle.plan_order.proofs.Orders.{none_in_nil}
use Rattle.cpl_plan.specs.ExchangeKinds.{exchange_kind, is_implicit}
use Rattle.cpl_plan.specs.Needs.{is_second, asked, needs}
use Rattle.cpl_plan.specs.PlanWords.{passes, is_among, is_member, numbers, components_of}
use Rattle.cpl_plan.specs.PlanTests.{same_kind, kind_by_table, is_iterated, carriers, data_carried, are_accelerated, is_acceleration, is_part_of_one}
use Rattle.cpl_plan.specs.ValidPlan.{IsValidPlan}
use Rattle.cpl_plan.specs.declared.parts.PlanParts.{PlanParts}
use Rattle.cpl_plan.specs.declared.parts.Exchange.{Exchange}
use Rattle.cpl_plan.specs.declared.parts.Scheme.{Scheme}
use Rattle.cpl_plan.specs.declared.parts.SchemeKind.{SchemeKind}
use Rattle.cpl_plan.specs.declared.parts.SchemeKind.TheVariants.{SerialExplicit, ParallelExplicit, SerialImplicit, ParallelImplicit, Multi}
use Rattle.cpl_plan.specs.declared.parts.Kind.{Kind}
use Rattle.cpl_plan.specs.declared.parts.Kind.TheVariants.{Lag, Fresh, FreshIter, Iterated}
use Rattle.cpl_plan.specs.declared.parts.Accel.{Accel}
use Rattle.cpl_plan.specs.declared.parts.Accel.TheVariants.{None as NoAccel, Constant, Aitken}
use Rattle.cpl_plan.specs.declared.words.Need.{Need}
use Rattle.cpl_plan.specs.declared.words.Item.TheVariants.{Completed, Posted}
use Rattle.cpl_plan.proofs.Readings.{each_at, passes_at, among_in, filter_in, same_numbers}
use Rattle.coupled_loop.specs.Given.{Look}
use Rattle.coupled_loop.specs.Settled.{IsInOrder}
use Rattle.coupled_loop.specs.PlanFrames.{members_of, group_of}
use Rattle.core_laws.proofs.PlanPlaces.{scheme_members, group_is}
use Rattle.core_laws.proofs.PlanNeeds.{asks_of}
use Rattle.wave_coupling.specs.InputWave.{over}

kind_same : (a b : Kind) → same_kind a b ≡ true → a ≡ b
kind_same Lag Lag is = refl
kind_same Fresh Fresh is = refl
kind_same FreshIter FreshIter is = refl
kind_same Iterated Iterated is = refl
kind_same _ _ is = absurd (false≢true is)

pub record IsExchange (plan : PlanParts) (e : Exchange) : Type 0 where
  pub scheme : Scheme
  pub stands : slice_get plan.schemes e.scheme ≡ Some scheme
  pub sender : Contains scheme.members e.from
  pub reader : Contains scheme.members e.to
  pub apart : ¬ (e.from ≡ e.to)
  pub kind : e.kind ≡ exchange_kind scheme.kind (is_second scheme e.to)

-- what the sender must have given before its reader's turn, by the kind of the exchange
abbrev pub IsGivenFor : {Post : Type 0} → Kind → Look Post → (sender w k : ℕ) → Type 0
IsGivenFor Lag f sender w k = IsSome (f sender (Completed (w - 1)))
IsGivenFor Fresh f sender w k = IsSome (f sender (Completed w))
IsGivenFor FreshIter f sender w k = IsSome (f sender (Posted w k))
IsGivenFor Iterated f sender w k = IsSome (f sender (Completed (w - 1)))

by_table : {Post : Type 0} (f : Look Post) (sender w k : ℕ) (kind : SchemeKind) (second : Bool)
    → IsSome (f sender (asked kind second w k)) → IsGivenFor (exchange_kind kind second) f sender w k
by_table f sender w k SerialExplicit true is = is
by_table f sender w k SerialExplicit false is = is
by_table f sender w k ParallelExplicit second is = is
by_table f sender w k SerialImplicit true is = is
by_table f sender w k SerialImplicit false is = is
by_table f sender w k ParallelImplicit second is = is
by_table f sender w k Multi second is = is

iterated_implicit : (kind : SchemeKind) (second : Bool) → exchange_kind kind second ≡ Iterated → is_implicit kind ≡ true
iterated_implicit SerialExplicit true is = absurd (false≢true (ap is_iterated is))
iterated_implicit SerialExplicit false is = absurd (false≢true (ap is_iterated is))
iterated_implicit ParallelExplicit second is = absurd (false≢true (ap is_iterated is))
iterated_implicit SerialImplicit second is = refl
iterated_implicit ParallelImplicit second is = refl
iterated_implicit Multi second is = refl

-- who has completed a window has completed the one before
pub completed_below : {Post : Type 0} (f : Look Post) → IsInOrder f → (sender w : ℕ) → 1 ≤ w → IsSome (f sender (Completed w)) → IsSome (f sender (Completed (w - 1)))
completed_below f order sender w first is =
    let one : w ≡ suc (w - 1) = omega (arith, first) in
    order.windows sender (w - 1) (subst (λ (n : ℕ). IsSome (f sender (Completed n))) one is)

-- and so has who has given what is asked for
pub completed_before : {Post : Type 0} (f : Look Post) → IsInOrder f → (kind : Kind) (sender w k : ℕ) → 1 ≤ w → IsGivenFor kind f sender w k → IsSome (f sender (Completed (w - 1)))
completed_before f order Lag sender w k first is = is
completed_before f order Fresh sender w k first is = completed_below f order sender w first is
completed_before f order FreshIter sender w k first is = (order.turns sender w k is).2
completed_before f order Iterated sender w k first is = is

module _ (plan : PlanParts) (valid : IsValidPlan plan) where
  pub is_exchange : (x : ℕ) (e : Exchange) → slice_get plan.exchanges x ≡ Some e → IsExchange plan e
  is_exchange x e is =
      let joins =
      each_at (λ _ e. not (nat_eq e.from e.to) && is_member plan e.scheme e.from && is_member plan e.scheme e.to) plan.exchanges valid.exchanges.two_members x e is in
      let last = and_parts (not (nat_eq e.from e.to) && is_member plan e.scheme e.from) (is_member plan e.scheme e.to) joins in
      let first = and_parts (not (nat_eq e.from e.to)) (is_member plan e.scheme e.from) last.0 in
      let own = passes_at plan.schemes e.scheme (λ s. is_among e.from s.members) first.1 in
      let other = passes_at plan.schemes e.scheme (λ s. is_among e.to s.members) last.1 in
      let same : other.0 ≡ own.0 = same_Some other.0 own.0 (sym other.1 ∙ own.1) in
      let kinds = each_at (λ _ e. option_map_or (same_kind e.kind) (kind_by_table plan e) false) plan.exchanges valid.exchanges.kinds x e is in
      record {
        scheme = own.0;
        stands = own.1;
        sender = among_in e.from own.0.members own.2;
        reader = among_in e.to own.0.members (subst (λ (s : Scheme). is_among e.to s.members ≡ true) same other.2);
        apart = eqb-false e.from e.to (not-true (nat_eq e.from e.to) first.0);
        kind = kind_same e.kind (exchange_kind own.0.kind (is_second own.0 e.to))
            (sym (ap (λ o. option_map_or (same_kind e.kind) (option_map (λ s. exchange_kind s.kind (is_second s e.to)) o) false) own.1) ∙ kinds);
      }

  -- the sender is a member of the exchange's scheme
  pub sender_in : (e : Exchange) (number : ℕ) → IsExchange plan e → e.scheme ≡ number → Contains (members_of plan number) e.from
  sender_in e number is same =
      subst (λ (s : ℕ). Contains (members_of plan s) e.from) same
      (subst (λ (ns : List ℕ). Contains ns e.from) (sym (scheme_members plan e.scheme is.scheme is.stands)) is.sender)

  -- the reader's needs are what the kind of the exchange asks for
  pub given_for : {Post : Type 0} (f : Look Post) (e : Exchange) (w k : ℕ) → IsExchange plan e
      → ((need : Need) → Contains (needs plan e.to w k) need → IsSome (f need.owner need.item)) → IsGivenFor e.kind f e.from w k
  given_for f e w k is given =
      let item = given _ (asks_of plan valid e.to w k e.scheme is.scheme e.from is.stands is.reader is.sender is.apart) in
      subst (λ (kind : Kind). IsGivenFor kind f e.from w k) (sym is.kind) (by_table f e.from w k is.scheme.kind (is_second is.scheme e.to) item)

  -- who reads an iterated exchange is a member of its scheme, which is its group
  pub reader_group : (e : Exchange) → IsExchange plan e → e.kind ≡ Iterated → group_of plan e.to ≡ Some e.scheme
  reader_group e is kind =
      group_is plan valid e.scheme e.to is.scheme is.stands (iterated_implicit is.scheme.kind (is_second is.scheme e.to) (sym is.kind ∙ kind)) is.reader

  accelerated_in : (number x : ℕ) (xs : List ℕ) → are_accelerated plan number xs ≡ true → Contains xs x
      → (e : Exchange) × (slice_get plan.exchanges x ≡ Some e) × (e.scheme ≡ number)
  accelerated_in number x xs is inside =
      let few = and_parts (nat_le 1 (length xs) && pointwise nat_eq xs (filter (λ y. passes plan.exchanges y (λ e. is_iterated e.kind)) (carriers plan number (data_carried plan xs))))
      (nat_le (sum_by (λ y. sum_by (components_of plan) (option_to_list (slice_get plan.exchanges y))) xs) 20) is in
      let some = and_parts (nat_le 1 (length xs)) (pointwise nat_eq xs (filter (λ y. passes plan.exchanges y (λ e. is_iterated e.kind)) (carriers plan number (data_carried plan xs)))) few.0 in
      let same = same_numbers xs (filter (λ y. passes plan.exchanges y (λ e. is_iterated e.kind)) (carriers plan number (data_carried plan xs))) some.1 in
      let carried = filter_in (λ y. passes plan.exchanges y (λ e. is_iterated e.kind)) (carriers plan number (data_carried plan xs)) x
      (subst (λ (ys : List ℕ). Contains ys x) same inside) in
      carrier_in number x (data_carried plan xs) carried.0
    where
      carrier_in : (number x : ℕ) (items : List ℕ) → Contains (carriers plan number items) x → (e : Exchange) × (slice_get plan.exchanges x ≡ Some e) × (e.scheme ≡ number)
      carrier_in number x items inside =
          let own = filter_in (λ y. passes plan.exchanges y (λ e. nat_eq e.scheme number && is_among e.data_id items)) (numbers plan.exchanges) x inside in
          let at = passes_at plan.exchanges x (λ e. nat_eq e.scheme number && is_among e.data_id items) own.1 in
          (at.0, at.1, eqb-true at.0.scheme number (and_parts (nat_eq at.0.scheme number) (is_among at.0.data_id items) at.2).0)

  -- an accelerated exchange is one of its scheme
  pub accelerated_scheme : (number x : ℕ) (scheme : Scheme) → slice_get plan.schemes number ≡ Some scheme → Contains (over scheme.accel) x
      → (e : Exchange) × (slice_get plan.exchanges x ≡ Some e) × (e.scheme ≡ number)
  accelerated_scheme number x scheme stands inside =
      of scheme.accel (each_at (λ s z. is_acceleration plan s z z.accel) plan.schemes valid.schemes.accelerations number scheme stands) inside
    where
      of : (accel : Accel) → is_acceleration plan number scheme accel ≡ true → Contains (over accel) x → (e : Exchange) × (slice_get plan.exchanges x ≡ Some e) × (e.scheme ≡ number)
      of NoAccel is inside = absurd (none_in_nil x inside)
      of (Constant factor xs) is inside =
          accelerated_in number x xs (and_parts (is_implicit scheme.kind && is_part_of_one factor) (are_accelerated plan number xs) is).1 inside
      of (Aitken factor xs) is inside =
          accelerated_in number x xs (and_parts (is_implicit scheme.kind && is_part_of_one factor) (are_accelerated plan number xs) is).1 inside
