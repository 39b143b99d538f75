-- What is given stays as it is, and where windows start and end by what was given.
use Rattle.std.proofs.Common.{◌≡◌, ℕ, zero, suc, ◌-◌, ◌<◌, ◌≤◌, inl, inr, Bool, true, false, ◌&&◌, nat_lt, nat_le, nat_eq, cond, List, [], ◌∷◌, ◌++◌, length, map, slice_get, Option, Some, None, IsSome, IsTrue, refl, ap, sym, subst, ◌∙◌, arith, Contains, append-nil, length-append, eq-eqb, le_refl}
use Rattle.std.specs.Prelude.{option_map, option_to_list}
use Rattle.std.specs.Option.{option_map_or}
use Rattle.std.proofs.lemmas.Bool.{and_parts, leb-true, eqb-true, false≢true}
use Rattle.std.proofs.lemmas.Option.{none-some, same_Some, slice_get_within}
use Rattle.std.proofs.lemmas.List.Elements.{Contains-get_or}
use Rattle.plan_order.specs.NodeOrder.{first_member}
use Rattle.plan_order.proofs.Loops.{head_in, tail_in, in_cons}
use Rattle.plan_order.proofs.Orders.{none_in_nil}
use Rattle.cpl_plan.specs.Needs.{is_second, asked, needs}
use Rattle.cpl_plan.specs.PlanWords.{numbers, is_member, schemes_of, is_among}
use Rattle.cpl_plan.specs.PlanTests.{has_members}
use Rattle.cpl_plan.specs.ValidPlan.{IsValidPlan}
use Rattle.cpl_plan.specs.Windows.{start_by, end_by, is_window, window_start, window_end}
use Rattle.cpl_plan.specs.declared.parts.PlanParts.{PlanParts}
use Rattle.cpl_plan.specs.declared.parts.Scheme.{Scheme}
use Rattle.cpl_plan.specs.declared.parts.SchemeKind.{SchemeKind}
use Rattle.cpl_plan.specs.declared.parts.SchemeKind.TheVariants.{SerialExplicit}
use Rattle.cpl_plan.specs.declared.parts.WindowMethod.{WindowMethod}
use Rattle.cpl_plan.specs.declared.parts.WindowMethod.TheVariants.{Fixed, FirstParticipant}
use Rattle.cpl_plan.specs.declared.words.Need.{Need}
use Rattle.cpl_plan.specs.declared.words.Item.{Item}
use Rattle.cpl_plan.specs.declared.words.Item.TheVariants.{Completed}
use Rattle.cpl_plan.proofs.Readings.{each_at, passes_at, among_in, filter_in, there}
use Rattle.cpl_plan.proofs.FixedWindows.{no_start}
use Rattle.cpl_plan.proofs.FirstStep.{one_scheme}
use Rattle.coupled_loop.specs.Given.{Gift, Look}
use Rattle.coupled_loop.specs.Settled.{Extends, IsInOrder}
use Rattle.coupled_loop.specs.PlanFrames.{window_maker, ends_made, is_told}
use Rattle.core_laws.proofs.PlanNeeds.{asks_of}
use Rattle.core_laws.proofs.PlanWindows.{fixed_told, ends_still}
use Rattle.wave_coupling.specs.Coupling.{is_first_step, makes_windows}

pub is_there : {X : Type 0} (o : Option X) → IsSome o → (x : X) × (o ≡ Some x)
is_there None is = absurd (false≢true is)
is_there (Some x) is = (x, refl)

-- what passes a test is there
passing : {X : Type 0} (test : X → Bool) (o : Option X) → option_map_or test o false ≡ true → IsSome o
passing test None is = absurd (false≢true is)
passing test (Some x) is = refl

-- what stands in a list stands there in a longer one
pub got_still : {X : Type 0} (xs more : List X) (k : ℕ) (x : X) → slice_get xs k ≡ Some x → slice_get (xs ++ more) k ≡ Some x
got_still [] more k x is = absurd (none-some x is)
got_still (y ∷ xs) more zero x is = is
got_still (y ∷ xs) more (suc k) x is = got_still xs more k x is

pub slice_in : {X : Type 0} (xs : List X) (k : ℕ) (x : X) → slice_get xs k ≡ Some x → Contains xs x
slice_in [] k x is = absurd (none-some x is)
slice_in {X} (y ∷ xs) zero x is = subst (λ (z : X). Contains (y ∷ xs) z) (same_Some y x is) (head_in y xs)
slice_in (y ∷ xs) (suc k) x is = tail_in y xs x (slice_in xs k x is)

pub map_same : {X Y : Type 0} (f g : X → Y) (xs : List X) → ((x : X) → Contains xs x → f x ≡ g x) → map f xs ≡ map g xs
map_same f g [] same = refl
map_same f g (x ∷ xs) same =
    ap (λ y. y ∷ map f xs) (same x (head_in x xs)) ∙ ap (λ ys. g x ∷ ys) (map_same f g xs (λ y inside. same y (tail_in x xs y inside)))

module _ {Post : Type 0} where
  pub given_still : (f g : Look Post) (part : ℕ) (item : Item) → Extends f g → IsSome (f part item) → f part item ≡ g part item
  given_still f g part item extends is =
      let there = is_there (f part item) is in there.1 ∙ sym (extends part item there.0 there.1)

  few_ends : (newest : Post → ℕ) (f : Look Post) (maker n : ℕ) → length (ends_made newest f maker n) ≤ n
  few_ends newest f maker zero = omega arith
  few_ends newest f maker (suc n) =
      let before = few_ends newest f maker n in
      let one = at_most_one (option_map (λ gift. newest gift.post) (f maker (Completed (suc n)))) in
      omega (arith, before, one, length-append (ends_made newest f maker n) (option_to_list (option_map (λ gift. newest gift.post) (f maker (Completed (suc n))))))
    where
      at_most_one : (o : Option ℕ) → length (option_to_list o) ≤ 1
      at_most_one None = omega arith
      at_most_one (Some x) = omega arith

  -- where the end of a window is told, it is completed
  completed_there : (newest : Post → ℕ) (f : Look Post) (maker n end : ℕ) → slice_get (ends_made newest f maker (suc n)) n ≡ Some end → IsSome (f maker (Completed (suc n)))
  completed_there newest f maker n end is = of (f maker (Completed (suc n))) is
    where
      of : (o : Option (Gift Post)) → slice_get (ends_made newest f maker n ++ option_to_list (option_map (λ gift. newest gift.post) o)) n ≡ Some end → IsSome o
      of None is =
          let within = slice_get_within (ends_made newest f maker n) n end (sym (ap (λ ends. slice_get ends n) (append-nil (ends_made newest f maker n))) ∙ is) in
          absurd (omega (arith, within, few_ends newest f maker n))
      of (Some gift) is = refl

fixed_start : (size : ℕ) (ends others : List ℕ) (w : ℕ) → start_by Fixed size ends w ≡ start_by Fixed size others w
fixed_start size ends others zero = no_start Fixed size ends ∙ sym (no_start Fixed size others)
fixed_start size ends others (suc w) = refl

module _ {Post : Type 0} (newest : Post → ℕ) (f g : Look Post) (extends : Extends f g) (order : IsInOrder f) (maker : ℕ) where
  made_start : (size w : ℕ) → IsSome (start_by FirstParticipant size (ends_made newest f maker (w - 1)) w)
      → start_by FirstParticipant size (ends_made newest f maker w) w ≡ start_by FirstParticipant size (ends_made newest g maker w) w
  made_start size zero is = refl
  made_start size (suc zero) is = refl
  made_start size (suc (suc b)) is =
      let number : suc (suc b) - 1 ≡ suc b = omega arith in
      let got = is_there (slice_get (ends_made newest f maker (suc b)) b)
      (subst (λ (n : ℕ). IsSome (slice_get (ends_made newest f maker n) b)) number is) in
      let done = completed_there newest f maker b got.0 got.1 in
      let same : ends_made newest f maker (suc b) ≡ ends_made newest g maker (suc b) = ends_still newest f g maker (suc b) extends order done (suc b) (le_refl (suc b)) in
      got_still (ends_made newest f maker (suc b)) (option_to_list (option_map (λ gift. newest gift.post) (f maker (Completed (suc (suc b)))))) b got.0 got.1
      ∙ sym (got_still (ends_made newest g maker (suc b)) (option_to_list (option_map (λ gift. newest gift.post) (g maker (Completed (suc (suc b)))))) b got.0
      (sym (ap (λ ends. slice_get ends b) same) ∙ got.1))

module _ {Post : Type 0} (plan : PlanParts) (newest : Post → ℕ) (f g : Look Post) (extends : Extends f g) (order : IsInOrder f) where
  -- where a window that is there starts is told
  pub start_still : (w : ℕ) → IsTrue (is_told plan newest f w)
      → window_start plan (ends_made newest f (window_maker plan) w) w ≡ window_start plan (ends_made newest g (window_maker plan) w) w
  start_still w there = by plan.method refl
    where
      by : (m : WindowMethod) → plan.method ≡ m
          → window_start plan (ends_made newest f (window_maker plan) w) w ≡ window_start plan (ends_made newest g (window_maker plan) w) w
      by Fixed is =
          ap (λ m. start_by m plan.window (ends_made newest f (window_maker plan) w) w) is
          ∙ fixed_start plan.window (ends_made newest f (window_maker plan) w) (ends_made newest g (window_maker plan) w) w
          ∙ sym (ap (λ m. start_by m plan.window (ends_made newest g (window_maker plan) w) w) is)
      by FirstParticipant is =
          let some = passing (λ start. nat_lt start plan.end_time) (window_start plan (ends_made newest f (window_maker plan) (w - 1)) w)
          (and_parts (nat_le w plan.most_windows) (option_map_or (λ start. nat_lt start plan.end_time) (window_start plan (ends_made newest f (window_maker plan) (w - 1)) w) false) there).1 in
          let started : IsSome (start_by FirstParticipant plan.window (ends_made newest f (window_maker plan) (w - 1)) w) =
          subst (λ (m : WindowMethod). IsSome (start_by m plan.window (ends_made newest f (window_maker plan) (w - 1)) w)) is some in
          ap (λ m. start_by m plan.window (ends_made newest f (window_maker plan) w) w) is
          ∙ made_start newest f g extends order (window_maker plan) plan.window w started
          ∙ sym (ap (λ m. start_by m plan.window (ends_made newest g (window_maker plan) w) w) is)

two_numbers : (ns : List ℕ) → length ns ≡ 2 → (a : ℕ) × (b : ℕ) × (ns ≡ a ∷ b ∷ [])
two_numbers [] two = absurd (omega (arith, two))
two_numbers (a ∷ []) two = absurd (omega (arith, two))
two_numbers (a ∷ b ∷ []) two = (a, b, refl)
two_numbers (a ∷ b ∷ c ∷ more) two = absurd (omega (arith, two))

serial_two : (kind : SchemeKind) (n : ℕ) → kind ≡ SerialExplicit → has_members kind n ≡ true → n ≡ 2
serial_two kind n serial is = eqb-true n 2 (sym (ap (λ kd. has_members kd n) serial) ∙ is)

only_item : {X : Type 0} (x : X) (k : ℕ) (y : X) → slice_get (x ∷ []) k ≡ Some y → x ≡ y
only_item x zero y is = same_Some x y is
only_item x (suc k) y is = absurd (none-some y is)

module _ (plan : PlanParts) (valid : IsValidPlan plan) where
  -- each participant is in a scheme
  in_some_scheme : (part : ℕ) → part < length plan.parts → (s : ℕ) × (scheme : Scheme) × (slice_get plan.schemes s ≡ Some scheme) × Contains scheme.members part
  in_some_scheme part below =
      let at = there plan.parts part below in
      let some = leb-true 1 (length (schemes_of plan part)) (each_at (λ p _. nat_le 1 (length (schemes_of plan p))) plan.parts valid.participants.in_a_scheme part at.0 at.1) in
      let first = Contains-get_or (schemes_of plan part) 0 0 (omega (arith, some)) in
      let member = (filter_in (λ s. is_member plan s part) (numbers plan.schemes) _ first).1 in
      let scheme = passes_at plan.schemes _ (λ s. is_among part s.members) member in
      (_, scheme.0, scheme.1, among_in part scheme.0.members scheme.2)

  -- who does not make the windows needs those of the one who does
  pub maker_asked : plan.method ≡ FirstParticipant → (part w k : ℕ) → part < length plan.parts → ¬ (window_maker plan ≡ part)
      → Contains (needs plan part w k) (record { owner = window_maker plan; item = Completed w })
  maker_asked method part w k below apart =
      let one = one_scheme plan valid method in
      let stands : slice_get plan.schemes 0 ≡ Some one.0 = ap (λ ss. slice_get ss 0) one.1 in
      let counted = each_at (λ _ z. has_members z.kind (length z.members)) plan.schemes valid.schemes.members_counted 0 one.0 stands in
      let two = two_numbers one.0.members (serial_two one.0.kind (length one.0.members) one.2 counted) in
      let maker : window_maker plan ≡ two.0 = ap (λ o. first_member (option_map_or (λ s. s.members) o [])) stands ∙ ap first_member two.2 in
      let some = in_some_scheme part below in
      let same : one.0 ≡ some.1 = only_item one.0 some.0 some.1 (sym (ap (λ ss. slice_get ss some.0) one.1) ∙ some.2) in
      let member : Contains one.0.members part = subst (λ (s : Scheme). Contains s.members part) (sym same) some.3 in
      let first_in : Contains one.0.members (window_maker plan) =
      subst (λ (ns : List ℕ). Contains ns (window_maker plan)) (sym two.2) (subst (λ (p : ℕ). Contains (two.0 ∷ two.1 ∷ []) p) (sym maker) (head_in two.0 (two.1 ∷ []))) in
      let second : two.1 ≡ part =
      elim (in_cons two.0 (two.1 ∷ []) part (subst (λ (ns : List ℕ). Contains ns part) two.2 member)) [
        | inl here ↦ absurd (apart (maker ∙ here))
        | inr rest ↦ elim (in_cons two.1 [] part rest) [ inl here ↦ here | inr none ↦ absurd (none_in_nil part none) ]
      ] in
      let is_last : is_second one.0 part ≡ true =
      ap (λ ns. option_map_or (λ m. nat_eq m part) (slice_get ns 1) false) two.2 ∙ eq-eqb two.1 part second in
      let item : asked one.0.kind (is_second one.0 part) w k ≡ Completed w =
      ap (λ kd. asked kd (is_second one.0 part) w k) one.2 ∙ ap (λ b. asked SerialExplicit b w k) is_last in
      subst (λ (i : Item). Contains (needs plan part w k) (record { owner = window_maker plan; item = i })) item
      (asks_of plan valid part w k 0 one.0 (window_maker plan) stands member first_in apart)

  -- a window's end is told to who does not make it, by what it needs
  pub end_still : {Post : Type 0} (newest : Post → ℕ) (f g : Look Post) → Extends f g → IsInOrder f → (part w k : ℕ) → part < length plan.parts
      → ((need : Need) → Contains (needs plan part w k) need → IsSome (f need.owner need.item)) → makes_windows plan part ≡ false
      → window_end plan (ends_made newest f (window_maker plan) w) w ≡ window_end plan (ends_made newest g (window_maker plan) w) w
  end_still {Post} newest f g extends order part w k below given other = by plan.method refl
    where
      by : (m : WindowMethod) → plan.method ≡ m
          → window_end plan (ends_made newest f (window_maker plan) w) w ≡ window_end plan (ends_made newest g (window_maker plan) w) w
      by Fixed is =
          ap (λ b. cond b (end_by plan.method plan.window plan.end_time (ends_made newest f (window_maker plan) w) w) None)
          (fixed_told plan (ends_made newest f (window_maker plan) w) (ends_made newest g (window_maker plan) w) w is)
          ∙ ap (λ o. cond (is_window plan (ends_made newest g (window_maker plan) w) w) o None)
          (ap (λ m. end_by m plan.window plan.end_time (ends_made newest f (window_maker plan) w) w) is
          ∙ sym (ap (λ m. end_by m plan.window plan.end_time (ends_made newest g (window_maker plan) w) w) is))
      by FirstParticipant is =
          let unlike : nat_eq part (window_maker plan) ≡ false = sym (ap (λ m. is_first_step m && nat_eq part (window_maker plan)) is) ∙ other in
          let apart : ¬ (window_maker plan ≡ part) = λ same. false≢true (sym unlike ∙ eq-eqb part (window_maker plan) (sym same)) in
          let made = given (record { owner = window_maker plan; item = Completed w }) (maker_asked is part w k below apart) in
          ap (λ ends. window_end plan ends w) (ends_still newest f g (window_maker plan) w extends order made w (le_refl w))
