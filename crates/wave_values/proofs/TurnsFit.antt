-- The inputs of a turn fit, from its window's start to the time that it may reach.
use Rattle.std.proofs.Common.{◌≡◌, inl, inr, ℕ, zero, suc, ◌-◌, ◌*◌, ◌<◌, ◌≤◌, Bool, true, false, ◌&&◌, nat_eq, if◌then◌else◌, min, List, [], ◌∷◌, length, get_or, map, slice_get, Option, Some, None, IsSome, Contains, refl, ap, sym, subst, ◌∙◌, arith}
use Rattle.std.specs.Prelude.{option_map, option_to_list}
use Rattle.std.specs.Option.{option_map_or}
use Rattle.std.proofs.lemmas.Bool.{and_parts, eqb-true, eq-eqb, ne_eqb, false≢true}
use Rattle.std.proofs.lemmas.List.{get_or-map, length-map}
use Rattle.std.proofs.lemmas.Option.{none-some, same_Some}
use Rattle.plan_order.specs.NodeOrder.{first_member}
use Rattle.plan_order.proofs.Loops.{in_cons}
use Rattle.plan_order.proofs.Orders.{none_in_nil}
use Rattle.waveform.specs.declared.sample.Sample.{Sample}
use Rattle.waveform.proofs.Places.{no_sample}
use Rattle.cpl_plan.specs.ExchangeKinds.{exchange_kind}
use Rattle.cpl_plan.specs.Needs.{is_second}
use Rattle.cpl_plan.specs.PlanWords.{components_of, passes}
use Rattle.cpl_plan.specs.PlanTests.{has_members}
use Rattle.cpl_plan.specs.ValidPlan.{IsValidPlan}
use Rattle.cpl_plan.specs.Windows.{is_window, latest_end}
use Rattle.cpl_plan.specs.declared.parts.PlanParts.{PlanParts}
use Rattle.cpl_plan.specs.declared.parts.Exchange.{Exchange}
use Rattle.cpl_plan.specs.declared.parts.Scheme.{Scheme}
use Rattle.cpl_plan.specs.declared.parts.SchemeKind.{SchemeKind}
use Rattle.cpl_plan.specs.declared.parts.SchemeKind.TheVariants.{SerialExplicit}
use Rattle.cpl_plan.specs.declared.parts.Kind.{Kind}
use Rattle.cpl_plan.specs.declared.parts.Kind.TheVariants.{Lag}
use Rattle.cpl_plan.specs.declared.parts.WindowMethod.{WindowMethod}
use Rattle.cpl_plan.specs.declared.parts.WindowMethod.TheVariants.{Fixed, FirstParticipant}
use Rattle.cpl_plan.specs.declared.words.Item.TheVariants.{Completed}
use Rattle.cpl_plan.proofs.Readings.{each_at, passes_at}
use Rattle.cpl_plan.proofs.FirstStep.{one_scheme, to_second}
use Rattle.cpl_plan.proofs.FixedWindows.{window_number, starts_at, ends_at, ends_late, fixed_count}
use Rattle.coupled_loop.specs.Given.{Look}
use Rattle.coupled_loop.specs.Settled.{Extends, IsInOrder, IsProvided}
use Rattle.coupled_loop.specs.PlanFrames.{ends_made, window_maker}
use Rattle.core_laws.proofs.Looks.{extends_itself}
use Rattle.wave_coupling.specs.Posts.{Wave, Post, newest_sample, newest_time, moved_to, at_time, received}
use Rattle.wave_coupling.specs.InputWave.{InputWave, no_input, completed, accepted_before, input_by, input_wave}
use Rattle.wave_coupling.specs.Coupling.{wave_frame, is_first_step, makes_windows, start_of, latest_of, inputs_of}
use Rattle.wave_laws.specs.Fitting.{IsInputWave, IsPostedWave, IsFittingLook, count_of, end_told}
use Rattle.wave_values.specs.Turns.{IsRelaxedBy}
use Rattle.wave_laws.proofs.InputFits.{input_fits}
use Rattle.wave_laws.proofs.Senders.{is_exchange}
use Rattle.wave_laws.proofs.Stills.{maker_asked, end_still}
use Rattle.wave_values.specs.Fits.{AreInputs}
use Rattle.wave_values.proofs.Lists.{beside_made, zipped_left}
use Rattle.wave_values.proofs.ReadsFit.{reader_is}
use Rattle.wave_values.proofs.Times.{same_start, start_early, still_there}

-- when a turn starts, and when it ends where it does not make the window, in each later look
pub record IsTurn (plan : PlanParts) (f : Look Post) (part w start latest : ℕ) (one_step : Bool) : Type 0 where
  pub makes : one_step ≡ makes_windows plan part
  pub there : (g : Look Post) → Extends f g → IsInOrder g → is_window plan (ends_made newest_time g (window_maker plan) w) w ≡ true
  pub starts : (g : Look Post) → Extends f g → IsInOrder g → start_of plan g w ≡ start
  pub ends : one_step ≡ false → (g : Look Post) → Extends f g → IsInOrder g → end_told plan g w ≡ latest

-- a posted wave ends after it starts
posted_later : (start end components count : ℕ) (wave : Wave) → IsPostedWave start end components count wave → start < end
posted_later start end components count wave is =
    let within : length wave - 1 < length wave = let least = is.least in omega (arith, least) in
    let last : (get_or wave (length wave - 1) no_sample).time ≡ end = sym (get_or-map (λ (s : Sample). s.time) wave (length wave - 1) no_sample 0 within) ∙ is.at_end in
    omega (arith, last, is.after_start (length wave - 1) no_sample within)

two_numbers : (ns : List ℕ) → length ns ≡ 2 → (a : ℕ) × (b : ℕ) × (ns ≡ a ∷ b ∷ [])
two_numbers [] two = absurd (omega (arith, two))
two_numbers (a ∷ []) two = absurd (omega (arith, two))
two_numbers (a ∷ b ∷ []) two = (a, b, refl)
two_numbers (a ∷ b ∷ c ∷ more) two = absurd (omega (arith, two))

serial_two : (kind : SchemeKind) (n : ℕ) → kind ≡ SerialExplicit → has_members kind n ≡ true → n ≡ 2
serial_two kind n serial is = eqb-true n 2 (sym (ap (λ kd. has_members kd n) serial) ∙ is)

only_item : {X : Type 0} (x : X) (k : ℕ) (y : X) → slice_get (x ∷ []) k ≡ Some y → x ≡ y
only_item x zero y is = same_Some x y is
only_item x (suc k) y is = absurd (none-some y is)

first_method : (m : WindowMethod) → is_first_step m ≡ true → m ≡ FirstParticipant
first_method Fixed is = absurd (false≢true is)
first_method FirstParticipant is = refl

module _ (plan : PlanParts) (valid : IsValidPlan plan) where
  -- who makes windows is the first of the one scheme
  pub makes_first : (part : ℕ) → makes_windows plan part ≡ true → (plan.method ≡ FirstParticipant) × (part ≡ window_maker plan)
  makes_first part is =
      let both = and_parts (is_first_step plan.method) (nat_eq part (window_maker plan)) is in
      (first_method plan.method both.0, eqb-true part (window_maker plan) both.1)

  pub record TheTwo : Type 0 where
    pub scheme : Scheme
    pub second : ℕ
    pub only : (s : ℕ) (z : Scheme) → slice_get plan.schemes s ≡ Some z → scheme ≡ z
    pub kind : scheme.kind ≡ SerialExplicit
    pub members : scheme.members ≡ window_maker plan ∷ second ∷ []

  pub the_two : plan.method ≡ FirstParticipant → TheTwo
  the_two method =
      let one = one_scheme plan valid method in
      let stands : slice_get plan.schemes 0 ≡ Some one.0 = ap (λ ss. slice_get ss 0) one.1 in
      let counted = each_at (λ _ z. has_members z.kind (length z.members)) plan.schemes valid.schemes.members_counted 0 one.0 stands in
      let two = two_numbers one.0.members (serial_two one.0.kind (length one.0.members) one.2 counted) in
      let maker : window_maker plan ≡ two.0 = ap (λ o. first_member (option_map_or (λ s. s.members) o [])) stands ∙ ap first_member two.2 in
      record {
        scheme = one.0;
        second = two.1;
        only = λ s z is. only_item one.0 s z (sym (ap (λ ss. slice_get ss s) one.1) ∙ is);
        kind = one.2;
        members = two.2 ∙ ap (λ (a : ℕ). a ∷ two.1 ∷ []) (sym maker);
      }

  -- what the maker of windows reads is of the window before
  maker_lags : (x : ℕ) (e : Exchange) → slice_get plan.exchanges x ≡ Some e → plan.method ≡ FirstParticipant → e.to ≡ window_maker plan → e.kind ≡ Lag
  maker_lags x e at method reads =
      let two = the_two method in
      let is = is_exchange plan valid x e at in
      let same : two.scheme ≡ is.scheme = two.only e.scheme is.scheme is.stands in
      let sender : Contains (window_maker plan ∷ two.second ∷ []) e.from =
      subst (λ (ns : List ℕ). Contains ns e.from) two.members (subst (λ (s : Scheme). Contains s.members e.from) (sym same) is.sender) in
      let other : ¬ (two.second ≡ e.to) = λ equal. elim (in_cons (window_maker plan) (two.second ∷ []) e.from sender) [
        | inl here ↦ is.apart (sym here ∙ sym reads)
        | inr rest ↦ elim (in_cons two.second [] e.from rest) [ inl here ↦ is.apart (sym here ∙ equal) | inr none ↦ absurd (none_in_nil e.from none) ]
      ] in
      let second : is_second two.scheme e.to ≡ false = ap (λ ns. option_map_or (λ m. nat_eq m e.to) (slice_get ns 1) false) two.members ∙ ne_eqb two.second e.to other in
      is.kind ∙ ap (λ (s : Scheme). exchange_kind s.kind (is_second s e.to)) (sym same) ∙ ap (λ b. exchange_kind two.scheme.kind b) second ∙ ap (λ kd. exchange_kind kd false) two.kind

  -- an exchange that the maker sends
  pub maker_sends : plan.method ≡ FirstParticipant → (x : ℕ) × (e : Exchange) × (slice_get plan.exchanges x ≡ Some e) × (e.from ≡ window_maker plan)
  maker_sends method =
      let one = to_second plan valid method in
      let two = the_two method in
      let scheme = passes_at plan.schemes one.1.scheme (λ scheme. passes scheme.members 0 (λ first. nat_eq first one.1.from) && is_second scheme one.1.to) one.3 in
      let same : two.scheme ≡ scheme.0 = two.only one.1.scheme scheme.0 scheme.1 in
      let first = passes_at scheme.0.members 0 (λ first. nat_eq first one.1.from) (and_parts (passes scheme.0.members 0 (λ first. nat_eq first one.1.from)) (is_second scheme.0 one.1.to) scheme.2).0 in
      let maker : window_maker plan ≡ first.0 =
      same_Some (window_maker plan) first.0 (sym (ap (λ (ns : List ℕ). slice_get ns 0) two.members) ∙ ap (λ (s : Scheme). slice_get s.members 0) same ∙ first.1) in
      (one.0, one.1, one.2, sym (maker ∙ eqb-true first.0 one.1.from first.2))

  module _ (vertices : ℕ → ℕ) (f : Look Post) (order : IsInOrder f) (fits : IsFittingLook plan vertices f) where
    module _ (part w k : ℕ) (below : part < length plan.parts) (provided : IsProvided (wave_frame plan) f part w k) where
      pub first_window : 1 ≤ w
      first_window = (window_number plan (ends_made newest_time f (window_maker plan) (w - 1)) w provided.window).0

      told_latest : makes_windows plan part ≡ false → end_told plan f w ≡ latest_of plan f part w
      told_latest other = sym (ap (λ b. if b then latest_end plan (start_of plan f w) else end_told plan f w) other)

      maker_latest : makes_windows plan part ≡ true → latest_end plan (start_of plan f w) ≡ latest_of plan f part w
      maker_latest own = sym (ap (λ b. if b then latest_end plan (start_of plan f w) else end_told plan f w) own)

      pub turn_is : IsTurn plan f part w (start_of plan f w) (latest_of plan f part w) (makes_windows plan part)
      turn_is = record {
        makes = refl;
        there = λ g extends ordered. still_there plan f g extends order w provided.window;
        starts = λ g extends ordered. sym (same_start plan f g extends order w provided.window);
        ends = λ other g extends ordered.
            sym (ap (λ (o : Option ℕ). option_map_or (λ end. end) o 0) (end_still plan valid newest_time f g extends order part w k below provided.needed other)) ∙ told_latest other;
      }

      -- a window's end that is told is after its start
      told_later : makes_windows plan part ≡ false → start_of plan f w < end_told plan f w
      told_later other = by plan.method refl
        where
          ends : List ℕ
          ends = ends_made newest_time f (window_maker plan) w

          by : (m : WindowMethod) → plan.method ≡ m → start_of plan f w < end_told plan f w
          by Fixed method =
              let most = (window_number plan (ends_made newest_time f (window_maker plan) (w - 1)) w provided.window).1 in
              let start = starts_at plan valid method (ends_made newest_time f (window_maker plan) w) w first_window in
              let end = ends_at plan valid method (ends_made newest_time f (window_maker plan) w) w first_window most in
              let late = ends_late plan method valid.sizes.window.0 (fixed_count plan valid method) (ends_made newest_time f (window_maker plan) w) w ((w - 1) * plan.window)
              (min (w * plan.window) plan.end_time) start end (still_there plan f f (extends_itself f) order w provided.window) in
              let one : start_of plan f w ≡ (w - 1) * plan.window = ap (λ (o : Option ℕ). option_map_or (λ s. s) o 0) start in
              let last : end_told plan f w ≡ min (w * plan.window) plan.end_time = ap (λ (o : Option ℕ). option_map_or (λ s. s) o 0) end in
              subst (λ (a : ℕ). a < end_told plan f w) (sym one) (subst (λ (b : ℕ). (w - 1) * plan.window < b) (sym last) late.0)
          by FirstParticipant method =
              let unlike : ¬ (window_maker plan ≡ part) = λ same. false≢true (sym other ∙ (ap (λ m. is_first_step m && nat_eq part (window_maker plan)) method ∙ eq-eqb part (window_maker plan) (sym same))) in
              let made = provided.needed (record { owner = window_maker plan; item = Completed w }) (maker_asked plan valid method part w k below unlike) in
              let one = maker_sends method in
              posted_later (start_of plan f w) (end_told plan f w) (components_of plan one.1) (count_of plan vertices one.1) (completed plan f one.1 one.0 w).wave
              (fits.accepted one.0 w one.1 one.2 first_window (subst (λ (p : ℕ). IsSome (f p (Completed w))) (sym one.3) made))

      some_time : start_of plan f w < latest_of plan f part w
      some_time = by (makes_windows plan part) refl
        where
          by : (b : Bool) → makes_windows plan part ≡ b → start_of plan f w < latest_of plan f part w
          by true own =
              let last = maker_latest own in let early = start_early plan f w provided.window in let size = valid.sizes.window.0 in
              subst (λ (n : ℕ). start_of plan f w < n) last (omega (arith, early, size))
          by false other = subst (λ (n : ℕ). start_of plan f w < n) (told_latest other) (told_later other)

      few : (time : ℕ) (wave : Wave) → length (at_time time wave) ≤ 1
      few time wave = of (newest_sample wave)
        where
          of : (o : Option Sample) → length (option_to_list (option_map (moved_to time) o)) ≤ 1
          of None = omega (arith)
          of (Some s) = omega (arith)

      -- until the time that the turn may reach
      reached_fits : (x : ℕ) (e : Exchange) → slice_get plan.exchanges x ≡ Some e → e.to ≡ part
          → IsInputWave (start_of plan f w) (end_told plan f w) (components_of plan e) (count_of plan vertices e) (input_wave plan f x w (start_of plan f w) k).wave
          → IsInputWave (start_of plan f w) (latest_of plan f part w) (components_of plan e) (count_of plan vertices e) (input_wave plan f x w (start_of plan f w) k).wave
      reached_fits x e at reads is = by (makes_windows plan part) refl
        where
          by : (b : Bool) → makes_windows plan part ≡ b
              → IsInputWave (start_of plan f w) (latest_of plan f part w) (components_of plan e) (count_of plan vertices e) (input_wave plan f x w (start_of plan f w) k).wave
          by true own =
              let first = makes_first part own in
              let lag : e.kind ≡ Lag = maker_lags x e at first.0 (reads ∙ first.1) in
              let same : (input_wave plan f x w (start_of plan f w) k).wave ≡ accepted_before plan f e x w (start_of plan f w) =
              ap (λ (o : Option Exchange). (option_map_or (λ e. input_by plan f e.kind e x w (start_of plan f w) k) o no_input).wave) at
              ∙ ap (λ (kind : Kind). (input_by plan f kind e x w (start_of plan f w) k).wave) lag in
              let one : length (input_wave plan f x w (start_of plan f w) k).wave ≤ 1 =
              subst (λ (wave : Wave). length wave ≤ 1) (sym same) (few (start_of plan f w) (completed plan f e x (w - 1)).wave) in
              let least = is.least in
              record { least = is.least; most = is.most; rising = is.rising; at_start = is.at_start; at_end = inl (omega (arith, one, least)); samples = is.samples }
          by false other =
              subst (λ (n : ℕ). IsInputWave (start_of plan f w) n (components_of plan e) (count_of plan vertices e) (input_wave plan f x w (start_of plan f w) k).wave) (told_latest other) is

      pub inputs_are : IsRelaxedBy plan f part w k → AreInputs plan vertices part (inputs_of plan f part w k)
      inputs_are relaxed = record {
        later = some_time;
        each = length-map (received plan part) (λ (x : ℕ). input_wave plan f x w (start_of plan f w) k);
        fit = λ x e input inside at.
            let reads : e.to ≡ part = reader_is plan valid part x e at (zipped_left (received plan part) (map (λ (y : ℕ). input_wave plan f y w (start_of plan f w) k) (received plan part)) x input inside) in
            let same = beside_made (λ (y : ℕ). input_wave plan f y w (start_of plan f w) k) (received plan part) x input inside in
            subst (λ (one : InputWave). IsInputWave (start_of plan f w) (latest_of plan f part w) (components_of plan e) (count_of plan vertices e) one.wave) same
            (reached_fits x e at reads
            (input_fits plan valid vertices f fits order part w k x e provided relaxed at reads));
      }
