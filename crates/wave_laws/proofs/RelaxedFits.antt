-- What relaxation makes of fitting posts fits as they do, as long as no value is out of range; and it can be relaxed.
use Rattle.std.proofs.Common.{◌≡◌, ◌⊎◌, inl, inr, ℕ, zero, suc, ◌+◌, ◌-◌, ◌<◌, ◌≤◌, nat_eq, nat_le, List, [], ◌∷◌, ◌++◌, length, get_or, map, min, slice_get, slice_index_or, position, Option, Some, None, Result, Ok, Err, IsSome, All, Contains, ℤ, pos, refl, ap, sym, subst, ◌∙◌, arith}
use Rattle.std.specs.Prelude.{slice_index}
use Rattle.std.specs.List.{zip}
use Rattle.std.specs.Option.{option_map_or}
use Rattle.std.proofs.lemmas.Bool.{cases_lt, eqb-true, leb-true}
use Rattle.std.proofs.lemmas.List.{length-map, get_or-map}
use Rattle.std.proofs.lemmas.List.Elements.{All-contains, Contains-get_or}
use Rattle.std.proofs.lemmas.List.Quantifiers.{position-Some}
use Rattle.std.proofs.lemmas.Option.{same_Some, slice_get-get_or, slice_get_within, get_or_from_slice_get}
use Rattle.std.proofs.lemmas.Slice.Zip.{length-zip}
use Rattle.fixed_num.specs.Relaxation.{relaxed}
use Rattle.cpl_plan.specs.PlanWords.{components_of}
use Rattle.cpl_plan.specs.ValidPlan.{IsValidPlan}
use Rattle.cpl_plan.specs.declared.parts.PlanParts.{PlanParts}
use Rattle.cpl_plan.specs.declared.parts.DataPlan.{DataPlan}
use Rattle.cpl_plan.specs.declared.parts.Exchange.{Exchange}
use Rattle.cpl_plan.specs.declared.parts.Scheme.{Scheme}
use Rattle.cpl_plan.specs.declared.words.Item.TheVariants.{Completed, Posted}
use Rattle.cpl_plan.proofs.Readings.{each_at}
use Rattle.waveform.specs.declared.sample.Sample.{Sample}
use Rattle.waveform.specs.IsWave.{times}
use Rattle.waveform.specs.WaveValue.{read}
use Rattle.acceleration.specs.Exchanged.{Exchanged, CanRelax}
use Rattle.acceleration.specs.Factors.{factor_by}
use Rattle.acceleration.specs.Outside.{Location}
use Rattle.acceleration.specs.Overflows.{IsInRange}
use Rattle.acceleration.specs.RelaxedIterate.{Iterate, relaxed_iterate}
use Rattle.acceleration.specs.RelaxedWaves.{relaxed_values, relaxed_sample, relaxed_wave, relaxed_waves}
use Rattle.acceleration.specs.Residual.{residual}
use Rattle.acceleration.proofs.Exchanges.{no_exchange}
use Rattle.acceleration.proofs.FirstOverflows.{iterate-waves, iterate-in_range}
use Rattle.coupled_loop.specs.Given.{Look}
use Rattle.coupled_loop.specs.Settled.{IsInOrder, HavePostedBelow}
use Rattle.wave_coupling.specs.Posts.{Wave, Post}
use Rattle.wave_coupling.specs.InputWave.{Relaxed, completed, accepted_before, exchange_of, accelerated, over, relaxed_next, relaxed_after}
use Rattle.wave_coupling.specs.Coupling.{wave_frame, start_of}
use Rattle.wave_laws.specs.Fitting.{IsSampleOf, IsPostedWave, IsInputWave, AreValues, count_of, end_told, IsFittingLook, IsRelaxedBelow}
use Rattle.wave_laws.proofs.ReadValues.{read_are, input_read_at}
use Rattle.wave_laws.proofs.Stills.{slice_in}
use Rattle.wave_laws.proofs.Senders.{is_exchange, sender_in, accelerated_scheme}
use Rattle.wave_laws.proofs.WaveFits.{SomeSamples, some_posted, with_more}

times_same : (factor : ℤ) (e : Exchanged) (wave : Wave) → times (map (relaxed_sample factor e) wave) ≡ times wave
times_same factor e [] = refl
times_same factor e (s ∷ wave) = ap (λ (ts : List ℕ). s.time ∷ ts) (times_same factor e wave)

relaxed_count : (factor : ℤ) (count : ℕ) (xs ys : List ℤ) → length xs ≡ count → length ys ≡ count → length (relaxed_values factor xs ys) ≡ count
unfolding relaxed_values
relaxed_count factor count xs ys one other =
    let same : min (length xs) (length ys) ≡ count = omega (arith, one, other) in
    length-map (zip xs ys) (λ (v : ℤ × ℤ). relaxed v.0 v.1 factor) ∙ length-zip xs ys ∙ same

-- no sample of a posted wave is past its end
pub no_later : (start end components count : ℕ) (wave : Wave) (s : Sample) → IsPostedWave start end components count wave → Contains wave s → s.time ≤ end
no_later start end components count wave s is inside =
    let last : length wave - 1 < length wave = omega (arith, is.least) in
    let at_end : (get_or wave (length wave - 1) s).time ≡ end = sym (get_or-map (λ (s : Sample). s.time) wave (length wave - 1) s 0 last) ∙ is.at_end in
    let own : (get_or wave inside.0 s).time ≡ s.time = ap (λ (r : Sample). r.time) inside.2 in
    elim (cases_lt inside.0 (length wave - 1)) [
      | inl before ↦ omega (arith, is.rising inside.0 (length wave - 1) s before last, at_end, own)
      | inr past ↦
          let here : inside.0 ≡ length wave - 1 = omega (arith, past, inside.1) in
          let same : (get_or wave inside.0 s).time ≡ (get_or wave (length wave - 1) s).time = ap (λ (k : ℕ). (get_or wave k s).time) here in
          omega (arith, same, at_end, own)
    ]

-- one relaxed wave
module _ (start end components count : ℕ) (factor : ℤ) (e : Exchanged) (taken : IsInputWave start end components count e.taken) (posts : IsPostedWave start end components count e.posted) where
  read_at_posted : (s : Sample) → Contains e.posted s → AreValues count (read e.taken e.degree s.time)
  read_at_posted s inside =
      let low : start < s.time = All-contains (λ (r : Sample). start < r.time) e.posted s posts.after_start inside in
      read_are components count e.taken e.degree s.time taken.samples taken.least
      (input_read_at start end components count e.taken s.time taken (omega (arith, low)) (no_later start end components count e.posted s posts inside))

  at_place : (k : ℕ) (d : Sample) → k < length e.posted → get_or (relaxed_wave factor e) k d ≡ relaxed_sample factor e (get_or e.posted k d)
  at_place k d inside = get_or-map (relaxed_sample factor e) e.posted k d d inside

  as_many : (k : ℕ) → k < length (relaxed_wave factor e) → k < length e.posted
  as_many k within = omega (arith, within, length-map e.posted (relaxed_sample factor e))

  wave_relaxed : All IsInRange (relaxed_wave factor e) → IsPostedWave start end components count (relaxed_wave factor e)
  wave_relaxed in_range =
      let many = length-map e.posted (relaxed_sample factor e) in
      record {
        least = omega (arith, many, posts.least);
        most = omega (arith, many, posts.most);
        rising = λ i j d less within.
            let later = as_many j within in
            let one = ap (λ (s : Sample). s.time) (at_place i d (omega (arith, less, later))) in
            let other = ap (λ (s : Sample). s.time) (at_place j d later) in
            omega (arith, one, other, posts.rising i j d less later);
        after_start = λ k d within.
            let inside = as_many k within in
            let own = ap (λ (s : Sample). s.time) (at_place k d inside) in
            omega (arith, own, posts.after_start k d inside);
        at_end =
            ap (λ (n : ℕ). slice_index (times (relaxed_wave factor e)) (n - 1)) many
            ∙ ap (λ (ts : List ℕ). slice_index ts (length e.posted - 1)) (times_same factor e e.posted) ∙ posts.at_end;
        samples = λ k d within.
            let inside = as_many k within in
            let own = posts.samples k d inside in
            let values = read_at_posted (get_or e.posted k d) (Contains-get_or e.posted k d inside) in
            subst (λ (s : Sample). IsSampleOf components count s) (sym (at_place k d inside))
            (record {
              at_vertex = own.at_vertex;
              in_all = relaxed_count factor count (read e.taken e.degree (get_or e.posted k d).time) (get_or e.posted k d).field.values values.in_all own.in_all;
              values = subst (λ (s : Sample). IsInRange s) (at_place k d inside) (in_range k d within);
            });
      }

  can_relax : e.degree ≤ 1 → CanRelax e
  can_relax degree = record {
    degree = degree;
    alike = λ i d within j d' within'.
        let one = taken.samples i d within in
        let other = posts.samples j d' within' in
        record { components = one.at_vertex ∙ sym other.at_vertex; len = one.in_all ∙ sym other.in_all };
    covered = elim taken.at_end [
      | inl one ↦ inl one
      | inr last ↦ inr (λ k d within.
          let low : start < (get_or e.posted k d).time = posts.after_start k d within in
          let high = no_later start end components count e.posted (get_or e.posted k d) posts (Contains-get_or e.posted k d within) in
          (omega (arith, taken.at_start, low), omega (arith, last, high)))
    ];
  }

-- a place that is found is that of its number
pub found_place : (x : ℕ) (xs : List ℕ) (place : ℕ) → position (nat_eq x) xs ≡ Some place → slice_get xs place ≡ Some x
found_place x xs place is =
    let found = position-Some (nat_eq x) xs place 0 is in
    slice_get-get_or xs place 0 found.0 ∙ ap Some (sym (eqb-true x (get_or xs place 0) found.1))

module _ (plan : PlanParts) (valid : IsValidPlan plan) (vertices : ℕ → ℕ) (look : Look Post) (fits : IsFittingLook plan vertices look) where
  pub some_completed : (x v : ℕ) (e : Exchange) → slice_get plan.exchanges x ≡ Some e → IsSome (look e.from (Completed v))
      → SomeSamples (components_of plan e) (count_of plan vertices e) (completed plan look e x v).wave
  some_completed x zero e at given = let is = fits.initial x e at given in record { least = omega (arith, is.one); samples = is.samples }
  some_completed x (suc v) e at given =
      some_posted (start_of plan look (suc v)) (end_told plan look (suc v)) (components_of plan e) (count_of plan vertices e) (completed plan look e x (suc v)).wave
      (fits.accepted x (suc v) e at (omega arith) given)

  -- a wave that fits what is posted for window w, and one that fits what is read there
  abbrev pub FitsPost : (w : ℕ) → Exchange → Wave → Type 0
  FitsPost w e wave = IsPostedWave (start_of plan look w) (end_told plan look w) (components_of plan e) (count_of plan vertices e) wave

  abbrev pub FitsInput : (w : ℕ) → Exchange → Wave → Type 0
  FitsInput w e wave = IsInputWave (start_of plan look w) (end_told plan look w) (components_of plan e) (count_of plan vertices e) wave

  pub input_with : (x w : ℕ) (e : Exchange) → slice_get plan.exchanges x ≡ Some e → IsSome (look e.from (Completed (w - 1))) → (more : Wave) → (more ≡ []) ⊎ FitsPost w e more
      → FitsInput w e (accepted_before plan look e x w (start_of plan look w) ++ more)
  input_with x w e at given more rest =
      with_more (start_of plan look w) (end_told plan look w) (components_of plan e) (count_of plan vertices e) (completed plan look e x (w - 1)).wave more (some_completed x (w - 1) e at given) rest

  module _ (order : IsInOrder look) (number : ℕ) (scheme : Scheme) (stands : slice_get plan.schemes number ≡ Some scheme) (w : ℕ) where
    abbrev after : (n : ℕ) → Relaxed
    after n = relaxed_after plan look scheme w (start_of plan look w) n

    -- the relaxed waves of an iteration fit as posts do
    abbrev pub AreRelaxed : (n : ℕ) → Type 0
    AreRelaxed n =
        (place x : ℕ) (e : Exchange) → slice_get (over scheme.accel) place ≡ Some x → slice_get plan.exchanges x ≡ Some e
        → FitsPost w e (slice_index_or (relaxed_after plan look scheme w (start_of plan look w) n).waves place [])

    -- what an accelerated exchange had before an iteration
    abbrev pub before_of : (n x : ℕ) → Wave
    before_of n x = option_map_or (λ place. slice_index_or (relaxed_after plan look scheme w (start_of plan look w) n).waves place []) (position (nat_eq x) (over scheme.accel)) []

    before_fits : (n x : ℕ) (e : Exchange) → slice_get plan.exchanges x ≡ Some e → (n ≡ 0) ⊎ AreRelaxed n → (before_of n x ≡ []) ⊎ FitsPost w e (before_of n x)
    before_fits n x e at relaxed = by (position (nat_eq x) (over scheme.accel)) refl relaxed
      where
        by : (o : Option ℕ) → position (nat_eq x) (over scheme.accel) ≡ o → (n ≡ 0) ⊎ AreRelaxed n
            → (option_map_or (λ place. slice_index_or (after n).waves place []) o [] ≡ []) ⊎ FitsPost w e (option_map_or (λ place. slice_index_or (after n).waves place []) o [])
        by None is was = inl refl
        by (Some place) is (inl none) = inl (ap (λ (k : ℕ). slice_index_or (after k).waves place []) none)
        by (Some place) is (inr are) = inr (are place x e (found_place x (over scheme.accel) place is) at)

    abbrev one_of : (n x : ℕ) → Option Exchange → Exchanged
    one_of n x o = accelerated plan look w (start_of plan look w) (suc n) (before_of n x) x o

    abbrev pub exchanges_of : (n : ℕ) → List Exchanged
    exchanges_of n = map (λ x. accelerated plan look w (start_of plan look w) (suc n) (before_of n x) x (exchange_of plan look x)) (over scheme.accel)

    -- who has posted the iteration, of an accelerated exchange
    posted_of : (n x : ℕ) (e : Exchange) → slice_get plan.exchanges x ≡ Some e → e.scheme ≡ number → HavePostedBelow (wave_frame plan) look number w (suc (suc n)) → IsSome (look e.from (Posted w (suc n)))
    posted_of n x e at own given = given e.from (suc n) (sender_in plan valid e number (is_exchange plan valid x e at) own) (omega arith) (omega arith)

    taken_fits : (n x : ℕ) (e : Exchange) → slice_get plan.exchanges x ≡ Some e → e.scheme ≡ number → (n ≡ 0) ⊎ AreRelaxed n → HavePostedBelow (wave_frame plan) look number w (suc (suc n))
        → FitsInput w e (one_of n x (Some e)).taken
    taken_fits n x e at own relaxed given =
        input_with x w e at (order.turns e.from w (suc n) (posted_of n x e at own given)).2 (before_of n x) (before_fits n x e at relaxed)

    posts_fit : (n x : ℕ) (e : Exchange) → slice_get plan.exchanges x ≡ Some e → e.scheme ≡ number → HavePostedBelow (wave_frame plan) look number w (suc (suc n)) → FitsPost w e (one_of n x (Some e)).posted
    posts_fit n x e at own given = fits.posts x w (suc n) e at (posted_of n x e at own given)

    -- each can be relaxed
    pub can_be_relaxed : (n x : ℕ) → Contains (over scheme.accel) x → (n ≡ 0) ⊎ AreRelaxed n → HavePostedBelow (wave_frame plan) look number w (suc (suc n)) → CanRelax (one_of n x (exchange_of plan look x))
    can_be_relaxed n x inside relaxed given =
        let at = accelerated_scheme plan valid number x scheme stands inside in
        subst (λ (o : Option Exchange). CanRelax (one_of n x o)) (sym at.1)
        (can_relax (start_of plan look w) (end_told plan look w) (components_of plan at.0) (count_of plan vertices at.0) (pos 0) (one_of n x (Some at.0))
        (taken_fits n x at.0 at.1 at.2 relaxed given) (posts_fit n x at.0 at.1 at.2 given) (degree_of at.0.data_id))
      where
        degree_of : (data_id : ℕ) → option_map_or (λ (d : DataPlan). d.degree) (slice_get plan.data_list data_id) 0 ≤ 1
        degree_of data_id = by (slice_get plan.data_list data_id) refl
          where
            by : (o : Option DataPlan) → slice_get plan.data_list data_id ≡ o → option_map_or (λ (d : DataPlan). d.degree) o 0 ≤ 1
            by None is = omega arith
            by (Some d) is = leb-true d.degree 1 (each_at (λ _ item. nat_le item.degree 1) plan.data_list valid.meshes.degrees data_id d is)

    next_relaxed : (n : ℕ) → (n ≡ 0) ⊎ AreRelaxed n → HavePostedBelow (wave_frame plan) look number w (suc (suc n)) → (after (suc n)).outside ≡ None → AreRelaxed (suc n)
    next_relaxed n relaxed given inside place x e at_place at = by (relaxed_iterate (after n).relaxer (exchanges_of n)) refl inside
      where
        own : e.scheme ≡ number
        own =
            let mine = accelerated_scheme plan valid number x scheme stands (slice_in (over scheme.accel) place x at_place) in
            ap (λ (o : Exchange). o.scheme) (same_Some e mine.0 (sym at ∙ mine.1)) ∙ mine.2

        factor : ℤ
        factor = factor_by (after n).relaxer.method (after n).relaxer.memory (residual (exchanges_of n))

        there : place < length (over scheme.accel)
        there = slice_get_within (over scheme.accel) place x at_place

        made : slice_index_or (relaxed_waves factor (exchanges_of n)) place [] ≡ relaxed_wave factor (one_of n x (Some e))
        made =
            get_or-map (relaxed_wave factor) (exchanges_of n) place no_exchange []
            (omega (arith, there, length-map (over scheme.accel) (λ y. one_of n y (exchange_of plan look y))))
            ∙ ap (relaxed_wave factor) (get_or-map (λ y. one_of n y (exchange_of plan look y)) (over scheme.accel) place 0 no_exchange there
            ∙ ap (λ y. one_of n y (exchange_of plan look y)) (get_or_from_slice_get (over scheme.accel) place x 0 at_place)
            ∙ ap (λ (o : Option Exchange). one_of n x o) at)

        by : (result : Result Iterate Location) → relaxed_iterate (after n).relaxer (exchanges_of n) ≡ result → (relaxed_next plan look (after n) result).outside ≡ None
            → FitsPost w e (slice_index_or (relaxed_next plan look (after n) result).waves place [])
        by (Err location) is none = absurd (some_none location none)
          where
            some_none : (l : Location) → Some l ≡ None → ⊥
            some_none l e = cc
        by (Ok iterate) is none =
            let waves = iterate-waves (after n).relaxer (exchanges_of n) iterate is in
            let one : slice_index_or iterate.waves place [] ≡ relaxed_wave factor (one_of n x (Some e)) = ap (λ (ws : List Wave). slice_index_or ws place []) waves ∙ made in
            let many : length iterate.waves ≡ length (over scheme.accel) =
            ap (λ (ws : List Wave). length ws) waves ∙ length-map (exchanges_of n) (relaxed_wave factor) ∙ length-map (over scheme.accel) (λ y. one_of n y (exchange_of plan look y)) in
            let in_range : All IsInRange (slice_index_or iterate.waves place []) = iterate-in_range (after n).relaxer (exchanges_of n) iterate is place [] (omega (arith, many, there)) in
            subst (λ (wave : Wave). FitsPost w e wave) (sym one)
            (wave_relaxed (start_of plan look w) (end_told plan look w) (components_of plan e) (count_of plan vertices e) factor (one_of n x (Some e))
            (taken_fits n x e at own relaxed given) (posts_fit n x e at own given) (subst (λ (wave : Wave). All IsInRange wave) one in_range))

    -- the relaxed waves after some iterations, none of which was out of range
    pub all_relaxed : (n : ℕ) → HavePostedBelow (wave_frame plan) look number w (suc n) → IsRelaxedBelow plan look scheme w (suc n) → (n ≡ 0) ⊎ AreRelaxed n
    all_relaxed zero given inside = inl refl
    all_relaxed (suc n) given inside =
        inr (next_relaxed n
        (all_relaxed n (λ member j among low high. given member j among low (omega (arith, high))) (λ j low high. inside j low (omega (arith, high)))) given
        (inside (suc n) (omega arith) (omega arith)))

    pub waves_relaxed : (k : ℕ) → 1 ≤ k → HavePostedBelow (wave_frame plan) look number w (k + 1) → IsRelaxedBelow plan look scheme w (k + 1) → AreRelaxed k
    waves_relaxed k first given inside =
        elim (all_relaxed k (λ member j among low high. given member j among low (omega (arith, high))) (λ j low high. inside j low (omega (arith, high)))) [
          | inl none ↦ absurd (omega (arith, none, first))
          | inr are ↦ are
        ]
