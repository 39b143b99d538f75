-- What is read and posted of the accelerated exchanges can be relaxed.
use Rattle.std.proofs.Common.{◌≡◌, ℕ, suc, ◌+◌, ◌-◌, ◌*◌, ◌<◌, ◌≤◌, ◌⊎◌, inl, inr, ◌++◌, cond, nat_eq, eqb, List, [], ◌∷◌, length, get_or, map, Option, Some, None, option_map, All, Contains, arith, refl, ap, sym, subst, ◌∙◌}
use Rattle.std.specs.Prelude.{slice_get, slice_index_or, sum_by, position, option_to_list}
use Rattle.std.specs.Option.{option_map_or}
use Rattle.std.proofs.lemmas.Bool.{cases_eq, ne_eqb}
use Rattle.std.proofs.lemmas.Nat.{mul-le}
use Rattle.std.proofs.lemmas.List.{length-map, get_or-map}
use Rattle.std.proofs.lemmas.List.Sums.{sum_by-cons}
use Rattle.std.proofs.lemmas.List.Elements.{All-nil, All-cons, All-map, All-same}
use Rattle.std.proofs.lemmas.Option.{slice_get_within, get_or_from_slice_get, slice_get-get_or}
use Rattle.cpl_plan.specs.PlanWords.{components_of}
use Rattle.cpl_plan.specs.ValidPlan.{IsValidPlan}
use Rattle.cpl_plan.specs.declared.parts.PlanParts.{PlanParts}
use Rattle.cpl_plan.specs.declared.parts.Exchange.{Exchange}
use Rattle.cpl_plan.specs.declared.parts.Scheme.{Scheme}
use Rattle.waveform.specs.declared.field.Field.{Field}
use Rattle.waveform.specs.declared.sample.Sample.{Sample}
use Rattle.waveform.specs.IsWave.{times, last_time}
use Rattle.acceleration.specs.Exchanged.{Exchanged, exchange_of, exchanged, CanRelax}
use Rattle.acceleration.specs.Residual.{width}
use Rattle.sample_store.specs.Kept.{Kept}
use Rattle.wave_coupling.specs.Posts.{Wave, at_time, moved_to}
use Rattle.wave_coupling.specs.InputWave.{over, posted, completed, accepted_before}
use Rattle.group_course.specs.declared.iteration.Iteration.{Iteration}
use Rattle.group_course.specs.CourseKept.{CourseKept}
use Rattle.group_course.specs.Shapes.{HasShape, IsTurnWave, HasTurnWaves}
use Rattle.group_course.specs.CourseTells.{CourseTells, outline, posted_wave}
use Rattle.group_course.specs.Ready.{IsReady}
use Rattle.group_course.specs.Norms.{IsExchangeOf}
use Rattle.group_course.specs.Taken.{degree_in, relaxed_of, read_in, waves_before, AreTakenOf, AreRelaxable}
use Rattle.group_course.proofs.Maps.{exchanged-map}
use Rattle.group_course.proofs.OfPlan.{found_in, own_place, sum_at_most, sum_same, is_over, small_degree, IsOver}
use Rattle.group_course.proofs.Outlines.{same_widths}

abbrev Line : Type 0
Line = ℕ × (ℕ × ℕ)

-- a wave with the outline of a turn's wave is like one
line_at : (a b : Wave) (k : ℕ) (d : Sample) → outline b ≡ outline a → k < length b
    → (k < length a) × ((get_or b k d).time ≡ (get_or a k d).time) × ((get_or b k d).field.components ≡ (get_or a k d).field.components) × (length (get_or b k d).field.values ≡ length (get_or a k d).field.values)
line_at a b k d same inside =
    let lines = ap (λ (ls : List Line). length ls) same in
    let one : Sample → Line = λ s. (s.time, (s.field.components, length s.field.values)) in
    let within : k < length a = omega (arith, inside, lines, length-map a one, length-map b one) in
    let here : one (get_or b k d) ≡ one (get_or a k d) =
    sym (get_or-map one b k d (one d) inside) ∙ ap (λ (ls : List Line). get_or ls k (one d)) same ∙ get_or-map one a k d (one d) within in (
      within,
      ap (λ (l : Line). l.0) here,
      ap (λ (l : Line). l.1.0) here,
      ap (λ (l : Line). l.1.1) here,
    )

pub same_length : (a b : Wave) → outline b ≡ outline a → length b ≡ length a
same_length a b same =
    let one : Sample → Line = λ s. (s.time, (s.field.components, length s.field.values)) in
    sym (length-map b one) ∙ ap (λ (ls : List Line). length ls) same ∙ length-map a one

end_at : (a : Wave) (d : Sample) → 1 ≤ length a → last_time a ≡ (get_or a (length a - 1) d).time
end_at a d some = get_or-map (λ (s : Sample). s.time) a (length a - 1) d 0 (omega (arith, some))

no_sample : Sample
no_sample = record { time = 0; field = record { components = 0; values = [] } }

module _ (c v start end : ℕ) where
  pub turn_from : (a b : Wave) → outline b ≡ outline a → IsTurnWave c v start end a → IsTurnWave c v start end b
  turn_from a b same turn =
      let lengths = same_length a b same in
      let some : 1 ≤ length b = omega (arith, lengths, turn.some) in
      let last = line_at a b (length b - 1) no_sample same (omega (arith, some)) in
      record {
        some = some;
        few = omega (arith, lengths, turn.few);
        shape = λ k d inside.
            let line = line_at a b k d same inside in
            let own = turn.shape k d line.0 in
            record { each = line.2 ∙ own.each; values = line.3 ∙ own.values };
        after = λ k d inside. let line = line_at a b k d same inside in omega (arith, line.1, turn.after k d line.0);
        within = λ k d inside. let line = line_at a b k d same inside in omega (arith, line.1, turn.within k d line.0);
        last = end_at b no_sample some ∙ last.1 ∙ ap (λ (n : ℕ). (get_or a (n - 1) no_sample).time) lengths ∙ sym (end_at a no_sample turn.some) ∙ turn.last;
      }

  -- the end of a window as the wave at the start of the next
  pub start_of : (wave : Wave) → 1 ≤ length wave → All (λ s. HasShape c v s.field) wave → (field : Field) × (at_time start wave ≡ record { time = start; field = field } ∷ []) × HasShape c v field
  start_of wave some all =
      let s = get_or wave (length wave - 1) no_sample in (
        s.field,
        ap (λ (o : Option Sample). option_to_list (option_map (moved_to start) o)) (slice_get-get_or wave (length wave - 1) no_sample (omega (arith, some))),
        all (length wave - 1) no_sample (omega (arith, some)),
      )

  -- what is led by values at the start can be relaxed towards a turn's wave
  pub can_by : (degree : ℕ) (field : Field) (rest one : Wave) → degree ≤ 1 → HasShape c v field → (rest ≡ []) ⊎ IsTurnWave c v start end rest → IsTurnWave c v start end one
      → CanRelax (exchange_of degree (record { time = start; field = field } ∷ rest) one)
  can_by degree field rest one low own cases turn = record {
    degree = low;
    alike = λ i d inside j e within.
        let a = shapes i d inside in
        let b = turn.shape j e within in
        record { components = a.each ∙ sym b.each; len = a.values ∙ sym b.values };
    covered = elim cases [
      | inl none ↦ inl (ap (λ (ws : Wave). length (record { time = start; field = field } ∷ ws)) none)
      | inr led ↦ inr (λ j e within. (omega (arith, turn.after j e within), omega (arith, turn.within j e within, ends led)))
    ];
  }
    where
      P : Sample → Type 0
      P s = HasShape c v s.field

      shapes : All P (record { time = start; field = field } ∷ rest)
      shapes = elim cases [
        | inl none ↦ subst (λ (ws : Wave). All P (record { time = start; field = field } ∷ ws)) (sym none) (All-cons P (record { time = start; field = field }) [] own (All-nil P))
        | inr led ↦ All-cons P (record { time = start; field = field }) rest own led.shape
      ]

      ends : IsTurnWave c v start end rest → last_time (record { time = start; field = field } ∷ rest) ≡ end
      ends led =
          let at : length (record { time = start; field = field } ∷ rest) - 1 ≡ suc (length rest - 1) = omega (arith, led.some) in
          ap (λ (n : ℕ). get_or (start ∷ times rest) n 0) at ∙ led.last

-- no waves
abbrev no_waves : List Wave
no_waves = []

module _ (plan : PlanParts) (valid : IsValidPlan plan) (stores : List (Option Kept)) (at : Iteration) (course : CourseKept) (first : 1 ≤ at.number) (ready : IsReady plan stores at course) (scheme : Scheme) (is : slice_get plan.schemes at.scheme ≡ Some scheme) where
  all_over : IsOver plan at.scheme (over scheme.accel)
  all_over = is_over plan valid at.scheme scheme is

  -- the turn's waves of an exchange of the scheme
  turns : (x : ℕ) (own : IsExchangeOf plan at.scheme x)
      → HasTurnWaves plan ready.look ready.shaped.vertices x own.exchange at.window at.start ready.shaped.end at.number
  turns x own = ready.shaped.waves x own.exchange own.there own.own

  abbrev IsTurnOf : (x : ℕ) → IsExchangeOf plan at.scheme x → Wave → Type 0
  IsTurnOf x own wave = IsTurnWave (components_of plan own.exchange) (ready.shaped.vertices own.exchange.mesh) at.start ready.shaped.end wave

  posted_at : (k x : ℕ) (own : IsExchangeOf plan at.scheme x) → posted_wave plan ready.look at.window k x ≡ (posted plan ready.look own.exchange x at.window k).wave
  posted_at k x own = ap (λ (o : Option Exchange). option_map_or (λ e. (posted plan ready.look e x at.window k).wave) o []) own.there

  pub posted_turn : (x : ℕ) (own : IsExchangeOf plan at.scheme x) → IsTurnOf x own (posted_wave plan ready.look at.window at.number x)
  posted_turn x own = subst (IsTurnOf x own) (sym (posted_at at.number x own)) (turns x own).newest

  last_turn : (x : ℕ) (own : IsExchangeOf plan at.scheme x) → 2 ≤ at.number → IsTurnOf x own (posted_wave plan ready.look at.window (at.number - 1) x)
  last_turn x own later = subst (IsTurnOf x own) (sym (posted_at (at.number - 1) x own)) ((turns x own).last later)

  told : 2 ≤ at.number → CourseTells plan ready.look scheme at.window at.start (at.number - 1) course
  told later = ready.tells.before scheme is later

  pub as_many : 2 ≤ at.number → length course.waves ≡ length (over scheme.accel)
  as_many later =
      sym (length-map course.waves outline) ∙ ap (λ (os : List (List Line)). length os) (told later).outlines
      ∙ length-map (over scheme.accel) (λ x. outline (posted_wave plan ready.look at.window (at.number - 1) x))

  -- the relaxed wave at a place has the outline of the post before
  outline_at : 2 ≤ at.number → (i x : ℕ) → slice_get (over scheme.accel) i ≡ Some x → outline (get_or course.waves i []) ≡ outline (posted_wave plan ready.look at.window (at.number - 1) x)
  outline_at later i x here =
      let inside = slice_get_within (over scheme.accel) i x here in
      sym (get_or-map outline course.waves i [] [] (omega (arith, inside, as_many later)))
      ∙ ap (λ (os : List (List Line)). get_or os i []) (told later).outlines
      ∙ get_or-map (λ y. outline (posted_wave plan ready.look at.window (at.number - 1) y)) (over scheme.accel) i x [] inside
      ∙ ap (λ (y : ℕ). outline (posted_wave plan ready.look at.window (at.number - 1) y)) (get_or_from_slice_get (over scheme.accel) i x x here)

  pub relaxed_turn : 2 ≤ at.number → (i x : ℕ) (own : IsExchangeOf plan at.scheme x) → slice_get (over scheme.accel) i ≡ Some x → IsTurnOf x own (get_or course.waves i [])
  relaxed_turn later i x own here =
      turn_from (components_of plan own.exchange) (ready.shaped.vertices own.exchange.mesh) at.start ready.shaped.end
      (posted_wave plan ready.look at.window (at.number - 1) x) (get_or course.waves i []) (outline_at later i x here) (last_turn x own later)

  -- the relaxed samples that are read of an exchange
  pub relaxed_at : 2 ≤ at.number → (i x : ℕ) → slice_get (over scheme.accel) i ≡ Some x → relaxed_of scheme (waves_before at.number course.waves) x ≡ get_or course.waves i []
  relaxed_at later i x here =
      ap (λ (ws : List Wave). relaxed_of scheme ws x) (ap (λ b. cond b [] course.waves) (ne_eqb at.number 1 (λ one. omega (arith, one, later))))
      ∙ ap (λ (o : Option ℕ). option_map_or (λ place. slice_index_or course.waves place []) o []) (own_place (over scheme.accel) all_over.rising i x here)

  pub relaxed_none : at.number ≡ 1 → (x : ℕ) → relaxed_of scheme (waves_before at.number course.waves) x ≡ []
  relaxed_none one x =
      ap (λ (ws : List Wave). relaxed_of scheme ws x) (ap (λ (n : ℕ). cond (eqb n 1) [] course.waves) one) ∙ nothing (position (nat_eq x) (over scheme.accel))
    where
      nothing : (o : Option ℕ) → option_map_or (λ place. slice_index_or no_waves place []) o [] ≡ []
      nothing None = refl
      nothing (Some place) = refl

  pub started : (x : ℕ) (own : IsExchangeOf plan at.scheme x)
      → (field : Field) × (accepted_before plan ready.look own.exchange x at.window at.start ≡ record { time = at.start; field = field } ∷ [])
      × HasShape (components_of plan own.exchange) (ready.shaped.vertices own.exchange.mesh) field
  started x own =
      let turn = turns x own in
      start_of (components_of plan own.exchange) (ready.shaped.vertices own.exchange.mesh) at.start ready.shaped.end (completed plan ready.look own.exchange x (at.window - 1)).wave turn.some turn.before

  read_at : (x : ℕ) (own : IsExchangeOf plan at.scheme x)
      → read_in plan ready.look scheme at.window at.start (waves_before at.number course.waves) x
      ≡ record { time = at.start; field = (started x own).0 } ∷ relaxed_of scheme (waves_before at.number course.waves) x
  read_at x own =
      ap (λ (o : Option Exchange). option_map_or (λ e. accepted_before plan ready.look e x at.window at.start ++ relaxed_of scheme (waves_before at.number course.waves) x) o []) own.there
      ∙ ap (λ (w : Wave). w ++ relaxed_of scheme (waves_before at.number course.waves) x) (started x own).1

  rest_at : (i x : ℕ) (own : IsExchangeOf plan at.scheme x) → slice_get (over scheme.accel) i ≡ Some x
      → (relaxed_of scheme (waves_before at.number course.waves) x ≡ []) ⊎ IsTurnOf x own (relaxed_of scheme (waves_before at.number course.waves) x)
  rest_at i x own here = elim (cases_eq at.number 1) [
    | inl one ↦ inl (relaxed_none one x)
    | inr more ↦
        let later : 2 ≤ at.number = omega (arith, first, more) in
        inr (subst (IsTurnOf x own) (sym (relaxed_at later i x here)) (relaxed_turn later i x own here))
  ]

  abbrev one_of : (x : ℕ) → Exchanged
  one_of x = exchange_of (degree_in plan x) (read_in plan ready.look scheme at.window at.start (waves_before at.number course.waves) x) (posted_wave plan ready.look at.window at.number x)

  can_at : (i x : ℕ) → slice_get (over scheme.accel) i ≡ Some x → CanRelax (one_of x) × (1 ≤ length (one_of x).taken)
  can_at i x here =
      let own = all_over.own x (found_in (over scheme.accel) i x here) in
      let one = started x own in
      let can = can_by (components_of plan own.exchange) (ready.shaped.vertices own.exchange.mesh) at.start ready.shaped.end (degree_in plan x) one.0
      (relaxed_of scheme (waves_before at.number course.waves) x) (posted_wave plan ready.look at.window at.number x)
      (small_degree plan valid x) one.2 (rest_at i x own here) (posted_turn x own) in (
        subst (λ (w : Wave). CanRelax (exchange_of (degree_in plan x) w (posted_wave plan ready.look at.window at.number x))) (sym (read_at x own)) can,
        subst (λ (w : Wave). 1 ≤ length w) (sym (read_at x own)) (omega arith),
      )

  -- how many values are relaxed
  width_at : (k x : ℕ) (own : IsExchangeOf plan at.scheme x) → IsTurnOf x own (posted_wave plan ready.look at.window k x)
      → width (posted_wave plan ready.look at.window k x) ≡ components_of plan own.exchange * ready.shaped.vertices own.exchange.mesh
  width_at k x own turn =
      let wave = posted_wave plan ready.look at.window k x in
      ap (λ vs. length vs) (get_or-map (λ (s : Sample). s.field.values) wave (length wave - 1) no_sample [] (omega (arith, turn.some)))
      ∙ (turn.shape (length wave - 1) no_sample (omega (arith, turn.some))).values

  width_few : (x : ℕ) → Contains (over scheme.accel) x
      → width (posted_wave plan ready.look at.window at.number x) ≤ 10000 * sum_by (components_of plan) (option_to_list (slice_get plan.exchanges x))
  width_few x inside =
      let own = all_over.own x inside in
      let sum = ap (λ (o : Option Exchange). sum_by (components_of plan) (option_to_list o)) own.there in
      let most = mul-le (components_of plan own.exchange) (ready.shaped.vertices own.exchange.mesh) (components_of plan own.exchange) 10000 (omega arith) (ready.shaped.few own.exchange.mesh) in
      omega (arith, width_at at.number x own (posted_turn x own), most, sum)

  sums : (f : ℕ → Wave) (ys : List ℕ) → sum_by width (map f ys) ≡ sum_by (λ y. width (f y)) ys
  sums f [] = refl
  sums f (y ∷ ys) = sum_by-cons width (f y) (map f ys) ∙ ap (λ (n : ℕ). width (f y) + n) (sums f ys) ∙ sym (sum_by-cons (λ z. width (f z)) y ys)

  module _ (degrees : List ℕ) (read posts : List Wave) (taken : AreTakenOf plan ready.look scheme at course.waves degrees read posts) where
    all_of : exchanged degrees read posts ≡ map one_of (over scheme.accel)
    all_of =
        ap (λ (ns : List ℕ). exchanged ns read posts) taken.degrees_are
        ∙ ap (λ (ws : List Wave). exchanged (map (degree_in plan) (over scheme.accel)) ws posts) taken.read_are
        ∙ ap (λ (ws : List Wave). exchanged (map (degree_in plan) (over scheme.accel)) (map (read_in plan ready.look scheme at.window at.start (waves_before at.number course.waves)) (over scheme.accel)) ws) taken.posted_are
        ∙ exchanged-map (degree_in plan) (read_in plan ready.look scheme at.window at.start (waves_before at.number course.waves)) (posted_wave plan ready.look at.window at.number) (over scheme.accel)

    posts_length : length posts ≡ length (over scheme.accel)
    posts_length = ap (λ (ws : List Wave). length ws) taken.posted_are ∙ length-map (over scheme.accel) (posted_wave plan ready.look at.window at.number)

    pub relaxable : AreRelaxable degrees read posts
    relaxable = record {
      few = omega (arith, posts_length, all_over.count, valid.sizes.exchanges);
      one_degree = ap (λ (ns : List ℕ). length ns) taken.degrees_are ∙ length-map (over scheme.accel) (degree_in plan) ∙ sym posts_length;
      one_read = ap (λ (ws : List Wave). length ws) taken.read_are
          ∙ length-map (over scheme.accel) (read_in plan ready.look scheme at.window at.start (waves_before at.number course.waves)) ∙ sym posts_length;
      filled = All-same (λ (e : Exchanged). 1 ≤ length e.taken) (exchanged degrees read posts) (map one_of (over scheme.accel)) all_of
          (All-map (λ (e : Exchanged). 1 ≤ length e.taken) one_of (over scheme.accel)
          (λ i d inside. (can_at i (get_or (over scheme.accel) i d) (slice_get-get_or (over scheme.accel) i d inside)).1));
      exchanges = All-same CanRelax (exchanged degrees read posts) (map one_of (over scheme.accel)) all_of
          (All-map CanRelax one_of (over scheme.accel)
          (λ i d inside. (can_at i (get_or (over scheme.accel) i d) (slice_get-get_or (over scheme.accel) i d inside)).0));
      few_values =
          let f = posted_wave plan ready.look at.window at.number in
          let most = sum_at_most (λ x. width (f x)) (λ x. sum_by (components_of plan) (option_to_list (slice_get plan.exchanges x))) (over scheme.accel) width_few in
          omega (arith, ap (λ (ws : List Wave). sum_by width ws) taken.posted_are, sums f (over scheme.accel), most, all_over.few);
    }

    -- as many values as before
    pub same_values : 2 ≤ at.number → sum_by width posts ≡ sum_by width course.waves
    same_values later =
        let f = posted_wave plan ready.look at.window at.number in
        let g = posted_wave plan ready.look at.window (at.number - 1) in
        let before : sum_by width course.waves ≡ sum_by width (map g (over scheme.accel)) =
        same_widths course.waves (map g (over scheme.accel)) ((told later).outlines ∙ lists g (over scheme.accel)) in
        let same = sum_same (λ x. width (f x)) (λ x. width (g x)) (over scheme.accel)
        (λ x inside. let own = all_over.own x inside in width_at at.number x own (posted_turn x own) ∙ sym (width_at (at.number - 1) x own (last_turn x own later))) in
        ap (λ (ws : List Wave). sum_by width ws) taken.posted_are ∙ sums f (over scheme.accel) ∙ same ∙ sym (sums g (over scheme.accel)) ∙ sym before
      where
        lists : (g : ℕ → Wave) (ys : List ℕ) → map (λ x. outline (g x)) ys ≡ map outline (map g ys)
        lists g [] = refl
        lists g (y ∷ ys) = ap (λ (os : List (List Line)). outline (g y) ∷ os) (lists g ys)
