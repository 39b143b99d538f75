-- What is kept of a participant after a step: what was written is sampled, and its values are zero again.
use Rattle.std.proofs.Common.{◌≡◌, ℕ, zero, suc, ◌+◌, ◌*◌, ◌<◌, ◌≤◌, List, [], ◌∷◌, ◌++◌, length, map, get_or, slice_get, Option, Some, All, ℤ, pos, false, inl, inr, refl, ap, ap₂, sym, ◌∙◌, arith}
use Rattle.std.specs.List.{enumerate_from, flat_map}
use Rattle.std.specs.Option.{option_map_or}
use Rattle.std.proofs.lemmas.List.{get_or-map, length-map, length-append, length-replicate, map-append}
use Rattle.std.proofs.lemmas.List.Elements.{All-head, All-tail, All-map, All-push, All-weaker}
use Rattle.waveform.specs.declared.sample.Sample.{Sample}
use Rattle.mesh_data.specs.AnyMeshes.{vertices_of}
use Rattle.mesh_data.specs.declared.any_mesh.AnyMesh.{AnyMesh}
use Rattle.cpl_plan.specs.declared.parts.PlanParts.{PlanParts}
use Rattle.wave_coupling.specs.Noted.{Written}
use Rattle.participant_words.specs.Entries.{zeros}
use Rattle.participant_tables.specs.Named.{Called}
use Rattle.participant_tables.specs.WriteKept.{WriteKept, TakesSample, field_of}
use Rattle.participant_tables.specs.WriteSteps.{cleared, sampled}
use Rattle.participant_tables.specs.declared.clock.Clock.{Clock}
use Rattle.participant_tables.specs.declared.read_table.ReadEntry.{ReadEntry}
use Rattle.participant_waves.specs.Readable.{IsReadable}
use Rattle.participant_waves.specs.declared.kept_input.KeptInput.{KeptInput}
use Rattle.participant_state.specs.Kept.{buffers_of, values_at_step, written_at_step, written_in}
use Rattle.participant_state.specs.Together.{AreFilled, AreRead, IsInTime, IsOfPlan, shape_of}
use Rattle.participant_state.proofs.TablesMean.{steps_written}

-- the entries after a step, and the clock
abbrev pub after_step : (time : ℕ) → List WriteKept → List WriteKept
after_step time writes = map cleared (map (sampled time) writes)

abbrev pub clock_after : (dt : ℕ) → Clock → Clock
clock_after dt clock = record clock { now = clock.now + dt; steps = clock.steps + 1; complete = false }

got_before : {X : Type 0} (xs ys : List X) (i : ℕ) → i < length xs → slice_get (xs ++ ys) i ≡ slice_get xs i
got_before [] ys i within = absurd (omega (arith, within))
got_before (x ∷ xs) ys zero within = refl
got_before (x ∷ xs) ys (suc i) within = got_before xs ys i (omega (arith, within))

got_last : {X : Type 0} (xs : List X) (x : X) (i : ℕ) → length xs ≡ i → slice_get (xs ++ x ∷ []) i ≡ Some x
got_last [] x zero is = refl
got_last [] x (suc i) is = absurd (omega (arith, is))
got_last (y ∷ xs) x zero is = absurd (omega (arith, is))
got_last (y ∷ xs) x (suc i) is = got_last xs x i (omega (arith, is))

enumerate_push : (n : ℕ) (times : List ℕ) (time : ℕ) → enumerate_from n (times ++ time ∷ []) ≡ enumerate_from n times ++ (n + length times, time) ∷ []
enumerate_push n [] time = let same : n ≡ n + 0 = omega (arith) in ap (λ (k : ℕ). (k, time) ∷ []) same
enumerate_push n (t ∷ times) time =
    let same : n + 1 + length times ≡ n + length (t ∷ times) = omega (arith) in
    ap (λ rest. (n, t) ∷ rest) (enumerate_push (n + 1) times time ∙ ap (λ (k : ℕ). enumerate_from (n + 1) times ++ (k, time) ∷ []) same)

same_within : {X : Type 0} (f g : ℕ × ℕ → X) (n : ℕ) (times : List ℕ) → ((i time : ℕ) → i < n + length times → f (i, time) ≡ g (i, time))
    → map f (enumerate_from n times) ≡ map g (enumerate_from n times)
same_within f g n [] same = refl
same_within f g n (t ∷ times) same =
    ap₂ (λ x xs. x ∷ xs) (same n t (omega (arith))) (same_within f g (n + 1) times (λ i time within. same i time (omega (arith, within))))

abbrev AreAt : (times : List ℕ) → List WriteKept → Type 0
AreAt times writes = All (λ (e : WriteKept). map (λ s. s.time) e.samples ≡ times) writes

count_at : (times : List ℕ) (e : WriteKept) → map (λ s. s.time) e.samples ≡ times → length e.samples ≡ length times
count_at times e are = sym (length-map e.samples (λ (s : Sample). s.time)) ∙ ap length are

abbrev values_or : Option Sample → List ℤ
values_or o = option_map_or (λ (s : Sample). s.field.values) o []

values_before : (time : ℕ) (times : List ℕ) (writes : List WriteKept) (i : ℕ) → AreAt times writes → i < length times
    → values_at_step (after_step time writes) i ≡ values_at_step writes i
values_before time times [] i are within = refl
values_before time times (e ∷ writes) i are within =
    let here = All-head (λ (e : WriteKept). map (λ s. s.time) e.samples ≡ times) e writes are in
    let rest = All-tail (λ (e : WriteKept). map (λ s. s.time) e.samples ≡ times) e writes are in
    ap₂ (λ (xs ys : List ℤ). xs ++ ys)
    (ap values_or (got_before e.samples (record { time = time; field = field_of e } ∷ []) i (omega (arith, within, count_at times e here))))
    (values_before time times writes i rest within)

values_last : (time : ℕ) (times : List ℕ) (writes : List WriteKept) → AreAt times writes
    → values_at_step (after_step time writes) (length times) ≡ flat_map (λ values. values) (buffers_of writes)
values_last time times [] are = refl
values_last time times (e ∷ writes) are =
    let here = All-head (λ (e : WriteKept). map (λ s. s.time) e.samples ≡ times) e writes are in
    let rest = All-tail (λ (e : WriteKept). map (λ s. s.time) e.samples ≡ times) e writes are in
    ap₂ (λ (xs ys : List ℤ). xs ++ ys)
    (ap values_or (got_last e.samples (record { time = time; field = field_of e }) (length times) (count_at times e here)))
    (values_last time times writes rest)

-- the values are zero again
pub buffers_after : (time : ℕ) (writes : List WriteKept) → buffers_of (after_step time writes) ≡ map (λ values. zeros (length values)) (buffers_of writes)
buffers_after time [] = refl
buffers_after time (e ∷ writes) = ap (λ (rest : List (List ℤ)). zeros (length e.values) ∷ rest) (buffers_after time writes)

-- what was written is noted behind what was written before
pub written_after : (w k time : ℕ) (times : List ℕ) (writes : List WriteKept) → AreAt times writes
    → written_in w k (times ++ time ∷ []) (after_step time writes)
    ≡ written_in w k times writes
    ++ record { window = w; iteration = k; step = length (written_in w k times writes) + 1; time = time; values = flat_map (λ values. values) (buffers_of writes) } ∷ []
written_after w k time times writes are =
    let now : ℕ × ℕ → Written = λ at. written_at_step w k (after_step time writes) at.0 at.1 in
    let was : ℕ × ℕ → Written = λ at. written_at_step w k writes at.0 at.1 in
    let values : values_at_step (after_step time writes) (0 + length times) ≡ flat_map (λ values. values) (buffers_of writes) =
    ap (values_at_step (after_step time writes)) (omega (arith)) ∙ values_last time times writes are in
    let step : 0 + length times + 1 ≡ length (written_in w k times writes) + 1 = omega (arith, steps_written w k times writes) in
    let last : List Written → List ℤ → List Written = λ before all. before ++ record { window = w; iteration = k; step = length (written_in w k times writes) + 1; time = time; values = all } ∷ [] in
    ap (map now) (enumerate_push 0 times time)
    ∙ map-append now (enumerate_from 0 times) ((0 + length times, time) ∷ [])
    ∙ ap (λ (xs : List Written). xs ++ now (0 + length times, time) ∷ [])
    (same_within now was 0 times
    (λ i t within. ap (λ (vs : List ℤ). let it : Written = record { window = w; iteration = k; step = i + 1; time = t; values = vs } in it)
    (values_before time times writes i are (omega (arith, within)))))
    ∙ (λ i. map was (enumerate_from 0 times) ++ record { window = w; iteration = k; step = step i; time = time; values = values i } ∷ [])

-- the entries are still those of the plan
shapes_after : (time : ℕ) (writes : List WriteKept) → map shape_of (after_step time writes) ≡ map shape_of writes
shapes_after time [] = refl
shapes_after time (e ∷ writes) = ap (λ (rest : List WriteKept). shape_of e ∷ rest) (shapes_after time writes)

shapes_sampled : (time : ℕ) (writes : List WriteKept) → map shape_of (map (sampled time) writes) ≡ map shape_of writes
shapes_sampled time [] = refl
shapes_sampled time (e ∷ writes) = ap (λ (rest : List WriteKept). shape_of e ∷ rest) (shapes_sampled time writes)

module _ (plan : PlanParts) (part : ℕ) (names : Called) (own : List AnyMesh) (writes : List WriteKept) (reads : List ReadEntry) where
  of_plan_by : (new : List WriteKept) → map shape_of new ≡ map shape_of writes → IsOfPlan plan part names own writes reads → IsOfPlan plan part names own new reads
  of_plan_by new same of = record { participant = of.participant; named = of.named; meshes = of.meshes; dimensions = of.dimensions; written = same ∙ of.written; read = of.read }

  pub of_plan_after : (time : ℕ) → IsOfPlan plan part names own writes reads → IsOfPlan plan part names own (after_step time writes) reads
  of_plan_after time of = of_plan_by (after_step time writes) (shapes_after time writes) of

  pub of_plan_sampled : (time : ℕ) → IsOfPlan plan part names own writes reads → IsOfPlan plan part names own (map (sampled time) writes) reads
  of_plan_sampled time of = of_plan_by (map (sampled time) writes) (shapes_sampled time writes) of

module _ (own : List AnyMesh) (writes : List WriteKept) (times : List ℕ) (filled : AreFilled own writes times) (time : ℕ) (room : length times < 1024) where
  abbrev HasSamples : List ℕ → WriteKept → Type 0
  HasSamples ts e = map (λ s. s.time) e.samples ≡ ts

  abbrev OnMesh : (place vertices : ℕ) → WriteKept → Type 0
  OnMesh place vertices e = e.mesh ≡ place → length e.values ≡ vertices * e.components

  few_more : length (times ++ time ∷ []) ≤ 1024
  few_more = omega (arith, room, length-append times (time ∷ []))

  one_more : (e : WriteKept) → HasSamples times e → HasSamples (times ++ time ∷ []) (sampled time e)
  one_more e are =
      map-append (λ (s : Sample). s.time) e.samples (record { time = time; field = field_of e } ∷ []) ∙ ap (λ (ts : List ℕ). ts ++ time ∷ []) are

  sampled_more : All (HasSamples (times ++ time ∷ [])) (map (sampled time) writes)
  sampled_more = All-map (HasSamples (times ++ time ∷ [])) (sampled time) writes (All-weaker (HasSamples times) (λ e. HasSamples (times ++ time ∷ []) (sampled time e)) one_more writes filled.samples)

  pub filled_sampled : AreFilled own (map (sampled time) writes) (times ++ time ∷ [])
  filled_sampled = record {
    values = λ place mesh at. All-map (OnMesh place (length (vertices_of mesh))) (sampled time) writes (filled.values place mesh at);
    samples = sampled_more;
    few = few_more;
  }

  pub filled_after : AreFilled own (after_step time writes) (times ++ time ∷ [])
  filled_after = record {
    values = λ place mesh at.
        All-map (OnMesh place (length (vertices_of mesh))) cleared (map (sampled time) writes)
        (All-weaker (OnMesh place (length (vertices_of mesh))) (λ e. OnMesh place (length (vertices_of mesh)) (cleared e))
        (λ e has on. length-replicate (length e.values) (pos 0) ∙ has on) (map (sampled time) writes) (filled_sampled.values place mesh at));
    samples = All-map (HasSamples (times ++ time ∷ [])) cleared (map (sampled time) writes) sampled_more;
    few = few_more;
  }

module _ (plan : PlanParts) (part : ℕ) (clock : Clock) (times : List ℕ) (dt : ℕ) (within : clock.now + dt ≤ clock.latest) (in_time : IsInTime plan part clock times) where
  pub in_time_after : IsInTime plan part (clock_after dt clock) (times ++ (clock.now + dt) ∷ [])
  in_time_after = record {
    one_step = in_time.one_step;
    steps = omega (arith, in_time.steps, length-append times ((clock.now + dt) ∷ []));
    past = All-push (λ time. time ≤ clock.now + dt) times (clock.now + dt)
        (All-weaker (λ time. time ≤ clock.now) (λ time. time ≤ clock.now + dt) (λ time before. omega (arith, before)) times in_time.past) (omega (arith));
    started = omega (arith, in_time.started);
    within = within;
    ended = in_time.ended;
  }

  -- each entry takes a sample at the end of a step
  pub takes_samples : (own : List AnyMesh) (writes : List WriteKept) → AreFilled own writes times → 1 ≤ dt → length times < 1024 → All (TakesSample (clock.now + dt)) writes
  takes_samples own writes filled some room = λ k d inside.
      let e : WriteKept = get_or writes k d in
      let are : map (λ (s : Sample). s.time) e.samples ≡ times = filled.samples k d inside in
      let count : length e.samples ≡ length times = count_at times e are in
      record {
        after = λ j s there.
            let before : get_or times j 0 ≤ clock.now = in_time.past j 0 (omega (arith, count, there)) in
            let is : get_or times j 0 ≡ (get_or e.samples j s).time =
            ap (λ (ts : List ℕ). get_or ts j 0) (sym are) ∙ get_or-map (λ (one : Sample). one.time) e.samples j s 0 there in
            omega (arith, before, is, some);
        room = omega (arith, count, room);
      }

-- the inputs can be read from the new time on
pub read_after : (own : List AnyMesh) (reads : List ReadEntry) (clock : Clock) (inputs : List KeptInput) (dt : ℕ) → AreRead own reads clock inputs → AreRead own reads (clock_after dt clock) inputs
read_after own reads clock inputs dt are = record {
  spans = All-weaker (λ (input : KeptInput). IsReadable clock.now clock.latest input.wave) (λ (input : KeptInput). IsReadable (clock.now + dt) clock.latest input.wave)
      (λ input can. later input can) inputs are.spans;
  rows = are.rows;
}
  where
    later : (input : KeptInput) → IsReadable clock.now clock.latest input.wave → IsReadable (clock.now + dt) clock.latest input.wave
    later input (inl one) = inl one
    later input (inr spans) = inr (omega (arith, spans.0), spans.1)
