-- What was written in a turn is what the samples of its entries say, and can be sent.
use Rattle.std.proofs.Common.{◌≡◌, ℕ, ◌+◌, ◌<◌, ◌≤◌, List, [], ◌∷◌, ◌++◌, length, map, get_or, slice_get, Option, Contains, All, refl, ap, ap₂, sym, ◌∙◌, arith}
use Rattle.std.specs.List.{enumerate_from, flat_map}
use Rattle.std.specs.Option.{option_map_or}
use Rattle.std.proofs.lemmas.List.{get_or-map, length-map}
use Rattle.std.proofs.lemmas.List.Elements.{All-contains}
use Rattle.std.proofs.lemmas.List.FromFn.{length-enumerate_from, get_or-enumerate_from}
use Rattle.std.proofs.lemmas.Option.{slice_get-get_or}
use Rattle.plan_order.proofs.Loops.{head_in, tail_in}
use Rattle.waveform.proofs.Places.{no_sample}
use Rattle.waveform.specs.declared.sample.Sample.{Sample}
use Rattle.mesh_data.specs.declared.any_mesh.AnyMesh.{AnyMesh}
use Rattle.cpl_plan.specs.ValidPlan.{IsValidPlan}
use Rattle.cpl_plan.specs.declared.parts.PlanParts.{PlanParts}
use Rattle.wave_coupling.specs.Noted.{Written}
use Rattle.participant_words.specs.KnownByReply.{known_by}
use Rattle.participant_tables.specs.Named.{Called}
use Rattle.participant_tables.specs.WriteKept.{WriteKept, AreSamples}
use Rattle.participant_tables.specs.declared.read_table.ReadEntry.{ReadEntry}
use Rattle.participant_waves.specs.SendsStand.{AreSends, CanSend}
use Rattle.participant_waves.specs.Written.{AreWritten}
use Rattle.participant_waves.specs.declared.sends.Sends.{Sends}
use Rattle.participant_waves.proofs.CanBeSent.{all_can_send}
use Rattle.participant_state.specs.Kept.{values_at_step, written_at_step, written_in}
use Rattle.participant_state.specs.Together.{AreFilled, IsOfPlan}
use Rattle.participant_state.proofs.EntriesStand.{entries_stand}
use Rattle.participant_state.proofs.TablesMean.{steps_written}

pub flat_map_same : {X A : Type 0} (f g : X → List A) (xs : List X) → ((x : X) → Contains xs x → f x ≡ g x) → flat_map f xs ≡ flat_map g xs
flat_map_same f g [] same = refl
flat_map_same f g (x ∷ xs) same =
    ap (λ ys. ys ++ flat_map f xs) (same x (head_in x xs)) ∙ ap (λ ys. g x ++ ys) (flat_map_same f g xs (λ y inside. same y (tail_in x xs y inside)))

times_from : (f : ℕ × ℕ → Written) → ((at : ℕ × ℕ) → (f at).time ≡ at.1) → (n : ℕ) (times : List ℕ) → map (λ (one : Written). one.time) (map f (enumerate_from n times)) ≡ times
times_from f same n [] = refl
times_from f same n (time ∷ times) = ap₂ (λ t ts. t ∷ ts) (same (n, time)) (times_from f same (n + 1) times)

-- a step's values stand in the samples of that step
step_values : (e : WriteKept) (step : ℕ) → step < length e.samples
    → option_map_or (λ (s : Sample). s.field.values) (slice_get e.samples step) [] ≡ (get_or e.samples step no_sample).field.values
step_values e step within = ap (λ (o : Option Sample). option_map_or (λ (s : Sample). s.field.values) o []) (slice_get-get_or e.samples step no_sample within)

module _ (plan : PlanParts) (part : ℕ) (valid : IsValidPlan plan) (names : Called) (own received : List AnyMesh) (writes : List WriteKept) (reads : List ReadEntry) (times : List ℕ)
    (of : IsOfPlan plan part names own writes reads) (filled : AreFilled own writes times) (shapes : All AreSamples writes) (window iteration : ℕ) where
  values_are : (step : ℕ) (one : Written) → step < length (written_in window iteration times writes)
      → (get_or (written_in window iteration times writes) step one).values ≡ flat_map (λ (e : WriteKept). (get_or e.samples step no_sample).field.values) writes
  values_are step one within =
      let f : ℕ × ℕ → Written = λ at. written_at_step window iteration writes at.0 at.1 in
      let inside : step < length times = omega (arith, within, steps_written window iteration times writes) in
      let long = length-enumerate_from 0 times in
      let here : 0 + step ≡ step = omega (arith) in
      ap (λ (o : Written). o.values) (get_or-map f (enumerate_from 0 times) step (0, 0) one (omega (arith, long, inside)))
      ∙ ap (λ (at : ℕ × ℕ). values_at_step writes at.0) (get_or-enumerate_from 0 times step (0, 0) inside)
      ∙ ap (values_at_step writes) here
      ∙ flat_map_same (λ (e : WriteKept). option_map_or (λ (s : Sample). s.field.values) (slice_get e.samples step) []) (λ (e : WriteKept). (get_or e.samples step no_sample).field.values) writes
      (λ e listed.
      let same = All-contains (λ (e : WriteKept). map (λ s. s.time) e.samples ≡ times) writes e filled.samples listed in
      step_values e step (omega (arith, inside, ap length same, length-map e.samples (λ (s : Sample). s.time))))

  -- what was written in the turn, of the entries of the plan
  pub written_stands : AreWritten plan part (known_by plan part own received) (written_in window iteration times writes) writes
  written_stands =
      let told : map (λ (one : Written). one.time) (written_in window iteration times writes) ≡ times =
      times_from (λ at. written_at_step window iteration writes at.0 at.1) (λ at. refl) 0 times in
      record {
        entries = entries_stand plan part valid names own received writes reads times of filled;
        shapes = shapes;
        times = λ k d within. filled.samples k d within ∙ sym told;
        values = values_are;
      }

  -- after a step it can be sent
  pub written_can_be_sent : (sends : Sends) → AreSends plan part (known_by plan part own received) sends → 1 ≤ length times → All (CanSend writes) sends.sendings
  written_can_be_sent sends are some =
      all_can_send plan part (known_by plan part own received) sends (written_in window iteration times writes) writes are written_stands
      (omega (arith, some, steps_written window iteration times writes))
