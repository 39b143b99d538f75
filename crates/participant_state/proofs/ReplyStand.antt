-- What stands of a participant once its window is repeated or completed.
use Rattle.std.proofs.Common.{◌≡◌, ℕ, ◌+◌, ◌<◌, ◌≤◌, Bool, true, false, ◌||◌, nat_eq, List, [], ◌∷◌, Option, Some, None, refl, sym, ◌∙◌, arith}
use Rattle.std.proofs.lemmas.Bool.{eq-eqb, false≢true}
use Rattle.std.proofs.lemmas.List.Elements.{All-nil, All-weaker}
use Rattle.mesh_data.specs.declared.any_mesh.AnyMesh.{AnyMesh}
use Rattle.cpl_plan.specs.declared.parts.PlanParts.{PlanParts}
use Rattle.cpl_plan.specs.ValidPlan.{IsValidPlan}
use Rattle.coupled_loop.specs.PlanFrames.{iterations_of}
use Rattle.std.specs.Option.{option_map_or}
use Rattle.wave_laws.proofs.WaveLaws.{few_iterations}
use Rattle.participant_tables.specs.declared.clock.Clock.{Clock}
use Rattle.participant_tables.specs.declared.read_table.ReadEntry.{ReadEntry}
use Rattle.participant_waves.specs.Readable.{IsReadable}
use Rattle.participant_waves.specs.declared.kept_input.KeptInput.{KeptInput}
use Rattle.participant_waves.specs.declared.passages.Passages.{Passages}
use Rattle.participant_words.specs.declared.phase.EventKind.{EventKind}
use Rattle.participant_words.specs.declared.phase.Phase.{Phase}
use Rattle.participant_words.specs.declared.phase.Phase.TheVariants.{Fresh, Joining, Running, Pending, Done, Final, Stopped}
use Rattle.participant_state.specs.Agenda.{IsInWindow, StandsIn}
use Rattle.participant_state.specs.Together.{AreRead, IsInTime}
use Rattle.participant_state.proofs.ReplyRows.{now_readable}

-- the clock of the window's next iteration, and of the next window
abbrev pub clock_again : Clock → Clock
clock_again clock = record clock { iteration = clock.iteration + 1; steps = 0; complete = false }

abbrev pub clock_completed : Clock → Clock
clock_completed clock = record clock { window = clock.window + 1; iteration = 1; start = clock.now; latest = clock.now; steps = 0; complete = true }

module _ (plan : PlanParts) (part : ℕ) (clock : Clock) (times : List ℕ) (is : IsInTime plan part clock times) where
  pub again_in_time : IsInTime plan part (clock_again clock) []
  again_in_time = record {
    one_step = is.one_step;
    steps = refl;
    past = All-nil (λ (time : ℕ). time ≤ clock.now);
    started = is.started;
    within = is.within;
    ended = is.ended;
  }

  pub completed_in_time : IsInTime plan part (clock_completed clock) []
  completed_in_time = record {
    one_step = is.one_step;
    steps = refl;
    past = All-nil (λ (time : ℕ). time ≤ clock.now);
    started = omega arith;
    within = omega arith;
    ended = let within = is.within in let ended = is.ended in omega (arith, within, ended);
  }

  pub completed_read : (own : List AnyMesh) (reads : List ReadEntry) (inputs : List KeptInput) → AreRead own reads clock inputs → AreRead own reads (clock_completed clock) inputs
  completed_read own reads inputs read = record {
    spans =
        All-weaker (λ (input : KeptInput). IsReadable clock.now clock.latest input.wave) (λ input. IsReadable clock.now clock.now input.wave)
        (λ input span. now_readable clock.now clock.latest input is.within span) inputs read.spans;
    rows = read.rows;
  }

pub again_read : (own : List AnyMesh) (reads : List ReadEntry) (clock : Clock) (inputs : List KeptInput) → AreRead own reads clock inputs → AreRead own reads (clock_again clock) inputs
again_read own reads clock inputs read = record { spans = read.spans; rows = read.rows }

none_waits : (kind : EventKind) (rest : List EventKind) → kind ∷ rest ≡ [] → ⊥
none_waits kind rest same = cc

-- while something waits the phase says nothing of the clock
pub stands_still : (plan : PlanParts) (part : ℕ) (own : List AnyMesh) (clock next : Clock) (passages : Option Passages) (inputs : List KeptInput) (times : List ℕ)
    (phase : Phase) (kind : EventKind) (rest : List EventKind) (waiting : List EventKind)
    → StandsIn plan part own clock passages inputs times phase (kind ∷ rest) → StandsIn plan part own next passages inputs [] phase waiting
stands_still plan part own clock next passages inputs times Fresh kind rest waiting is = absurd (none_waits kind rest is.0)
stands_still plan part own clock next passages inputs times Running kind rest waiting is = absurd (none_waits kind rest is.0)
stands_still plan part own clock next passages inputs times Joining kind rest waiting is = tt
stands_still plan part own clock next passages inputs times Pending kind rest waiting is = tt
stands_still plan part own clock next passages inputs times Done kind rest waiting is = tt
stands_still plan part own clock next passages inputs times Final kind rest waiting is = tt
stands_still plan part own clock next passages inputs times Stopped kind rest waiting is = tt

or_false : (a b : Bool) → (a || b) ≡ false → a ≡ false
or_false true b is = cc
or_false false b is = refl

-- there is a window after one that is not the last
pub next_there : (plan : PlanParts) (clock : Clock) (passages : Option Passages) → IsInWindow plan clock passages
    → (nat_eq clock.window plan.most_windows || nat_eq plan.end_time clock.now) ≡ false → IsInWindow plan (clock_completed clock) passages
next_there plan clock passages is more =
    let off : nat_eq clock.window plan.most_windows ≡ false = or_false (nat_eq clock.window plan.most_windows) (nat_eq plan.end_time clock.now) more in
    let apart : ¬ (clock.window ≡ plan.most_windows) = λ same. false≢true (sym off ∙ eq-eqb clock.window plan.most_windows same) in
    let there = is.there in
    record { joined = is.joined; window = omega arith; there = omega (arith, there, apart) }

pub again_there : (plan : PlanParts) (clock : Clock) (passages : Option Passages) → IsInWindow plan clock passages → IsInWindow plan (clock_again clock) passages
again_there plan clock passages is = record { joined = is.joined; window = is.window; there = is.there }

-- a window that may be repeated has few iterations
pub few_again : (plan : PlanParts) → IsValidPlan plan → (group : Option ℕ) (k : ℕ) → k < option_map_or (iterations_of plan) group 0 → k + 1 < 4294967296
few_again plan valid None k less = absurd (omega (arith, less))
few_again plan valid (Some scheme) k less = let few = few_iterations plan valid scheme in omega (arith, few, less)
