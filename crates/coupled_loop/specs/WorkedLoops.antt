-- Small couplings, to be computed: what is exchanged are whole numbers, and a solver adds up what it is given and makes two steps. The project's own.
use Rattle.std.specs.Prelude.{ℕ, ◌+◌, ◌-◌, Bool, true, false, ◌&&◌, nat_eq, nat_le, ◌==◌, if◌then◌else◌, List, [], ◌∷◌, map, filter_map, sum, Option, Some, None, option_map, option_and_then, Ok}
use Rattle.coupled_loop.specs.Numbered.{put}
use Rattle.cpl_plan.specs.ExamplePlan.{two_participants, serial_scheme, vector_exchange}
use Rattle.cpl_plan.specs.SmallPlans.{iterated_plan}
use Rattle.cpl_plan.specs.Needs.{needs}
use Rattle.cpl_plan.specs.declared.parts.PlanParts.{PlanParts}
use Rattle.cpl_plan.specs.declared.parts.Kind.TheVariants.{Lag}
use Rattle.cpl_plan.specs.declared.parts.SchemeKind.TheVariants.{ParallelExplicit}
use Rattle.cpl_plan.specs.declared.words.Need.{Need}
use Rattle.cpl_plan.specs.declared.words.Item.TheVariants.{Posted}
use Rattle.coupled_loop.specs.Given.{Look}
use Rattle.coupled_loop.specs.Endings.{Ending, Judgement, again, converged, at_limit, refused}
use Rattle.coupled_loop.specs.CoreStep.{cut_by, waits_for, is_cut_off}
use Rattle.coupled_loop.specs.Solving.{Solvers, Stepped, goes_on, arrives, breaks}
use Rattle.coupled_loop.specs.CoupledLoop.{coupled, ending_in}
use Rattle.coupled_loop.specs.Schedules.{Actors, Entry, participant_of, opening_actors, sides_of, enabled}
use Rattle.coupled_loop.specs.PlanFrames.{Exchanged, frame_of}

-- two participants under a parallel-explicit scheme
abbrev pub parallel_plan : PlanParts
parallel_plan =
    record two_participants {
      schemes = record serial_scheme { kind = ParallelExplicit } ∷ [];
      exchanges = record vector_exchange { kind = Lag } ∷ [];
    }

-- one window that two participants iterate
abbrev pub iterated_window : PlanParts
iterated_window = record iterated_plan { end_time = 10; most_windows = 1 }

-- and two of them
abbrev pub iterated_windows : PlanParts
iterated_windows = record iterated_plan { end_time = 20; most_windows = 2 }

-- what the other of two has posted in the iteration before
abbrev pub iterated_before : (part w k : ℕ) → List Need
iterated_before part w k = record { owner = 1 - part; item = Posted w (k - 1) } ∷ []

-- a participant is given the values that it needs, and in a repeated window those of the iteration before
abbrev pub values_given : PlanParts → Look ℕ → (part w k : ℕ) → List ℕ
values_given plan look part w k =
    filter_map (λ need. option_map (λ gift. gift.post) (look need.owner need.item))
    (if k == 1 then needs plan part w k else iterated_before part w k)

-- a window has converged once the first participant posts 12 or more
abbrev pub judge_value : (k : ℕ) → Option ℕ → Judgement ℕ
judge_value k None = again
judge_value k (Some value) = if nat_le 12 value then converged else if k == 3 then at_limit else again

abbrev pub numbers_exchanged : PlanParts → Exchanged ℕ (List ℕ) ℕ
numbers_exchanged plan = record {
  newest = λ post. 0;
  inputs = values_given plan;
  judge = λ look scheme w k. judge_value k (option_map (λ gift. gift.post) (look 0 (Posted w k)));
}

-- a solve: its participant and window, its value, and whether a step is made
pub record Adding : Type 0 where
  pub part : ℕ
  pub window : ℕ
  pub value : ℕ
  pub halfway : Bool

-- its second step ends the window; in the window that is named the first participant faults there with code 7
abbrev pub add_step : (bad : ℕ) → Adding → Stepped ℕ Adding ℕ ℕ
add_step bad run =
    if run.halfway then
    (if nat_eq run.part 0 && nat_eq run.window bad then breaks run.value (Some 7) else arrives run.value run.value)
    else goes_on (record run { value = run.value + 1; halfway = true })

abbrev pub judgement_number : Judgement ℕ → ℕ
judgement_number again = 100
judgement_number converged = 101
judgement_number at_limit = 102
judgement_number (refused code) = 103

-- a note is a list of numbers: the inputs, the value before a step, or a judgement
abbrev pub adders : (bad : ℕ) → Solvers ℕ ℕ (List ℕ) ℕ ℕ Adding (List ℕ)
adders bad = record {
  meshes = λ part. part;
  start = λ part. 0;
  first = λ part received state. Ok (if part == 0 then 0 else 10);
  begin = λ part w k received state inputs. Ok (record { part = part; window = w; value = state + sum inputs; halfway = false });
  step = λ part run. ((run.value ∷ []) ∷ [], add_step bad run);
  state_of = λ run. run.value;
  most_steps = 4;
  too_many = λ part w k. Some 8;
  note_inputs = λ part w k inputs. inputs ∷ [];
  note_judgement = λ part w k judgement. (judgement_number judgement ∷ []) ∷ [];
}

-- what a participant shows at the end
pub record Shown : Type 0 where
  pub state : ℕ
  pub notes : List (List ℕ)
  pub ending : Option (Ending ℕ)

abbrev pub loop_shows : PlanParts → (bad : ℕ) → List Shown
loop_shows plan bad =
    map (λ part. record {
      state = (coupled (frame_of plan (numbers_exchanged plan)) (adders bad) part).held.state;
      notes = (coupled (frame_of plan (numbers_exchanged plan)) (adders bad) part).held.notes;
      ending = Some (ending_in (coupled (frame_of plan (numbers_exchanged plan)) (adders bad) part));
    }) (0 ∷ 1 ∷ [])

-- the actors after the entries of a schedule; none where one of them is not enabled
abbrev pub after_all : PlanParts → (bad : ℕ) → List Entry → Actors ℕ ℕ ℕ ℕ Adding (List ℕ) → Option (Actors ℕ ℕ ℕ ℕ Adding (List ℕ))
after_all plan bad [] actors = Some actors
after_all plan bad (entry ∷ rest) actors =
    option_and_then (λ actor. after_all plan bad rest (put actors (participant_of entry) actor))
    (enabled (frame_of plan (numbers_exchanged plan)) (adders bad) actors entry)

-- by whom a participant is cut after the entries of a schedule, and for whom it waits
abbrev pub schedule_asks : PlanParts → List Entry → (part : ℕ) → Option (Option ℕ × Option ℕ)
schedule_asks plan schedule part =
    option_map (λ actors. (
      cut_by (frame_of plan (numbers_exchanged plan)) (sides_of (frame_of plan (numbers_exchanged plan)) (adders 0) actors) part,
      waits_for (frame_of plan (numbers_exchanged plan)) (sides_of (frame_of plan (numbers_exchanged plan)) (adders 0) actors) part,
    ))
    (after_all plan 0 schedule (opening_actors (frame_of plan (numbers_exchanged plan)) (adders 0)))

-- whether a participant can be cut after the entries of a schedule
abbrev pub schedule_cuts : PlanParts → List Entry → (part : ℕ) → Option Bool
schedule_cuts plan schedule part =
    option_map (λ actors. is_cut_off (frame_of plan (numbers_exchanged plan)) (sides_of (frame_of plan (numbers_exchanged plan)) (adders 0) actors) part (actors part).side.place)
    (after_all plan 0 schedule (opening_actors (frame_of plan (numbers_exchanged plan)) (adders 0)))

abbrev pub schedule_shows : PlanParts → (bad : ℕ) → List Entry → Option (List Shown)
schedule_shows plan bad schedule =
    option_map (λ actors. map (λ part. record {
      state = (actors part).held.state;
      notes = (actors part).held.notes;
      ending = (actors part).side.ending;
    }) (0 ∷ 1 ∷ []))
    (after_all plan bad schedule (opening_actors (frame_of plan (numbers_exchanged plan)) (adders bad)))
