-- What a participant does in small couplings of two: A writes U on its mesh and reads V there. The project's own.
use Rattle.std.specs.Prelude.{ℕ, ◌^◌, ℤ, pos, List, [], ◌∷◌, ◌++◌, Some, None}
use Rattle.cpl_plan.specs.ExamplePlan.{write_onto}
use Rattle.cpl_plan.specs.declared.parts.PlanParts.{PlanParts}
use Rattle.cpl_plan.specs.declared.words.StopWish.TheVariants.{NoMemory}
use Rattle.cpl_plan.specs.declared.words.Verdict.TheVariants.{Again, Converged}
use Rattle.waveform.specs.declared.sample.Sample.{Sample}
use Rattle.wave_coupling.specs.Posts.{Wave}
use Rattle.wave_coupling.specs.WorkedFiles.{first_part, second_part, exchange_u, one_point, one_window}
use Rattle.wave_coupling.specs.WorkedImplicit.{implicit_plan, implicit_scheme}
use Rattle.core_sides.specs.declared.event.Reply.{Reply}
use Rattle.core_sides.specs.declared.event.Reply.TheVariants.{Posted, Meshes, Judged, Inputs, Cut, Over}
use Rattle.participant_words.specs.Deeds.{Deed, sets_vertices, writes, asks_writing, asks_reading, initializes, advances, stops, hands_out, takes}
use Rattle.participant_words.specs.Course.{Course}
use Rattle.participant_words.specs.AfterDeed.{course}

-- a sample of one value
abbrev pub one : (time : ℕ) → (value : ℤ) → Sample
one time value = record { time = time; field = record { components = 1; values = value ∷ [] } }

-- the next event is handed out, and answered
abbrev pub done : Reply → List Deed
done reply = hands_out ∷ takes reply ∷ []

abbrev pub given : (window iteration : ℕ) → Wave → Reply
given window iteration wave =
    Inputs (record { exchange = 1; source_window = window; source_iteration = iteration; wave = wave } ∷ [])

abbrev pub at_origin : List ℤ
at_origin = pos 0 ∷ pos 0 ∷ []

-- one window that is repeated until it converges
abbrev pub repeating : PlanParts
repeating = implicit_plan implicit_scheme

-- A is what its deeds have come to
abbrev pub of_a : List Deed → Course
of_a deeds = course repeating 0 deeds

-- A sets a vertex, initializes, and takes a constant of 7 as its first input
abbrev pub initialized : List Deed
initialized =
    sets_vertices 0 (at_origin ∷ []) ∷ initializes ∷ []
    ++ done Posted ++ done (Meshes one_point) ++ done Posted ++ done (given 0 0 (one 0 (pos 7) ∷ []))

abbrev pub asked : List Deed
asked = initialized ++ asks_writing ∷ []

-- it writes 5 and then 6 at its vertex, and makes a step of 4 ticks and one of 6
abbrev pub two_steps : List Deed
two_steps = asked ++ writes 0 (0 ∷ 0 ∷ []) (pos 5 ∷ pos 6 ∷ []) ∷ advances 4 ∷ advances 6 ∷ []

-- the window is repeated, with an input that goes from 7 to 17
abbrev pub again : List Deed
again = two_steps ++ done Posted ++ done (Judged Again) ++ done (given 1 1 (one 0 (pos 7) ∷ one 10 (pos 17) ∷ []))

-- and has converged after a step that writes 8
abbrev pub converged : List Deed
converged =
    again ++ asks_reading ∷ writes 0 (0 ∷ []) (pos 8 ∷ []) ∷ advances 10 ∷ [] ++ done Posted ++ done (Judged Converged)

-- A makes its window in one step
abbrev pub stepped : List Deed
stepped = asked ++ writes 0 (0 ∷ []) (pos 5 ∷ []) ∷ advances 10 ∷ []

abbrev pub cut_off : List Deed
cut_off = stepped ++ done Posted ++ hands_out ∷ takes (Cut 1) ∷ []

-- A stops for want of memory before anything else
abbrev pub stopped : List Deed
stopped = stops NoMemory ∷ done Over

-- A's values are summed up onto B's mesh, in an explicit coupling of one window
abbrev pub summing : PlanParts
summing = record one_window {
  parts = record first_part { maps = write_onto 0 1 ∷ []; reads = [] } ∷ record second_part { writes = []; maps = [] } ∷ [];
  exchanges = record exchange_u { mesh = 1; write_map = Some 0; read_map = None } ∷ [];
}

-- it writes the greatest value at both of its vertices
abbrev pub greatest_twice : List Deed
greatest_twice =
    sets_vertices 0 (at_origin ∷ at_origin ∷ []) ∷ initializes ∷ []
    ++ done Posted ++ done (Meshes one_point) ++ done Posted ++ done (Inputs [])
    ++ writes 0 (0 ∷ 1 ∷ []) (pos (10 ^ 13) ∷ pos (10 ^ 13) ∷ []) ∷ advances 10 ∷ []

abbrev pub of_summing : List Deed → Course
of_summing deeds = course summing 0 deeds
