-- The lines on judged iterations: one for each scheme, window and iteration, in the order in which they are first judged. The project's own.
use Rattle.std.specs.Prelude.{ℕ, Bool, ◌&&◌, nat_eq, if◌then◌else◌, List, [], ◌∷◌, ◌++◌, map, slice_get, Option, Some, None}
use Rattle.std.specs.List.{list_any}
use Rattle.std.specs.Option.{option_map_or}
use Rattle.cpl_plan.specs.declared.parts.PlanParts.{PlanParts}
use Rattle.cpl_plan.specs.declared.parts.Scheme.{Scheme}
use Rattle.cpl_plan.specs.declared.words.IterLine.{IterLine}
use Rattle.cpl_plan.specs.declared.words.Verdict.TheVariants.{Again}
use Rattle.coupled_loop.specs.Numbered.{put}
use Rattle.coupled_loop.specs.Given.{Look}
use Rattle.coupled_loop.specs.CoreState.{Place, judging, look_in}
use Rattle.coupled_loop.specs.CoreStep.{judges}
use Rattle.coupled_loop.specs.LegalHistory.{opening_state}
use Rattle.wave_coupling.specs.Posts.{Post}
use Rattle.wave_coupling.specs.Judged.{verdict_in, change_in}
use Rattle.wave_coupling.specs.Coupling.{start_of}
use Rattle.core_sides.specs.CoreWords.{WaveState, WaveAct, WaveReply, WaveSide, WaveEntry, wave_step}

-- the norm of each measured change
abbrev pub norms_in : PlanParts → Look Post → Scheme → (w start k : ℕ) → List ℕ
norms_in plan look scheme w start k =
    map (λ measure. change_in plan look measure.exchange w start k (slice_get plan.exchanges measure.exchange)) scheme.measures

-- the line on an iteration of a scheme
abbrev pub line_of : PlanParts → Look Post → (number w k : ℕ) → IterLine
line_of plan look number w k = record {
  scheme = number;
  window = w;
  iteration = k;
  verdict = option_map_or (λ scheme. verdict_in plan look scheme w (start_of plan look w) k) (slice_get plan.schemes number) Again;
  norms = option_map_or (λ scheme. norms_in plan look scheme w (start_of plan look w) k) (slice_get plan.schemes number) [];
}

abbrev pub is_line_on : (number w k : ℕ) → IterLine → Bool
is_line_on number w k line = nat_eq line.scheme number && nat_eq line.window w && nat_eq line.iteration k

-- the lines after an event at a place
abbrev pub lines_at : PlanParts → WaveState → Place → WaveAct → List IterLine → List IterLine
lines_at plan sides (judging number w k) judges lines =
    if list_any (is_line_on number w k) lines then lines else lines ++ line_of plan (look_in sides) number w k ∷ []
lines_at plan sides _ _ lines = lines

-- the lines after an event of anybody's, and then
abbrev pub lines_then : PlanParts → (further : WaveState → List IterLine → List IterLine) → WaveState → WaveEntry → List IterLine → Option (WaveReply × WaveSide) → List IterLine
lines_then plan further from entry lines None = lines
lines_then plan further from entry lines (Some made) =
    further (put from entry.part made.1) (lines_at plan from (from entry.part).place entry.act lines)

abbrev pub lines_after : PlanParts → List WaveEntry → WaveState → List IterLine → List IterLine
lines_after plan [] from lines = lines
lines_after plan (entry ∷ rest) from lines =
    lines_then plan (lines_after plan rest) from entry lines (wave_step plan from entry.part entry.act)

abbrev pub lines_of : PlanParts → List WaveEntry → List IterLine
lines_of plan history = lines_after plan history opening_state []
