-- What is kept of a participant's course: the samples of its turn beside the times of its steps, the mapped inputs with their sources, and the kind of the event that is out. The project's own.
use Rattle.std.specs.Prelude.{ℕ, ◌+◌, List, [], map, flat_map, slice_get, ℤ}
use Rattle.std.specs.List.{enumerate_from}
use Rattle.std.specs.Option.{option_map_or}
use Rattle.wave_coupling.specs.Noted.{Written}
use Rattle.wave_coupling.specs.InputWave.{InputWave}
use Rattle.participant_tables.specs.WriteKept.{WriteKept}
use Rattle.participant_tables.specs.declared.clock.Clock.{Clock}
use Rattle.participant_tables.specs.declared.queue.Out.{Out}
use Rattle.participant_tables.specs.declared.queue.Out.TheVariants.{PostMesh as OutMesh, TakeMeshes as OutMeshes, Post as OutPost, Judge as OutJudge, Take as OutTake, Stop as OutStop, End as OutEnd}
use Rattle.participant_words.specs.Course.{Turn, Asked as CourseAsked}
use Rattle.participant_words.specs.declared.phase.EventKind.{EventKind}
use Rattle.participant_words.specs.declared.phase.EventKind.TheVariants.{PostMesh, TakeMeshes, Post, Judge, Take, Stop, End}
use Rattle.participant_state.specs.declared.asked.Asked.{Asked}
use Rattle.participant_waves.specs.declared.kept_input.KeptInput.{KeptInput}

abbrev pub kind_out : Out → EventKind
kind_out OutMesh = PostMesh
kind_out OutMeshes = TakeMeshes
kind_out OutPost = Post
kind_out OutJudge = Judge
kind_out OutTake = Take
kind_out OutStop = Stop
kind_out OutEnd = End

abbrev pub asked_of : Asked → CourseAsked
asked_of asked = record { initial = asked.initial; writing = asked.writing; reading = asked.reading }

abbrev pub buffers_of : List WriteKept → List (List ℤ)
buffers_of writes = map (λ e. e.values) writes

-- all that was written at a step, entry after entry
abbrev pub values_at_step : List WriteKept → (step : ℕ) → List ℤ
values_at_step writes step = flat_map (λ e. option_map_or (λ s. s.field.values) (slice_get e.samples step) []) writes

abbrev pub written_at_step : (window iteration : ℕ) → List WriteKept → (step time : ℕ) → Written
written_at_step window iteration writes step time =
    record { window = window; iteration = iteration; step = step + 1; time = time; values = values_at_step writes step }

-- what was written in a turn, whose steps have ended at these times
abbrev pub written_in : (window iteration : ℕ) → (times : List ℕ) → List WriteKept → List Written
written_in window iteration times writes = map (λ at. written_at_step window iteration writes at.0 at.1) (enumerate_from 0 times)

abbrev pub input_kept : KeptInput → InputWave
input_kept input = record { source_window = input.source_window; source_iteration = input.source_iteration; wave = input.wave }

abbrev pub turn_of : Clock → List KeptInput → (times : List ℕ) → List WriteKept → Turn
turn_of clock inputs times writes = record {
  window = clock.window;
  iteration = clock.iteration;
  start = clock.start;
  now = clock.now;
  latest = clock.latest;
  inputs = map input_kept inputs;
  written = written_in clock.window clock.iteration times writes;
}
