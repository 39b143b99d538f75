-- What a participant's questions are answered. From the coupling documentation's calls on initial data, checkpoints, windows and time steps.
use Rattle.std.specs.Prelude.{ℕ, ◌+◌, ◌-◌, Bool, true, false, ◌&&◌, ◌||◌, not, nat_eq, nat_lt, is_some, List, length, position, slice_get, Option, option_and_then, unwrap_or, ℤ}
use Rattle.std.specs.List.{list_any}
use Rattle.cpl_plan.specs.PlanWords.{passes}
use Rattle.cpl_plan.specs.declared.parts.PlanParts.{PlanParts}
use Rattle.cpl_plan.specs.declared.parts.PlanEntry.{PlanEntry}
use Rattle.waveform.specs.WaveValue.{read}
use Rattle.coupled_loop.specs.PlanFrames.{group_of}
use Rattle.field_buffers.specs.Rows.{rows_of}
use Rattle.wave_coupling.specs.Posts.{received}
use Rattle.wave_coupling.specs.Known.{serves, read_mesh, read_entries}
use Rattle.wave_coupling.specs.MappedInputs.{input_for, degree_of}
use Rattle.participant_words.specs.Course.{Course}
use Rattle.participant_words.specs.Entries.{components_in}
use Rattle.participant_words.specs.declared.phase.Phase.{Phase}
use Rattle.participant_words.specs.declared.phase.Phase.TheVariants.{Running}

abbrev pub is_running : Phase → Bool
is_running Running = true
is_running phase = false

-- the ticks that are left of the window; none once all windows are completed
abbrev pub most_step : Course → ℕ
most_step c = c.turn.latest - c.turn.now

module _ (plan : PlanParts) (part : ℕ) where
  -- an exchange of initial data comes from the participant
  abbrev pub sends_initial_data : Bool
  sends_initial_data = list_any (λ e. nat_eq e.from part && e.initialize) plan.exchanges

  -- a turn of an implicit scheme is at its start
  abbrev pub is_at_start : Course → Bool
  is_at_start c = is_running c.phase && is_some (group_of plan part) && nat_eq (length c.turn.written) 0

  -- a checkpoint is to be written before the first step of a window, and to be read before that of each further iteration
  abbrev pub writes_checkpoint : Course → Bool
  writes_checkpoint c = is_at_start c && nat_eq c.turn.iteration 1

  abbrev pub reads_checkpoint : Course → Bool
  reads_checkpoint c = is_at_start c && nat_lt 1 c.turn.iteration

  -- one of the two is due, and the participant has not asked
  abbrev pub owes_checkpoint : Course → Bool
  owes_checkpoint c = (writes_checkpoint c && not c.asked.writing) || (reads_checkpoint c && not c.asked.reading)

  -- what an entry reads at some vertices, so many ticks from now
  abbrev pub rows_read : Course → PlanEntry → (vertices : List ℕ) → (at : ℕ) → List ℤ
  rows_read c entry vertices at =
      rows_of (components_in plan part entry) vertices
      (read (input_for plan part c.turn.inputs entry).wave (degree_of plan part entry) (c.turn.now + at))

  -- the place, among the exchanges that the participant receives, of the one that an entry reads
  abbrev pub served_at : PlanEntry → Option ℕ
  served_at entry = position (λ x. passes plan.exchanges x (λ e. serves plan part e (read_mesh plan part e) entry)) (received plan part)

  -- the turn that the newest sample comes from of what an entry, by its number, has read last
  abbrev pub source_of : Course → (entry : ℕ) → ℕ × ℕ
  source_of c entry =
      unwrap_or (option_and_then (λ e. option_and_then (slice_get c.sources) (served_at e)) (slice_get (read_entries plan part) entry)) (0, 0)
