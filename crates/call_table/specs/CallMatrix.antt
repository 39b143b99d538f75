-- Which calls a participant may make in which phase. The coupling documentation has the calls and in which order a program makes them; the phases, the numbers and the matrix are the project's own.
use Rattle.std.specs.Prelude.{ℕ, Bool, true, false, List, [], ◌∷◌, map, unwrap_or}
use Rattle.call_table.specs.Tables.{answer_at}

-- the calls that have numbers; initialize, advance and finalize have those of begin_initialize, begin_advance and begin_finalize
pub data Call : Type 0 where
  set_vertex : Call
  set_vertices : Call
  vertex_count : Call
  mesh_dimensions : Call
  data_dimensions : Call
  requires_initial_data : Call
  requires_writing_checkpoint : Call
  requires_reading_checkpoint : Call
  is_ongoing : Call
  is_window_complete : Call
  max_step : Call
  read_data : Call
  write_data : Call
  begin_initialize : Call
  begin_advance : Call
  begin_finalize : Call
  stop : Call
  try_poll : Call

-- all of them, as they are numbered, from 0
abbrev pub calls : List Call
calls =
    set_vertex ∷ set_vertices ∷ vertex_count ∷ mesh_dimensions ∷ data_dimensions
    ∷ requires_initial_data ∷ requires_writing_checkpoint ∷ requires_reading_checkpoint
    ∷ is_ongoing ∷ is_window_complete ∷ max_step ∷ read_data ∷ write_data
    ∷ begin_initialize ∷ begin_advance ∷ begin_finalize ∷ stop ∷ try_poll ∷ []

-- a call's answers in the seven phases, as these are numbered, from 0: fresh is 0, and stopped is 6
abbrev pub row : Bool → Bool → Bool → Bool → Bool → Bool → Bool → List Bool
row fresh joining running pending done final stopped = fresh ∷ joining ∷ running ∷ pending ∷ done ∷ final ∷ stopped ∷ []

-- whether a participant may make the call: when it is fresh, joining, running, pending, done, final, stopped
abbrev pub answers : Call → List Bool
answers set_vertex = row true false false false false false false
answers set_vertices = row true false false false false false false
answers vertex_count = row true true true true true true true
answers mesh_dimensions = row true true true true true true true
answers data_dimensions = row true true true true true true true
answers requires_initial_data = row true false false false false false false
answers requires_writing_checkpoint = row false false true false true false false
answers requires_reading_checkpoint = row false false true false true false false
answers is_ongoing = row false false true false true false false
answers is_window_complete = row false false true false true false false
answers max_step = row false false true false true false false
answers read_data = row false false true false false false false
answers write_data = row true false true false false false false
answers begin_initialize = row true false false false false false false
answers begin_advance = row false false true false false false false
answers begin_finalize = row true false true false true false true
answers stop = row true true true true false false false
answers try_poll = row false true false true false false false

-- a row for each call, a column for each phase
abbrev pub matrix : List (List Bool)
matrix = map answers calls

-- whether a participant may make this call in this phase, both by their numbers
abbrev pub may_call : ℕ → ℕ → Bool
may_call call phase = unwrap_or (answer_at matrix call phase) false
