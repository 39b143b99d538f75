-- Why a call of a participant is refused: the first cause that applies, after the table of calls and phases. The coupling documentation has which call may come when; the causes are the project's own.
use Rattle.std.specs.Prelude.{◌≡◌, ℕ, ◌+◌, ◌*◌, ◌^◌, ◌/◌, ◌%◌, Bool, not, nat_eq, nat_lt, nat_le, ◌&&◌, if◌then◌else◌, List, [], ◌∷◌, length, find, position, Option, Some, None, option_map, ℤ, unsigned_abs}
use Rattle.std.specs.List.{list_any}
use Rattle.fixed_num.specs.Numbers.{is_value}
use Rattle.mesh_data.specs.AnyMeshes.{vertices_of}
use Rattle.cpl_plan.specs.declared.parts.PlanParts.{PlanParts}
use Rattle.participant_words.specs.Phases.{not_allowed}
use Rattle.participant_words.specs.Course.{Course}
use Rattle.participant_words.specs.Named.{place_named, data_on, entry_read, entry_written}
use Rattle.participant_words.specs.Entries.{size_at, dimensions_at, components_read, components_written}
use Rattle.participant_words.specs.Begun.{ends_window}
use Rattle.participant_words.specs.Questions.{most_step, sends_initial_data, owes_checkpoint}
use Rattle.participant_words.specs.declared.api_err.ApiErr.{ApiErr}
use Rattle.participant_words.specs.declared.api_err.ApiErr.TheVariants.{UnknownMesh, UnknownData, NotWritable, NotReadable, BadVertex, BadLength, ZeroStep, StepTooLong, TooManySteps, BadReadTime, CheckpointOwed, InitialDataOwed, EmptyMesh, TooManyVertices, ValueRange, Memory}
use Rattle.participant_words.specs.declared.phase.Call.{Call}
use Rattle.participant_words.specs.declared.phase.Call.TheVariants.{SetVertex, SetVertices, VertexCount, MeshDimensions, DataDimensions, ReadData, WriteData, BeginInitialize, BeginAdvance}

abbrev pub Refusal : Type 0
Refusal = Option ApiErr

-- a cause applies where its test holds
abbrev pub where_holds : Bool → ApiErr → Refusal
where_holds holds cause = if holds then Some cause else None

-- the first that applies
abbrev pub or_then : Refusal → Refusal → Refusal
or_then (Some cause) later = Some cause
or_then None later = later

abbrev pub first_of : List Refusal → Refusal
first_of [] = None
first_of (cause ∷ later) = or_then cause (first_of later)

-- what is looked for is not there, or what is refused with it
abbrev pub needing : {X : Type 0} → Option X → ApiErr → (X → Refusal) → Refusal
needing None missing refusal = Some missing
needing (Some found) missing refusal = refusal found

-- the first vertex that a mesh of this size does not have
abbrev pub bad_vertex : (size : ℕ) → (vertices : List ℕ) → Refusal
bad_vertex size vertices = option_map (λ id. BadVertex id size) (find (λ v. nat_le size v) vertices)

abbrev pub bad_length : (want got : ℕ) → Refusal
bad_length want got = where_holds (not (nat_eq got want)) (BadLength want got)

-- the first number that is no Value, or no coordinate
abbrev pub bad_value : List ℤ → Refusal
bad_value numbers = option_map ValueRange (position (λ number. not (is_value number)) numbers)

abbrev pub is_coordinate : ℤ → Bool
is_coordinate number = nat_le (unsigned_abs number) (10 ^ 12)

abbrev pub bad_coordinate : List ℤ → Refusal
bad_coordinate numbers = option_map ValueRange (position (λ number. not (is_coordinate number)) numbers)

module _ (plan : PlanParts) (part : ℕ) (c : Course) where
  abbrev pub phase_refuses : Call → Refusal
  phase_refuses call = not_allowed call c.phase

  -- a mesh that the participant provides, and data that it carries
  abbrev pub on_mesh : (mesh : List ℕ) → ((place : ℕ) → Refusal) → Refusal
  on_mesh mesh refusal = needing (place_named plan part mesh) UnknownMesh refusal

  abbrev pub on_data : (mesh data_name : List ℕ) → ((place data_id : ℕ) → Refusal) → Refusal
  on_data mesh data_name refusal = on_mesh mesh (λ place. needing (data_on plan part place data_name) UnknownData (refusal place))

  -- the mesh would have more than 10,000 vertices
  abbrev pub too_many_vertices : (place more : ℕ) → Refusal
  too_many_vertices place more = where_holds (nat_lt (10 ^ 4) (size_at c place + more)) TooManyVertices

  abbrev pub refusal_of_set_vertex : (mesh : List ℕ) → (point : List ℤ) → Refusal
  refusal_of_set_vertex mesh point =
      or_then (phase_refuses SetVertex)
      (on_mesh mesh (λ place. first_of (bad_length (dimensions_at c place) (length point) ∷ bad_coordinate point ∷ too_many_vertices place 1 ∷ [])))

  -- as many numbers as the points that they make have coordinates
  abbrev pub bad_points : (dimensions got : ℕ) → Refusal
  bad_points dimensions got = where_holds (not (nat_eq (got % dimensions) 0)) (BadLength dimensions got)

  abbrev pub refusal_of_set_vertices : (mesh : List ℕ) → (numbers : List ℤ) → Refusal
  refusal_of_set_vertices mesh numbers =
      or_then (phase_refuses SetVertices)
      (on_mesh mesh (λ place. first_of (bad_points (dimensions_at c place) (length numbers) ∷ bad_coordinate numbers ∷ too_many_vertices place (length numbers / dimensions_at c place) ∷ [])))

  abbrev pub refusal_of_vertex_count : (mesh : List ℕ) → Refusal
  refusal_of_vertex_count mesh = or_then (phase_refuses VertexCount) (on_mesh mesh (λ place. None))

  abbrev pub refusal_of_mesh_dimensions : (mesh : List ℕ) → Refusal
  refusal_of_mesh_dimensions mesh = or_then (phase_refuses MeshDimensions) (on_mesh mesh (λ place. None))

  abbrev pub refusal_of_data_dimensions : (mesh data_name : List ℕ) → Refusal
  refusal_of_data_dimensions mesh data_name = or_then (phase_refuses DataDimensions) (on_data mesh data_name (λ place data_id. None))

  abbrev pub refusal_of_read_data : (mesh data_name : List ℕ) → (vertices : List ℕ) → (at got : ℕ) → Refusal
  refusal_of_read_data mesh data_name vertices at got =
      or_then (phase_refuses ReadData)
      (on_data mesh data_name (λ place data_id. needing (entry_read plan part place data_id) NotReadable (λ entry.
      first_of (bad_vertex (size_at c place) vertices
      ∷ bad_length (length vertices * components_read plan part entry) got
      ∷ where_holds (nat_lt (most_step c) at) (BadReadTime (most_step c)) ∷ []))))

  abbrev pub refusal_of_write_data : (mesh data_name : List ℕ) → (vertices : List ℕ) → (rows : List ℤ) → Refusal
  refusal_of_write_data mesh data_name vertices rows =
      or_then (phase_refuses WriteData)
      (on_data mesh data_name (λ place data_id. needing (entry_written plan part place data_id) NotWritable (λ entry.
      first_of (bad_vertex (size_at c place) vertices
      ∷ bad_length (length vertices * components_written plan part entry) (length rows)
      ∷ bad_value rows ∷ []))))

  abbrev pub has_empty_mesh : Bool
  has_empty_mesh = list_any (λ mesh. nat_eq (length (vertices_of mesh)) 0) c.own

  abbrev pub refusal_of_begin_initialize : Refusal
  refusal_of_begin_initialize =
      first_of (phase_refuses BeginInitialize
      ∷ where_holds has_empty_mesh EmptyMesh
      ∷ where_holds (sends_initial_data plan part && not c.asked.initial) InitialDataOwed ∷ [])

  -- the step would be the last one that a turn may have, and does not end the window
  abbrev pub is_one_too_many : (dt : ℕ) → Bool
  is_one_too_many dt = nat_eq (length c.turn.written + 1) 1024 && not (ends_window plan part c.turn dt)

  abbrev pub refusal_of_begin_advance : (dt : ℕ) → Refusal
  refusal_of_begin_advance dt =
      first_of (phase_refuses BeginAdvance
      ∷ where_holds (owes_checkpoint plan part c) CheckpointOwed
      ∷ where_holds (nat_eq dt 0) ZeroStep
      ∷ where_holds (nat_lt (most_step c) dt) (StepTooLong (most_step c))
      ∷ where_holds (is_one_too_many dt) TooManySteps ∷ [])

-- what a call that takes memory answers as an error: the refusal that applies, or, where none does, want of memory
abbrev pub IsCause : Refusal → ApiErr → Type 0
IsCause None error = error ≡ Memory
IsCause (Some why) error = error ≡ why
