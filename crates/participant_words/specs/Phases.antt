-- The phases of a participant and its calls, by their numbers, and which calls a phase allows. After the order in which the coupling documentation makes the calls; the phases and the numbers are the project's own.
use Rattle.std.specs.Prelude.{ℕ, Bool, if◌then◌else◌, Option, Some, None}
use Rattle.call_table.specs.CallMatrix.{may_call}
use Rattle.participant_words.specs.declared.phase.Phase.{Phase}
use Rattle.participant_words.specs.declared.phase.Phase.TheVariants.{Fresh, Joining, Running, Pending, Done, Final, Stopped}
use Rattle.participant_words.specs.declared.phase.Call.{Call}
use Rattle.participant_words.specs.declared.api_err.ApiErr.{ApiErr}
use Rattle.participant_words.specs.declared.api_err.ApiErr.TheVariants.{WrongPhase}
use Rattle.participant_words.specs.declared.phase.Call.TheVariants.{SetVertex, SetVertices, VertexCount, MeshDimensions, DataDimensions, RequiresInitialData, RequiresWritingCheckpoint, RequiresReadingCheckpoint, IsOngoing, IsWindowComplete, MaxStep, ReadData, WriteData, BeginInitialize, BeginAdvance, BeginFinalize, Stop}

abbrev pub phase_number : Phase → ℕ
phase_number Fresh = 0
phase_number Joining = 1
phase_number Running = 2
phase_number Pending = 3
phase_number Done = 4
phase_number Final = 5
phase_number Stopped = 6

abbrev pub call_number : Call → ℕ
call_number SetVertex = 0
call_number SetVertices = 1
call_number VertexCount = 2
call_number MeshDimensions = 3
call_number DataDimensions = 4
call_number RequiresInitialData = 5
call_number RequiresWritingCheckpoint = 6
call_number RequiresReadingCheckpoint = 7
call_number IsOngoing = 8
call_number IsWindowComplete = 9
call_number MaxStep = 10
call_number ReadData = 11
call_number WriteData = 12
call_number BeginInitialize = 13
call_number BeginAdvance = 14
call_number BeginFinalize = 15
call_number Stop = 16

-- whether the table of calls allows a call in a phase
abbrev pub is_allowed : Call → Phase → Bool
is_allowed call phase = may_call (call_number call) (phase_number phase)

-- the refusal of a call in a phase that does not allow it
abbrev pub not_allowed : Call → Phase → Option ApiErr
not_allowed call phase = if is_allowed call phase then None else Some (WrongPhase (call_number call) (phase_number phase))
