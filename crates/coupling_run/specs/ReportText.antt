-- The text of a run: its report, or the line of its first fault. Each line ends with a line feed. The project's own.
use Rattle.std.specs.Prelude.{ℕ, ◌*◌, List, [], ◌∷◌, ◌++◌, ℤ, codes, decimal, ◌==◌, if◌then◌else◌}
use Rattle.std.specs.List.{flat_map}
use Rattle.line_text.specs.Printing.{value_text}
use Rattle.coupling_run.specs.LoopResults.{LoopResults}
use Rattle.coupling_run.specs.Solve.{window_ticks}
use Rattle.coupling_run.specs.declared.fault.Fault.{Fault}

abbrev pub line_feed : List ℕ
line_feed = 10 ∷ []

-- the participants' names
abbrev pub participant_name : ℕ → List ℕ
participant_name participant = if participant == 0 then codes "A" else codes "B"

-- a blank and a component
abbrev pub state_part : ℤ → List ℕ
state_part value = 32 ∷ value_text value

-- the end of a participant's line: the word and each component
abbrev pub state_parts : List ℤ → List ℕ
state_parts state = codes " state" ++ flat_map state_part state ++ line_feed

-- a word and a number
abbrev pub numbered : List ℕ → ℕ → List ℕ
numbered word number = word ++ decimal number

-- participant <name> steps <steps> state <value> ..
abbrev pub participant_line : ℕ → ℕ → List ℤ → List ℕ
participant_line participant steps state =
    codes "participant " ++ participant_name participant ++ numbered (codes " steps ") steps ++ state_parts state

-- coupled <windows> windows to <end>
unfoldable pub coupled_line : ℕ → List ℕ
coupled_line windows =
    numbered (codes "coupled ") windows ++ numbered (codes " windows to ") (windows * window_ticks) ++ line_feed

abbrev pub report : ℕ → LoopResults (List ℤ) (List ℤ) → List ℕ
report windows results =
    coupled_line windows ++ participant_line 0 results.first_steps results.first_state ++ participant_line 1 results.second_steps results.second_state

-- fault participant <name> window <w> iteration <k> step <n> code <c>
abbrev pub fault_line : Fault → List ℕ
fault_line fault =
    codes "fault participant " ++ participant_name fault.part ++ numbered (codes " window ") fault.window ++ numbered (codes " iteration ") fault.iteration ++ numbered (codes " step ") fault.step ++ numbered (codes " code ") fault.code ++ line_feed
