-- What the driver keeps of a participant, beside the loop: a participant of the loop is a solver's state, what the
-- core stands for, and a tally. The project's own.
use Rattle.std.specs.Prelude.{◌≡◌, ℕ, ◌+◌, ◌-◌, ◌≤◌, Bool, false, IsTrue, is_some, ◌||◌, [], ◌∷◌, ◌++◌, length, ℤ, pos, Option, Some, None, ◌==◌, if◌then◌else◌}
use Rattle.std.specs.List.{slice_index_or}
use Rattle.pair_core.specs.CoreState.{CoreState, PartState, History, partner_of, part_of, state_after, accepted}
use Rattle.pair_core.specs.CoreStep.{needed_window, entry_in}
use Rattle.pair_core.specs.declared.event.Event.TheVariants.{Post, Stop}
use Rattle.pair_core.specs.Kept.{Kept}
use Rattle.pair_core.specs.StandsFor.{StandsFor}
use Rattle.pair_core.specs.declared.event.Reply.{Reply}
use Rattle.pair_core.specs.declared.event.Reply.TheVariants.{Posted, Input, Cut, Over}
use Rattle.solver_trait.specs.Behaviour.{Behaviour}
use Rattle.solver_trait.specs.declared.StepErr.{StepErr}
use Rattle.solver_trait.specs.declared.StepErr.TheVariants.{Fault as StepFault, Memory as StepMemory}
use Rattle.coupling_run.specs.CoupledLoop.{Member, turn, fault_in}
use Rattle.coupling_run.specs.InputWave.{InputWave}
use Rattle.coupling_run.specs.Solve.{Solved, reaches, fails, solve}
use Rattle.coupling_run.specs.declared.turn.Tally.{Tally}

-- what a reply gives to read
abbrev pub input_in : Reply → Option ℤ
input_in (Input value) = Some value
input_in Posted = None
input_in (Cut _) = None
input_in Over = None

-- what a Take of participant p needs in a state, where its partner has given it
abbrev pub needed_value : CoreState → ℕ → Option ℤ
needed_value state p =
    accepted (part_of state (partner_of p)) (needed_window p (length (part_of state p).posts))

-- the partner of participant p has given what p's Take needs, or it has ended
abbrev pub is_answered : CoreState → ℕ → Bool
is_answered state p = is_some (needed_value state p) || is_some (part_of state (partner_of p)).ending

-- that is so in a state that the core stands for
abbrev pub IsAnswered : Kept → ℕ → Type 0
IsAnswered kept p =
    (windows : ℕ) × (history : History) × StandsFor windows kept history × IsTrue (is_answered (state_after windows history) p)

-- a solve that faults answers its code; memory may be wanting at any solve
abbrev pub IsSolveError : {State : Type 0} → Solved State → StepErr → Type 0
IsSolveError solved (StepFault code) = solved ≡ fails code
IsSolveError solved StepMemory = Unit {0}

-- the input over the window of which a participant takes this value: the second remembers what it read last
abbrev pub wave_read : ℕ → ℤ → ℤ → InputWave
wave_read p before value = record { at_start = if p == 0 then value else before; at_end = value }

-- the participant of the loop
abbrev pub member_of : {State : Type 0} → State → Tally → PartState → Member State
member_of state tally part =
    record { state = state; given = part.posts; has_stopped = is_some part.ending; steps = tally.steps; fault = tally.fault }

-- the value from which the second's next window starts is the one that it read last
abbrev pub Remembers : ℕ → PartState → PartState → ℤ → Type 0
Remembers p own partner before = 1 ≤ p → before ≡ slice_index_or partner.posts (length own.posts - 1) (pos 0)

-- a participant that has not ended comes to the turn of one of so many windows
pub record IsAtTurn (windows : ℕ) (p : ℕ) (state : CoreState) (before : ℤ) : Type 0 where
  pub posted : 1 ≤ length (part_of state p).posts
  pub within : length (part_of state p).posts ≤ windows
  pub untaken : (part_of state p).taken ≡ false
  pub answered : IsTrue (is_answered state p)
  pub remembers : Remembers p (part_of state p) (part_of state (partner_of p)) before

-- a participant after its turn: it is the loop's, and its partner is as before
pub record HasTurned {State : Type 0} (solver : Behaviour State) (p : ℕ) (state : CoreState) (before : Member State) (next : CoreState) (after : Member State) (remembered : ℤ) : Type 0 where
  pub turned : after ≡ turn solver p (length (part_of state p).posts) (part_of state (partner_of p)).posts before
  pub partner : part_of next (partner_of p) ≡ part_of state (partner_of p)
  pub untaken : (part_of next p).ending ≡ None → (part_of next p).taken ≡ false
  pub remembers : (part_of next p).ending ≡ None → Remembers p (part_of next p) (part_of next (partner_of p)) remembered

-- a participant after its solve: it posted the written value and made a step, or it stopped by its fault
abbrev pub SolveLeaves : {State : Type 0} → ℕ → History → Kept → ℕ → State → Tally → State → Tally → ℤ → Solved State → Type 0
SolveLeaves windows h core p state tally next after input (reaches reached value) =
    StandsFor windows core (h ++ entry_in (state_after windows h) p (Post value) ∷ []) × (next ≡ reached) × (after ≡ record tally { before = input; steps = tally.steps + 1 })
SolveLeaves windows h core p state tally next after input (fails code) =
    StandsFor windows core (h ++ entry_in (state_after windows h) p (Stop code) ∷ []) × (next ≡ state) × (after ≡ record tally { fault = Some (fault_in p (length (part_of (state_after windows h) p).posts) code) })

abbrev pub HasSolved : {State : Type 0} → Behaviour State → ℕ → History → Kept → ℕ → State → Tally → State → Tally → ℤ → Type 0
HasSolved solver windows h core p state tally next after input =
    SolveLeaves windows h core p state tally next after input (solve solver state (wave_read p tally.before input))

-- where a participant has not ended, it comes to its turn
abbrev pub ComesToTurn : ℕ → ℕ → CoreState → ℤ → Type 0
ComesToTurn windows p state before = (part_of state p).ending ≡ None → IsAtTurn windows p state before

-- that is so in a state that the core stands for
abbrev pub IsReady : Kept → ℕ → ℤ → Type 0
IsReady kept p before =
    (windows : ℕ) × (history : History) × StandsFor windows kept history × ComesToTurn windows p (state_after windows history) before

-- what a participant's turn leads to: a list of events that the core stands for, and the loop's turn
abbrev pub Turned : {State : Type 0} → Behaviour State → ℕ → History → Kept → ℕ → State → Tally → State → Tally → Type 0
Turned solver windows h core p state tally next after =
    (history : History) × StandsFor windows core history × HasTurned solver p (state_after windows h) (member_of state tally (part_of (state_after windows h) p)) (state_after windows history) (member_of next after (part_of (state_after windows history) p)) after.before
