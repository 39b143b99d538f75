-- One event of a participant in a state of the coupling: where it is enabled, its answer, its entry in the history.
-- The inputs are those of the coupling documentation's serial-explicit scheme: the first reads the second's value of
-- the window before, the second the first's of the same window.
use Rattle.std.specs.Prelude.{◌≡◌, ℕ, ◌-◌, ℤ, length, Option, Some, None, Result, Ok, Err, ◌==◌, if◌then◌else◌}
use Rattle.pair_core.specs.CoreState.{Act, Made, CutOff, Entry, CoreState, partner_of, part_of, position_of, next_kind_of, accepted}
use Rattle.pair_core.specs.declared.event.Event.{Event}
use Rattle.pair_core.specs.declared.event.Event.TheVariants.{Post, Take, Stop, End}
use Rattle.pair_core.specs.declared.event.Reply.{Reply}
use Rattle.pair_core.specs.declared.event.Reply.TheVariants.{Posted, Input, Cut, Over}
use Rattle.pair_core.specs.declared.event.Enabled.{Enabled}
use Rattle.pair_core.specs.declared.event.Enabled.TheVariants.{Yes, CutBy, Missing, Ended}
use Rattle.pair_core.specs.declared.event.Ending.{Ending}
use Rattle.pair_core.specs.declared.event.NextKind.{NextKind}
use Rattle.pair_core.specs.declared.event.NextKind.TheVariants.{Post as PostNext, Take as TakeNext, End as EndNext, None as NothingNext}
use Rattle.pair_core.specs.declared.event.CoreErr.{CoreErr}
use Rattle.pair_core.specs.declared.event.CoreErr.TheVariants.{NotEnabled, Memory}

-- the kind of participant p's next event
abbrev pub next_kind_in : ℕ → CoreState → ℕ → NextKind
next_kind_in windows state p =
    next_kind_of windows (length (part_of state p).posts) (part_of state p).taken (part_of state p).ending

-- participant p's next turn
abbrev pub position_in : CoreState → ℕ → ℕ × ℕ
position_in state p = position_of (length (part_of state p).posts)

-- the partner's window that participant p needs, and whose value it reads, in its own window: the first lags by one
abbrev pub needed_window : ℕ → ℕ → ℕ
needed_window p window = if p == 0 then window - 1 else window

-- what becomes of a Take: it reads a value, it is cut by a partner, or it waits for a partner at its position
pub data TakeStep : Type 0 where
  Reads : ℤ → TakeStep
  BecomesCut : ℕ → TakeStep
  Waits : ℕ → ℕ → ℕ → TakeStep

-- by the needed value, which is there once the partner has completed its window; the partner's ending, number
-- and position
abbrev pub take_step : Option ℤ → Option Ending → ℕ → ℕ × ℕ → TakeStep
take_step (Some value) _ _ _ = Reads value
take_step None (Some _) partner _ = BecomesCut partner
take_step None None partner at = Waits partner (at.0) (at.1)

-- what becomes of a Take of participant p, whose window is the number of its posts
abbrev pub take_in : CoreState → ℕ → TakeStep
take_in state p =
    let partner = part_of state (partner_of p) in
    take_step
    (accepted partner (needed_window p (length (part_of state p).posts)))
    partner.ending
    (partner_of p)
    (position_in state (partner_of p))

-- whether a Take is enabled
abbrev pub take_enabled : TakeStep → Enabled
take_enabled (Reads _) = Yes
take_enabled (BecomesCut who) = CutBy who
take_enabled (Waits owner window iteration) = Missing owner window iteration

-- whether an event of the next kind is enabled, of which a Take is enabled so
abbrev pub enabled_at : NextKind → Enabled → Enabled
enabled_at PostNext _ = Yes
enabled_at TakeNext take = take
enabled_at EndNext _ = Yes
enabled_at NothingNext _ = Ended

-- whether participant p's next event is enabled
abbrev pub enabled_in : ℕ → CoreState → ℕ → Enabled
enabled_in windows state p = enabled_at (next_kind_in windows state p) (take_enabled (take_in state p))

-- the answer to a Take
abbrev pub take_answer : TakeStep → Result Reply CoreErr
take_answer (Reads value) = Ok (Input value)
take_answer (BecomesCut who) = Ok (Cut who)
take_answer (Waits owner window iteration) = Err (NotEnabled owner window iteration)

-- the answer to an event of participant p
abbrev pub answer_in : CoreState → ℕ → Event → Result Reply CoreErr
answer_in state p (Post _) = Ok Posted
answer_in state p Take = take_answer (take_in state p)
answer_in state p (Stop _) = Ok Over
answer_in state p End = Ok Over

-- what a Take that does not wait is in the history: itself, or the cut in its place
abbrev pub take_act : TakeStep → Act
take_act (Reads _) = Made Take
take_act (BecomesCut who) = CutOff who
take_act (Waits _ _ _) = Made Take

abbrev pub act_in : CoreState → ℕ → Event → Act
act_in state p (Post value) = Made (Post value)
act_in state p Take = take_act (take_in state p)
act_in state p (Stop code) = Made (Stop code)
act_in state p End = Made End

-- the entry in the history of an event of participant p that does not wait
abbrev pub entry_in : CoreState → ℕ → Event → Entry
entry_in state p event = record { participant = p; act = act_in state p event }

-- an event comes at its place: it is of the next kind, or it is a Stop or an End
abbrev pub IsAtItsPlace : NextKind → Event → Type 0
IsAtItsPlace next (Post _) = next ≡ PostNext
IsAtItsPlace next Take = next ≡ TakeNext
IsAtItsPlace next (Stop _) = Unit {0}
IsAtItsPlace next End = Unit {0}

-- a Stop or an End, which is never refused
abbrev pub IsStopOrEnd : Event → Type 0
IsStopOrEnd (Post _) = ⊥
IsStopOrEnd Take = ⊥
IsStopOrEnd (Stop _) = Unit {0}
IsStopOrEnd End = Unit {0}

-- the cause of an error, where out of memory is free
abbrev pub UnlessMemory : CoreErr → Type 0 → Type 0
UnlessMemory Memory _ = Unit {0}
UnlessMemory (NotEnabled _ _ _) cause = cause
