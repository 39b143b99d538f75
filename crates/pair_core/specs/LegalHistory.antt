-- The lists of events that a coupling can have: each entry is allowed in the state after the entries before it.
-- The project's own.
use Rattle.std.specs.Prelude.{◌≡◌, ℕ, ◌<◌, ℤ, ◌∷◌, ◌++◌, None}
use Rattle.pair_core.specs.CoreState.{Act, Made, CutOff, Entry, CoreState, History, part_of, state_after}
use Rattle.pair_core.specs.CoreStep.{TakeStep, Reads, BecomesCut, next_kind_in, take_in}
use Rattle.pair_core.specs.declared.event.Event.TheVariants.{Post, Take, Stop, End}
use Rattle.pair_core.specs.declared.event.NextKind.{NextKind}
use Rattle.pair_core.specs.declared.event.NextKind.TheVariants.{Post as PostNext, Take as TakeNext}

-- an act is allowed at this kind of the next event, and where a Take would become this: an event at its place, of
-- which a Take must not wait; a cut by the partner in place of a Take
abbrev pub IsAllowedAct : NextKind → TakeStep → Act → Type 0
IsAllowedAct next take (Made (Post _)) = next ≡ PostNext
IsAllowedAct next take (Made Take) = (next ≡ TakeNext) × ((value : ℤ) × (take ≡ Reads value))
IsAllowedAct next take (Made (Stop _)) = Unit {0}
IsAllowedAct next take (Made End) = Unit {0}
IsAllowedAct next take (CutOff who) = (next ≡ TakeNext) × (take ≡ BecomesCut who)

-- an entry is allowed in a state: its participant is 0 or 1 and has not ended, and its act is allowed
pub record IsAllowed (windows : ℕ) (state : CoreState) (entry : Entry) : Type 0 where
  pub participant : entry.participant < 2
  pub running : (part_of state entry.participant).ending ≡ None
  pub act : IsAllowedAct (next_kind_in windows state entry.participant) (take_in state entry.participant) entry.act

abbrev pub IsLegal : ℕ → History → Type 0
IsLegal windows history =
    (before after : History) (entry : Entry) → history ≡ before ++ entry ∷ after →
    IsAllowed windows (state_after windows before) entry
