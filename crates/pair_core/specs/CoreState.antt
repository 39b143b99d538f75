-- The state of a coupling after a list of events. The order of a participant's events is that of the coupling
-- documentation's serial-explicit scheme; the spelling is the project's own.
use Rattle.std.specs.Prelude.{ℕ, ◌-◌, ℤ, Bool, true, false, List, [], ◌∷◌, ◌++◌, length, fold, Option, Some, None, nat_lt, ◌==◌, if◌then◌else◌}
use Rattle.std.specs.List.{slice_get}
use Rattle.pair_core.specs.declared.event.Event.{Event}
use Rattle.pair_core.specs.declared.event.Event.TheVariants.{Post, Take, Stop, End}
use Rattle.pair_core.specs.declared.event.NextKind.{NextKind}
use Rattle.pair_core.specs.declared.event.NextKind.TheVariants.{Post as PostNext, Take as TakeNext, End as EndNext, None as NothingNext}
use Rattle.pair_core.specs.declared.event.Ending.{Ending}
use Rattle.pair_core.specs.declared.event.Ending.TheVariants.{Done, Early, Faulted, Cut}

-- what a participant did: one of its events, or a cut by a partner in place of a Take
pub data Act : Type 0 where
  Made : Event → Act
  CutOff : ℕ → Act

pub record Entry : Type 0 where
  pub participant : ℕ
  pub act : Act

-- what happened so far, in order
abbrev pub History : Type 0
History = List Entry

-- one participant: its posts, the initial one first; whether it has taken since its last post; its ending
pub record PartState : Type 0 where
  pub posts : List ℤ
  pub taken : Bool
  pub ending : Option Ending

pub record CoreState : Type 0 where
  pub first : PartState
  pub second : PartState

-- the other of 0 and 1
abbrev pub partner_of : ℕ → ℕ
partner_of p = 1 - p

-- the state of participant p, which is 0 or 1
abbrev pub part_of : CoreState → ℕ → PartState
part_of state p = if p == 0 then state.first else state.second

-- the turn whose events come next after so many posts: (0, 0) before the initial post, then (window, 1)
abbrev pub position_of : ℕ → ℕ × ℕ
position_of posts = if posts == 0 then (0, 0) else (posts, 1)

-- the kind of the event that comes next, in a coupling of so many windows, after so many posts:
-- the initial post, then per window a Take and a Post, after the last window End
abbrev pub kind_before_ending : ℕ → ℕ → Bool → NextKind
kind_before_ending windows posts taken =
    if posts == 0 then PostNext else if nat_lt windows posts then EndNext else if taken then PostNext else TakeNext

-- the same, of a participant that may have ended
abbrev pub next_kind_of : ℕ → ℕ → Bool → Option Ending → NextKind
next_kind_of windows posts taken None = kind_before_ending windows posts taken
next_kind_of windows posts taken (Some _) = NothingNext

-- the accepted value of a window, of which the initial one is that of window 0
abbrev pub accepted : PartState → ℕ → Option ℤ
accepted part window = slice_get part.posts window

-- an End is done where it comes next, else early
abbrev pub end_at : NextKind → Ending
end_at EndNext = Done
end_at PostNext = Early
end_at TakeNext = Early
end_at NothingNext = Early

-- a participant of a coupling of so many windows after an act of its own
abbrev pub part_after : ℕ → PartState → Act → PartState
part_after windows part (Made (Post value)) =
    record { posts = part.posts ++ value ∷ []; taken = false; ending = part.ending }
part_after windows part (Made Take) = record part { taken = true }
part_after windows part (Made (Stop code)) =
    record part { ending = Some (Faulted ((position_of (length part.posts)).0) code) }
part_after windows part (Made End) =
    record part { ending = Some (end_at (next_kind_of windows (length part.posts) part.taken part.ending)) }
part_after windows part (CutOff _) = record part { ending = Some Cut }

-- nothing happened yet
abbrev pub opening_part : PartState
opening_part = record { posts = []; taken = false; ending = None }

abbrev pub opening : CoreState
opening = record { first = opening_part; second = opening_part }

-- the state after one more entry, which changes its own participant alone
abbrev pub state_with : ℕ → CoreState → Entry → CoreState
state_with windows state entry =
    let part = part_after windows (part_of state entry.participant) entry.act in
    if entry.participant == 0 then record state { first = part } else record state { second = part }

-- the state of a coupling of so many windows after a list of entries
abbrev pub state_after : ℕ → History → CoreState
state_after windows history = fold (state_with windows) opening history
