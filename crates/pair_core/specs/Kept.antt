-- What a core keeps of a coupling, the same few values however many windows there are. The project's own.
use Rattle.std.specs.Prelude.{ℕ, ◌+◌, ℤ, Bool, true, false, Option, Some, ◌==◌, if◌then◌else◌}
use Rattle.pair_core.specs.declared.event.Ending.{Ending}
use Rattle.pair_core.specs.declared.event.NextKind.{NextKind}
use Rattle.pair_core.specs.CoreState.{next_kind_of}

-- of one participant
pub record KeptSide : Type 0 where
  -- how many posts it has made, the initial one among them
  pub posts : ℕ
  -- whether it has taken its input since its last post
  pub taken : Bool
  -- the value that it posted last, and zero before its initial post
  pub last : ℤ
  pub ending : Option Ending

-- of the coupling
pub record Kept : Type 0 where
  pub windows : ℕ
  pub first : KeptSide
  pub second : KeptSide

-- what is kept of participant p, which is 0 or 1
abbrev pub kept_of : Kept → ℕ → KeptSide
kept_of kept p = if p == 0 then kept.first else kept.second

-- the kind of participant p's next event
abbrev pub kept_next_kind : Kept → ℕ → NextKind
kept_next_kind kept p =
    next_kind_of kept.windows (kept_of kept p).posts (kept_of kept p).taken (kept_of kept p).ending

-- what is kept once participant p, which is 0 or 1, is so
abbrev pub kept_with : Kept → ℕ → KeptSide → Kept
kept_with kept p side = if p == 0 then record kept { first = side } else record kept { second = side }

-- a participant after a post, a Take, an ending
abbrev pub side_posted : KeptSide → ℤ → KeptSide
side_posted side value = record { posts = side.posts + 1; taken = false; last = value; ending = side.ending }

abbrev pub side_taken : KeptSide → KeptSide
side_taken side = record side { taken = true }

abbrev pub side_ended : KeptSide → Ending → KeptSide
side_ended side ending = record side { ending = Some ending }
