-- The state of the coupling's core: where each participant stands in the order of its events, and what it has given. The order of events is that of the coupling documentation's usual loop; the rest is the project's own.
use Rattle.std.specs.Prelude.{ℕ, Bool, List, [], Option, None, is_some}
use Rattle.coupled_loop.specs.Given.{Gift, Look, found}
use Rattle.coupled_loop.specs.Endings.{Ending}

-- what a participant does next in its own order, and in which window and iteration
pub data Place : Type 0 where
  -- it posts its meshes, takes those that it receives, posts its initial data
  sending : Place
  collecting : Place
  opening : Place
  -- it takes its inputs; after the last window it ends
  taking : (w k : ℕ) → Place
  -- it solves, and posts
  within : (w k : ℕ) → Place
  -- it judges with the other members of its scheme
  judging : (scheme w k : ℕ) → Place

-- one participant
pub record Side (Mesh Post Fault : Type 0) : Type 0 where
  pub place : Place
  pub ending : Option (Ending Fault)
  pub sent : Option Mesh
  -- the oldest first
  pub given : List (Gift Post)

abbrev pub CoreState : Type 0 → Type 0 → Type 0 → Type 0
CoreState Mesh Post Fault = ℕ → Side Mesh Post Fault

abbrev pub has_ended : {Mesh Post Fault : Type 0} → Side Mesh Post Fault → Bool
has_ended side = is_some side.ending

-- nothing has happened yet
abbrev pub start_side : {Mesh Post Fault : Type 0} → Side Mesh Post Fault
start_side = record { place = sending; ending = None; sent = None; given = [] }

abbrev pub look_in : {Mesh Post Fault : Type 0} → CoreState Mesh Post Fault → Look Post
look_in sides part item = found (sides part).given item

-- the turn whose events come next
abbrev pub turn_at : Place → ℕ × ℕ
turn_at sending = (0, 0)
turn_at collecting = (0, 0)
turn_at opening = (0, 0)
turn_at (taking w k) = (w, k)
turn_at (within w k) = (w, k)
turn_at (judging scheme w k) = (w, k)
