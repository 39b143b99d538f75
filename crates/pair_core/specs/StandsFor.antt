-- What a core keeps is what the state after a list of events says. The project's own.
use Rattle.std.specs.Prelude.{◌≡◌, ℕ, ◌-◌, ◌<◌, length, Some}
use Rattle.pair_core.specs.Kept.{KeptSide, Kept}
use Rattle.pair_core.specs.CoreState.{PartState, History, accepted, state_after}

-- of one participant
pub record SideStandsFor (kept : KeptSide) (part : PartState) : Type 0 where
  pub posts : kept.posts ≡ length part.posts
  pub taken : kept.taken ≡ part.taken
  -- the value kept is that of the window posted last
  pub last : 0 < kept.posts → accepted part (kept.posts - 1) ≡ Some kept.last
  pub ending : kept.ending ≡ part.ending

-- what is kept stands for a list of events in a coupling of so many windows
pub record StandsFor (windows : ℕ) (kept : Kept) (history : History) : Type 0 where
  pub windows_are : kept.windows ≡ windows
  pub first : SideStandsFor kept.first (state_after windows history).first
  pub second : SideStandsFor kept.second (state_after windows history).second
