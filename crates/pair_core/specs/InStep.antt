-- What keeps the two participants of a serial-explicit scheme in step, so that the value that a Take reads is always
-- the one that the partner posted last. The project's own.
use Rattle.std.specs.Prelude.{◌≡◌, ◌+◌, ◌^◌, ◌≤◌, max, true}
use Rattle.pair_core.specs.Kept.{KeptSide, Kept}

-- the posts of the two, and what a Take of either has waited for
pub record AreInStep (first second : KeptSide) : Type 0 where
  pub first_ahead : first.posts ≤ second.posts + 1
  pub second_ahead : second.posts ≤ max first.posts 1
  pub first_took : first.taken ≡ true → first.posts ≤ second.posts
  pub second_took : second.taken ≡ true → second.posts + 1 ≤ first.posts

-- what is kept of a coupling of 1 to 10^6 windows
pub record IsKept (kept : Kept) : Type 0 where
  pub some_window : 1 ≤ kept.windows
  pub windows_within : kept.windows ≤ 10 ^ 6
  pub first_within : kept.first.posts ≤ kept.windows + 1
  pub second_within : kept.second.posts ≤ kept.windows + 1
  pub in_step : AreInStep kept.first kept.second
