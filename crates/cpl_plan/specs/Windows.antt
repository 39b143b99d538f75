-- Time windows: which there are, where each starts and where it ends. The coupling documentation has windows of one size and windows that the first participant's step makes; whole ticks, and that the last window may be shorter, are the project's own.
use Rattle.std.specs.Prelude.{◌≡◌, ℕ, zero, suc, ◌+◌, ◌*◌, ◌-◌, ◌<◌, ◌≤◌, Bool, false, ◌&&◌, ◌||◌, nat_eq, nat_lt, nat_le, if◌then◌else◌, IsTrue, min, List, ◌∷◌, ◌++◌, length, slice_get, Option, Some, None}
use Rattle.std.specs.Int.{div_ceil}
use Rattle.std.specs.Option.{option_map_or}
use Rattle.cpl_plan.specs.declared.parts.PlanParts.{PlanParts}
use Rattle.cpl_plan.specs.declared.parts.WindowMethod.{WindowMethod}
use Rattle.cpl_plan.specs.declared.parts.WindowMethod.TheVariants.{Fixed, FirstParticipant}

-- how many windows of a size there are: the end time by the size, rounded up
abbrev pub windows_to_reach : (size end_time : ℕ) → ℕ
windows_to_reach size end_time = div_ceil end_time size

-- n is the least number of windows of a size that reach the end time
pub record IsLeastToReach (size end_time n : ℕ) : Type 0 where
  pub reach : end_time ≤ n * size
  pub least : (m : ℕ) → end_time ≤ m * size → n ≤ m

-- where window w starts, counted from 1: after so many windows of the size, or where the window before it was ended
abbrev pub start_by : WindowMethod → (size : ℕ) → List ℕ → (w : ℕ) → Option ℕ
start_by method size ends zero = None
start_by Fixed size ends (suc before) = Some (before * size)
start_by FirstParticipant size ends (suc zero) = Some 0
start_by FirstParticipant size ends (suc (suc before)) = slice_get ends before

-- where it ends: a size later, at the end time at the latest, or where it was ended
abbrev pub end_by : WindowMethod → (size end_time : ℕ) → List ℕ → (w : ℕ) → Option ℕ
end_by Fixed size end_time ends w = Some (min (w * size) end_time)
end_by FirstParticipant size end_time ends w = slice_get ends (w - 1)

-- In all that follows `ends` has, in order, the ends of the windows that the first participant has made; with windows of one size it plays no part.

-- where a window starts; none where it is not told yet
abbrev pub window_start : PlanParts → (ends : List ℕ) → (w : ℕ) → Option ℕ
window_start plan ends w = start_by plan.method plan.window ends w

-- there is a window w: they are not more than the plan has, and it starts before the end time
abbrev pub is_window : PlanParts → (ends : List ℕ) → (w : ℕ) → Bool
is_window plan ends w =
    nat_le w plan.most_windows && option_map_or (λ start. nat_lt start plan.end_time) (window_start plan ends w) false

-- where a window ends; none where it is not there, or has not been ended
abbrev pub window_end : PlanParts → (ends : List ℕ) → (w : ℕ) → Option ℕ
window_end plan ends w = if is_window plan ends w then end_by plan.method plan.window plan.end_time ends w else None

-- the last window is that of the greatest number, or the one that ends at the end time
abbrev pub is_last_window : PlanParts → (ends : List ℕ) → (w : ℕ) → Bool
is_last_window plan ends w =
    is_window plan ends w
    && (nat_eq w plan.most_windows || option_map_or (nat_eq plan.end_time) (window_end plan ends w) false)

-- the latest end of a window that starts then
abbrev pub latest_end : PlanParts → (start : ℕ) → ℕ
latest_end plan start = min (start + plan.window) plan.end_time

-- after windows that ended so, the next one may end then: it is there, it takes some time, and it does not end too late
pub record MayEnd (plan : PlanParts) (ends : List ℕ) (end : ℕ) : Type 0 where
  pub start : ℕ
  pub starts : window_start plan ends (length ends + 1) ≡ Some start
  pub there : IsTrue (is_window plan ends (length ends + 1))
  pub later : start < end
  pub in_time : end ≤ latest_end plan start

-- ends that were made one after another
abbrev pub AreMade : PlanParts → (ends : List ℕ) → Type 0
AreMade plan ends = (before after : List ℕ) (end : ℕ) → ends ≡ before ++ end ∷ after → MayEnd plan before end
