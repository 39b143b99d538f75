-- Which event a participant may ask for, and what it may give: that of its place, or a Stop or an End. The order is that of the coupling documentation's usual loop.
use Rattle.std.specs.Prelude.{◌≡◌, ℕ, ◌<◌, false, IsTrue, length}
use Rattle.cpl_plan.specs.declared.parts.PlanParts.{PlanParts}
use Rattle.coupled_loop.specs.CoreState.{Place, sending, collecting, opening, taking, within, judging, has_ended, look_in}
use Rattle.coupled_loop.specs.CoreStep.{sends_meshes, takes_meshes, posts, takes, judges, stops, lacks_memory, ends, is_cut}
use Rattle.wave_coupling.specs.Coupling.{wave_frame}
use Rattle.core_sides.specs.CoreWords.{WaveState, WaveAct}
use Rattle.core_sides.specs.PostedMeshes.{AreProvided}
use Rattle.core_sides.specs.FittingPosts.{IsInitialPost, IsWindowPost}

-- the event is of the kind that comes next at the place, and what it gives fits
abbrev pub FitsAt : PlanParts → WaveState → (part : ℕ) → Place → WaveAct → Type 0
FitsAt plan sides part place (stops fault) = Unit {0}
FitsAt plan sides part place lacks_memory = Unit {0}
FitsAt plan sides part place ends = Unit {0}
FitsAt plan sides part place is_cut = Unit {0}
FitsAt plan sides part sending (sends_meshes meshes) = AreProvided plan part meshes
FitsAt plan sides part collecting takes_meshes = Unit {0}
FitsAt plan sides part opening (posts post) = IsInitialPost plan sides part post
FitsAt plan sides part (taking w k) takes = IsTrue ((wave_frame plan).is_there (look_in sides) w)
FitsAt plan sides part (within w k) (posts post) = IsWindowPost plan sides part w post
FitsAt plan sides part (judging scheme w k) judges = Unit {0}
FitsAt plan sides part _ _ = ⊥

-- a participant that has not ended may ask for this
pub record IsFitting (plan : PlanParts) (sides : WaveState) (part : ℕ) (act : WaveAct) : Type 0 where
  pub participant : part < length plan.parts
  pub running : has_ended (sides part) ≡ false
  pub fits : FitsAt plan sides part (sides part).place act
