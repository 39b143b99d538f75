-- What fits at the place where a participant stands, as it is kept.
use Rattle.std.proofs.Common.{◌≡◌, ℕ, sym, subst}
use Rattle.std.specs.Prelude.{IsTrue}
use Rattle.cpl_plan.specs.declared.parts.PlanParts.{PlanParts}
use Rattle.coupled_loop.specs.CoreState.{look_in}
use Rattle.wave_coupling.specs.Coupling.{wave_frame}
use Rattle.wave_coupling.specs.Posts.{Post}
use Rattle.core_sides.specs.Answers.{act_of}
use Rattle.core_sides.specs.CoreWords.{WaveState}
use Rattle.core_sides.specs.Fitting.{FitsAt}
use Rattle.core_sides.specs.FittingPosts.{IsInitialPost, IsWindowPost}
use Rattle.core_sides.specs.SidesStand.{place_of}
use Rattle.core_sides.specs.declared.event.Event.{Event}
use Rattle.core_sides.specs.declared.event.Event.TheVariants.{Post as PostEvent, Take as TakeEvent}
use Rattle.core_sides.specs.declared.standing.Place.{Place as KeptPlace}
use Rattle.core_sides.specs.declared.standing.Place.TheVariants.{Opening, Taking, Within}

module _ (plan : PlanParts) (state : WaveState) (part : ℕ) (place : KeptPlace) (event : Event) where
  fits_so : (other : KeptPlace) (same : Event) → place ≡ other → event ≡ same → FitsAt plan state part (place_of other) (act_of same)
      → FitsAt plan state part (place_of place) (act_of event)
  fits_so other same is_place is_event fits =
      subst (λ (p : KeptPlace). FitsAt plan state part (place_of p) (act_of event)) (sym is_place)
      (subst (λ (e : Event). FitsAt plan state part (place_of other) (act_of e)) (sym is_event) fits)

  pub fits_opening : (post : Post) → place ≡ Opening → event ≡ PostEvent post → IsInitialPost plan state part post → FitsAt plan state part (place_of place) (act_of event)
  fits_opening post is_place is_event fits = fits_so Opening (PostEvent post) is_place is_event fits

  pub fits_within : (w k : ℕ) (post : Post) → place ≡ Within w k → event ≡ PostEvent post → IsWindowPost plan state part w post
      → FitsAt plan state part (place_of place) (act_of event)
  fits_within w k post is_place is_event fits = fits_so (Within w k) (PostEvent post) is_place is_event fits

  pub fits_taking : (w k : ℕ) → place ≡ Taking w k → event ≡ TakeEvent → IsTrue ((wave_frame plan).is_there (look_in state) w)
      → FitsAt plan state part (place_of place) (act_of event)
  fits_taking w k is_place is_event fits = fits_so (Taking w k) TakeEvent is_place is_event fits
