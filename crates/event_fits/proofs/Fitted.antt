-- What fits at the place of a participant that has not ended fits.
use Rattle.std.proofs.Common.{◌≡◌, ℕ, ◌<◌, false, length, slice_get, Option, Some, is_some, sym, ap, subst, ◌∙◌}
use Rattle.std.specs.Option.{option_map_or}
use Rattle.cpl_plan.specs.declared.parts.PlanParts.{PlanParts}
use Rattle.coupled_loop.specs.CoreState.{Place}
use Rattle.core_sides.specs.CoreWords.{WaveState, WaveAct}
use Rattle.core_sides.specs.Fitting.{FitsAt, IsFitting}
use Rattle.core_sides.specs.SidesStand.{AreStanding, place_of}
use Rattle.core_sides.specs.declared.sides.Sides.{Sides}
use Rattle.core_sides.specs.declared.standing.Standing.{Standing}
use Rattle.core_sides.proofs.KeptTells.{ended_is}

module _ (plan : PlanParts) (kept : Sides) (p : ℕ) (standing : Standing) (there : slice_get kept.standings.items p ≡ Some standing)
    (participant : p < length plan.parts) (running : is_some standing.ending ≡ false) (act : WaveAct) where
  pub fitted : (state : WaveState) → AreStanding plan kept state → FitsAt plan state p (place_of standing.place) act → IsFitting plan state p act
  fitted state are fits = record {
    participant = participant;
    running = sym (ended_is plan kept state are p) ∙ ap (λ (o : Option Standing). option_map_or (λ s. is_some s.ending) o false) there ∙ running;
    fits = subst (λ (place : Place). FitsAt plan state p place act) (sym (are.each p standing there).place) fits;
  }
