-- What the place of a participant tells of its turn, in a state that fitting events come to.
use Rattle.std.proofs.Common.{◌≡◌, ℕ, ◌+◌, ◌<◌, true, not, List, length, find, slice_get, Some, None, IsTrue, option_map, ap, subst, arith}
use Rattle.cpl_plan.specs.ValidPlan.{IsValidPlan}
use Rattle.cpl_plan.specs.declared.parts.PlanParts.{PlanParts}
use Rattle.cpl_plan.specs.declared.parts.Scheme.{Scheme}
use Rattle.coupled_loop.specs.CoreState.{Place, taking, judging, look_in, turn_at}
use Rattle.coupled_loop.specs.CoreStep.{asked_at, is_granted, waits_for}
use Rattle.coupled_loop.specs.Settled.{IsInOrder, IsProvided, HavePostedBelow}
use Rattle.core_laws.proofs.GoodMoves.{positive}
use Rattle.core_laws.proofs.Steps.{needs_told, posted_up_to}
use Rattle.core_laws.proofs.Well.{Stands}
use Rattle.wave_coupling.specs.Coupling.{wave_frame}
use Rattle.wave_laws.specs.Fitting.{IsRelaxedBelow}
use Rattle.wave_laws.proofs.JudgementsStay.{repeated_relaxed}
use Rattle.wave_laws.proofs.Settling.{wave_settled}
use Rattle.wave_values.specs.Turns.{IsRelaxedBy}
use Rattle.core_sides.specs.CoreWords.{WaveState, WaveEntry}
use Rattle.core_sides.specs.Reached.{IsReached}
use Rattle.core_sides.proofs.Aligned.{IsTold}
use Rattle.core_sides.proofs.AsksTell.{all_granted}
use Rattle.core_sides.proofs.Histories.{reached_told}

-- who waits for nobody is granted what it asks for
pub granted_at : (plan : PlanParts) (sides : WaveState) (part : ℕ) (place : Place) → (sides part).place ≡ place → waits_for (wave_frame plan) sides part ≡ None
    → is_granted (wave_frame plan) sides part place ≡ true
granted_at plan sides part place at none = all_granted (asked_at (wave_frame plan) sides part place)
    (subst (λ (p : Place). option_map (λ one. one.0) (find (λ one. not one.1) (asked_at (wave_frame plan) sides part p)) ≡ None) at none)

module _ (plan : PlanParts) (valid : IsValidPlan plan) (history : List WaveEntry) (sides : WaveState) (reached : IsReached plan history sides) where
  pub reached_so : IsTold (wave_frame plan) sides
  reached_so = reached_told plan history sides valid (wave_settled plan valid) reached

  pub stands_at : (part : ℕ) (place : Place) → (sides part).place ≡ place → Stands (wave_frame plan) (look_in sides) part place (sides part).given
  stands_at part place at = subst (λ (p : Place). Stands (wave_frame plan) (look_in sides) part p (sides part).given) at (reached_so.well.stands part)

  -- all give in order
  pub reached_in_order : IsInOrder (look_in sides)
  reached_in_order = reached_so.well.in_order

  -- who takes its inputs, and waits for nobody, may begin its turn
  pub taking_provided : (part w k : ℕ) → (sides part).place ≡ taking w k → IsTrue ((wave_frame plan).is_there (look_in sides) w)
      → waits_for (wave_frame plan) sides part ≡ None → IsProvided (wave_frame plan) (look_in sides) part w k
  taking_provided part w k at there none =
      let before = (stands_at part (taking w k) at).0 in
      record {
        window = there;
        iteration = positive (wave_frame plan) ((wave_frame plan).group part) k before.iteration;
        before = before.completed;
        needed = needs_told (wave_frame plan) sides part w k there (granted_at plan sides part (taking w k) at none);
        group = before.group;
      }

  -- where who judges waits for nobody, all members have posted this iteration and those before it
  pub judging_posted : (part scheme w k : ℕ) → (sides part).place ≡ judging scheme w k → waits_for (wave_frame plan) sides part ≡ None
      → HavePostedBelow (wave_frame plan) (look_in sides) scheme w (k + 1)
  judging_posted part scheme w k at none member j among first below =
      let stands = stands_at part (judging scheme w k) at in
      posted_up_to (wave_frame plan) sides part scheme w k (granted_at plan sides part (judging scheme w k) at none) (stands.1.group scheme stands.0)
      member j among first (omega (arith, below))

  -- the iterations before a participant's turn were relaxed, with no value out of range
  pub turn_relaxed : (part w k : ℕ) → part < length plan.parts → turn_at (sides part).place ≡ (w, k) → IsRelaxedBy plan (look_in sides) part w k
  turn_relaxed part w k below at number scheme grouped stands j first before =
      repeated_relaxed plan (look_in sides) number w j scheme stands ((reached_so.aligned.each part below).passed number w k j grouped at first before).so

  pub taking_relaxed : (part w k : ℕ) → part < length plan.parts → (sides part).place ≡ taking w k → IsRelaxedBy plan (look_in sides) part w k
  taking_relaxed part w k below at = turn_relaxed part w k below (ap turn_at at)

  pub judging_relaxed : (part number w k : ℕ) (scheme : Scheme) → part < length plan.parts → (sides part).place ≡ judging number w k
      → slice_get plan.schemes number ≡ Some scheme → IsRelaxedBelow plan (look_in sides) scheme w k
  judging_relaxed part number w k scheme below at stands =
      turn_relaxed part w k below (ap turn_at at) number scheme (stands_at part (judging number w k) at).0 stands
