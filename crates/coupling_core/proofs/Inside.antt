-- What is known of a core whose fields are open, and of what it then keeps.
use Rattle.std.proofs.Common.{◌≡◌, ℕ, ◌<◌, List, length, slice_get, Some, Result, sym, ap, subst, ◌∙◌, arith}
use Rattle.cpl_plan.specs.ValidPlan.{IsValidPlan}
use Rattle.cpl_plan.specs.declared.parts.PlanParts.{PlanParts}
use Rattle.cpl_plan.proofs.Readings.{there}
use Rattle.core_sides.specs.CoreWords.{WaveState, WaveAct, WaveEntry}
use Rattle.core_sides.specs.declared.event.Reply.{Reply}
use Rattle.core_sides.specs.declared.event.CoreErr.{CoreErr}
use Rattle.core_sides.specs.declared.standing.Standing.{Standing}
use Rattle.coupling_core.specs.CoreKept.{CoreKept}
use Rattle.coupling_core.specs.OneMore.{MayMake, IsGranted, Answers, Makes}
use Rattle.coupling_core.specs.StandsFor.{StandsFor, IsKept}

module _ (core now : CoreKept) (same : now ≡ core) (kept : IsKept now) where
  pub stands_now : (history : List WaveEntry) (sides : WaveState) → StandsFor now history sides → StandsFor core history sides
  stands_now history sides stands = subst (λ (c : CoreKept). StandsFor c history sides) same stands

  pub kept_so : (after : CoreKept) → after.plan ≡ now.plan → (history : List WaveEntry) (sides : WaveState) → StandsFor after history sides → IsKept after
  kept_so after plan history sides stands = record { valid = subst IsValidPlan (sym plan) kept.valid; history = history; state = sides; stands = stands }

module _ (core now : CoreKept) (same : now ≡ core) (kept : IsKept now) (p : ℕ) (act : WaveAct) where
  pub may_now : MayMake core p act → MayMake now p act
  may_now may = subst (λ (c : CoreKept). MayMake c p act) (sym same) may

  pub granted_now : IsGranted core p → IsGranted now p
  granted_now granted = subst (λ (c : CoreKept). IsGranted c p) (sym same) granted

  pub part_now : MayMake core p act → p < length now.plan.parts
  part_now may = (may_now may kept.history kept.state kept.stands).participant

  pub standing_now : MayMake core p act → p < length now.standings
  standing_now may = let below = part_now may in omega (arith, below, kept.stands.sides.count)

  pub here_now : MayMake core p act → (s : Standing) × (slice_get now.standings p ≡ Some s)
  here_now may = there now.standings p (standing_now may)

  pub answers_core : (answer : Result Reply CoreErr) → Answers now p act answer → Answers core p act answer
  answers_core answer answers = subst (λ (c : CoreKept). Answers c p act answer) same answers

  pub makes_core : (after : CoreKept) → Makes now after p act → Makes core after p act
  makes_core after makes = subst (λ (c : CoreKept). Makes c after p act) same makes

  pub kept_after : (after : CoreKept) → after.plan ≡ now.plan → Makes now after p act → IsKept after
  kept_after after plan makes = record {
    valid = subst IsValidPlan (sym plan) kept.valid;
    history = _;
    state = _;
    stands = makes kept.history kept.state kept.stands;
  }

-- a participant of a core whose fields are open
pub part_there : (core now : CoreKept) → now ≡ core → (p : ℕ) → p < length core.plan.parts → p < length now.plan.parts
part_there core now same p below = subst (λ (k : CoreKept). p < length k.plan.parts) (sym same) below

pub standing_there : (now : CoreKept) → IsKept now → (p : ℕ) → p < length now.plan.parts → p < length now.standings
standing_there now kept p below = omega (arith, below, kept.stands.sides.count)
