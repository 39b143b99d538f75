-- The frame of a plan, for whatever is exchanged. The project's own, after the coupling documentation's configuration.
use Rattle.std.specs.Prelude.{ℕ, zero, suc, ◌-◌, Bool, List, [], ◌++◌, length, filter_map, slice_get, Option, option_map, option_to_list, option_and_then}
use Rattle.std.specs.Option.{option_map_or}
use Rattle.plan_order.specs.NodeOrder.{first_member}
use Rattle.cpl_plan.specs.Needs.{needs}
use Rattle.cpl_plan.specs.Windows.{is_window}
use Rattle.cpl_plan.specs.declared.parts.PlanParts.{PlanParts}
use Rattle.cpl_plan.specs.declared.words.Item.TheVariants.{Completed}
use Rattle.coupled_loop.specs.Given.{Look}
use Rattle.coupled_loop.specs.Endings.{Judgement}
use Rattle.coupled_loop.specs.Frames.{Frame}

-- what is exchanged: the newest time in a post, the inputs of a participant and the judgement of a scheme by what was given
pub record Exchanged (Post Inputs Fault : Type 0) : Type 0 where
  pub newest : Post → ℕ
  pub inputs : Look Post → (part w k : ℕ) → Inputs
  pub judge : Look Post → (scheme w k : ℕ) → Judgement Fault

-- the owners of the meshes that a participant receives
abbrev pub owners_of : PlanParts → (part : ℕ) → List ℕ
owners_of plan part =
    option_map_or (λ p. filter_map (λ mesh. option_map (λ m. m.owner) (slice_get plan.meshes mesh)) p.receives) (slice_get plan.parts part) []

abbrev pub group_of : PlanParts → (part : ℕ) → Option ℕ
group_of plan part = option_and_then (λ p. p.group) (slice_get plan.parts part)

abbrev pub members_of : PlanParts → (scheme : ℕ) → List ℕ
members_of plan scheme = option_map_or (λ s. s.members) (slice_get plan.schemes scheme) []

abbrev pub iterations_of : PlanParts → (scheme : ℕ) → ℕ
iterations_of plan scheme = option_map_or (λ s. s.max) (slice_get plan.schemes scheme) 0

-- whose steps make the windows, where they are made by steps
abbrev pub window_maker : PlanParts → ℕ
window_maker plan = first_member (members_of plan 0)

-- the ends of the first windows, so many, as far as a participant has completed them
abbrev pub ends_made : {Post : Type 0} → (Post → ℕ) → Look Post → (maker windows : ℕ) → List ℕ
ends_made newest look maker zero = []
ends_made newest look maker (suc w) =
    ends_made newest look maker w ++ option_to_list (option_map (λ gift. newest gift.post) (look maker (Completed (suc w))))

-- there is a window w, by the ends of those before it
abbrev pub is_told : {Post : Type 0} → PlanParts → (Post → ℕ) → Look Post → (w : ℕ) → Bool
is_told plan newest look w = is_window plan (ends_made newest look (window_maker plan) (w - 1)) w

abbrev pub frame_of : {Post Inputs Fault : Type 0} → PlanParts → Exchanged Post Inputs Fault → Frame Post Inputs Fault
frame_of plan exchanged = record {
  parts = length plan.parts;
  owners = owners_of plan;
  group = group_of plan;
  members = members_of plan;
  nodes = plan.nodes;
  needs = needs plan;
  most_windows = plan.most_windows;
  most_iterations = iterations_of plan;
  is_there = is_told plan exchanged.newest;
  inputs = exchanged.inputs;
  judge = exchanged.judge;
}
