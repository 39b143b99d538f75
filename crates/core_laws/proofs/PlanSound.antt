-- The frame of a valid plan is sound.
use Rattle.std.proofs.Common.{ℕ, ◌+◌, ◌-◌, inl, inr, List, [], ◌∷◌, refl, sym, subst, ◌∙◌, arith, Contains}
use Rattle.plan_order.specs.declared.node.Node.{Node}
use Rattle.plan_order.specs.declared.node.Node.TheVariants.{Single, Group}
use Rattle.plan_order.specs.NodeOrder.{first_member}
use Rattle.plan_order.proofs.Loops.{head_in, in_cons}
use Rattle.plan_order.proofs.Orders.{none_in_nil}
use Rattle.cpl_plan.specs.PlanNodes.{node_members}
use Rattle.cpl_plan.specs.ValidPlan.{IsValidPlan}
use Rattle.cpl_plan.specs.declared.parts.PlanParts.{PlanParts}
use Rattle.cpl_plan.proofs.FixedWindows.{window_number}
use Rattle.cpl_plan.proofs.PlanNodesOnce.{only_participants}
use Rattle.coupled_loop.specs.PlanFrames.{Exchanged, frame_of, group_of, ends_made, window_maker}
use Rattle.core_laws.proofs.Sound.{node_by, parts_in, IsSound}
use Rattle.core_laws.proofs.PlanPlaces.{node_is, own_node, node_placed, node_filled, group_members, nodes_once, members_once, has_some_iterations, owners_are, alone_in}
use Rattle.core_laws.proofs.PlanNeeds.{is_asked, needs_are}
use Rattle.core_laws.proofs.PlanWindows.{next_is_told}

module _ {Post Inputs Fault : Type 0} (plan : PlanParts) (exchanged : Exchanged Post Inputs Fault) (valid : IsValidPlan plan) where
  -- the members of a node are its participants in the frame
  members_inside : (node : Node) (p : ℕ) → Contains (node_members plan node) p → Contains (parts_in (frame_of plan exchanged) node) p
  members_inside (Single q) p inside = subst (λ (n : ℕ). Contains (q ∷ []) n) (alone_in plan valid q p inside) (head_in q [])
  members_inside (Group s) p inside = subst (λ (ns : List ℕ). Contains ns p) (group_members plan valid s p inside) inside

  inside_members : (node : Node) (p : ℕ) → Contains plan.nodes node → Contains (parts_in (frame_of plan exchanged) node) p → Contains (node_members plan node) p
  inside_members (Single q) p stands inside =
      let own = node_filled plan valid (Single q) stands in
      elim (in_cons q [] p inside) [
        | inl same ↦
            subst (λ (n : ℕ). Contains (node_members plan (Single q)) n) (sym (alone_in plan valid q (first_member (node_members plan (Single q))) own) ∙ same) own
        | inr none ↦ absurd (none_in_nil p none)
      ]
  inside_members (Group s) p stands inside =
      let own = node_filled plan valid (Group s) stands in
      subst (λ (ns : List ℕ). Contains ns p) (sym (group_members plan valid s (first_member (node_members plan (Group s))) own)) inside

  pub frame_sound : IsSound (frame_of plan exchanged)
  frame_sound = record {
    some_windows = valid.sizes.windows.0;
    nodes_once = λ before after node is. nodes_once plan valid before after node is;
    placed = λ part below. node_placed plan valid part below;
    inside = λ part below. members_inside (node_by part (group_of plan part)) part (own_node plan valid part below);
    of_node = λ node part stands inside.
        let own = inside_members node part stands inside in (only_participants plan valid node part own, node_is plan valid node part own);
    members_once = λ scheme before after part stands is. members_once plan valid scheme before after part is;
    iterations = λ scheme stands.
        has_some_iterations plan valid scheme (first_member (node_members plan (Group scheme))) (node_filled plan valid (Group scheme) stands);
    owners = λ part owner below inside. owners_are plan valid part owner inside;
    owners_of_needs = λ part w k need below inside. (is_asked plan part w k need inside).1;
    needs = λ part w k need below window iteration inside. needs_are plan valid exchanged part w k need below inside;
    bounded = λ f w is. window_number plan (ends_made exchanged.newest f (window_maker plan) (w - 1)) w is;
    first_told = λ f g. refl;
    next_told = λ f g part w k below extends order order' there given is.
        next_is_told plan valid exchanged.newest f g part w k below extends order given is (w + 1 - 1) (omega arith);
  }

pub plan_sound : {Post Inputs Fault : Type 0} (plan : PlanParts) (exchanged : Exchanged Post Inputs Fault) → IsValidPlan plan → IsSound (frame_of plan exchanged)
plan_sound plan exchanged valid = frame_sound plan exchanged valid
