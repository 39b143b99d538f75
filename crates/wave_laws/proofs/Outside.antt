-- What has no number of a participant stays as it is, in the loop and in each schedule.
use Rattle.std.proofs.Common.{◌≡◌, ℕ, zero, suc, ◌+◌, ◌<◌, Bool, true, false, if◌then◌else◌, List, [], ◌∷◌, fold, is_some, refl, ap, sym, subst, ◌∙◌, Contains}
use Rattle.plan_order.specs.declared.node.Node.{Node}
use Rattle.plan_order.specs.declared.node.Node.TheVariants.{Single, Group}
use Rattle.plan_order.proofs.Loops.{head_in, tail_in}
use Rattle.coupled_loop.specs.Numbered.{put}
use Rattle.coupled_loop.specs.Endings.{faulted, cut, Judgement, again, converged, at_limit, refused}
use Rattle.coupled_loop.specs.Frames.{Frame}
use Rattle.coupled_loop.specs.Solving.{Solvers, hears_judgement, solves}
use Rattle.coupled_loop.specs.CoupledLoop.{Parts, look_at, stops_with, completes_window, opened, is_provided, solved, turn, turns, have_posted, hear, after_judging, after_turns, iterate, node_does, go_on_if, go_through, coupled}
use Rattle.coupled_loop.specs.Schedules.{Actors, Entry, participant_of, opening_actors, Leads, IsSchedule}
use Rattle.core_laws.proofs.Puts.{put_other}
use Rattle.core_laws.proofs.EachDoes.{each_does_out}
use Rattle.core_laws.proofs.Sound.{IsSound, parts_in}

module _ {Mesh Post Inputs Fault State Run Note : Type 0} (frame : Frame Post Inputs Fault) (solvers : Solvers Mesh Post Inputs Fault State Run Note)
    (other : ℕ) (off : ¬ (other < frame.parts)) where
  -- all of these are participants
  abbrev AreParts : List ℕ → Type 0
  AreParts members = (member : ℕ) → Contains members member → member < frame.parts

  not_among : (members : List ℕ) → AreParts members → ¬ Contains members other
  not_among members are inside = off (are other inside)

  turn_off : (w k : ℕ) (parts : Parts Mesh Post Fault State Note) (member : ℕ) → member < frame.parts → turn frame solvers w k parts member other ≡ parts other
  turn_off w k parts member is_part = by (is_some (parts member).stopped)
    where
      by : (b : Bool)
          → (if b then parts else
          put parts member
          (if is_provided frame solvers parts member w k then
          solved frame solvers w k (parts member).given (solves solvers member w k (frame.inputs (look_at parts) member w k) (parts member).held)
          else stops_with cut (parts member))) other ≡ parts other
      by true = refl
      by false = put_other parts member _ other (λ same. off (subst (λ (n : ℕ). n < frame.parts) (sym same) is_part))

  turns_off : (w k : ℕ) (members : List ℕ) (parts : Parts Mesh Post Fault State Note) → AreParts members → turns frame solvers w k members parts other ≡ parts other
  turns_off w k [] parts are = refl
  turns_off w k (member ∷ rest) parts are =
      turns_off w k rest (turn frame solvers w k parts member) (λ one inside. are one (tail_in member rest one inside))
      ∙ turn_off w k parts member (are member (head_in member rest))

  judging_off : (more : Parts Mesh Post Fault State Note → Parts Mesh Post Fault State Note) (members : List ℕ) (w k : ℕ) (judgement : Judgement Fault) (parts : Parts Mesh Post Fault State Note)
      → AreParts members → ((before : Parts Mesh Post Fault State Note) → more before other ≡ before other) → after_judging frame solvers more members w k judgement parts other ≡ parts other
  judging_off more members w k again parts are same = same parts
  judging_off more members w k converged parts are same = each_does_out (λ member. completes_window w k) members parts other (not_among members are)
  judging_off more members w k at_limit parts are same = each_does_out (λ member. completes_window w k) members parts other (not_among members are)
  judging_off more members w k (refused fault) parts are same = each_does_out (λ member. stops_with (faulted fault)) members parts other (not_among members are)

  after_off : (more : Parts Mesh Post Fault State Note → Parts Mesh Post Fault State Note) (scheme w k : ℕ) (parts : Parts Mesh Post Fault State Note) (all : Bool)
      → AreParts (frame.members scheme) → ((before : Parts Mesh Post Fault State Note) → more before other ≡ before other) → after_turns frame solvers more scheme w k parts all other ≡ parts other
  after_off more scheme w k parts true are same =
      judging_off more (frame.members scheme) w k (frame.judge (look_at parts) scheme w k)
      (hear frame solvers (frame.members scheme) w k (frame.judge (look_at parts) scheme w k) parts) are same
      ∙ each_does_out (λ member part. record part { held = hears_judgement solvers member w k (frame.judge (look_at parts) scheme w k) part.held }) (frame.members scheme) parts other
      (not_among (frame.members scheme) are)
  after_off more scheme w k parts false are same = each_does_out (λ member. stops_with cut) (frame.members scheme) parts other (not_among (frame.members scheme) are)

  iterate_off : (scheme w k iterations : ℕ) (parts : Parts Mesh Post Fault State Note) → AreParts (frame.members scheme) → iterate frame solvers scheme w k iterations parts other ≡ parts other
  iterate_off scheme w k zero parts are = refl
  iterate_off scheme w k (suc iterations) parts are =
      after_off (iterate frame solvers scheme w (k + 1) iterations) scheme w k (turns frame solvers w k (frame.members scheme) parts)
      (have_posted frame solvers (turns frame solvers w k (frame.members scheme) parts) (frame.members scheme) w k) are (λ before. iterate_off scheme w (k + 1) iterations before are)
      ∙ turns_off w k (frame.members scheme) parts are

  node_off : (w : ℕ) (parts : Parts Mesh Post Fault State Note) (node : Node) → AreParts (parts_in frame node) → node_does frame solvers w parts node other ≡ parts other
  node_off w parts (Single part) are =
      each_does_out (λ single. completes_window w 1) (part ∷ []) (turn frame solvers w 1 parts part) other (not_among (part ∷ []) are)
      ∙ turn_off w 1 parts part (are part (head_in part []))
  node_off w parts (Group scheme) are = iterate_off scheme w 1 (frame.most_iterations scheme) parts are

  nodes_off : (w : ℕ) (nodes : List Node) (parts : Parts Mesh Post Fault State Note) → ((node : Node) → Contains nodes node → AreParts (parts_in frame node))
      → fold (node_does frame solvers w) parts nodes other ≡ parts other
  nodes_off w [] parts are = refl
  nodes_off w (node ∷ rest) parts are =
      nodes_off w rest (node_does frame solvers w parts node) (λ one inside. are one (tail_in node rest one inside)) ∙ node_off w parts node (are node (head_in node rest))

  windows_off : ((node : Node) → Contains frame.nodes node → AreParts (parts_in frame node)) → (w windows : ℕ) (parts : Parts Mesh Post Fault State Note)
      → go_through frame solvers w windows parts other ≡ parts other
  windows_off are w zero parts = refl
  windows_off are w (suc windows) parts =
      elim (frame.is_there (look_at parts) w) as (λ b. go_on_if frame solvers b (λ before. go_through frame solvers (w + 1) windows (fold (node_does frame solvers w) before frame.nodes)) parts other ≡ parts other) [
        | true ↦ windows_off are (w + 1) windows (fold (node_does frame solvers w) parts frame.nodes) ∙ nodes_off w frame.nodes parts are
        | false ↦ refl
      ]

  -- the loop leaves it as it was at first
  pub loop_off : IsSound frame → coupled frame solvers other ≡ opened frame solvers other
  loop_off sound =
      windows_off (λ node stands member inside. (sound.of_node node member stands inside).0) 1 frame.most_windows (opened frame solvers)

  leads_off : (schedule : List Entry) (from to : Actors Mesh Post Fault State Run Note) → Leads frame solvers from schedule to → to other ≡ from other
  leads_off [] from to leads = ap (λ (s : Actors Mesh Post Fault State Run Note). s other) (sym leads)
  leads_off (entry ∷ rest) from to leads =
      leads_off rest (put from (participant_of entry) leads.0) to leads.3
      ∙ put_other from (participant_of entry) leads.0 other (λ same. off (subst (λ (n : ℕ). n < frame.parts) (sym same) leads.1))

  -- and so does each schedule
  pub schedule_off : (schedule : List Entry) (actors : Actors Mesh Post Fault State Run Note) → IsSchedule frame solvers schedule actors → actors other ≡ opening_actors frame solvers other
  schedule_off schedule actors is = leads_off schedule (opening_actors frame solvers) actors is
