-- A window: its nodes in order, each a row of entries.
use Rattle.std.proofs.Common.{◌≡◌, ℕ, ◌+◌, ◌-◌, ◌<◌, ◌≤◌, inl, inr, true, List, [], ◌∷◌, ◌++◌, fold, None, refl, sym, ap, subst, ◌∙◌, arith, Contains}
use Rattle.std.proofs.lemmas.List.{append-nil}
use Rattle.plan_order.proofs.Loops.{head_in, tail_in}
use Rattle.plan_order.proofs.Orders.{none_in_nil}
use Rattle.plan_order.specs.declared.node.Node.{Node}
use Rattle.plan_order.specs.declared.node.Node.TheVariants.{Single, Group}
use Rattle.cpl_plan.specs.declared.words.Item.TheVariants.{Completed}
use Rattle.coupled_loop.specs.Frames.{Frame}
use Rattle.coupled_loop.specs.CoreState.{taking}
use Rattle.coupled_loop.specs.Solving.{Solvers}
use Rattle.coupled_loop.specs.CoupledLoop.{Parts, node_does}
use Rattle.coupled_loop.specs.Schedules.{Actor, Actors, next}
use Rattle.coupled_loop.specs.Settled.{IsSettled}
use Rattle.core_laws.proofs.Sound.{IsSound, node_of, parts_in}
use Rattle.core_laws.proofs.Nets.{goes_joined}
use Rattle.core_laws.proofs.Members.{in_last, in_middle, one_further}
use Rattle.core_laws.proofs.Views.{IsAt, look_of, IsWellNow, GoesTo, view, Gives, gives_still, goes_stay_well}
use Rattle.core_laws.proofs.Standing.{IsServedSoFar, completed_at, there_still}
use Rattle.core_laws.proofs.Judging.{AllAt}
use Rattle.core_laws.proofs.Groups.{iterations_go}
use Rattle.core_laws.proofs.SingleNodes.{NodeGone, single_goes}

module _ {Mesh Post Inputs Fault State Run Note : Type 0} (frame : Frame Post Inputs Fault) (solvers : Solvers Mesh Post Inputs Fault State Run Note) (w : ℕ) where
  -- some nodes of the window are done, the others are not
  pub record IsMidway (actors : Actors Mesh Post Fault State Run Note) (had rest : List Node) : Type 0 where
    pub well : IsWellNow frame solvers actors
    pub windows : (part : ℕ) → part < frame.parts → Gives frame solvers actors part (Completed (w - 1))
    pub passed : (part : ℕ) → part < frame.parts → Contains had (node_of frame part) → IsAt (taking (w + 1) 1) (w + 1) 1 (actors part)
    pub waiting : (part : ℕ) → part < frame.parts → Contains rest (node_of frame part) → IsAt (taking w 1) w 1 (actors part)
    pub there : (part : ℕ) → part < frame.parts → Contains rest (node_of frame part) → (actors part).side.ending ≡ None
        → frame.is_there (look_of frame solvers actors) w ≡ true

  pub record NodesGone (from : Actors Mesh Post Fault State Run Note) (rest : List Node) : Type 0 where
    pub list : List ℕ
    pub to : Actors Mesh Post Fault State Run Note
    pub goes : GoesTo frame solvers from list to
    pub seen : view frame solvers to ≡ fold (node_does frame solvers w) (view frame solvers from) rest
    pub mid : IsMidway to frame.nodes []

  module _ (sound : IsSound frame) (settled : IsSettled frame) (window : 1 ≤ w) where
    module _ (actors : Actors Mesh Post Fault State Run Note) (had rest : List Node) (node : Node) (split : frame.nodes ≡ had ++ node ∷ rest)
        (mid : IsMidway actors had (node ∷ rest)) where
      is_node : Contains frame.nodes node
      is_node = subst (λ (ns : List Node). Contains ns node) (sym split) (in_middle had rest node)

      once : (¬ Contains had node) × (¬ Contains rest node)
      once = sound.nodes_once had rest node split

      served : IsServedSoFar frame solvers actors w had
      served = record {
        windows = mid.windows;
        nodes = λ part is_part inside.
            let same : (w + 1) - 1 ≡ w = omega arith in
            subst (λ (v : ℕ). Gives frame solvers actors part (Completed v)) same
            (completed_at frame solvers actors mid.well part (w + 1) 1 (w + 1) 1 (mid.passed part is_part inside));
      }

      -- a participant of the node
      own : (part : ℕ) → Contains (parts_in frame node) part → (part < frame.parts) × Contains (node ∷ rest) (node_of frame part)
      own part inside =
          let of = sound.of_node node part is_node inside in
          (of.0, subst (λ (one : Node). Contains (node ∷ rest) one) (sym of.1) (head_in node rest))

      own_waits : (part : ℕ) → Contains (parts_in frame node) part → IsAt (taking w 1) w 1 (actors part)
      own_waits part inside = mid.waiting part (own part inside).0 (own part inside).1

      own_there : (part : ℕ) → Contains (parts_in frame node) part → (actors part).side.ending ≡ None → frame.is_there (look_of frame solvers actors) w ≡ true
      own_there part inside = mid.there part (own part inside).0 (own part inside).1

      -- a participant of another node is not of this one
      other_node : (part : ℕ) (nodes : List Node) → ¬ Contains nodes node → Contains nodes (node_of frame part) → ¬ Contains (parts_in frame node) part
      other_node part nodes none inside own_part =
          none (subst (λ (one : Node). Contains nodes one) (sound.of_node node part is_node own_part).1 inside)

      module _ (gone : NodeGone frame solvers actors w node (node_does frame solvers w (view frame solvers actors) node)) where
        well_now : IsWellNow frame solvers gone.to
        well_now = goes_stay_well frame solvers sound settled gone.list actors gone.to mid.well gone.goes

        mid_now : IsMidway gone.to (had ++ node ∷ []) rest
        mid_now = record {
          well = well_now;
          windows = λ part is_part. gives_still frame solvers gone.list actors gone.to part (Completed (w - 1)) gone.goes (mid.windows part is_part);
          passed = λ part is_part inside. elim (in_last had node (node_of frame part) inside) [
            | inl earlier ↦ subst (IsAt (taking (w + 1) 1) (w + 1) 1) (sym (gone.apart part (other_node part had once.0 earlier))) (mid.passed part is_part earlier)
            | inr same ↦ gone.at part (subst (λ (one : Node). Contains (parts_in frame one) part) (sym same) (sound.inside part is_part))
          ];
          waiting = λ part is_part inside. subst (IsAt (taking w 1) w 1) (sym (gone.apart part (other_node part rest once.1 inside)))
              (mid.waiting part is_part (tail_in node rest (node_of frame part) inside));
          there = λ part is_part inside going.
              let same = gone.apart part (other_node part rest once.1 inside) in
              let before : (actors part).side.ending ≡ None = subst (λ (a : Actor Mesh Post Fault State Run Note). a.side.ending ≡ None) same going in
              let later = tail_in node rest (node_of frame part) inside in
              there_still frame solvers actors mid.well part w 1 gone.list gone.to well_now gone.goes
              ((mid.waiting part is_part later).stands before).0 (mid.there part is_part later before);
        }

        with_rest : NodesGone gone.to rest → NodesGone actors (node ∷ rest)
        with_rest further = record {
          list = gone.list ++ further.list;
          to = further.to;
          goes = goes_joined frame.parts (next frame solvers) gone.list actors gone.to further.to further.list gone.goes further.goes;
          seen = further.seen ∙ ap (λ (parts : Parts Mesh Post Fault State Note). fold (node_does frame solvers w) parts rest) gone.seen;
          mid = further.mid;
        }

    node_goes : (node : Node) (had rest : List Node) (actors : Actors Mesh Post Fault State Run Note) → frame.nodes ≡ had ++ node ∷ rest → IsMidway actors had (node ∷ rest)
        → NodeGone frame solvers actors w node (node_does frame solvers w (view frame solvers actors) node)
    node_goes (Single part) had rest actors split mid =
        single_goes frame solvers sound w had rest part split actors mid.well (served actors had rest (Single part) split mid)
        (own_waits actors had rest (Single part) split mid part (head_in part [])) window (own_there actors had rest (Single part) split mid part (head_in part []))
    node_goes (Group scheme) had rest actors split mid =
        as_node _ (iterations_go frame solvers scheme w had sound settled rest split window (frame.most_iterations scheme) 1 actors (omega arith) (omega arith) (record {
          well = mid.well;
          served = served actors had rest (Group scheme) split mid;
          taken = λ member inside. absurd (none_in_nil member inside);
          waiting = own_waits actors had rest (Group scheme) split mid;
          there = own_there actors had rest (Group scheme) split mid;
        }))
      where
        as_node : (loop : Parts Mesh Post Fault State Note) → AllAt frame solvers scheme w had actors (taking (w + 1) 1) (w + 1) 1 loop → NodeGone frame solvers actors w (Group scheme) loop
        as_node loop all = record { list = all.list; to = all.to; goes = all.goes; apart = all.apart; seen = all.seen; at = all.at }

    pub nodes_go : (rest had : List Node) (actors : Actors Mesh Post Fault State Run Note) → frame.nodes ≡ had ++ rest → IsMidway actors had rest → NodesGone actors rest
    nodes_go [] had actors split mid =
        record { list = []; to = actors; goes = refl; seen = refl; mid = subst (λ (ns : List Node). IsMidway actors ns []) (sym (split ∙ append-nil had)) mid }
    nodes_go (node ∷ rest) had actors split mid =
        let gone = node_goes node had rest actors split mid in
        with_rest actors had rest node split mid gone
        (nodes_go rest (had ++ node ∷ []) gone.to (split ∙ one_further had rest node) (mid_now actors had rest node split mid gone))
