-- Where participants stand in a window tells what they have given, or that they have ended.
use Rattle.std.proofs.Common.{◌≡◌, ℕ, ◌-◌, ◌<◌, ◌≤◌, ◌⊎◌, inl, inr, true, List, ◌∷◌, ◌++◌, Option, Some, None, IsSome, is_some, refl, sym, ap, subst, ◌∙◌, arith, Contains}
use Rattle.plan_order.specs.declared.node.Node.{Node}
use Rattle.plan_order.specs.declared.node.Node.TheVariants.{Single, Group}
use Rattle.cpl_plan.specs.declared.words.Need.{Need}
use Rattle.cpl_plan.specs.declared.words.Item.{Item}
use Rattle.cpl_plan.specs.declared.words.Item.TheVariants.{Completed, Posted}
use Rattle.coupled_loop.specs.Given.{Gift}
use Rattle.coupled_loop.specs.Endings.{Ending}
use Rattle.coupled_loop.specs.Frames.{Frame}
use Rattle.coupled_loop.specs.CoreState.{Place, taking, judging}
use Rattle.coupled_loop.specs.Solving.{Solvers}
use Rattle.coupled_loop.specs.Schedules.{Actors}
use Rattle.core_laws.proofs.Sound.{IsSound, node_of, node_by, IsOfEarlierNode, IsOfEarlierMember}
use Rattle.core_laws.proofs.Well.{Stands}
use Rattle.core_laws.proofs.Members.{same_before}
use Rattle.core_laws.proofs.Views.{PostedBefore, IsAt, look_of, IsWellNow, GoesTo, Gives, gives_still, goes_extends}
use Rattle.core_laws.proofs.TurnOutcomes.{IsServed}

-- of which scheme a participant is, by its node
pub group_is : (part scheme : ℕ) (group : Option ℕ) → node_by part group ≡ Group scheme → group ≡ Some scheme
group_is part scheme None is = cc
group_is part scheme (Some other) is = let same : other ≡ scheme = cc in ap Some same

pub alone_is : (part one : ℕ) (group : Option ℕ) → node_by part group ≡ Single one → (group ≡ None) × (part ≡ one)
alone_is part one None is = (refl, cc)
alone_is part one (Some other) is = cc

-- what was posted before a turn was posted before a later one
pub posted_longer : {Post : Type 0} (given : List (Gift Post)) (w k v j : ℕ) → (w < v) ⊎ ((w ≡ v) × (k ≤ j)) → PostedBefore given w k → PostedBefore given v j
posted_longer given w k v j later before u i posted = by later (before u i posted) where
  by : (w < v) ⊎ ((w ≡ v) × (k ≤ j)) → (u < w) ⊎ ((u ≡ w) × (i < k)) → (u < v) ⊎ ((u ≡ v) × (i < j))
  by (inl less) (inl below) = inl (omega arith)
  by (inl less) (inr (same, below)) = inl (omega arith)
  by (inr (same, le)) (inl below) = inl (omega arith)
  by (inr (same, le)) (inr (same', below)) = inr (same' ∙ same, omega arith)

module _ {Mesh Post Inputs Fault State Run Note : Type 0} (frame : Frame Post Inputs Fault) (solvers : Solvers Mesh Post Inputs Fault State Run Note) where
  module _ (actors : Actors Mesh Post Fault State Run Note) (well : IsWellNow frame solvers actors) (part : ℕ) where
    pub stands_at : (place : Place) → (actors part).side.place ≡ place → Stands frame (look_of frame solvers actors) part place (actors part).side.given
    stands_at place at = subst (λ (p : Place). Stands frame (look_of frame solvers actors) part p (actors part).side.given) at (well.stands part)

    -- who has ended, or has given something where it has not
    ended_or : (item : Item) → ((actors part).side.ending ≡ None → IsSome (look_of frame solvers actors part item)) → Gives frame solvers actors part item
    ended_or item given = by (actors part).side.ending refl where
      by : (ending : Option (Ending Fault)) → (actors part).side.ending ≡ ending → Gives frame solvers actors part item
      by (Some ending) is = inl (ap is_some is)
      by None is = inr (given is)

    pub completed_at : (w k v j : ℕ) → IsAt (taking w k) v j (actors part) → Gives frame solvers actors part (Completed (w - 1))
    completed_at w k v j at = ended_or (Completed (w - 1)) (λ going. (stands_at (taking w k) (at.stands going).0).0.completed)

    pub posted_at : (scheme w k v j : ℕ) → IsAt (judging scheme w k) v j (actors part) → Gives frame solvers actors part (Posted w k)
    posted_at scheme w k v j at = ended_or (Posted w k) (λ going. (stands_at (judging scheme w k) (at.stands going).0).3)

    pub unposted_at : (w k : ℕ) → IsAt (taking w k) w k (actors part) → PostedBefore (actors part).side.given w k
    unposted_at w k at = by (actors part).side.ending refl where
      by : (ending : Option (Ending Fault)) → (actors part).side.ending ≡ ending → PostedBefore (actors part).side.given w k
      by (Some ending) is = at.posted ending is
      by None is = (stands_at (taking w k) (at.stands is).0).1

    -- a window that is there for one that stands before it stays there
    pub there_still : (w k : ℕ) (list : List ℕ) (to : Actors Mesh Post Fault State Run Note) → IsWellNow frame solvers to → GoesTo frame solvers actors list to
        → (actors part).side.place ≡ taking w k → frame.is_there (look_of frame solvers actors) w ≡ true → frame.is_there (look_of frame solvers to) w ≡ true
    there_still w k list to well' goes at there =
        sym ((stands_at (taking w k) at).0.decided (look_of frame solvers to) (goes_extends frame solvers list actors to goes) well'.in_order) ∙ there

  -- what is given before the turns of a node in window w, unless its owner has ended
  pub record IsServedSoFar (actors : Actors Mesh Post Fault State Run Note) (w : ℕ) (before : List Node) : Type 0 where
    pub windows : (part : ℕ) → part < frame.parts → Gives frame solvers actors part (Completed (w - 1))
    pub nodes : (part : ℕ) → part < frame.parts → Contains before (node_of frame part) → Gives frame solvers actors part (Completed w)

  pub served_still : (list : List ℕ) (from to : Actors Mesh Post Fault State Run Note) (w : ℕ) (before : List Node) → GoesTo frame solvers from list to
      → IsServedSoFar from w before → IsServedSoFar to w before
  served_still list from to w before goes served = record {
    windows = λ part is_part. gives_still frame solvers list from to part (Completed (w - 1)) goes (served.windows part is_part);
    nodes = λ part is_part inside. gives_still frame solvers list from to part (Completed w) goes (served.nodes part is_part inside);
  }

  module _ (sound : IsSound frame) (actors : Actors Mesh Post Fault State Run Note) (part w k : ℕ) where
    -- a turn's needs are given, or their owners have ended
    pub is_served : (before after : List Node) → part < frame.parts → 1 ≤ w → 1 ≤ k → frame.nodes ≡ before ++ node_of frame part ∷ after
        → IsServedSoFar actors w before
        → ((need : Need) → IsOfEarlierMember frame part w k need → Gives frame solvers actors need.owner (Posted w k))
        → IsServed frame solvers actors part w k
    is_served before after is_part window iteration stands served early need inside =
        by (sound.needs part w k need is_part window iteration inside)
      where
        is_owner : need.owner < frame.parts
        is_owner = sound.owners_of_needs part w k need is_part inside

        as_item : (item : Item) → need.item ≡ item → Gives frame solvers actors need.owner item → Gives frame solvers actors need.owner need.item
        as_item item is gives = subst (Gives frame solvers actors need.owner) (sym is) gives

        of_node : IsOfEarlierNode frame part w need → Gives frame solvers actors need.owner need.item
        of_node earlier =
            let here = sound.nodes_once before after (node_of frame part) stands in
            let there = sound.nodes_once earlier.before earlier.after (node_of frame part) earlier.stands in
            let same : earlier.before ≡ before =
            same_before earlier.before before earlier.after after (node_of frame part) there.0 here.0 (sym earlier.stands ∙ stands) in
            as_item (Completed w) earlier.item (served.nodes need.owner is_owner (subst (λ (ns : List Node). Contains ns (node_of frame need.owner)) same earlier.earlier))

        by : (need.item ≡ Completed (w - 1)) ⊎ (IsOfEarlierNode frame part w need ⊎ IsOfEarlierMember frame part w k need) → Gives frame solvers actors need.owner need.item
        by (inl is) = as_item (Completed (w - 1)) is (served.windows need.owner is_owner)
        by (inr (inl earlier)) = of_node earlier
        by (inr (inr earlier)) = as_item (Posted w k) earlier.item (early need earlier)
