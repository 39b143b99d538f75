-- The node of a single participant in one window: its turn, and it completes the window where it has posted.
use Rattle.std.proofs.Common.{◌≡◌, ℕ, ◌+◌, ◌<◌, ◌≤◌, ◌⊎◌, inl, inr, List, [], ◌∷◌, ◌++◌, Option, Some, None, true, refl, sym, ap, subst, ◌∙◌, arith, Contains}
use Rattle.coupled_loop.specs.Numbered.{put}
use Rattle.std.specs.Option.{option_map, option_to_list}
use Rattle.std.proofs.lemmas.List.{append-nil}
use Rattle.plan_order.proofs.Loops.{head_in, in_cons}
use Rattle.plan_order.proofs.Orders.{none_in_nil}
use Rattle.plan_order.specs.declared.node.Node.{Node}
use Rattle.plan_order.specs.declared.node.Node.TheVariants.{Single}
use Rattle.cpl_plan.specs.declared.words.Item.TheVariants.{Posted}
use Rattle.coupled_loop.specs.Given.{Gift, found, gives, accepted_for, accepts}
use Rattle.coupled_loop.specs.Endings.{Ending}
use Rattle.coupled_loop.specs.Frames.{Frame}
use Rattle.coupled_loop.specs.CoreState.{taking}
use Rattle.coupled_loop.specs.CoreStep.{after_post}
use Rattle.coupled_loop.specs.Solving.{Solvers}
use Rattle.coupled_loop.specs.CoupledLoop.{Part, Parts, turn, completes_window, node_does}
use Rattle.coupled_loop.specs.Schedules.{Actor, Actors}
use Rattle.core_laws.proofs.Sound.{IsSound, node_of, parts_in}
use Rattle.core_laws.proofs.Puts.{put_same, put_other, put_there, put_twice}
use Rattle.core_laws.proofs.Members.{in_middle}
use Rattle.core_laws.proofs.NextSteps.{rests}
use Rattle.core_laws.proofs.Views.{IsAt, PostedBefore, look_of, IsWellNow, GoesTo, view_of, view, view_is, view_put}
use Rattle.core_laws.proofs.TurnOutcomes.{TurnTaken, HasStopped, HasPosted, turn_taken}
use Rattle.core_laws.proofs.Standing.{alone_is, posted_longer, IsServedSoFar, is_served, unposted_at}

-- who has not posted a turn accepts nothing of it
pub accepts_nothing : {Post : Type 0} (given : List (Gift Post)) (w k : ℕ) → PostedBefore given w k → accepts w k given ≡ given
accepts_nothing {Post} given w k before = by (found given (Posted w k)) refl where
  never : (w < w) ⊎ ((w ≡ w) × (k < k)) → ⊥
  never (inl less) = omega arith
  never (inr (same, less)) = omega arith

  by : (o : Option (Gift Post)) → found given (Posted w k) ≡ o → given ++ option_to_list (option_map (accepted_for w) o) ≡ given
  by (Some gift) is = absurd (never (before w k (rw is refl)))
  by None is = append-nil given

module _ {Mesh Post Inputs Fault State Run Note : Type 0} (frame : Frame Post Inputs Fault) (solvers : Solvers Mesh Post Inputs Fault State Run Note) where
  -- where the participants of a node stand that the loop has left so
  pub record NodeGone (from : Actors Mesh Post Fault State Run Note) (w : ℕ) (node : Node) (loop : Parts Mesh Post Fault State Note) : Type 0 where
    pub list : List ℕ
    pub to : Actors Mesh Post Fault State Run Note
    pub goes : GoesTo frame solvers from list to
    pub apart : (other : ℕ) → ¬ Contains (parts_in frame node) other → to other ≡ from other
    pub seen : view frame solvers to ≡ loop
    pub at : (member : ℕ) → Contains (parts_in frame node) member → IsAt (taking (w + 1) 1) (w + 1) 1 (to member)

  module _ (sound : IsSound frame) (w : ℕ) (before after : List Node) (part : ℕ) (stands : frame.nodes ≡ before ++ Single part ∷ after)
      (actors : Actors Mesh Post Fault State Run Note) (well : IsWellNow frame solvers actors) (served : IsServedSoFar frame solvers actors w before)
      (at : IsAt (taking w 1) w 1 (actors part)) where
    is_node : Contains frame.nodes (Single part)
    is_node = subst (λ (ns : List Node). Contains ns (Single part)) (sym stands) (in_middle before after (Single part))

    is_part : part < frame.parts
    is_part = (sound.of_node (Single part) part is_node (head_in part [])).0

    own_node : node_of frame part ≡ Single part
    own_node = (sound.of_node (Single part) part is_node (head_in part [])).1

    alone : frame.group part ≡ None
    alone = (alone_is part part (frame.group part) own_node).0

    single_turn : 1 ≤ w → (there : (actors part).side.ending ≡ None → frame.is_there (look_of frame solvers actors) w ≡ true) → TurnTaken frame solvers actors part w 1
    single_turn window there =
        turn_taken frame solvers actors part w 1 is_part (λ going. (at.stands going).0) there
        (is_served frame solvers sound actors part w 1 before after is_part window (omega arith)
        (subst (λ (node : Node). frame.nodes ≡ before ++ node ∷ after) (sym own_node) stands) served
        (λ need earlier. let never : None ≡ Some earlier.scheme = sym alone ∙ earlier.group in cc))

    module _ (now : TurnTaken frame solvers actors part w 1) where
      completed : Parts Mesh Post Fault State Note → Parts Mesh Post Fault State Note
      completed parts = put parts part (completes_window w 1 (parts part))

      unposted : PostedBefore (actors part).side.given w 1
      unposted = unposted_at frame solvers actors well part w 1 at

      seen_now : HasStopped frame solvers actors part w 1 now.actor ⊎ HasPosted frame solvers actors part w 1 now.actor
          → view frame solvers (put actors part now.actor) ≡ completed (turn frame solvers w 1 (view frame solvers actors) part)
      unfolding completed
      seen_now (inl stopped) =
          let same : (view frame solvers (put actors part now.actor) part).given ≡ (actors part).side.given =
          ap (λ (a : Actor Mesh Post Fault State Run Note). a.side.given) (put_same actors part now.actor) ∙ stopped.given in
          let nothing : completes_window w 1 (view frame solvers (put actors part now.actor) part) ≡ view frame solvers (put actors part now.actor) part =
          ap (λ given. record (view frame solvers (put actors part now.actor) part) { given = given })
          (accepts_nothing _ w 1 (subst (λ given. PostedBefore given w 1) (sym same) unposted)) in
          sym (put_there (view frame solvers (put actors part now.actor)) part (completes_window w 1 (view frame solvers (put actors part now.actor) part)) (sym nothing))
          ∙ ap completed stopped.seen
      seen_now (inr posted) =
          let is : now.actor ≡ rests (after_post None w 1 posted.post (actors part).side) posted.held =
          posted.is ∙ ap (λ group. rests (after_post group w 1 posted.post (actors part).side) posted.held) alone in
          let posts : Part Mesh Post Fault State Note = record { held = posted.held; given = gives (Posted w 1) 1 posted.post (actors part).side.given; stopped = None } in
          let own : view_of frame solvers part now.actor ≡ completes_window w 1 (record { held = posted.held; given = gives (Posted w 1) 1 posted.post (actors part).side.given; stopped = (actors part).side.ending }) =
          ap (view_of frame solvers part) is ∙ view_is frame solvers part (rests (after_post None w 1 posted.post (actors part).side) posted.held) is_part in
          view_put frame solvers actors part now.actor
          ∙ (ap (put (view frame solvers actors) part)
          (own ∙ ap (λ (stopped : Option (Ending Fault)). completes_window w 1 (record { held = posted.held; given = gives (Posted w 1) 1 posted.post (actors part).side.given; stopped = stopped })) posted.going)
          ∙ (sym (put_twice (view frame solvers actors) part posts (completes_window w 1 posts))
          ∙ (ap (λ (one : Part Mesh Post Fault State Note). put (put (view frame solvers actors) part posts) part (completes_window w 1 one)) (sym (put_same (view frame solvers actors) part posts))
          ∙ ap completed (sym posted.seen))))

      at_now : HasStopped frame solvers actors part w 1 now.actor ⊎ HasPosted frame solvers actors part w 1 now.actor → IsAt (taking (w + 1) 1) (w + 1) 1 now.actor
      at_now (inl stopped) = record {
        stands = λ going. let never : None ≡ Some stopped.ending = sym going ∙ stopped.is in cc;
        posted = λ ending is. subst (λ given. PostedBefore given (w + 1) 1) (sym stopped.given)
            (posted_longer (actors part).side.given w 1 (w + 1) 1 (inl (omega arith)) unposted);
      }
      at_now (inr posted) =
          let is : now.actor ≡ rests (after_post None w 1 posted.post (actors part).side) posted.held =
          posted.is ∙ ap (λ group. rests (after_post group w 1 posted.post (actors part).side) posted.held) alone in
          subst (IsAt (taking (w + 1) 1) (w + 1) 1) (sym is)
          (record { stands = λ going. (refl, refl); posted = λ ending ended. let never : None ≡ Some ending = sym posted.going ∙ ended in cc })

      single_gone : NodeGone actors w (Single part) (node_does frame solvers w (view frame solvers actors) (Single part))
      unfolding completed
      single_gone = record {
        list = now.row.0;
        to = put actors part now.actor;
        goes = now.row.1;
        apart = λ other none. put_other actors part now.actor other (λ e. none (subst (λ (q : ℕ). Contains (part ∷ []) q) (sym e) (head_in part [])));
        seen = seen_now now.outcome;
        at = λ member inside. of_one member (in_one member inside);
      } where
        in_one : (member : ℕ) → Contains (part ∷ []) member → part ≡ member
        in_one member inside = elim (in_cons part [] member inside) [ inl same ↦ same | inr none ↦ absurd (none_in_nil member none) ]

        of_one : (member : ℕ) → part ≡ member → IsAt (taking (w + 1) 1) (w + 1) 1 (put actors part now.actor member)
        of_one member same = subst (λ (q : ℕ). IsAt (taking (w + 1) 1) (w + 1) 1 (put actors part now.actor q)) same
            (subst (IsAt (taking (w + 1) 1) (w + 1) 1) (sym (put_same actors part now.actor)) (at_now now.outcome))

    pub single_goes : 1 ≤ w → ((actors part).side.ending ≡ None → frame.is_there (look_of frame solvers actors) w ≡ true)
        → NodeGone actors w (Single part) (node_does frame solvers w (view frame solvers actors) (Single part))
    single_goes window there = single_gone (single_turn window there)
