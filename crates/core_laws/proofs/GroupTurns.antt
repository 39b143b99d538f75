-- The turns of a scheme's members in one iteration, one after another.
use Rattle.std.proofs.Common.{◌≡◌, ℕ, ◌<◌, ◌≤◌, ◌⊎◌, inl, inr, true, List, [], ◌∷◌, ◌++◌, Option, Some, None, refl, sym, ap, subst, ◌∙◌, Contains}
use Rattle.coupled_loop.specs.Given.{gives}
use Rattle.coupled_loop.specs.Numbered.{put}
use Rattle.std.proofs.lemmas.List.{append-nil}
use Rattle.plan_order.proofs.Loops.{head_in, tail_in}
use Rattle.plan_order.proofs.Orders.{none_in_nil}
use Rattle.plan_order.specs.declared.node.Node.{Node}
use Rattle.plan_order.specs.declared.node.Node.TheVariants.{Group}
use Rattle.cpl_plan.specs.declared.words.Need.{Need}
use Rattle.cpl_plan.specs.declared.words.Item.TheVariants.{Posted}
use Rattle.coupled_loop.specs.Endings.{Ending}
use Rattle.coupled_loop.specs.Frames.{Frame}
use Rattle.coupled_loop.specs.CoreState.{taking, judging}
use Rattle.coupled_loop.specs.CoreStep.{after_post}
use Rattle.coupled_loop.specs.Solving.{Solvers}
use Rattle.coupled_loop.specs.CoupledLoop.{turn, turns}
use Rattle.coupled_loop.specs.Schedules.{Actor, Actors, next}
use Rattle.coupled_loop.specs.Settled.{IsSettled}
use Rattle.core_laws.proofs.Sound.{IsSound, node_of, IsOfEarlierMember}
use Rattle.core_laws.proofs.Puts.{put_same, put_other}
use Rattle.core_laws.proofs.Nets.{goes_joined}
use Rattle.core_laws.proofs.Members.{in_last, in_middle, one_further, same_before}
use Rattle.core_laws.proofs.NextSteps.{rests}
use Rattle.core_laws.proofs.Views.{IsAt, PostedBefore, look_of, IsWellNow, GoesTo, view_of, view, view_is, view_put, Gives, goes_stay_well}
use Rattle.core_laws.proofs.TurnOutcomes.{TurnTaken, HasStopped, HasPosted, turn_taken}
use Rattle.core_laws.proofs.Standing.{group_is, IsServedSoFar, served_still, is_served, unposted_at, posted_at, there_still}

module _ {Mesh Post Inputs Fault State Run Note : Type 0} (frame : Frame Post Inputs Fault) (solvers : Solvers Mesh Post Inputs Fault State Run Note)
    (scheme w : ℕ) (before : List Node) where
  -- some members have had their turn in iteration k, the others have not
  pub record MidTurns (actors : Actors Mesh Post Fault State Run Note) (k : ℕ) (had rest : List ℕ) : Type 0 where
    pub well : IsWellNow frame solvers actors
    pub served : IsServedSoFar frame solvers actors w before
    pub taken : (member : ℕ) → Contains had member → IsAt (judging scheme w k) w k (actors member)
    pub waiting : (member : ℕ) → Contains rest member → IsAt (taking w k) w k (actors member)
    pub there : (member : ℕ) → Contains rest member → (actors member).side.ending ≡ None → frame.is_there (look_of frame solvers actors) w ≡ true

  pub record TurnsTaken (from : Actors Mesh Post Fault State Run Note) (k : ℕ) (rest : List ℕ) : Type 0 where
    pub list : List ℕ
    pub to : Actors Mesh Post Fault State Run Note
    pub goes : GoesTo frame solvers from list to
    pub apart : (other : ℕ) → ¬ Contains rest other → to other ≡ from other
    pub seen : view frame solvers to ≡ turns frame solvers w k rest (view frame solvers from)
    pub mid : MidTurns to k (frame.members scheme) []

  module _ (sound : IsSound frame) (settled : IsSettled frame) (after : List Node) (stands : frame.nodes ≡ before ++ Group scheme ∷ after) where
    pub is_node : Contains frame.nodes (Group scheme)
    is_node = subst (λ (ns : List Node). Contains ns (Group scheme)) (sym stands) (in_middle before after (Group scheme))

    pub is_member : (member : ℕ) → Contains (frame.members scheme) member → (member < frame.parts) × (frame.group member ≡ Some scheme)
    is_member member inside =
        let of = sound.of_node (Group scheme) member is_node inside in (of.0, group_is member scheme (frame.group member) of.1)

    stands_of : (member : ℕ) → Contains (frame.members scheme) member → frame.nodes ≡ before ++ node_of frame member ∷ after
    stands_of member inside = subst (λ (node : Node). frame.nodes ≡ before ++ node ∷ after) (sym (sound.of_node (Group scheme) member is_node inside).1) stands

    module _ (window : 1 ≤ w) (k : ℕ) (iteration : 1 ≤ k) (actors : Actors Mesh Post Fault State Run Note) (had rest : List ℕ) (member : ℕ)
        (split : frame.members scheme ≡ had ++ member ∷ rest) (mid : MidTurns actors k had (member ∷ rest)) where
      inside : Contains (frame.members scheme) member
      inside = subst (λ (ms : List ℕ). Contains ms member) (sym split) (in_middle had rest member)

      once : (¬ Contains had member) × (¬ Contains rest member)
      once = sound.members_once scheme had rest member is_node split

      -- who is asked for in this iteration has had its turn
      early : (need : Need) → IsOfEarlierMember frame member w k need → Gives frame solvers actors need.owner (Posted w k)
      early need earlier =
          let both : Some earlier.scheme ≡ Some scheme = sym earlier.group ∙ (is_member member inside).1 in
          let same : earlier.scheme ≡ scheme = cc in
          let there : frame.members scheme ≡ earlier.before ++ member ∷ earlier.after =
          subst (λ (s : ℕ). frame.members s ≡ earlier.before ++ member ∷ earlier.after) same earlier.stands in
          let other = sound.members_once scheme earlier.before earlier.after member is_node there in
          let had_is : earlier.before ≡ had = same_before earlier.before had earlier.after rest member other.0 once.0 (sym there ∙ split) in
          posted_at frame solvers actors mid.well need.owner scheme w k w k
          (mid.taken need.owner (subst (λ (ms : List ℕ). Contains ms need.owner) had_is earlier.earlier))

      first_turn : TurnTaken frame solvers actors member w k
      first_turn =
          turn_taken frame solvers actors member w k (is_member member inside).0
          (λ going. ((mid.waiting member (head_in member rest)).stands going).0) (mid.there member (head_in member rest))
          (is_served frame solvers sound actors member w k before after (is_member member inside).0 window iteration (stands_of member inside) mid.served early)

      module _ (now : TurnTaken frame solvers actors member w k) where
        to : Actors Mesh Post Fault State Run Note
        to = put actors member now.actor

        own : to member ≡ now.actor
        unfolding to
        own = put_same actors member now.actor

        other_stays : (other : ℕ) → ¬ (other ≡ member) → to other ≡ actors other
        unfolding to
        other_stays other off = put_other actors member now.actor other off

        -- it stands at its judgement, or has ended
        taken_now : HasStopped frame solvers actors member w k now.actor ⊎ HasPosted frame solvers actors member w k now.actor → IsAt (judging scheme w k) w k now.actor
        taken_now (inl stopped) = record {
          stands = λ going. let never : None ≡ Some stopped.ending = sym going ∙ stopped.is in cc;
          posted = λ ending is. subst (λ given. PostedBefore given w k) (sym stopped.given)
              (unposted_at frame solvers actors mid.well member w k (mid.waiting member (head_in member rest)));
        }
        taken_now (inr posted) =
            let is : now.actor ≡ rests (after_post (Some scheme) w k posted.post (actors member).side) posted.held =
            posted.is ∙ ap (λ group. rests (after_post group w k posted.post (actors member).side) posted.held) (is_member member inside).1 in
            subst (IsAt (judging scheme w k) w k) (sym is)
            (record { stands = λ going. (refl, refl); posted = λ ending ended. let never : None ≡ Some ending = sym posted.going ∙ ended in cc })

        seen_now : HasStopped frame solvers actors member w k now.actor ⊎ HasPosted frame solvers actors member w k now.actor
            → view frame solvers to ≡ turn frame solvers w k (view frame solvers actors) member
        unfolding to
        seen_now (inl stopped) = stopped.seen
        seen_now (inr posted) =
            let is : now.actor ≡ rests (after_post (Some scheme) w k posted.post (actors member).side) posted.held =
            posted.is ∙ ap (λ group. rests (after_post group w k posted.post (actors member).side) posted.held) (is_member member inside).1 in
            let part : view_of frame solvers member now.actor ≡ record { held = posted.held; given = gives (Posted w k) k posted.post (actors member).side.given; stopped = (actors member).side.ending } =
            ap (view_of frame solvers member) is ∙ view_is frame solvers member (rests (after_post (Some scheme) w k posted.post (actors member).side) posted.held) (is_member member inside).0 in
            view_put frame solvers actors member now.actor
            ∙ (ap (put (view frame solvers actors) member)
            (part ∙ ap (λ (stopped : Option (Ending Fault)). record { held = posted.held; given = gives (Posted w k) k posted.post (actors member).side.given; stopped = stopped }) posted.going)
            ∙ sym posted.seen)

        goes_now : GoesTo frame solvers actors now.row.0 to
        unfolding to
        goes_now = now.row.1

        well_now : IsWellNow frame solvers to
        well_now = goes_stay_well frame solvers sound settled now.row.0 actors to mid.well goes_now

        mid_now : MidTurns to k (had ++ member ∷ []) rest
        mid_now = record {
          well = well_now;
          served = served_still frame solvers now.row.0 actors to w before goes_now mid.served;
          taken = λ one is. elim (in_last had member one is) [
            | inl earlier ↦ subst (IsAt (judging scheme w k) w k) (sym (other_stays one (apart_from had one once.0 earlier))) (mid.taken one earlier)
            | inr same ↦ subst (λ (q : ℕ). IsAt (judging scheme w k) w k (to q)) same (subst (IsAt (judging scheme w k) w k) (sym own) (taken_now now.outcome))
          ];
          waiting = λ one is. subst (IsAt (taking w k) w k) (sym (other_stays one (apart_from rest one once.1 is))) (mid.waiting one (tail_in member rest one is));
          there = λ one is going.
              let before_it : (actors one).side.ending ≡ None = subst (λ (a : Actor Mesh Post Fault State Run Note). a.side.ending ≡ None) (other_stays one (apart_from rest one once.1 is)) going in
              there_still frame solvers actors mid.well one w k now.row.0 to well_now goes_now
              ((mid.waiting one (tail_in member rest one is)).stands before_it).0 (mid.there one (tail_in member rest one is) before_it);
        } where
          apart_from : (ms : List ℕ) (one : ℕ) → ¬ Contains ms member → Contains ms one → ¬ (one ≡ member)
          apart_from ms one none is e = none (subst (λ (q : ℕ). Contains ms q) e is)

        with_rest : TurnsTaken to k rest → TurnsTaken actors k (member ∷ rest)
        with_rest further = record {
          list = now.row.0 ++ further.list;
          to = further.to;
          goes = goes_joined frame.parts (next frame solvers) now.row.0 actors to further.to further.list goes_now further.goes;
          apart = λ other none. further.apart other (λ is. none (tail_in member rest other is))
              ∙ other_stays other (λ e. none (subst (λ (q : ℕ). Contains (member ∷ rest) q) (sym e) (head_in member rest)));
          seen = further.seen ∙ ap (turns frame solvers w k rest) (seen_now now.outcome);
          mid = further.mid;
        }

    module _ (window : 1 ≤ w) (k : ℕ) (iteration : 1 ≤ k) where
      pub turns_go : (rest had : List ℕ) (actors : Actors Mesh Post Fault State Run Note) → frame.members scheme ≡ had ++ rest → MidTurns actors k had rest → TurnsTaken actors k rest
      turns_go [] had actors split mid = record {
        list = [];
        to = actors;
        goes = refl;
        apart = λ other none. refl;
        seen = refl;
        mid = record {
          well = mid.well;
          served = mid.served;
          taken = λ member is. mid.taken member (subst (λ (ms : List ℕ). Contains ms member) all is);
          waiting = λ member is. absurd (none_in_nil member is);
          there = λ member is. absurd (none_in_nil member is);
        };
      } where
        all : frame.members scheme ≡ had
        all = split ∙ append-nil had
      turns_go (member ∷ rest) had actors split mid =
          let now = first_turn window k iteration actors had rest member split mid in
          with_rest window k iteration actors had rest member split mid now
          (turns_go rest (had ++ member ∷ []) (to window k iteration actors had rest member split mid now) (split ∙ one_further had rest member)
          (mid_now window k iteration actors had rest member split mid now))
