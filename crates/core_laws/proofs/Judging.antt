-- After the turns of all members of a scheme: they judge one after another, or the others are cut too.
use Rattle.std.proofs.Common.{◌≡◌, ℕ, suc, ◌+◌, ◌<◌, ◌⊎◌, inl, inr, Bool, true, false, List, [], ◌∷◌, ◌++◌, Option, Some, None, IsSome, refl, sym, ap, subst, ◌∙◌, arith, Contains}
use Rattle.std.proofs.lemmas.List.Elements.{All-contains}
use Rattle.std.proofs.lemmas.List.Sums.{AllPass-from_list_all}
use Rattle.std.proofs.lemmas.List.Folds.{list_all-map}
use Rattle.plan_order.specs.declared.node.Node.{Node}
use Rattle.plan_order.specs.declared.node.Node.TheVariants.{Group}
use Rattle.cpl_plan.specs.declared.words.Item.TheVariants.{Posted}
use Rattle.coupled_loop.specs.Given.{has_given}
use Rattle.coupled_loop.specs.Endings.{Ending, cut, faulted, Judgement, again, converged, at_limit, refused}
use Rattle.coupled_loop.specs.Frames.{Frame}
use Rattle.coupled_loop.specs.CoreState.{Place, taking, judging, has_ended}
use Rattle.coupled_loop.specs.CoreStep.{completes, after_judgement, ends_with, is_granted, is_cut_off}
use Rattle.coupled_loop.specs.Solving.{Solvers, Held, hears_judgement}
use Rattle.coupled_loop.specs.CoupledLoop.{Part, Parts, stops_with, completes_window, each_does, have_posted, hear, after_judging}
use Rattle.coupled_loop.specs.Schedules.{Actor, Actors, sides_of, next}
use Rattle.coupled_loop.specs.Settled.{IsSettled}
use Rattle.core_laws.proofs.Sound.{IsSound}
use Rattle.core_laws.proofs.Members.{Distinct, distinct_rest}
use Rattle.core_laws.proofs.NextSteps.{rests, next_judges, next_unjudged}
use Rattle.core_laws.proofs.Views.{IsAt, PostedBefore, look_of, GoesTo, part_of, view_of, view, view_is}
use Rattle.core_laws.proofs.Rows.{someone_off, EachIs, each_goes}
use Rattle.core_laws.proofs.EachDoes.{each_has_done, done_twice}
use Rattle.core_laws.proofs.Standing.{stands_at, posted_longer, posted_at}
use Rattle.core_laws.proofs.GroupTurns.{MidTurns, is_node, is_member}

module _ {Mesh Post Inputs Fault State Run Note : Type 0} (frame : Frame Post Inputs Fault) (solvers : Solvers Mesh Post Inputs Fault State Run Note)
    (scheme w : ℕ) (before : List Node) where
  -- where members stand that the loop has left so
  pub record AllAt (from : Actors Mesh Post Fault State Run Note) (place : Place) (v j : ℕ) (loop : Parts Mesh Post Fault State Note) : Type 0 where
    pub list : List ℕ
    pub to : Actors Mesh Post Fault State Run Note
    pub goes : GoesTo frame solvers from list to
    pub apart : (other : ℕ) → ¬ Contains (frame.members scheme) other → to other ≡ from other
    pub seen : view frame solvers to ≡ loop
    pub at : (member : ℕ) → Contains (frame.members scheme) member → IsAt place v j (to member)

  module _ (sound : IsSound frame) (settled : IsSettled frame) (after : List Node) (stands : frame.nodes ≡ before ++ Group scheme ∷ after)
      (k : ℕ) (actors : Actors Mesh Post Fault State Run Note) (mid : MidTurns frame solvers scheme w before actors k (frame.members scheme) []) where
    pub distinct : Distinct (frame.members scheme)
    distinct = distinct_rest (frame.members scheme) [] (frame.members scheme)
        (λ had rest member split. sound.members_once scheme had rest member (is_node frame solvers scheme w before sound settled after stands) split) refl

    is_part : (member : ℕ) → Contains (frame.members scheme) member → member < frame.parts
    is_part member inside = (is_member frame solvers scheme w before sound settled after stands member inside).0

    -- what each becomes that the loop has let do something
    all_at : (place : Place) (v j : ℕ) (become : ℕ → Actor Mesh Post Fault State Run Note) (loop : Parts Mesh Post Fault State Note)
        → (each : EachIs frame solvers actors (frame.members scheme) become) → view frame solvers each.to ≡ loop
        → ((member : ℕ) → Contains (frame.members scheme) member → IsAt place v j (become member)) → AllAt actors place v j loop
    all_at place v j become loop each seen at = record {
      list = each.list;
      to = each.to;
      goes = each.goes;
      apart = each.apart;
      seen = seen;
      at = λ member inside. subst (IsAt place v j) (sym (each.inside member inside)) (at member inside);
    }

    seen_inside : (become : ℕ → Actor Mesh Post Fault State Run Note) (each : EachIs frame solvers actors (frame.members scheme) become) (member : ℕ)
        → Contains (frame.members scheme) member → view frame solvers each.to member ≡ part_of (become member)
    seen_inside become each member inside = ap (view_of frame solvers member) (each.inside member inside) ∙ view_is frame solvers member (become member) (is_part member inside)

    seen_apart : (become : ℕ → Actor Mesh Post Fault State Run Note) (each : EachIs frame solvers actors (frame.members scheme) become) (other : ℕ)
        → ¬ Contains (frame.members scheme) other → view frame solvers each.to other ≡ view frame solvers actors other
    seen_apart become each other none = ap (view_of frame solvers other) (each.apart other none)

    seen_before : (member : ℕ) → Contains (frame.members scheme) member → view frame solvers actors member ≡ part_of (actors member)
    seen_before member inside = view_is frame solvers member (actors member) (is_part member inside)

    granted_as : (member : ℕ) → is_granted frame (sides_of frame solvers actors) member (judging scheme w k)
        ≡ have_posted frame solvers (view frame solvers actors) (frame.members scheme) w k
    granted_as member = list_all-map (λ (asked : ℕ × Bool). asked.1) (λ one. (one, has_given (look_of frame solvers actors) one (Posted w k))) (frame.members scheme)

    -- no member has posted anything of a later window
    posted_by : (member : ℕ) → Contains (frame.members scheme) member → PostedBefore (actors member).side.given (w + 1) 1
    posted_by member inside = by (actors member).side.ending refl where
      by : (ending : Option (Ending Fault)) → (actors member).side.ending ≡ ending → PostedBefore (actors member).side.given (w + 1) 1
      by (Some ending) is = posted_longer (actors member).side.given w k (w + 1) 1 (inl (omega arith)) ((mid.taken member inside).posted ending is)
      by None is = posted_longer (actors member).side.given w (suc k) (w + 1) 1 (inl (omega arith))
          (stands_at frame solvers actors mid.well member (judging scheme w k) ((mid.taken member inside).stands is).0).4

    module _ (all : have_posted frame solvers (view frame solvers actors) (frame.members scheme) w k ≡ true) where
      -- nobody has ended
      is_going : (member : ℕ) → Contains (frame.members scheme) member → (actors member).side.ending ≡ None
      is_going member inside = by (actors member).side.ending refl where
        has_posted : IsSome (look_of frame solvers actors member (Posted w k))
        has_posted = All-contains (λ one. has_given (look_of frame solvers actors) one (Posted w k) ≡ true) (frame.members scheme) member
            (AllPass-from_list_all (λ one. has_given (look_of frame solvers actors) one (Posted w k)) (frame.members scheme) all) inside

        never : (w < w) ⊎ ((w ≡ w) × (k < k)) → (actors member).side.ending ≡ None
        never (inl less) = absurd (omega arith)
        never (inr (same, less)) = absurd (omega arith)

        by : (ending : Option (Ending Fault)) → (actors member).side.ending ≡ ending → (actors member).side.ending ≡ None
        by (Some ending) is = never ((mid.taken member inside).posted ending is w k has_posted)
        by None is = is

      abbrev judged_one : Judgement Fault → ℕ → Actor Mesh Post Fault State Run Note
      judged_one judgement member = rests (after_judgement judgement w k (actors member).side) (hears_judgement solvers member w k judgement (actors member).held)

      abbrev heard : Judgement Fault → ℕ → Part Mesh Post Fault State Note → Part Mesh Post Fault State Note
      heard judgement member part = record part { held = hears_judgement solvers member w k judgement part.held }

      module _ (judgement : Judgement Fault) (is : frame.judge (look_of frame solvers actors) scheme w k ≡ judgement) where
        each_judges : EachIs frame solvers actors (frame.members scheme) (judged_one judgement)
        each_judges = each_goes frame solvers sound settled (judged_one judgement) (frame.members scheme) actors distinct mid.well is_part
            (λ member inside. inl (subst (λ (j : Judgement Fault). next frame solvers actors member ≡ Some (judged_one j member)) is
            (next_judges frame solvers actors member (is_going member inside) w k scheme
            ((mid.taken member inside).stands (is_going member inside)).0 (granted_as member ∙ all))))

        -- all members have heard it, and have done what follows
        judged_then : (then : ℕ → Part Mesh Post Fault State Note → Part Mesh Post Fault State Note) (place : Place) (v j : ℕ)
            → ((member : ℕ) → Contains (frame.members scheme) member → part_of (judged_one judgement member) ≡ then member (heard judgement member (part_of (actors member))))
            → ((member : ℕ) → Contains (frame.members scheme) member → IsAt place v j (judged_one judgement member))
            → AllAt actors place v j (each_does then (frame.members scheme) (hear frame solvers (frame.members scheme) w k judgement (view frame solvers actors)))
        judged_then then place v j does at =
            all_at place v j (judged_one judgement) _ each_judges
            (done_twice (heard judgement) then (frame.members scheme) (view frame solvers actors) (view frame solvers each_judges.to) distinct
            (λ member inside. seen_inside (judged_one judgement) each_judges member inside
            ∙ (does member inside ∙ ap (λ (part : Part Mesh Post Fault State Note). then member (heard judgement member part)) (sym (seen_before member inside))))
            (seen_apart (judged_one judgement) each_judges))
            at

        pub judged_again : judgement ≡ again → AllAt actors (taking w (k + 1)) w (k + 1) (hear frame solvers (frame.members scheme) w k again (view frame solvers actors))
        judged_again same =
            all_at (taking w (k + 1)) w (k + 1) (judged_one judgement) _ each_judges
            (each_has_done (heard again) (frame.members scheme) (view frame solvers actors) (view frame solvers each_judges.to) distinct
            (λ member inside. seen_inside (judged_one judgement) each_judges member inside
            ∙ (subst (λ (j : Judgement Fault). part_of (judged_one j member) ≡ heard again member (part_of (actors member))) (sym same) refl
            ∙ ap (heard again member) (sym (seen_before member inside))))
            (seen_apart (judged_one judgement) each_judges))
            (λ member inside. subst (λ (j : Judgement Fault). IsAt (taking w (k + 1)) w (k + 1) (judged_one j member)) (sym same)
            (record { stands = λ going. (refl, refl); posted = λ ending ended. let never : None ≡ Some ending = sym (is_going member inside) ∙ ended in cc }))

      -- accepted
      completes_at : (member : ℕ) (held : Held Mesh State Note) → Contains (frame.members scheme) member
          → IsAt {Run = Run} (taking (w + 1) 1) (w + 1) 1 (rests (completes w k (actors member).side) held)
      completes_at member held inside = record {
        stands = λ going. (refl, refl);
        posted = λ ending ended. let never : None ≡ Some ending = sym (is_going member inside) ∙ ended in cc;
      }

      pub judged_on : (more : Parts Mesh Post Fault State Note → Parts Mesh Post Fault State Note)
          → (frame.judge (look_of frame solvers actors) scheme w k ≡ again
          → AllAt actors (taking (w + 1) 1) (w + 1) 1 (more (hear frame solvers (frame.members scheme) w k again (view frame solvers actors))))
          → (judgement : Judgement Fault) → frame.judge (look_of frame solvers actors) scheme w k ≡ judgement
          → AllAt actors (taking (w + 1) 1) (w + 1) 1
          (after_judging frame solvers more (frame.members scheme) w k judgement (hear frame solvers (frame.members scheme) w k judgement (view frame solvers actors)))
      judged_on more further again is = further is
      judged_on more further converged is =
          judged_then converged is (λ member. completes_window w k) (taking (w + 1) 1) (w + 1) 1 (λ member inside. refl) (λ member inside. completes_at member _ inside)
      judged_on more further at_limit is =
          judged_then at_limit is (λ member. completes_window w k) (taking (w + 1) 1) (w + 1) 1 (λ member inside. refl) (λ member inside. completes_at member _ inside)
      judged_on more further (refused fault) is =
          judged_then (refused fault) is (λ member. stops_with (faulted fault)) (taking (w + 1) 1) (w + 1) 1
          (λ member inside. let going : (actors member).side.ending ≡ None = is_going member inside in rw going refl)
          (λ member inside. record { stands = λ going. cc; posted = λ ending ended. posted_by member inside })

    module _ (none : have_posted frame solvers (view frame solvers actors) (frame.members scheme) w k ≡ false) where
      abbrev cut_one : Option (Ending Fault) → Actor Mesh Post Fault State Run Note → Actor Mesh Post Fault State Run Note
      cut_one (Some ending) actor = actor
      cut_one None actor = rests (ends_with cut actor.side) actor.held

      abbrev cut_too : ℕ → Actor Mesh Post Fault State Run Note
      cut_too member = cut_one (actors member).side.ending (actors member)

      off : (member : ℕ) → is_cut_off frame (sides_of frame solvers actors) member (judging scheme w k) ≡ true
      off member = someone_off (λ one. one) (λ one. has_given (look_of frame solvers actors) one (Posted w k)) (λ one. has_ended (actors one).side) (frame.members scheme)
          (λ one inside. posted_at frame solvers actors mid.well one scheme w k w k (mid.taken one inside)) none

      is_cut_too : (member : ℕ) → Contains (frame.members scheme) member
          → (next frame solvers actors member ≡ Some (cut_too member)) ⊎ (actors member ≡ cut_too member)
      is_cut_too member inside = by (actors member).side.ending refl where
        by : (ending : Option (Ending Fault)) → (actors member).side.ending ≡ ending
            → (next frame solvers actors member ≡ Some (cut_one ending (actors member))) ⊎ (actors member ≡ cut_one ending (actors member))
        by (Some ending) is = inr refl
        by None is = inl (next_unjudged frame solvers actors member is w k scheme ((mid.taken member inside).stands is).0 (granted_as member ∙ none) (off member))

      each_is_cut : EachIs frame solvers actors (frame.members scheme) cut_too
      each_is_cut = each_goes frame solvers sound settled cut_too (frame.members scheme) actors distinct mid.well is_part is_cut_too

      stopped_as : (actor : Actor Mesh Post Fault State Run Note) (ending : Option (Ending Fault)) → actor.side.ending ≡ ending
          → part_of (cut_one ending actor) ≡ stops_with cut (part_of actor)
      stopped_as actor (Some ending) is = rw is refl
      stopped_as actor None is = rw is refl

      cut_at : (member : ℕ) → Contains (frame.members scheme) member → IsAt (taking (w + 1) 1) (w + 1) 1 (cut_too member)
      cut_at member inside = by (actors member).side.ending refl where
        by : (ending : Option (Ending Fault)) → (actors member).side.ending ≡ ending → IsAt (taking (w + 1) 1) (w + 1) 1 (cut_one ending (actors member))
        by (Some ending) is = record { stands = λ going. let never : None ≡ Some ending = sym going ∙ is in cc; posted = λ one ended. posted_by member inside }
        by None is = record { stands = λ going. cc; posted = λ one ended. posted_by member inside }

      pub all_cut : AllAt actors (taking (w + 1) 1) (w + 1) 1 (each_does (λ member. stops_with cut) (frame.members scheme) (view frame solvers actors))
      all_cut = all_at (taking (w + 1) 1) (w + 1) 1 cut_too _ each_is_cut
          (each_has_done (λ member. stops_with cut) (frame.members scheme) (view frame solvers actors) (view frame solvers each_is_cut.to) distinct
          (λ member inside. seen_inside cut_too each_is_cut member inside
          ∙ (stopped_as (actors member) (actors member).side.ending refl ∙ ap (stops_with cut) (sym (seen_before member inside))))
          (seen_apart cut_too each_is_cut))
          cut_at
