-- What has been given and sent is there after later steps.
use Rattle.std.proofs.Common.{◌≡◌, ℕ, inl, inr, Option, Some, None, is_some, IsSome, refl, sym, ap, subst, ◌∙◌}
use Rattle.coupled_loop.specs.Numbered.{put}
use Rattle.std.proofs.lemmas.Bool.{cases_eq}
use Rattle.std.proofs.lemmas.Option.{none-some, same_Some}
use Rattle.coupled_loop.specs.Endings.{Judgement, again, converged, at_limit, refused}
use Rattle.coupled_loop.specs.Frames.{Frame}
use Rattle.coupled_loop.specs.CoreState.{Place, sending, collecting, opening, taking, within, judging, Side, CoreState, look_in}
use Rattle.coupled_loop.specs.CoreStep.{Act, sends_meshes, takes_meshes, posts, takes, judges, stops, lacks_memory, ends, is_cut, Reply, core_step, made_at, after_post, after_judgement}
use Rattle.coupled_loop.specs.Settled.{Extends, IsSettled}
use Rattle.coupled_loop.specs.Solving.{Solvers}
use Rattle.coupled_loop.specs.Schedules.{Actor, Actors, Wish, asks, steps, nothing, wish_at, sides_of, next}
use Rattle.core_laws.proofs.Sound.{IsSound}
use Rattle.core_laws.proofs.Puts.{put_same, put_other, put_there, put_mapped}
use Rattle.core_laws.proofs.Looks.{extends_itself}
use Rattle.core_laws.proofs.Growth.{step_extends}
use Rattle.core_laws.proofs.StepKinds.{if_from, made_from, IsEvent, IsDone, kind_of}

module _ {Mesh Post Inputs Fault : Type 0} (frame : Frame Post Inputs Fault) (sides : CoreState Mesh Post Fault) (part : ℕ) (some : IsSome (sides part).sent) where
  IsSent : Reply Mesh Inputs Fault × Side Mesh Post Fault → Type 0
  IsSent made = IsSome made.1.sent

  sent_by : (before made : Reply Mesh Inputs Fault × Side Mesh Post Fault) → Some before ≡ Some made → IsSome before.1.sent → IsSent made
  unfolding IsSent
  sent_by before made e = subst (λ (m : Reply Mesh Inputs Fault × Side Mesh Post Fault). IsSome m.1.sent) (same_Some before made e)

  posts_sent : (group : Option ℕ) (w k : ℕ) (post : Post) → IsSome (after_post group w k post (sides part)).sent
  posts_sent None w k post = some
  posts_sent (Some scheme) w k post = some

  judges_sent : (judgement : Judgement Fault) (w k : ℕ) → IsSome (after_judgement judgement w k (sides part)).sent
  judges_sent again w k = some
  judges_sent converged w k = some
  judges_sent at_limit w k = some
  judges_sent (refused fault) w k = some

  sent_made : (place : Place) (act : Act Mesh Post Fault) (made : Reply Mesh Inputs Fault × Side Mesh Post Fault) → made_at frame sides part place act ≡ Some made → IsSent made
  sent_made sending (sends_meshes own) made e = sent_by _ made e refl
  sent_made collecting takes_meshes made e = sent_by _ made (if_from _ _ made e).1 some
  sent_made opening (posts post) made e = sent_by _ made e some
  sent_made (taking w k) takes made e = sent_by _ made (if_from _ _ made e).1 some
  sent_made (within w k) (posts post) made e = sent_by _ made e (posts_sent (frame.group part) w k post)
  sent_made (judging scheme w k) judges made e = sent_by _ made (if_from _ _ made e).1 (judges_sent (frame.judge (look_in sides) scheme w k) w k)
  sent_made sending (stops fault) made e = sent_by _ made e some
  sent_made collecting (stops fault) made e = sent_by _ made e some
  sent_made opening (stops fault) made e = sent_by _ made e some
  sent_made (taking w k) (stops fault) made e = sent_by _ made e some
  sent_made (within w k) (stops fault) made e = sent_by _ made e some
  sent_made (judging scheme w k) (stops fault) made e = sent_by _ made e some
  sent_made place lacks_memory made e = sent_by _ made e some
  sent_made place ends made e = sent_by _ made e some
  sent_made collecting is_cut made e = sent_by _ made (if_from _ _ made e).1 some
  sent_made (taking w k) is_cut made e = sent_by _ made (if_from _ _ made e).1 some
  sent_made (judging scheme w k) is_cut made e = sent_by _ made (if_from _ _ made e).1 some
  sent_made place act made e = absurd (none-some made e)

  pub step_sent : (act : Act Mesh Post Fault) (made : Reply Mesh Inputs Fault × Side Mesh Post Fault) → core_step frame sides part act ≡ Some made → IsSome made.1.sent
  unfolding IsSent
  step_sent act made e = sent_made (sides part).place act made (made_from frame sides part act made e).1

module _ {Mesh Post Inputs Fault State Run Note : Type 0} (frame : Frame Post Inputs Fault) (solvers : Solvers Mesh Post Inputs Fault State Run Note) (sound : IsSound frame) (settled : IsSettled frame) where
  module _ (actors : Actors Mesh Post Fault State Run Note) (part : ℕ) (actor : Actor Mesh Post Fault State Run Note) where
    abbrev Sides : CoreState Mesh Post Fault
    Sides = sides_of frame solvers actors

    done_sent : (wished : Wish Mesh Post Fault Run) → IsDone frame solvers actors part wished actor → IsSome (actors part).side.sent → IsSome actor.side.sent
    done_sent (asks act) (inl event) some =
        ap (λ (a : Actor Mesh Post Fault State Run Note). is_some a.side.sent) event.is ∙ step_sent frame Sides part some act (event.reply, event.side) event.made
    done_sent (asks act) (inr (none, event)) some =
        ap (λ (a : Actor Mesh Post Fault State Run Note). is_some a.side.sent) event.is ∙ step_sent frame Sides part some is_cut (event.reply, event.side) event.made
    done_sent (steps run more) done some = ap (λ (a : Actor Mesh Post Fault State Run Note). is_some a.side.sent) done ∙ some
    done_sent nothing done some = absurd done

    sides_put : (side : Side Mesh Post Fault) → actor.side ≡ side → put Sides part side ≡ sides_of frame solvers (put actors part actor)
    sides_put side e = ap (put Sides part) (sym e) ∙ sym (put_mapped (λ (a : Actor Mesh Post Fault State Run Note). a.side) actors part actor)

    event_extends : (act : Act Mesh Post Fault) → IsEvent frame solvers actors part act actor → Extends (look_in Sides) (look_in (sides_of frame solvers (put actors part actor)))
    event_extends act event =
        subst (λ (s : CoreState Mesh Post Fault). Extends (look_in Sides) (look_in s)) (sides_put event.side (ap (λ (a : Actor Mesh Post Fault State Run Note). a.side) event.is))
        (step_extends frame Sides part act event.reply event.side event.made)

    done_extends : (wished : Wish Mesh Post Fault Run) → IsDone frame solvers actors part wished actor → Extends (look_in Sides) (look_in (sides_of frame solvers (put actors part actor)))
    done_extends (asks act) (inl event) = event_extends act event
    done_extends (asks act) (inr (none, event)) = event_extends is_cut event
    done_extends (steps run more) done =
        subst (λ (s : CoreState Mesh Post Fault). Extends (look_in Sides) (look_in s))
        (sym (put_there Sides part (actors part).side refl) ∙ sides_put (actors part).side (ap (λ (a : Actor Mesh Post Fault State Run Note). a.side) done))
        (extends_itself (look_in Sides))
    done_extends nothing done = absurd done

    pub next_extends : next frame solvers actors part ≡ Some actor → Extends (look_in Sides) (look_in (sides_of frame solvers (put actors part actor)))
    next_extends e = done_extends (wish_at frame solvers actors part (actors part).side.place) (kind_of frame solvers actors part actor e).1

    pub next_sent : next frame solvers actors part ≡ Some actor → (other : ℕ) → IsSome (actors other).side.sent → IsSome (put actors part actor other).side.sent
    next_sent e other some = elim (cases_eq other part) [
      | inl same ↦
          let own = subst (λ (one : ℕ). IsSome (actors one).side.sent) same some in
          subst (λ (one : ℕ). IsSome (put actors part actor one).side.sent) (sym same)
          (subst (λ (a : Actor Mesh Post Fault State Run Note). IsSome a.side.sent) (sym (put_same actors part actor))
          (done_sent (wish_at frame solvers actors part (actors part).side.place) (kind_of frame solvers actors part actor e).1 own))
      | inr apart ↦ subst (λ (a : Actor Mesh Post Fault State Run Note). IsSome a.side.sent) (sym (put_other actors part actor other apart)) some
    ]
