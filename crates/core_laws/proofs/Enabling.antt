-- After every schedule all have ended, or one can go on: on the way to the loop's end the first entry of one who has not ended here can be made here too, or it is cut.
use Rattle.std.proofs.Common.{◌≡◌, ℕ, ◌<◌, ◌⊎◌, inl, inr, Bool, true, false, if◌then◌else◌, List, [], ◌∷◌, Option, Some, None, is_some, option_map, IsSome, IsTrue, refl, sym, ap, subst, ◌∙◌}
use Rattle.coupled_loop.specs.Numbered.{put}
use Rattle.std.specs.Option.{option_or}
use Rattle.std.proofs.lemmas.Bool.{cases_eq}
use Rattle.coupled_loop.specs.Given.{Look}
use Rattle.coupled_loop.specs.Frames.{Frame}
use Rattle.coupled_loop.specs.CoreState.{Place, sending, collecting, opening, taking, within, judging, Side, has_ended, look_in}
use Rattle.coupled_loop.specs.CoreStep.{Act, is_cut, Reply, core_step, made_at, is_cut_off}
use Rattle.coupled_loop.specs.Settled.{Extends, IsSettled}
use Rattle.coupled_loop.specs.Solving.{Solvers}
use Rattle.coupled_loop.specs.Schedules.{Actor, Actors, Entry, Wish, asks, steps, nothing, wish_at, sides_of, opening_actors, answered, does, next, IsSchedule}
use Rattle.core_laws.proofs.Sound.{IsSound}
use Rattle.core_laws.proofs.Well.{IsWell, Stands}
use Rattle.core_laws.proofs.Puts.{put_other}
use Rattle.core_laws.proofs.Looks.{extends_itself, extends_further}
use Rattle.core_laws.proofs.Nets.{Goes, goes_kept}
use Rattle.core_laws.proofs.SystemNets.{AreWell, opening_are_well, system_kept, system_persists, leads_well}
use Rattle.core_laws.proofs.StepKinds.{made_from, IsEvent, IsDone, kind_of}
use Rattle.core_laws.proofs.SameSteps.{same_look}
use Rattle.core_laws.proofs.Behind.{IsBehind, IsTold, made_here, off_here, was_off, cut_made}
use Rattle.core_laws.proofs.GivenLater.{next_extends, next_sent}
use Rattle.core_laws.proofs.Shadows.{IsShadowOf, IsShadow, shadow_given, shadow_sent, same_wish, does_next, followed}
use Rattle.core_laws.proofs.Ends.{loop_end, all_ended, leads_on}

some_mapped : {X Y : Type 0} (f : X → Y) (o : Option X) → IsSome o → IsSome (option_map f o)
some_mapped f None is = is
some_mapped f (Some x) is = refl

some_first : {X : Type 0} (a b : Option X) → IsSome a → IsSome (option_or a b)
some_first None b is = cc
some_first (Some x) b is = refl

some_second : {X : Type 0} (a b : Option X) → IsSome b → IsSome (option_or a b)
some_second None b is = is
some_second (Some x) b is = refl

module _ {Mesh Post Inputs Fault State Run Note : Type 0} (frame : Frame Post Inputs Fault) (solvers : Solvers Mesh Post Inputs Fault State Run Note) where
  -- the actors here, and those there, of whom these have not gone on
  pub record AreBehind (here there : Actors Mesh Post Fault State Run Note) : Type 0 where
    pub sides : IsBehind (sides_of frame solvers here) (sides_of frame solvers there)
    pub same : (other : ℕ) → (here other ≡ there other) ⊎ (has_ended (here other).side ≡ true)

  module _ (here there : Actors Mesh Post Fault State Run Note) (behind : AreBehind here there) (well : IsWell frame (sides_of frame solvers here)) (well_there : IsWell frame (sides_of frame solvers there))
      (part : ℕ) (un : has_ended (here part).side ≡ false) (same : here part ≡ there part) where
    told_at : (place : Place) → (here part).side.place ≡ place → IsTold (sides_of frame solvers here) (sides_of frame solvers there) behind.sides frame part place
    told_at sending e = tt
    told_at collecting e = tt
    told_at opening e = tt
    told_at (taking w k) e =
        let stands = subst (λ (place : Place). Stands frame (look_in (sides_of frame solvers here)) part place (here part).side.given) e (well.stands part) in
        stands.0.decided (look_in (sides_of frame solvers there)) behind.sides.extends well_there.in_order
    told_at (within w k) e = tt
    told_at (judging scheme w k) e = tt

    told : IsTold (sides_of frame solvers here) (sides_of frame solvers there) behind.sides frame part (here part).side.place
    told = told_at (here part).side.place refl

    there_at : (w k : ℕ) → (here part).side.place ≡ taking w k
        → frame.is_there (look_in (sides_of frame solvers here)) w ≡ frame.is_there (look_in (sides_of frame solvers there)) w
    there_at w k e = told_at (taking w k) e

    -- who is granted or cut off here goes on
    step_made : (act : Act Mesh Post Fault) → IsSome (made_at frame (sides_of frame solvers here) part (here part).side.place act) → IsSome (core_step frame (sides_of frame solvers here) part act)
    step_made act made = ap (λ (b : Bool). is_some (if b then None else made_at frame (sides_of frame solvers here) part (here part).side.place act)) un ∙ made

    goes_or_cut : (act : Act Mesh Post Fault)
        → IsSome (made_at frame (sides_of frame solvers here) part (here part).side.place act) ⊎ (is_cut_off frame (sides_of frame solvers here) part (here part).side.place ≡ true)
        → IsSome (does frame solvers here part (asks act))
    goes_or_cut act (inl made) = some_mapped (answered frame solvers here part) _ (some_first _ _ (step_made act made))
    goes_or_cut act (inr off) = some_mapped (answered frame solvers here part) _
        (some_second (core_step frame (sides_of frame solvers here) part act) _ (step_made is_cut (cut_made (sides_of frame solvers here) (sides_of frame solvers there) behind.sides frame part (here part).side.place off)))

    event_goes : (wished act : Act Mesh Post Fault) (actor : Actor Mesh Post Fault State Run Note) → IsEvent frame solvers there part act actor
        → ((made : Reply Mesh Inputs Fault × Side Mesh Post Fault) → made_at frame (sides_of frame solvers there) part (here part).side.place act ≡ Some made
        → IsSome (made_at frame (sides_of frame solvers here) part (here part).side.place wished) ⊎ (is_cut_off frame (sides_of frame solvers here) part (here part).side.place ≡ true))
        → IsSome (does frame solvers here part (asks wished))
    event_goes wished act actor event by =
        let made = (made_from frame (sides_of frame solvers there) part act (event.reply, event.side) event.made).1 in
        goes_or_cut wished (by (event.reply, event.side)
        (ap (λ (a : Actor Mesh Post Fault State Run Note). made_at frame (sides_of frame solvers there) part a.side.place act) same ∙ made))

    done_goes : (wished : Wish Mesh Post Fault Run) (actor : Actor Mesh Post Fault State Run Note) → IsDone frame solvers there part wished actor → IsSome (does frame solvers here part wished)
    done_goes (asks act) actor (inl event) = event_goes act act actor event
        (λ made e. made_here (sides_of frame solvers here) (sides_of frame solvers there) behind.sides frame part (here part).side.place act made told e)
    done_goes (asks act) actor (inr (none, event)) = event_goes act is_cut actor event
        (λ made e. inr (off_here (sides_of frame solvers here) (sides_of frame solvers there) behind.sides frame part (here part).side.place told
        (was_off (sides_of frame solvers here) (sides_of frame solvers there) behind.sides frame part (here part).side.place made e)))
    done_goes (steps run more) actor done = refl
    done_goes nothing actor done = absurd done

    -- who has not ended here, and goes on there, can go on here
    goes_here : (actor : Actor Mesh Post Fault State Run Note) → next frame solvers there part ≡ Some actor → IsSome (next frame solvers here part)
    goes_here actor e =
        let kind = kind_of frame solvers there part actor e in
        let wished : wish_at frame solvers here part (here part).side.place ≡ wish_at frame solvers there part (there part).side.place =
        same_wish frame solvers here there part (here part).side.place same there_at
        ∙ ap (λ (a : Actor Mesh Post Fault State Run Note). wish_at frame solvers there part a.side.place) same in
        ap (λ (o : Option (Actor Mesh Post Fault State Run Note)). is_some o) (does_next frame solvers here part (wish_at frame solvers there part (there part).side.place) un wished)
        ∙ done_goes (wish_at frame solvers there part (there part).side.place) actor kind.1

  module _ (sound : IsSound frame) (settled : IsSettled frame) where
    -- one who has ended here goes on there
    behind_still : (here there : Actors Mesh Post Fault State Run Note) (part : ℕ) (actor : Actor Mesh Post Fault State Run Note) → AreBehind here there
        → next frame solvers there part ≡ Some actor → has_ended (here part).side ≡ true → AreBehind here (put there part actor)
    behind_still here there part actor behind e ended = record {
      sides = record {
        extends = extends_further (look_in (sides_of frame solvers here)) (look_in (sides_of frame solvers there)) (look_in (sides_of frame solvers (put there part actor)))
            behind.sides.extends (next_extends frame solvers sound settled there part actor e);
        sent = λ other some. next_sent frame solvers sound settled there part actor e other (behind.sides.sent other some);
        same = λ other. side_same other (same other);
      };
      same = same;
    }
      where
        same : (other : ℕ) → (here other ≡ put there part actor other) ⊎ (has_ended (here other).side ≡ true)
        same other = by (cases_eq other part) (behind.same other)
          where
            by : (other ≡ part) ⊎ (¬ (other ≡ part)) → (here other ≡ there other) ⊎ (has_ended (here other).side ≡ true)
                → (here other ≡ put there part actor other) ⊎ (has_ended (here other).side ≡ true)
            by (inl it) was = inr (subst (λ (one : ℕ). has_ended (here one).side ≡ true) (sym it) ended)
            by (inr apart) (inl was) = inl (was ∙ sym (put_other there part actor other apart))
            by (inr apart) (inr was) = inr was

        side_same : (other : ℕ) → (here other ≡ put there part actor other) ⊎ (has_ended (here other).side ≡ true)
            → ((here other).side ≡ (put there part actor other).side) ⊎ (has_ended (here other).side ≡ true)
        side_same other (inl e) = inl (ap (λ (a : Actor Mesh Post Fault State Run Note). a.side) e)
        side_same other (inr e) = inr e

    abbrev pub IsAllOrOne : Actors Mesh Post Fault State Run Note → Type 0
    IsAllOrOne here =
        ((part : ℕ) → part < frame.parts → IsTrue (has_ended (here part).side)) ⊎ ((part : ℕ) × (part < frame.parts) × IsSome (next frame solvers here part))

    all_here : (here there : Actors Mesh Post Fault State Run Note) → AreBehind here there → there ≡ loop_end frame solvers sound settled
        → (part : ℕ) → part < frame.parts → IsTrue (has_ended (here part).side)
    all_here here there behind at part inside = by (behind.same part)
      where
        by : (here part ≡ there part) ⊎ (has_ended (here part).side ≡ true) → IsTrue (has_ended (here part).side)
        by (inl e) = ap (λ (a : Actor Mesh Post Fault State Run Note). has_ended a.side) (e ∙ ap (λ (s : Actors Mesh Post Fault State Run Note). s part) at) ∙ all_ended frame solvers sound settled part inside
        by (inr e) = e

    one_here : (here there : Actors Mesh Post Fault State Run Note) → AreBehind here there → IsWell frame (sides_of frame solvers here) → IsWell frame (sides_of frame solvers there)
        → (part : ℕ) (actor : Actor Mesh Post Fault State Run Note) → next frame solvers there part ≡ Some actor → has_ended (here part).side ≡ false → IsSome (next frame solvers here part)
    one_here here there behind well well_there part actor e un = by (behind.same part)
      where
        by : (here part ≡ there part) ⊎ (has_ended (here part).side ≡ true) → IsSome (next frame solvers here part)
        by (inl same) = goes_here here there behind well well_there part un same actor e
        by (inr ended) = cc

    walked : (rest : List ℕ) (here there : Actors Mesh Post Fault State Run Note) → AreBehind here there → IsWell frame (sides_of frame solvers here) → IsWell frame (sides_of frame solvers there)
        → Goes frame.parts (next frame solvers) there rest (loop_end frame solvers sound settled) → IsAllOrOne here
    walked [] here there behind well well_there goes = inl (all_here here there behind goes)
    walked (part ∷ rest) here there behind well well_there goes =
        by (has_ended (here part).side) refl
        (λ ended. walked rest here (put there part goes.0) (behind_still here there part goes.0 behind goes.2 ended) well
        (system_kept frame solvers sound settled there part goes.0 well_there goes.1 goes.2) goes.3)
      where
        by : (b : Bool) → has_ended (here part).side ≡ b → (has_ended (here part).side ≡ true → IsAllOrOne here) → IsAllOrOne here
        by true ended on = on ended
        by false un on = inr (part, goes.1, one_here here there behind well well_there part goes.0 goes.2 un)

    shadow_behind : (here shadow : Actors Mesh Post Fault State Run Note) → IsShadow here shadow → AreBehind here shadow
    shadow_behind here shadow are = record {
      sides = record {
        extends = subst (λ (f : Look Post). Extends (look_in (sides_of frame solvers here)) f)
            (same_look (sides_of frame solvers here) (sides_of frame solvers shadow) (λ other. shadow_given (here other) (shadow other) (are other))) (extends_itself (look_in (sides_of frame solvers here)));
        sent = λ other some. ap (λ (o : Option Mesh). is_some o) (sym (shadow_sent (here other) (shadow other) (are other))) ∙ some;
        same = λ other. side_same other (are other);
      };
      same = λ other. same other (are other);
    }
      where
        same : (other : ℕ) → IsShadowOf (here other) (shadow other) → (here other ≡ shadow other) ⊎ (has_ended (here other).side ≡ true)
        same other (inl e) = inl e
        same other (inr stopped) = inr stopped.ended

        side_same : (other : ℕ) → IsShadowOf (here other) (shadow other) → ((here other).side ≡ (shadow other).side) ⊎ (has_ended (here other).side ≡ true)
        side_same other (inl e) = inl (ap (λ (a : Actor Mesh Post Fault State Run Note). a.side) e)
        side_same other (inr stopped) = inr stopped.ended

    pub all_or_one : (schedule : List Entry) (actors : Actors Mesh Post Fault State Run Note) → IsSchedule frame solvers schedule actors → IsAllOrOne actors
    all_or_one schedule actors is =
        let shadow = followed frame solvers schedule (opening_actors frame solvers) actors (opening_actors frame solvers) (λ one. inl refl) is in
        let rest = leads_on frame solvers sound settled shadow.list shadow.end shadow.goes in
        walked rest.0 actors shadow.end (shadow_behind actors shadow.end shadow.are)
        (leads_well frame solvers sound settled schedule (opening_actors frame solvers) actors (opening_are_well frame solvers sound settled) is)
        (goes_kept frame.parts (next frame solvers) (AreWell frame solvers sound settled) (system_kept frame solvers sound settled) (system_persists frame solvers sound settled)
        shadow.list (opening_actors frame solvers) shadow.end (opening_are_well frame solvers sound settled) shadow.goes)
        rest.1
