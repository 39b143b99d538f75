-- The system: what a participant does next is the same after another has gone on, and the core's invariant is kept.
use Rattle.std.proofs.Common.{◌≡◌, ℕ, ◌<◌, Bool, if◌then◌else◌, ◌⊎◌, inl, inr, Option, Some, None, option_map, refl, sym, ap, subst, ◌∙◌}
use Rattle.coupled_loop.specs.Numbered.{put}
use Rattle.std.specs.Option.{option_or}
use Rattle.coupled_loop.specs.Frames.{Frame}
use Rattle.coupled_loop.specs.CoreState.{Place, sending, collecting, opening, taking, within, judging, Side, CoreState, has_ended, look_in}
use Rattle.coupled_loop.specs.CoreStep.{Act, takes, ends, lacks_memory, is_cut, Reply, core_step}
use Rattle.coupled_loop.specs.Settled.{IsSettled}
use Rattle.coupled_loop.specs.Solving.{Solvers}
use Rattle.coupled_loop.specs.Schedules.{Actor, Actors, Wish, asks, steps, nothing, Entry, go, quit, run_out, participant_of, first_act, wish_within, sides_of, wish_at, wish, answered, does, next, enabled}
use Rattle.core_laws.proofs.Sound.{IsSound}
use Rattle.core_laws.proofs.Well.{Stands, IsWell}
use Rattle.core_laws.proofs.Puts.{put_other, put_there, put_mapped}
use Rattle.core_laws.proofs.Looks.{extends_itself}
use Rattle.core_laws.proofs.Steps.{some_same}
use Rattle.core_laws.proofs.Wellness.{step_well}
use Rattle.core_laws.proofs.Later.{IsLater, there_same}
use Rattle.core_laws.proofs.CoreNets.{choice_stays, stepped_later}

-- what an option was made of
pub mapped_from : {X Y : Type 0} (h : X → Y) (o : Option X) (y : Y) → option_map h o ≡ Some y → (x : X) × (o ≡ Some x) × (h x ≡ y)
mapped_from h (Some x) y e = (x, refl, some_same (h x) y e)
mapped_from h None y e = cc

module _ {Mesh Post Inputs Fault State Run Note : Type 0} (frame : Frame Post Inputs Fault) (solvers : Solvers Mesh Post Inputs Fault State Run Note) where
  -- a participant goes on by an event of the core, or by itself
  abbrev pub IsByCore : (actors : Actors Mesh Post Fault State Run Note) (part : ℕ) → Side Mesh Post Fault → Type 0
  IsByCore actors part side = (act : Act Mesh Post Fault) × (reply : Reply Mesh Inputs Fault) × (core_step frame (sides_of frame solvers actors) part act ≡ Some (reply, side))

  abbrev pub GoesBy : (actors : Actors Mesh Post Fault State Run Note) (part : ℕ) → Side Mesh Post Fault → Type 0
  GoesBy actors part side = (side ≡ (actors part).side) ⊎ IsByCore actors part side

  module _ (actors : Actors Mesh Post Fault State Run Note) (part : ℕ) (actor : Actor Mesh Post Fault State Run Note) where
    -- by an event of these acts, the first that can be made
    by_choice : (first second : Act Mesh Post Fault)
        → option_map (answered frame solvers actors part) (option_or (core_step frame (sides_of frame solvers actors) part first) (core_step frame (sides_of frame solvers actors) part second)) ≡ Some actor
        → IsByCore actors part actor.side
    by_choice first second e = by (core_step frame (sides_of frame solvers actors) part first) refl (mapped_from (answered frame solvers actors part) _ actor e) where
      by : (o : Option (Reply Mesh Inputs Fault × Side Mesh Post Fault)) → core_step frame (sides_of frame solvers actors) part first ≡ o
          → (made : Reply Mesh Inputs Fault × Side Mesh Post Fault) × (option_or o (core_step frame (sides_of frame solvers actors) part second) ≡ Some made)
          × (answered frame solvers actors part made ≡ actor)
          → IsByCore actors part actor.side
      by (Some x) is got = (
        first,
        got.0.0,
        is ∙ got.1
            ∙ ap (λ (side : Side Mesh Post Fault). let made : Option (Reply Mesh Inputs Fault × Side Mesh Post Fault) = Some (got.0.0, side) in made)
            (ap (λ (a : Actor Mesh Post Fault State Run Note). a.side) got.2),
      )
      by None is got = (
        second,
        got.0.0,
        got.1
            ∙ ap (λ (side : Side Mesh Post Fault). let made : Option (Reply Mesh Inputs Fault × Side Mesh Post Fault) = Some (got.0.0, side) in made)
            (ap (λ (a : Actor Mesh Post Fault State Run Note). a.side) got.2),
      )

    by_wish : (wished : Wish Mesh Post Fault Run) → does frame solvers actors part wished ≡ Some actor → GoesBy actors part actor.side
    by_wish (asks act) e = inr (by_choice act is_cut e)
    by_wish (steps run more) e = inl (sym (ap (λ (a : Actor Mesh Post Fault State Run Note). a.side) (some_same _ _ e)))
    by_wish nothing e = cc

    pub goes_by : next frame solvers actors part ≡ Some actor → GoesBy actors part actor.side
    goes_by e = by_wish (wish frame solvers actors part) e

    -- by one event of the core
    by_one : (act : Act Mesh Post Fault) → option_map (answered frame solvers actors part) (core_step frame (sides_of frame solvers actors) part act) ≡ Some actor
        → IsByCore actors part actor.side
    by_one act e = by (mapped_from (answered frame solvers actors part) _ actor e) where
      by : (made : Reply Mesh Inputs Fault × Side Mesh Post Fault) × (core_step frame (sides_of frame solvers actors) part act ≡ Some made)
          × (answered frame solvers actors part made ≡ actor)
          → IsByCore actors part actor.side
      by got = (
        act,
        got.0.0,
        got.1
            ∙ ap (λ (side : Side Mesh Post Fault). let made : Option (Reply Mesh Inputs Fault × Side Mesh Post Fault) = Some (got.0.0, side) in made)
            (ap (λ (a : Actor Mesh Post Fault State Run Note). a.side) got.2),
      )

    pub sides_put : sides_of frame solvers (put actors part actor) ≡ put (sides_of frame solvers actors) part actor.side
    sides_put = put_mapped (λ (a : Actor Mesh Post Fault State Run Note). a.side) actors part actor

    -- the state is well afterwards
    pub goes_well : IsSound frame → IsSettled frame → IsWell frame (sides_of frame solvers actors) → part < frame.parts → GoesBy actors part actor.side
        → IsWell frame (sides_of frame solvers (put actors part actor))
    goes_well sound settled well is_part (inl same) =
        subst (λ (s : CoreState Mesh Post Fault). IsWell frame s)
        (sym (sides_put ∙ put_there (sides_of frame solvers actors) part actor.side (sym same))) well
    goes_well sound settled well is_part (inr by_core) =
        subst (λ (s : CoreState Mesh Post Fault). IsWell frame s) (sym sides_put)
        (step_well frame sound settled (sides_of frame solvers actors) part by_core.0 by_core.1 actor.side is_part well by_core.2)

    pub next_well : IsSound frame → IsSettled frame → IsWell frame (sides_of frame solvers actors) → part < frame.parts
        → next frame solvers actors part ≡ Some actor → IsWell frame (sides_of frame solvers (put actors part actor))
    next_well sound settled well is_part e = goes_well sound settled well is_part (goes_by e)

    -- and another may look at it as at a later one
    pub goes_later : IsSound frame → IsSettled frame → IsWell frame (sides_of frame solvers actors) → part < frame.parts → GoesBy actors part actor.side
        → (other : ℕ) → ¬ (part ≡ other) → IsLater (sides_of frame solvers actors) (sides_of frame solvers (put actors part actor)) other
    goes_later sound settled well is_part (inl same) other apart =
        subst (λ (s : CoreState Mesh Post Fault). IsLater (sides_of frame solvers actors) s other)
        (sym (sides_put ∙ put_there (sides_of frame solvers actors) part actor.side (sym same))) (record {
          own = refl;
          extends = extends_itself (look_in (sides_of frame solvers actors));
          before = well.in_order;
          after = well.in_order;
          sent = λ one had. refl;
          ended = λ one had. refl;
        })
    goes_later sound settled well is_part (inr by_core) other apart =
        subst (λ (s : CoreState Mesh Post Fault). IsLater (sides_of frame solvers actors) s other) (sym sides_put)
        (stepped_later frame sound settled (sides_of frame solvers actors) other part well is_part apart by_core.0 by_core.1 actor.side by_core.2)

  -- an entry of a schedule
  pub enabled_by : (actors : Actors Mesh Post Fault State Run Note) (entry : Entry) (actor : Actor Mesh Post Fault State Run Note)
      → enabled frame solvers actors entry ≡ Some actor → GoesBy actors (participant_of entry) actor.side
  enabled_by actors (go part) actor e = goes_by actors part actor e
  enabled_by actors (quit part) actor e = inr (by_one actors part actor ends e)
  enabled_by actors (run_out part) actor e = inr (by_one actors part actor lacks_memory e)

  pub enabled_well : IsSound frame → IsSettled frame → (actors : Actors Mesh Post Fault State Run Note) (entry : Entry) (actor : Actor Mesh Post Fault State Run Note)
      → IsWell frame (sides_of frame solvers actors) → participant_of entry < frame.parts → enabled frame solvers actors entry ≡ Some actor
      → IsWell frame (sides_of frame solvers (put actors (participant_of entry) actor))
  enabled_well sound settled actors entry actor well is_part e =
      goes_well actors (participant_of entry) actor sound settled well is_part (enabled_by actors entry actor e)

  -- what a participant does where it stands the same, and others have gone on
  module _ (actors others : Actors Mesh Post Fault State Run Note) (part : ℕ) (own : others part ≡ actors part)
      (later : IsLater (sides_of frame solvers actors) (sides_of frame solvers others) part) (sound : IsSound frame) (settled : IsSettled frame)
      (is_part : part < frame.parts) (well : IsWell frame (sides_of frame solvers actors)) where
    wish_same_at : (place : Place) → Stands frame (look_in (sides_of frame solvers actors)) part place (actors part).side.given
        → wish_at frame solvers others part place ≡ wish_at frame solvers actors part place
    wish_same_at sending stands = refl
    wish_same_at collecting stands = refl
    wish_same_at opening stands =
        ap (λ (a : Actor Mesh Post Fault State Run Note). let w : Wish Mesh Post Fault Run = asks (first_act (solvers.first part a.held.received a.held.state)) in w) own
    wish_same_at (taking w k) stands =
        ap (λ (b : Bool). let w : Wish Mesh Post Fault Run = asks (if b then takes else ends) in w)
        (sym (there_same (sides_of frame solvers actors) (sides_of frame solvers others) part frame later w stands.0.decided))
    wish_same_at (within w k) stands = ap (λ (a : Actor Mesh Post Fault State Run Note). let w : Wish Mesh Post Fault Run = wish_within a.stage in w) own
    wish_same_at (judging scheme w k) stands = refl

    pub wish_same : wish frame solvers others part ≡ wish frame solvers actors part
    wish_same =
        ap (λ (a : Actor Mesh Post Fault State Run Note). if has_ended a.side then nothing else wish_at frame solvers others part a.side.place) own
        ∙ ap (λ (w : Wish Mesh Post Fault Run). if has_ended (actors part).side then nothing else w) (wish_same_at (actors part).side.place (well.stands part))

    does_same : (wished : Wish Mesh Post Fault Run) (actor : Actor Mesh Post Fault State Run Note) → does frame solvers actors part wished ≡ Some actor
        → does frame solvers others part wished ≡ Some actor
    does_same (asks act) actor e = by (mapped_from (answered frame solvers actors part) _ actor e) where
      by : (made : Reply Mesh Inputs Fault × Side Mesh Post Fault)
          × (option_or (core_step frame (sides_of frame solvers actors) part act) (core_step frame (sides_of frame solvers actors) part is_cut) ≡ Some made)
          × (answered frame solvers actors part made ≡ actor)
          → option_map (answered frame solvers others part)
          (option_or (core_step frame (sides_of frame solvers others) part act) (core_step frame (sides_of frame solvers others) part is_cut)) ≡ Some actor
      by got =
          ap (option_map (answered frame solvers others part))
          (choice_stays frame (sides_of frame solvers actors) (sides_of frame solvers others) part later sound settled is_part well act got.0 got.1)
          ∙ ap (λ (a : Actor Mesh Post Fault State Run Note). Some (answered frame solvers (λ one. a) part got.0)) own
          ∙ ap (λ (a : Actor Mesh Post Fault State Run Note). Some a) got.2
    does_same (steps run more) actor e = ap (λ (a : Actor Mesh Post Fault State Run Note). does frame solvers (λ one. a) part (steps run more)) own ∙ e
    does_same nothing actor e = e

    pub next_same : (actor : Actor Mesh Post Fault State Run Note) → next frame solvers actors part ≡ Some actor → next frame solvers others part ≡ Some actor
    next_same actor e = ap (does frame solvers others part) wish_same ∙ does_same (wish frame solvers actors part) actor e

  -- one participant goes on, and another can go on as before
  pub next_stays : IsSound frame → IsSettled frame → (actors : Actors Mesh Post Fault State Run Note) (part other : ℕ) (actor beside : Actor Mesh Post Fault State Run Note)
      → IsWell frame (sides_of frame solvers actors) → part < frame.parts → other < frame.parts → ¬ (other ≡ part)
      → next frame solvers actors part ≡ Some actor → next frame solvers actors other ≡ Some beside → next frame solvers (put actors other beside) part ≡ Some actor
  next_stays sound settled actors part other actor beside well is_part is_other apart e others =
      next_same actors (put actors other beside) part (put_other actors other beside part (λ same. apart (sym same)))
      (goes_later actors other beside sound settled well is_other (goes_by actors other beside others) part apart) sound settled is_part well actor e
