-- The system seen as the loop sees it, and what stays while participants go on.
use Rattle.std.proofs.Common.{◌≡◌, ℕ, ◌<◌, ◌⊎◌, inl, inr, nat_lt, if◌then◌else◌, List, [], ◌∷◌, Option, Some, None, IsSome, IsTrue, refl, sym, ap, subst, ◌∙◌}
use Rattle.coupled_loop.specs.Numbered.{put}
use Rattle.std.proofs.Math.Path.{fun_ext}
use Rattle.std.proofs.lemmas.Bool.{eq-eqb, ne_eqb, cases_eq, lt-ltb}
use Rattle.std.specs.Option.{option_or, option_map}
use Rattle.cpl_plan.specs.declared.words.Item.{Item}
use Rattle.cpl_plan.specs.declared.words.Item.TheVariants.{Posted}
use Rattle.coupled_loop.specs.Given.{Gift, found}
use Rattle.coupled_loop.specs.Endings.{Ending}
use Rattle.coupled_loop.specs.Frames.{Frame}
use Rattle.coupled_loop.specs.CoreState.{Place, Side, look_in, has_ended}
use Rattle.coupled_loop.specs.CoreStep.{Act, is_cut, Reply, core_step}
use Rattle.coupled_loop.specs.Solving.{Solvers}
use Rattle.coupled_loop.specs.CoupledLoop.{Part, Parts, opening_held}
use Rattle.coupled_loop.specs.Schedules.{resting, Actor, Actors, Wish, asks, steps, nothing, sides_of, wish, does, answered, next}
use Rattle.coupled_loop.specs.Settled.{IsSettled, Extends}
use Rattle.core_laws.proofs.Sound.{IsSound}
use Rattle.core_laws.proofs.Well.{IsWell}
use Rattle.core_laws.proofs.Puts.{put_other, put_there, put_mapped}
use Rattle.core_laws.proofs.Looks.{extends_itself, extends_further, still_given}
use Rattle.core_laws.proofs.Nets.{Goes, goes_kept}
use Rattle.core_laws.proofs.Growth.{step_extends}
use Rattle.core_laws.proofs.SystemNets.{system_kept, system_persists}

-- only turns before (w, k) have been posted
abbrev pub PostedBefore : {Post : Type 0} → List (Gift Post) → (w k : ℕ) → Type 0
PostedBefore given w k = (v j : ℕ) → IsSome (found given (Posted v j)) → (v < w) ⊎ ((v ≡ w) × (j < k))

-- where a participant stands, if it has not ended
pub record IsAt {Mesh Post Fault State Run Note : Type 0} (place : Place) (w k : ℕ) (actor : Actor Mesh Post Fault State Run Note) : Type 0 where
  pub stands : actor.side.ending ≡ None → (actor.side.place ≡ place) × (actor.stage ≡ resting)
  pub posted : (ending : Ending Fault) → actor.side.ending ≡ Some ending → PostedBefore actor.side.given w k

-- a participant as one of the loop
abbrev pub part_of : {Mesh Post Fault State Run Note : Type 0} → Actor Mesh Post Fault State Run Note → Part Mesh Post Fault State Note
part_of actor = record { held = actor.held; given = actor.side.given; stopped = actor.side.ending }

module _ {Mesh Post Inputs Fault State Run Note : Type 0} (frame : Frame Post Inputs Fault) (solvers : Solvers Mesh Post Inputs Fault State Run Note) where
  abbrev pub look_of : Actors Mesh Post Fault State Run Note → ℕ → Item → Option (Gift Post)
  look_of actors = look_in (sides_of frame solvers actors)

  abbrev pub IsWellNow : Actors Mesh Post Fault State Run Note → Type 0
  IsWellNow actors = IsWell frame (sides_of frame solvers actors)

  abbrev pub GoesTo : Actors Mesh Post Fault State Run Note → List ℕ → Actors Mesh Post Fault State Run Note → Type 0
  GoesTo from list to = Goes frame.parts (next frame solvers) from list to

  -- a participant as one of the loop; what has no number of a participant holds what it holds there
  abbrev pub view_of : ℕ → Actor Mesh Post Fault State Run Note → Part Mesh Post Fault State Note
  view_of part actor = record {
    held = if nat_lt part frame.parts then actor.held else opening_held frame solvers part;
    given = actor.side.given;
    stopped = actor.side.ending;
  }

  abbrev pub view : Actors Mesh Post Fault State Run Note → Parts Mesh Post Fault State Note
  view actors part = view_of part (actors part)

  -- a participant holds there what it holds
  pub view_is : (part : ℕ) (actor : Actor Mesh Post Fault State Run Note) → part < frame.parts
      → view_of part actor ≡ part_of actor
  view_is part actor is_part = rw (lt-ltb part frame.parts is_part) refl

  pub view_put : (actors : Actors Mesh Post Fault State Run Note) (part : ℕ) (actor : Actor Mesh Post Fault State Run Note)
      → view (put actors part actor) ≡ put (view actors) part (view_of part actor)
  view_put actors part actor = fun_ext (λ one. elim (cases_eq one part) [
    | inl e ↦ rw (e, eq-eqb part part refl) refl
    | inr apart ↦ rw (ne_eqb one part apart) refl
  ])

  -- what is given stays given
  pub next_extends : (actors : Actors Mesh Post Fault State Run Note) (part : ℕ) (actor : Actor Mesh Post Fault State Run Note)
      → next frame solvers actors part ≡ Some actor → Extends (look_of actors) (look_of (put actors part actor))
  next_extends actors part actor goes = by (wish frame solvers actors part) goes where
    as_put : (side : Side Mesh Post Fault) → actor.side ≡ side → Extends (look_of actors) (look_in (put (sides_of frame solvers actors) part side))
        → Extends (look_of actors) (look_of (put actors part actor))
    as_put side is extends =
        subst (λ (sides : ℕ → Side Mesh Post Fault). Extends (look_of actors) (look_in sides))
        (ap (put (sides_of frame solvers actors) part) (sym is) ∙ sym (put_mapped (λ (a : Actor Mesh Post Fault State Run Note). a.side) actors part actor)) extends

    of_made : (act : Act Mesh Post Fault) (made : Reply Mesh Inputs Fault × Side Mesh Post Fault) → core_step frame (sides_of frame solvers actors) part act ≡ Some made
        → ◌≡◌ {A = Option (Actor Mesh Post Fault State Run Note)} (Some (answered frame solvers actors part made)) (Some actor) → Extends (look_of actors) (look_of (put actors part actor))
    of_made act made step same =
        let is : answered frame solvers actors part made ≡ actor = cc in
        as_put made.1 (sym (ap (λ (a : Actor Mesh Post Fault State Run Note). a.side) is)) (step_extends frame (sides_of frame solvers actors) part act made.0 made.1 step)

    of_asked : (act : Act Mesh Post Fault) (first second : Option (Reply Mesh Inputs Fault × Side Mesh Post Fault))
        → core_step frame (sides_of frame solvers actors) part act ≡ first → core_step frame (sides_of frame solvers actors) part is_cut ≡ second
        → option_map (answered frame solvers actors part) (option_or first second) ≡ Some actor → Extends (look_of actors) (look_of (put actors part actor))
    of_asked act (Some made) second step step' same = of_made act made step same
    of_asked act None (Some made) step step' same = of_made is_cut made step' same
    of_asked act None None step step' same = cc

    by : (w : Wish Mesh Post Fault Run) → does frame solvers actors part w ≡ Some actor → Extends (look_of actors) (look_of (put actors part actor))
    by (asks act) same = of_asked act _ _ refl refl same
    by (steps run more) same =
        let is : (actors part).side ≡ actor.side = ap (λ (o : Option (Actor Mesh Post Fault State Run Note)). side_or o (actors part).side) same in
        as_put (actors part).side (sym is)
        (subst (λ (sides : ℕ → Side Mesh Post Fault). Extends (look_of actors) (look_in sides))
        (sym (put_there (sides_of frame solvers actors) part (actors part).side refl)) (extends_itself (look_of actors)))
      where
        side_or : Option (Actor Mesh Post Fault State Run Note) → Side Mesh Post Fault → Side Mesh Post Fault
        side_or (Some a) side = a.side
        side_or None side = side
    by nothing same = cc

  pub goes_extends : (list : List ℕ) (from to : Actors Mesh Post Fault State Run Note) → GoesTo from list to → Extends (look_of from) (look_of to)
  goes_extends [] from to goes = subst (λ (s : Actors Mesh Post Fault State Run Note). Extends (look_of from) (look_of s)) goes (extends_itself (look_of from))
  goes_extends (part ∷ rest) from to goes =
      extends_further (look_of from) (look_of (put from part goes.0)) (look_of to)
      (next_extends from part goes.0 goes.2) (goes_extends rest (put from part goes.0) to goes.3)

  -- who has ended does nothing more
  pub ended_rests : (actors : Actors Mesh Post Fault State Run Note) (part : ℕ) → IsTrue (has_ended (actors part).side) → next frame solvers actors part ≡ None
  ended_rests actors part ended = rw ended refl

  pub ended_stays : (list : List ℕ) (from to : Actors Mesh Post Fault State Run Note) (part : ℕ) → GoesTo from list to → IsTrue (has_ended (from part).side) → to part ≡ from part
  ended_stays [] from to part goes ended = sym (ap (λ (s : Actors Mesh Post Fault State Run Note). s part) goes)
  ended_stays (one ∷ rest) from to part goes ended = elim (cases_eq part one) [
    | inl e ↦ let none : next frame solvers from one ≡ None = subst (λ (q : ℕ). next frame solvers from q ≡ None) e (ended_rests from part ended) in
        let some : next frame solvers from one ≡ Some goes.0 = goes.2 in
        let never : None ≡ Some goes.0 = sym none ∙ some in cc
    | inr apart ↦
        let same : put from one goes.0 part ≡ from part = put_other from one goes.0 part apart in
        let still : IsTrue (has_ended (put from one goes.0 part).side) = subst (λ (a : Actor Mesh Post Fault State Run Note). IsTrue (has_ended a.side)) (sym same) ended in
        ended_stays rest (put from one goes.0) to part goes.3 still ∙ same
  ]

  -- a participant has given an item, or has ended
  abbrev pub Gives : Actors Mesh Post Fault State Run Note → ℕ → Item → Type 0
  Gives actors part item = IsTrue (has_ended (actors part).side) ⊎ IsSome (look_of actors part item)

  pub gives_still : (list : List ℕ) (from to : Actors Mesh Post Fault State Run Note) (part : ℕ) (item : Item) → GoesTo from list to → Gives from part item → Gives to part item
  gives_still list from to part item goes (inl ended) =
      inl (subst (λ (a : Actor Mesh Post Fault State Run Note). IsTrue (has_ended a.side)) (sym (ended_stays list from to part goes ended)) ended)
  gives_still list from to part item goes (inr given) = inr (still_given (look_of from) (look_of to) part item (goes_extends list from to goes) given)

  module _ (sound : IsSound frame) (settled : IsSettled frame) where
    pub goes_stay_well : (list : List ℕ) (from to : Actors Mesh Post Fault State Run Note) → IsWellNow from → GoesTo from list to → IsWellNow to
    goes_stay_well list from to well goes =
        goes_kept frame.parts (next frame solvers) IsWellNow (system_kept frame solvers sound settled) (system_persists frame solvers sound settled) list from to well goes
