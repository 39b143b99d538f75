-- What a participant has noted grows at its end.
use Rattle.std.proofs.Common.{◌≡◌, ℕ, zero, suc, inl, inr, Bool, true, false, if◌then◌else◌, ◌==◌, List, [], ◌∷◌, ◌++◌, Option, Some, Result, Ok, Err, refl, sym, ap, subst, ◌∙◌, append_assoc, append-nil}
use Rattle.coupled_loop.specs.Numbered.{put}
use Rattle.std.proofs.lemmas.Bool.{cases_eq}
use Rattle.coupled_loop.specs.Frames.{Frame}
use Rattle.coupled_loop.specs.CoreState.{turn_at}
use Rattle.coupled_loop.specs.CoreStep.{Act, is_cut, Reply, posted, meshes, taken, judged, cut_off, over}
use Rattle.coupled_loop.specs.Solving.{Solvers, Held, Stepped, goes_on, arrives, breaks, notes, keeps, hears_inputs, begins}
use Rattle.coupled_loop.specs.Schedules.{Actor, Actors, Wish, asks, steps, nothing, wish_at, runs, begun, stepped, hears, next}
use Rattle.core_laws.specs.Laws.{IsPrefix}
use Rattle.core_laws.proofs.Puts.{put_same, put_other}
use Rattle.core_laws.proofs.Nets.{Goes}
use Rattle.core_laws.proofs.StepKinds.{IsEvent, IsDone, kind_of}

module _ {X : Type 0} where
  pub begins_itself : (xs : List X) → IsPrefix xs xs
  begins_itself xs = ([], sym (append-nil xs))

  pub begins_same : (xs ys : List X) → ys ≡ xs → IsPrefix xs ys
  begins_same xs ys e = ([], e ∙ sym (append-nil xs))

  pub begins_moved : (xs ys zs us : List X) → xs ≡ ys → IsPrefix ys zs → zs ≡ us → IsPrefix xs us
  begins_moved xs ys zs us from (rest, is) to = (rest, sym to ∙ (is ∙ ap (λ l. l ++ rest) (sym from)))

  pub begins_further : (xs ys zs : List X) → IsPrefix xs ys → IsPrefix ys zs → IsPrefix xs zs
  begins_further xs ys zs (first, is) (second, more) =
      (first ++ second, more ∙ (ap (λ l. l ++ second) is ∙ append_assoc xs first second))

pub kept_notes : {Mesh State Note : Type 0} (k : ℕ) (held : Held Mesh State Note) → (keeps k held).notes ≡ held.notes
kept_notes {Mesh} {State} {Note} k held = by (k == 1)
  where
    by : (b : Bool) → (let kept : Held Mesh State Note = if b then record held { kept = held.state } else held in kept.notes) ≡ held.notes
    by true = refl
    by false = refl

module _ {Mesh Post Inputs Fault State Run Note : Type 0} (frame : Frame Post Inputs Fault) (solvers : Solvers Mesh Post Inputs Fault State Run Note) where
  pub run_notes : (part w k more : ℕ) (run : Run) (held : Held Mesh State Note) → (runs frame solvers part w k more run held).0.notes ≡ held.notes
  run_notes part w k zero run held = refl
  run_notes part w k (suc more) run held = refl

  pub begun_notes : (part w k : ℕ) (begin : Result Run (Option Fault)) (held : Held Mesh State Note) → (begun frame solvers part w k begin held).0.notes ≡ held.notes
  begun_notes part w k (Ok run) held = run_notes part w k solvers.most_steps run held
  begun_notes part w k (Err why) held = refl

  stepped_notes : (part w k more : ℕ) (made : Stepped State Run Post Fault) (held : Held Mesh State Note) → (stepped frame solvers part w k more made held).0.notes ≡ held.notes
  stepped_notes part w k more (goes_on run) held = run_notes part w k more run held
  stepped_notes part w k more (arrives state post) held = refl
  stepped_notes part w k more (breaks state why) held = refl

  -- inputs are noted
  pub taken_notes : (part w k : ℕ) (inputs : Inputs) (held : Held Mesh State Note)
      → (hears frame solvers part w k (taken inputs) held).0.notes ≡ held.notes ++ solvers.note_inputs part w k inputs
  taken_notes part w k inputs held =
      let heard = hears_inputs solvers part w k inputs held in
      begun_notes part w k (begins solvers part w k inputs heard) heard ∙ kept_notes k (notes (solvers.note_inputs part w k inputs) held)

  hears_grow : (part w k : ℕ) (reply : Reply Mesh Inputs Fault) (held : Held Mesh State Note) → IsPrefix held.notes (hears frame solvers part w k reply held).0.notes
  hears_grow part w k (meshes received) held = begins_itself held.notes
  hears_grow part w k (taken inputs) held = (solvers.note_inputs part w k inputs, taken_notes part w k inputs held)
  hears_grow part w k (judged judgement) held = (solvers.note_judgement part w k judgement, refl)
  hears_grow part w k posted held = begins_itself held.notes
  hears_grow part w k cut_off held = begins_itself held.notes
  hears_grow part w k over held = begins_itself held.notes

  module _ (actors : Actors Mesh Post Fault State Run Note) (part : ℕ) (actor : Actor Mesh Post Fault State Run Note) where
    abbrev Grows : Type 0
    Grows = IsPrefix (actors part).held.notes actor.held.notes

    event_grows : (act : Act Mesh Post Fault) → IsEvent frame solvers actors part act actor → Grows
    event_grows act event =
        let grown = hears_grow part (turn_at (actors part).side.place).0 (turn_at (actors part).side.place).1 event.reply (actors part).held in
        (grown.0, ap (λ (a : Actor Mesh Post Fault State Run Note). a.held.notes) event.is ∙ grown.1)

    done_grows : (wished : Wish Mesh Post Fault Run) → IsDone frame solvers actors part wished actor → Grows
    done_grows (asks act) (inl event) = event_grows act event
    done_grows (asks act) (inr (none, event)) = event_grows is_cut event
    done_grows (steps run more) done = (
      (solvers.step part run).0,
      ap (λ (a : Actor Mesh Post Fault State Run Note). a.held.notes) done
          ∙ stepped_notes part (turn_at (actors part).side.place).0 (turn_at (actors part).side.place).1 more (solvers.step part run).1 (notes (solvers.step part run).0 (actors part).held),
    )
    done_grows nothing done = absurd done

    next_grows : next frame solvers actors part ≡ Some actor → Grows
    next_grows e = done_grows (wish_at frame solvers actors part (actors part).side.place) (kind_of frame solvers actors part actor e).1

  put_grows : (actors : Actors Mesh Post Fault State Run Note) (part : ℕ) (actor : Actor Mesh Post Fault State Run Note) (other : ℕ)
      → IsPrefix (actors part).held.notes actor.held.notes → IsPrefix (actors other).held.notes (put actors part actor other).held.notes
  put_grows actors part actor other grows = elim (cases_eq other part) [
    | inl e ↦ subst (λ (one : ℕ). IsPrefix (actors one).held.notes (put actors part actor one).held.notes) (sym e)
        (subst (λ (a : Actor Mesh Post Fault State Run Note). IsPrefix (actors part).held.notes a.held.notes) (sym (put_same actors part actor)) grows)
    | inr apart ↦ subst (λ (a : Actor Mesh Post Fault State Run Note). IsPrefix (actors other).held.notes a.held.notes) (sym (put_other actors part actor other apart)) (begins_itself (actors other).held.notes)
  ]

  pub goes_grow : (list : List ℕ) (from to : Actors Mesh Post Fault State Run Note) → Goes frame.parts (next frame solvers) from list to → (other : ℕ)
      → IsPrefix (from other).held.notes (to other).held.notes
  goes_grow [] from to goes other = begins_same (from other).held.notes (to other).held.notes (ap (λ (s : Actors Mesh Post Fault State Run Note). (s other).held.notes) (sym goes))
  goes_grow (part ∷ rest) from to goes other =
      begins_further (from other).held.notes (put from part goes.0 other).held.notes (to other).held.notes
      (put_grows from part goes.0 other (next_grows from part goes.0 goes.2))
      (goes_grow rest (put from part goes.0) to goes.3 other)
