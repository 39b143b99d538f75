-- Who ends keeps what it has noted and given.
use Rattle.std.proofs.Common.{◌≡◌, ℕ, ◌⊎◌, inl, inr, Some, IsTrue, refl, ap, subst, ◌∙◌}
use Rattle.std.proofs.lemmas.Option.{same_Some}
use Rattle.coupled_loop.specs.Endings.{Ending, faulted, no_memory, cut}
use Rattle.coupled_loop.specs.Frames.{Frame}
use Rattle.coupled_loop.specs.CoreState.{Place, sending, collecting, opening, taking, within, judging, Side, CoreState, has_ended}
use Rattle.coupled_loop.specs.CoreStep.{Act, stops, lacks_memory, ends, is_cut, Reply, cut_off, over, made_at, ends_with, is_cut_off, ending_at}
use Rattle.coupled_loop.specs.Solving.{Solvers, Held}
use Rattle.coupled_loop.specs.Schedules.{Actor, Actors, hears, sides_of}
use Rattle.core_laws.proofs.StepKinds.{if_from, made_from, IsEvent}

-- with this event a participant ends
abbrev pub IsStop : {Mesh Post Fault : Type 0} → Act Mesh Post Fault → Type 0
IsStop (stops fault) = Unit {0}
IsStop lacks_memory = Unit {0}
IsStop ends = Unit {0}
IsStop is_cut = Unit {0}
IsStop _ = ⊥

module _ {Mesh Post Inputs Fault : Type 0} (frame : Frame Post Inputs Fault) (sides : CoreState Mesh Post Fault) (part : ℕ) where
  pub record IsEndOf (made : Reply Mesh Inputs Fault × Side Mesh Post Fault) : Type 0 where
    pub ending : Ending Fault
    pub reply : (made.0 ≡ over) ⊎ (made.0 ≡ cut_off)
    pub side : made.1 ≡ ends_with ending (sides part)

  over_with : (ending : Ending Fault) (made : Reply Mesh Inputs Fault × Side Mesh Post Fault) → Some (over, ends_with ending (sides part)) ≡ Some made → IsEndOf made
  over_with ending made e =
      subst IsEndOf (same_Some (over, ends_with ending (sides part)) made e) (record { ending = ending; reply = inl refl; side = refl })

  cut_with : (made : Reply Mesh Inputs Fault × Side Mesh Post Fault) → Some (cut_off, ends_with cut (sides part)) ≡ Some made → IsEndOf made
  cut_with made e =
      subst IsEndOf (same_Some (cut_off, ends_with cut (sides part)) made e) (record { ending = cut; reply = inr refl; side = refl })

  pub end_of : (place : Place) (act : Act Mesh Post Fault) (made : Reply Mesh Inputs Fault × Side Mesh Post Fault)
      → IsStop act → made_at frame sides part place act ≡ Some made → IsEndOf made
  end_of sending (stops fault) made stop e = over_with (faulted fault) made e
  end_of collecting (stops fault) made stop e = over_with (faulted fault) made e
  end_of opening (stops fault) made stop e = over_with (faulted fault) made e
  end_of (taking w k) (stops fault) made stop e = over_with (faulted fault) made e
  end_of (within w k) (stops fault) made stop e = over_with (faulted fault) made e
  end_of (judging scheme w k) (stops fault) made stop e = over_with (faulted fault) made e
  end_of place lacks_memory made stop e = over_with no_memory made e
  end_of place ends made stop e = over_with (ending_at frame sides part place) made e
  end_of place is_cut made stop e = cut_with made (if_from (is_cut_off frame sides part place) _ made e).1
  end_of place act made stop e = absurd stop

-- one has ended with what the other has noted and given
pub record HasStopped {Mesh Post Fault State Run Note : Type 0} (one other : Actor Mesh Post Fault State Run Note) : Type 0 where
  pub ended : IsTrue (has_ended one.side)
  pub notes : one.held.notes ≡ other.held.notes
  pub given : one.side.given ≡ other.side.given
  pub sent : one.side.sent ≡ other.side.sent

module _ {Mesh Post Inputs Fault State Run Note : Type 0} (frame : Frame Post Inputs Fault) (solvers : Solvers Mesh Post Inputs Fault State Run Note)
    (actors : Actors Mesh Post Fault State Run Note) (part : ℕ) where
  heard_same : (w k : ℕ) (reply : Reply Mesh Inputs Fault) (held : Held Mesh State Note) → (reply ≡ over) ⊎ (reply ≡ cut_off) → (hears frame solvers part w k reply held).0 ≡ held
  heard_same w k reply held (inl e) = ap (λ (r : Reply Mesh Inputs Fault). (hears frame solvers part w k r held).0) e
  heard_same w k reply held (inr e) = ap (λ (r : Reply Mesh Inputs Fault). (hears frame solvers part w k r held).0) e

  pub stopped_by : (act : Act Mesh Post Fault) (actor : Actor Mesh Post Fault State Run Note) → IsStop act → IsEvent frame solvers actors part act actor → HasStopped actor (actors part)
  stopped_by act actor stop event =
      let made = made_from frame (sides_of frame solvers actors) part act (event.reply, event.side) event.made in
      let end = end_of frame (sides_of frame solvers actors) part (actors part).side.place act (event.reply, event.side) stop made.1 in
      let side : actor.side ≡ ends_with end.ending (actors part).side = ap (λ (a : Actor Mesh Post Fault State Run Note). a.side) event.is ∙ end.side in
      let held : actor.held ≡ (actors part).held = ap (λ (a : Actor Mesh Post Fault State Run Note). a.held) event.is ∙ heard_same _ _ event.reply (actors part).held end.reply in
      record {
        ended = ap (λ (s : Side Mesh Post Fault). has_ended s) side;
        notes = ap (λ (h : Held Mesh State Note). h.notes) held;
        given = ap (λ (s : Side Mesh Post Fault). s.given) side;
        sent = ap (λ (s : Side Mesh Post Fault). s.sent) side;
      }
