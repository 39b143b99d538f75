-- What a step of the system is: an event at the core that is heard, or a step of a solve.
use Rattle.std.proofs.Common.{◌≡◌, ℕ, ◌⊎◌, inl, inr, Bool, true, false, if◌then◌else◌, Option, Some, None, option_map, refl, sym}
use Rattle.std.specs.Option.{option_or}
use Rattle.std.proofs.lemmas.Option.{none-some, same_Some}
use Rattle.coupled_loop.specs.Frames.{Frame}
use Rattle.coupled_loop.specs.CoreState.{Side, CoreState, has_ended, turn_at}
use Rattle.coupled_loop.specs.CoreStep.{Act, is_cut, Reply, core_step, made_at}
use Rattle.coupled_loop.specs.Solving.{Solvers, notes}
use Rattle.coupled_loop.specs.Schedules.{Actor, Actors, Wish, asks, steps, nothing, sides_of, wish_at, becomes, stepped, answered, does, next}

pub mapped_from : {X Y : Type 0} (f : X → Y) (o : Option X) (y : Y) → option_map f o ≡ Some y → (x : X) × (o ≡ Some x) × (y ≡ f x)
mapped_from f None y e = absurd (none-some y e)
mapped_from f (Some x) y e = (x, refl, sym (same_Some (f x) y e))

pub either_of : {X : Type 0} (a b : Option X) (x : X) → option_or a b ≡ Some x → (a ≡ Some x) ⊎ ((a ≡ None) × (b ≡ Some x))
either_of None b x e = inr (refl, e)
either_of (Some y) b x e = inl e

pub unless_from : {X : Type 0} (b : Bool) (o : Option X) (x : X) → (if b then None else o) ≡ Some x → (b ≡ false) × (o ≡ Some x)
unless_from true o x e = absurd (none-some x e)
unless_from false o x e = (refl, e)

pub if_from : {X : Type 0} (b : Bool) (o : Option X) (x : X) → (if b then o else None) ≡ Some x → (b ≡ true) × (o ≡ Some x)
if_from true o x e = (refl, e)
if_from false o x e = absurd (none-some x e)

-- an event is made by one who has not ended
pub made_from : {Mesh Post Inputs Fault : Type 0} (frame : Frame Post Inputs Fault) (sides : CoreState Mesh Post Fault) (part : ℕ) (act : Act Mesh Post Fault)
    (made : Reply Mesh Inputs Fault × Side Mesh Post Fault) → core_step frame sides part act ≡ Some made
    → (has_ended (sides part) ≡ false) × (made_at frame sides part (sides part).place act ≡ Some made)
made_from frame sides part act made = unless_from (has_ended (sides part)) (made_at frame sides part (sides part).place act) made

module _ {Mesh Post Inputs Fault State Run Note : Type 0} (frame : Frame Post Inputs Fault) (solvers : Solvers Mesh Post Inputs Fault State Run Note)
    (actors : Actors Mesh Post Fault State Run Note) (part : ℕ) where
  -- an event of a participant, and what has become of it
  pub record IsEvent (act : Act Mesh Post Fault) (actor : Actor Mesh Post Fault State Run Note) : Type 0 where
    pub reply : Reply Mesh Inputs Fault
    pub side : Side Mesh Post Fault
    pub made : core_step frame (sides_of frame solvers actors) part act ≡ Some (reply, side)
    pub is : actor ≡ answered frame solvers actors part (reply, side)

  -- what is wished is done, or who wishes it is cut
  abbrev pub IsDone : Wish Mesh Post Fault Run → Actor Mesh Post Fault State Run Note → Type 0
  IsDone (asks act) actor =
      IsEvent act actor ⊎ ((core_step frame (sides_of frame solvers actors) part act ≡ None) × IsEvent is_cut actor)
  IsDone (steps run more) actor =
      actor ≡ becomes frame solvers (actors part).side
      (stepped frame solvers part (turn_at (actors part).side.place).0 (turn_at (actors part).side.place).1 more
      (solvers.step part run).1 (notes (solvers.step part run).0 (actors part).held))
  IsDone nothing actor = ⊥

  pub event_of : (act : Act Mesh Post Fault) (actor : Actor Mesh Post Fault State Run Note)
      → option_map (answered frame solvers actors part) (core_step frame (sides_of frame solvers actors) part act) ≡ Some actor → IsEvent act actor
  event_of act actor e =
      let found = mapped_from (answered frame solvers actors part) (core_step frame (sides_of frame solvers actors) part act) actor e in
      record { reply = found.0.0; side = found.0.1; made = found.1; is = found.2 }

  pub done_from : (wished : Wish Mesh Post Fault Run) (actor : Actor Mesh Post Fault State Run Note) → does frame solvers actors part wished ≡ Some actor → IsDone wished actor
  done_from (asks act) actor e =
      let step = core_step frame (sides_of frame solvers actors) part in
      let found = mapped_from (answered frame solvers actors part) (option_or (step act) (step is_cut)) actor e in
      elim (either_of (step act) (step is_cut) found.0 found.1) [
        | inl own ↦ inl (record { reply = found.0.0; side = found.0.1; made = own; is = found.2 })
        | inr (none, cut) ↦ inr (none, record { reply = found.0.0; side = found.0.1; made = cut; is = found.2 })
      ]
  done_from (steps run more) actor e = sym (same_Some _ actor e)
  done_from nothing actor e = none-some actor e

  -- who goes on has not ended, and does what it wishes
  pub kind_of : (actor : Actor Mesh Post Fault State Run Note) → next frame solvers actors part ≡ Some actor
      → (has_ended (actors part).side ≡ false) × IsDone (wish_at frame solvers actors part (actors part).side.place) actor
  kind_of actor = by (has_ended (actors part).side)
    where
      by : (b : Bool) → does frame solvers actors part (if b then nothing else wish_at frame solvers actors part (actors part).side.place) ≡ Some actor
          → (b ≡ false) × IsDone (wish_at frame solvers actors part (actors part).side.place) actor
      by true e = absurd (none-some actor e)
      by false e = (refl, done_from (wish_at frame solvers actors part (actors part).side.place) actor e)
