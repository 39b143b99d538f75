-- The invariant of the core: where a participant stands tells what has been given.
use Rattle.std.proofs.Common.{◌≡◌, ℕ, suc, ◌-◌, ◌<◌, ◌≤◌, ◌⊎◌, List, [], Option, Some, None, IsTrue, IsSome}
use Rattle.cpl_plan.specs.declared.words.Item.TheVariants.{Completed, Posted}
use Rattle.coupled_loop.specs.Given.{Gift, Look}
use Rattle.coupled_loop.specs.Frames.{Frame}
use Rattle.coupled_loop.specs.CoreState.{Place, sending, collecting, opening, taking, within, judging, CoreState, look_in}
use Rattle.coupled_loop.specs.Settled.{Extends, IsInOrder, IsProvided, HavePostedBelow}

module _ {Post Inputs Fault : Type 0} (frame : Frame Post Inputs Fault) where
  -- whether there is a window w does not change any more
  abbrev pub IsDecided : Look Post → (w : ℕ) → Type 0
  IsDecided f w = (g : Look Post) → Extends f g → IsInOrder g → frame.is_there f w ≡ frame.is_there g w

  -- so far a participant has posted turns before (w, k) alone
  abbrev pub HasPostedBefore : Look Post → (part w k : ℕ) → Type 0
  HasPostedBefore f part w k = (v j : ℕ) → IsSome (f part (Posted v j)) → (v < w) ⊎ ((v ≡ w) × (j < k))

  -- an iteration that a participant may come to
  abbrev pub IsIteration : (group : Option ℕ) → (k : ℕ) → Type 0
  IsIteration None k = k ≡ 1
  IsIteration (Some scheme) k = (1 ≤ k) × (k ≤ frame.most_iterations scheme)

  -- it stands before the turn (w, k)
  pub record IsBefore (f : Look Post) (part w k : ℕ) : Type 0 where
    pub window : 1 ≤ w
    pub iteration : IsIteration (frame.group part) k
    pub completed : IsSome (f part (Completed (w - 1)))
    pub uncompleted : (v : ℕ) → IsSome (f part (Completed v)) → v < w
    pub decided : IsDecided f w
    pub repeated : 1 < k → IsTrue (frame.is_there f w)
    pub group : (scheme : ℕ) → frame.group part ≡ Some scheme → HavePostedBelow frame f scheme w k

  -- what a place tells
  abbrev pub Stands : Look Post → (part : ℕ) → Place → List (Gift Post) → Type 0
  Stands f part sending given = given ≡ []
  Stands f part collecting given = given ≡ []
  Stands f part opening given = given ≡ []
  Stands f part (taking w k) given = IsBefore f part w k × HasPostedBefore f part w k
  Stands f part (within w k) given = IsBefore f part w k × IsProvided frame f part w k × HasPostedBefore f part w k
  Stands f part (judging scheme w k) given =
      (frame.group part ≡ Some scheme) × IsBefore f part w k × IsProvided frame f part w k × IsSome (f part (Posted w k))
      × HasPostedBefore f part w (suc k)

  -- who has not sent its meshes has none there
  abbrev pub Unsent : {Mesh : Type 0} → Place → Option Mesh → Type 0
  Unsent sending sent = sent ≡ None
  Unsent collecting sent = Unit {0}
  Unsent opening sent = Unit {0}
  Unsent (taking w k) sent = Unit {0}
  Unsent (within w k) sent = Unit {0}
  Unsent (judging scheme w k) sent = Unit {0}

  pub record IsWell {Mesh : Type 0} (sides : CoreState Mesh Post Fault) : Type 0 where
    pub in_order : IsInOrder (look_in sides)
    pub stands : (part : ℕ) → Stands (look_in sides) part (sides part).place (sides part).given
    pub unsent : (part : ℕ) → Unsent (sides part).place (sides part).sent
