-- What may happen at the core, one event after another, and what each participant is told there. The project's own.
use Rattle.std.specs.Prelude.{◌≡◌, ℕ, ◌<◌, nat_eq, if◌then◌else◌, List, [], ◌∷◌, ◌++◌, Option, Some, None}
use Rattle.coupled_loop.specs.Numbered.{put}
use Rattle.coupled_loop.specs.Endings.{Judgement}
use Rattle.coupled_loop.specs.Frames.{Frame}
use Rattle.coupled_loop.specs.CoreState.{Place, taking, judging, Side, CoreState, start_side}
use Rattle.coupled_loop.specs.CoreStep.{Act, Reply, taken, judged, core_step}

pub record Entry (Mesh Post Fault : Type 0) : Type 0 where
  pub part : ℕ
  pub act : Act Mesh Post Fault

-- what a participant is told in window w and iteration k: its inputs, or the judgement
pub data Told (Inputs Fault : Type 0) : Type 0 where
  told_inputs : (w k : ℕ) → Inputs → Told Inputs Fault
  told_judgement : (w k : ℕ) → Judgement Fault → Told Inputs Fault

-- what is told by a reply at a place
abbrev pub told_at : {Mesh Inputs Fault : Type 0} → Place → Reply Mesh Inputs Fault → List (Told Inputs Fault)
told_at (taking w k) (taken inputs) = told_inputs w k inputs ∷ []
told_at (judging scheme w k) (judged judgement) = told_judgement w k judgement ∷ []
told_at _ _ = []

-- where everything begins
abbrev pub opening_state : {Mesh Post Fault : Type 0} → CoreState Mesh Post Fault
opening_state part = start_side

module _ {Mesh Post Inputs Fault : Type 0} (frame : Frame Post Inputs Fault) where
  -- the entries are made one after another, each where it is enabled, and lead from these sides to those
  abbrev pub Happens : CoreState Mesh Post Fault → List (Entry Mesh Post Fault) → CoreState Mesh Post Fault → Type 0
  Happens from [] to = from ≡ to
  Happens from (entry ∷ rest) to =
      (reply : Reply Mesh Inputs Fault) × (side : Side Mesh Post Fault)
      × (entry.part < frame.parts)
      × (core_step frame from entry.part entry.act ≡ Some (reply, side))
      × Happens (put from entry.part side) rest to

  abbrev pub IsLegal : List (Entry Mesh Post Fault) → CoreState Mesh Post Fault → Type 0
  IsLegal history to = Happens opening_state history to

  -- what a participant is told at an event of anybody's, and then
  abbrev pub told_then : (CoreState Mesh Post Fault → List (Told Inputs Fault)) → CoreState Mesh Post Fault → (one part : ℕ) → Option (Reply Mesh Inputs Fault × Side Mesh Post Fault) → List (Told Inputs Fault)
  told_then further from one part None = []
  told_then further from one part (Some made) =
      (if nat_eq one part then told_at (from one).place made.0 else []) ++ further (put from one made.1)

  -- what a participant has been told, in order
  abbrev pub told : (part : ℕ) → List (Entry Mesh Post Fault) → CoreState Mesh Post Fault → List (Told Inputs Fault)
  told part [] from = []
  told part (entry ∷ rest) from = told_then (told part rest) from entry.part part (core_step frame from entry.part entry.act)
