-- What holds of a participant along every schedule: what it has given fits in each later look, a solve on its way fits, and its notes fit. Each claim speaks of all later looks, so it stays as it is while others go on.
use Rattle.std.proofs.Common.{◌≡◌, ◌⊎◌, ℕ, zero, suc, ◌+◌, ◌≤◌, Bool, List, length, map, slice_get, Some, None, IsTrue, All, sym, ◌∙◌}
use Rattle.mesh_data.specs.declared.any_mesh.AnyMesh.{AnyMesh}
use Rattle.cpl_plan.specs.PlanWords.{components_of}
use Rattle.cpl_plan.specs.declared.parts.PlanParts.{PlanParts}
use Rattle.cpl_plan.specs.declared.parts.Exchange.{Exchange}
use Rattle.cpl_plan.specs.declared.parts.Scheme.{Scheme}
use Rattle.cpl_plan.specs.declared.words.Item.{Item}
use Rattle.cpl_plan.specs.declared.words.Item.TheVariants.{Completed, Posted}
use Rattle.cpl_plan.specs.declared.words.Fault.{Fault}
use Rattle.coupled_loop.specs.Given.{Gift, Look}
use Rattle.coupled_loop.specs.CoreState.{Place, sending, collecting, opening, taking, within, judging}
use Rattle.coupled_loop.specs.Settled.{Extends, IsInOrder}
use Rattle.coupled_loop.specs.Solving.{Held}
use Rattle.coupled_loop.specs.Schedules.{Actor, Stage, resting, running, ready, broken}
use Rattle.coupled_loop.specs.PlanFrames.{group_of, owners_of}
use Rattle.core_laws.proofs.Looks.{extends_further}
use Rattle.wave_coupling.specs.Posts.{Wave, Post, wave_of}
use Rattle.wave_coupling.specs.Noted.{Note}
use Rattle.wave_coupling.specs.Solve.{Run}
use Rattle.wave_coupling.specs.Coupling.{start_of}
use Rattle.wave_laws.specs.Fitting.{IsInitialWave, IsPostedWave, IsRelaxedBelow, count_of, end_told}
use Rattle.wave_values.specs.Fits.{IsNoteOf, EndsInTime}
use Rattle.wave_values.proofs.StepsFit.{IsRunFitting}
use Rattle.wave_values.proofs.TurnsFit.{IsTurn}
use Rattle.wave_readings.specs.Setting.{known_of}

module _ (plan : PlanParts) (vertices : ℕ → ℕ) where
  -- the wave of an item, as a look tells when its window starts and ends
  abbrev pub WaveFits : Item → Look Post → Exchange → Wave → Type 0
  WaveFits (Completed zero) g e wave = IsInitialWave (components_of plan e) (count_of plan vertices e) wave
  WaveFits (Completed (suc v)) g e wave = IsPostedWave (start_of plan g (suc v)) (end_told plan g (suc v)) (components_of plan e) (count_of plan vertices e) wave
  WaveFits (Posted w k) g e wave = IsPostedWave (start_of plan g w) (end_told plan g w) (components_of plan e) (count_of plan vertices e) wave

  abbrev pub GiftFits : Look Post → (part : ℕ) → Item → Post → Type 0
  GiftFits f part item post =
      (x : ℕ) (e : Exchange) → slice_get plan.exchanges x ≡ Some e → e.from ≡ part → (g : Look Post) → Extends f g → IsInOrder g → WaveFits item g e (wave_of plan e x post)

  -- what a participant has given fits in each later look
  abbrev pub GiftsFit : Look Post → (part : ℕ) → Type 0
  GiftsFit f part = (item : Item) (gift : Gift Post) → f part item ≡ Some gift → GiftFits f part item gift.post

  -- the iterations of a window before a turn were relaxed
  abbrev pub Relaxed : Look Post → (part w k : ℕ) → Type 0
  Relaxed f part w k =
      (number : ℕ) (scheme : Scheme) → group_of plan part ≡ Some number → slice_get plan.schemes number ≡ Some scheme → (g : Look Post) → Extends f g → IsInOrder g
      → IsRelaxedBelow plan g scheme w k

  module _ {State : Type 0} (sound : ℕ → State → Bool) (meshes : ℕ → List AnyMesh) where
    pub record RunsFit (f : Look Post) (part w : ℕ) (run : Run State) (more : ℕ) : Type 0 where
      pub start : ℕ
      pub turn : IsTurn plan f part w start run.latest run.one_step
      pub fits : IsRunFitting plan part (sound part) start run
      pub known : run.known ≡ known_of plan meshes part
      pub room : length run.written + (more + 1) ≤ 1024

    pub record PostFits (f : Look Post) (part w : ℕ) (post : Post) : Type 0 where
      pub start : ℕ
      pub latest : ℕ
      pub one_step : Bool
      pub turn : IsTurn plan f part w start latest one_step
      pub ends : EndsInTime plan vertices part start latest one_step post

    abbrev pub StageFits : Look Post → (part w : ℕ) → Stage (Run State) Post Fault → Type 0
    StageFits f part w resting = Unit {0}
    StageFits f part w (running run more) = RunsFit f part w run more
    StageFits f part w (ready post) = PostFits f part w post
    StageFits f part w (broken why) = Unit {0}

    abbrev pub PlaceFits : Look Post → (part : ℕ) → Place → Held (List AnyMesh) State Note → Stage (Run State) Post Fault → Type 0
    PlaceFits f part sending held stage = Unit {0}
    PlaceFits f part collecting held stage = Unit {0}
    PlaceFits f part opening held stage = held.received ≡ map meshes (owners_of plan part)
    PlaceFits f part (taking w k) held stage = (held.received ≡ map meshes (owners_of plan part)) × Relaxed f part w k
    PlaceFits f part (within w k) held stage = (held.received ≡ map meshes (owners_of plan part)) × Relaxed f part w k × StageFits f part w stage
    PlaceFits f part (judging scheme w k) held stage = (held.received ≡ map meshes (owners_of plan part)) × Relaxed f part w k

    pub record HeldFits (part : ℕ) (held : Held (List AnyMesh) State Note) : Type 0 where
      pub state : IsTrue (sound part held.state)
      pub kept : IsTrue (sound part held.kept)
      pub notes : All (IsNoteOf plan part (known_of plan meshes part)) held.notes

    pub record ActorFits (f : Look Post) (part : ℕ) (actor : Actor (List AnyMesh) Post Fault State (Run State) Note) : Type 0 where
      pub gifts : GiftsFit f part
      pub held : HeldFits part actor.held
      pub place : PlaceFits f part actor.side.place actor.held actor.stage
      pub sent : (actor.side.sent ≡ None) ⊎ (actor.side.sent ≡ Some (meshes part))

    module _ (f g : Look Post) (extends : Extends f g) where
      pub relaxed_on : (part w k : ℕ) → Relaxed f part w k → Relaxed g part w k
      relaxed_on part w k is number scheme grouped at h further order = is number scheme grouped at h (extends_further f g h extends further) order

      pub turn_on : (part w start latest : ℕ) (one_step : Bool) → IsTurn plan f part w start latest one_step → IsTurn plan g part w start latest one_step
      turn_on part w start latest one_step is = record {
        makes = is.makes;
        there = λ h further order. is.there h (extends_further f g h extends further) order;
        starts = λ h further order. is.starts h (extends_further f g h extends further) order;
        ends = λ many h further order. is.ends many h (extends_further f g h extends further) order;
      }

      pub stage_on : (part w : ℕ) (stage : Stage (Run State) Post Fault) → StageFits f part w stage → StageFits g part w stage
      stage_on part w resting is = tt
      stage_on part w (running run more) is = record {
        start = is.start;
        turn = turn_on part w is.start run.latest run.one_step is.turn;
        fits = is.fits;
        known = is.known;
        room = is.room;
      }
      stage_on part w (ready post) is = record {
        start = is.start;
        latest = is.latest;
        one_step = is.one_step;
        turn = turn_on part w is.start is.latest is.one_step is.turn;
        ends = is.ends;
      }
      stage_on part w (broken why) is = tt

      pub place_on : (part : ℕ) (place : Place) (held : Held (List AnyMesh) State Note) (stage : Stage (Run State) Post Fault) → PlaceFits f part place held stage → PlaceFits g part place held stage
      place_on part sending held stage is = tt
      place_on part collecting held stage is = tt
      place_on part opening held stage is = is
      place_on part (taking w k) held stage is = (is.0, relaxed_on part w k is.1)
      place_on part (within w k) held stage is = (is.0, relaxed_on part w k is.1, stage_on part w stage is.2)
      place_on part (judging scheme w k) held stage is = (is.0, relaxed_on part w k is.1)

      -- a gift that was there
      pub gift_on : (part : ℕ) (item : Item) (post : Post) → GiftFits f part item post → GiftFits g part item post
      gift_on part item post is x e at sends h further order = is x e at sends h (extends_further f g h extends further) order

      -- what others are stays
      pub actor_on : (part : ℕ) (actor : Actor (List AnyMesh) Post Fault State (Run State) Note) → ((item : Item) → g part item ≡ f part item) → ActorFits f part actor → ActorFits g part actor
      actor_on part actor same is = record {
        gifts = λ item gift at. gift_on part item gift.post (is.gifts item gift (sym (same item) ∙ at));
        held = is.held;
        place = place_on part actor.side.place actor.held actor.stage is.place;
        sent = is.sent;
      }
