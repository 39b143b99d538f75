-- What fits in one solve: what a participant is given, what it notes and what it posts. After the coupling documentation's usual loop; the project's own in form.
use Rattle.std.specs.Prelude.{◌≡◌, ◌⊎◌, ℕ, ◌-◌, ◌<◌, ◌≤◌, Bool, false, IsTrue, List, ◌++◌, length, zip, slice_get, Some, Ok, All, Contains, sum_by}
use Rattle.cpl_plan.specs.PlanWords.{components_of}
use Rattle.cpl_plan.specs.declared.parts.PlanParts.{PlanParts}
use Rattle.cpl_plan.specs.declared.parts.PlanEntry.{PlanEntry}
use Rattle.cpl_plan.specs.declared.parts.Exchange.{Exchange}
use Rattle.cpl_plan.specs.declared.words.Fault.{Fault}
use Rattle.mesh_data.specs.declared.any_mesh.AnyMesh.{AnyMesh}
use Rattle.coupled_loop.specs.Solving.{Held, Solved}
use Rattle.wave_coupling.specs.Posts.{Post, received, wave_of}
use Rattle.wave_coupling.specs.InputWave.{InputWave}
use Rattle.wave_coupling.specs.Known.{Known, points_of, read_entries, write_entries, width_of}
use Rattle.wave_coupling.specs.Noted.{Reading, Note, reads, writes}
use Rattle.wave_coupling.specs.Solve.{Inputs}
use Rattle.wave_laws.specs.Fitting.{AreValues, IsInitialWave, IsInputWave, IsPostedWave, count_of}

-- the meshes that a participant knows, with its own
abbrev pub known_by : {State : Type 0} → (meshes : ℕ → List AnyMesh) → (part : ℕ) → Held (List AnyMesh) State Note → Known
known_by meshes part held = record { own = meshes part; received = held.received }

-- a reading has as many Values as its entry
pub record IsReadingOf (plan : PlanParts) (part : ℕ) (known : Known) (reading : Reading) : Type 0 where
  pub entry : PlanEntry
  pub from_one : 1 ≤ reading.entry
  pub named : slice_get (read_entries plan part) (reading.entry - 1) ≡ Some entry
  pub values : AreValues (width_of plan part known entry) reading.values

-- and so has what is written, of all write entries
abbrev pub IsNoteOf : PlanParts → (part : ℕ) → Known → Note → Type 0
IsNoteOf plan part known (reads reading) = IsReadingOf plan part known reading
IsNoteOf plan part known (writes written) = AreValues (sum_by (width_of plan part known) (write_entries plan part)) written.values

module _ (plan : PlanParts) (vertices : ℕ → ℕ) (part : ℕ) where
  -- the meshes of a participant's exchanges have so many vertices
  abbrev pub KnowsMeshes : Known → Type 0
  KnowsMeshes known =
      (x : ℕ) (e : Exchange) → slice_get plan.exchanges x ≡ Some e → (e.from ≡ part) ⊎ (e.to ≡ part)
      → length (points_of plan part known e.mesh) ≡ vertices e.mesh

  -- there is an input for each exchange that the participant receives; it fits, until the time that the solve may reach
  pub record AreInputs (inputs : Inputs) : Type 0 where
    pub later : inputs.start < inputs.latest
    pub each : length inputs.waves ≡ length (received plan part)
    pub fit : (x : ℕ) (e : Exchange) (input : InputWave) → Contains (zip (received plan part) inputs.waves) (x, input) → slice_get plan.exchanges x ≡ Some e
        → IsInputWave inputs.start inputs.latest (components_of plan e) (count_of plan vertices e) input.wave

  -- each exchange that the participant sends has a fitting wave in what it posts for a window, and in its initial post
  abbrev pub IsFittingPost : (start end : ℕ) → Post → Type 0
  IsFittingPost start end post =
      (x : ℕ) (e : Exchange) → slice_get plan.exchanges x ≡ Some e → e.from ≡ part
      → IsPostedWave start end (components_of plan e) (count_of plan vertices e) (wave_of plan e x post)

  abbrev pub IsFittingStart : Post → Type 0
  IsFittingStart post =
      (x : ℕ) (e : Exchange) → slice_get plan.exchanges x ≡ Some e → e.from ≡ part
      → IsInitialWave (components_of plan e) (count_of plan vertices e) (wave_of plan e x post)

  -- what is posted ends after the start: at the latest time, or where the one step of the window has come to
  pub record EndsInTime (start latest : ℕ) (one_step : Bool) (post : Post) : Type 0 where
    pub end : ℕ
    pub after : start < end
    pub before : end ≤ latest
    pub reached : one_step ≡ false → end ≡ latest
    pub waves : IsFittingPost start end post

  -- a solve that was begun with these notes and this kept state
  pub record IsFittingSolve {State : Type 0} (sound : State → Bool) (known : Known) (start latest : ℕ) (one_step : Bool) (notes : List Note) (out : Solved (List AnyMesh) State Note Post Fault) : Type 0 where
    pub added : List Note
    pub noted : out.0.notes ≡ notes ++ added
    pub fit : All (IsNoteOf plan part known) added
    pub state : IsTrue (sound out.0.state)
    pub posts : (post : Post) → out.1 ≡ Ok post → EndsInTime start latest one_step post
