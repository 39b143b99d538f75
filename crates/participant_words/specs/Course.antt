-- What a participant's deeds have come to: in which phase it is, which meshes it has, what it writes next, in which turn it is and what waits to be made. After the coupling documentation's order of calls; the form is the project's own.
use Rattle.std.specs.Prelude.{ℕ, ℤ, Bool, false, if◌then◌else◌, nat_eq, List, [], map, flat_map, slice_get, Option, None}
use Rattle.std.specs.Option.{option_map_or}
use Rattle.cpl_plan.specs.declared.parts.PlanParts.{PlanParts}
use Rattle.cpl_plan.specs.declared.words.Fault.{Fault}
use Rattle.cpl_plan.specs.declared.words.WatchRow.{WatchRow}
use Rattle.mesh_data.specs.declared.any_mesh.AnyMesh.{AnyMesh}
use Rattle.mesh_data.specs.declared.any_mesh.AnyMesh.TheVariants.{Two, Three}
use Rattle.wave_coupling.specs.InputWave.{InputWave}
use Rattle.wave_coupling.specs.Noted.{Written}
use Rattle.wave_coupling.specs.Known.{Known, provided_by, write_entries}
use Rattle.core_sides.specs.declared.event.Event.{Event}
use Rattle.participant_words.specs.KnownByReply.{known_by}
use Rattle.participant_words.specs.declared.phase.Phase.{Phase}
use Rattle.participant_words.specs.declared.phase.Phase.TheVariants.{Fresh}
use Rattle.participant_words.specs.declared.phase.EventKind.{EventKind}

-- which questions were asked: on initial data, and in this turn on checkpoints
pub record Asked : Type 0 where
  pub initial : Bool
  pub writing : Bool
  pub reading : Bool

-- a turn: its window and iteration, both 0 before initial data are posted, when the window starts, how far the steps have come, until when they may go, for each exchange that is received the mapped input, and what was written at the end of each step
pub record Turn : Type 0 where
  pub window : ℕ
  pub iteration : ℕ
  pub start : ℕ
  pub now : ℕ
  pub latest : ℕ
  pub inputs : List InputWave
  pub written : List Written

pub record Course : Type 0 where
  pub phase : Phase
  -- its own meshes, and those that it received, in order
  pub own : List AnyMesh
  pub received : List AnyMesh
  -- the values that are written next, of each write entry in order
  pub buffers : List (List ℤ)
  pub asked : Asked
  pub turn : Turn
  -- the turns that the newest samples come from, of the inputs that came last
  pub sources : List (ℕ × ℕ)
  -- the last advance has completed a window
  pub complete : Bool
  -- the events that wait to be made, and of what kind the one is that is out
  pub queue : List Event
  pub out : Option EventKind
  -- the fault of the Stop that was queued for an overflow
  pub overflow : Option Fault
  -- how many steps were accepted, and what the watch-points have shown
  pub steps : ℕ
  pub rows : List WatchRow

-- a mesh with no vertex
abbrev pub empty_mesh : (dimensions : ℕ) → AnyMesh
empty_mesh dimensions = if nat_eq dimensions 2 then Two [] else Three []

abbrev pub not_asked : Asked
not_asked = record { initial = false; writing = false; reading = false }

abbrev pub no_turn : Turn
no_turn = record { window = 0; iteration = 0; start = 0; now = 0; latest = 0; inputs = []; written = [] }

module _ (plan : PlanParts) (part : ℕ) where
  -- before the first deed
  abbrev pub opening : Course
  opening = record {
    phase = Fresh;
    own = map (λ mesh. empty_mesh (option_map_or (λ m. m.dimensions) (slice_get plan.meshes mesh) 0)) (provided_by plan part part);
    received = [];
    buffers = map (λ entry. []) (write_entries plan part);
    asked = not_asked;
    turn = no_turn;
    sources = [];
    complete = false;
    queue = [];
    out = None;
    overflow = None;
    steps = 0;
    rows = [];
  }

  -- the meshes that it knows
  abbrev pub known : Course → Known
  known c = known_by plan part c.own c.received

-- all that is written next, entry after entry
abbrev pub written_next : Course → List ℤ
written_next c = flat_map (λ values. values) c.buffers
