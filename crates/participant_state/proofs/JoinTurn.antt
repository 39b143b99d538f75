-- A turn that begins: when it ends at the latest, and what is kept then.
use Rattle.std.proofs.Common.{◌≡◌, ℕ, ◌*◌, Bool, true, false, ◌&&◌, nat_eq, if◌then◌else◌, List, [], map, length, Some, refl, ap, sym, ◌∙◌, arith}
use Rattle.std.proofs.lemmas.List.Elements.{All-map}
use Rattle.mesh_data.specs.AnyMeshes.{vertices_of}
use Rattle.mesh_data.specs.declared.any_mesh.AnyMesh.{AnyMesh}
use Rattle.cpl_plan.specs.Windows.{window_end, latest_end}
use Rattle.cpl_plan.specs.declared.parts.PlanParts.{PlanParts}
use Rattle.cpl_plan.specs.declared.parts.WindowMethod.{WindowMethod}
use Rattle.cpl_plan.specs.declared.parts.WindowMethod.TheVariants.{Fixed, FirstParticipant}
use Rattle.coupled_loop.specs.PlanFrames.{window_maker}
use Rattle.wave_coupling.specs.Coupling.{is_first_step, makes_windows}
use Rattle.participant_words.specs.Begun.{end_by, latest_of, time_or_zero}
use Rattle.participant_words.specs.Course.{Turn}
use Rattle.participant_tables.specs.Named.{Called}
use Rattle.participant_tables.specs.WriteKept.{WriteKept}
use Rattle.participant_tables.specs.WriteSteps.{forgotten}
use Rattle.participant_tables.specs.declared.read_table.ReadEntry.{ReadEntry}
use Rattle.participant_state.specs.Kept.{buffers_of}
use Rattle.participant_state.specs.Together.{AreFilled, IsOfPlan, shape_of}
use Rattle.participant_state.proofs.ListPlaces.{map_all_untouched}

-- the samples are forgotten, and nothing else
pub buffers_stay : (writes : List WriteKept) → buffers_of (map forgotten writes) ≡ buffers_of writes
buffers_stay writes = map_all_untouched (λ e. e.values) forgotten writes (λ e. refl)

pub plan_stays : (plan : PlanParts) (part : ℕ) (names : Called) (own : List AnyMesh) (writes : List WriteKept) (reads : List ReadEntry)
    → IsOfPlan plan part names own writes reads → IsOfPlan plan part names own (map forgotten writes) reads
plan_stays plan part names own writes reads is = record {
  participant = is.participant;
  named = is.named;
  meshes = is.meshes;
  dimensions = is.dimensions;
  written = map_all_untouched shape_of forgotten writes (λ e. refl) ∙ is.written;
  read = is.read;
}

pub filled_anew : (own : List AnyMesh) (writes : List WriteKept) (times : List ℕ) → AreFilled own writes times → AreFilled own (map forgotten writes) []
filled_anew own writes times are = record {
  values = λ place mesh at.
      All-map (λ (e : WriteKept). e.mesh ≡ place → length e.values ≡ length (vertices_of mesh) * e.components) forgotten writes (are.values place mesh at);
  samples = All-map (λ (e : WriteKept). map (λ s. s.time) e.samples ≡ []) forgotten writes (λ k d within. refl);
  few = omega (arith);
}
