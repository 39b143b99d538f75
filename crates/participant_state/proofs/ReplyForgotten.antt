-- As a window ends, or is repeated, its samples are forgotten, and nothing else.
use Rattle.std.proofs.Common.{◌≡◌, ℕ, ◌*◌, List, [], map, length, refl, ◌∙◌, arith}
use Rattle.std.proofs.lemmas.List.Elements.{All-map, All-weaker}
use Rattle.mesh_data.specs.AnyMeshes.{vertices_of}
use Rattle.mesh_data.specs.declared.any_mesh.AnyMesh.{AnyMesh}
use Rattle.cpl_plan.specs.declared.parts.PlanParts.{PlanParts}
use Rattle.participant_tables.specs.Named.{Called}
use Rattle.participant_tables.specs.WriteKept.{WriteKept}
use Rattle.participant_tables.specs.WriteSteps.{forgotten}
use Rattle.participant_tables.specs.declared.read_table.ReadEntry.{ReadEntry}
use Rattle.participant_state.specs.Kept.{buffers_of}
use Rattle.participant_state.specs.Together.{AreFilled, IsOfPlan, shape_of}
use Rattle.participant_state.proofs.ListPlaces.{map_all_untouched}

pub buffers_stay : (writes : List WriteKept) → buffers_of (map forgotten writes) ≡ buffers_of writes
buffers_stay writes = map_all_untouched (λ e. e.values) forgotten writes (λ e. refl)

shapes_stay : (writes : List WriteKept) → map shape_of (map forgotten writes) ≡ map shape_of writes
shapes_stay writes = map_all_untouched shape_of forgotten writes (λ e. refl)

pub of_plan_still : (plan : PlanParts) (part : ℕ) (names : Called) (own : List AnyMesh) (writes : List WriteKept) (reads : List ReadEntry)
    → IsOfPlan plan part names own writes reads → IsOfPlan plan part names own (map forgotten writes) reads
of_plan_still plan part names own writes reads is = record {
  participant = is.participant;
  named = is.named;
  meshes = is.meshes;
  dimensions = is.dimensions;
  written = shapes_stay writes ∙ is.written;
  read = is.read;
}

pub filled_still : (own : List AnyMesh) (writes : List WriteKept) (times : List ℕ) → AreFilled own writes times → AreFilled own (map forgotten writes) []
filled_still own writes times is = record {
  values = λ place mesh at.
      All-map (λ (e : WriteKept). e.mesh ≡ place → length e.values ≡ length (vertices_of mesh) * e.components) forgotten writes (is.values place mesh at);
  samples =
      All-map (λ (e : WriteKept). map (λ s. s.time) e.samples ≡ []) forgotten writes
      (All-weaker (λ (e : WriteKept). map (λ s. s.time) e.samples ≡ times) (λ e. map (λ s. s.time) (forgotten e).samples ≡ []) (λ e same. refl) writes is.samples);
  few = omega arith;
}
