-- A participant's own meshes, none of which is empty, are those that the plan says.
use Rattle.std.proofs.Common.{◌≡◌, ℕ, suc, zero, ◌≤◌, Bool, false, nat_eq, List, [], ◌∷◌, length, slice_get, Option, Some, None, refl, ap, sym, ◌∙◌, arith}
use Rattle.std.specs.List.{list_any}
use Rattle.std.proofs.lemmas.Bool.{or_parts, false≢true}
use Rattle.std.proofs.lemmas.Option.{same_Some}
use Rattle.mesh_data.specs.AnyMeshes.{dimensions_of, vertices_of}
use Rattle.mesh_data.specs.declared.any_mesh.AnyMesh.{AnyMesh}
use Rattle.cpl_plan.specs.declared.parts.PlanParts.{PlanParts}
use Rattle.wave_coupling.specs.Known.{provided_by}
use Rattle.participant_words.specs.Phases.{not_allowed}
use Rattle.participant_words.specs.declared.phase.Call.TheVariants.{BeginInitialize}
use Rattle.participant_words.specs.declared.phase.Phase.{Phase}
use Rattle.participant_words.specs.declared.phase.Phase.TheVariants.{Fresh, Joining, Running, Pending, Done, Final, Stopped}
use Rattle.participant_tables.specs.Named.{Called}
use Rattle.participant_tables.specs.WriteKept.{WriteKept}
use Rattle.participant_tables.specs.declared.read_table.ReadEntry.{ReadEntry}
use Rattle.participant_tables.proofs.NamesOnce.{at_map}
use Rattle.participant_waves.specs.KnownMeshes.{AreMeshesOf}
use Rattle.participant_state.specs.Together.{IsOfPlan, dimensions_in}

abbrev is_empty : AnyMesh → Bool
is_empty mesh = nat_eq (length (vertices_of mesh)) 0

some_vertex : (meshes : List AnyMesh) → list_any is_empty meshes ≡ false → (k : ℕ) (mesh : AnyMesh) → slice_get meshes k ≡ Some mesh → 1 ≤ length (vertices_of mesh)
some_vertex [] none k mesh is = cc
some_vertex (m ∷ meshes) none zero mesh is =
    let same : m ≡ mesh = same_Some m mesh is in
    let full : is_empty mesh ≡ false = sym (ap is_empty same) ∙ (or_parts (is_empty m) (list_any is_empty meshes) none).0 in
    by (length (vertices_of mesh)) full
  where
    by : (n : ℕ) → nat_eq n 0 ≡ false → 1 ≤ n
    by zero full = absurd (false≢true (sym full))
    by (suc n) full = omega arith
some_vertex (m ∷ meshes) none (suc k) mesh is = some_vertex meshes (or_parts (is_empty m) (list_any is_empty meshes) none).1 k mesh is

-- they may be posted
pub own_stand : (plan : PlanParts) (part : ℕ) (names : Called) (own : List AnyMesh) (writes : List WriteKept) (reads : List ReadEntry)
    → IsOfPlan plan part names own writes reads → list_any is_empty own ≡ false → AreMeshesOf plan (provided_by plan part part) own
own_stand plan part names own writes reads of none = record {
  many = of.meshes;
  each = λ k number mesh here there. record {
    dimensions =
        same_Some (dimensions_in plan number) (Some (dimensions_of mesh))
        (sym (at_map (dimensions_in plan) (provided_by plan part part) k number here)
        ∙ ap (λ (ds : List (Option ℕ)). slice_get ds k) (sym of.dimensions)
        ∙ at_map (λ (m : AnyMesh). Some (dimensions_of m)) own k mesh there);
    some = some_vertex own none k mesh there;
  };
}

-- only a fresh participant may do these
pub fresh_begins : (phase : Phase) → not_allowed BeginInitialize phase ≡ None → phase ≡ Fresh
fresh_begins Fresh is = refl
fresh_begins Joining is = cc
fresh_begins Running is = cc
fresh_begins Pending is = cc
fresh_begins Done is = cc
fresh_begins Final is = cc
fresh_begins Stopped is = cc
