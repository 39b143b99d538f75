-- The values of entries: how many there are at a vertex, and those that are written next after more vertices were set or rows were written. From the coupling documentation, where data lie at the vertices of a mesh.
use Rattle.std.specs.Prelude.{ℕ, zero, suc, ◌*◌, ◌/◌, if◌then◌else◌, List, [], ◌∷◌, ◌++◌, map, take, drop, zip, length, replicate, slice_get, ℤ, pos}
use Rattle.std.specs.List.{range_with_len}
use Rattle.std.specs.Option.{option_map_or}
use Rattle.cpl_plan.specs.PlanWords.{components_on}
use Rattle.cpl_plan.specs.declared.parts.PlanParts.{PlanParts}
use Rattle.cpl_plan.specs.declared.parts.PlanEntry.{PlanEntry}
use Rattle.mesh_data.specs.declared.any_mesh.AnyMesh.{AnyMesh}
use Rattle.mesh_data.specs.declared.any_mesh.AnyMesh.TheVariants.{Two, Three}
use Rattle.mesh_data.specs.AnyMeshes.{vertices_of, dimensions_of}
use Rattle.field_buffers.specs.Rows.{with_rows}
use Rattle.wave_coupling.specs.Known.{read_entries, write_entries}
use Rattle.participant_words.specs.Course.{Course}
use Rattle.participant_words.specs.Named.{is_on}

-- what stands at a place of a list becomes something else
abbrev pub changed_at : {X : Type 0} → (X → X) → (place : ℕ) → List X → List X
changed_at change place [] = []
changed_at change zero (x ∷ xs) = change x ∷ xs
changed_at change (suc place) (x ∷ xs) = x ∷ changed_at change place xs

-- coordinates that stand one after another, as points of so many dimensions
abbrev pub points_in : (dimensions : ℕ) → List ℤ → List (List ℤ)
points_in dimensions coordinates =
    map (λ i. take dimensions (drop (i * dimensions) coordinates)) (range_with_len 0 (length coordinates / dimensions))

-- a mesh with more vertices
abbrev pub with_points : (points : List (List ℤ)) → AnyMesh → AnyMesh
with_points points (Two mesh) = Two (mesh ++ points)
with_points points (Three mesh) = Three (mesh ++ points)

abbrev pub zeros : (count : ℕ) → List ℤ
zeros count = replicate count (pos 0)

-- how many vertices the mesh at a place has, and of how many dimensions it is
abbrev pub size_at : Course → (place : ℕ) → ℕ
size_at c place = option_map_or (λ mesh. length (vertices_of mesh)) (slice_get c.own place) 0

abbrev pub dimensions_at : Course → (place : ℕ) → ℕ
dimensions_at c place = option_map_or dimensions_of (slice_get c.own place) 0

module _ (plan : PlanParts) (part : ℕ) where
  -- how many components an entry has at a vertex
  abbrev pub components_in : PlanEntry → ℕ
  components_in entry = option_map_or (λ n. n) (components_on plan entry.data_id entry.mesh) 0

  abbrev pub components_written : (entry : ℕ) → ℕ
  components_written entry = option_map_or components_in (slice_get (write_entries plan part) entry) 0

  abbrev pub components_read : (entry : ℕ) → ℕ
  components_read entry = option_map_or components_in (slice_get (read_entries plan part) entry) 0

  -- an entry on the mesh at a place has zeros at its new vertices
  abbrev pub grown : (place more : ℕ) → PlanEntry → List ℤ → List ℤ
  grown place more entry values =
      if is_on plan part place entry then values ++ zeros (more * components_in entry) else values

  abbrev pub grown_buffers : (place more : ℕ) → List (List ℤ) → List (List ℤ)
  grown_buffers place more buffers = map (λ at. grown place more at.0 at.1) (zip (write_entries plan part) buffers)

  abbrev pub written_buffers : (entry : ℕ) → (vertices : List ℕ) → (rows : List ℤ) → List (List ℤ) → List (List ℤ)
  written_buffers entry vertices rows buffers = changed_at (with_rows (components_written entry) vertices rows) entry buffers
