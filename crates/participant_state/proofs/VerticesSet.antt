-- Vertices that are set, and the zeros that they bring to the entries on their mesh.
use Rattle.std.proofs.Common.{◌≡◌, ℕ, ◌*◌, Bool, true, false, nat_eq, if◌then◌else◌, List, [], ◌∷◌, ◌++◌, map, zip, replicate, slice_get, Option, ℤ, pos, refl, ap, sym, ◌∙◌}
use Rattle.std.specs.Option.{option_map_or}
use Rattle.mesh_data.specs.AnyMeshes.{dimensions_of}
use Rattle.mesh_data.specs.declared.any_mesh.AnyMesh.{AnyMesh}
use Rattle.cpl_plan.specs.declared.parts.PlanParts.{PlanParts}
use Rattle.cpl_plan.specs.declared.parts.PlanEntry.{PlanEntry}
use Rattle.wave_coupling.specs.Known.{write_entries}
use Rattle.participant_tables.specs.AtPlace.{at_place}
use Rattle.participant_tables.specs.Vertices.{with_points as with_coordinates, with_vertices}
use Rattle.participant_tables.specs.WriteKept.{WriteKept}
use Rattle.participant_tables.specs.WriteSteps.{opening_write, opening_writes, grown}
use Rattle.participant_words.specs.Entries.{changed_at, points_in, with_points, grown_buffers, grown as grown_values}
use Rattle.participant_state.specs.Kept.{buffers_of}
use Rattle.participant_state.specs.Together.{shape_of}
use Rattle.participant_state.proofs.CallsChunks.{points_same}
use Rattle.participant_state.proofs.ListPlaces.{at_place_is, map_all_untouched}

-- the mesh at a place has its points, told by coordinates or one by one
pub points_set : (own : List AnyMesh) (place : ℕ) (coordinates : List ℤ) (d : ℕ) → option_map_or dimensions_of (slice_get own place) 0 ≡ d
    → at_place (with_coordinates coordinates) place own ≡ changed_at (with_points (points_in d coordinates)) place own
points_set own place coordinates d is =
    at_place_is (with_coordinates coordinates) (with_points (points_in d coordinates)) own place
    (λ mesh at. ap (λ (points : List (List ℤ)). with_vertices points mesh) (points_same (dimensions_of mesh) coordinates)
    ∙ ap (λ (n : ℕ). with_vertices (points_in n coordinates) mesh)
    (sym (ap (λ (o : Option AnyMesh). option_map_or dimensions_of o 0) at) ∙ is))

pub grown-samples : (place more : ℕ) (e : WriteKept) → (grown place more e).samples ≡ e.samples
grown-samples place more e = elim (nat_eq e.mesh place) as (λ b. (if b then record e { values = e.values ++ replicate (more * e.components) (pos 0) } else e).samples ≡ e.samples) [
  | true ↦ refl
  | false ↦ refl
]

grown-shape : (place more : ℕ) (e : WriteKept) → shape_of (grown place more e) ≡ shape_of e
grown-shape place more e = elim (nat_eq e.mesh place) as (λ b. shape_of (if b then record e { values = e.values ++ replicate (more * e.components) (pos 0) } else e) ≡ shape_of e) [
  | true ↦ refl
  | false ↦ refl
]

pub samples_kept : (place more : ℕ) (writes : List WriteKept) → map (λ e. e.samples) (map (grown place more) writes) ≡ map (λ e. e.samples) writes
samples_kept place more writes = map_all_untouched (λ e. e.samples) (grown place more) writes (grown-samples place more)

pub shapes_kept : (place more : ℕ) (writes : List WriteKept) → map shape_of (map (grown place more) writes) ≡ map shape_of writes
shapes_kept place more writes = map_all_untouched shape_of (grown place more) writes (grown-shape place more)

abbrev first_or : {X : Type 0} → X → List X → X
first_or d [] = d
first_or d (x ∷ xs) = x

abbrev rest_of : {X : Type 0} → List X → List X
rest_of [] = []
rest_of (x ∷ xs) = xs

module _ (plan : PlanParts) (part : ℕ) where
  one_grown : (place more : ℕ) (e : WriteKept) (entry : PlanEntry) → shape_of e ≡ opening_write plan part entry
      → (grown place more e).values ≡ grown_values plan part place more entry e.values
  one_grown place more e entry is =
      by (nat_eq e.mesh place) ∙ ap (λ (o : WriteKept). if nat_eq o.mesh place then e.values ++ replicate (more * o.components) (pos 0) else e.values) is
    where
      by : (b : Bool) → (if b then record e { values = e.values ++ replicate (more * e.components) (pos 0) } else e).values
          ≡ (if b then e.values ++ replicate (more * e.components) (pos 0) else e.values)
      by true = refl
      by false = refl

  buffers_by : (place more : ℕ) (writes : List WriteKept) (entries : List PlanEntry) → map shape_of writes ≡ map (opening_write plan part) entries
      → map (λ e. e.values) (map (grown place more) writes)
      ≡ map (λ at. grown_values plan part place more at.0 at.1) (zip entries (map (λ e. e.values) writes))
  buffers_by place more [] [] is = refl
  buffers_by place more [] (entry ∷ entries) is = refl
  buffers_by place more (e ∷ writes) [] is = cc
  buffers_by place more (e ∷ writes) (entry ∷ entries) is =
      ap (λ (values : List ℤ). values ∷ map (λ x. x.values) (map (grown place more) writes)) (one_grown place more e entry (ap (first_or (shape_of e)) is))
      ∙ ap (λ (buffers : List (List ℤ)). grown_values plan part place more entry e.values ∷ buffers)
      (buffers_by place more writes entries (ap rest_of is))

  -- each buffer on the mesh has zeros at its new vertices
  pub buffers_grown : (place more : ℕ) (writes : List WriteKept) → map shape_of writes ≡ opening_writes plan part
      → buffers_of (map (grown place more) writes) ≡ grown_buffers plan part place more (buffers_of writes)
  buffers_grown place more writes is = buffers_by place more writes (write_entries plan part) is
