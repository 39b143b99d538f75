-- The entries of a participant have as many values over its own meshes as the rules on cases count.
use Rattle.std.proofs.Common.{◌≡◌, ℕ, ◌+◌, ◌*◌, true, false, cond, nat_eq, List, [], ◌∷◌, length, map, position, option_map, Option, Some, All, Contains, refl, ap, sym, ◌∙◌, ℤ, pos}
use Rattle.std.specs.Prelude.{slice_get, unsigned_abs, sum_by, option_and_then}
use Rattle.std.specs.List.{list_any}
use Rattle.std.specs.Option.{option_map_or}
use Rattle.std.specs.Str.{bytes_eq}
use Rattle.std.proofs.Math.Nat.{mul_comm}
use Rattle.std.proofs.lemmas.Bool.{eqb-true, eq-eqb}
use Rattle.std.proofs.lemmas.Option.{get_or_from_slice_get}
use Rattle.std.proofs.lemmas.List.Elements.{All-head, All-tail}
use Rattle.std.proofs.lemmas.List.Sums.{sum_by-cons}
use Rattle.cpl_config.specs.declared.kind_words.DataKind.{DataKind}
use Rattle.cpl_config.specs.declared.kind_words.DataKind.TheVariants.{Scalar, Vector}
use Rattle.cpl_config.specs.declared.config.Config.{Config}
use Rattle.cpl_config.specs.declared.config.DataTable.{DataTable}
use Rattle.cpl_config.specs.declared.config.MeshTable.{MeshTable}
use Rattle.cpl_config.specs.declared.config.PartTable.{PartTable}
use Rattle.cpl_config.specs.declared.config.DataEntry.{DataEntry}
use Rattle.case_files.specs.declared.case_file.CaseFile.{CaseFile}
use Rattle.cpl_plan.specs.declared.parts.PlanParts.{PlanParts}
use Rattle.cpl_plan.specs.PlanWords as words
use Rattle.cpl_plan.proofs.Readings.{there}
use Rattle.plan_order.specs.declared.node.Node.{Node}
use Rattle.mesh_data.specs.declared.any_mesh.AnyMesh.{AnyMesh}
use Rattle.mesh_data.specs.declared.any_mesh.AnyMesh.TheVariants.{Two, Three}
use Rattle.mesh_data.specs.AnyMeshes.{vertices_of}
use Rattle.mesh_rules.specs.Named as named
use Rattle.config_rules.specs.ConfigRules.{IsAccepted}
use Rattle.config_rules.specs.SchemeRules.{components_by, components}
use Rattle.config_laws.specs.FitMeshes.{IsOnOwnMesh}
use Rattle.config_laws.proofs.Truths.{some_there, among}
use Rattle.scheme_parts.specs.NumbersOf.{data_number, mesh_number}
use Rattle.scheme_parts.proofs.Tables.{all_at, map_at, at_map, found_by, found_passes, found_place}
use Rattle.scheme_parts.proofs.NamedTables.{HasTable, table_at, same_name, number}
use Rattle.plan_build.specs.DataOf.{data_of, is_vector}
use Rattle.plan_build.specs.MeshOf.{mesh_of}
use Rattle.plan_build.specs.PartOf.{part_of, entry_of}
use Rattle.plan_build.specs.PlanOf.{plan_of}
use Rattle.plan_build.proofs.PlanReadings.{data_name, mesh_name, mesh_at, mesh_all, provided_declared}
use Rattle.case_rules.specs.CaseRules.{values_of}
use Rattle.wave_coupling.specs.Known.{Known, provided_by, width_of}
use Rattle.wave_coupling.specs.Known as known
use Rattle.case_rigs.specs.CaseMeshes.{mesh_with, own_dimensions, own_points, own_mesh, own_meshes}
use Rattle.case_rigs.proofs.ToldMeshes.{length-own_points}

-- a name of some names has a place
place_of : (name : List ℕ) (names : List (List ℕ)) → list_any (bytes_eq name) names ≡ true → (k : ℕ) × (slice_get names k ≡ Some name)
place_of name names inside =
    let listed : Contains names name = among name names inside in
    let item = there names listed.0 listed.1 in
    let same : item.0 ≡ name = sym (get_or_from_slice_get names listed.0 item.0 name item.1) ∙ listed.2 in
    (listed.0, item.1 ∙ ap Some same)

-- what is made of the name stands where the name's number does
module _ {X Y : Type 0} (name_of : X → List ℕ) (tables : List X) (g : List ℕ → Y) where
  pub at_number : (name : List ℕ) (names : List (List ℕ)) → HasTable name_of tables name → All (HasTable name_of tables) names → list_any (bytes_eq name) names ≡ true
      → option_and_then (slice_get (map g names)) (position (nat_eq (number name_of tables name)) (map (number name_of tables) names)) ≡ Some (g name)
  at_number name names has all inside =
      let n = number name_of tables name in
      let numbers = map (number name_of tables) names in
      let place = place_of name names inside in
      let found = found_by (nat_eq n) numbers place.0 n (map_at (number name_of tables) names place.0 name place.1) (eq-eqb n n refl) in
      let first = found_place (nat_eq n) numbers found.0 found.1 in
      let equal : n ≡ found.0 = eqb-true n found.0 (found_passes (nat_eq n) numbers found.0 found.1) in
      let other = at_map (number name_of tables) names first.0 found.0 first.2 in
      let has_other : HasTable name_of tables other.0 = all_at (HasTable name_of tables) names first.0 other.0 all other.1 in
      let same : name ≡ other.0 = same_name name_of tables name other.0 has has_other (equal ∙ other.2) in
      ap (option_and_then (slice_get (map g names))) first.1
      ∙ map_at g names first.0 other.0 other.1
      ∙ ap (λ (text : List ℕ). Some (g text)) (sym same)

pub vertices_with : (dimensions : ℕ) (points : List (List ℤ)) → vertices_of (mesh_with dimensions points) ≡ points
vertices_with dimensions points = elim (nat_eq dimensions 2) as (λ b. vertices_of (cond b (Two points) (Three points)) ≡ points) [ true ↦ refl | false ↦ refl ]

components_same : (table : DataTable) (mesh : ℕ) → (cond (data_of table).vector mesh 1) ≡ components_by table.kind mesh
components_same table mesh = by_kind table.kind
  where
    by_kind : (kind : DataKind) → cond (is_vector kind) mesh 1 ≡ components_by kind mesh
    by_kind Scalar = refl
    by_kind Vector = refl

module _ (config : Config) (accepted : IsAccepted config) (nodes : List Node) where
  abbrev plan : PlanParts
  plan = plan_of config nodes

  -- the components of data on a mesh, by numbers and by names
  components_are : (mesh item : List ℕ) → named.is_mesh config mesh ≡ true → named.is_data config item ≡ true
      → option_map_or (λ n. n) (words.components_on plan (data_number config item) (mesh_number config mesh)) 0 ≡ components config mesh item
  components_are mesh item mesh_declared data_declared =
      let data_table = some_there (named.data_called config item) data_declared in
      let mesh_table = some_there (named.mesh_called config mesh) mesh_declared in
      let at_item = map_at data_of config.data_list (data_number config item) data_table.0 (table_at data_name config.data_list item data_table.0 data_table.1).at in
      let at_mesh = map_at (mesh_of config) config.mesh (mesh_number config mesh) mesh_table.0 (table_at mesh_name config.mesh mesh mesh_table.0 mesh_table.1).at in
      let dims : unsigned_abs mesh_table.0.dimensions ≡ unsigned_abs (named.dimensions_of config mesh) =
      ap unsigned_abs (sym (ap (λ (o : Option MeshTable). option_map_or (λ (t : MeshTable). t.dimensions) o (pos 0)) mesh_table.1)) in
      ap (λ o. option_map_or (λ n. n) (option_and_then (λ d. option_map (λ m. words.components d m) (slice_get (map (mesh_of config) config.mesh) (mesh_number config mesh))) o) 0) at_item
      ∙ (ap (λ o. option_map_or (λ n. n) (option_map (λ m. words.components (data_of data_table.0) m) o) 0) at_mesh
      ∙ (ap (λ (n : ℕ). cond (data_of data_table.0).vector n 1) dims
      ∙ (components_same data_table.0 (unsigned_abs (named.dimensions_of config mesh))
      ∙ sym (ap (λ (o : Option DataTable). option_map_or (λ (t : DataTable). components_by t.kind (unsigned_abs (named.dimensions_of config mesh))) o 0) data_table.1))))

  module _ (p : ℕ) (part : PartTable) (at : slice_get config.participant p ≡ Some part) (case_file : CaseFile) (received : List (List AnyMesh)) where
    abbrev meshes : Known
    meshes = record { own = own_meshes config part case_file; received = received }

    provided_is : provided_by plan p p ≡ map (mesh_number config) part.provides
    provided_is = ap (λ o. option_map_or (λ q. q.provides) o []) (map_at (part_of config) config.participant p part at)

    -- the mesh of an own name
    own_is : (name : List ℕ) → named.is_mesh config name ≡ true → named.provides part name ≡ true → known.own_mesh plan p meshes (mesh_number config name) ≡ Some (own_mesh config case_file name)
    own_is name declared own =
        ap (λ numbers. option_and_then (slice_get (own_meshes config part case_file)) (position (nat_eq (mesh_number config name)) numbers)) provided_is
        ∙ at_number mesh_name config.mesh (own_mesh config case_file) name part.provides (mesh_at config name declared) (mesh_all config part.provides (provided_declared config accepted p part at)) own

    -- an entry has as many values
    width_is : (entry : DataEntry) → IsOnOwnMesh config part entry → width_of plan p meshes (entry_of config entry) ≡ values_of config case_file entry
    width_is entry fit =
        let m = mesh_number config entry.mesh in
        let points : known.points_of plan p meshes m ≡ vertices_of (own_mesh config case_file entry.mesh) =
        ap (λ o. option_map_or vertices_of o (option_map_or vertices_of (known.received_mesh plan p meshes m) [])) (own_is entry.mesh fit.mesh_declared fit.own) in
        let long = ap (λ (ps : List (List ℤ)). length ps) (points ∙ vertices_with (own_dimensions config entry.mesh) (own_points case_file entry.mesh)) ∙ length-own_points case_file entry.mesh in
        let each = components_are entry.mesh entry.data_name fit.mesh_declared fit.data_declared in
        ap (λ (n : ℕ). n * length (known.points_of plan p meshes m)) each
        ∙ (ap (λ (n : ℕ). components config entry.mesh entry.data_name * n) long
        ∙ mul_comm (components config entry.mesh entry.data_name) _)

    -- entries have as many together
    pub widths_are : (entries : List DataEntry) → All (IsOnOwnMesh config part) entries → sum_by (values_of config case_file) entries ≡ sum_by (width_of plan p meshes) (map (entry_of config) entries)
    widths_are [] all = refl
    widths_are (entry ∷ entries) all =
        let here = width_is entry (All-head (IsOnOwnMesh config part) entry entries all) in
        let later = widths_are entries (All-tail (IsOnOwnMesh config part) entry entries all) in
        sum_by-cons (values_of config case_file) entry entries
        ∙ (ap (λ (n : ℕ). n + sum_by (values_of config case_file) entries) (sym here)
        ∙ (ap (λ (n : ℕ). width_of plan p meshes (entry_of config entry) + n) later
        ∙ sym (sum_by-cons (width_of plan p meshes) (entry_of config entry) (map (entry_of config) entries))))
