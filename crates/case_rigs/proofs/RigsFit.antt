-- What a participant of an accepted case is run with fits the plan of its configuration.
use Rattle.std.proofs.Common.{◌≡◌, ℕ, zero, suc, Bool, true, false, cond, nat_eq, List, [], ◌∷◌, length, map, option_map, get_or, Option, Some, None, All, refl, ap, sym, subst, ◌∙◌, ℤ, pos, arith}
use Rattle.std.specs.Prelude.{slice_get, unsigned_abs, is_some}
use Rattle.std.specs.List.{AllZip, zip}
use Rattle.std.specs.Option.{option_map_or, IsSomeAnd}
use Rattle.std.proofs.lemmas.Bool.{eqb-true}
use Rattle.std.proofs.lemmas.List.Elements.{All-head, All-tail}
use Rattle.cpl_config.specs.declared.config.Config.{Config}
use Rattle.cpl_config.specs.declared.config.MeshTable.{MeshTable}
use Rattle.cpl_config.specs.declared.config.PartTable.{PartTable}
use Rattle.cpl_config.specs.SoundConfig.{IsSoundConfig}
use Rattle.case_files.specs.declared.case_file.CaseFile.{CaseFile}
use Rattle.case_files.specs.SoundCase.{IsSoundCaseFile}
use Rattle.cpl_plan.specs.declared.parts.PlanParts.{PlanParts}
use Rattle.plan_order.specs.declared.node.Node.{Node}
use Rattle.mesh_data.specs.declared.any_mesh.AnyMesh.TheVariants.{Two, Three}
use Rattle.line_solvers.specs.LineMeaning.{line_behaviour}
use Rattle.cpl_plan.specs.declared.parts.PlanEntry.{PlanEntry}
use Rattle.mesh_data.specs.AnyMeshes.{dimensions_of, vertices_of}
use Rattle.mesh_rules.specs.Named as named
use Rattle.config_rules.specs.ConfigRules.{IsAccepted}
use Rattle.config_laws.specs.FitMeshes.{IsOnOwnMesh, IsFitRead}
use Rattle.config_laws.specs.Placed.{EachAfter}
use Rattle.config_laws.proofs.Truths.{some_there}
use Rattle.config_laws.proofs.WholeFacts.{written_data, read_data}
use Rattle.scheme_parts.specs.NumbersOf.{mesh_number}
use Rattle.scheme_parts.proofs.Tables.{same_some, none_some, all_at, map_at, at_map}
use Rattle.scheme_parts.proofs.NamedTables.{table_at}
use Rattle.plan_build.specs.MeshOf.{mesh_of}
use Rattle.plan_build.specs.PartOf.{part_of, entry_of}
use Rattle.plan_build.specs.PlanOf.{plan_of, IsPlanOf}
use Rattle.plan_build.proofs.PlanReadings.{mesh_name, each_of, provided_declared}
use Rattle.case_rules.specs.CaseRules.{case_mesh_called, AreAccepted}
use Rattle.case_rules.specs.SuitedCases.{IsOnlyCaseMesh}
use Rattle.wave_coupling.specs.Known.{provided_by, read_entries, write_entries}
use Rattle.case_rigs.specs.CaseMeshes.{mesh_with, own_dimensions, own_points, own_mesh, own_meshes, IsFlatOrSolid}
use Rattle.case_rigs.specs.CaseRigs.{RigParts, own_rig, own_rig_of, case_rigs}
use Rattle.case_rigs.specs.FitRigs.{IsMeshOf, HaveValues, IsRigOf}
use Rattle.case_rigs.proofs.ToldMeshes.{IsToldMesh, flat_or_solid, own_vertices}
use Rattle.case_rigs.proofs.RigsMade.{IsRigged, are_rigged}
use Rattle.case_rigs.proofs.ValuesFit.{vertices_with, widths_are}

-- a mesh of two or of three dimensions has as many
two_or_three : (dimensions : ℕ) → IsFlatOrSolid dimensions → nat_eq dimensions 2 ≡ false → 3 ≡ dimensions
two_or_three zero range other = absurd (omega (arith, range.0))
two_or_three (suc zero) range other = absurd (omega (arith, range.0))
two_or_three (suc (suc zero)) range other = absurd (cc)
two_or_three (suc (suc (suc n))) range other = omega (arith, range.1)

dimensions_with : (dimensions : ℕ) (points : List (List ℤ)) → IsFlatOrSolid dimensions → dimensions_of (mesh_with dimensions points) ≡ dimensions
dimensions_with dimensions points range = by (nat_eq dimensions 2) refl
  where
    by : (b : Bool) → nat_eq dimensions 2 ≡ b → dimensions_of (cond b (Two points) (Three points)) ≡ dimensions
    by true is = sym (eqb-true dimensions 2 is)
    by false is = two_or_three dimensions range is

-- items of two lists that are made of a third
zip_maps : {X Y Z : Type 0} (R : Y → Z → Type 0) (f : X → Y) (g : X → Z) (xs : List X) → All (λ x. R (f x) (g x)) xs → AllZip R (map f xs) (map g xs)
zip_maps R f g [] all = tt
zip_maps {X} R f g (x ∷ xs) all = (All-head (λ (y : X). R (f y) (g y)) x xs all, zip_maps R f g xs (All-tail (λ (y : X). R (f y) (g y)) x xs all))

-- the pair at a place
record IsPairAt {X Y : Type 0} (R : X → Y → Type 0) (xs : List X) (place : ℕ) (pair : X × Y) : Type 0 where
  first : slice_get xs place ≡ Some pair.0
  related : R pair.0 pair.1

pair_at : {X Y : Type 0} (R : X → Y → Type 0) (xs : List X) (ys : List Y) (place : ℕ) (pair : X × Y) → AllZip R xs ys → slice_get (zip xs ys) place ≡ Some pair → IsPairAt R xs place pair
pair_at R [] ys place pair all is = absurd (none_some is)
pair_at R (x ∷ xs) [] place pair all is = absurd all
pair_at {X} {Y} R (x ∷ xs) (y ∷ ys) zero pair all is =
    let same : (x, y) ≡ pair = same_some is in
    subst (IsPairAt R (x ∷ xs) zero) same (record { first = refl; related = all.0 })
pair_at R (x ∷ xs) (y ∷ ys) (suc place) pair all is =
    let later = pair_at R xs ys place pair all.1 is in
    record { first = later.first; related = later.related }

is_there : {X : Type 0} (o : Option X) (P : X → Type 0) → IsSomeAnd o P → is_some o ≡ true
is_there None P h = absurd h
is_there (Some x) P h = refl

module _ (config : Config) (sound : IsSoundConfig config) (accepted : IsAccepted config) (nodes : List Node) where
  abbrev plan : PlanParts
  plan = plan_of config nodes

  -- a mesh of an own name
  mesh_fits : (name : List ℕ) (case_file : CaseFile) → named.is_mesh config name ≡ true → IsToldMesh (own_dimensions config name) (own_points case_file name)
      → IsMeshOf plan (mesh_number config name) (own_mesh config case_file name)
  mesh_fits name case_file declared is =
      let dimensions = own_dimensions config name in
      let points = own_points case_file name in
      let table = some_there (named.mesh_called config name) declared in
      let at = map_at (mesh_of config) config.mesh (mesh_number config name) table.0 (table_at mesh_name config.mesh name table.0 table.1).at in
      let dims : unsigned_abs table.0.dimensions ≡ dimensions =
      ap unsigned_abs (sym (ap (λ (o : Option MeshTable). option_map_or (λ (t : MeshTable). t.dimensions) o (pos 0)) table.1)) in
      let shown : dimensions_of (mesh_with dimensions points) ≡ dimensions = dimensions_with dimensions points (flat_or_solid config name sound declared) in
      let listed : vertices_of (mesh_with dimensions points) ≡ points = vertices_with dimensions points in
      record {
        dimensions = ap (option_map (λ told. told.dimensions)) at ∙ ap Some (dims ∙ sym shown);
        vertices = rw (shown, listed) is.mesh;
        some = rw listed is.some;
      }

  module _ (p : ℕ) (part : PartTable) (at : slice_get config.participant p ≡ Some part) (case_file : CaseFile) (is : IsRigged config part case_file) where
    meshes_fit : AllZip (IsMeshOf plan) (provided_by plan p p) (own_meshes config part case_file)
    meshes_fit =
        let provided : provided_by plan p p ≡ map (mesh_number config) part.provides = ap (λ o. option_map_or (λ q. q.provides) o []) (map_at (part_of config) config.participant p part at) in
        let declared = provided_declared config accepted p part at in
        subst (λ (numbers : List ℕ). AllZip (IsMeshOf plan) numbers (own_meshes config part case_file)) (sym provided)
        (zip_maps (IsMeshOf plan) (mesh_number config) (own_mesh config case_file) part.provides
        (λ k d within.
        let name = get_or part.provides k d in
        let has = is_there (case_mesh_called case_file name) (IsOnlyCaseMesh case_file name) (is.suits.meshes.one_each k d within) in
        mesh_fits name case_file (declared k d within) (own_vertices config case_file name is.makes.case_sound has is.suits.meshes.vertices)))

    reads_own : All (IsOnOwnMesh config part) part.read
    reads_own =
        let all = all_at (λ (t : PartTable). EachAfter (IsFitRead config t) t.read) config.participant p part (read_data config accepted) at in
        each_of (IsFitRead config part) (IsOnOwnMesh config part) part.read (λ before entry fit. fit.placed) all

    writes_own : All (IsOnOwnMesh config part) part.write
    writes_own = all_at (λ (t : PartTable). All (IsOnOwnMesh config t) t.write) config.participant p part (written_data config accepted) at

    rig_fits : IsRigOf plan p (own_rig config part case_file)
    rig_fits =
        let part_at = map_at (part_of config) config.participant p part at in
        let read_is : read_entries plan p ≡ map (entry_of config) part.read = ap (λ o. option_map_or (λ q. q.reads) o []) part_at in
        let write_is : write_entries plan p ≡ map (entry_of config) part.write = ap (λ o. option_map_or (λ q. q.writes) o []) part_at in
        let rig = own_rig config part case_file in
        record {
          meshes = meshes_fit;
          reads = subst (λ (entries : List PlanEntry). HaveValues plan p rig entries (line_behaviour rig.spec).read_len) (sym read_is)
              (λ received. widths_are config accepted nodes p part at case_file received part.read reads_own);
          writes = subst (λ (entries : List PlanEntry). HaveValues plan p rig entries (line_behaviour rig.spec).write_len) (sym write_is)
              (λ received. is.makes.solver.out_length ∙ widths_are config accepted nodes p part at case_file received part.write writes_own);
        }

pub rigs_fit : (config : Config) (cases : List CaseFile) (plan : PlanParts) (p : ℕ) (rig : RigParts) → IsSoundConfig config → IsAccepted config → length cases ≡ length config.participant
    → All IsSoundCaseFile cases → AreAccepted config cases → IsPlanOf config plan → slice_get (case_rigs config cases) p ≡ Some rig → IsRigOf plan p rig
rigs_fit config cases plan p rig sound accepted one_each sound_cases kept is at =
    let found = at_map (own_rig_of config) (zip config.participant cases) p rig at in
    let pair = pair_at (IsRigged config) config.participant cases p found.0 (are_rigged config cases sound accepted one_each sound_cases kept) found.1 in
    let fits = rig_fits config sound accepted plan.nodes p found.0.0 pair.first found.0.1 pair.related in
    subst (λ (made : RigParts). IsRigOf plan p made) (sym found.2)
    (subst (λ (parts : PlanParts). IsRigOf parts p (own_rig config found.0.0 found.0.1)) (sym is.said) fits)
