-- The meshes that a sound case file tells of can be made, and have a vertex.
use Rattle.std.proofs.Common.{◌≡◌, ℕ, ◌+◌, ◌^◌, ◌<◌, ◌≤◌, true, inl, inr, List, [], length, get_or, Option, Some, None, IfSome, All, refl, ap, sym, subst, ◌∙◌, ℤ, pos, arith}
use Rattle.std.specs.Prelude.{unsigned_abs, is_some}
use Rattle.std.specs.List.{range_with_len}
use Rattle.std.specs.Option.{option_map_or}
use Rattle.std.specs.Str.{bytes_eq}
use Rattle.std.proofs.lemmas.Bool.{leb-true}
use Rattle.std.proofs.lemmas.List.Elements.{All-weaker, All-map}
use Rattle.std.proofs.lemmas.List.FromFn.{length-range_with_len, get_or-range_with_len}
use Rattle.fixed_num.specs.Numbers.{IsCoordinate}
use Rattle.mesh_data.specs.Points.{IsPoint}
use Rattle.mesh_data.specs.Meshes.{IsMesh}
use Rattle.cpl_config.specs.declared.config.Config.{Config}
use Rattle.cpl_config.specs.declared.config.MeshTable.{MeshTable}
use Rattle.cpl_config.specs.SoundConfig.{IsSoundConfig, IsSoundMesh}
use Rattle.case_files.specs.declared.case_file.CaseFile.{CaseFile}
use Rattle.case_files.specs.declared.case_file.CaseMesh.{CaseMesh}
use Rattle.case_files.specs.declared.case_file.LinePoints.{LinePoints}
use Rattle.case_files.specs.SoundCase.{IsCoordinateUnits, IsPointList, IsSoundLine, IsSoundCaseMesh, IsSoundCaseFile}
use Rattle.mesh_rules.specs.Named.{mesh_called, is_mesh}
use Rattle.config_laws.proofs.Truths.{same_text}
use Rattle.scheme_parts.proofs.Tables.{found_passes}
use Rattle.plan_build.proofs.MeshFacts.{in_range}
use Rattle.case_rules.specs.CaseRules.{case_mesh_called, vertices_of}
use Rattle.case_rules.specs.SuitedCases.{TellsVertices}
use Rattle.case_rules.proofs.CaseBounds.{found_has}
use Rattle.case_rigs.specs.Lines.{line_point}
use Rattle.case_rigs.specs.CasePoints.{points_of_line, case_points, IsLineIn, IsCaseMeshIn}
use Rattle.case_rigs.specs.CaseMeshes.{own_dimensions, own_points, IsFlatOrSolid, MakesMesh}
use Rattle.case_rigs.proofs.LineParts.{length-line_point, line_point-range, length-line_points}

coordinate : (z : ℤ) → IsCoordinateUnits z → IsCoordinate z
coordinate z within = leb-true (unsigned_abs z) (10 ^ 12) within

point_in : (dimensions : ℕ) (at : List ℤ) → length at ≡ dimensions → All IsCoordinateUnits at → IsPoint dimensions at
point_in dimensions at long range = record { one_for_each = long; in_range = All-weaker IsCoordinateUnits IsCoordinate coordinate at range }

listed_in : (dimensions : ℕ) (points : List (List ℤ)) → IsPointList points → All (λ point. length point ≡ dimensions) points → IsMesh dimensions points
listed_in dimensions points list long = record {
  few = list.few;
  points = λ k d within. point_in dimensions (get_or points k d) (long k d within) (list.coordinates k d within);
}

line_in : (dimensions : ℕ) (line : LinePoints) → IsSoundLine line → length line.from ≡ dimensions → length line.to ≡ dimensions → IsLineIn dimensions line
line_in dimensions line sound from to = record {
  from = point_in dimensions line.from from sound.from;
  to = point_in dimensions line.to to sound.to;
  few = (in_range 1 10000 line.count sound.count).1;
}

list_of : (mesh : CaseMesh) (points : List (List ℤ)) → IsSoundCaseMesh mesh → mesh.points ≡ Some points → IsPointList points
list_of mesh points sound is = subst (λ (o : Option (List (List ℤ))). IfSome o IsPointList) is sound.points

sound_line : (mesh : CaseMesh) (line : LinePoints) → IsSoundCaseMesh mesh → mesh.line ≡ Some line → IsSoundLine line
sound_line mesh line sound is = subst (λ (o : Option LinePoints). IfSome o IsSoundLine) is sound.line

-- what a sound file tells of a mesh can be made a mesh
pub case_mesh_in : (dimensions : ℕ) (mesh : CaseMesh) → IsSoundCaseMesh mesh → TellsVertices dimensions mesh → IsCaseMeshIn dimensions mesh
case_mesh_in dimensions mesh sound (inl h) =
    let listed = listed_in dimensions h.points (list_of mesh h.points sound h.listed) h.coordinates in
    record {
      listed = subst (λ (o : Option (List (List ℤ))). IfSome o (IsMesh dimensions)) (sym h.listed) listed;
      drawn = subst (λ (o : Option LinePoints). IfSome o (IsLineIn dimensions)) (sym h.alone) tt;
    }
case_mesh_in dimensions mesh sound (inr h) =
    let drawn = line_in dimensions h.line (sound_line mesh h.line sound h.drawn) h.from h.to in
    record {
      listed = subst (λ (o : Option (List (List ℤ))). IfSome o (IsMesh dimensions)) (sym h.alone) tt;
      drawn = subst (λ (o : Option LinePoints). IfSome o (IsLineIn dimensions)) (sym h.drawn) drawn;
    }

-- the points of a line make a mesh
line_mesh : (dimensions : ℕ) (line : LinePoints) → IsLineIn dimensions line → IsMesh dimensions (points_of_line line)
line_mesh dimensions line h =
    let count = unsigned_abs line.count in
    let point : ℕ → List ℤ = λ vertex. line_point count vertex line.from line.to in
    let long : length (points_of_line line) ≡ count = length-line_points count line.from line.to in
    record {
      few = omega (arith, long, h.few);
      points = All-map (IsPoint dimensions) point (range_with_len 0 count)
          (λ k d within.
          let below : k < count = omega (arith, within, length-range_with_len 0 count) in
          let at : get_or (range_with_len 0 count) k d ≡ 0 + k = get_or-range_with_len 0 count k d below in
          let vertex = get_or (range_with_len 0 count) k d in
          record {
            one_for_each = length-line_point count vertex line.from line.to dimensions h.from.one_for_each h.to.one_for_each;
            in_range = line_point-range count vertex line.from line.to (omega (arith, at, below)) h.from.in_range h.to.in_range;
          });
    }

-- the points of a mesh, which has one
pub record IsToldMesh (dimensions : ℕ) (points : List (List ℤ)) : Type 0 where
  pub mesh : IsMesh dimensions points
  pub some : 1 ≤ length points

pub told_mesh : (dimensions : ℕ) (mesh : CaseMesh) → IsSoundCaseMesh mesh → TellsVertices dimensions mesh → IsToldMesh dimensions (case_points mesh)
told_mesh dimensions mesh sound (inl h) =
    let is : case_points mesh ≡ h.points = ap (λ o. option_map_or (λ points. points) o (option_map_or points_of_line mesh.line [])) h.listed in
    subst (IsToldMesh dimensions) (sym is) (record { mesh = listed_in dimensions h.points (list_of mesh h.points sound h.listed) h.coordinates; some = h.some })
told_mesh dimensions mesh sound (inr h) =
    let count = unsigned_abs h.line.count in
    let is : case_points mesh ≡ points_of_line h.line =
    ap (λ o. option_map_or (λ points. points) o (option_map_or points_of_line mesh.line [])) h.alone ∙ ap (λ o. option_map_or points_of_line o []) h.drawn in
    let long : length (points_of_line h.line) ≡ count = length-line_points count h.line.from h.line.to in
    let drawn = line_in dimensions h.line (sound_line mesh h.line sound h.drawn) h.from h.to in
    subst (IsToldMesh dimensions) (sym is) (record { mesh = line_mesh dimensions h.line drawn; some = omega (arith, long, h.some) })

-- how many points there are
points_long : (points : Option (List (List ℤ))) (line : Option LinePoints)
    → length (option_map_or (λ (ps : List (List ℤ)). ps) points (option_map_or points_of_line line [])) ≡ option_map_or (λ ps. length ps) points (option_map_or (λ l. unsigned_abs l.count) line 0)
points_long (Some points) line = refl
points_long None (Some line) = length-line_points (unsigned_abs line.count) line.from line.to
points_long None None = refl

there_long : (mesh : Option CaseMesh) → length (option_map_or case_points mesh []) ≡ option_map_or vertices_of mesh 0
there_long None = refl
there_long (Some mesh) = points_long mesh.points mesh.line

-- as many as the rules on cases count
pub length-own_points : (case_file : CaseFile) (name : List ℕ) → length (own_points case_file name) ≡ option_map_or vertices_of (case_mesh_called case_file name) 0
length-own_points case_file name = there_long (case_mesh_called case_file name)

-- a declared mesh has two or three dimensions
dimensions_there : (mesh : Option MeshTable) → is_some mesh ≡ true → IfSome mesh IsSoundMesh → IsFlatOrSolid (unsigned_abs (option_map_or (λ table. table.dimensions) mesh (pos 0)))
dimensions_there None there sound = absurd (cc)
dimensions_there (Some table) there sound = in_range 2 3 table.dimensions sound.dimensions

pub flat_or_solid : (config : Config) (name : List ℕ) → IsSoundConfig config → is_mesh config name ≡ true → IsFlatOrSolid (own_dimensions config name)
flat_or_solid config name sound declared =
    dimensions_there (mesh_called config name) declared (found_has IsSoundMesh (λ table. bytes_eq table.name name) config.mesh sound.meshes)

-- what the file tells of a mesh, sound and of as many dimensions
pub record IsTold (config : Config) (name : List ℕ) (mesh : CaseMesh) : Type 0 where
  pub sound : IsSoundCaseMesh mesh
  pub tells : TellsVertices (own_dimensions config name) mesh

told_of : (config : Config) (case_file : CaseFile) (name : List ℕ) (o : Option CaseMesh) → case_mesh_called case_file name ≡ o
    → IfSome o (λ mesh. IsTold config mesh.name mesh) → IfSome o (IsTold config name)
told_of config case_file name None is h = tt
told_of config case_file name (Some mesh) is h =
    let named : mesh.name ≡ name = same_text mesh.name name (found_passes (λ (other : CaseMesh). bytes_eq other.name name) case_file.mesh mesh is) in
    subst (λ (text : List ℕ). IsTold config text mesh) named h

pub told : (config : Config) (case_file : CaseFile) (name : List ℕ) → IsSoundCaseFile case_file
    → All (λ (mesh : CaseMesh). TellsVertices (own_dimensions config mesh.name) mesh) case_file.mesh → IfSome (case_mesh_called case_file name) (IsTold config name)
told config case_file name sound tells =
    told_of config case_file name (case_mesh_called case_file name) refl
    (found_has (λ (mesh : CaseMesh). IsTold config mesh.name mesh) (λ mesh. bytes_eq mesh.name name) case_file.mesh
    (λ k d within. record { sound = sound.meshes k d within; tells = tells k d within }))

IfSome-map : {X : Type 0} (P Q : X → Type 0) → ((x : X) → P x → Q x) → (o : Option X) → IfSome o P → IfSome o Q
IfSome-map P Q weaker None h = tt
IfSome-map P Q weaker (Some x) h = weaker x h

-- the mesh of a declared name can be made
pub makes_mesh : (config : Config) (case_file : CaseFile) (name : List ℕ) → IsSoundConfig config → is_mesh config name ≡ true → IsSoundCaseFile case_file
    → All (λ (mesh : CaseMesh). TellsVertices (own_dimensions config mesh.name) mesh) case_file.mesh → MakesMesh config case_file name
makes_mesh config case_file name sound declared sound_case tells = record {
  dimensions = flat_or_solid config name sound declared;
  told = IfSome-map (IsTold config name) (IsCaseMeshIn (own_dimensions config name)) (λ mesh h. case_mesh_in (own_dimensions config name) mesh h.sound h.tells) (case_mesh_called case_file name)
      (told config case_file name sound_case tells);
}

-- and has a vertex, where the file has it
own_there : (config : Config) (name : List ℕ) (mesh : Option CaseMesh) → is_some mesh ≡ true → IfSome mesh (IsTold config name) → IsToldMesh (own_dimensions config name) (option_map_or case_points mesh [])
own_there config name None there h = absurd (cc)
own_there config name (Some mesh) there h = told_mesh (own_dimensions config name) mesh h.sound h.tells

pub own_vertices : (config : Config) (case_file : CaseFile) (name : List ℕ) → IsSoundCaseFile case_file → is_some (case_mesh_called case_file name) ≡ true
    → All (λ (mesh : CaseMesh). TellsVertices (own_dimensions config mesh.name) mesh) case_file.mesh → IsToldMesh (own_dimensions config name) (own_points case_file name)
own_vertices config case_file name sound there tells = own_there config name (case_mesh_called case_file name) there (told config case_file name sound tells)
