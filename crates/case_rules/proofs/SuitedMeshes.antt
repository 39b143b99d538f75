-- Meshes that suit their participant, in words and by the tests.
use Rattle.std.proofs.Common.{◌≡◌, ℕ, ◌≤◌, Bool, true, not, ◌&&◌, ◌==◌, List, length, inl, inr, Option, Some, None, IfSome, All, Contains, refl, ap, ◌∙◌, ℤ, arith}
use Rattle.std.specs.Prelude.{unsigned_abs, is_some, nat_lt}
use Rattle.std.specs.List.{list_all}
use Rattle.std.specs.Option.{option_map_or, IsSomeAnd}
use Rattle.std.specs.Bool.{beq}
use Rattle.std.specs.Str.{bytes_eq}
use Rattle.std.proofs.lemmas.Bool.{and_parts, ltb-true, lt-ltb, eqb-true, eq-eqb}
use Rattle.std.proofs.lemmas.List.Folds.{list_any_at}
use Rattle.std.proofs.lemmas.Map.Views.{Contains-from_any}
use Rattle.std.proofs.lemmas.Slice.Eq.{bytes_eq-Decides}
use Rattle.cpl_config.specs.declared.config.Config.{Config}
use Rattle.cpl_config.specs.declared.config.PartTable.{PartTable}
use Rattle.case_files.specs.declared.case_file.CaseFile.{CaseFile}
use Rattle.case_files.specs.declared.case_file.CaseMesh.{CaseMesh}
use Rattle.case_files.specs.declared.case_file.LinePoints.{LinePoints}
use Rattle.case_files.specs.SoundCase.{IsSoundCaseFile}
use Rattle.mesh_rules.specs.Named.{is_among, dimensions_of}
use Rattle.mesh_rules.proofs.OneTables.{found_is_only}
use Rattle.case_rules.specs.CaseRules.{case_mesh_called, has_own_meshes, has_right_points, suits_meshes, vertices_of}
use Rattle.case_rules.specs.SuitedCases.{TellsVertices, IsOnlyCaseMesh, HasItsMeshes}
use Rattle.case_rules.proofs.Passing.{both, each_passes, all_pass}

-- Names

among : (names : List (List ℕ)) (name : List ℕ) → is_among name names ≡ true → Contains names name
among names name h = Contains-from_any {eq = bytes_eq} (λ x y. (bytes_eq-Decides x y).0) name names h

is_there : (names : List (List ℕ)) (name : List ℕ) → Contains names name → is_among name names ≡ true
is_there names name inside = list_any_at (bytes_eq name) names inside.0 name inside.1 (ap (bytes_eq name) inside.2 ∙ (bytes_eq-Decides name name).1 refl)

there : {X : Type 0} (o : Option X) (P : X → Type 0) → IfSome o P → is_some o ≡ true → IsSomeAnd o P
there None P h is = absurd (cc)
there (Some x) P h is = h

something : {X : Type 0} (o : Option X) (P : X → Type 0) → IsSomeAnd o P → is_some o ≡ true
something None P h = absurd h
something (Some x) P h = refl

-- Vertices

positive : (n : ℕ) → nat_lt 0 n ≡ true → 1 ≤ n
positive n h = omega (arith, ltb-true 0 n h)

abbrev are_right : ℕ → Option (List (List ℤ)) → Option LinePoints → Bool
are_right dimensions points line =
    (not (beq (is_some points) (is_some line)) && nat_lt 0 (option_map_or (λ ps. length ps) points (option_map_or (λ l. unsigned_abs l.count) line 0)))
    && (option_map_or (list_all (λ point. length point == dimensions)) points true
    && option_map_or (λ l. (length l.from == dimensions) && (length l.to == dimensions)) line true)

told : (dimensions : ℕ) (mesh : CaseMesh) (points : Option (List (List ℤ))) (line : Option LinePoints) → mesh.points ≡ points → mesh.line ≡ line → are_right dimensions points line ≡ true → TellsVertices dimensions mesh
told dimensions mesh None None p l h = absurd (cc)
told dimensions mesh (Some points) (Some line) p l h = absurd (cc)
told dimensions mesh (Some points) None p l h =
    let parts = and_parts _ _ h in
    inl (record {
      points = points;
      listed = p;
      alone = l;
      some = positive (length points) parts.0;
      coordinates = each_passes (λ point. length point == dimensions) (λ point. length point ≡ dimensions) (λ point. eqb-true (length point) dimensions) points (and_parts _ _ parts.1).0;
    })
told dimensions mesh None (Some line) p l h =
    let parts = and_parts _ _ h in
    let ends = and_parts _ _ parts.1 in
    inr (record {
      line = line;
      drawn = l;
      alone = p;
      some = positive (unsigned_abs line.count) parts.0;
      from = eqb-true (length line.from) dimensions ends.0;
      to = eqb-true (length line.to) dimensions ends.1;
    })

tells : (config : Config) (mesh : CaseMesh) → has_right_points config mesh ≡ true → TellsVertices (unsigned_abs (dimensions_of config mesh.name)) mesh
tells config mesh h = told (unsigned_abs (dimensions_of config mesh.name)) mesh mesh.points mesh.line refl refl h

right_list : (dimensions : ℕ) (points : List (List ℤ)) → 1 ≤ length points → All (λ point. length point ≡ dimensions) points → are_right dimensions (Some points) None ≡ true
right_list dimensions points some each =
    let passes = all_pass (λ point. length point == dimensions) (λ point. length point ≡ dimensions) (λ point. eq-eqb (length point) dimensions) points each in
    both _ _ (lt-ltb 0 (length points) (omega (arith, some))) (both _ _ passes refl)

right_line : (dimensions : ℕ) (line : LinePoints) → 1 ≤ unsigned_abs line.count → length line.from ≡ dimensions → length line.to ≡ dimensions → are_right dimensions None (Some line) ≡ true
right_line dimensions line some from to =
    both _ _ (lt-ltb 0 (unsigned_abs line.count) (omega (arith, some))) (both _ _ (eq-eqb (length line.from) dimensions from) (eq-eqb (length line.to) dimensions to))

are_told : (dimensions : ℕ) (mesh : CaseMesh) → TellsVertices dimensions mesh → are_right dimensions mesh.points mesh.line ≡ true
are_told dimensions mesh (inl h) =
    ap (λ o. are_right dimensions o mesh.line) h.listed ∙ (ap (λ o. are_right dimensions (Some h.points) o) h.alone ∙ right_list dimensions h.points h.some h.coordinates)
are_told dimensions mesh (inr h) =
    ap (λ o. are_right dimensions o mesh.line) h.alone ∙ (ap (λ o. are_right dimensions None o) h.drawn ∙ right_line dimensions h.line h.some h.from h.to)

-- a mesh that has its points has a vertex
pub some_vertex : (config : Config) (mesh : CaseMesh) → has_right_points config mesh ≡ true → 1 ≤ vertices_of mesh
some_vertex config mesh h =
    positive (vertices_of mesh) (and_parts _ _ (and_parts _ _ h).0).1

-- The meshes of a case

pub its_meshes : (config : Config) (part : PartTable) (case_file : CaseFile) → IsSoundCaseFile case_file → suits_meshes config part case_file ≡ true → HasItsMeshes config part case_file
its_meshes config part case_file sound h =
    let parts = and_parts (has_own_meshes part case_file) (list_all (has_right_points config) case_file.mesh) h in
    let own = and_parts (list_all (λ (mesh : CaseMesh). is_among mesh.name part.provides) case_file.mesh) (list_all (λ name. is_some (case_mesh_called case_file name)) part.provides) parts.0 in
    record {
      provided = each_passes (λ (mesh : CaseMesh). is_among mesh.name part.provides) (λ (mesh : CaseMesh). Contains part.provides mesh.name) (λ mesh. among part.provides mesh.name) case_file.mesh own.0;
      one_each =
          each_passes (λ name. is_some (case_mesh_called case_file name)) (λ name. IsSomeAnd (case_mesh_called case_file name) (IsOnlyCaseMesh case_file name))
          (λ name. there (case_mesh_called case_file name) (IsOnlyCaseMesh case_file name) (found_is_only (λ (mesh : CaseMesh). mesh.name) name case_file.mesh sound.mesh_once)) part.provides own.1;
      vertices = each_passes (has_right_points config) (λ (mesh : CaseMesh). TellsVertices (unsigned_abs (dimensions_of config mesh.name)) mesh) (tells config) case_file.mesh parts.1;
    }

-- and back
pub right_meshes : (config : Config) (part : PartTable) (case_file : CaseFile) → HasItsMeshes config part case_file → suits_meshes config part case_file ≡ true
right_meshes config part case_file fit =
    both (has_own_meshes part case_file) (list_all (has_right_points config) case_file.mesh)
    (both (list_all (λ (mesh : CaseMesh). is_among mesh.name part.provides) case_file.mesh) (list_all (λ name. is_some (case_mesh_called case_file name)) part.provides)
    (all_pass (λ (mesh : CaseMesh). is_among mesh.name part.provides) (λ (mesh : CaseMesh). Contains part.provides mesh.name) (λ mesh. is_there part.provides mesh.name) case_file.mesh fit.provided)
    (all_pass (λ name. is_some (case_mesh_called case_file name)) (λ name. IsSomeAnd (case_mesh_called case_file name) (IsOnlyCaseMesh case_file name))
    (λ name. something (case_mesh_called case_file name) (IsOnlyCaseMesh case_file name)) part.provides fit.one_each))
    (all_pass (has_right_points config) (λ (mesh : CaseMesh). TellsVertices (unsigned_abs (dimensions_of config mesh.name)) mesh) (λ mesh. are_told (unsigned_abs (dimensions_of config mesh.name)) mesh) case_file.mesh fit.vertices)
