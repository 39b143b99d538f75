-- What a mapping between two meshes is. The coupling documentation has the consistent and the conservative nearest-neighbour mapping; the table is the project's own.
use Rattle.std.specs.Prelude.{◌≡◌, ℕ, ◌^◌, ◌<◌, ◌≤◌, ℤ, Bool, List, length, map, All, if◌then◌else◌}
use Rattle.std.specs.Bool.{MatchBool}
use Rattle.mesh_data.specs.Nearest.{AreNearest, nearest_vertex}

-- of which kind it is, between how many vertices, and from which vertex each value comes or to which it goes
pub record Mapping : Type 0 where
  pub conservative : Bool
  -- how many vertices the mesh has that is mapped from
  pub sources : ℕ
  -- how many the mesh has that is mapped to
  pub targets : ℕ
  -- consistent: of each target the nearest source; conservative: of each source the nearest target
  pub nearest : List ℕ

-- how many vertices have a nearest one
abbrev pub nearest_count : Mapping → ℕ
nearest_count m = if m.conservative then m.sources else m.targets

-- among how many vertices it is
abbrev pub candidate_count : Mapping → ℕ
candidate_count m = if m.conservative then m.targets else m.sources

-- a mapping between meshes of at most 10,000 vertices: each vertex has one of the other mesh
pub record IsMapping (m : Mapping) : Type 0 where
  pub few_sources : m.sources ≤ 10 ^ 4
  pub few_targets : m.targets ≤ 10 ^ 4
  pub one_for_each : length m.nearest ≡ nearest_count m
  pub vertices : All (λ v. v < candidate_count m) m.nearest

-- the mapping from one mesh to another: consistent, the nearest source of each target; conservative, the nearest target of each source
pub record IsMappingOf (from to : List (List ℤ)) (conservative : Bool) (m : Mapping) : Type 0 where
  pub kind : m.conservative ≡ conservative
  pub sources : m.sources ≡ length from
  pub targets : m.targets ≡ length to
  pub nearest : MatchBool conservative (AreNearest to from m.nearest) (AreNearest from to m.nearest)

-- the same as a function
abbrev pub mapping_of : (from to : List (List ℤ)) (conservative : Bool) → Mapping
mapping_of from to conservative =
    record {
      conservative = conservative;
      sources = length from;
      targets = length to;
      nearest = if conservative then map (nearest_vertex to) from else map (nearest_vertex from) to;
    }
