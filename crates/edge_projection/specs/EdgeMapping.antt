-- What a nearest-projection mapping between two meshes is. The coupling documentation has the consistent and the conservative mapping; the table is the project's own.
use Rattle.std.specs.Prelude.{◌≡◌, ℕ, ◌^◌, ◌≤◌, ℤ, Bool, List, length, map, All, if◌then◌else◌}
use Rattle.edge_projection.specs.declared.edge.Edge.{Edge}
use Rattle.edge_projection.specs.declared.edge.Foot.{Foot}
use Rattle.edge_projection.specs.NearestFoot.{nearest_foot, IsFootIn}

-- of which kind it is, between how many vertices, and the foot from which each value comes or to which it goes
pub record EdgeMapping : Type 0 where
  pub conservative : Bool
  -- how many vertices the mesh has that is mapped from
  pub sources : ℕ
  -- how many the mesh has that is mapped to
  pub targets : ℕ
  -- consistent: of each target the foot among the sources; conservative: of each source the foot among the targets
  pub feet : List Foot

-- a mapping between meshes of at most 10,000 vertices: each vertex has a foot on the other mesh
pub record IsEdgeMapping (m : EdgeMapping) : Type 0 where
  pub few_sources : m.sources ≤ 10 ^ 4
  pub few_targets : m.targets ≤ 10 ^ 4
  pub one_for_each : length m.feet ≡ (if m.conservative then m.sources else m.targets)
  pub inside : All (IsFootIn (if m.conservative then m.targets else m.sources)) m.feet

-- the mesh whose edges are searched: consistent, the one mapped from; conservative, the one mapped to
abbrev pub searched : (conservative : Bool) (from to : List (List ℤ)) → List (List ℤ)
searched conservative from to = if conservative then to else from

-- the mesh whose vertices have a foot there
abbrev pub projected : (conservative : Bool) (from to : List (List ℤ)) → List (List ℤ)
projected conservative from to = if conservative then from else to

-- the mapping from one mesh to another
abbrev pub mapping_of : (from to : List (List ℤ)) (edges : List Edge) (conservative : Bool) → EdgeMapping
mapping_of from to edges conservative =
    record {
      conservative = conservative;
      sources = length from;
      targets = length to;
      feet = map (nearest_foot (searched conservative from to) edges) (projected conservative from to);
    }
