-- Why there is no mapping, and why a field is not mapped. The project's own.
use Rattle.std.specs.Prelude.{◌≡◌, ◌⊎◌, ℕ, ◌<◌, ℤ, Bool, List, [], Err, All, length, ⊤}
use Rattle.std.specs.List.{AllWithin}
use Rattle.waveform.specs.declared.field.Field.{Field}
use Rattle.edge_projection.specs.declared.edge.Edge.{Edge}
use Rattle.edge_projection.specs.declared.edge_errors.EdgeErr.{EdgeErr}
use Rattle.edge_projection.specs.declared.edge_errors.EdgeErr.TheVariants.{Empty, BadEdge, Memory as NoTable}
use Rattle.edge_projection.specs.declared.edge_errors.SumErr.{SumErr}
use Rattle.edge_projection.specs.declared.edge_errors.SumErr.TheVariants.{Overflow, Memory as NoSums}
use Rattle.edge_projection.specs.NearestFoot.{IsEdgeOf, candidate_of}
use Rattle.edge_projection.specs.EdgeMapping.{EdgeMapping, searched}
use Rattle.edge_projection.specs.MappedField.{mapped_field}

-- the edge at this place is the first with an end that is none of so many vertices
pub record IsFirstBadEdge (vertices : ℕ) (edges : List Edge) (place : ℕ) : Type 0 where
  pub inside : place < length edges
  pub bad : ¬ IsEdgeOf vertices (candidate_of edges place)
  pub first : AllWithin (IsEdgeOf vertices) edges 0 place

-- a list of edges is refused at the first bad one; where all are good, memory can be wanting
abbrev pub IsCauseAt : (vertices : ℕ) (edges : List Edge) → EdgeErr → Type 0
IsCauseAt vertices edges Empty = vertices ≡ 0
IsCauseAt vertices edges (BadEdge place) = IsFirstBadEdge vertices edges place
IsCauseAt vertices edges NoTable = All (IsEdgeOf vertices) edges

-- both meshes have a vertex
abbrev pub HaveVertices : (from to : List (List ℤ)) → Type 0
HaveVertices from to = (0 < length from) × (0 < length to)

-- an empty mesh is told first; then the first bad edge of the searched mesh
abbrev pub IsBuildCause : (from to : List (List ℤ)) (edges : List Edge) (conservative : Bool) → EdgeErr → Type 0
IsBuildCause from to edges conservative Empty = (from ≡ []) ⊎ (to ≡ [])
IsBuildCause from to edges conservative (BadEdge place) =
    HaveVertices from to × IsFirstBadEdge (length (searched conservative from to)) edges place
IsBuildCause from to edges conservative NoTable =
    HaveVertices from to × All (IsEdgeOf (length (searched conservative from to))) edges

-- an overflow is told where the mapped field is undefined, at its first place; want of memory is free
abbrev pub IsSumCause : EdgeMapping → Field → SumErr → Type 0
IsSumCause m field (Overflow vertex component) = mapped_field m field ≡ Err (vertex, component)
IsSumCause m field NoSums = ⊤
