-- Nodes that are named by their first members, and the pairs between these, which are called edges. The project's own.
use Rattle.std.specs.Prelude.{ℕ, ◌==◌, ◌&&◌, if◌then◌else◌, List, [], ◌∷◌, map, count_by, slice_index}
use Rattle.std.specs.List.{list_any}

-- each of these numbers is a node with itself as its only member
abbrev pub alone : List ℕ → ℕ → List ℕ
alone ids id = if list_any (λ other. other == id) ids then id ∷ [] else []

-- the pairs, with the first member of its node in place of each participant
abbrev pub edges_of : List ℕ → List (ℕ × ℕ) → List (ℕ × ℕ)
edges_of heads pairs = map (λ pair. (slice_index heads pair.0, slice_index heads pair.1)) pairs

-- how many edges lead to b
abbrev pub edges_to : List (ℕ × ℕ) → ℕ → ℕ
edges_to edges b = count_by (λ edge. edge.1 == b) edges

-- how many edges lead from a to b
abbrev pub edges_between : List (ℕ × ℕ) → ℕ → ℕ → ℕ
edges_between edges a b = count_by (λ edge. (edge.0 == a) && (edge.1 == b)) edges
