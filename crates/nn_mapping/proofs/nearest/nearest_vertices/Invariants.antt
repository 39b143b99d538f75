use Rattle.std.proofs.Common.{◌≡◌, ℕ, ◌<◌, [], length, get_or}
use Rattle.mesh_data.specs.Nearest.{IsNearest}
use Rattle.nn_mapping.proofs.nearest.nearest_vertices.Given as goal

abbrev pub invariant-loop-v : goal.invariant-loop-v
invariant-loop-v g l = record {
  len : length l.nearest.items ≡ l.v;
  each : (i : ℕ) → i < l.v → IsNearest l.mesh (get_or l.points i []) (get_or l.nearest.items i 0);
}
