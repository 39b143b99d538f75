use Rattle.std.proofs.Common.{ℕ, ◌<◌, ◌≤◌, length}
use Rattle.mesh_data.specs.AnyMeshes.{vertices_of}
use Rattle.mesh_data.specs.Nearest.{distance_to}
use Rattle.participant_waves.proofs.nearest.nearest_to.Given as goal

abbrev pub invariant-loop-v : goal.invariant-loop-v
invariant-loop-v l = record {
  vertex : l.nearest < l.v;
  within : l.v ≤ length (vertices_of l.mesh);
  none_nearer : (u : ℕ) → u < l.v → distance_to (vertices_of l.mesh) l.at l.nearest ≤ distance_to (vertices_of l.mesh) l.at u;
  first : (u : ℕ) → u < l.nearest → distance_to (vertices_of l.mesh) l.at l.nearest < distance_to (vertices_of l.mesh) l.at u;
}
