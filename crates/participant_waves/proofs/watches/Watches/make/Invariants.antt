use Rattle.std.proofs.Common.{◌≡◌, map, take}
use Rattle.mesh_data.specs.Nearest.{nearest_vertex}
use Rattle.wave_coupling.specs.Known.{points_of}
use Rattle.participant_words.specs.KnownByReply.{known_by}
use Rattle.participant_waves.proofs.watches.Watches.make.Given as goal

abbrev pub invariant-loop-i : goal.invariant-loop-i
invariant-loop-i l =
    l.vertices.items ≡ map (λ watch. nearest_vertex (points_of l.plan l.part (known_by l.plan l.part l.own l.received) watch.mesh) watch.at) (take l.i l.watches)
