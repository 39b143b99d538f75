use Rattle.std.proofs.Common.{◌≡◌, take}
use Rattle.std.specs.Prelude.{All}
use Rattle.waveform.specs.IsWave.{last_time}
use Rattle.wave_coupling.specs.Posts.{newest_time}
use Rattle.event_fits.proofs.posts.end_together.Given as goal

abbrev pub invariant-loop-i : goal.invariant-loop-i
invariant-loop-i l = All (λ wave. last_time wave ≡ newest_time l.waves) (take l.i l.waves)
