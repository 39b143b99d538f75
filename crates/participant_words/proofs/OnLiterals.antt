-- What an answer unfolds to compute a course on literals.
use Rattle.std.specs.Prelude.{⊤}
use Rattle.field_buffers.specs.Rows.{with_rows}
use Rattle.wave_coupling.proofs.OnLiterals.{waves_on_literals}

unfoldable pub calls_on_literals : ⊤
unfolding waves_on_literals with_rows
calls_on_literals = tt
