use Rattle.wave_coupling.specs.Coupling.{inputs_of}
use Rattle.wave_values.proofs.SolvesFit.{whole_fits}
use Rattle.wave_values.proofs.TurnsFit.{inputs_are}
use Rattle.wave_values.proofs.solves.a_turn_fits.Goals as goal

pub returns : goal.returns
returns types g plan vertices meshes solvers states sound look part w k held valid meets entries knows now kept fits order below provided relaxed =
    whole_fits plan valid vertices part meshes solvers states sound meets w k (inputs_of plan look part w k)
    (inputs_are plan valid vertices look order fits part w k below provided relaxed) held entries knows now kept
