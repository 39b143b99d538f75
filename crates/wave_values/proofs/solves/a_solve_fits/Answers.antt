use Rattle.wave_values.proofs.SolvesFit.{whole_fits}
use Rattle.wave_values.proofs.solves.a_solve_fits.Goals as goal

pub returns : goal.returns
returns types g plan vertices meshes solvers states sound part w k inputs held valid meets fits knows given now kept =
    whole_fits plan valid vertices part meshes solvers states sound meets w k inputs given held fits knows now kept
