use Rattle.wave_laws.proofs.RelaxedFits.{waves_relaxed}
use Rattle.wave_laws.proofs.fits.relaxed_waves_fit.Goals as goal

pub returns : goal.returns
returns g plan vertices look number scheme w k place x e valid fits order stands first given inside at_place at =
    waves_relaxed plan valid vertices look fits order number scheme stands w k first given inside place x e at_place at
