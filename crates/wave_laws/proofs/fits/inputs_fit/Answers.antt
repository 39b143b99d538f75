use Rattle.wave_laws.proofs.InputFits.{input_fits}
use Rattle.wave_laws.proofs.fits.inputs_fit.Goals as goal

pub returns : goal.returns
returns g plan vertices look part w k x e valid fits order provided relaxed at reader =
    input_fits plan valid vertices look fits order part w k x e provided relaxed at reader
