use Rattle.wave_laws.proofs.WrittenFits.{values_written}
use Rattle.wave_laws.proofs.fits.what_is_written_fits.Goals as goal

pub returns : goal.returns
returns g plan part known entries entry values inside total all = values_written plan part known entries entry values inside total all
