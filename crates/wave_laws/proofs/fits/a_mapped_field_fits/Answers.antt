use Rattle.wave_laws.proofs.MappedFits.{field_mapped}
use Rattle.wave_laws.proofs.fits.a_mapped_field_fits.Goals as goal

pub returns : goal.returns
returns g m from to components count field out is made = field_mapped m from to components count field out is made
