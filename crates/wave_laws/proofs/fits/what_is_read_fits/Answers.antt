use Rattle.wave_laws.proofs.ReadValues.{input_read_at, read_are}
use Rattle.wave_laws.proofs.fits.what_is_read_fits.Goals as goal

pub returns : goal.returns
returns g start end components count wave degree t is low high =
    read_are components count wave degree t is.samples is.least (input_read_at start end components count wave t is low high)
