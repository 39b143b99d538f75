use Rattle.std.proofs.Common.{◌*◌, length}
use Rattle.wave_laws.proofs.MappedWaves.{wave_mapped, posted_follows, input_follows, initial_follows}
use Rattle.wave_laws.proofs.fits.a_mapped_wave_fits.Goals as goal

pub returns-clause-posted : goal.returns-clause-posted
returns-clause-posted g m from to start end components count wave out is made =
    posted_follows components (components * length to) wave out (wave_mapped m from to components count wave out is.samples made) start end count is

pub returns-clause-input : goal.returns-clause-input
returns-clause-input g m from to start end components count wave out is made =
    input_follows components (components * length to) wave out (wave_mapped m from to components count wave out is.samples made) start end count is

pub returns-clause-initial : goal.returns-clause-initial
returns-clause-initial g m from to components count wave out is made =
    initial_follows components (components * length to) wave out (wave_mapped m from to components count wave out is.samples made) count is
