use Rattle.wave_laws.proofs.WaveLaws.{readings_begin}
use Rattle.wave_laws.proofs.laws.readings_are_a_prefix.Goals as goal

pub returns : goal.returns
returns g c plan meshes solvers states schedule actors part valid is below =
    readings_begin plan meshes solvers states valid schedule actors is part below
