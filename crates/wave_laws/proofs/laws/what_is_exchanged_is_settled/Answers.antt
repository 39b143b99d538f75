use Rattle.wave_laws.proofs.Settling.{wave_settled}
use Rattle.wave_laws.proofs.laws.what_is_exchanged_is_settled.Goals as goal

pub returns : goal.returns
returns g plan valid = wave_settled plan valid
