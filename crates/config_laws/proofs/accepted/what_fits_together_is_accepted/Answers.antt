use Rattle.config_laws.proofs.AllFits.{accepted}
use Rattle.config_laws.proofs.accepted.what_fits_together_is_accepted.Goals as goal

pub returns : goal.returns
returns c = accepted
