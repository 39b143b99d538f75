use Rattle.core_sides.proofs.FitsAlike.{fits_alike}
use Rattle.core_sides.proofs.laws.what_fits_in_one_fits_in_all.Goals as goal

pub returns : goal.returns
returns c = λ plan kept sides other p act here there fits. fits_alike plan kept sides other here there p act fits
