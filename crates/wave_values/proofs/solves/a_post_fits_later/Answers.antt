use Rattle.wave_values.proofs.PostsFit.{post_in_window}
use Rattle.wave_values.proofs.solves.a_post_fits_later.Goals as goal

pub returns : goal.returns
returns g plan vertices look later part w k post valid fits order below provided ends extends ordered done x e at sends =
    post_in_window plan valid vertices part look later fits order ordered extends w k below provided post ends done x e at sends
