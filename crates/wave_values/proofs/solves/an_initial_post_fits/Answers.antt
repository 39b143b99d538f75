use Rattle.std.proofs.Common.{ℕ, ◌*◌, inl, subst}
use Rattle.cpl_plan.specs.PlanWords.{components_of}
use Rattle.wave_coupling.specs.Posts.{wave_of}
use Rattle.wave_laws.specs.Fitting.{AreValues, IsInitialWave}
use Rattle.wave_values.proofs.WritesFit.{first_fits}
use Rattle.wave_values.proofs.solves.an_initial_post_fits.Goals as goal

pub returns : goal.returns
returns types g plan vertices solver sound part known state post valid meets fits knows is_sound made x e at sends =
    subst (λ (n : ℕ). IsInitialWave (components_of plan e) (components_of plan e * n) (wave_of plan e x post)) (knows x e at (inl sends))
    (first_fits plan valid known x e at part sends (solver.first state) post (subst (λ (n : ℕ). AreValues n (solver.first state)) fits.writes (meets.first state is_sound)) made)
