-- The newest that a participant has given is what it has accepted for a window. The project's own, after the coupling documentation's serial schemes, where the second is given the window that the first has just completed.
use Rattle.std.specs.Prelude.{ℕ, ◌<◌, IsSome}
use Rattle.cpl_plan.specs.declared.words.Item.TheVariants.{Completed, Posted}
use Rattle.coupled_loop.specs.Given.{Look}

-- it has completed window w, and has posted nothing for a later one
pub record IsNewestAccepted {Post : Type 0} (look : Look Post) (part w : ℕ) : Type 0 where
  pub accepted : IsSome (look part (Completed w))
  pub uncompleted : (v : ℕ) → w < v → IsSome (look part (Completed v)) → ⊥
  pub unposted : (v k : ℕ) → w < v → IsSome (look part (Posted v k)) → ⊥
