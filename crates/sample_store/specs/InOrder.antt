-- What was given is in order: windows one after another, in each the iterations one after another, acceptances after what they accept. After the coupling documentation, where participants advance in time together; the items are the project's own.
use Rattle.std.specs.Prelude.{◌≡◌, ◌⊎◌, ℕ, suc, ◌-◌, ◌<◌, ◌≤◌, false, List, Some, None, IsSome}
use Rattle.cpl_plan.specs.declared.words.Item.{Item}
use Rattle.cpl_plan.specs.declared.words.Item.TheVariants.{Completed, Posted}
use Rattle.coupled_loop.specs.Given.{Gift, found}
use Rattle.sample_store.specs.declared.progress.Progress.{Progress}
use Rattle.sample_store.specs.Held.{newest_accepted}

-- an item that comes later than what was given so far
abbrev pub IsLater : Progress → Item → Type 0
IsLater progress (Completed v) = newest_accepted progress < v
IsLater progress (Posted v j) = (progress.window < v) ⊎ ((v ≡ progress.window) × (progress.iteration < j))

pub record IsInOrder {Post : Type 0} (given : List (Gift Post)) (progress : Progress) : Type 0 where
  pub later : (item : Item) → IsLater progress item → found given item ≡ None
  pub windows : (v : ℕ) → v ≤ newest_accepted progress → IsSome (found given (Completed v))
  pub turns : (v j : ℕ) → IsSome (found given (Posted v j)) → (1 ≤ v) × (1 ≤ j) × IsSome (found given (Completed (v - 1)))
  pub iterations : (v j : ℕ) → IsSome (found given (Posted v (suc (suc j)))) → IsSome (found given (Posted v (suc j)))
  pub newest : progress.is_accepted ≡ false → IsSome (found given (Posted progress.window progress.iteration))
  -- a post tells its iteration
  pub numbered : (v j : ℕ) (gift : Gift Post) → found given (Posted v j) ≡ Some gift → gift.iteration ≡ j
  -- what is accepted is a post of the window, as it is
  pub acceptances : (v : ℕ) (gift : Gift Post) → 1 ≤ v → found given (Completed v) ≡ Some gift
      → found given (Posted v gift.iteration) ≡ Some (record gift { item = Posted v gift.iteration })
