-- How the stores of a participant's exchanges go on: opened, with one more post, with that accepted. The project's own.
use Rattle.std.specs.Prelude.{◌≡◌, ℕ, true, false, List, [], length, slice_get, All, Option, Some, None}
use Rattle.waveform.specs.declared.sample.Sample.{Sample}
use Rattle.cpl_plan.specs.declared.parts.Exchange.{Exchange}
use Rattle.cpl_plan.specs.declared.words.Item.TheVariants.{Completed, Posted}
use Rattle.coupled_loop.specs.Given.{Gift, gives, accepts}
use Rattle.sample_store.specs.Kept.{Kept as StoreKept}
use Rattle.sample_store.specs.NextTurn.{next_turn}
use Rattle.sample_store.specs.StandsFor.{StandsFor}

-- one sample, at time 0
pub record IsInitial (wave : List Sample) : Type 0 where
  pub one : length wave ≡ 1
  pub start : All (λ s. s.time ≡ 0) wave

-- a store for each wave, in order
pub record AreOpened (waves : List (List Sample)) (stores : List StoreKept) : Type 0 where
  pub count : length stores ≡ length waves
  pub each : (i : ℕ) (wave : List Sample) (store : StoreKept) → slice_get waves i ≡ Some wave → slice_get stores i ≡ Some store
      → StandsFor (gives (Completed 0) 0 wave []) store

-- turn (w, k) is the next of a store that is there
abbrev pub IsNext : Option StoreKept → (w k : ℕ) → Type 0
IsNext None w k = ⊥
IsNext (Some store) w k = next_turn store.progress ≡ (w, k)

-- the newest post is of window w, and not accepted yet
abbrev pub IsOpen : Option StoreKept → (w : ℕ) → Type 0
IsOpen None w = ⊥
IsOpen (Some store) w = (store.progress.window ≡ w) × (store.progress.is_accepted ≡ false)

-- the newest post is that of turn (w, k), and not accepted yet
abbrev pub IsPosted : Option StoreKept → (w k : ℕ) → Type 0
IsPosted None w k = ⊥
IsPosted (Some store) w k = (store.progress.window ≡ w) × (store.progress.iteration ≡ k) × (store.progress.is_accepted ≡ false)

-- so of each exchange that a participant sends
abbrev pub AreNext : List Exchange → List (Option StoreKept) → (p w k : ℕ) → Type 0
AreNext exchanges stores p w k =
    (x : ℕ) (e : Exchange) (store : Option StoreKept) → slice_get exchanges x ≡ Some e → e.from ≡ p → slice_get stores x ≡ Some store → IsNext store w k

abbrev pub AreOpen : List Exchange → List (Option StoreKept) → (p w : ℕ) → Type 0
AreOpen exchanges stores p w =
    (x : ℕ) (e : Exchange) (store : Option StoreKept) → slice_get exchanges x ≡ Some e → e.from ≡ p → slice_get stores x ≡ Some store → IsOpen store w

abbrev pub ArePosted : List Exchange → List (Option StoreKept) → (p w k : ℕ) → Type 0
ArePosted exchanges stores p w k =
    (x : ℕ) (e : Exchange) (store : Option StoreKept) → slice_get exchanges x ≡ Some e → e.from ≡ p → slice_get stores x ≡ Some store → IsPosted store w k

-- what others send is as it was
abbrev pub AreOthersSame : List Exchange → (p : ℕ) → (before after : List (Option StoreKept)) → Type 0
AreOthersSame exchanges p before after =
    (x : ℕ) (e : Exchange) → slice_get exchanges x ≡ Some e → ¬ (e.from ≡ p) → slice_get after x ≡ slice_get before x

-- with one more post
abbrev pub IsPut : (w k : ℕ) → List Sample → (before after : Option StoreKept) → Type 0
IsPut w k wave (Some before) (Some after) =
    ((given : List (Gift (List Sample))) → StandsFor given before → StandsFor (gives (Posted w k) k wave given) after)
    × (after.progress ≡ record { window = w; iteration = k; is_accepted = false })
IsPut w k wave _ _ = ⊥

-- with its newest post accepted
abbrev pub IsAccepted : (w : ℕ) → (before after : Option StoreKept) → Type 0
IsAccepted w (Some before) (Some after) =
    ((given : List (Gift (List Sample))) → StandsFor given before → StandsFor (accepts w before.progress.iteration given) after)
    × (after.progress ≡ record before.progress { is_accepted = true })
IsAccepted w _ _ = ⊥
