-- What the stores of a scheme's exchanges keep is what the senders gave of them. The project's own.
use Rattle.std.specs.Prelude.{◌≡◌, ℕ, List, Option, Some, option_map, slice_get}
use Rattle.cpl_plan.specs.declared.parts.PlanParts.{PlanParts}
use Rattle.cpl_plan.specs.declared.parts.Exchange.{Exchange}
use Rattle.cpl_plan.specs.declared.words.Item.{Item}
use Rattle.coupled_loop.specs.Given.{Gift, Look, found}
use Rattle.sample_store.specs.Kept.{Kept}
use Rattle.sample_store.specs.StandsFor.{StandsFor}
use Rattle.wave_coupling.specs.Posts.{Wave, Post, wave_of}

-- a gift of the sender as far as it is of exchange x
abbrev pub gift_of : PlanParts → Exchange → (x : ℕ) → Gift Post → Gift Wave
gift_of plan e x gift = record { item = gift.item; iteration = gift.iteration; post = wave_of plan e x gift.post }

-- a store stands for a list of gifts in which each item is what the sender gave of the exchange
pub record StoreTells (plan : PlanParts) (look : Look Post) (x : ℕ) (e : Exchange) (store : Kept) : Type 0 where
  pub given : List (Gift Wave)
  pub stands : StandsFor given store
  pub tells : (item : Item) → found given item ≡ option_map (gift_of plan e x) (look e.from item)

-- the store of each exchange of a scheme tells what the exchange's sender gave
abbrev pub StoresTell : PlanParts → Look Post → (scheme : ℕ) → List (Option Kept) → Type 0
StoresTell plan look scheme stores =
    (x : ℕ) (e : Exchange) (store : Kept) → slice_get plan.exchanges x ≡ Some e → e.scheme ≡ scheme → slice_get stores x ≡ Some (Some store) → StoreTells plan look x e store
