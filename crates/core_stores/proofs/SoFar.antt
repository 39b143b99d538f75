-- What a participant posts is moved into its stores exchange by exchange, in order.
use Rattle.std.proofs.Common.{◌≡◌, ℕ, suc, ◌+◌, List, ◌∷◌, Option, Some, length, set, slice_get, refl, sym, ap, ◌∙◌, arith}
use Rattle.cpl_plan.specs.declared.parts.PlanParts.{PlanParts}
use Rattle.cpl_plan.specs.declared.parts.Exchange.{Exchange}
use Rattle.wave_coupling.specs.Posts.{sent}
use Rattle.sample_store.specs.Kept.{Kept as StoreKept}
use Rattle.core_stores.proofs.Changes.{AreChanged, changed_none, changed_other, changed_one}
use Rattle.core_stores.proofs.Rests.{beside, AreLeft, left_all, left_other, some_left, found_here, left_one}

module _ {X : Type 0} (plan : PlanParts) (p : ℕ) (Moves : (x : ℕ) → Exchange → (before after : Option StoreKept) → Type 0) (before : List (Option StoreKept)) (all : List X) where
  -- the stores of the first exchanges, so many, are changed, and what is left is of the others
  pub record AreSoFar (n : ℕ) (now : List (Option StoreKept)) (rest : List X) (many : ℕ) : Type 0 where
    pub changed : AreChanged plan.exchanges p Moves n before now
    pub left : AreLeft plan p n all rest
    pub held : many ≡ length rest

  pub so_far_none : length all ≡ length (sent plan p) → AreSoFar 0 before all (length all)
  so_far_none count = record { changed = changed_none plan.exchanges p Moves before; left = left_all plan p all count; held = refl }

  module _ (n : ℕ) (now : List (Option StoreKept)) (rest : List X) (many : ℕ) (e : Exchange) (is : AreSoFar n now rest many) (at : slice_get plan.exchanges n ≡ Some e) where
    -- another sender's exchange is passed over
    pub so_far_other : ¬ (e.from ≡ p) → AreSoFar (n + 1) now rest many
    so_far_other apart = record {
      changed = changed_other plan.exchanges p Moves n before now e is.changed at apart;
      left = left_other plan p n e at all rest is.left apart;
      held = is.held;
    }

    module _ (own : e.from ≡ p) where
      -- there is something left for the participant's own
      pub never_short : ¬ (many ≡ 0)
      never_short none = some_left plan p n e at all rest is.left own (sym is.held ∙ none)

      -- which is the first that is left
      pub so_far_one : (one next : Option StoreKept) (first : X) (more : List X) (fewer : ℕ) → slice_get now n ≡ Some one → rest ≡ first ∷ more → fewer + 1 ≡ many
          → (beside (sent plan p) all n ≡ Some (n, first) → Moves n e one next) → AreSoFar (n + 1) (set now n next) more fewer
      so_far_one one next first more fewer there taken less moves = record {
        changed = changed_one plan.exchanges p Moves n before now e is.changed at own one next (sym (is.changed.left n (omega arith)) ∙ there)
            (moves (found_here plan p n e at all rest is.left own first more taken));
        left = left_one plan p n e at all rest is.left own first more taken;
        held =
            let long : length rest ≡ suc (length more) = ap (λ (xs : List X). length xs) taken in
            let before_it : many ≡ length rest = is.held in
            omega (arith, long, before_it, less);
      }
