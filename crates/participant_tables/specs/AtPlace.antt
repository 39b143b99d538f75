-- A list with the item at a place changed. The project's own.
use Rattle.std.specs.Prelude.{ℕ, zero, suc, List, [], ◌∷◌}

unfoldable pub at_place : {X : Type 0} → (X → X) → (place : ℕ) → List X → List X
at_place change place [] = []
at_place change zero (x ∷ xs) = change x ∷ xs
at_place change (suc place) (x ∷ xs) = x ∷ at_place change place xs
