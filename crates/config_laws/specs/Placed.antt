-- What holds of each item of a list after those before it, and of exactly one. The project's own.
use Rattle.std.specs.Prelude.{◌≡◌, Bool, IsTrue, IsFalse, List, ◌∷◌, ◌++◌, find, Some, All}

-- it holds of each item of the list, beside those that stand before it
abbrev pub EachAfter : {X : Type 0} → (List X → X → Type 0) → List X → Type 0
EachAfter {X} P items = (before : List X) (item : X) (after : List X) → items ≡ before ++ item ∷ after → P before item

-- this item passes the test, and no other one does; so it is what is found
pub record IsOnlyOne {X : Type 0} (test : X → Bool) (items : List X) (one : X) : Type 0 where
  pub before : List X
  pub after : List X
  pub stands : items ≡ before ++ one ∷ after
  pub passes : IsTrue (test one)
  pub none_before : All (λ other. IsFalse (test other)) before
  pub none_after : All (λ other. IsFalse (test other)) after
  pub found : find test items ≡ Some one
