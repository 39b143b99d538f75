-- Nodes that are named otherwise, and participants that are numbered otherwise. The project's own.
use Rattle.std.specs.Prelude.{◌≡◌, ◌↔◌, ℕ, ◌<◌, ◌≤◌, List, length, map}
use Rattle.plan_order.specs.NodeOrder.{first_member, StandsBefore}

-- each node gets a name of its own, in the same order of first members; there are no further nodes, and the same stand before one another
pub record IsRenaming {N M : Type 0} (members : N → List ℕ) (pairs : List (ℕ × ℕ)) (members' : M → List ℕ) (pairs' : List (ℕ × ℕ)) (name : N → M) : Type 0 where
  pub stays : (x : N) → 0 < length (members x) → 0 < length (members' (name x))
  pub onto : (y : M) → 0 < length (members' y) → (x : N) × (0 < length (members x)) × (name x ≡ y)
  pub apart : (x y : N) → 0 < length (members x) → 0 < length (members y) → name x ≡ name y → x ≡ y
  pub before : (x y : N) → 0 < length (members x) → 0 < length (members y) → StandsBefore members pairs x y ↔ StandsBefore members' pairs' (name x) (name y)
  pub first : (x y : N) → 0 < length (members x) → 0 < length (members y)
      → first_member (members x) ≤ first_member (members y) → first_member (members' (name x)) ≤ first_member (members' (name y))

-- participants get other numbers in the same order, and each node has the members that it had
pub record IsRenumbering {N M : Type 0} (members : N → List ℕ) (members' : M → List ℕ) (number : ℕ → ℕ) (name : N → M) : Type 0 where
  pub rises : (a b : ℕ) → a < b → number a < number b
  pub same : (x : N) → 0 < length (members x) → members' (name x) ≡ map number (members x)
  pub onto : (y : M) → 0 < length (members' y) → (x : N) × (0 < length (members x)) × (name x ≡ y)
  pub apart : (x y : N) → 0 < length (members x) → 0 < length (members y) → name x ≡ name y → x ≡ y

-- the pairs in the other numbers
abbrev pub renumbered : (ℕ → ℕ) → List (ℕ × ℕ) → List (ℕ × ℕ)
renumbered number pairs = map (λ pair. (number pair.0, number pair.1)) pairs
