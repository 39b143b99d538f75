-- Names among the keys of a table: where one stands, and what a new one adds.
use Rattle.std.proofs.Common.{◌≡◌, ℕ, ◌+◌, Bool, true, false, not, ◌||◌, cond, List, [], ◌∷◌, ◌++◌, length, map, position, Some, None, refl, ap, sym, ◌∙◌}
use Rattle.std.specs.Prelude.{nat_lt}
use Rattle.std.specs.List.{list_any, position_or_len}
use Rattle.std.specs.Str.{bytes_eq}
use Rattle.std.proofs.lemmas.List.{length-map, map-append}
use Rattle.std.proofs.lemmas.Slice.Eq.{bytes_eq-Decides}

same_bool : (a b : Bool) → (a ≡ true → b ≡ true) → (b ≡ true → a ≡ true) → a ≡ b
same_bool true b to back = sym (to refl)
same_bool false true to back = back refl
same_bool false false to back = refl

-- names are compared either way
pub turned : (one other : List ℕ) → bytes_eq one other ≡ bytes_eq other one
turned one other =
    same_bool (bytes_eq one other) (bytes_eq other one)
    (λ is. (bytes_eq-Decides other one).1 (sym ((bytes_eq-Decides one other).0 is)))
    (λ is. (bytes_eq-Decides one other).1 (sym ((bytes_eq-Decides other one).0 is)))

place_of_map : {X Y : Type 0} (test : Y → Bool) (f : X → Y) (xs : List X) → position_or_len test (map f xs) ≡ position_or_len (λ x. test (f x)) xs
place_of_map test f [] = refl
place_of_map test f (x ∷ xs) = ap (λ (n : ℕ). cond (not (test (f x))) (1 + n) 0) (place_of_map test f xs)

position_of_map : {X Y : Type 0} (test : Y → Bool) (f : X → Y) (xs : List X) → position test (map f xs) ≡ position (λ x. test (f x)) xs
position_of_map {X} test f xs =
    let n : ℕ = position_or_len (λ (x : X). test (f x)) xs in
    ap (λ (k : ℕ). cond (nat_lt k (length (map f xs))) (Some k) None) (place_of_map test f xs) ∙ ap (λ (m : ℕ). cond (nat_lt n m) (Some n) None) (length-map xs f)

place_agrees : {X : Type 0} (p q : X → Bool) → ((x : X) → p x ≡ q x) → (xs : List X) → position_or_len p xs ≡ position_or_len q xs
place_agrees p q same [] = refl
place_agrees p q same (x ∷ xs) =
    ap (λ b. cond (not b) (1 + position_or_len p xs) 0) (same x) ∙ ap (λ (n : ℕ). cond (not (q x)) (1 + n) 0) (place_agrees p q same xs)

-- a name's place among keys, looked for either way
pub place_of_key : {X : Type 0} (f : X → List ℕ) (name : List ℕ) (xs : List X) → position (λ x. bytes_eq name (f x)) xs ≡ position (λ other. bytes_eq other name) (map f xs)
place_of_key {X} f name xs =
    ap (λ (n : ℕ). cond (nat_lt n (length xs)) (Some n) None) (place_agrees (λ (x : X). bytes_eq name (f x)) (λ (x : X). bytes_eq (f x) name) (λ x. turned name (f x)) xs)
    ∙ sym (position_of_map (λ other. bytes_eq other name) f xs)

kept_names : {X : Type 0} (f : X → List ℕ) (keys : List X) (k : X) (b : Bool) → b ≡ false → map f (cond b keys (keys ++ k ∷ [])) ≡ map f keys ++ f k ∷ []
kept_names f keys k true is = absurd (cc)
kept_names f keys k false is = map-append f keys (k ∷ [])

any_of_map : {X Y : Type 0} (test : Y → Bool) (f : X → Y) (xs : List X) → list_any test (map f xs) ≡ list_any (λ x. test (f x)) xs
any_of_map test f [] = refl
any_of_map test f (x ∷ xs) = ap (λ b. test (f x) || b) (any_of_map test f xs)

-- a new name stands after the others
pub added_name : {X : Type 0} (f : X → List ℕ) (keys : List X) (k : X) (names : List (List ℕ)) (name : List ℕ) → map f keys ≡ names → f k ≡ name → list_any (bytes_eq name) names ≡ false
    → map f (cond (list_any (λ other. bytes_eq (f k) (f other)) keys) keys (keys ++ k ∷ [])) ≡ names ++ name ∷ []
added_name {X} f keys k names name are is new =
    let none : list_any (λ (other : X). bytes_eq (f k) (f other)) keys ≡ false =
    sym (any_of_map (bytes_eq (f k)) f keys) ∙ (ap (list_any (bytes_eq (f k))) are ∙ (ap (λ (text : List ℕ). list_any (bytes_eq text) names) is ∙ new)) in
    kept_names f keys k (list_any (λ (other : X). bytes_eq (f k) (f other)) keys) none ∙ (ap (λ (xs : List (List ℕ)). xs ++ f k ∷ []) are ∙ ap (λ (text : List ℕ). names ++ text ∷ []) is)
