-- A list whose items rise by a number is the lists of those of each number, one after the other.
use Rattle.std.proofs.Common.{◌≡◌, ℕ, zero, suc, ◌+◌, ◌<◌, ◌≤◌, inl, inr, true, nat_eq, nat_le, cond, List, [], ◌∷◌, ◌++◌, length, map, Contains, refl, ap, ap₂, sym, subst, ◌∙◌, arith}
use Rattle.std.specs.Prelude.{filter, flat_map}
use Rattle.std.specs.List.{list_all, enumerate_from, range_with_len}
use Rattle.std.proofs.lemmas.Bool.{and_parts, leb-true, eq-eqb, ne_eqb, cases_order}
use Rattle.std.proofs.lemmas.List.{map-append}
use Rattle.std.proofs.lemmas.List.Elements.{Contains-append_left, Contains-append_right, Contains-append_cases}
use Rattle.plan_order.proofs.Loops.{head_in, tail_in, in_cons}
use Rattle.cpl_plan.specs.PlanWords.{never_fall}

-- what is in lists that are put together
pub in_flat : {X Y : Type 0} (f : X → List Y) (xs : List X) (y : Y) → Contains (flat_map f xs) y → (x : X) × Contains xs x × Contains (f x) y
in_flat f [] y inside = absurd (omega (arith, inside.1))
in_flat f (x ∷ xs) y inside =
    elim (Contains-append_cases (f x) (flat_map f xs) y inside) [
      | inl here ↦ (x, head_in x xs, here)
      | inr rest ↦ let later = in_flat f xs y rest in (later.0, tail_in x xs later.0 later.1, later.2)
    ]

pub flat_in : {X Y : Type 0} (f : X → List Y) (xs : List X) (x : X) (y : Y) → Contains xs x → Contains (f x) y → Contains (flat_map f xs) y
flat_in f [] x y inside own = absurd (omega (arith, inside.1))
flat_in {X} {Y} f (z ∷ xs) x y inside own =
    elim (in_cons z xs x inside) [
      | inl same ↦ Contains-append_left (f z) (flat_map f xs) y (subst (λ (w : X). Contains (f w) y) (sym same) own)
      | inr later ↦ Contains-append_right (f z) (flat_map f xs) y (flat_in f xs x y later own)
    ]

pub flat_same : {X Y : Type 0} (f g : X → List Y) (xs : List X) → ((x : X) → Contains xs x → f x ≡ g x) → flat_map f xs ≡ flat_map g xs
flat_same f g [] same = refl
flat_same {X} {Y} f g (x ∷ xs) same =
    ap₂ (λ (a b : List Y). a ++ b) (same x (head_in x xs)) (flat_same f g xs (λ y inside. same y (tail_in x xs y inside)))

pub map_flat : {X Y Z : Type 0} (g : Y → Z) (f : X → List Y) (xs : List X) → flat_map (λ x. map g (f x)) xs ≡ map g (flat_map f xs)
map_flat g f [] = refl
map_flat {X} {Y} {Z} g f (x ∷ xs) = ap (λ (zs : List Z). map g (f x) ++ zs) (map_flat g f xs) ∙ sym (map-append g (f x) (flat_map f xs))

pub by_number : {X Y : Type 0} (g : ℕ → List Y) (start : ℕ) (xs : List X) → flat_map (λ entry. g entry.0) (enumerate_from start xs) ≡ flat_map g (range_with_len start (length xs))
by_number g start [] = refl
by_number {X} {Y} g start (x ∷ xs) = ap (λ (ys : List Y). g start ++ ys) (by_number g (start + 1) xs)

-- one item more at the front of the list of its number
module _ {X : Type 0} (less more : ℕ → List X) (item : X) (number : ℕ) (here : more number ≡ item ∷ less number) (before : (s : ℕ) → s < number → (less s ≡ []) × (more s ≡ [])) (after : (s : ℕ) → number < s → more s ≡ less s) where
  none_more : (start n : ℕ) → number < start → flat_map more (range_with_len start n) ≡ flat_map less (range_with_len start n)
  none_more start zero past = refl
  none_more start (suc n) past =
      ap₂ (λ (a b : List X). a ++ b) (after start past) (none_more (start + 1) n (omega (arith, past)))

  one_more : (start n : ℕ) → start ≤ number → number < start + n → flat_map more (range_with_len start n) ≡ item ∷ flat_map less (range_with_len start n)
  one_more start zero from to = absurd (omega (arith, from, to))
  one_more start (suc n) from to =
      elim (cases_order start number) [
        | inl same ↦
            let rest = none_more (start + 1) n (omega (arith, same)) in
            let own : more start ≡ item ∷ less start = subst (λ (s : ℕ). more s ≡ item ∷ less s) (sym same) here in
            ap₂ (λ (a b : List X). a ++ b) own rest
        | inr (inl below) ↦
            let none = before start below in
            let rest = one_more (start + 1) n (omega (arith, below)) (omega (arith, to)) in
            ap₂ (λ (a b : List X). a ++ b) none.1 rest ∙ ap (λ (a : List X). item ∷ (a ++ flat_map less (range_with_len (start + 1) n))) (sym none.0)
        | inr (inr above) ↦ absurd (omega (arith, from, above))
      ]

module _ {X : Type 0} (key : X → ℕ) where
  none_of : (xs : List X) (least s : ℕ) → list_all (nat_le least) (map key xs) ≡ true → s < least → filter (λ x. nat_eq (key x) s) xs ≡ []
  none_of [] least s all below = refl
  none_of (x ∷ xs) least s all below =
      let parts = and_parts (nat_le least (key x)) (list_all (nat_le least) (map key xs)) all in
      let up : least ≤ key x = leb-true least (key x) parts.0 in
      ap (λ b. cond b (x ∷ filter (λ z. nat_eq (key z) s) xs) (filter (λ z. nat_eq (key z) s) xs)) (ne_eqb (key x) s (λ same. omega (arith, same, up, below)))
      ∙ none_of xs least s parts.1 below

  pub rising : (n : ℕ) (xs : List X) → never_fall (map key xs) ≡ true → ((x : X) → Contains xs x → key x < n) → flat_map (λ s. filter (λ x. nat_eq (key x) s) xs) (range_with_len 0 n) ≡ xs
  rising n [] rises below = nothing 0 n
    where
      nothing : (start n : ℕ) → flat_map (λ (s : ℕ). filter (λ (x : X). nat_eq (key x) s) []) (range_with_len start n) ≡ []
      nothing start zero = refl
      nothing start (suc n) = nothing (start + 1) n
  rising n (x ∷ xs) rises below =
      let parts = and_parts (list_all (nat_le (key x)) (map key xs)) (never_fall (map key xs)) rises in
      let less : ℕ → List X = λ s. filter (λ z. nat_eq (key z) s) xs in
      let more : ℕ → List X = λ s. filter (λ z. nat_eq (key z) s) (x ∷ xs) in
      let here : more (key x) ≡ x ∷ less (key x) = ap (λ b. cond b (x ∷ less (key x)) (less (key x))) (eq-eqb (key x) (key x) refl) in
      let skip : (s : ℕ) → (key x ≡ s → ⊥) → more s ≡ less s = λ s apart. ap (λ b. cond b (x ∷ less s) (less s)) (ne_eqb (key x) s apart) in
      one_more less more x (key x) here
      (λ s under. let none = none_of xs (key x) s parts.0 under in (none, skip s (λ same. omega (arith, same, under)) ∙ none))
      (λ s over. skip s (λ same. omega (arith, same, over)))
      0 n (omega arith) (omega (arith, below x (head_in x xs)))
      ∙ ap (λ (ys : List X). x ∷ ys) (rising n xs parts.1 (λ y inside. below y (tail_in x xs y inside)))
