-- Lists that are made of results, and what is found in lists.
use Rattle.std.proofs.Common.{◌≡◌, inl, inr, ℕ, suc, Bool, true, false, nat_eq, not, cond, if◌then◌else◌, map, List, [], ◌∷◌, length, find, Some, Result, Ok, Err, Contains, refl, ap, sym, subst, ◌∙◌, arith}
use Rattle.std.specs.List.{zip, list_any}
use Rattle.std.specs.Option.{option_map_or}
use Rattle.std.proofs.lemmas.Bool.{cases_Bool, or_cases, or_left, or_right, and_parts, eqb-true, eq-eqb, not-true, false≢true}
use Rattle.std.proofs.lemmas.Option.{none-some}
use Rattle.plan_order.proofs.Loops.{head_in, tail_in, in_cons}
use Rattle.plan_order.proofs.Orders.{none_in_nil}
use Rattle.cpl_plan.specs.PlanWords.{are_distinct}
use Rattle.wave_laws.proofs.MappedWaves.{IsEach}

-- a result is one
pub ok_same : {Y E : Type 0} (result : Result Y E) (a b : Y) → result ≡ Ok a → result ≡ Ok b → a ≡ b
ok_same result a b one other = cc

pub err_ok : {Y E : Type 0} (result : Result Y E) (why : E) (a : Y) → result ≡ Err why → result ≡ Ok a → ⊥
err_ok result why a one other = cc

pub found_in : {X : Type 0} (test : X → Bool) (xs : List X) (x : X) → find test xs ≡ Some x → Contains xs x × (test x ≡ true)
found_in test [] x is = absurd (none-some x is)
found_in {X} test (y ∷ xs) x is = by (test y) refl is (λ rest. found_in test xs x rest)
  where
    by : (b : Bool) → test y ≡ b → (if b then Some y else find test xs) ≡ Some x → (find test xs ≡ Some x → Contains xs x × (test x ≡ true)) → Contains (y ∷ xs) x × (test x ≡ true)
    by true e found further = let same : y ≡ x = cc in subst (λ (z : X). Contains (y ∷ xs) z × (test z ≡ true)) same (head_in y xs, e)
    by false e found further = let rest = further found in (tail_in y xs x rest.0, rest.1)

-- some element passes
pub any_in : {X : Type 0} (test : X → Bool) (xs : List X) → list_any test xs ≡ true → (x : X) × Contains xs x × (test x ≡ true)
any_in test [] is = absurd (false≢true is)
any_in test (y ∷ xs) is =
    elim (or_cases (test y) (list_any test xs) is) [
      | inl here ↦ (y, head_in y xs, here)
      | inr rest ↦ let more = any_in test xs rest in (more.0, tail_in y xs more.0 more.1, more.2)
    ]

-- of elements with numbers that are all different, two of the same number are one
any_same : {X : Type 0} (number : X → ℕ) (n : ℕ) (xs : List X) (x : X) → Contains xs x → n ≡ number x → list_any (nat_eq n) (map number xs) ≡ true
any_same number n [] x inside same = absurd (none_in_nil x inside)
any_same number n (y ∷ xs) x inside same =
    elim (in_cons y xs x inside) [
      | inl here ↦ or_left (nat_eq n (number y)) (list_any (nat_eq n) (map number xs)) (eq-eqb n (number y) (same ∙ ap number (sym here)))
      | inr rest ↦ or_right (nat_eq n (number y)) (list_any (nat_eq n) (map number xs)) (any_same number n xs x rest same)
    ]

pub one_number : {X : Type 0} (number : X → ℕ) (xs : List X) (a b : X) → are_distinct nat_eq (map number xs) ≡ true → Contains xs a → Contains xs b → number a ≡ number b → a ≡ b
one_number number [] a b apart one other same = absurd (none_in_nil a one)
one_number number (y ∷ xs) a b apart one other same =
    let parts = and_parts (not (list_any (nat_eq (number y)) (map number xs))) (are_distinct nat_eq (map number xs)) apart in
    let off : list_any (nat_eq (number y)) (map number xs) ≡ false = not-true (list_any (nat_eq (number y)) (map number xs)) parts.0 in
    elim (in_cons y xs a one) [
      | inl here ↦ elim (in_cons y xs b other) [
        | inl there ↦ sym here ∙ there
        | inr rest ↦ absurd (false≢true (sym off ∙ any_same number (number y) xs b rest (ap number here ∙ same)))
      ]
      | inr among ↦ elim (in_cons y xs b other) [
        | inl there ↦ absurd (false≢true (sym off ∙ any_same number (number y) xs a among (ap number there ∙ sym same)))
        | inr rest ↦ one_number number xs a b parts.1 among rest same
      ]
    ]

module _ {X Y E : Type 0} (f : X → Result Y E) (x : X) (xs : List X) (y : Y) (ys : List Y) (is : IsEach f (x ∷ xs) (y ∷ ys)) where
  each_head : f x ≡ Ok y
  each_head = is.each 0 x y (omega (arith))

  each_rest : IsEach f xs ys
  each_rest = record { many = omega (arith, is.many); each = λ k d e within. is.each (suc k) d e (omega (arith, within)) }

-- what was made of a number, looked for by that number
pub found_made : {Y E : Type 0} (f : ℕ → Result Y E) (xs : List ℕ) (ys : List Y) (x : ℕ) (d : Y) → IsEach f xs ys → Contains xs x
    → f x ≡ Ok (option_map_or (λ (pair : ℕ × Y). pair.1) (find (λ (pair : ℕ × Y). nat_eq pair.0 x) (zip xs ys)) d)
found_made f [] ys x d is inside = absurd (none_in_nil x inside)
found_made f (z ∷ xs) [] x d is inside = absurd (omega (arith, is.many))
found_made {Y} f (z ∷ xs) (y ∷ ys) x d is inside =
    elim (cases_Bool (nat_eq z x)) [
      | inl same ↦
          subst (λ (b : Bool). f x ≡ Ok (option_map_or (λ (pair : ℕ × Y). pair.1) (cond b (Some (z, y)) (find (λ (pair : ℕ × Y). nat_eq pair.0 x) (zip xs ys))) d)) (sym same)
          (subst (λ (n : ℕ). f n ≡ Ok y) (eqb-true z x same) (each_head f z xs y ys is))
      | inr other ↦
          subst (λ (b : Bool). f x ≡ Ok (option_map_or (λ (pair : ℕ × Y). pair.1) (cond b (Some (z, y)) (find (λ (pair : ℕ × Y). nat_eq pair.0 x) (zip xs ys))) d)) (sym other)
          (found_made f xs ys x d (each_rest f z xs y ys is)
          (elim (in_cons z xs x inside) [
            | inl same ↦ absurd (false≢true (sym other ∙ eq-eqb z x same))
            | inr rest ↦ rest
          ]))
    ]

-- what stands beside an element of two lists
pub beside : {X Y : Type 0} (xs : List X) (ys : List Y) (x : X) → length ys ≡ length xs → Contains xs x → (y : Y) × Contains (zip xs ys) (x, y)
beside [] ys x many inside = absurd (none_in_nil x inside)
beside (z ∷ xs) [] x many inside = absurd (omega (arith, many))
beside {X} {Y} (z ∷ xs) (y ∷ ys) x many inside =
    elim (in_cons z xs x inside) [
      | inl same ↦ (y, subst (λ (u : X). Contains ((z, y) ∷ zip xs ys) (u, y)) same (head_in (z, y) (zip xs ys)))
      | inr rest ↦ let more = beside xs ys x (omega (arith, many)) rest in (more.0, tail_in (z, y) (zip xs ys) (x, more.0) more.1)
    ]

-- what was made beside an element was made of what stood beside it
pub made_beside : {X W Y E : Type 0} (f : X × W → Result Y E) (xs : List X) (ws : List W) (ys : List Y) → length ws ≡ length xs → IsEach f (zip xs ws) ys
    → (x : X) (y : Y) → Contains (zip xs ys) (x, y) → (w : W) × Contains (zip xs ws) (x, w) × (f (x, w) ≡ Ok y)
made_beside f [] ws ys many is x y inside = absurd (none_in_nil (x, y) inside)
made_beside f (z ∷ xs) [] ys many is x y inside = absurd (omega (arith, many))
made_beside f (z ∷ xs) (w ∷ ws) [] many is x y inside = absurd (none_in_nil (x, y) inside)
made_beside {X} {W} {Y} f (z ∷ xs) (w ∷ ws) (v ∷ ys) many is x y inside =
    elim (in_cons (z, v) (zip xs ys) (x, y) inside) [
      | inl same ↦
          let one : z ≡ x = ap (λ (pair : X × Y). pair.0) same in
          let other : v ≡ y = ap (λ (pair : X × Y). pair.1) same in (
            w,
            subst (λ (u : X). Contains ((z, w) ∷ zip xs ws) (u, w)) one (head_in (z, w) (zip xs ws)),
            subst (λ (u : X). f (u, w) ≡ Ok y) one (each_head f (z, w) (zip xs ws) v ys is ∙ ap Ok other),
          )
      | inr rest ↦
          let more = made_beside f xs ws ys (omega (arith, many)) (each_rest f (z, w) (zip xs ws) v ys is) x y rest in
          (more.0, tail_in (z, w) (zip xs ws) (x, more.0) more.1, more.2)
    ]

-- what stands in two lists side by side
pub zipped_left : {X Y : Type 0} (xs : List X) (ys : List Y) (x : X) (y : Y) → Contains (zip xs ys) (x, y) → Contains xs x
zipped_left [] ys x y inside = absurd (none_in_nil (x, y) inside)
zipped_left (z ∷ xs) [] x y inside = absurd (none_in_nil (x, y) inside)
zipped_left {X} {Y} (z ∷ xs) (v ∷ ys) x y inside =
    elim (in_cons (z, v) (zip xs ys) (x, y) inside) [
      | inl same ↦ subst (λ (u : X). Contains (z ∷ xs) u) (ap (λ (pair : X × Y). pair.0) same) (head_in z xs)
      | inr rest ↦ tail_in z xs x (zipped_left xs ys x y rest)
    ]

pub length_zipped : {X Y : Type 0} (xs : List X) (ys : List Y) → length ys ≡ length xs → length (zip xs ys) ≡ length xs
length_zipped [] ys many = refl
length_zipped (x ∷ xs) [] many = many
length_zipped (x ∷ xs) (y ∷ ys) many = ap suc (length_zipped xs ys (omega (arith, many)))

-- what stands beside an element of a list is what was made of it
pub beside_made : {X Y : Type 0} (f : X → Y) (xs : List X) (x : X) (y : Y) → Contains (zip xs (map f xs)) (x, y) → f x ≡ y
beside_made f [] x y inside = absurd (none_in_nil (x, y) inside)
beside_made {X} {Y} f (z ∷ xs) x y inside =
    elim (in_cons (z, f z) (zip xs (map f xs)) (x, y) inside) [
      | inl same ↦ ap f (sym (ap (λ (pair : X × Y). pair.0) same)) ∙ ap (λ (pair : X × Y). pair.1) same
      | inr rest ↦ beside_made f xs x y rest
    ]
