-- The place at which something stands first; the numbers of items beside their places.
use Rattle.std.proofs.Common.{◌≡◌, ℕ, zero, suc, ◌+◌, ◌<◌, ◌≤◌, inl, inr, Bool, true, false, nat_eq, nat_lt, nat_le, cond, List, [], ◌∷◌, length, map, get_or, find, Option, Some, None, Contains, refl, ap, ap₂, sym, subst, ◌∙◌, arith}
use Rattle.std.specs.Prelude.{filter, slice_get, position, count_by}
use Rattle.std.specs.List.{list_all, enumerate_from, range_with_len, position_or_len}
use Rattle.std.specs.Option.{option_map_or}
use Rattle.std.proofs.lemmas.Bool.{lt-ltb, le-ltb, and_parts, leb-true, eq-eqb, ne_eqb, cases_order, cases_Bool, false≢true}
use Rattle.std.proofs.lemmas.List.Sums.{position_or_len_is}
use Rattle.std.proofs.lemmas.Option.{slice_get_within, slice_get-get_or, get_or_from_slice_get}
use Rattle.plan_order.proofs.Loops.{head_in, tail_in, in_cons}
use Rattle.cpl_plan.specs.PlanWords.{passes, numbers, never_fall}
use Rattle.config_laws.proofs.Truths.{counted}
use Rattle.plan_laws.proofs.Lists.{at_in, of_option, enumerated}

pub position_at : {X : Type 0} (p : X → Bool) (xs : List X) (n : ℕ) (x : X) → slice_get xs n ≡ Some x → p x ≡ true → ((k : ℕ) (y : X) → k < n → slice_get xs k ≡ Some y → p y ≡ false) → position p xs ≡ Some n
position_at {X} p xs n x is holds earlier =
    let within : n < length xs = slice_get_within xs n x is in
    let at : position_or_len p xs ≡ n =
    position_or_len_is p xs n x (omega (arith, within))
    (λ k below. earlier k (get_or xs k x) below (slice_get-get_or xs k x (omega (arith, below, within))))
    (λ here. ap p (get_or_from_slice_get xs n x x is) ∙ holds) in
    ap (λ m. cond (nat_lt m (length xs)) (Some m) None) at ∙ ap (λ b. cond b (Some n) None) (lt-ltb n (length xs) within)

pub position_none : {X : Type 0} (p : X → Bool) (xs : List X) → ((k : ℕ) (y : X) → slice_get xs k ≡ Some y → p y ≡ false) → position p xs ≡ None
position_none p [] none = refl
position_none p (x ∷ xs) none =
    let at : position_or_len p (x ∷ xs) ≡ length (x ∷ xs) =
    position_or_len_is p (x ∷ xs) (length (x ∷ xs)) x (omega arith)
    (λ k below. none k (get_or (x ∷ xs) k x) (slice_get-get_or (x ∷ xs) k x below))
    (λ past. absurd (omega (arith, past))) in
    ap (λ m. cond (nat_lt m (length (x ∷ xs))) (Some m) None) at ∙ ap (λ b. cond b (Some (length (x ∷ xs))) None) (le-ltb (length (x ∷ xs)) (length (x ∷ xs)) (omega arith))

pub find_one : {X : Type 0} (p : X → Bool) (xs : List X) (x : X) → Contains xs x → p x ≡ true → ((y : X) → Contains xs y → p y ≡ true → y ≡ x) → find p xs ≡ Some x
find_one p [] x inside holds only = absurd (omega (arith, inside.1))
find_one {X} p (y ∷ xs) x inside holds only =
    elim (cases_Bool (p y)) [
      | inl is ↦ ap (λ b. cond b (Some y) (find p xs)) is ∙ ap (λ (z : X). Some z) (only y (head_in y xs) is)
      | inr is ↦ elim (in_cons y xs x inside) [
        | inl same ↦ absurd (false≢true (sym is ∙ (ap p same ∙ holds)))
        | inr later ↦ ap (λ b. cond b (Some y) (find p xs)) is ∙ find_one p xs x later holds (λ z there. only z (tail_in y xs z there))
      ]
    ]

-- what is mapped there and back
pub map_back : {X Y : Type 0} (g : Y → X) (f : X → Y) (xs : List X) → ((x : X) → Contains xs x → g (f x) ≡ x) → map g (map f xs) ≡ xs
map_back g f [] back = refl
map_back {X} g f (x ∷ xs) back = ap₂ (λ (y : X) (ys : List X). y ∷ ys) (back x (head_in x xs)) (map_back g f xs (λ y inside. back y (tail_in x xs y inside)))

-- items with their numbers

pub enumerated_map : {X Y : Type 0} (f : ℕ × X → Y) (start : ℕ) (xs : List X) → enumerate_from start (map f (enumerate_from start xs)) ≡ map (λ entry. (entry.0, f entry)) (enumerate_from start xs)
enumerated_map f start [] = refl
enumerated_map {X} {Y} f start (x ∷ xs) = ap (λ (entries : List (ℕ × Y)). (start, f (start, x)) ∷ entries) (enumerated_map f (start + 1) xs)

pub enumerated_in : {X : Type 0} (xs : List X) (entry : ℕ × X) → Contains (enumerate_from 0 xs) entry → (x : X) × (slice_get xs entry.0 ≡ Some x) × (entry ≡ (entry.0, x))
enumerated_in {X} xs entry inside =
    let at = at_in (enumerate_from 0 xs) entry inside in
    let of = of_option (λ (x : X). (at.0, x)) (slice_get xs at.0) entry (sym (enumerated xs at.0) ∙ at.1) in
    let number : at.0 ≡ entry.0 = ap (λ (e : ℕ × X). e.0) of.2 in
    (of.0, subst (λ n. slice_get xs n ≡ Some of.0) number of.1, sym of.2 ∙ ap (λ n. (n, of.0)) number)

pub enumerated_items : {X : Type 0} (start : ℕ) (xs : List X) → map (λ entry. entry.1) (enumerate_from start xs) ≡ xs
enumerated_items start [] = refl
enumerated_items {X} start (x ∷ xs) = ap (λ (ys : List X). x ∷ ys) (enumerated_items (start + 1) xs)

-- the numbers of the items that pass
passing : {X : Type 0} (p : X → Bool) (at : ℕ → Option X) (start : ℕ) (xs : List X) → ((k : ℕ) → at (start + k) ≡ slice_get xs k)
    → map (λ entry. entry.0) (filter (λ entry. p entry.1) (enumerate_from start xs)) ≡ filter (λ n. option_map_or p (at n) false) (range_with_len start (length xs))
passing p at start [] same = refl
passing {X} p at start (x ∷ xs) same =
    let here_is : start ≡ start + 0 = omega arith in
    let here : at start ≡ Some x = ap at here_is ∙ same 0 in
    let Later : List (ℕ × X) = filter (λ entry. p entry.1) (enumerate_from (start + 1) xs) in
    let Rest : List ℕ = filter (λ n. option_map_or p (at n) false) (range_with_len (start + 1) (length xs)) in
    let rest : map (λ (entry : ℕ × X). entry.0) Later ≡ Rest = passing p at (start + 1) xs (λ k. let next : start + 1 + k ≡ start + suc k = omega arith in ap at next ∙ same (suc k)) in
    (elim (p x) as (λ b. map (λ (entry : ℕ × X). entry.0) (cond b ((start, x) ∷ Later) Later) ≡ cond b (start ∷ Rest) Rest) [
      | true ↦ ap (λ (ns : List ℕ). start ∷ ns) rest
      | false ↦ rest
    ]) ∙ sym (ap (λ (o : Option X). cond (option_map_or p o false) (start ∷ Rest) Rest) here)

pub passing_numbers : {X : Type 0} (p : X → Bool) (xs : List X) → map (λ entry. entry.0) (filter (λ entry. p entry.1) (enumerate_from 0 xs)) ≡ filter (λ n. passes xs n p) (numbers xs)
passing_numbers {X} p xs = passing p (λ n. slice_get xs n) 0 xs (λ k. let is : 0 + k ≡ k = omega arith in ap (λ n. slice_get xs n) is)

-- the numbers of mapped items, and of those that pass tests that agree
pub numbered_map : {X Y : Type 0} (p : Y → Bool) (f : X → Y) (start : ℕ) (xs : List X)
    → map (λ entry. entry.0) (filter (λ entry. p entry.1) (enumerate_from start (map f xs))) ≡ map (λ entry. entry.0) (filter (λ entry. p (f entry.1)) (enumerate_from start xs))
numbered_map p f start [] = refl
numbered_map {X} {Y} p f start (x ∷ xs) =
    let Rest : List (ℕ × Y) = filter (λ entry. p entry.1) (enumerate_from (start + 1) (map f xs)) in
    let Own : List (ℕ × X) = filter (λ entry. p (f entry.1)) (enumerate_from (start + 1) xs) in
    let rest : map (λ (entry : ℕ × Y). entry.0) Rest ≡ map (λ (entry : ℕ × X). entry.0) Own = numbered_map p f (start + 1) xs in
    elim (p (f x)) as (λ b. map (λ (entry : ℕ × Y). entry.0) (cond b ((start, f x) ∷ Rest) Rest) ≡ map (λ (entry : ℕ × X). entry.0) (cond b ((start, x) ∷ Own) Own)) [
      | true ↦ ap (λ (ns : List ℕ). start ∷ ns) rest
      | false ↦ rest
    ]

pub numbered_same : {X : Type 0} (p q : X → Bool) (start : ℕ) (xs : List X) → ((x : X) → Contains xs x → p x ≡ q x)
    → map (λ entry. entry.0) (filter (λ entry. p entry.1) (enumerate_from start xs)) ≡ map (λ entry. entry.0) (filter (λ entry. q entry.1) (enumerate_from start xs))
numbered_same p q start [] same = refl
numbered_same {X} p q start (x ∷ xs) same =
    let Rest : List (ℕ × X) = filter (λ entry. p entry.1) (enumerate_from (start + 1) xs) in
    let Own : List (ℕ × X) = filter (λ entry. q entry.1) (enumerate_from (start + 1) xs) in
    let rest : map (λ (entry : ℕ × X). entry.0) Rest ≡ map (λ (entry : ℕ × X). entry.0) Own = numbered_same p q (start + 1) xs (λ y inside. same y (tail_in x xs y inside)) in
    ap (λ b. map (λ (entry : ℕ × X). entry.0) (cond b ((start, x) ∷ Rest) Rest)) (same x (head_in x xs))
    ∙ elim (q x) as (λ b. map (λ (entry : ℕ × X). entry.0) (cond b ((start, x) ∷ Rest) Rest) ≡ map (λ (entry : ℕ × X). entry.0) (cond b ((start, x) ∷ Own) Own)) [
      | true ↦ ap (λ (ns : List ℕ). start ∷ ns) rest
      | false ↦ rest
    ]

pub map_same : {X Y : Type 0} (f g : X → Y) (xs : List X) → ((x : X) → Contains xs x → f x ≡ g x) → map f xs ≡ map g xs
map_same f g [] same = refl
map_same {X} {Y} f g (x ∷ xs) same = ap₂ (λ (y : Y) (ys : List Y). y ∷ ys) (same x (head_in x xs)) (map_same f g xs (λ y inside. same y (tail_in x xs y inside)))

-- the first of these numbers
pub record IsFirst {X : Type 0} (p : X → Bool) (start : ℕ) (xs : List X) (n : ℕ) : Type 0 where
  pub place : ℕ
  pub item : X
  pub at : slice_get xs place ≡ Some item
  pub holds : p item ≡ true
  pub earlier : (j : ℕ) (y : X) → j < place → slice_get xs j ≡ Some y → p y ≡ false
  pub number : start + place ≡ n

none_earlier : {X : Type 0} (p : X → Bool) (x : X) (xs : List X) (k : ℕ) → p x ≡ false → ((j : ℕ) (z : X) → j < k → slice_get xs j ≡ Some z → p z ≡ false)
    → (j : ℕ) (z : X) → j < suc k → slice_get (x ∷ xs) j ≡ Some z → p z ≡ false
none_earlier p x xs k failing none zero z below there = let same : x ≡ z = cc in ap p (sym same) ∙ failing
none_earlier p x xs k failing none (suc j) z below there = none j z (omega (arith, below)) there

pub first_number : {X : Type 0} (p : X → Bool) (start : ℕ) (xs : List X) (n : ℕ) → slice_get (map (λ entry. entry.0) (filter (λ entry. p entry.1) (enumerate_from start xs))) 0 ≡ Some n → IsFirst p start xs n
first_number p start [] n is = cc
first_number {X} p start (x ∷ xs) n is =
    let Later : List (ℕ × X) = filter (λ entry. p entry.1) (enumerate_from (start + 1) xs) in
    let shown : (b : Bool) → p x ≡ b → slice_get (map (λ (entry : ℕ × X). entry.0) (cond b ((start, x) ∷ Later) Later)) 0 ≡ Some n =
    λ b holds. sym (ap (λ (c : Bool). slice_get (map (λ (entry : ℕ × X). entry.0) (cond c ((start, x) ∷ Later) Later)) 0) holds) ∙ is in
    elim (cases_Bool (p x)) [
      | inl passing_is ↦
          let told : Some start ≡ Some n = shown true passing_is in
          let same : start ≡ n = cc in
          record { place = 0; item = x; at = refl; holds = passing_is; earlier = λ j z below there. absurd (omega (arith, below)); number = omega (arith, same) }
      | inr failing ↦
          let rest = first_number p (start + 1) xs n (shown false failing) in
          record { place = suc rest.place; item = rest.item; at = rest.at; holds = rest.holds; earlier = none_earlier p x xs rest.place failing rest.earlier; number = omega (arith, rest.number) }
    ]

-- in a list that rises by a number those of one number stand together
module _ {X : Type 0} (key : X → ℕ) where
  below_none : (least s : ℕ) (xs : List X) → list_all (nat_le least) (map key xs) ≡ true → s ≤ least → count_by (λ x. nat_lt (key x) s) xs ≡ 0
  below_none least s [] all under = refl
  below_none least s (x ∷ xs) all under =
      let parts = and_parts (nat_le least (key x)) (list_all (nat_le least) (map key xs)) all in
      let up : least ≤ key x = leb-true least (key x) parts.0 in
      let here : ◌≡◌ {A = ℕ} (cond (nat_lt (key x) s) 1 0) 0 = ap (λ b. cond {A = ℕ} b 1 0) (le-ltb (key x) s (omega (arith, up, under))) in
      let rest : count_by (λ x. nat_lt (key x) s) xs ≡ 0 = below_none least s xs parts.1 under in
      omega (arith, counted (λ z. nat_lt (key z) s) x xs, here, rest)

  above_none : (least s start : ℕ) (xs : List X) → list_all (nat_le least) (map key xs) ≡ true → s < least → (filter (λ entry. nat_eq (key entry.1) s) (enumerate_from start xs) ≡ []) × (filter (λ x. nat_eq (key x) s) xs ≡ [])
  above_none least s start [] all over = (refl, refl)
  above_none least s start (x ∷ xs) all over =
      let parts = and_parts (nat_le least (key x)) (list_all (nat_le least) (map key xs)) all in
      let up : least ≤ key x = leb-true least (key x) parts.0 in
      let apart : nat_eq (key x) s ≡ false = ne_eqb (key x) s (λ same. omega (arith, same, up, over)) in
      let rest = above_none least s (start + 1) xs parts.1 over in (
        ap (λ b. cond b ((start, x) ∷ filter (λ entry. nat_eq (key entry.1) s) (enumerate_from (start + 1) xs)) (filter (λ entry. nat_eq (key entry.1) s) (enumerate_from (start + 1) xs))) apart ∙ rest.0,
        ap (λ b. cond b (x ∷ filter (λ z. nat_eq (key z) s) xs) (filter (λ z. nat_eq (key z) s) xs)) apart ∙ rest.1,
      )

  pub together : (s start : ℕ) (xs : List X) → never_fall (map key xs) ≡ true
      → filter (λ entry. nat_eq (key entry.1) s) (enumerate_from start xs) ≡ enumerate_from (start + count_by (λ x. nat_lt (key x) s) xs) (filter (λ x. nat_eq (key x) s) xs)
  together s start [] rises = refl
  together s start (x ∷ xs) rises =
      let parts = and_parts (list_all (nat_le (key x)) (map key xs)) (never_fall (map key xs)) rises in
      let Kept : List (ℕ × X) = filter (λ entry. nat_eq (key entry.1) s) (enumerate_from (start + 1) xs) in
      let Items : List X = filter (λ z. nat_eq (key z) s) xs in
      let rest : Kept ≡ enumerate_from (start + 1 + count_by (λ z. nat_lt (key z) s) xs) Items = together s (start + 1) xs parts.1 in
      let count = counted (λ z. nat_lt (key z) s) x xs in
      elim (cases_order (key x) s) [
        | inl same ↦
            let none : count_by (λ z. nat_lt (key z) s) xs ≡ 0 = below_none (key x) s xs parts.0 (omega (arith, same)) in
            let here : ◌≡◌ {A = ℕ} (cond (nat_lt (key x) s) 1 0) 0 = ap (λ b. cond {A = ℕ} b 1 0) (le-ltb (key x) s (omega (arith, same))) in
            let equal : nat_eq (key x) s ≡ true = eq-eqb (key x) s same in
            let first : start ≡ start + count_by (λ z. nat_lt (key z) s) (x ∷ xs) = omega (arith, count, here, none) in
            let next : start + 1 + count_by (λ z. nat_lt (key z) s) xs ≡ start + count_by (λ z. nat_lt (key z) s) (x ∷ xs) + 1 = omega (arith, count, here, none) in
            ap (λ b. cond b ((start, x) ∷ Kept) Kept) equal
            ∙ (ap₂ (λ (n : ℕ) (later : List (ℕ × X)). (n, x) ∷ later) first (rest ∙ ap (λ (n : ℕ). enumerate_from n Items) next)
            ∙ ap (λ b. enumerate_from (start + count_by (λ z. nat_lt (key z) s) (x ∷ xs)) (cond b (x ∷ Items) Items)) (sym equal))
        | inr (inl below) ↦
            let here : ◌≡◌ {A = ℕ} (cond (nat_lt (key x) s) 1 0) 1 = ap (λ b. cond {A = ℕ} b 1 0) (lt-ltb (key x) s below) in
            let apart : nat_eq (key x) s ≡ false = ne_eqb (key x) s (λ same. omega (arith, same, below)) in
            let next : start + 1 + count_by (λ z. nat_lt (key z) s) xs ≡ start + count_by (λ z. nat_lt (key z) s) (x ∷ xs) = omega (arith, count, here) in
            ap (λ b. cond b ((start, x) ∷ Kept) Kept) apart
            ∙ (rest ∙ (ap (λ (n : ℕ). enumerate_from n Items) next
            ∙ ap (λ b. enumerate_from (start + count_by (λ z. nat_lt (key z) s) (x ∷ xs)) (cond b (x ∷ Items) Items)) (sym apart)))
        | inr (inr above) ↦
            let apart : nat_eq (key x) s ≡ false = ne_eqb (key x) s (λ same. omega (arith, same, above)) in
            let none = above_none (key x) s (start + 1) xs parts.0 above in
            ap (λ b. cond b ((start, x) ∷ Kept) Kept) apart
            ∙ (none.0 ∙ sym (ap (λ (ys : List X). enumerate_from (start + count_by (λ z. nat_lt (key z) s) (x ∷ xs)) ys) (ap (λ b. cond b (x ∷ Items) Items) apart ∙ none.1)))
      ]

  -- one number more is counted
  pub count_next : (s : ℕ) (xs : List X) → count_by (λ x. nat_lt (key x) (suc s)) xs ≡ count_by (λ x. nat_lt (key x) s) xs + count_by (λ x. nat_eq (key x) s) xs
  count_next s [] = refl
  count_next s (x ∷ xs) =
      let rest = count_next s xs in
      let one = counted (λ z. nat_lt (key z) (suc s)) x xs in
      let two = counted (λ z. nat_lt (key z) s) x xs in
      let three = counted (λ z. nat_eq (key z) s) x xs in
      let own : cond {A = ℕ} (nat_lt (key x) (suc s)) 1 0 ≡ cond {A = ℕ} (nat_lt (key x) s) 1 0 + cond {A = ℕ} (nat_eq (key x) s) 1 0 = here (key x) in
      omega (arith, rest, one, two, three, own)
    where
      here : (k : ℕ) → cond {A = ℕ} (nat_lt k (suc s)) 1 0 ≡ cond {A = ℕ} (nat_lt k s) 1 0 + cond {A = ℕ} (nat_eq k s) 1 0
      here k =
          elim (cases_order k s) [
            | inl same ↦
                let a : ◌≡◌ {A = ℕ} (cond (nat_lt k (suc s)) 1 0) 1 = ap (λ b. cond {A = ℕ} b 1 0) (lt-ltb k (suc s) (omega (arith, same))) in
                let b : ◌≡◌ {A = ℕ} (cond (nat_lt k s) 1 0) 0 = ap (λ b. cond {A = ℕ} b 1 0) (le-ltb k s (omega (arith, same))) in
                let c : ◌≡◌ {A = ℕ} (cond (nat_eq k s) 1 0) 1 = ap (λ b. cond {A = ℕ} b 1 0) (eq-eqb k s same) in
                omega (arith, a, b, c)
            | inr (inl below) ↦
                let a : ◌≡◌ {A = ℕ} (cond (nat_lt k (suc s)) 1 0) 1 = ap (λ b. cond {A = ℕ} b 1 0) (lt-ltb k (suc s) (omega (arith, below))) in
                let b : ◌≡◌ {A = ℕ} (cond (nat_lt k s) 1 0) 1 = ap (λ b. cond {A = ℕ} b 1 0) (lt-ltb k s below) in
                let c : ◌≡◌ {A = ℕ} (cond (nat_eq k s) 1 0) 0 = ap (λ b. cond {A = ℕ} b 1 0) (ne_eqb k s (λ same. omega (arith, same, below))) in
                omega (arith, a, b, c)
            | inr (inr above) ↦
                let a : ◌≡◌ {A = ℕ} (cond (nat_lt k (suc s)) 1 0) 0 = ap (λ b. cond {A = ℕ} b 1 0) (le-ltb k (suc s) (omega (arith, above))) in
                let b : ◌≡◌ {A = ℕ} (cond (nat_lt k s) 1 0) 0 = ap (λ b. cond {A = ℕ} b 1 0) (le-ltb k s (omega (arith, above))) in
                let c : ◌≡◌ {A = ℕ} (cond (nat_eq k s) 1 0) 0 = ap (λ b. cond {A = ℕ} b 1 0) (ne_eqb k s (λ same. omega (arith, same, above))) in
                omega (arith, a, b, c)
          ]
