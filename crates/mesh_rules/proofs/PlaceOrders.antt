-- Entries that are made list by list, item by item, stand in the order of their places.
use Rattle.std.proofs.Common.{◌≡◌, ℕ, suc, ◌+◌, ◌<◌, ◌≤◌, ◌⊎◌, inl, inr, length, List, [], ◌∷◌, ◌++◌, All, get_or, refl, ap, sym, subst, ◌∙◌, arith, append_assoc, length-append}
use Rattle.std.specs.Prelude.{AllPairs, map}
use Rattle.std.specs.List.{AllByRecursion}
use Rattle.std.proofs.lemmas.List.Elements.{All-nil, All-cons, All-head, All-tail, All-append, All-weaker}
use Rattle.std.proofs.lemmas.List.Kept.{AllPairs-cons}
use Rattle.cpl_tables.specs.declared.places.Place.{Place}
use Rattle.cpl_tables.specs.PlaceOrder.{way_to, IsEarlier, IsBefore, AreRising}
use Rattle.cpl_tables.specs.Places.{number_at}
use Rattle.mesh_rules.specs.Entries.{Held, Entry, at, each_after, each}

-- each entry's place is before those of all later entries
abbrev pub Rise : List Entry → Type 0
Rise entries = AllPairs (λ one other. IsBefore one.place other.place) entries

-- lists of numbers

append_nil : (xs : List ℕ) → xs ++ [] ≡ xs
append_nil [] = refl
append_nil (x ∷ xs) = ap (λ (ys : List ℕ). x ∷ ys) (append_nil xs)

parted : (front one other : List ℕ) (a b : ℕ) → a < b → IsEarlier (front ++ a ∷ one) (front ++ b ∷ other)
parted [] one other a b less = inl less
parted (x ∷ front) one other a b less = inr (refl, parted front one other a b less)

longer : (front : List ℕ) (a : ℕ) (more : List ℕ) → IsEarlier front (front ++ a ∷ more)
longer [] a more = tt
longer (x ∷ front) a more = inr (refl, longer front a more)

-- an entry whose place begins with these numbers
pub record Under (front : List ℕ) (entry : Entry) : Type 0 where
  pub more : List ℕ
  pub is : way_to entry.place ≡ front ++ more

-- entries in the order of their places, all of which begin with these numbers
pub record Inner (front : List ℕ) (entries : List Entry) : Type 0 where
  pub under : All (Under front) entries
  pub rise : Rise entries

under_more : (front : List ℕ) (a : ℕ) (entry : Entry) → Under (front ++ a ∷ []) entry → Under front entry
under_more front a entry under = record { more = a ∷ under.more; is = under.is ∙ append_assoc front (a ∷ []) under.more }

by_numbers : (one other : Entry) (xs ys : List ℕ) → way_to one.place ≡ xs → way_to other.place ≡ ys → IsEarlier xs ys → IsBefore one.place other.place
by_numbers one other xs ys is_one is_other before =
    subst (λ (zs : List ℕ). IsEarlier zs (way_to other.place)) (sym is_one) (subst (λ (zs : List ℕ). IsEarlier xs zs) (sym is_other) before)

apart : (front : List ℕ) (a b : ℕ) (one other : Entry) → a < b → Under (front ++ a ∷ []) one → Under (front ++ b ∷ []) other → IsBefore one.place other.place
apart front a b one other less is_one is_other =
    by_numbers one other (front ++ a ∷ is_one.more) (front ++ b ∷ is_other.more) (is_one.is ∙ append_assoc front (a ∷ []) is_one.more) (is_other.is ∙ append_assoc front (b ∷ []) is_other.more)
    (parted front is_one.more is_other.more a b less)

inside : (front : List ℕ) (b : ℕ) (one other : Entry) → way_to one.place ≡ front → Under (front ++ b ∷ []) other → IsBefore one.place other.place
inside front b one other is_one is_other = by_numbers one other front (front ++ b ∷ is_other.more) is_one (is_other.is ∙ append_assoc front (b ∷ []) is_other.more) (longer front b is_other.more)

-- one list after another

pairs_head : (x : Entry) (xs : List Entry) → Rise (x ∷ xs) → All (λ y. IsBefore x.place y.place) xs
pairs_head x xs all k d within = all 0 (suc k) d (omega arith) (omega (arith, within))

pairs_tail : (x : Entry) (xs : List Entry) → Rise (x ∷ xs) → Rise xs
pairs_tail x xs all i j d less within = all (suc i) (suc j) d (omega (arith, less)) (omega (arith, within))

rise_both : (P Q : Entry → Type 0) (xs ys : List Entry) → ((x y : Entry) → P x → Q y → IsBefore x.place y.place) → All P xs → Rise xs → All Q ys → Rise ys → Rise (xs ++ ys)
rise_both P Q [] ys f ps one qs two = two
rise_both P Q (x ∷ xs) ys f ps one qs two =
    let R : Entry → Entry → Type 0 = λ y z. IsBefore y.place z.place in
    let here : All (R x) ys = All-weaker Q (R x) (λ y q. f x y (All-head P x xs ps) q) ys qs in
    AllPairs-cons R x (xs ++ ys) (All-append (R x) xs ys (pairs_head x xs one) here) (rise_both P Q xs ys f (All-tail P x xs ps) (pairs_tail x xs one) qs two)

no_pairs : Rise []
no_pairs i j d less within = absurd (omega (arith, within))

before_all : (place : Place) (xs : List Entry) → All (λ x. IsBefore place x.place) xs → AllByRecursion (IsBefore place) (map (λ x. x.place) xs)
before_all place [] all = tt
before_all place (x ∷ xs) all = (All-head (λ (y : Entry). IsBefore place y.place) x xs all, before_all place xs (All-tail (λ (y : Entry). IsBefore place y.place) x xs all))

pub rising_places : (xs : List Entry) → Rise xs → AreRising (map (λ x. x.place) xs)
rising_places [] rise = tt
rising_places (x ∷ xs) rise = (before_all x.place xs (pairs_head x xs rise), rising_places xs (pairs_tail x xs rise))

pub rise_one : (place : Place) (held : Held) → Rise (at place held)
rise_one place held i j d less within = absurd (omega (arith, less, within))

-- the items of a list, by their numbers

-- an entry of an item after so many
record Later (front : List ℕ) (n : ℕ) (entry : Entry) : Type 0 where
  m : ℕ
  less : n < m
  under : Under (front ++ m ∷ []) entry

numbered : (index : ℕ) → index < 1000 → number_at index ≡ index + 1
numbered index small = omega (arith, small)

later_from : (front : List ℕ) (n m : ℕ) (entries : List Entry) → n ≤ m → All (Later front m) entries → All (Later front n) entries
later_from front n m entries less all = All-weaker (Later front m) (Later front n) (λ entry later. record { m = later.m; less = omega (arith, less, later.less); under = later.under }) entries all

record Made {X : Type 0} (front : List ℕ) (make : ℕ → List X → X → List Entry) (item : X) : Type 0 where
  inner : (n : ℕ) (before : List X) → Inner (front ++ n ∷ []) (make n before item)

record Items (front : List ℕ) (n : ℕ) (entries : List Entry) : Type 0 where
  later : All (Later front n) entries
  rise : Rise entries

items_rise : {X : Type 0} (front : List ℕ) (make : ℕ → List X → X → List Entry) (start items : List X) → length start + length items < 1000 → All (Made front make) items
    → Items front (length start) (each_after make start items)
items_rise front make start [] short all = record { later = All-nil (Later front (length start)); rise = no_pairs }
items_rise {X} front make start (x ∷ xs) short all =
    let n : ℕ = number_at (length start) in
    let is : n ≡ length start + 1 = numbered (length start) (omega (arith, short)) in
    let grown : length (start ++ x ∷ []) ≡ length start + 1 = length-append start (x ∷ []) in
    let here : Inner (front ++ n ∷ []) (make n start x) = (All-head (Made front make) x xs all).inner n start in
    let rest : Items front (length (start ++ x ∷ [])) (each_after make (start ++ x ∷ []) xs) =
    items_rise front make (start ++ x ∷ []) xs (omega (arith, short, grown)) (All-tail (Made front make) x xs all) in
    let own : All (Later front (length start)) (make n start x) =
    All-weaker (Under (front ++ n ∷ [])) (Later front (length start)) (λ entry under. record { m = n; less = omega (arith, is); under = under }) (make n start x) here.under in
    record {
      later = All-append (Later front (length start)) (make n start x) (each_after make (start ++ x ∷ []) xs) own
          (later_from front (length start) (length (start ++ x ∷ [])) (each_after make (start ++ x ∷ []) xs) (omega (arith, grown)) rest.later);
      rise = rise_both (Under (front ++ n ∷ [])) (Later front n) (make n start x) (each_after make (start ++ x ∷ []) xs) (λ one other under later. apart front n later.m one other later.less under later.under) here.under here.rise
          (later_from front n (length (start ++ x ∷ [])) (each_after make (start ++ x ∷ []) xs) (omega (arith, is, grown)) rest.later) rest.rise;
    }

-- what is made of each item of a short list, under its number
pub each_inner : {X : Type 0} (front : List ℕ) (make : ℕ → List X → X → List Entry) (items : List X) → length items < 1000 → All (λ item. (n : ℕ) (before : List X) → Inner (front ++ n ∷ []) (make n before item)) items
    → Inner front (each make items)
each_inner {X} front make items short all =
    let made : All (Made front make) items =
    All-weaker (λ (item : X). (n : ℕ) (before : List X) → Inner (front ++ n ∷ []) (make n before item)) (Made front make) (λ item f. record { inner = f }) items all in
    let rest : Items front 0 (each make items) = items_rise front make [] items (omega (arith, short)) made in
    record { under = All-weaker (Later front 0) (Under front) (λ entry later. under_more front later.m entry later.under) (each make items) rest.later; rise = rest.rise }

pub inner_more : (front : List ℕ) (a : ℕ) (entries : List Entry) → Inner (front ++ a ∷ []) entries → Inner front entries
inner_more front a entries inner = record { under = All-weaker (Under (front ++ a ∷ [])) (Under front) (under_more front a) entries inner.under; rise = inner.rise }

pub single_inner : (front : List ℕ) (place : Place) (held : Held) → way_to place ≡ front → Inner front (at place held)
single_inner front place held is =
    let under : Under front (record { place = place; held = held }) = record { more = []; is = is ∙ sym (append_nil front) } in
    record { under = All-cons (Under front) (record { place = place; held = held }) [] under (All-nil (Under front)); rise = rise_one place held }

-- a list each item of which makes one entry
pub singles_inner : {X : Type 0} (front : List ℕ) (place_of : ℕ → Place) (held_of : List X → X → Held) (items : List X) → length items < 1000 → ((n : ℕ) → way_to (place_of n) ≡ front ++ n ∷ [])
    → Inner front (each (λ n before item. at (place_of n) (held_of before item)) items)
singles_inner front place_of held_of items short is =
    each_inner front (λ n before item. at (place_of n) (held_of before item)) items short (λ k d within n before. single_inner (front ++ n ∷ []) (place_of n) (held_of before (get_or items k d)) (is n))

-- a table, and so many of the lists in it

pub record UpTo (front : List ℕ) (k : ℕ) (entry : Entry) : Type 0 where
  pub at : (way_to entry.place ≡ front) ⊎ ((j : ℕ) × (j ≤ k) × Under (front ++ j ∷ []) entry)

pub record Grown (front : List ℕ) (k : ℕ) (entries : List Entry) : Type 0 where
  pub up : All (UpTo front k) entries
  pub rise : Rise entries

pub own_entry : (front : List ℕ) (place : Place) (held : Held) → way_to place ≡ front → Grown front 0 (at place held)
own_entry front place held is = record { up = All-cons (UpTo front 0) (record { place = place; held = held }) [] (record { at = inl is }) (All-nil (UpTo front 0)); rise = rise_one place held }

up_more : (front : List ℕ) (k : ℕ) (entry : Entry) → UpTo front k entry → UpTo front (suc k) entry
up_more front k entry up = elim up.at [
  | inl is ↦ record { at = inl is }
  | inr under ↦ record { at = inr (under.0, omega (arith, under.1), under.2) }
]

up_before : (front : List ℕ) (k : ℕ) (one other : Entry) → UpTo front k one → Under (front ++ suc k ∷ []) other → IsBefore one.place other.place
up_before front k one other up under = elim up.at [
  | inl is ↦ inside front (suc k) one other is under
  | inr inner ↦ apart front inner.0 (suc k) one other (omega (arith, inner.1)) inner.2 under
]

pub grow : (front : List ℕ) (k : ℕ) (xs ys : List Entry) → Grown front k xs → Inner (front ++ suc k ∷ []) ys → Grown front (suc k) (xs ++ ys)
grow front k xs ys grown inner = record {
  up = All-append (UpTo front (suc k)) xs ys (All-weaker (UpTo front k) (UpTo front (suc k)) (up_more front k) xs grown.up)
      (All-weaker (Under (front ++ suc k ∷ [])) (UpTo front (suc k)) (λ entry under. record { at = inr (suc k, omega arith, under) }) ys inner.under);
  rise = rise_both (UpTo front k) (Under (front ++ suc k ∷ [])) xs ys (up_before front k) grown.up grown.rise inner.under inner.rise;
}

up_under : (front : List ℕ) (k : ℕ) (entry : Entry) → UpTo front k entry → Under front entry
up_under front k entry up = elim up.at [
  | inl is ↦ record { more = []; is = is ∙ sym (append_nil front) }
  | inr inner ↦ under_more front inner.0 entry inner.2
]

pub grown_inner : (front : List ℕ) (k : ℕ) (entries : List Entry) → Grown front k entries → Inner front entries
grown_inner front k entries grown = record { under = All-weaker (UpTo front k) (Under front) (up_under front k) entries grown.up; rise = grown.rise }
