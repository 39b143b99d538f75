-- What tests and options tell, in parts.
use Rattle.std.proofs.Common.{◌≡◌, ◌≢◌, ℕ, ◌+◌, Bool, true, false, not, ◌&&◌, ◌||◌, cond, ◌⊎◌, inl, inr, List, [], ◌∷◌, find, Option, Some, None, All, Contains, refl, ap, sym, subst, get_or, ◌∙◌, arith}
use Rattle.std.specs.Prelude.{count_by, is_some}
use Rattle.std.specs.List.{list_any}
use Rattle.std.specs.Option.{option_map_or}
use Rattle.std.specs.Bool.{beq}
use Rattle.std.specs.Str.{bytes_eq}
use Rattle.std.proofs.lemmas.List.Elements.{All-nil, All-cons, All-weaker}
use Rattle.std.proofs.lemmas.List.Sums.{sum_by-cons}
use Rattle.std.proofs.lemmas.Slice.Eq.{bytes_eq-Decides}
use Rattle.config_laws.specs.Placed.{IsOnlyOne}
use Rattle.config_laws.proofs.Members.{any_found}

pub neither : (a b : Bool) → (a || b) ≡ false → (a ≡ false) × (b ≡ false)
neither true b h = absurd (cc)
neither false b h = (refl, h)

pub one_of : (a b : Bool) → (a || b) ≡ true → (a ≡ true) ⊎ (b ≡ true)
one_of true b h = inl refl
one_of false b h = inr h

pub both : (a b : Bool) → (a && b) ≡ true → (a ≡ true) × (b ≡ true)
both true b h = (refl, h)
both false b h = absurd (cc)

pub holds : (a : Bool) → not a ≡ false → a ≡ true
holds true h = refl
holds false h = absurd (cc)

pub fails : (a : Bool) → (a ≡ true → ⊥) → a ≡ false
fails true h = absurd (h refl)
fails false h = refl

-- what is false beside a test that is true
pub other_fails : (a b : Bool) → (a && b) ≡ false → a ≡ true → b ≡ false
other_fails true b h is = h
other_fails false b h is = absurd (cc)

pub differ : (a b : Bool) → beq a b ≡ false → a ≡ true → b ≡ false
differ true true h is = absurd (cc)
differ true false h is = refl
differ false b h is = absurd (cc)

pub differ_false : (a b : Bool) → beq a b ≡ false → a ≡ false → b ≡ true
differ_false true b h is = absurd (cc)
differ_false false true h is = refl
differ_false false false h is = absurd (cc)

pub choose_true : (b x y : Bool) → cond b x y ≡ false → b ≡ true → x ≡ false
choose_true true x y h is = h
choose_true false x y h is = absurd (cc)

pub choose_false : (b x y : Bool) → cond b x y ≡ false → b ≡ false → y ≡ false
choose_false true x y h is = absurd (cc)
choose_false false x y h is = h

pub same_text : (one other : List ℕ) → bytes_eq one other ≡ true → one ≡ other
same_text one other h = (bytes_eq-Decides one other).0 h

pub text_same : (one other : List ℕ) → one ≡ other → bytes_eq one other ≡ true
text_same one other h = (bytes_eq-Decides one other).1 h

pub apart_text : (one other : List ℕ) → bytes_eq one other ≡ false → one ≢ other
apart_text one other h is = let met : bytes_eq one other ≡ true = text_same one other is in cc (h, met)

pub text_apart : (one other : List ℕ) → one ≢ other → bytes_eq one other ≡ false
text_apart one other h = fails (bytes_eq one other) (λ is. h (same_text one other is))

-- no element passes
pub none_passes : {X : Type 0} (p : X → Bool) (xs : List X) → list_any p xs ≡ false → All (λ x. p x ≡ false) xs
none_passes {X} p [] h = All-nil (λ (x : X). p x ≡ false)
none_passes {X} p (x ∷ xs) h =
    let parts = neither (p x) (list_any p xs) h in
    All-cons (λ (y : X). p y ≡ false) x xs parts.0 (none_passes p xs parts.1)

-- none lacks it
pub none_lacks : {X : Type 0} (p : X → Bool) (xs : List X) → list_any (λ x. not (p x)) xs ≡ false → All (λ x. p x ≡ true) xs
none_lacks {X} p xs h = All-weaker (λ (x : X). not (p x) ≡ false) (λ (x : X). p x ≡ true) (λ x. holds (p x)) xs (none_passes (λ (x : X). not (p x)) xs h)

pub none_named : {X : Type 0} (name_of : X → List ℕ) (name : List ℕ) (xs : List X) → list_any (λ x. bytes_eq (name_of x) name) xs ≡ false → All (λ x. name_of x ≢ name) xs
none_named {X} name_of name xs h =
    All-weaker (λ (x : X). bytes_eq (name_of x) name ≡ false) (λ (x : X). name_of x ≢ name) (λ x. apart_text (name_of x) name) xs (none_passes (λ (x : X). bytes_eq (name_of x) name) xs h)

at_name : (names : List (List ℕ)) (k : ℕ) (x name : List ℕ) → x ≡ name → get_or names k x ≡ x → get_or names k name ≡ name
at_name names k x name same is = subst (λ (y : List ℕ). get_or names k y ≡ y) same is

-- a name that is among others
pub among : (name : List ℕ) (names : List (List ℕ)) → list_any (bytes_eq name) names ≡ true → Contains names name
among name names h =
    let found = any_found (bytes_eq name) names h in
    let same : found.0 ≡ name = sym (same_text name found.0 found.2) in
    (found.1.0, found.1.1, at_name names found.1.0 found.0 name same found.1.2)

-- what is there
pub some_there : {X : Type 0} (o : Option X) → is_some o ≡ true → (x : X) × (o ≡ Some x)
some_there None h = absurd (cc)
some_there (Some x) h = (x, refl)

pub none_there : {X : Type 0} (o : Option X) → is_some o ≡ false → o ≡ None
none_there None h = refl
none_there (Some x) h = absurd (cc)

-- a test of what is there
pub holds_some : {X : Type 0} (test : X → Bool) (o : Option X) → option_map_or test o false ≡ true → (x : X) × (o ≡ Some x) × (test x ≡ true)
holds_some test None h = absurd (cc)
holds_some test (Some x) h = (x, refl, h)

pub test_at : {X : Type 0} (test : X → Bool) (o : Option X) (x : X) (b : Bool) → o ≡ Some x → option_map_or test o false ≡ b → test x ≡ b
test_at {X} test o x b is h = sym (ap (λ (p : Option X). option_map_or test p false) is) ∙ h

found_here : {X : Type 0} (p : X → Bool) (x : X) (xs : List X) (b : Bool) → (b || list_any p xs) ≡ true → (list_any p xs ≡ true → (y : X) × (find p xs ≡ Some y)) → (y : X) × (cond b (Some x) (find p xs) ≡ Some y)
found_here p x xs true any rest = (x, refl)
found_here p x xs false any rest = rest any

-- the first one that passes
pub first_found : {X : Type 0} (p : X → Bool) (xs : List X) → list_any p xs ≡ true → (x : X) × (find p xs ≡ Some x)
first_found p [] any = absurd (cc)
first_found p (x ∷ xs) any = found_here p x xs (p x) any (first_found p xs)

pub counted : {X : Type 0} (p : X → Bool) (x : X) (xs : List X) → count_by p (x ∷ xs) ≡ cond (p x) 1 0 + count_by p xs
counted {X} p x xs = sum_by-cons (λ (y : X). cond (p y) 1 0) x xs

none_here : {X : Type 0} (p : X → Bool) (x : X) (xs : List X) (b : Bool) → p x ≡ b → cond b 1 0 + count_by p xs ≡ 0 → (count_by p xs ≡ 0 → All (λ y. p y ≡ false) xs) → All (λ y. p y ≡ false) (x ∷ xs)
none_here p x xs true is n rest = absurd (omega (arith, n))
none_here {X} p x xs false is n rest = All-cons (λ (y : X). p y ≡ false) x xs is (rest (omega (arith, n)))

pub none_counted : {X : Type 0} (p : X → Bool) (xs : List X) → count_by p xs ≡ 0 → All (λ x. p x ≡ false) xs
none_counted {X} p [] n = All-nil (λ (x : X). p x ≡ false)
none_counted p (x ∷ xs) n = none_here p x xs (p x) refl (sym (counted p x xs) ∙ n) (none_counted p xs)

one_here : {X : Type 0} (p : X → Bool) (x : X) (xs : List X) (b : Bool) → p x ≡ b → cond b 1 0 + count_by p xs ≡ 1 → (count_by p xs ≡ 1 → (y : X) × IsOnlyOne p xs y) → (y : X) × IsOnlyOne p (x ∷ xs) y
one_here {X} p x xs true is n rest = (
  x,
  record {
    before = [];
    after = xs;
    stands = refl;
    passes = is;
    none_before = All-nil (λ (y : X). p y ≡ false);
    none_after = none_counted p xs (omega (arith, n));
    found = ap (λ b. cond b (Some x) (find p xs)) is;
  },
)
one_here {X} p x xs false is n rest =
    let one = rest (omega (arith, n)) in (
      one.0,
      record {
        before = x ∷ one.1.before;
        after = one.1.after;
        stands = ap (λ (ys : List X). x ∷ ys) one.1.stands;
        passes = one.1.passes;
        none_before = All-cons (λ (y : X). p y ≡ false) x one.1.before is one.1.none_before;
        none_after = one.1.none_after;
        found = ap (λ b. cond b (Some x) (find p xs)) is ∙ one.1.found;
      },
    )

-- where one is counted, one alone passes
pub only_one : {X : Type 0} (p : X → Bool) (xs : List X) → count_by p xs ≡ 1 → (x : X) × IsOnlyOne p xs x
only_one p [] n = absurd (omega (arith, n))
only_one p (x ∷ xs) n = one_here p x xs (p x) refl (sym (counted p x xs) ∙ n) (only_one p xs)
