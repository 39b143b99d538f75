-- Tests that fail, by what is true of their parts.
use Rattle.std.proofs.Common.{◌≡◌, ◌≢◌, ℕ, ◌+◌, Bool, true, false, not, ◌&&◌, ◌||◌, cond, List, [], ◌∷◌, ◌++◌, Option, Some, None, All, refl, ap, ◌∙◌, arith}
use Rattle.std.specs.Prelude.{count_by, is_some, ◌==◌}
use Rattle.std.specs.List.{list_any}
use Rattle.std.specs.Option.{option_map_or}
use Rattle.std.specs.Bool.{beq}
use Rattle.std.specs.Str.{bytes_eq}
use Rattle.std.proofs.lemmas.Bool.{eq-eqb}
use Rattle.std.proofs.lemmas.List.Elements.{All-head, All-tail, All-weaker}
use Rattle.std.proofs.lemmas.List.Folds.{list_any_none}
use Rattle.std.proofs.lemmas.List.Sums.{sum_by-append}
use Rattle.config_laws.specs.Placed.{IsOnlyOne}
use Rattle.config_laws.proofs.Truths.{counted, text_apart}

pub either_false : (a b : Bool) → a ≡ false → b ≡ false → (a || b) ≡ false
either_false true b is_a is_b = cc
either_false false b is_a is_b = is_b

pub not_false : (a : Bool) → a ≡ true → not a ≡ false
not_false a is = ap not is

pub choice_false : (b x y : Bool) → (b ≡ true → x ≡ false) → (b ≡ false → y ≡ false) → cond b x y ≡ false
choice_false true x y on off = on refl
choice_false false x y on off = off refl

pub one_without : (a b : Bool) → (a ≡ true → b ≡ false) → (a && b) ≡ false
one_without true b h = h refl
one_without false b h = refl

pub unlike_false : (a b : Bool) → (a ≡ true → b ≡ false) → (a ≡ false → b ≡ true) → beq a b ≡ false
unlike_false true b on off = rw (on refl) refl
unlike_false false b on off = rw (off refl) refl

-- none lacks what each has
pub lacks_none : {X : Type 0} (p : X → Bool) (xs : List X) → All (λ x. p x ≡ true) xs → list_any (λ x. not (p x)) xs ≡ false
lacks_none {X} p xs all = list_any_none (λ (x : X). not (p x)) xs (All-weaker (λ (x : X). p x ≡ true) (λ (x : X). not (p x) ≡ false) (λ x. not_false (p x)) xs all)

pub named_none : {X : Type 0} (name_of : X → List ℕ) (name : List ℕ) (xs : List X) → All (λ x. name_of x ≢ name) xs → list_any (λ x. bytes_eq (name_of x) name) xs ≡ false
named_none {X} name_of name xs all =
    list_any_none (λ (x : X). bytes_eq (name_of x) name) xs (All-weaker (λ (x : X). name_of x ≢ name) (λ (x : X). bytes_eq (name_of x) name ≡ false) (λ x. text_apart (name_of x) name) xs all)

-- a test of what is there
pub at_test : {X : Type 0} (test : X → Bool) (o : Option X) (x : X) (b : Bool) → o ≡ Some x → test x ≡ b → option_map_or test o false ≡ b
at_test {X} test o x b is h = ap (λ (p : Option X). option_map_or test p false) is ∙ h

pub is_there : {X : Type 0} (o : Option X) (x : X) → o ≡ Some x → is_some o ≡ true
is_there {X} o x is = ap (λ (p : Option X). is_some p) is

pub not_there : {X : Type 0} (o : Option X) → o ≡ None → is_some o ≡ false
not_there {X} o is = ap (λ (p : Option X). is_some p) is

none_of : {X : Type 0} (p : X → Bool) (xs : List X) → All (λ x. p x ≡ false) xs → count_by p xs ≡ 0
none_of p [] all = refl
none_of {X} p (x ∷ xs) all =
    let first : p x ≡ false = All-head (λ (y : X). p y ≡ false) x xs all in
    counted p x xs ∙ (ap (λ b. cond b 1 0 + count_by p xs) first ∙ ap (λ n. 0 + n) (none_of p xs (All-tail (λ (y : X). p y ≡ false) x xs all)))

-- where one alone passes, one is counted
pub counts_one : {X : Type 0} (p : X → Bool) (xs : List X) (one : X) → IsOnlyOne p xs one → not (count_by p xs == 1) ≡ false
counts_one {X} p xs one only =
    let split : count_by p xs ≡ count_by p (only.before ++ one ∷ only.after) = ap (λ (ys : List X). count_by p ys) only.stands in
    let parts : count_by p (only.before ++ one ∷ only.after) ≡ count_by p only.before + count_by p (one ∷ only.after) = sum_by-append (λ (x : X). cond (p x) 1 0) only.before (one ∷ only.after) in
    let here : count_by p (one ∷ only.after) ≡ 1 + count_by p only.after = counted p one only.after ∙ ap (λ b. cond b 1 0 + count_by p only.after) only.passes in
    let front : count_by p only.before ≡ 0 = none_of p only.before only.none_before in
    let back : count_by p only.after ≡ 0 = none_of p only.after only.none_after in
    not_false (count_by p xs == 1) (eq-eqb (count_by p xs) 1 (omega (arith, split, parts, here, front, back)))
