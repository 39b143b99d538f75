-- Tests that each item of a list passes, and the facts that they tell.
use Rattle.std.proofs.Common.{◌≡◌, Bool, true, false, ◌&&◌, List, [], ◌∷◌, ◌++◌, All, refl, ap, subst}
use Rattle.std.specs.Prelude.{IsFalse}
use Rattle.std.specs.List.{list_all, list_any, Any}
use Rattle.std.proofs.lemmas.Bool.{and_parts}
use Rattle.std.proofs.lemmas.List.Folds.{Any-from_list_any, list_any-from_Any}
use Rattle.std.proofs.lemmas.List.Elements.{All-nil, All-cons, All-head, All-tail}
use Rattle.cpl_rules.specs.FirstBroken.{IsUnbroken}

pub both : (a b : Bool) → a ≡ true → b ≡ true → (a && b) ≡ true
both true b h k = k
both false b h k = h

-- what passes a test, each
pub each_passes : {X : Type 0} (test : X → Bool) (P : X → Type 0) → ((x : X) → test x ≡ true → P x) → (xs : List X) → list_all test xs ≡ true → All P xs
each_passes test P passes [] h = All-nil P
each_passes test P passes (x ∷ xs) h =
    let parts = and_parts (test x) (list_all test xs) h in
    All-cons P x xs (passes x parts.0) (each_passes test P passes xs parts.1)

-- and back
pub all_pass : {X : Type 0} (test : X → Bool) (P : X → Type 0) → ((x : X) → P x → test x ≡ true) → (xs : List X) → All P xs → list_all test xs ≡ true
all_pass test P passes [] each = refl
all_pass test P passes (x ∷ xs) each = both (test x) (list_all test xs) (passes x (All-head P x xs each)) (all_pass test P passes xs (All-tail P x xs each))

-- what passes a test, of some item
pub any_passes : {X : Type 0} (test : X → Bool) (P : X → Type 0) → ((x : X) → test x ≡ true → P x) → (xs : List X) → list_any test xs ≡ true → Any P xs
any_passes {X} test P passes xs h =
    let found = Any-from_list_any test xs h in (found.0, found.1, found.2, found.3, passes found.1 found.4)

-- and back
pub passes_any : {X : Type 0} (test : X → Bool) (P : X → Type 0) → ((x : X) → P x → test x ≡ true) → (xs : List X) → Any P xs → list_any test xs ≡ true
passes_any test P passes xs h = list_any-from_Any test xs (h.0, h.1, h.2, h.3, passes h.1 h.4)

-- a rule that looks at one entry alone is broken by none of them
pub each_unbroken : {E : Type 0} (test : E → Bool) (entries : List E) → IsUnbroken (λ _ at. test at) entries → All (λ at. IsFalse (test at)) entries
each_unbroken test [] h = All-nil (λ at. IsFalse (test at))
each_unbroken test (entry ∷ entries) h =
    All-cons (λ at. IsFalse (test at)) entry entries (h [] entry entries refl)
    (each_unbroken test entries (λ before at after is. h (entry ∷ before) at after (ap (λ es. entry ∷ es) is)))

after_all : {E : Type 0} (P : E → Type 0) (before : List E) (at : E) (after : List E) → All P (before ++ at ∷ after) → P at
after_all P [] at after all = All-head P at after all
after_all P (x ∷ before) at after all = after_all P before at after (All-tail P x (before ++ at ∷ after) all)

-- and back
pub unbroken_each : {E : Type 0} (test : E → Bool) (entries : List E) → All (λ at. IsFalse (test at)) entries → IsUnbroken (λ _ at. test at) entries
unbroken_each {E} test entries all before at after is =
    after_all (λ (other : E). IsFalse (test other)) before at after (subst (λ (es : List E). All (λ (other : E). IsFalse (test other)) es) is all)
