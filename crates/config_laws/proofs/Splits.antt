-- What holds of each entry of a list that is made of the items of another, each beside those before it.
use Rattle.std.proofs.Common.{◌≡◌, ℕ, List, [], ◌∷◌, ◌++◌, length, All, refl, ap, sym, subst, append_assoc}
use Rattle.std.proofs.lemmas.List.Elements.{All-append, All-nil, All-cons, All-head, All-tail}
use Rattle.cpl_tables.specs.Places.{number_at}
use Rattle.plan_order.proofs.Orders.{append_nil}
use Rattle.mesh_rules.specs.Entries.{Entry, each_after, each}
use Rattle.config_laws.specs.Placed.{EachAfter}

-- what holds at each split holds of each
pub at_splits : {E : Type 0} (Q : E → Type 0) (xs : List E) → ((before : List E) (at : E) (after : List E) → xs ≡ before ++ at ∷ after → Q at) → All Q xs
at_splits Q [] f = All-nil Q
at_splits {E} Q (x ∷ xs) f = All-cons Q x xs (f [] x xs refl) (at_splits Q xs (λ before at after is. f (x ∷ before) at after (ap (λ (ys : List E). x ∷ ys) is)))

pub all_left : {E : Type 0} (Q : E → Type 0) (xs ys : List E) → All Q (xs ++ ys) → All Q xs
all_left Q [] ys all = All-nil Q
all_left Q (x ∷ xs) ys all = All-cons Q x xs (All-head Q x (xs ++ ys) all) (all_left Q xs ys (All-tail Q x (xs ++ ys) all))

pub all_right : {E : Type 0} (Q : E → Type 0) (xs ys : List E) → All Q (xs ++ ys) → All Q ys
all_right Q [] ys all = all
all_right Q (x ∷ xs) ys all = all_right Q xs ys (All-tail Q x (xs ++ ys) all)

-- and back
pub at_split : {E : Type 0} (Q : E → Type 0) (xs before : List E) (x : E) (after : List E) → xs ≡ before ++ x ∷ after → All Q xs → Q x
at_split {E} Q xs before x after is all = All-head Q x after (all_right Q before (x ∷ after) (subst (λ (ys : List E). All Q ys) is all))

-- what is made of an item and those before it, under some number
Made : {X : Type 0} → (Entry → Type 0) → (ℕ → List X → X → List Entry) → List X → X → Type 0
Made Q make before item = (n : ℕ) × All Q (make n before item)

made_at : {X : Type 0} (Q : Entry → Type 0) (make : ℕ → List X → X → List Entry) (start before : List X) (x : X) (after : List X) → All Q (each_after make start (before ++ x ∷ after)) → Made Q make (start ++ before) x
unfolding Made
made_at {X} Q make start [] x after all =
    let here = all_left Q (make (number_at (length start)) start x) (each_after make (start ++ x ∷ []) after) all in
    (number_at (length start), subst (λ (ys : List X). All Q (make (number_at (length start)) ys x)) (sym (append_nil start)) here)
made_at {X} Q make start (b ∷ before) x after all =
    let rest = made_at Q make (start ++ b ∷ []) before x after (all_right Q (make (number_at (length start)) start b) (each_after make (start ++ b ∷ []) (before ++ x ∷ after)) all) in
    (rest.0, subst (λ (ys : List X). All Q (make rest.0 ys x)) (append_assoc start (b ∷ []) before) rest.1)

-- an item at a split of the list
pub made : {X : Type 0} (Q : Entry → Type 0) (make : ℕ → List X → X → List Entry) (items : List X) → All Q (each make items) → EachAfter (λ before item. (n : ℕ) × All Q (make n before item)) items
unfolding Made
made {X} Q make items all before item after is = made_at Q make [] before item after (subst (λ (ys : List X). All Q (each_after make [] ys)) is all)

pub each_weaker : {X : Type 0} (P R : List X → X → Type 0) (items : List X) → ((before : List X) (item : X) → P before item → R before item) → EachAfter P items → EachAfter R items
each_weaker P R items f each before item after is = f before item (each before item after is)

pub each_all : {X : Type 0} (P : X → Type 0) (items : List X) → EachAfter (λ before item. P item) items → All P items
each_all P items each = at_splits P items each

-- and back: what holds of what is made of each item, whatever its number, holds of the whole
pub make_all : {X : Type 0} (Q : Entry → Type 0) (make : ℕ → List X → X → List Entry) (start items : List X)
    → ((before : List X) (x : X) (after : List X) → items ≡ before ++ x ∷ after → (n : ℕ) → All Q (make n (start ++ before) x)) → All Q (each_after make start items)
make_all Q make start [] f = All-nil Q
make_all {X} Q make start (x ∷ xs) f =
    let n : ℕ = number_at (length start) in
    let here : All Q (make n start x) = subst (λ (ys : List X). All Q (make n ys x)) (append_nil start) (f [] x xs refl n) in
    All-append Q (make n start x) (each_after make (start ++ x ∷ []) xs) here
    (make_all Q make (start ++ x ∷ []) xs
    (λ before y after is m. subst (λ (ys : List X). All Q (make m ys y)) (sym (append_assoc start (x ∷ []) before)) (f (x ∷ before) y after (ap (λ (ys : List X). x ∷ ys) is) m)))
