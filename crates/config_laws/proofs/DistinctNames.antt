-- Names of which none was told before are distinct.
use Rattle.std.proofs.Common.{◌≡◌, ◌≢◌, ℕ, true, false, not, ◌&&◌, ◌||◌, List, [], ◌∷◌, ◌++◌, map, Option, Some, None, IfSome, All, refl, ap, sym, subst, ◌∙◌, append_assoc}
use Rattle.std.specs.Prelude.{flat_map}
use Rattle.std.specs.List.{list_any}
use Rattle.std.specs.Str.{bytes_eq}
use Rattle.std.proofs.lemmas.List.Elements.{All-nil, All-cons, All-head, All-tail, All-weaker}
use Rattle.std.proofs.lemmas.List.Concat.{flat_map_single}
use Rattle.cpl_tables.specs.Values.{are_distinct_texts}
use Rattle.config_rules.specs.Members.{name_there}
use Rattle.plan_order.proofs.Orders.{append_nil}
use Rattle.config_laws.specs.Placed.{EachAfter}
use Rattle.config_laws.proofs.Splits.{all_left, all_right}
use Rattle.config_laws.proofs.Truths.{text_apart}

-- the name of an item is that of none of these
abbrev pub IsNew : {X : Type 0} → (X → Option (List ℕ)) → List X → X → Type 0
IsNew {X} name_of before item = IfSome (name_of item) (λ name. All (λ other. name_of other ≢ Some name) before)

-- the name of an item is not in the list
IsAbsent : {X : Type 0} → (X → Option (List ℕ)) → List (List ℕ) → X → Type 0
IsAbsent name_of names item = IfSome (name_of item) (λ name. list_any (bytes_eq name) names ≡ false)

absent_in_none : (name : Option (List ℕ)) → IfSome name (λ text. list_any (bytes_eq text) [] ≡ false)
absent_in_none None = tt
absent_in_none (Some text) = refl

all_absent : {X : Type 0} (name_of : X → Option (List ℕ)) (items : List X) → All (IsAbsent name_of []) items
unfolding IsAbsent
all_absent name_of [] = All-nil (IsAbsent name_of [])
all_absent name_of (x ∷ xs) = All-cons (IsAbsent name_of []) x xs (absent_in_none (name_of x)) (all_absent name_of xs)

absent_more : (name : Option (List ℕ)) (text : List ℕ) (names : List (List ℕ)) → name ≢ Some text → IfSome name (λ other. list_any (bytes_eq other) names ≡ false) → IfSome name (λ other. list_any (bytes_eq other) (text ∷ names) ≡ false)
absent_more None text names apart absent = tt
absent_more (Some other) text names apart absent =
    ap (λ b. b || list_any (bytes_eq other) names) (text_apart other text (λ same. apart (ap (λ (t : List ℕ). Some t) same))) ∙ absent

all_absent_more : {X : Type 0} (name_of : X → Option (List ℕ)) (text : List ℕ) (names : List (List ℕ)) (items : List X) → All (λ item. name_of item ≢ Some text) items → All (IsAbsent name_of names) items
    → All (IsAbsent name_of (text ∷ names)) items
unfolding IsAbsent
all_absent_more name_of text names [] new absent = All-nil (IsAbsent name_of (text ∷ names))
all_absent_more {X} name_of text names (x ∷ xs) new absent =
    let Apart : X → Type 0 = λ item. name_of item ≢ Some text in
    All-cons (IsAbsent name_of (text ∷ names)) x xs (absent_more (name_of x) text names (All-head Apart x xs new) (All-head (IsAbsent name_of names) x xs absent))
    (all_absent_more name_of text names xs (All-tail Apart x xs new) (All-tail (IsAbsent name_of names) x xs absent))

record Distinct {X : Type 0} (name_of : X → Option (List ℕ)) (before : List X) (names : List (List ℕ)) : Type 0 where
  distinct : are_distinct_texts names ≡ true
  absent : All (IsAbsent name_of names) before

-- one item more at the front
one_more : {X : Type 0} (name_of : X → Option (List ℕ)) (before : List X) (names : List (List ℕ)) (name : Option (List ℕ)) → are_distinct_texts names ≡ true → All (IsAbsent name_of names) before
    → IfSome name (λ text. list_any (bytes_eq text) names ≡ false) → IfSome name (λ text. All (λ other. name_of other ≢ Some text) before) → Distinct name_of before (name_there name ++ names)
one_more name_of before names None distinct absent here new = record { distinct = distinct; absent = absent }
one_more name_of before names (Some text) distinct absent here new = record {
  distinct = ap (λ b. not b && are_distinct_texts names) here ∙ distinct;
  absent = all_absent_more name_of text names before new absent;
}

rest_distinct : {X : Type 0} (name_of : X → Option (List ℕ)) (before rest : List X) → ((b : List X) (at : X) (a : List X) → rest ≡ b ++ at ∷ a → IsNew name_of (before ++ b) at)
    → Distinct name_of before (flat_map (λ item. name_there (name_of item)) rest)
unfolding IsAbsent
rest_distinct name_of before [] new = record { distinct = refl; absent = all_absent name_of before }
rest_distinct {X} name_of before (x ∷ xs) new =
    let names : List (List ℕ) = flat_map (λ (item : X). name_there (name_of item)) xs in
    let later : Distinct name_of (before ++ x ∷ []) names =
    rest_distinct name_of (before ++ x ∷ []) xs (λ b at a is. subst (λ (ys : List X). IsNew name_of ys at) (sym (append_assoc before (x ∷ []) b)) (new (x ∷ b) at a (ap (λ (ys : List X). x ∷ ys) is))) in
    let here : IsAbsent name_of names x = All-head (IsAbsent name_of names) x [] (all_right (IsAbsent name_of names) before (x ∷ []) later.absent) in
    one_more name_of before names (name_of x) later.distinct (all_left (IsAbsent name_of names) before (x ∷ []) later.absent) here
    (subst (λ (ys : List X). IsNew name_of ys x) (append_nil before) (new [] x xs refl))

-- where each name is new after those before it, no two are the same
pub all_distinct : {X : Type 0} (name_of : X → Option (List ℕ)) (items : List X) → EachAfter (IsNew name_of) items → are_distinct_texts (flat_map (λ item. name_there (name_of item)) items) ≡ true
all_distinct name_of items new = (rest_distinct name_of [] items new).distinct

unlike : (one other : List ℕ) → one ≢ other → Some one ≢ Some other
unlike one other apart is = apart (cc)

-- the same where each item has a name
pub names_distinct : {X : Type 0} (name_of : X → List ℕ) (items : List X) → EachAfter (λ before item. All (λ other. name_of other ≢ name_of item) before) items → are_distinct_texts (map name_of items) ≡ true
names_distinct {X} name_of items new =
    let each : EachAfter (IsNew (λ (item : X). Some (name_of item))) items =
    λ before item after is. All-weaker (λ (other : X). name_of other ≢ name_of item) (λ (other : X). Some (name_of other) ≢ Some (name_of item)) (λ other. unlike (name_of other) (name_of item)) before (new before item after is) in
    sym (ap are_distinct_texts (flat_map_single name_of items)) ∙ all_distinct (λ (item : X). Some (name_of item)) items each
