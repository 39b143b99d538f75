-- Names that are looked for in lists of tables, and what stands at their places.
use Rattle.std.proofs.Common.{◌≡◌, ℕ, zero, suc, ◌+◌, ◌<◌, ◌≤◌, Bool, true, false, not, ◌||◌, cond, List, [], ◌∷◌, ◌++◌, length, map, take, get_or, find, position, Option, Some, None, refl, ap, sym, ◌∙◌, arith}
use Rattle.std.specs.Prelude.{unwrap_or, nat_lt, slice_get, option_map}
use Rattle.std.specs.List.{list_any, position_or_len, HoldsAt}
use Rattle.std.specs.Str.{bytes_eq}
use Rattle.std.proofs.lemmas.Bool.{ltb-false}
use Rattle.std.specs.Option.{option_and_then, MatchOption}
use Rattle.std.proofs.lemmas.List.Folds.{find_at}
use Rattle.cpl_tables.specs.Values.{are_distinct_texts}
use Rattle.std.proofs.lemmas.List.{length-map, map-append}
use Rattle.std.proofs.lemmas.List.Concat.{length-flat_map}
use Rattle.std.proofs.lemmas.List.Sums.{sum_by-take-drop, sum_by-drop_more}
use Rattle.std.proofs.lemmas.Option.{slice_get_within, slice_get_past, slice_get-get_or, get_or_from_slice_get}
use Rattle.cpl_config.specs.declared.config.Config.{Config}
use Rattle.cpl_config.specs.declared.config.PartTable.{PartTable}
use Rattle.cpl_config.specs.declared.config.SchemeTable.{SchemeTable}
use Rattle.cpl_config.specs.SoundConfig.{IsSoundConfig, IsSoundParticipant}
use Rattle.mesh_rules.specs.Named.{participant_called}
use Rattle.scheme_parts.specs.Names.{number_in, part_names}
use Rattle.scheme_parts.specs.NumbersOf.{exchanges_before}
use Rattle.scheme_parts.proofs.Tables.{all_at, found_place, same_bool}
use Rattle.config_laws.proofs.Truths.{both, fails, neither, same_text, text_same, text_apart, apart_text}

-- a name at a place is not among those before it, where none stands twice
pub new_name : {X : Type 0} (name_of : X → List ℕ) (xs : List X) (k : ℕ) (d : X) → k < length xs → are_distinct_texts (map name_of xs) ≡ true → list_any (bytes_eq (name_of (get_or xs k d))) (map name_of (take k xs)) ≡ false
new_name name_of [] k d within once = absurd (omega (arith, within))
new_name name_of (x ∷ xs) zero d within once = refl
new_name {X} name_of (x ∷ xs) (suc k) d within once =
    let here : X = get_or xs k d in
    let parts = both (not (list_any (bytes_eq (name_of x)) (map name_of xs))) (are_distinct_texts (map name_of xs)) once in
    let less : k < length xs = omega (arith, within) in
    let later = new_name name_of xs k d less parts.1 in
    let apart : bytes_eq (name_of x) (name_of here) ≡ false = other_name name_of xs k d (name_of x) less (fails (list_any (bytes_eq (name_of x)) (map name_of xs)) (λ is. no_not (list_any (bytes_eq (name_of x)) (map name_of xs)) parts.0 is)) in
    let turned : bytes_eq (name_of here) (name_of x) ≡ false = text_apart (name_of here) (name_of x) (λ is. apart_text (name_of x) (name_of here) apart (sym is)) in
    ap (λ b. b || list_any (bytes_eq (name_of here)) (map name_of (take k xs))) turned ∙ later
  where
    no_not : (b : Bool) → not b ≡ true → b ≡ true → ⊥
    no_not true h is = cc
    no_not false h is = cc

    other_name : {X : Type 0} (name_of : X → List ℕ) (xs : List X) (k : ℕ) (d : X) (name : List ℕ) → k < length xs → list_any (bytes_eq name) (map name_of xs) ≡ false → bytes_eq name (name_of (get_or xs k d)) ≡ false
    other_name name_of [] k d name within none = absurd (omega (arith, within))
    other_name name_of (x ∷ xs) zero d name within none = (neither (bytes_eq name (name_of x)) (list_any (bytes_eq name) (map name_of xs)) none).0
    other_name name_of (x ∷ xs) (suc k) d name within none = other_name name_of xs k d name (omega (arith, within)) (neither (bytes_eq name (name_of x)) (list_any (bytes_eq name) (map name_of xs)) none).1

-- the same of an item that was read
pub new_item : {X : Type 0} (name_of : X → List ℕ) (xs : List X) (k : ℕ) (x : X) (names : List (List ℕ)) → names ≡ map name_of (take k xs) → x ≡ get_or xs k x → k < length xs → are_distinct_texts (map name_of xs) ≡ true
    → list_any (bytes_eq (name_of x)) names ≡ false
new_item {X} name_of xs k x names are is within once =
    ap (list_any (bytes_eq (name_of x))) are ∙ (ap (λ (y : X). list_any (bytes_eq (name_of y)) (map name_of (take k xs))) is ∙ new_name name_of xs k x within once)

place_of_map : {X Y : Type 0} (test : Y → Bool) (f : X → Y) (xs : List X) → position_or_len test (map f xs) ≡ position_or_len (λ x. test (f x)) xs
place_of_map test f [] = refl
place_of_map test f (x ∷ xs) = ap (λ (n : ℕ). cond (not (test (f x))) (1 + n) 0) (place_of_map test f xs)

-- a place in a list that is made of another
pub position_of_map : {X Y : Type 0} (test : Y → Bool) (f : X → Y) (xs : List X) → position test (map f xs) ≡ position (λ x. test (f x)) xs
position_of_map {X} test f xs =
    let n : ℕ = position_or_len (λ (x : X). test (f x)) xs in
    ap (λ (k : ℕ). cond (nat_lt k (length (map f xs))) (Some k) None) (place_of_map test f xs) ∙ ap (λ (m : ℕ). cond (nat_lt n m) (Some n) None) (length-map xs f)

place_agrees : {X : Type 0} (p q : X → Bool) → ((x : X) → p x ≡ q x) → (xs : List X) → position_or_len p xs ≡ position_or_len q xs
place_agrees p q same [] = refl
place_agrees p q same (x ∷ xs) =
    ap (λ b. cond (not b) (1 + position_or_len p xs) 0) (same x) ∙ ap (λ (n : ℕ). cond (not (q x)) (1 + n) 0) (place_agrees p q same xs)

turned : (one other : List ℕ) → bytes_eq one other ≡ bytes_eq other one
turned one other =
    same_bool (bytes_eq one other) (bytes_eq other one) (λ is. text_same other one (sym (same_text one other is))) (λ is. text_same one other (sym (same_text other one is)))

-- a name's place among texts, looked for either way
pub position_of_text : {X : Type 0} (f : X → List ℕ) (name : List ℕ) (xs : List X) → position (λ x. bytes_eq name (f x)) xs ≡ position (λ other. bytes_eq other name) (map f xs)
position_of_text {X} f name xs =
    ap (λ (n : ℕ). cond (nat_lt n (length xs)) (Some n) None) (place_agrees (λ (x : X). bytes_eq name (f x)) (λ (x : X). bytes_eq (f x) name) (λ x. turned name (f x)) xs)
    ∙ sym (position_of_map (λ other. bytes_eq other name) f xs)

-- the number of a name among the names of tables
pub number_among : {X : Type 0} (name_of : X → List ℕ) (tables : List X) (names : List (List ℕ)) (name : List ℕ) → names ≡ map name_of tables
    → number_in names name ≡ unwrap_or (position (λ table. bytes_eq (name_of table) name) tables) 0
number_among name_of tables names name are = ap (λ (xs : List (List ℕ)). number_in xs name) are ∙ ap (λ (o : Option ℕ). unwrap_or o 0) (position_of_map (λ other. bytes_eq other name) name_of tables)

-- what is found is what stands at the first place
pub found_at_place : {X : Type 0} (test : X → Bool) (xs : List X) → find test xs ≡ option_and_then (slice_get xs) (position test xs)
found_at_place {X} test xs = find_at test xs ∙ sym (by_test (nat_lt (position_or_len test xs) (length xs)) refl)
  where
    by_test : (b : Bool) → nat_lt (position_or_len test xs) (length xs) ≡ b → option_and_then (slice_get xs) (cond b (Some (position_or_len test xs)) None) ≡ slice_get xs (position_or_len test xs)
    by_test true is = refl
    by_test false is = sym (slice_get_past xs (position_or_len test xs) (ltb-false (position_or_len test xs) (length xs) is))

-- what a look-up by place answers
pub looked_up : {B X : Type 0} (value : B → X) (o : Option B) (xs : List X) (k : ℕ) → MatchOption o (length xs ≤ k) (λ b. (k < length xs) × HoldsAt (λ y. value b ≡ y) xs k)
    → option_map value o ≡ slice_get xs k
looked_up value None xs k is = sym (slice_get_past xs k is)
looked_up value (Some b) xs k is = ap Some (is.1 (value b)) ∙ sym (slice_get-get_or xs k (value b) is.0)

-- the participant of a name, by the place of the name among those of all
pub participant_at : (config : Config) (names : List (List ℕ)) (name : List ℕ) (place : Option ℕ) → names ≡ part_names config → place ≡ position (λ other. bytes_eq other name) names
    → participant_called config name ≡ option_and_then (slice_get config.participant) place
participant_at config names name place are is =
    let test : List ℕ → Bool = λ other. bytes_eq other name in
    let own : position test names ≡ position (λ (table : PartTable). bytes_eq table.name name) config.participant =
    ap (position test) are ∙ position_of_map test (λ (table : PartTable). table.name) config.participant in
    found_at_place (λ (table : PartTable). bytes_eq table.name name) config.participant
    ∙ ap (option_and_then (slice_get config.participant)) (sym (is ∙ own))

-- the participant of a name has few mappings
pub few_maps : (config : Config) (name : List ℕ) (table : PartTable) → IsSoundConfig config → participant_called config name ≡ Some table → length table.map ≤ 64
few_maps config name table sound found =
    let place = found_place (λ (other : PartTable). bytes_eq other.name name) config.participant table found in
    (all_at IsSoundParticipant config.participant place.0 table sound.participants place.2).few_maps

-- the exchanges of the first schemes and of the next one are not more than all
pub few_before : (config : Config) (s : ℕ) (table : SchemeTable) → IsSoundConfig config → slice_get config.scheme s ≡ Some table
    → exchanges_before config s + length table.exchange ≤ 256
few_before config s table sound at =
    let count : SchemeTable → ℕ = λ other. length other.exchange in
    let within : s < length config.scheme = slice_get_within config.scheme s table at in
    let here : get_or config.scheme s table ≡ table = get_or_from_slice_get config.scheme s table table at in
    let whole = sum_by-take-drop count config.scheme s in
    let rest = sum_by-drop_more count config.scheme s table within in
    let same : count (get_or config.scheme s table) ≡ count table = ap count here in
    omega (arith, sound.few_exchanges, length-flat_map (λ (other : SchemeTable). other.exchange) config.scheme, whole, rest, same)

kept_names : {X : Type 0} (f : X → List ℕ) (keys : List X) (k : X) (b : Bool) → b ≡ false → map f (cond b keys (keys ++ k ∷ [])) ≡ map f keys ++ f k ∷ []
kept_names f keys k true is = absurd (cc)
kept_names f keys k false is = map-append f keys (k ∷ [])

any_of_map : {X Y : Type 0} (test : Y → Bool) (f : X → Y) (xs : List X) → list_any test (map f xs) ≡ list_any (λ x. test (f x)) xs
any_of_map test f [] = refl
any_of_map test f (x ∷ xs) = ap (λ b. test (f x) || b) (any_of_map test f xs)

-- a new name stands after the others
pub added_name : {X : Type 0} (f : X → List ℕ) (keys : List X) (k : X) (names : List (List ℕ)) (name : List ℕ) → map f keys ≡ names → f k ≡ name → list_any (bytes_eq name) names ≡ false
    → map f (cond (list_any (λ other. bytes_eq (f k) (f other)) keys) keys (keys ++ k ∷ [])) ≡ names ++ name ∷ []
added_name {X} f keys k names name are is new =
    let none : list_any (λ (other : X). bytes_eq (f k) (f other)) keys ≡ false =
    sym (any_of_map (bytes_eq (f k)) f keys) ∙ (ap (list_any (bytes_eq (f k))) are ∙ (ap (λ (text : List ℕ). list_any (bytes_eq text) names) is ∙ new)) in
    kept_names f keys k (list_any (λ (other : X). bytes_eq (f k) (f other)) keys) none ∙ (ap (λ (xs : List (List ℕ)). xs ++ f k ∷ []) are ∙ ap (λ (text : List ℕ). names ++ text ∷ []) is)
