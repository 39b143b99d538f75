-- Texts of which none stands twice, looked through beside a set of those before.
use Rattle.std.proofs.Common.{◌≡◌, ℕ, Bool, true, false, not, ◌&&◌, ◌||◌, cond, ◌+◌, ◌<◌, List, [], ◌∷◌, length, drop, get_or, map, refl, ap, sym, ◌∙◌}
use Rattle.std.proofs.lemmas.List.{drop_more}
use Rattle.std.specs.List.{list_any}
use Rattle.std.specs.Str.{bytes_eq}
use Rattle.toml.specs.View.{view}
use Rattle.toml.specs.declared.value.Value.{Value}
use Rattle.cpl_tables.specs.Values.{are_distinct_texts, text_of}

-- none of the texts is one of those before
abbrev pub all_new : (List ℕ → Bool) → List (List ℕ) → Bool
all_new has [] = true
all_new has (text ∷ texts) = not (has text) && all_new has texts

-- none of the texts is one of those before, and none of them stands twice
abbrev pub stay_distinct : (List ℕ → Bool) → List (List ℕ) → Bool
stay_distinct has texts = all_new has texts && are_distinct_texts texts

-- at first there are none before
pub all_new-first : (has : List ℕ → Bool) → ((text : List ℕ) → has text ≡ false) → (texts : List (List ℕ)) → all_new has texts ≡ true
all_new-first has h [] = refl
all_new-first has h (text ∷ texts) = rw (h text, all_new-first has h texts) refl

parts_joined : (e h a n : Bool) → (not (cond e true h) && (not a && n)) ≡ (not (e || a) && (not h && n))
parts_joined true h a n = refl
parts_joined false true true n = refl
parts_joined false true false n = refl
parts_joined false false a n = refl

all_new-more : (has now : List ℕ → Bool) (text : List ℕ) → ((other : List ℕ) → now other ≡ cond (bytes_eq text other) true (has other)) → (texts : List (List ℕ))
    → all_new now texts ≡ (not (list_any (bytes_eq text) texts) && all_new has texts)
all_new-more has now text h [] = refl
all_new-more has now text h (other ∷ texts) =
    rw (h other, all_new-more has now text h texts) (parts_joined (bytes_eq text other) (has other) (list_any (bytes_eq text) texts) (all_new has texts))

turned : (a n d : Bool) → (n && (not a && d)) ≡ ((not a && n) && d)
turned true true d = refl
turned true false d = refl
turned false n d = refl

-- a text that is new is one of those before the rest
pub stay_distinct-next : (has now : List ℕ → Bool) (text : List ℕ) (texts : List (List ℕ)) → has text ≡ false → ((other : List ℕ) → now other ≡ cond (bytes_eq text other) true (has other))
    → stay_distinct has (text ∷ texts) ≡ stay_distinct now texts
stay_distinct-next has now text texts new h =
    rw (new, all_new-more has now text h texts) (turned (list_any (bytes_eq text) texts) (all_new has texts) (are_distinct_texts texts))

-- a text that is not new ends it
pub stay_distinct-ends : (has : List ℕ → Bool) (text : List ℕ) (texts : List (List ℕ)) → has text ≡ true → stay_distinct has (text ∷ texts) ≡ false
stay_distinct-ends has text texts old = rw old refl

-- the texts of some values
abbrev pub texts_in : List Value → List (List ℕ)
texts_in values = map text_of (map view values)

-- the text of the next value, and those of the values after it
pub texts_in-next : (values : List Value) (i : ℕ) (value : Value) (text : List ℕ) → i < length values → value ≡ get_or values i value → text ≡ text_of (view value) → texts_in (drop i values) ≡ text ∷ texts_in (drop (i + 1) values)
texts_in-next values i value text within is same =
    ap texts_in (drop_more values i value within) ∙ ap (λ t. t ∷ texts_in (drop (i + 1) values)) (ap (λ v. text_of (view v)) (sym is) ∙ sym same)
