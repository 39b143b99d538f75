-- Words of the code as texts.
use Rattle.std.proofs.Common.{◌≡◌, ℕ, ◌+◌, Bool, true, false, not, ◌||◌, cond, ltb, length, List, [], ◌∷◌, map, Bor, Option, Some, None, is_some, position, refl, ap, ◌∙◌}
use Rattle.std.specs.List.{list_any, position_or_len, position_from}
use Rattle.std.proofs.lemmas.Iterator.Adapters.{position_from-zero}
use Rattle.std.proofs.lemmas.List.{length-map}

abbrev pub text_of_word : Bor (List ℕ) → List ℕ
text_of_word word = word.now

pub any_of_words : (test : List ℕ → Bool) (words : List (Bor (List ℕ))) → list_any (λ w. test w.now) words ≡ list_any test (map text_of_word words)
any_of_words test [] = refl
any_of_words test (word ∷ words) = ap (λ b. test word.now || b) (any_of_words test words)

place_of_words : (test : List ℕ → Bool) (words : List (Bor (List ℕ))) → position_or_len (λ w. test w.now) words ≡ position_or_len test (map text_of_word words)
place_of_words test [] = refl
place_of_words test (word ∷ words) = ap (λ n. cond (not (test word.now)) (1 + n) 0) (place_of_words test words)

pub position_of_words : (test : List ℕ → Bool) (words : List (Bor (List ℕ)))
    → cond (ltb (position_or_len (λ w. test w.now) words) (length words)) (Some (position_or_len (λ w. test w.now) words)) None ≡ position test (map text_of_word words)
position_of_words test words = rw (place_of_words test words, ← length-map words text_of_word) refl

found_or : (i : ℕ) (b : Bool) (more : Bool) (rest : Option ℕ) → is_some rest ≡ more → is_some (cond b (Some i) rest) ≡ (b || more)
found_or i true more rest e = refl
found_or i false more rest e = e

found_from : {X : Type 0} (test : X → Bool) (i : ℕ) (xs : List X) → is_some (position_from test i xs) ≡ list_any test xs
found_from test i [] = refl
found_from test i (x ∷ xs) = found_or i (test x) (list_any test xs) (position_from test (i + 1) xs) (found_from test (i + 1) xs)

-- there is a place where some item passes
pub position-any : {X : Type 0} (test : X → Bool) (xs : List X) → is_some (position test xs) ≡ list_any test xs
position-any test xs = ap is_some (position_from-zero test xs) ∙ found_from test 0 xs
