-- A box with axes in front of it that have one number.
use Rattle.std.proofs.Common.{◌≡◌, ℕ, zero, suc, ◌+◌, ◌-◌, ◌*◌, ◌^◌, ◌<◌, ◌≤◌, ◌≢◌, List, [], ◌∷◌, length, get_or, set, All, refl, subst, sym, ap, ◌∙◌, inl, inr, arith}
use Rattle.std.proofs.lemmas.Bool.{cases_lt}
use Rattle.std.proofs.lemmas.List.{same_lists, get_or-set_same, get_or-set_other, length-set}
use Rattle.std.proofs.lemmas.List.Elements.{All-cons}
use Rattle.grid_index.specs.Boxes.{IsInBox, IsSpan, AreNested, box_sum, total, padded}
use Rattle.grid_index.specs.declared.spans.Span.{Span}

abbrev pub one_number : Span
one_number = record { first = 0; end = 1 }

-- the first spans of a padded box
pub record IsPaddedUpto (pad count : ℕ) (f : ℕ → Span) (spans : List Span) (n : ℕ) : Type 0 where
  pub len : length spans ≡ count
  pub front : (k : ℕ) (d : Span) → k < pad → get_or spans k d ≡ one_number
  pub each : (k : ℕ) (d : Span) → k < n → get_or spans (pad + k) d ≡ f k

pub padded_more : (pad count : ℕ) (f : ℕ → Span) (spans : List Span) (n : ℕ) (span : Span) → pad + n < count → span ≡ f n → IsPaddedUpto pad count f spans n
    → IsPaddedUpto pad count f (set spans (pad + n) span) (n + 1)
padded_more pad count f spans n span inside is upto = record {
  len = length-set spans (pad + n) span ∙ upto.len;
  front = λ k d low. let apart : k ≢ pad + n = λ same. omega arith in get_or-set_other spans (pad + n) k span d apart ∙ upto.front k d low;
  each = λ k d low. elim (cases_lt k n) [
    | inl earlier ↦ let apart : pad + k ≢ pad + n = λ same. omega arith in get_or-set_other spans (pad + n) (pad + k) span d apart ∙ upto.each k d earlier
    | inr here ↦
        let same : k ≡ n = omega arith in
        rw same (get_or-set_same spans (pad + n) span d (omega (arith, upto.len, inside)) ∙ is)
  ];
}

pub padded-is : (spans : List Span) (pad : ℕ) (box : List Span) → length spans ≡ pad + length box → ((k : ℕ) (d : Span) → k < pad → get_or spans k d ≡ one_number)
    → ((k : ℕ) (d : Span) → k < length box → get_or spans (pad + k) d ≡ get_or box k d) → spans ≡ padded pad box
padded-is spans zero box len front each =
    same_lists spans box (omega (arith, len))
    (λ k d inside. let place : k ≡ 0 + k = omega arith in ap (λ (n : ℕ). get_or spans n d) place ∙ each k d (omega (arith, len, inside)))
padded-is [] (suc pad) box len front each = absurd (omega (arith, len))
padded-is (span ∷ spans) (suc pad) box len front each =
    let first : span ≡ one_number = front 0 one_number (omega arith) in
    let others = padded-is spans pad box (omega (arith, len)) (λ k d low. front (suc k) d (omega arith))
    (λ k d inside. let place : suc (pad + k) ≡ suc pad + k = omega arith in ap (λ (n : ℕ). get_or (span ∷ spans) n d) place ∙ each k d inside) in
    ap (λ (s : Span). s ∷ spans) first ∙ ap (λ (rest : List Span). one_number ∷ rest) others

-- a list of three
pub three : (spans : List Span) (d : Span) → length spans ≡ 3 → (get_or spans 0 d ∷ get_or spans 1 d ∷ get_or spans 2 d ∷ []) ≡ spans
three [] d len = absurd (omega (arith, len))
three (a ∷ []) d len = absurd (omega (arith, len))
three (a ∷ b ∷ []) d len = absurd (omega (arith, len))
three (a ∷ b ∷ c ∷ []) d len = refl
three (a ∷ b ∷ c ∷ e ∷ spans) d len = absurd (omega (arith, len))

-- a padded box is as good as the box
pub length-padded : (pad : ℕ) (box : List Span) → length (padded pad box) ≡ pad + length box
length-padded zero box = omega arith
length-padded (suc pad) box = omega (arith, length-padded pad box)

pub padded-spans : (c pad : ℕ) (box : List Span) → 0 < c → All (IsSpan c) box → All (IsSpan c) (padded pad box)
padded-spans c zero box some spans = spans
padded-spans c (suc pad) box some spans =
    All-cons (IsSpan c) one_number (padded pad box) (record { ordered = omega arith; within = omega arith }) (padded-spans c pad box some spans)

pub padded-nested : (c pad : ℕ) (outer inner : List Span) → 0 < c → AreNested c outer inner → AreNested c (padded pad outer) (padded pad inner)
padded-nested c zero outer inner some nested = nested
padded-nested c (suc pad) outer inner some nested = (omega arith, omega arith, omega arith, omega arith, padded-nested c pad outer inner some nested)

root : (c : ℕ) → 0 * c + 0 ≡ 0
root c = omega arith

one_cell : (f : ℕ → ℕ) → total f 1 - total f 0 ≡ f 0
one_cell f = omega arith

pub padded-sum : (w : ℕ → ℕ) (c pad : ℕ) (box : List Span) → box_sum w c (padded pad box) 0 ≡ box_sum w c box 0
padded-sum w c zero box = refl
padded-sum w c (suc pad) box =
    one_cell (λ n. box_sum w c (padded pad box) (0 * c + n)) ∙ ap (box_sum w c (padded pad box)) (root c) ∙ padded-sum w c pad box

pub in_padded : (c pad : ℕ) (box : List Span) (cell : ℕ) → IsInBox c box 0 cell → IsInBox c (padded pad box) 0 cell
in_padded c zero box cell inside = inside
in_padded c (suc pad) box cell inside =
    (0, omega arith, omega arith, subst (λ (front : ℕ). IsInBox c (padded pad box) front cell) (sym (root c)) (in_padded c pad box cell inside))

pub from_padded : (c pad : ℕ) (box : List Span) (cell : ℕ) → IsInBox c (padded pad box) 0 cell → IsInBox c box 0 cell
from_padded c zero box cell inside = inside
from_padded c (suc pad) box cell inside =
    let first : 0 * c + inside.0 ≡ 0 = omega (arith, inside.2) in
    from_padded c pad box cell (subst (λ (front : ℕ). IsInBox c (padded pad box) front cell) first inside.3)
