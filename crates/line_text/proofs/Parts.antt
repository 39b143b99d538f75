-- A text is its parts in a row, and no others.
use Rattle.std.proofs.Common.{◌≡◌, ℕ, ◌+◌, ◌<◌, ◌≤◌, Bool, true, false, not, List, [], ◌∷◌, ◌++◌, length, get_or, take, drop, Option, Some, None, codes, refl, sym, ◌∙◌, ap, arith, cond, ◌&&◌, if◌then◌else◌, nat_lt, eqb, option_map, append-nil, length-append}
use Rattle.std.proofs.Math.ListN.{get_or-append}
use Rattle.std.proofs.Math.Seq.{take-length, take-append_seam, drop-append-add, get_or-append_seam}
use Rattle.std.proofs.lemmas.Bool.{ltb-true, ltb-false, lt-ltb, le-ltb, eqb-true, ne_eqb, false≢true}
use Rattle.std.proofs.lemmas.List.Sums.{position_or_len_is, split_at_first, passes_at_first, prefix_len-le-length}
use Rattle.std.specs.List.{before_first, position_or_len}
use Rattle.std.specs.Str.{all_ascii_digits}
use Rattle.line_text.proofs.Digits.{in_range, all_from, parts}
use Rattle.line_text.specs.Reading.{has_minus, without_minus, is_point, after_point, spelling_in}
use Rattle.line_text.specs.Spelling.{Spelling, Spells, text_of, point_text, is_digits, are_decimals, is_number}

-- no minus stands in front
pub no_minus : (text : List ℕ) → ((rest : List ℕ) → text ≡ codes "-" ++ rest → ⊥) → false ≡ has_minus text
no_minus [] none = refl
no_minus (c ∷ cs) none = elim (eqb c 45) as (λ b. eqb c 45 ≡ b → false ≡ b) [ true ↦ λ e. absurd (none cs (ap (λ x. x ∷ cs) (eqb-true c 45 e))) | false ↦ λ _. refl ] refl

-- and so nothing is taken away
pub no_minus_rest : (text : List ℕ) → ((rest : List ℕ) → text ≡ codes "-" ++ rest → ⊥) → text ≡ without_minus text
no_minus_rest text none = let e : has_minus text ≡ false = sym (no_minus text none) in ap (λ b. if b then drop 1 text else text) (sym e)

-- what stands before the point and from it on are the whole
pub joined : (text : List ℕ) → before_first is_point text ++ point_text (after_point text) ≡ text
joined text =
    let n : ℕ = position_or_len is_point text in
    elim (nat_lt n (length text)) as (λ b. nat_lt n (length text) ≡ b → take n text ++ point_text (option_map (λ i. drop (i + 1) text) (cond b (Some n) None)) ≡ text) [
      | true ↦ λ e. let lt : n < length text = ltb-true n (length text) e in
          sym (split_at_first is_point text 0 lt ∙ ap (λ c. take n text ++ (c ∷ drop (n + 1) text)) (eqb-true (get_or text n 0) 46 (passes_at_first is_point text 0 lt)))
      | false ↦ λ e. let all : n ≡ length text = omega (arith, ltb-false n (length text) e, prefix_len-le-length (λ c. not (is_point c)) text) in
          append-nil (take n text) ∙ ap (λ k. take k text) all ∙ take-length text
    ] refl

-- the minus and what stands after it are the whole
pub minus_joined : (text : List ℕ) → (if has_minus text then codes "-" else []) ++ without_minus text ≡ text
minus_joined [] = refl
minus_joined (c ∷ cs) =
    elim (eqb c 45) as (λ b. eqb c 45 ≡ b → (if b then codes "-" else []) ++ (if b then cs else c ∷ cs) ≡ c ∷ cs) [
      | true ↦ λ e. ap (λ x. x ∷ cs) (sym (eqb-true c 45 e))
      | false ↦ λ _. refl
    ] refl

-- the parts of a text in a row are the text
pub parts_joined : (text : List ℕ) → text ≡ text_of (spelling_in text)
unfolding text_of spelling_in
parts_joined text =
    sym (ap (λ x. (if has_minus text then codes "-" else []) ++ x) (joined (without_minus text)) ∙ minus_joined text)

-- no digit is a point
pub no_point : (whole : List ℕ) (k : ℕ) → all_ascii_digits whole ≡ true → k < length whole → is_point (get_or whole k 0) ≡ false
no_point whole k h lt = ne_eqb (get_or whole k 0) 46 (λ e. omega (arith, e, (in_range whole k h lt).0))

-- the point itself
pub at_point : (whole : List ℕ) (o : Option (List ℕ)) → length whole < length (whole ++ point_text o)
    → is_point (get_or (whole ++ point_text o) (length whole) 0) ≡ true
at_point whole None lt = absurd (omega (arith, lt, length-append whole []))
at_point whole (Some ds) lt = ap is_point (get_or-append_seam whole 46 ds 0)

-- the point stands right after whole digits
pub point_place : (whole : List ℕ) (o : Option (List ℕ)) → all_ascii_digits whole ≡ true
    → position_or_len is_point (whole ++ point_text o) ≡ length whole
point_place whole o h =
    position_or_len_is is_point (whole ++ point_text o) (length whole) 0
    (omega (arith, length-append whole (point_text o)))
    (λ k lt. ap is_point (get_or-append whole (point_text o) 0 k lt) ∙ no_point whole k h lt)
    (at_point whole o)

-- so the parts are found again
pub whole_found : (whole : List ℕ) (o : Option (List ℕ)) → all_ascii_digits whole ≡ true
    → before_first is_point (whole ++ point_text o) ≡ whole
whole_found whole o h = ap (λ n. take n (whole ++ point_text o)) (point_place whole o h) ∙ take-append_seam whole (point_text o)

pub decimals_found : (whole : List ℕ) (o : Option (List ℕ)) → all_ascii_digits whole ≡ true
    → after_point (whole ++ point_text o) ≡ o
decimals_found whole None h =
    let n : ℕ = position_or_len is_point (whole ++ []) in
    let past : length (whole ++ []) ≤ n = omega (arith, length-append whole [], point_place whole None h) in
    ap (λ b. option_map (λ i. drop (i + 1) (whole ++ [])) (cond b (Some n) None)) (le-ltb n (length (whole ++ [])) past)
decimals_found whole (Some ds) h =
    let text : List ℕ = whole ++ (46 ∷ ds) in
    let n : ℕ = position_or_len is_point text in
    let place : n ≡ length whole = point_place whole (Some ds) h in
    let within : n < length text = omega (arith, length-append whole (46 ∷ ds), place) in
    ap (λ b. option_map (λ i. drop (i + 1) text) (cond b (Some n) None)) (lt-ltb n (length text) within)
    ∙ ap (λ k. Some (drop (k + 1) text)) place
    ∙ ap Some (drop-append-add whole (46 ∷ ds) 1)

-- with no minus in front
pub plain_parts : (text : List ℕ) → has_minus text ≡ false
    → spelling_in text ≡ record { is_negative = false; whole = before_first is_point text; decimals = after_point text }
unfolding spelling_in
plain_parts text e =
    ap (λ b. let rest = if b then drop 1 text else text in let s : Spelling = record { is_negative = b; whole = before_first is_point rest; decimals = after_point rest } in s) e

-- digits begin with no minus
pub digits_plain : (whole rest : List ℕ) → is_digits whole ≡ true → has_minus (whole ++ rest) ≡ false
digits_plain [] rest h = absurd (false≢true h)
digits_plain (c ∷ cs) rest h = ne_eqb c 45 (λ e. omega (arith, e, (parts c cs (all_from (c ∷ cs) h)).0))

-- a spelling's text has those parts
pub one_way : (b : Bool) (whole : List ℕ) (o : Option (List ℕ)) → is_digits whole ≡ true
    → spelling_in ((if b then codes "-" else []) ++ (whole ++ point_text o)) ≡ record { is_negative = b; whole = whole; decimals = o }
unfolding spelling_in
one_way true whole o h =
    ap (λ w. let s : Spelling = record { is_negative = true; whole = w; decimals = after_point (whole ++ point_text o) } in s) (whole_found whole o (all_from whole h))
    ∙ ap (λ d. let s : Spelling = record { is_negative = true; whole = whole; decimals = d } in s) (decimals_found whole o (all_from whole h))
one_way false whole o h =
    plain_parts (whole ++ point_text o) (digits_plain whole (point_text o) h)
    ∙ ap (λ w. let s : Spelling = record { is_negative = false; whole = w; decimals = after_point (whole ++ point_text o) } in s) (whole_found whole o (all_from whole h))
    ∙ ap (λ d. let s : Spelling = record { is_negative = false; whole = whole; decimals = d } in s) (decimals_found whole o (all_from whole h))

both : (a b : Bool) → (a && b) ≡ true → (a ≡ true) × (b ≡ true)
both true b h = (refl, h)
both false b h = absurd (false≢true h)

-- a number's whole part and decimals are digits
pub number_parts : (s : Spelling) → is_number s ≡ true → (is_digits s.whole ≡ true) × (are_decimals s.decimals ≡ true)
number_parts s h = both (is_digits s.whole) (are_decimals s.decimals) h

-- the parts that a text spells are those found in it
pub spelled : (s : Spelling) (text : List ℕ) → Spells s text → spelling_in text ≡ s
unfolding text_of
spelled s text h = ap spelling_in h.parts ∙ one_way s.is_negative s.whole s.decimals (number_parts s h.number).0

-- the parts found in a text, if they are a number's, are spelled by it
pub spells_parts : (text : List ℕ) → is_number (spelling_in text) ≡ true → Spells (spelling_in text) text
spells_parts text h = record { number = h; parts = parts_joined text }
