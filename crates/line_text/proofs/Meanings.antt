-- What reading answers, in the words of the spellings.
use Rattle.std.proofs.Common.{◌≡◌, ◌≢◌, ℕ, ◌^◌, ◌<◌, ◌≤◌, ◌↔◌, Bool, true, false, List, [], ◌∷◌, length, Option, refl, sym, ◌∙◌, ap, subst, arith, if◌then◌else◌, nat_lt, eqb, ℤ, pos, neg_ℤ, unsigned_abs, Result, Ok, Err, IfOk, zero, suc}
use Rattle.std.proofs.lemmas.Bool.{ltb-true, ltb-false, lt-ltb, le-ltb, ne_eqb, false≢true, false_from_ne_true, true_from_ne_false}
use Rattle.fixed_num.specs.Numbers.{IsValue}
use Rattle.line_text.proofs.Parts.{spelled, spells_parts}
use Rattle.line_text.specs.Reading.{spelling_in, value_of, reading, has_minus, without_minus, is_point, after_point}
use Rattle.std.specs.List.{before_first}
use Rattle.line_text.specs.Spelling.{Spelling, Spells, is_number, decimal_places, magnitude, units_of}
use Rattle.line_text.specs.declared.error.NumErr.{NumErr}
use Rattle.line_text.specs.declared.error.NumErr.TheVariants.{Empty, Digit, TooManyDecimals, Range}

-- the answers to a number, by whether it has too many decimals and whether it is past the limit
abbrev pub graded : Bool → Bool → ℤ → Result ℤ NumErr
graded many past units = if many then Err TooManyDecimals else if past then Err Range else Ok units

graded_many : (m p : Bool) (z : ℤ) → graded m p z ≡ Err TooManyDecimals → m ≡ true
graded_many true p z h = refl
graded_many false true z h = cc
graded_many false false z h = cc

graded_range : (m p : Bool) (z : ℤ) → graded m p z ≡ Err Range → (m ≡ false) × (p ≡ true)
graded_range true p z h = cc
graded_range false true z h = (refl, refl)
graded_range false false z h = cc

pub graded_ok : (m p : Bool) (z units : ℤ) → graded m p z ≡ Ok units → (m ≡ false) × (p ≡ false) × (units ≡ z)
graded_ok true p z units h = cc
graded_ok false true z units h = cc
graded_ok false false z units h = (refl, refl, cc)

graded_not : (m p : Bool) (z : ℤ) → (graded m p z ≢ Err Empty) × (graded m p z ≢ Err Digit)
graded_not true p z = (λ h. cc, λ h. cc)
graded_not false true z = (λ h. cc, λ h. cc)
graded_not false false z = (λ h. cc, λ h. cc)

-- the absolute value of a number is the number without its sign
pub size : (b : Bool) (m : ℕ) → unsigned_abs (if b then neg_ℤ (pos m) else pos m) ≡ m
size true zero = refl
size true (suc m) = refl
size false m = refl

-- a number's text is not empty
pub number_there : (text : List ℕ) → is_number (spelling_in text) ≡ true → eqb (length text) 0 ≡ false
unfolding spelling_in
number_there [] h = absurd (false≢true h)
number_there (c ∷ cs) h = ne_eqb (length (c ∷ cs)) 0 (λ e. omega (arith, e))

-- a number's text means what its parts mean
pub reads_number : (text : List ℕ) → is_number (spelling_in text) ≡ true → reading text ≡ value_of (spelling_in text)
unfolding reading
reads_number text h =
    ap (λ b. let r : Result ℤ NumErr = if b then Err Empty else if is_number (spelling_in text) then value_of (spelling_in text) else Err Digit in r) (number_there text h)
    ∙ ap (λ b. let r : Result ℤ NumErr = if b then value_of (spelling_in text) else Err Digit in r) h

pub reads_spelled : (s : Spelling) (text : List ℕ) → Spells s text → reading text ≡ value_of s
reads_spelled s text h =
    let found : spelling_in text ≡ s = spelled s text h in
    let P : Spelling → Type 0 = λ t. is_number t ≡ true in
    reads_number text (subst P (sym found) h.number) ∙ ap value_of found

-- a text that is no number's means nothing
pub reads_other : (text : List ℕ) → is_number (spelling_in text) ≡ false → reading text ≡ (if eqb (length text) 0 then Err Empty else Err Digit)
unfolding reading
reads_other text h =
    ap (λ b. let r : Result ℤ NumErr = if eqb (length text) 0 then Err Empty else if b then value_of (spelling_in text) else Err Digit in r) h

pub reads_nothing : reading [] ≡ Err Empty
unfolding reading
reads_nothing = refl

-- two answers are not one
abbrev Differ : Result ℤ NumErr → Result ℤ NumErr → Type 0
Differ a b = a ≡ b → ⊥

digit_not_empty : Differ (Err Digit) (Err Empty)
digit_not_empty h = cc

-- a text that is not empty, and no number's
reads_other_there : (c : ℕ) (cs : List ℕ) → is_number (spelling_in (c ∷ cs)) ≡ false → reading (c ∷ cs) ≡ Err Digit
reads_other_there c cs e =
    reads_other (c ∷ cs) e
    ∙ ap (λ b. let r : Result ℤ NumErr = if b then Err Empty else Err Digit in r) (ne_eqb (length (c ∷ cs)) 0 (λ z. omega (arith, z)))

empty_from : (text : List ℕ) → reading text ≡ Err Empty → text ≡ []
empty_from [] h = refl
empty_from (c ∷ cs) h =
    let text : List ℕ = c ∷ cs in
    elim (is_number (spelling_in text)) as (λ b. is_number (spelling_in text) ≡ b → text ≡ []) [
      | true ↦ λ e. absurd ((graded_not _ _ _).0 (sym (reads_number text e) ∙ h))
      | false ↦ λ e. absurd (digit_not_empty (sym (reads_other_there c cs e) ∙ h))
    ] refl

-- when a text is empty
pub means_empty : (text : List ℕ) (r : Result ℤ NumErr) → r ≡ reading text → (r ≡ Err Empty) ↔ (text ≡ [])
means_empty text r e = (
  λ h. empty_from text (sym e ∙ h),
  λ h. e ∙ ap reading h ∙ reads_nothing,
)

digit_from : (text : List ℕ) → text ≢ [] → ((s : Spelling) → Spells s text → ⊥) → reading text ≡ Err Digit
digit_from [] some none = absurd (some refl)
digit_from (c ∷ cs) some none =
    reads_other_there c cs (false_from_ne_true (is_number (spelling_in (c ∷ cs))) (λ e. none (spelling_in (c ∷ cs)) (spells_parts (c ∷ cs) e)))

-- when a text is no number's
pub means_digit : (text : List ℕ) (r : Result ℤ NumErr) → r ≡ reading text
    → (r ≡ Err Digit) ↔ ((text ≢ []) × ((s : Spelling) → Spells s text → ⊥))
means_digit text r e = (
  λ h. (
    λ none. digit_not_empty (sym h ∙ e ∙ ap reading none ∙ reads_nothing),
    λ s spells. (graded_not _ _ _).1 (sym (reads_spelled s text spells) ∙ sym e ∙ h),
  ),
  λ h. e ∙ digit_from text h.0 h.1,
)

-- an answer that only a number has
number_from : (text : List ℕ) → reading text ≢ Err Empty → reading text ≢ Err Digit → is_number (spelling_in text) ≡ true
number_from [] a b = absurd (a reads_nothing)
number_from (c ∷ cs) a b = true_from_ne_false (is_number (spelling_in (c ∷ cs))) (λ e. b (reads_other_there c cs e))

many_not : Differ (Err TooManyDecimals) (Err Empty) × Differ (Err TooManyDecimals) (Err Digit)
many_not = (λ h. cc, λ h. cc)

range_not : Differ (Err Range) (Err Empty) × Differ (Err Range) (Err Digit)
range_not = (λ h. cc, λ h. cc)

ok_not : (units : ℤ) → Differ (Ok units) (Err Empty) × Differ (Ok units) (Err Digit)
ok_not units = (λ h. cc, λ h. cc)

-- when a number has too many decimals
pub means_many : (text : List ℕ) (r : Result ℤ NumErr) → r ≡ reading text
    → (r ≡ Err TooManyDecimals) ↔ ((s : Spelling) × Spells s text × (6 < decimal_places s))
means_many text r e = (
  λ h. let s : Spelling = spelling_in text in
      let is : reading text ≡ Err TooManyDecimals = sym e ∙ h in
      let number : is_number s ≡ true = number_from text (λ x. many_not.0 (sym is ∙ x)) (λ x. many_not.1 (sym is ∙ x)) in
      (s, spells_parts text number, ltb-true 6 (decimal_places s) (graded_many _ _ _ (sym (reads_number text number) ∙ is))),
  λ h. e ∙ reads_spelled h.0 text h.1
      ∙ ap (λ b. graded b (nat_lt (10 ^ 13) (magnitude h.0)) (units_of h.0)) (lt-ltb 6 (decimal_places h.0) h.2),
)

-- when a number is past the limit
pub means_range : (text : List ℕ) (r : Result ℤ NumErr) → r ≡ reading text
    → (r ≡ Err Range) ↔ ((s : Spelling) × Spells s text × (decimal_places s ≤ 6) × (IsValue (units_of s) → ⊥))
means_range text r e = (
  λ h. let s : Spelling = spelling_in text in
      let is : reading text ≡ Err Range = sym e ∙ h in
      let number : is_number s ≡ true = number_from text (λ x. range_not.0 (sym is ∙ x)) (λ x. range_not.1 (sym is ∙ x)) in
      let g : (nat_lt 6 (decimal_places s) ≡ false) × (nat_lt (10 ^ 13) (magnitude s) ≡ true) = graded_range _ _ _ (sym (reads_number text number) ∙ is) in
      (s, spells_parts text number, ltb-false 6 (decimal_places s) g.0, λ small. omega (arith, small, size s.is_negative (magnitude s), ltb-true (10 ^ 13) (magnitude s) g.1)),
  λ h. e ∙ reads_spelled h.0 text h.1
      ∙ ap (λ b. graded b (nat_lt (10 ^ 13) (magnitude h.0)) (units_of h.0)) (le-ltb 6 (decimal_places h.0) h.2)
      ∙ ap (λ b. graded false b (units_of h.0)) (true_from_ne_false (nat_lt (10 ^ 13) (magnitude h.0)) (λ n. h.3 (omega (arith, size h.0.is_negative (magnitude h.0), ltb-false (10 ^ 13) (magnitude h.0) n)))),
)

-- what a number means
pub means_value : (text : List ℕ) (units : ℤ) → Ok units ≡ reading text
    → (s : Spelling) × Spells s text × (decimal_places s ≤ 6) × (units ≡ units_of s) × IsValue units
means_value text units e =
    let s : Spelling = spelling_in text in
    let number : is_number s ≡ true = number_from text (λ x. (ok_not units).0 (e ∙ x)) (λ x. (ok_not units).1 (e ∙ x)) in
    let g : (nat_lt 6 (decimal_places s) ≡ false) × (nat_lt (10 ^ 13) (magnitude s) ≡ false) × (units ≡ units_of s) =
    graded_ok _ _ _ units (sym (reads_number text number) ∙ sym e) in
    let small : unsigned_abs (units_of s) ≤ 10 ^ 13 = omega (arith, size s.is_negative (magnitude s), ltb-false (10 ^ 13) (magnitude s) g.1) in
    (s, spells_parts text number, ltb-false 6 (decimal_places s) g.0, g.2, subst IsValue (sym g.2) small)

-- a number of at most six decimals within the limit means its units
pub reads_small : (s : Spelling) (text : List ℕ) → Spells s text → decimal_places s ≤ 6 → IsValue (units_of s) → reading text ≡ Ok (units_of s)
reads_small s text h places small =
    reads_spelled s text h
    ∙ ap (λ b. graded b (nat_lt (10 ^ 13) (magnitude s)) (units_of s)) (le-ltb 6 (decimal_places s) places)
    ∙ ap (λ b. graded false b (units_of s)) (le-ltb (10 ^ 13) (magnitude s) (omega (arith, small, size s.is_negative (magnitude s))))

pub means_ok : (text : List ℕ) (r : Result ℤ NumErr) → r ≡ reading text
    → IfOk r (λ units. (s : Spelling) × Spells s text × (decimal_places s ≤ 6) × (units ≡ units_of s) × IsValue units)
means_ok text (Ok units) e = means_value text units e
means_ok text (Err x) e = tt

-- the answers of the code, which takes a text apart
pub parts_are : (text rest whole : List ℕ) (b : Bool) (o : Option (List ℕ)) → b ≡ has_minus text → rest ≡ without_minus text
    → whole ≡ before_first is_point rest → o ≡ after_point rest → record { is_negative = b; whole = whole; decimals = o } ≡ spelling_in text
unfolding spelling_in
parts_are text rest whole b o eb er ew eo =
    ap (λ x. let s : Spelling = record { is_negative = x; whole = whole; decimals = o } in s) eb
    ∙ ap (λ x. let s : Spelling = record { is_negative = has_minus text; whole = x; decimals = o } in s) (ew ∙ ap (λ x. before_first is_point x) er)
    ∙ ap (λ x. let s : Spelling = record { is_negative = has_minus text; whole = before_first is_point (without_minus text); decimals = x } in s) (eo ∙ ap (λ x. after_point x) er)

pub answer_empty : (text : List ℕ) → eqb (length text) 0 ≡ true → Err Empty ≡ reading text
unfolding reading
answer_empty text h =
    sym (ap (λ b. let r : Result ℤ NumErr = if b then Err Empty else if is_number (spelling_in text) then value_of (spelling_in text) else Err Digit in r) h)

pub answer_digit : (text : List ℕ) (s : Spelling) → s ≡ spelling_in text → eqb (length text) 0 ≡ false → is_number s ≡ false → Err Digit ≡ reading text
answer_digit text s e some h =
    sym (reads_other text (ap is_number (sym e) ∙ h) ∙ ap (λ b. let r : Result ℤ NumErr = if b then Err Empty else Err Digit in r) some)

pub answer_value : (text : List ℕ) (s : Spelling) (r : Result ℤ NumErr) → s ≡ spelling_in text → is_number s ≡ true → r ≡ value_of s → r ≡ reading text
answer_value text s r e h is = is ∙ ap value_of e ∙ sym (reads_number text (ap is_number (sym e) ∙ h))
