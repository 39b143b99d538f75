-- What stands at places while the totals are written in place.
use Rattle.std.proofs.Common.{◌≡◌, ℕ, ◌+◌, ◌-◌, ◌^◌, ◌<◌, Bool, true, false, cond, ◌||◌, List, [], ◌∷◌, ◌++◌, Option, Some, None, length, get_or, set, map, find, fold, take, drop, All, ℤ, pos, ◌+ℤ◌, refl, sym, ap, inl, inr, ◌∙◌, arith, add-zero}
use mir.Syntax.{w64}
use mir.Val.{to_z, of_z}
use Rattle.std.specs.List.{list_any, range_with_len}
use Rattle.std.specs.Option.{option_map_or}
use Rattle.std.proofs.lemmas.Bool.{cases_lt}
use Rattle.std.proofs.lemmas.Int.{to_z-of_z, fits_signed_from_abs}
use Rattle.std.proofs.lemmas.List.{get_or-take, get_or-drop, drop-drop, drop-set-lt, take_more_set}
use Rattle.std.proofs.lemmas.List.Elements.{All-head, All-tail, All-set}
use Rattle.std.proofs.lemmas.List.FromFn.{map-range_with_len_more, get_or-map-range_with_len}
use Rattle.fixed_num.specs.Numbers.{IsValue}
use Rattle.fixed_num.specs.Relaxation.{within}
use Rattle.data_actions.specs.declared.sums.Sum.{Sum}
use Rattle.data_actions.specs.Totals.{value_at, total}
use Rattle.data_actions.specs.SummedValues.{makes, is_made, made_at}
use Rattle.data_actions.proofs.Stretches.{offset_within}

-- a Value as it is read back
value_back : (v : ℤ) → IsValue v → to_z w64 (of_z w64 v) ≡ v
value_back v value = to_z-of_z w64 v (fits_signed_from_abs w64 v (omega (arith, value)))

-- one place more is written
pub written_more : (xs : List ℤ) (f : ℕ → ℤ) (i : ℕ) (v : ℤ) → i < length xs → IsValue v → v ≡ f i
    → take i xs ≡ map f (range_with_len 0 i) → take (i + 1) (set xs i (to_z w64 (of_z w64 v))) ≡ map f (range_with_len 0 (i + 1))
written_more xs f i v h value is before =
    take_more_set xs i (to_z w64 (of_z w64 v)) h
    ∙ ap (λ (zs : List ℤ). zs ++ to_z w64 (of_z w64 v) ∷ []) before
    ∙ ap (λ (x : ℤ). map f (range_with_len 0 i) ++ x ∷ []) (value_back v value ∙ is)
    ∙ sym (map-range_with_len_more f 0 i i (omega arith))

-- one place less is as it was
pub left_more : (xs ys : List ℤ) (i : ℕ) (v : ℤ) → drop i xs ≡ drop i ys → drop (i + 1) (set xs i v) ≡ drop (i + 1) ys
left_more xs ys i v same =
    drop-set-lt (i + 1) xs i v (omega arith) ∙ sym (drop-drop 1 i xs) ∙ ap (λ (zs : List ℤ). drop 1 zs) same ∙ drop-drop 1 i ys

pub values_more : (xs : List ℤ) (i : ℕ) (v : ℤ) → IsValue v → All IsValue xs → All IsValue (set xs i (to_z w64 (of_z w64 v)))
values_more xs i v value before = rw (value_back v value) (All-set IsValue xs i v value before)

-- what is not written yet is as it was
still_there : (xs ys : List ℤ) (i k : ℕ) → drop i xs ≡ drop i ys → get_or xs (i + k) (pos 0) ≡ get_or ys (i + k) (pos 0)
still_there xs ys i k same =
    sym (get_or-drop i xs k (pos 0)) ∙ ap (λ (zs : List ℤ). get_or zs k (pos 0)) same ∙ get_or-drop i ys k (pos 0)

pub find-none : {X : Type 0} (test : X → Bool) (xs : List X) → list_any test xs ≡ false → find test xs ≡ None
find-none test [] h = refl
find-none test (x ∷ xs) h =
    elim (test x) as (λ b. (b || list_any test xs) ≡ false → cond b (Some x) (find test xs) ≡ None) [
      | true ↦ λ h. cc
      | false ↦ λ h. find-none test xs h
    ] h

-- at a place of no target there is to stand what stands there
pub unmade : (sums : List Sum) (values : List ℤ) (place : ℕ) → is_made sums place ≡ false → made_at sums values place ≡ value_at values place
unmade sums values place none =
    ap
    (λ (found : Option Sum). option_map_or (λ (sum : Sum). within (10 ^ 13) (total sum values (place - sum.target))) found (value_at values place))
    (find-none (makes place) sums none)

-- and so it does while places are written
untouched : (sums : List Sum) (old new : List ℤ) (i place : ℕ) → take i new ≡ map (made_at sums old) (range_with_len 0 i) → drop i new ≡ drop i old
    → is_made sums place ≡ false → value_at new place ≡ value_at old place
untouched sums old new i place done left none =
    elim (cases_lt place i) [
      | inl h ↦
          sym (get_or-take i new place (pos 0) h)
          ∙ ap (λ (xs : List ℤ). get_or xs place (pos 0)) done
          ∙ get_or-map-range_with_len (made_at sums old) 0 i place place (pos 0) h (omega arith)
          ∙ unmade sums old place none
      | inr h ↦
          let here : i + (place - i) ≡ place = omega arith in
          rw here at (still_there new old i (place - i) left)
    ]

-- totals of equal values
pub total_same : (new old : List ℤ) (offset : ℕ) (so_far : ℤ) (sources : List ℕ) → All (λ source. value_at new (source + offset) ≡ value_at old (source + offset)) sources
    → fold (λ (so_far : ℤ) (source : ℕ). so_far +ℤ value_at new (source + offset)) so_far sources
    ≡ fold (λ (so_far : ℤ) (source : ℕ). so_far +ℤ value_at old (source + offset)) so_far sources
total_same new old offset so_far [] same = refl
total_same new old offset so_far (source ∷ sources) same =
    let P : ℕ → Type 0 = λ source. value_at new (source + offset) ≡ value_at old (source + offset) in
    total_same new old offset (so_far +ℤ value_at new (source + offset)) sources (All-tail P source sources same)
    ∙ ap
    (λ (x : ℤ). fold (λ (so_far : ℤ) (source : ℕ). so_far +ℤ value_at old (source + offset)) (so_far +ℤ x) sources)
    (All-head P source sources same)

-- the values of the sum's sources are equal in two lists
abbrev pub HasSame : (new old : List ℤ) → Sum → Type 0
HasSame new old sum = All (λ source. (offset : ℕ) → offset < sum.length → value_at new (source + offset) ≡ value_at old (source + offset)) sum.sources

-- what is made of equal values
made_same : (new old : List ℤ) (place : ℕ) (a b : ℤ) (sums : List Sum) → a ≡ b → All (HasSame new old) sums
    → option_map_or (λ (sum : Sum). within (10 ^ 13) (total sum new (place - sum.target))) (find (makes place) sums) a
    ≡ option_map_or (λ (sum : Sum). within (10 ^ 13) (total sum old (place - sum.target))) (find (makes place) sums) b
made_same new old place a b [] same all = same
made_same new old place a b (sum ∷ sums) same all =
    elim (makes place sum) as (λ found. makes place sum ≡ found
    → option_map_or (λ (sum : Sum). within (10 ^ 13) (total sum new (place - sum.target))) (cond found (Some sum) (find (makes place) sums)) a
    ≡ option_map_or (λ (sum : Sum). within (10 ^ 13) (total sum old (place - sum.target))) (cond found (Some sum) (find (makes place) sums)) b) [
      | true ↦ λ here.
          let offset : place - sum.target < sum.length = offset_within sum.target place sum.length here in
          let head = All-head (HasSame new old) sum sums all in
          ap
          (λ (t : ℤ). within (10 ^ 13) t)
          (total_same new old (place - sum.target) (pos 0) sum.sources (λ k d h. head k d h (place - sum.target) offset))
      | false ↦ λ _. made_same new old place a b sums same (All-tail (HasSame new old) sum sums all)
    ] refl

-- the next place, of values that are half written
pub made_next : (sums : List Sum) (old new : List ℤ) (i : ℕ)
    → All (λ sum. All (λ source. (offset : ℕ) → offset < sum.length → is_made sums (source + offset) ≡ false) sum.sources) sums
    → take i new ≡ map (made_at sums old) (range_with_len 0 i) → drop i new ≡ drop i old → made_at sums new i ≡ made_at sums old i
made_next sums old new i apart done left =
    made_same new old i (value_at new i) (value_at old i) sums
    (rw add-zero at (still_there new old i 0 left))
    (λ k d h k2 d2 h2 offset below. untouched sums old new i (get_or (get_or sums k d).sources k2 d2 + offset) done left (apart k d h k2 d2 h2 offset below))
