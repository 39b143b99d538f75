-- What stands at a target once all is written.
use Rattle.std.proofs.Common.{◌≡◌, ℕ, zero, suc, ◌+◌, ◌-◌, ◌^◌, ◌<◌, ◌≤◌, Bool, true, false, cond, List, [], ◌∷◌, Option, Some, length, get_or, slice_get, find, All, ℤ, pos, sym, ap, inl, inr, ◌∙◌, arith}
use Rattle.std.specs.List.{count_by, range_with_len}
use Rattle.std.specs.Option.{option_map_or}
use Rattle.std.proofs.lemmas.Bool.{cases_lt}
use Rattle.std.proofs.lemmas.Int.{ints}
use Rattle.std.proofs.lemmas.List.{get_or_past}
use Rattle.std.proofs.lemmas.List.FromFn.{length-map-range_with_len, get_or-map-range_with_len, get_or-range_with_len, length-range_with_len}
use Rattle.std.proofs.lemmas.List.Sums.{sum_by-cons, AllPass-from_list_all}
use Rattle.std.proofs.lemmas.Option.{same_Some, slice_get_within, get_or_from_slice_get}
use Rattle.fixed_num.specs.Numbers.{IsValue, is_value}
use Rattle.fixed_num.specs.Relaxation.{within}
use Rattle.fixed_num.proofs.ValueTests.{value_from_true}
use Rattle.data_actions.specs.declared.sums.Sum.{Sum}
use Rattle.data_actions.specs.Totals.{value_at, total}
use Rattle.data_actions.specs.Fit.{totals_fit, fit}
use Rattle.data_actions.specs.SummedValues.{makes, is_made, made_at, summed}
use Rattle.data_actions.specs.SoundSums.{IsSumOf, AreSums}
use Rattle.data_actions.proofs.Stretches.{makes_within}
use Rattle.data_actions.proofs.Places.{unmade, total_same}

-- an element that passes is counted
counted : {X : Type 0} (test : X → Bool) (xs : List X) (k : ℕ) (x : X) → slice_get xs k ≡ Some x → test x ≡ true → 1 ≤ count_by test xs
counted test [] k x is passes = cc
counted {X} test (y ∷ ys) zero x is passes =
    let here : test y ≡ true = ap test (same_Some y x is) ∙ passes in
    rw (sum_by-cons (λ (x : X). cond (test x) 1 0) y ys, here) (omega arith)
counted {X} test (y ∷ ys) (suc k) x is passes =
    let rest = counted test ys k x is passes in
    rw (sum_by-cons (λ (x : X). cond (test x) 1 0) y ys) (omega (arith, rest))

-- the only element that passes is found
found : {X : Type 0} (test : X → Bool) (xs : List X) (k : ℕ) (x : X) → slice_get xs k ≡ Some x → test x ≡ true → count_by test xs ≤ 1 → find test xs ≡ Some x
found test [] k x is passes once = cc
found test (y ∷ ys) zero x is passes once =
    let here : test y ≡ true = ap test (same_Some y x is) ∙ passes in
    rw here is
found {X} test (y ∷ ys) (suc k) x is passes once =
    let few = rw (sum_by-cons (λ (x : X). cond (test x) 1 0) y ys) at once in
    elim (test y) as (λ b. cond b 1 0 + count_by test ys ≤ 1 → cond b (Some y) (find test ys) ≡ Some x) [
      | true ↦ λ few. let some = counted test ys k x is passes in absurd (omega (arith, some, few))
      | false ↦ λ few. found test ys k x is passes (omega (arith, few))
    ] few

-- at a place of no target stands what stood there
pub others : (sums : List Sum) (values : List ℤ) (place : ℕ) → is_made sums place ≡ false → value_at (summed sums values) place ≡ value_at values place
others sums values place none =
    let many = length-map-range_with_len (made_at sums values) 0 (length values) in
    elim (cases_lt place (length values)) [
      | inl h ↦
          get_or-map-range_with_len (made_at sums values) 0 (length values) place place (pos 0) h (omega arith) ∙ unmade sums values place none
      | inr h ↦
          get_or_past (summed sums values) place (pos 0) (omega (arith, h, many)) ∙ sym (get_or_past values place (pos 0) h)
    ]

-- the total of what is written is that of what stood there
kept_total : (sums : List Sum) (values : List ℤ) (k offset : ℕ) (sum : Sum) → AreSums (length values) sums → slice_get sums k ≡ Some sum → offset < sum.length
    → total sum (summed sums values) offset ≡ total sum values offset
kept_total sums values k offset sum sound is below =
    let apart : All (λ source. (offset : ℕ) → offset < sum.length → is_made sums (source + offset) ≡ false) sum.sources =
    rw (get_or_from_slice_get sums k sum sum is) at (sound.apart k sum (slice_get_within sums k sum is)) in
    total_same (summed sums values) values offset (pos 0) sum.sources
    (λ n d h. others sums values (get_or sum.sources n d + offset) (apart n d h offset below))

pub target : (sums : List Sum) (values : List ℤ) (k offset : ℕ) (sum : Sum) → AreSums (length values) sums → slice_get sums k ≡ Some sum → offset < sum.length
    → value_at (summed sums values) (sum.target + offset) ≡ within (10 ^ 13) (total sum (summed sums values) offset)
target sums values k offset sum sound is below =
    let place = sum.target + offset in
    let sound_sum : IsSumOf (length values) sum =
    rw (get_or_from_slice_get sums k sum sum is) at (sound.in_range k sum (slice_get_within sums k sum is)) in
    let here : place < length values = omega (arith, below, sound_sum.target) in
    let one : find (makes place) sums ≡ Some sum =
    found (makes place) sums k sum is (makes_within sum.target offset sum.length below) (sound.once place) in
    let back : place - sum.target ≡ offset = omega arith in
    get_or-map-range_with_len (made_at sums values) 0 (length values) place place (pos 0) here (omega arith)
    ∙ ap (λ (o : Option Sum). option_map_or (λ (s : Sum). within (10 ^ 13) (total s values (place - s.target))) o (value_at values place)) one
    ∙ ap (λ (n : ℕ). within (10 ^ 13) (total sum values n)) back
    ∙ ap (λ (t : ℤ). within (10 ^ 13) t) (sym (kept_total sums values k offset sum sound is below))

within-value : (t : ℤ) → IsValue t → within (10 ^ 13) t ≡ t
within-value t value = grind (arith, ints)

-- where the sums fit, each total is a Value
total-value : (sums : List Sum) (values : List ℤ) (k offset : ℕ) (sum : Sum) → fit sums values ≡ true → slice_get sums k ≡ Some sum → offset < sum.length
    → IsValue (total sum values offset)
total-value sums values k offset sum fits is below =
    let all = AllPass-from_list_all (λ (s : Sum). totals_fit s values) sums fits k sum (slice_get_within sums k sum is) in
    let each : totals_fit sum values ≡ true = rw (get_or_from_slice_get sums k sum sum is) at all in
    let within : offset < length (range_with_len 0 sum.length) = omega (arith, below, length-range_with_len 0 sum.length) in
    let at = AllPass-from_list_all (λ (n : ℕ). is_value (total sum values n)) (range_with_len 0 sum.length) each offset 0 within in
    let read : get_or (range_with_len 0 sum.length) offset 0 ≡ offset = get_or-range_with_len 0 sum.length offset 0 below ∙ omega arith in
    value_from_true (total sum values offset) (rw read at at)

pub exact : (sums : List Sum) (values : List ℤ) (k offset : ℕ) (sum : Sum) → AreSums (length values) sums → fit sums values ≡ true → slice_get sums k ≡ Some sum → offset < sum.length
    → value_at (summed sums values) (sum.target + offset) ≡ total sum (summed sums values) offset
exact sums values k offset sum sound fits is below =
    let same = kept_total sums values k offset sum sound is below in
    let small : IsValue (total sum (summed sums values) offset) = rw same (total-value sums values k offset sum fits is below) in
    target sums values k offset sum sound is below ∙ within-value (total sum (summed sums values) offset) small
