-- Where a time stands among the samples of a wave, and what is read there.
use Rattle.std.proofs.Common.{◌≡◌, ℕ, zero, suc, ◌+◌, ◌-◌, ◌<◌, ◌≤◌, inl, inr, Bool, true, false, cond, eqb, ltb, leb, None, Some, List, [], ◌∷◌, length, get_or, reverse, ℤ, pos, arith, refl, sym, ap, ◌∙◌, All}
use Rattle.std.specs.List.{find, slice_get, AllWithin}
use Rattle.std.specs.List.Sorted.{IsNonDecreasingBy}
use Rattle.std.proofs.lemmas.Int.{ints, by_lt_z}
use Rattle.std.proofs.lemmas.Bool.{cases_lt, cases_eq, lt-ltb, le-ltb, le-leb, lt-leb, eq-eqb, ne_eqb}
use Rattle.std.proofs.lemmas.List.{get_or-reverse, get_or_default, length-reverse, length-map, get_or-map}
use Rattle.std.proofs.lemmas.List.Folds.{find_at}
use Rattle.std.proofs.lemmas.List.Sums.{position_or_len_is}
use Rattle.std.proofs.lemmas.Option.{slice_get-get_or, slice_get_past, slice_get_within, get_or_from_slice_get}
use Rattle.waveform.specs.declared.sample.Sample.{Sample}
use Rattle.waveform.specs.IsWave.{times, value_lists}
use Rattle.waveform.specs.Between.{IsBetween, component_of}
use Rattle.waveform.specs.WaveValue.{read, step_at, line_at, sample_at, sample_from, sample_before, values_between}
use Rattle.waveform.proofs.Lines.{values_between-get_or, component_between-IsBetween}

find_first : (p : Sample → Bool) (xs : List Sample) (i : ℕ) (d : Sample) → i < length xs
    → ((k : ℕ) → k < i → p (get_or xs k d) ≡ false) → p (get_or xs i d) ≡ true → find p xs ≡ Some (get_or xs i d)
find_first p xs i d inside before here =
    find_at p xs ∙ ap (λ (n : ℕ). slice_get xs n) (position_or_len_is p xs i d (omega arith) before (λ _. here))
    ∙ slice_get-get_or xs i d inside

find_none : (p : Sample → Bool) (xs : List Sample) (d : Sample) → ((k : ℕ) → k < length xs → p (get_or xs k d) ≡ false) → find p xs ≡ None
find_none p xs d fails =
    find_at p xs ∙ ap (λ (n : ℕ). slice_get xs n) (position_or_len_is p xs (length xs) d (omega arith) fails (λ l. absurd (omega arith)))
    ∙ slice_get_past xs (length xs) (omega arith)

-- sample i is the first at or after t
pub record IsPlace (samples : List Sample) (t i : ℕ) : Type 0 where
  pub inside : i < length samples
  pub before : (k : ℕ) (d : Sample) → k < i → (get_or samples k d).time < t
  pub later : (k : ℕ) (d : Sample) → i ≤ k → k < length samples → t ≤ (get_or samples k d).time

pub place_from : (samples : List Sample) (t i : ℕ) → i < length samples → AllWithin (λ (s : Sample). s.time < t) samples 0 i → AllWithin (λ (s : Sample). t ≤ s.time) samples i (length samples) → IsPlace samples t i
place_from samples t i inside before later = record { inside = inside; before = λ k d h. before k d (omega arith) h; later = later }

abbrev pub Rises : List Sample → Type 0
Rises samples = (i j : ℕ) (d : Sample) → i < j → j < length samples → (get_or samples i d).time < (get_or samples j d).time

-- the time of a sample, at another default
time-default : (samples : List Sample) (i : ℕ) (d e : Sample) → i < length samples → (get_or samples i d).time ≡ (get_or samples i e).time
time-default samples i d e inside = ap (λ (s : Sample). s.time) (get_or_default samples i d e inside)

sample_from-place : (samples : List Sample) (t i : ℕ) (d : Sample) → IsPlace samples t i → sample_from samples t ≡ Some (get_or samples i d)
sample_from-place samples t i d place =
    find_first (λ (s : Sample). leb t s.time) samples i d place.inside
    (λ k h. lt-leb t (get_or samples k d).time (place.before k d h))
    (le-leb t (get_or samples i d).time (place.later i d (omega arith) place.inside))

sample_at-found : (samples : List Sample) (t i : ℕ) (d : Sample) → IsPlace samples t i → (get_or samples i d).time ≡ t → sample_at samples t ≡ Some (get_or samples i d)
sample_at-found samples t i d place at =
    find_first (λ (s : Sample). eqb s.time t) samples i d place.inside
    (λ k h. ne_eqb (get_or samples k d).time t (λ e. absurd (omega (arith, place.before k d h))))
    (eq-eqb (get_or samples i d).time t at)

sample_at-none : (samples : List Sample) (t i : ℕ) (d : Sample) → IsPlace samples t i → Rises samples → t < (get_or samples i d).time → sample_at samples t ≡ None
sample_at-none samples t i d place rising after =
    find_none (λ (s : Sample). eqb s.time t) samples d
    (λ k h. ne_eqb (get_or samples k d).time t (λ e. elim (cases_lt k i) [
      | inl below ↦ omega (arith, place.before k d below)
      | inr above ↦ elim (cases_eq k i) [
        | inl same ↦ omega (arith, after, ap (λ (n : ℕ). (get_or samples n d).time) same)
        | inr other ↦ omega (arith, after, rising i k d (omega arith) h)
      ]
    ]))

sample_before-place : (samples : List Sample) (t i : ℕ) (d : Sample) → IsPlace samples t i → 0 < i → sample_before samples t ≡ Some (get_or samples (i - 1) d)
sample_before-place samples t i d place some =
    let inside = place.inside in
    let n = length samples - i in
    let at : (k : ℕ) → k < length samples → get_or (reverse samples) k d ≡ get_or samples (length samples - 1 - k) d = λ k h. get_or-reverse samples k d h in
    let here : get_or (reverse samples) n d ≡ get_or samples (i - 1) d = at n (omega arith) ∙ ap (λ (m : ℕ). get_or samples m d) (omega arith) in
    find_first (λ (s : Sample). ltb s.time t) (reverse samples) n d (rw length-reverse (omega arith))
    (λ k h. rw (at k (omega arith)) (le-ltb (get_or samples (length samples - 1 - k) d).time t (place.later (length samples - 1 - k) d (omega arith) (omega arith))))
    (rw here (lt-ltb (get_or samples (i - 1) d).time t (place.before (i - 1) d (omega arith))))
    ∙ ap Some here

-- a single sample is read at every time
pub read_only : (samples : List Sample) (degree t : ℕ) (d : Sample) → length samples ≡ 1 → read samples degree t ≡ (get_or samples 0 d).field.values
unfolding read
read_only [] degree t d h = absurd (omega arith)
read_only (s ∷ []) degree t d h = refl
read_only (s ∷ r ∷ more) degree t d h = absurd (omega arith)

read_longer : (samples : List Sample) (degree t : ℕ) → 2 ≤ length samples → read samples degree t ≡ cond (eqb degree 0) (step_at samples t) (line_at samples t)
unfolding read
read_longer [] degree t h = absurd (omega arith)
read_longer (s ∷ []) degree t h = absurd (omega arith)
read_longer (s ∷ r ∷ more) degree t h = refl

-- by degree 0 the first sample at or after t
pub read_step : (samples : List Sample) (t i : ℕ) (d : Sample) → 2 ≤ length samples → IsPlace samples t i → read samples 0 t ≡ (get_or samples i d).field.values
read_step samples t i d long place = read_longer samples 0 t long ∙ rw (sample_from-place samples t i d place) refl

not_zero : (n : ℕ) → eqb (suc n) 0 ≡ false
not_zero n = ne_eqb (suc n) 0 (λ e. omega arith)

-- by either degree the sample at t
pub read_found : (samples : List Sample) (degree t i : ℕ) (d : Sample) → 2 ≤ length samples → IsPlace samples t i → (get_or samples i d).time ≡ t → read samples degree t ≡ (get_or samples i d).field.values
read_found samples zero t i d long place at = read_step samples t i d long place
read_found samples (suc n) t i d long place at = read_longer samples (suc n) t long ∙ rw (sample_at-found samples t i d place at, not_zero n) refl

-- by degree 1, where no sample is at t, between the neighbours
pub read_line : (samples : List Sample) (n t i : ℕ) (d : Sample) → 2 ≤ length samples → IsPlace samples t i → Rises samples → t < (get_or samples i d).time → 0 < i
    → read samples (suc n) t ≡ values_between (get_or samples (i - 1) d) (get_or samples i d) t
read_line samples n t i d long place rising after some =
    read_longer samples (suc n) t long
    ∙ rw (sample_at-none samples t i d place rising after, sample_before-place samples t i d place some, sample_from-place samples t i d place, not_zero n) refl

pub IsNonDecreasingBy-rises : (samples : List Sample) → Rises samples → IsNonDecreasingBy (λ (s : Sample). s.time) samples
IsNonDecreasingBy-rises samples rising = λ i j d le inside.
    elim (cases_eq i j) [
      | inl same ↦ rw same (omega arith)
      | inr other ↦ omega (arith, rising i j d (omega arith) inside)
    ]

-- what stands past the end of a list
abbrev pub no_sample : Sample
no_sample = record { time = 0; field = record { components = 0; values = [] } }

pub time-is : (samples : List Sample) (i : ℕ) → i < length samples → get_or (times samples) i 0 ≡ (get_or samples i no_sample).time
time-is samples i inside = get_or-map (λ (s : Sample). s.time) samples i no_sample 0 inside

pub component_of-is : (samples : List Sample) (i k : ℕ) → i < length samples → component_of samples i k ≡ get_or (get_or samples i no_sample).field.values k (pos 0)
component_of-is samples i k inside = ap (λ (values : List ℤ). get_or values k (pos 0)) (get_or-map (λ (s : Sample). s.field.values) samples i no_sample [] inside)

-- the place of a sample's own time
place_at : (samples : List Sample) (t i : ℕ) → Rises samples → i < length samples → (get_or samples i no_sample).time ≡ t → IsPlace samples t i
place_at samples t i rising inside at =
    record {
      inside = inside;
      before = λ k d h. omega (arith, rising k i d h inside, time-default samples i d no_sample inside, at);
      later = λ k d le h. elim (cases_eq i k) [
        | inl same ↦ rw (← same) (omega (arith, time-default samples i d no_sample inside, at))
        | inr other ↦ omega (arith, rising i k d (omega arith) h, time-default samples i d no_sample inside, at)
      ];
    }

-- the place of a time between two samples
place_after : (samples : List Sample) (t i : ℕ) → Rises samples → i + 1 < length samples → (get_or samples i no_sample).time < t → t ≤ (get_or samples (i + 1) no_sample).time → IsPlace samples t (i + 1)
place_after samples t i rising inside after before =
    let here : i < length samples = omega arith in
    record {
      inside = inside;
      before = λ k d h. elim (cases_eq k i) [
        | inl same ↦ rw same (omega (arith, time-default samples i d no_sample here, after))
        | inr other ↦ omega (arith, rising k i d (omega arith) here, time-default samples i d no_sample here, after)
      ];
      later = λ k d le h. elim (cases_eq (i + 1) k) [
        | inl same ↦ rw (← same) (omega (arith, time-default samples (i + 1) d no_sample inside, before))
        | inr other ↦ omega (arith, rising (i + 1) k d (omega arith) h, time-default samples (i + 1) d no_sample inside, before)
      ];
    }

-- at a sample's time that sample is read, by either degree
pub read_sampled : (samples : List Sample) (degree t i : ℕ) → Rises samples → i < length samples → (get_or samples i no_sample).time ≡ t → read samples degree t ≡ (get_or samples i no_sample).field.values
read_sampled samples degree t i rising inside at =
    elim (cases_lt (length samples) 2) [
      | inl one ↦ read_only samples degree t no_sample (omega arith) ∙ ap (λ (n : ℕ). (get_or samples n no_sample).field.values) (omega arith)
      | inr long ↦ read_found samples degree t i no_sample long (place_at samples t i rising inside at) at
    ]

IsBetween-first : (a b : ℤ) → IsBetween a b a
IsBetween-first a b = by_lt_z a b (λ less. inl (omega (arith, ints), omega (arith, ints, less))) (λ more. inr (more, omega (arith, ints)))

IsBetween-last : (a b : ℤ) → IsBetween a b b
IsBetween-last a b = by_lt_z a b (λ less. inl (omega (arith, ints, less), omega (arith, ints))) (λ more. inr (omega (arith, ints), more))

abbrev at : Sample → ℕ → ℤ
at s k = get_or s.field.values k (pos 0)

read_between_line : (samples : List Sample) (n t i k : ℕ) → Rises samples → i + 1 < length samples
    → k < length (get_or samples i no_sample).field.values → k < length (get_or samples (i + 1) no_sample).field.values
    → (get_or samples i no_sample).time < t → t < (get_or samples (i + 1) no_sample).time → IsPlace samples t (i + 1)
    → IsBetween (at (get_or samples i no_sample) k) (at (get_or samples (i + 1) no_sample) k) (get_or (read samples (suc n) t) k (pos 0))
read_between_line samples n t i k rising inside in_first in_last after before place =
    let back : i + 1 - 1 ≡ i = omega arith in
    rw (
      read_line samples n t (i + 1) no_sample (omega arith) place rising before (omega arith),
      back,
      values_between-get_or (get_or samples i no_sample) (get_or samples (i + 1) no_sample) t k (pos 0) in_first in_last,
    )
    (component_between-IsBetween (get_or samples i no_sample).time (get_or samples (i + 1) no_sample).time t
    (at (get_or samples i no_sample) k) (at (get_or samples (i + 1) no_sample) k) (omega arith) (omega arith) (omega arith))

-- between two samples each component that is read lies between theirs
pub read_between : (samples : List Sample) (degree t i k : ℕ) → Rises samples → i + 1 < length samples
    → k < length (get_or samples i no_sample).field.values → k < length (get_or samples (i + 1) no_sample).field.values
    → (get_or samples i no_sample).time ≤ t → t ≤ (get_or samples (i + 1) no_sample).time
    → IsBetween (at (get_or samples i no_sample) k) (at (get_or samples (i + 1) no_sample) k) (get_or (read samples degree t) k (pos 0))
read_between samples degree t i k rising inside in_first in_last after before =
    let s0 = get_or samples i no_sample in
    let s1 = get_or samples (i + 1) no_sample in
    let first = at s0 k in
    let last = at s1 k in
    elim (cases_eq (get_or samples i no_sample).time t) [
      | inl same ↦ rw (read_sampled samples degree t i rising (omega arith) same) (IsBetween-first first last)
      | inr past ↦ elim (cases_eq (get_or samples (i + 1) no_sample).time t) [
        | inl same ↦ rw (read_sampled samples degree t (i + 1) rising inside same) (IsBetween-last first last)
        | inr short ↦
            let place = place_after samples t i rising inside (omega arith) before in
            elim degree as (λ n. IsBetween first last (get_or (read samples n t) k (pos 0))) [
              | zero ↦ rw (read_step samples t (i + 1) no_sample (omega arith) place) (IsBetween-last first last)
              | suc n ↦ read_between_line samples n t i k rising inside in_first in_last (omega arith) (omega arith) place
            ]
      ]
    ]

-- what a read gives at a sample's time
pub sampled : (samples : List Sample) (degree t i : ℕ) (values : List ℤ) → Rises samples → values ≡ read samples degree t
    → slice_get (times samples) i ≡ Some t → slice_get (value_lists samples) i ≡ Some values
sampled samples degree t i values rising are found =
    let inside : i < length samples = rw (length-map samples (λ (s : Sample). s.time)) at (slice_get_within (times samples) i t found) in
    let at : (get_or samples i no_sample).time ≡ t = sym (time-is samples i inside) ∙ get_or_from_slice_get (times samples) i t 0 found in
    slice_get-get_or (value_lists samples) i [] (rw (length-map samples (λ (s : Sample). s.field.values)) inside)
    ∙ ap Some (get_or-map (λ (s : Sample). s.field.values) samples i no_sample [] inside ∙ sym (are ∙ read_sampled samples degree t i rising inside at))

-- what a read gives between two samples
pub between : (samples : List Sample) (degree t i k : ℕ) (values : List ℤ) → Rises samples → All (λ (s : Sample). length s.field.values ≡ length values) samples
    → values ≡ read samples degree t → i + 1 < length samples → k < length values → get_or (times samples) i 0 ≤ t → t ≤ get_or (times samples) (i + 1) 0
    → IsBetween (component_of samples i k) (component_of samples (i + 1) k) (get_or values k (pos 0))
between samples degree t i k values rising long are inside within after before =
    let here : i < length samples = omega arith in
    let first : length (get_or samples i no_sample).field.values ≡ length values = long i no_sample here in
    let last : length (get_or samples (i + 1) no_sample).field.values ≡ length values = long (i + 1) no_sample inside in
    rw (component_of-is samples i k here, component_of-is samples (i + 1) k inside, are)
    (read_between samples degree t i k rising inside (omega arith) (omega arith) (omega (arith, after, time-is samples i here)) (omega (arith, before, time-is samples (i + 1) inside)))
