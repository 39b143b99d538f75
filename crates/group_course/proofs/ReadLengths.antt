-- How many values are read of a wave at a time.
use Rattle.std.proofs.Common.{◌≡◌, ℕ, zero, suc, ◌-◌, ◌<◌, ◌≤◌, ◌⊎◌, inl, inr, Bool, true, false, cond, eqb, ltb, leb, List, [], ◌∷◌, length, get_or, reverse, Option, Some, None, All, arith, refl, ap, sym, subst, ◌∙◌}
use Rattle.std.specs.List.{find, zip}
use Rattle.std.specs.Option.{option_map_or}
use Rattle.std.proofs.lemmas.Bool.{cases_Bool, cases_eq, lt-ltb, le-leb, eq-eqb}
use Rattle.std.proofs.lemmas.Option.{none-some, same_Some}
use Rattle.std.proofs.lemmas.List.{length-map, length-reverse, get_or-map, get_or-reverse}
use Rattle.std.proofs.lemmas.List.Elements.{All-head, All-tail}
use Rattle.std.proofs.lemmas.Slice.Zip.{length-zip}
use Rattle.waveform.specs.declared.sample.Sample.{Sample}
use Rattle.waveform.specs.IsWave.{first_time, last_time}
use Rattle.waveform.specs.WaveValue.{read, values_of, step_at, line_at, sample_at, sample_from, sample_before, between_neighbours, values_between, component_between}

-- what is found is one of the samples, and what passes is found
found_has : (P : Sample → Type 0) (p : Sample → Bool) (xs : List Sample) (s : Sample) → find p xs ≡ Some s → All P xs → P s
found_has P p [] s is all = absurd (none-some s is)
found_has P p (x ∷ xs) s is all = elim (cases_Bool (p x)) [
  | inl passes ↦ subst P (same_Some x s (sym (ap (λ b. cond b (Some x) (find p xs)) passes) ∙ is)) (All-head P x xs all)
  | inr fails ↦ found_has P p xs s (sym (ap (λ b. cond b (Some x) (find p xs)) fails) ∙ is) (All-tail P x xs all)
]

finds : (p : Sample → Bool) (xs : List Sample) (i : ℕ) (d : Sample) → i < length xs → p (get_or xs i d) ≡ true → (s : Sample) × (find p xs ≡ Some s)
finds p [] i d inside passes = absurd (omega (arith, inside))
finds p (x ∷ xs) zero d inside passes = (x, ap (λ b. cond b (Some x) (find p xs)) passes)
finds p (x ∷ xs) (suc i) d inside passes = elim (cases_Bool (p x)) [
  | inl here ↦ (x, ap (λ b. cond b (Some x) (find p xs)) here)
  | inr fails ↦
      let rest = finds p xs i d (omega (arith, inside)) passes in (rest.0, ap (λ b. cond b (Some x) (find p xs)) fails ∙ rest.1)
]

abbrev HasMany : (n : ℕ) → Sample → Type 0
HasMany n s = length s.field.values ≡ n

between-length : (n : ℕ) (before after : Sample) (t : ℕ) → HasMany n before → HasMany n after → length (values_between before after t) ≡ n
unfolding values_between
between-length n before after t one other =
    length-map (zip before.field.values after.field.values) (λ v. component_between before.time after.time t v.0 v.1)
    ∙ length-zip before.field.values after.field.values ∙ omega (arith, one, other)

module _ (samples : List Sample) (t n : ℕ) (d : Sample) (some : 1 ≤ length samples) (all : All (HasMany n) samples) (first : (get_or samples 0 d).time ≤ t) (last : t ≤ (get_or samples (length samples - 1) d).time) where
  from : (s : Sample) × (sample_from samples t ≡ Some s)
  from = finds (λ s. leb t s.time) samples (length samples - 1) d (omega (arith, some)) (le-leb t (get_or samples (length samples - 1) d).time last)

  step-length : length (step_at samples t) ≡ n
  step-length =
      let s = from in
      ap (λ (o : Option Sample). length (option_map_or values_of o [])) s.1 ∙ found_has (HasMany n) (λ z. leb t z.time) samples s.0 s.1 all

  -- where no sample is at t the first one is before it
  before : sample_at samples t ≡ None → (s : Sample) × (sample_before samples t ≡ Some s)
  before none =
      let less : (get_or samples 0 d).time < t = elim (cases_eq (get_or samples 0 d).time t) [
        | inl at ↦
            let one = finds (λ s. eqb s.time t) samples 0 d (omega (arith, some)) (eq-eqb (get_or samples 0 d).time t at) in
            absurd (none-some one.0 (sym none ∙ one.1))
        | inr other ↦ omega (arith, first, other)
      ] in
      let here : get_or (reverse samples) (length samples - 1) d ≡ get_or samples 0 d =
      get_or-reverse samples (length samples - 1) d (omega (arith, some)) ∙ ap (λ (k : ℕ). get_or samples k d) (omega (arith, some)) in
      finds (λ s. ltb s.time t) (reverse samples) (length samples - 1) d (omega (arith, some, length-reverse samples))
      (lt-ltb (get_or (reverse samples) (length samples - 1) d).time t (omega (arith, less, ap (λ (s : Sample). s.time) here)))

  line-length : length (line_at samples t) ≡ n
  line-length = of (sample_at samples t) refl
    where
      reversed : All (HasMany n) (reverse samples)
      reversed = λ k e inside.
          let within : k < length samples = omega (arith, inside, length-reverse samples) in
          subst (HasMany n) (sym (get_or-reverse samples k e within)) (all (length samples - 1 - k) e (omega (arith, within)))

      of : (o : Option Sample) → sample_at samples t ≡ o → length (option_map_or values_of o (between_neighbours (sample_before samples t) (sample_from samples t) t)) ≡ n
      of (Some s) is = found_has (HasMany n) (λ z. eqb z.time t) samples s is all
      of None is =
          let b = before is in
          let a = from in
          ap (λ (o : Option Sample). length (between_neighbours o (sample_from samples t) t)) b.1
          ∙ ap (λ (o : Option Sample). length (between_neighbours (Some b.0) o t)) a.1
          ∙ between-length n b.0 a.0 t (found_has (HasMany n) (λ z. ltb z.time t) (reverse samples) b.0 b.1 reversed) (found_has (HasMany n) (λ z. leb t z.time) samples a.0 a.1 all)

-- as many as each sample has
pub read-length : (samples : List Sample) (degree t n : ℕ) → 1 ≤ length samples → All (λ (s : Sample). length s.field.values ≡ n) samples
    → (length samples ≡ 1) ⊎ ((first_time samples ≤ t) × (t ≤ last_time samples)) → length (read samples degree t) ≡ n
unfolding read
read-length [] degree t n some all covered = absurd (omega (arith, some))
read-length (s ∷ []) degree t n some all covered = all 0 s (omega arith)
read-length (s ∷ r ∷ more) degree t n some all (inl one) = absurd (omega (arith, one))
read-length (s ∷ r ∷ more) degree t n some all (inr covers) =
    let samples = s ∷ r ∷ more in
    let end : last_time samples ≡ (get_or samples (length samples - 1) s).time = get_or-map (λ (z : Sample). z.time) samples (length samples - 1) s 0 (omega arith) in
    let last : t ≤ (get_or samples (length samples - 1) s).time = omega (arith, end, covers.1) in
    elim (eqb degree 0) as (λ b. length (cond b (step_at samples t) (line_at samples t)) ≡ n) [
      | true ↦ step-length samples t n s some all covers.0 last
      | false ↦ line-length samples t n s some all covers.0 last
    ]
