-- What is read of a wave of fitting samples has as many values, each of them a Value.
use Rattle.std.proofs.Common.{◌≡◌, ◌⊎◌, inl, inr, ℕ, ◌-◌, ◌<◌, ◌≤◌, Bool, true, false, nat_eq, nat_lt, nat_le, if◌then◌else◌, List, [], ◌∷◌, length, get_or, reverse, min, find, Option, Some, None, Contains, ℤ, refl, ap, sym, subst, ◌∙◌, arith}
use Rattle.std.specs.Option.{option_map_or}
use Rattle.std.proofs.lemmas.Bool.{ltb-true, leb-true, ltb-false, eqb-false, false≢true, le-leb}
use Rattle.std.proofs.lemmas.List.{length-reverse, get_or-map, get_or-reverse}
use Rattle.std.proofs.lemmas.List.Elements.{All-contains, Contains-get_or}
use Rattle.plan_order.proofs.Loops.{head_in, tail_in, in_cons}
use Rattle.plan_order.proofs.Orders.{none_in_nil}
use Rattle.fixed_num.specs.Numbers.{IsValue}
use Rattle.waveform.specs.declared.sample.Sample.{Sample}
use Rattle.waveform.specs.IsWave.{first_time, last_time}
use Rattle.waveform.specs.WaveValue.{sample_at, sample_from, sample_before, component_between, values_between, values_of, between_neighbours, step_at, line_at, read}
use Rattle.waveform.proofs.Lines.{component_between-IsBetween, IsValue-between, values_between-get_or, length-values_between}
use Rattle.waveform.proofs.Places.{no_sample}
use Rattle.wave_coupling.specs.Posts.{Wave}
use Rattle.wave_laws.specs.Fitting.{IsSampleOf, AreSamplesOf, IsInputWave, AreValues}

found_in : {X : Type 0} (test : X → Bool) (xs : List X) (x : X) → find test xs ≡ Some x → Contains xs x × (test x ≡ true)
found_in test [] x is = absurd (none_is x is)
  where
    none_is : {X : Type 0} (x : X) → None ≡ Some x → ⊥
    none_is x e = cc
found_in {X} test (y ∷ xs) x is = by (test y) refl is (λ rest. found_in test xs x rest)
  where
    by : (b : Bool) → test y ≡ b → (if b then Some y else find test xs) ≡ Some x → (find test xs ≡ Some x → Contains xs x × (test x ≡ true)) → Contains (y ∷ xs) x × (test x ≡ true)
    by true e found further = let same : y ≡ x = cc in subst (λ (z : X). Contains (y ∷ xs) z × (test z ≡ true)) same (head_in y xs, e)
    by false e found further = let rest = further found in (tail_in y xs x rest.0, rest.1)

pub not_found : {X : Type 0} (test : X → Bool) (xs : List X) (x : X) → find test xs ≡ None → Contains xs x → test x ≡ false
not_found test [] x is inside = absurd (none_in_nil x inside)
not_found {X} test (y ∷ xs) x is inside = by (test y) refl is (λ none further. not_found test xs x none further)
  where
    by : (b : Bool) → test y ≡ b → (if b then Some y else find test xs) ≡ None → (find test xs ≡ None → Contains xs x → test x ≡ false) → test x ≡ false
    by true e found further = cc
    by false e found further = elim (in_cons y xs x inside) [
      | inl same ↦ subst (λ (z : X). test z ≡ false) same e
      | inr rest ↦ further found rest
    ]

turned_in : {X : Type 0} (xs : List X) (x : X) → Contains (reverse xs) x → Contains xs x
turned_in xs x inside =
    let within : inside.0 < length xs = omega (arith, inside.1, length-reverse xs) in
    subst (λ z. Contains xs z) (sym (get_or-reverse xs inside.0 x within) ∙ inside.2) (Contains-get_or xs (length xs - 1 - inside.0) x (omega (arith, within)))

in_turned : {X : Type 0} (xs : List X) (x : X) → Contains xs x → Contains (reverse xs) x
in_turned xs x inside =
    let within : length xs - 1 - inside.0 < length xs = omega (arith, inside.1) in
    let back : length xs - 1 - (length xs - 1 - inside.0) ≡ inside.0 = omega (arith, inside.1) in
    subst (λ z. Contains (reverse xs) z) (get_or-reverse xs (length xs - 1 - inside.0) x within ∙ ap (λ (i : ℕ). get_or xs i x) back ∙ inside.2)
    (Contains-get_or (reverse xs) (length xs - 1 - inside.0) x (omega (arith, within, length-reverse xs)))

-- the first and the last sample
pub first_there : (wave : Wave) → 1 ≤ length wave → (s : Sample) × Contains wave s × (s.time ≡ first_time wave)
first_there wave least =
    (get_or wave 0 no_sample, Contains-get_or wave 0 no_sample least, sym (get_or-map (λ (s : Sample). s.time) wave 0 no_sample 0 least))

pub last_there : (wave : Wave) → 1 ≤ length wave → (s : Sample) × Contains wave s × (s.time ≡ last_time wave)
last_there wave least =
    let within : length wave - 1 < length wave = omega (arith, least) in
    (get_or wave (length wave - 1) no_sample, Contains-get_or wave (length wave - 1) no_sample within, sym (get_or-map (λ (s : Sample). s.time) wave (length wave - 1) no_sample 0 within))

-- a wave has a value at a time: it is constant, or the time lies between two of its samples
abbrev pub IsReadAt : Wave → ℕ → Type 0
IsReadAt wave t =
    (length wave ≡ 1) ⊎ (((s : Sample) × Contains wave s × (s.time ≤ t)) × ((s : Sample) × Contains wave s × (t ≤ s.time)))

values_are : (components count : ℕ) (sample : Sample) → IsSampleOf components count sample → AreValues count sample.field.values
values_are components count sample is = record { in_all = is.in_all; each = is.values }

between_are : (components count : ℕ) (before after : Sample) (t : ℕ) → IsSampleOf components count before → IsSampleOf components count after → before.time < t → t ≤ after.time
    → AreValues count (values_between before after t)
between_are components count before after t is_before is_after low high =
    let same : min (length before.field.values) (length after.field.values) ≡ count = omega (arith, is_before.in_all, is_after.in_all) in
    let in_all = length-values_between before after t ∙ same in
    record {
      in_all = in_all;
      each = λ i d within.
          let one : i < length before.field.values = omega (arith, within, in_all, is_before.in_all) in
          let other : i < length after.field.values = omega (arith, within, in_all, is_after.in_all) in
          subst (λ (v : ℤ). IsValue v) (sym (values_between-get_or before after t i d one other))
          (IsValue-between (get_or before.field.values i d) (get_or after.field.values i d)
          (component_between before.time after.time t (get_or before.field.values i d) (get_or after.field.values i d))
          (component_between-IsBetween before.time after.time t (get_or before.field.values i d) (get_or after.field.values i d) (omega (arith, low)) high (omega (arith, low, high)))
          (is_before.values i d one) (is_after.values i d other));
    }

module _ (components count : ℕ) (wave : Wave) (samples : AreSamplesOf components count wave) (t : ℕ) where
  sample_are : (s : Sample) → Contains wave s → AreValues count s.field.values
  sample_are s inside = values_are components count s (All-contains (IsSampleOf components count) wave s samples inside)

  module _ (lower : (s : Sample) × Contains wave s × (s.time ≤ t)) (upper : (s : Sample) × Contains wave s × (t ≤ s.time)) where
    from_there : (o : Option Sample) → sample_from wave t ≡ o → (s : Sample) × (o ≡ Some s) × Contains wave s × (t ≤ s.time)
    from_there None is = absurd (false≢true (sym (not_found (λ (s : Sample). nat_le t s.time) wave upper.0 is upper.1) ∙ le-leb t upper.0.time upper.2))
    from_there (Some s) is = let found = found_in (λ (s : Sample). nat_le t s.time) wave s is in (s, refl, found.0, leb-true t s.time found.1)

    before_there : (o : Option Sample) → sample_before wave t ≡ o → sample_at wave t ≡ None → (s : Sample) × (o ≡ Some s) × Contains wave s × (s.time < t)
    before_there None is none =
        let other = eqb-false lower.0.time t (not_found (λ (s : Sample). nat_eq s.time t) wave lower.0 none lower.1) in
        let past = ltb-false lower.0.time t (not_found (λ (s : Sample). nat_lt s.time t) (reverse wave) lower.0 is (in_turned wave lower.0 lower.1)) in
        let same : lower.0.time ≡ t = omega (arith, past, lower.2) in
        absurd (other same)
    before_there (Some s) is none =
        let found = found_in (λ (s : Sample). nat_lt s.time t) (reverse wave) s is in (s, refl, turned_in wave s found.0, ltb-true s.time t found.1)

    step_are : AreValues count (step_at wave t)
    step_are =
        let found = from_there (sample_from wave t) refl in
        subst (λ (o : Option Sample). AreValues count (option_map_or values_of o [])) (sym found.1) (sample_are found.0 found.2)

    neighbours_are : sample_at wave t ≡ None → AreValues count (between_neighbours (sample_before wave t) (sample_from wave t) t)
    neighbours_are none =
        let before = before_there (sample_before wave t) refl none in
        let after = from_there (sample_from wave t) refl in
        subst (λ (o : Option Sample). AreValues count (between_neighbours o (sample_from wave t) t)) (sym before.1)
        (subst (λ (o : Option Sample). AreValues count (between_neighbours (Some before.0) o t)) (sym after.1)
        (between_are components count before.0 after.0 t (All-contains (IsSampleOf components count) wave before.0 samples before.2)
        (All-contains (IsSampleOf components count) wave after.0 samples after.2) before.3 after.3))

    line_by : (o : Option Sample) → sample_at wave t ≡ o → AreValues count (option_map_or values_of o (between_neighbours (sample_before wave t) (sample_from wave t) t))
    line_by None is = neighbours_are is
    line_by (Some s) is = sample_are s (found_in (λ (s : Sample). nat_eq s.time t) wave s is).0

-- what is read
pub read_are : (components count : ℕ) (wave : Wave) (degree t : ℕ) → AreSamplesOf components count wave → 1 ≤ length wave → IsReadAt wave t → AreValues count (read wave degree t)
unfolding read
read_are components count [] degree t samples least at = absurd (omega (arith, least))
read_are components count (s ∷ []) degree t samples least at = sample_are components count (s ∷ []) samples t s (head_in s [])
read_are components count (s ∷ r ∷ more) degree t samples least (inl one) = absurd (omega (arith, one))
read_are components count (s ∷ r ∷ more) degree t samples least (inr (lower, upper)) =
    elim (nat_eq degree 0) as (λ b. AreValues count (if b then step_at (s ∷ r ∷ more) t else line_at (s ∷ r ∷ more) t)) [
      | true ↦ step_are components count (s ∷ r ∷ more) samples t lower upper
      | false ↦ line_by components count (s ∷ r ∷ more) samples t lower upper (sample_at (s ∷ r ∷ more) t) refl
    ]

-- an input has a value at each time from its first to its last
pub input_read_at : (start end components count : ℕ) (wave : Wave) (t : ℕ) → IsInputWave start end components count wave → start ≤ t → t ≤ end → IsReadAt wave t
input_read_at start end components count wave t is low high =
    elim is.at_end [
      | inl one ↦ inl one
      | inr last ↦
          let first_one = first_there wave is.least in
          let last_one = last_there wave is.least in
          inr ((first_one.0, first_one.1, omega (arith, low, first_one.2, is.at_start)), (last_one.0, last_one.1, omega (arith, high, last_one.2, last)))
    ]
