-- Where an iterate is undefined, and where it is not.
use Rattle.std.proofs.Common.{◌≡◌, ℕ, suc, ◌+◌, ◌^◌, ◌<◌, Option, None, Some, Ok, Err, List, [], ◌∷◌, ◌++◌, length, get_or, take, All, ℤ, unsigned_abs, inl, inr, arith, refl, sym, subst, ap, ◌∙◌}
use Rattle.std.specs.List.{enumerate_from, flat_map}
use Rattle.std.proofs.lemmas.Bool.{cases_lt}
use Rattle.std.proofs.lemmas.List.Elements.{All-cons, All-nil}
use Rattle.fixed_num.specs.Numbers.{IsValue}
use Rattle.waveform.specs.declared.sample.Sample.{Sample}
use Rattle.waveform.specs.IsWave.{times, value_lists}
use Rattle.acceleration.specs.Exchanged.{Exchanged}
use Rattle.acceleration.specs.RelaxerState.{RelaxerState}
use Rattle.acceleration.specs.Outside.{Location, located_sample, located_wave, located, first_outside}
use Rattle.acceleration.specs.Overflows.{IsInRange, IsFirstOutside, IsFirstOverflow}
use Rattle.acceleration.specs.RelaxedIterate.{Iterate, unless_outside, waves_of, relaxed_iterate}
use Rattle.acceleration.proofs.Locations.{first_outside-none, first_outside-some, first_outside-nil, first_outside-in, first_outside-out, locations_from}

none_some : {X : Type 0} (x : X) (P : Type 0) → None ≡ Some x → P
none_some x P e = absurd (cc)

-- what is first in two lists is first in the one, or in the other where the one has none
data InEither (a b : List (Location × ℤ)) (at : Location) : Type 0 where
  in_first : first_outside a ≡ Some at → InEither a b at
  in_second : first_outside a ≡ None → first_outside b ≡ Some at → InEither a b at

in_either : (a b : List (Location × ℤ)) (at : Location) → first_outside (a ++ b) ≡ Some at → InEither a b at
in_either a b at found = by (first_outside a) refl
  where
    by : (o : Option Location) → first_outside a ≡ o → InEither a b at
    by None none = in_second none (sym (first_outside-none a b none) ∙ found)
    by (Some other) some = (let both = sym (first_outside-some a b other some) ∙ found in in_first (some ∙ both))

record InNeither (a b : List (Location × ℤ)) : Type 0 where
  first : first_outside a ≡ None
  second : first_outside b ≡ None

in_neither : (a b : List (Location × ℤ)) → first_outside (a ++ b) ≡ None → InNeither a b
in_neither a b none = by (first_outside a) refl
  where
    by : (o : Option Location) → first_outside a ≡ o → InNeither a b
    by None first = record { first = first; second = sym (first_outside-none a b first) ∙ none }
    by (Some other) some = none_some other (InNeither a b) (sym none ∙ first_outside-some a b other some)

-- ---- the values of a field
record ValueFound (n place time : ℕ) (values : List ℤ) (at : Location) : Type 0 where
  k : ℕ
  first : IsFirstOutside values k
  is : record { place = place; time = time; component = n + k } ≡ at

value_found : (n place time : ℕ) (values : List ℤ) (at : Location) → first_outside (locations_from n place time values) ≡ Some at → ValueFound n place time values at
value_found n place time [] at found = none_some at (ValueFound n place time [] at) (sym first_outside-nil ∙ found)
value_found n place time (v ∷ values) at found =
    let here : Location = record { place = place; time = time; component = n } in
    elim (cases_lt (10 ^ 13) (unsigned_abs v)) [
      | inl over ↦
          let out : ¬ IsValue v = λ small. omega (arith, over, small) in
          let told = sym (first_outside-out (record { place = place; time = time; component = n }) v (locations_from (n + 1) place time values) out) ∙ found in
          let same : here ≡ at = some_is here at told in
          let none_more : n + 0 ≡ n = omega arith in
          record {
            k = 0;
            first = record { inside = omega arith; no_value = out; earlier = All-nil IsValue };
            is = ap (λ (c : ℕ). record { place = place; time = time; component = c }) none_more ∙ same;
          }
      | inr small ↦
          let rest = value_found (n + 1) place time values at (sym (first_outside-in (record { place = place; time = time; component = n }) v (locations_from (n + 1) place time values) small) ∙ found) in
          let further : n + suc rest.k ≡ n + 1 + rest.k = omega arith in
          record {
            k = suc rest.k;
            first = record {
              inside = omega (arith, rest.first.inside);
              no_value = rest.first.no_value;
              earlier = All-cons IsValue v (take rest.k values) small rest.first.earlier;
            };
            is = ap (λ (c : ℕ). record { place = place; time = time; component = c }) further ∙ rest.is;
          }
    ]
  where
    some_is : (x y : Location) → Some x ≡ Some y → x ≡ y
    some_is x y e = cc

values_in_range : (n place time : ℕ) (values : List ℤ) → first_outside (locations_from n place time values) ≡ None → All IsValue values
values_in_range n place time [] none = All-nil IsValue
values_in_range n place time (v ∷ values) none =
    elim (cases_lt (10 ^ 13) (unsigned_abs v)) [
      | inl over ↦
          let out : ¬ IsValue v = λ small. omega (arith, over, small) in
          none_some (record { place = place; time = time; component = n }) (All IsValue (v ∷ values))
          (sym none ∙ first_outside-out (record { place = place; time = time; component = n }) v (locations_from (n + 1) place time values) out)
      | inr small ↦
          All-cons IsValue v values small
          (values_in_range (n + 1) place time values (sym (first_outside-in (record { place = place; time = time; component = n }) v (locations_from (n + 1) place time values) small) ∙ none))
    ]

-- ---- the samples of a wave
record SampleFound (place : ℕ) (wave : List Sample) (at : Location) : Type 0 where
  i : ℕ
  inside : i < length wave
  at_place : place ≡ at.place
  at_time : get_or (times wave) i 0 ≡ at.time
  at_component : IsFirstOutside (get_or (value_lists wave) i []) at.component
  earlier : All IsInRange (take i wave)

sample_found : (place : ℕ) (wave : List Sample) (at : Location) → first_outside (located_wave place wave) ≡ Some at → SampleFound place wave at
sample_found place [] at found = none_some at (SampleFound place [] at) (sym first_outside-nil ∙ found)
sample_found place (s ∷ wave) at found =
    elim (in_either (located_sample place s) (located_wave place wave) at found) [
      | in_first here ↦
          let value = value_found 0 place s.time s.field.values at here in
          let all : 0 + value.k ≡ at.component = ap (λ (l : Location). l.component) value.is in
          let component : value.k ≡ at.component = omega (arith, all) in
          record {
            i = 0;
            inside = omega arith;
            at_place = ap (λ (l : Location). l.place) value.is;
            at_time = ap (λ (l : Location). l.time) value.is;
            at_component = subst (λ (k : ℕ). IsFirstOutside s.field.values k) component value.first;
            earlier = All-nil IsInRange;
          }
      | in_second none there ↦
          let rest = sample_found place wave at there in
          record {
            i = suc rest.i;
            inside = omega (arith, rest.inside);
            at_place = rest.at_place;
            at_time = rest.at_time;
            at_component = rest.at_component;
            earlier = All-cons IsInRange s (take rest.i wave) (values_in_range 0 place s.time s.field.values none) rest.earlier;
          }
    ]

samples_in_range : (place : ℕ) (wave : List Sample) → first_outside (located_wave place wave) ≡ None → All IsInRange wave
samples_in_range place [] none = All-nil IsInRange
samples_in_range place (s ∷ wave) none =
    let both = in_neither (located_sample place s) (located_wave place wave) none in
    All-cons IsInRange s wave (values_in_range 0 place s.time s.field.values both.first) (samples_in_range place wave both.second)

-- ---- the waves
abbrev located_from : ℕ → List (List Sample) → List (Location × ℤ)
located_from n waves = flat_map (λ (w : ℕ × List Sample). located_wave w.0 w.1) (enumerate_from n waves)

record WaveFound (n : ℕ) (waves : List (List Sample)) (at : Location) : Type 0 where
  p : ℕ
  inside : p < length waves
  found : SampleFound (n + p) (get_or waves p []) at
  earlier : All (All IsInRange) (take p waves)

wave_found : (n : ℕ) (waves : List (List Sample)) (at : Location) → first_outside (located_from n waves) ≡ Some at → WaveFound n waves at
wave_found n [] at found = none_some at (WaveFound n [] at) (sym first_outside-nil ∙ found)
wave_found n (w ∷ waves) at found =
    elim (in_either (located_wave n w) (located_from (n + 1) waves) at found) [
      | in_first here ↦
          let none_more : n ≡ n + 0 = omega arith in
          record {
            p = 0;
            inside = omega arith;
            found = subst (λ (k : ℕ). SampleFound k w at) none_more (sample_found n w at here);
            earlier = All-nil (All IsInRange);
          }
      | in_second none there ↦
          let rest = wave_found (n + 1) waves at there in
          let further : n + 1 + rest.p ≡ n + suc rest.p = omega arith in
          record {
            p = suc rest.p;
            inside = omega (arith, rest.inside);
            found = subst (λ (k : ℕ). SampleFound k (get_or waves rest.p []) at) further rest.found;
            earlier = All-cons (All IsInRange) w (take rest.p waves) (samples_in_range n w none) rest.earlier;
          }
    ]

waves_in_range : (n : ℕ) (waves : List (List Sample)) → first_outside (located_from n waves) ≡ None → All (All IsInRange) waves
waves_in_range n [] none = All-nil (All IsInRange)
waves_in_range n (w ∷ waves) none =
    let both = in_neither (located_wave n w) (located_from (n + 1) waves) none in
    All-cons (All IsInRange) w waves (samples_in_range n w both.first) (waves_in_range (n + 1) waves both.second)

first_overflow : (waves : List (List Sample)) (at : Location) → first_outside (located waves) ≡ Some at → IsFirstOverflow waves at
first_overflow waves at found =
    let wave = wave_found 0 waves at found in
    let place : wave.p ≡ at.place = let from : 0 + wave.p ≡ at.place = wave.found.at_place in omega (arith, from) in
    record {
      sample = wave.found.i;
      wave_inside = subst (λ (p : ℕ). p < length waves) place wave.inside;
      sample_inside = subst (λ (p : ℕ). wave.found.i < length (get_or waves p [])) place wave.found.inside;
      at_time = subst (λ (p : ℕ). get_or (times (get_or waves p [])) wave.found.i 0 ≡ at.time) place wave.found.at_time;
      at_component = subst (λ (p : ℕ). IsFirstOutside (get_or (value_lists (get_or waves p [])) wave.found.i []) at.component) place wave.found.at_component;
      earlier_samples = subst (λ (p : ℕ). All IsInRange (take wave.found.i (get_or waves p []))) place wave.found.earlier;
      earlier_waves = subst (λ (p : ℕ). All (All IsInRange) (take p waves)) place wave.earlier;
    }

-- ---- the iterate
undefined_is : (o : Option Location) (made : Iterate) (at : Location) → unless_outside o made ≡ Err at → o ≡ Some at
undefined_is None made at e = absurd (cc)
undefined_is (Some other) made at e = cc

record IsDefined (o : Option Location) (made iterate : Iterate) : Type 0 where
  none : o ≡ None
  same : made ≡ iterate

defined_is : (o : Option Location) (made iterate : Iterate) → unless_outside o made ≡ Ok iterate → IsDefined o made iterate
defined_is None made iterate e = record { none = refl; same = cc }
defined_is (Some other) made iterate e = absurd (cc)

pub iterate-undefined : (state : RelaxerState) (exchanges : List Exchanged) (at : Location) → relaxed_iterate state exchanges ≡ Err at → IsFirstOverflow (waves_of state exchanges) at
unfolding relaxed_iterate
iterate-undefined state exchanges at undefined =
    first_overflow (waves_of state exchanges) at (undefined_is (first_outside (located (waves_of state exchanges))) _ at undefined)

pub iterate-waves : (state : RelaxerState) (exchanges : List Exchanged) (iterate : Iterate) → relaxed_iterate state exchanges ≡ Ok iterate → iterate.waves ≡ waves_of state exchanges
unfolding relaxed_iterate
iterate-waves state exchanges iterate defined =
    sym (ap (λ (made : Iterate). made.waves) (defined_is (first_outside (located (waves_of state exchanges))) _ iterate defined).same)

pub iterate-in_range : (state : RelaxerState) (exchanges : List Exchanged) (iterate : Iterate) → relaxed_iterate state exchanges ≡ Ok iterate → All (All IsInRange) iterate.waves
unfolding relaxed_iterate
iterate-in_range state exchanges iterate defined =
    let is = defined_is (first_outside (located (waves_of state exchanges))) _ iterate defined in
    subst (λ (made : Iterate). All (All IsInRange) made.waves) is.same (waves_in_range 0 (waves_of state exchanges) is.none)
