-- The relaxed iterate, from what its parts are.
use Rattle.std.proofs.Common.{◌≡◌, ◌≢◌, ℕ, Option, Some, None, Result, Ok, Err, List, ℤ, sym, ap, ◌∙◌}
use Rattle.waveform.specs.declared.sample.Sample.{Sample}
use Rattle.acceleration.specs.declared.error.AccErr.{AccErr}
use Rattle.acceleration.specs.declared.error.AccErr.TheVariants.{Overflow, Memory}
use Rattle.acceleration.specs.declared.residual.Remembered.{Remembered}
use Rattle.acceleration.specs.Exchanged.{Exchanged}
use Rattle.acceleration.specs.Residual.{residual}
use Rattle.acceleration.specs.RelaxerState.{RelaxerState}
use Rattle.acceleration.specs.Factors.{factor_by, memory_by}
use Rattle.acceleration.specs.RelaxedWaves.{relaxed_waves}
use Rattle.acceleration.specs.Outside.{Location, located, first_outside}
use Rattle.acceleration.specs.RelaxedIterate.{Iterate, unless_outside, relaxed_iterate}
use Rattle.acceleration.specs.Causes.{Tells}

-- defined where no value is out of range
pub iterate_defined : (state : RelaxerState) (exchanges : List Exchanged) (factor : ℤ) (waves : List (List Sample)) (memory : Option Remembered)
    → factor ≡ factor_by state.method state.memory (residual exchanges) → waves ≡ relaxed_waves factor exchanges → memory ≡ memory_by state.method state.memory (residual exchanges)
    → first_outside (located (relaxed_waves factor exchanges)) ≡ None
    → relaxed_iterate state exchanges ≡ Ok (record { waves = waves; next = record { method = state.method; memory = memory } })
unfolding relaxed_iterate
iterate_defined state exchanges factor waves memory is_factor is_waves is_memory inside =
    let made = relaxed_waves (factor_by state.method state.memory (residual exchanges)) exchanges in
    let next : RelaxerState = record { method = state.method; memory = memory_by state.method state.memory (residual exchanges) } in
    let same : relaxed_waves factor exchanges ≡ made = ap (λ (f : ℤ). relaxed_waves f exchanges) is_factor in
    ap (λ (o : Option Location). unless_outside o (record { waves = made; next = next })) (ap (λ (ws : List (List Sample)). first_outside (located ws)) (sym same) ∙ inside)
    ∙ ap (λ (ws : List (List Sample)). unless_outside None (record { waves = ws; next = next })) (sym same ∙ sym is_waves)
    ∙ ap (λ (m : Option Remembered). unless_outside None (record { waves = waves; next = record { method = state.method; memory = m } })) (sym is_memory)

-- undefined at the first that is
pub iterate_outside : (state : RelaxerState) (exchanges : List Exchanged) (factor : ℤ) (location : Location)
    → factor ≡ factor_by state.method state.memory (residual exchanges) → first_outside (located (relaxed_waves factor exchanges)) ≡ Some location
    → relaxed_iterate state exchanges ≡ Err location
unfolding relaxed_iterate
iterate_outside state exchanges factor location is_factor outside =
    let made = relaxed_waves (factor_by state.method state.memory (residual exchanges)) exchanges in
    let same : relaxed_waves factor exchanges ≡ made = ap (λ (f : ℤ). relaxed_waves f exchanges) is_factor in
    ap (λ (o : Option Location). unless_outside o (record { waves = made; next = record { method = state.method; memory = memory_by state.method state.memory (residual exchanges) } }))
    (ap (λ (ws : List (List Sample)). first_outside (located ws)) (sym same) ∙ outside)

abbrev location_at : (place time component : ℕ) → Location
location_at place time component = record { place = place; time = time; component = component }

-- an error names the location exactly where it is undefined there
pub names_location : {X : Type 0} (result : Result X AccErr) (iterate : Result Iterate Location) (first : Option Location) (error : AccErr) → result ≡ Err error
    → Tells first error → ((location : Location) → first ≡ Some location → iterate ≡ Err location) → result ≢ Err Memory → (place time component : ℕ)
    → (result ≡ Err (Overflow place time component) → iterate ≡ Err (record { place = place; time = time; component = component }))
    × (iterate ≡ Err (record { place = place; time = time; component = component }) → result ≡ Err (Overflow place time component))
names_location result iterate first Memory is told on some = λ place time component. absurd (some is)
names_location result iterate first (Overflow p t k) is told on some = λ place time component.
    let at = on (record { place = p; time = t; component = k }) told in (
      λ same. cc,
      λ same.
          let locations : location_at p t k ≡ location_at place time component = cc in
          let a : p ≡ place = ap (λ (s : Location). s.place) locations in
          let b : t ≡ time = ap (λ (s : Location). s.time) locations in
          let d : k ≡ component = ap (λ (s : Location). s.component) locations in
          cc,
    )

-- and none where it is defined
pub names_none : {X : Type 0} (result : Result X AccErr) (iterate : Result Iterate Location) (x : X) (made : Iterate) → result ≡ Ok x → iterate ≡ Ok made → (place time component : ℕ)
    → (result ≡ Err (Overflow place time component) → iterate ≡ Err (record { place = place; time = time; component = component }))
    × (iterate ≡ Err (record { place = place; time = time; component = component }) → result ≡ Err (Overflow place time component))
names_none result iterate x made is defined = λ place time component. (λ same. cc, λ same. cc)
