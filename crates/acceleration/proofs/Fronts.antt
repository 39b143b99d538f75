-- A relaxed wave, sample by sample: what stands of it so far, and one sample more.
use Rattle.std.proofs.Common.{◌≡◌, ℕ, ◌+◌, ◌-◌, ◌<◌, ◌≤◌, Some, None, List, [], ◌∷◌, ◌++◌, length, get_or, take, drop, All, ℤ, inl, inr, arith, refl, sym, subst, ap, ◌∙◌}
use Rattle.std.specs.List.{slice_get}
use Rattle.std.proofs.lemmas.List.{length-map, length_push, get_or-map, get_or_push, map_push, take_more, flat_map_more, length-take-le, get_or_default, take-append-drop}
use Rattle.std.proofs.lemmas.Bool.{cases_lt, cases_eq}
use Rattle.std.proofs.lemmas.List.Concat.{flat_map-append}
use Rattle.std.proofs.lemmas.List.Elements.{All-push, All-same}
use Rattle.std.proofs.lemmas.Option.{get_or_from_slice_get, slice_get-get_or}
use Rattle.waveform.specs.declared.field.Field.{Field}
use Rattle.waveform.specs.declared.sample.Sample.{Sample}
use Rattle.waveform.specs.IsWave.{IsWave, times, fields, last_time}
use Rattle.waveform.specs.Shape.{IsLike}
use Rattle.waveform.specs.WaveValue.{read}
use Rattle.acceleration.specs.Exchanged.{Exchanged}
use Rattle.acceleration.specs.RelaxedWaves.{relaxed_values, relaxed_sample, relaxed_wave}
use Rattle.acceleration.specs.Outside.{Location, located_sample, located_wave, first_outside}
use Rattle.acceleration.proofs.Locations.{first_outside-none, first_outside-some}
use Rattle.acceleration.proofs.Widths.{no_sample, field_at, time_at}

-- the field that was posted, relaxed, makes sample i of the relaxed wave
pub sample_made : (factor : ℤ) (e : Exchanged) (i t : ℕ) (field made : Field) → i < length e.posted → slice_get (times e.posted) i ≡ Some t → slice_get (fields e.posted) i ≡ Some field
    → made.components ≡ field.components → made.values ≡ relaxed_values factor (read e.taken e.degree t) field.values
    → slice_get (relaxed_wave factor e) i ≡ Some (record { time = t; field = made })
sample_made factor e i t field made inside time is components values =
    let s : Sample = get_or e.posted i no_sample in
    let none : Sample = relaxed_sample factor e no_sample in
    slice_get-get_or (relaxed_wave factor e) i none (rw length-map inside)
    ∙ ap Some (
    get_or-map (relaxed_sample factor e) e.posted i no_sample none inside
    ∙ ap (λ (n : ℕ). record { time = n; field = record { components = s.field.components; values = relaxed_values factor (read e.taken e.degree n) s.field.values } }) (time_at e.posted i t time)
    ∙ ap (λ (f : Field). record { time = t; field = record { components = f.components; values = relaxed_values factor (read e.taken e.degree t) f.values } }) (field_at e.posted i field is)
    ∙ ap (λ (n : ℕ). record { time = t; field = record { components = n; values = relaxed_values factor (read e.taken e.degree t) field.values } }) (sym components)
    ∙ ap (λ (v : List ℤ). record { time = t; field = record { components = made.components; values = v } }) (sym values)
    )

-- a field of the shape of one posted field is of the shape of all
pub like_all : (posted : List Sample) (i : ℕ) (field made : Field) → IsWave posted → i < length posted → slice_get (fields posted) i ≡ Some field → IsLike made field
    → All (λ (y : Sample). IsLike made y.field) posted
like_all posted i field made wave inside found like = λ k d within.
    let is : (get_or posted i d).field ≡ field = ap (λ (s : Sample). s.field) (get_or_default posted i d no_sample inside) ∙ field_at posted i field found in
    let pair : IsLike (get_or posted i d).field (get_or posted k d).field = elim (cases_lt i k) [
      | inl before ↦ wave.alike i k d before within
      | inr past ↦ elim (cases_eq k i) [
        | inl same ↦ rw same (record { components = refl; len = refl })
        | inr other ↦
            let turned = wave.alike k i d (omega arith) inside in
            record { components = sym turned.components; len = sym turned.len }
      ]
    ] in
    let same = subst (λ (f : Field). IsLike f (get_or posted k d).field) is pair in
    record { components = like.components ∙ same.components; len = like.len ∙ same.len }

-- the first i samples, all in range
pub record IsFront (factor : ℤ) (place i : ℕ) (e : Exchanged) (wave : List Sample) : Type 0 where
  pub made : wave ≡ take i (relaxed_wave factor e)
  pub inside : first_outside (located_wave place wave) ≡ None
  pub ends : last_time wave ≡ (get_or e.posted (i - 1) no_sample).time
  pub alike : All (λ (s : Sample). All (λ (y : Sample). IsLike s.field y.field) e.posted) wave

front_more : (factor : ℤ) (e : Exchanged) (i : ℕ) (s : Sample) → i < length e.posted → slice_get (relaxed_wave factor e) i ≡ Some s
    → take (i + 1) (relaxed_wave factor e) ≡ take i (relaxed_wave factor e) ++ s ∷ []
front_more factor e i s inside found =
    take_more (relaxed_wave factor e) i s (rw length-map inside)
    ∙ ap (λ (x : Sample). take i (relaxed_wave factor e) ++ x ∷ []) (get_or_from_slice_get (relaxed_wave factor e) i s s found)

-- its time is that of the posted sample
time_of : (factor : ℤ) (e : Exchanged) (i : ℕ) (s : Sample) → i < length e.posted → slice_get (relaxed_wave factor e) i ≡ Some s → s.time ≡ (get_or e.posted i no_sample).time
time_of factor e i s inside found =
    ap (λ (x : Sample). x.time) (
    sym (get_or_from_slice_get (relaxed_wave factor e) i s s found)
    ∙ get_or-map (relaxed_sample factor e) e.posted i no_sample s inside
    )

locations_push : (place : ℕ) (wave : List Sample) (s : Sample) → located_wave place (wave ++ s ∷ []) ≡ located_wave place wave ++ located_sample place s
locations_push place wave s = sym (flat_map_more (located_sample place) [] wave s)

last_time-push : (wave : List Sample) (s : Sample) → last_time (wave ++ s ∷ []) ≡ s.time
last_time-push wave s =
    let n : length (wave ++ s ∷ []) - 1 ≡ length wave = rw (length_push wave s) (omega arith) in
    ap (λ (k : ℕ). get_or (times (wave ++ s ∷ [])) k 0) n
    ∙ ap (λ (xs : List ℕ). get_or xs (length wave) 0) (map_push (λ (x : Sample). x.time) wave s)
    ∙ get_or_push (times wave) s.time 0 (length wave) (length-map wave (λ (x : Sample). x.time))

-- the first sample
pub IsFront-first : (factor : ℤ) (place : ℕ) (e : Exchanged) (s : Sample) (wave : List Sample) → 0 < length e.posted → slice_get (relaxed_wave factor e) 0 ≡ Some s
    → All (λ (y : Sample). IsLike s.field y.field) e.posted → first_outside (located_sample place s) ≡ None → wave ≡ s ∷ [] → IsFront factor place 1 e wave
IsFront-first factor place e s wave some found alike inside is =
    record {
      made = is ∙ sym (front_more factor e 0 s some found);
      inside = ap (λ (w : List Sample). first_outside (located_wave place w)) (is ∙ refl)
          ∙ ap first_outside (locations_push place [] s) ∙ inside;
      ends = ap last_time is ∙ last_time-push [] s ∙ time_of factor e 0 s some found;
      alike = All-same (λ (x : Sample). All (λ (y : Sample). IsLike x.field y.field) e.posted) wave (s ∷ []) is
          (All-push (λ (x : Sample). All (λ (y : Sample). IsLike x.field y.field) e.posted) [] s (λ k d none. absurd (omega arith)) alike);
    }

-- one sample more
pub IsFront-next : (factor : ℤ) (place i : ℕ) (e : Exchanged) (s : Sample) (wave more : List Sample) → i < length e.posted → slice_get (relaxed_wave factor e) i ≡ Some s
    → All (λ (y : Sample). IsLike s.field y.field) e.posted → first_outside (located_sample place s) ≡ None → more ≡ wave ++ s ∷ []
    → IsFront factor place i e wave → IsFront factor place (i + 1) e more
IsFront-next factor place i e s wave more some found alike inside is front =
    let back : i ≡ i + 1 - 1 = omega arith in
    record {
      made = is ∙ ap (λ (w : List Sample). w ++ s ∷ []) front.made ∙ sym (front_more factor e i s some found);
      inside = ap (λ (w : List Sample). first_outside (located_wave place w)) is
          ∙ ap first_outside (locations_push place wave s)
          ∙ first_outside-none (located_wave place wave) (located_sample place s) front.inside ∙ inside;
      ends = ap last_time is ∙ last_time-push wave s ∙ time_of factor e i s some found ∙ ap (λ (n : ℕ). (get_or e.posted n no_sample).time) back;
      alike = All-same (λ (x : Sample). All (λ (y : Sample). IsLike x.field y.field) e.posted) more (wave ++ s ∷ []) is
          (All-push (λ (x : Sample). All (λ (y : Sample). IsLike x.field y.field) e.posted) wave s front.alike alike);
    }

-- the sample comes after the wave so far
pub later : (factor : ℤ) (place i : ℕ) (e : Exchanged) (s : Sample) (wave : List Sample) → IsWave e.posted → 0 < i → i < length e.posted → slice_get (relaxed_wave factor e) i ≡ Some s
    → IsFront factor place i e wave → last_time wave < s.time
later factor place i e s wave posted some inside found front =
    let rises = posted.rising (i - 1) i no_sample (omega arith) inside in
    omega (arith, front.ends, time_of factor e i s inside found, rises)

-- and is of the shape of its samples
pub like_front : (factor : ℤ) (place i : ℕ) (e : Exchanged) (s : Sample) (wave : List Sample) → 0 < length e.posted → All (λ (y : Sample). IsLike s.field y.field) e.posted
    → IsFront factor place i e wave → All (λ (x : Sample). IsLike x.field s.field) wave
like_front factor place i e s wave some alike front = λ k d inside.
    let here = front.alike k d inside 0 no_sample some in
    let there = alike 0 no_sample some in
    record { components = here.components ∙ sym there.components; len = here.len ∙ sym there.len }

-- how many samples stand
pub length-front : (factor : ℤ) (place i : ℕ) (e : Exchanged) (wave : List Sample) → i ≤ length e.posted → IsFront factor place i e wave → length wave ≡ i
length-front factor place i e wave inside front =
    ap (λ (w : List Sample). length w) front.made ∙ length-take-le i (relaxed_wave factor e) (rw length-map inside)

-- what is first outside in sample i, with none before it, is so in the whole wave
pub outside_at : (factor : ℤ) (place i : ℕ) (e : Exchanged) (s : Sample) (wave : List Sample) (location : Location) → i < length e.posted → slice_get (relaxed_wave factor e) i ≡ Some s
    → wave ≡ take i (relaxed_wave factor e) → first_outside (located_wave place wave) ≡ None → first_outside (located_sample place s) ≡ Some location → first_outside (located_wave place (relaxed_wave factor e)) ≡ Some location
outside_at factor place i e s wave location inside found made before outside =
    let front_is = ap (λ (w : List Sample). w ++ s ∷ []) made ∙ sym (front_more factor e i s inside found) in
    let here : first_outside (located_wave place (take (i + 1) (relaxed_wave factor e))) ≡ Some location =
    ap (λ (w : List Sample). first_outside (located_wave place w)) (sym front_is)
    ∙ ap first_outside (locations_push place wave s)
    ∙ first_outside-none (located_wave place wave) (located_sample place s) before ∙ outside in
    ap (λ (w : List Sample). first_outside (located_wave place w)) (sym (take-append-drop (i + 1) (relaxed_wave factor e)))
    ∙ ap first_outside (flat_map-append (located_sample place) (take (i + 1) (relaxed_wave factor e)) (drop (i + 1) (relaxed_wave factor e)))
    ∙ first_outside-some (located_wave place (take (i + 1) (relaxed_wave factor e))) (located_wave place (drop (i + 1) (relaxed_wave factor e))) location here

-- what is sample i
pub sample_found : (factor : ℤ) (e : Exchanged) (i : ℕ) → i < length e.posted → slice_get (relaxed_wave factor e) i ≡ Some (get_or (relaxed_wave factor e) i no_sample)
sample_found factor e i inside = slice_get-get_or (relaxed_wave factor e) i no_sample (rw length-map inside)
