-- A mapped wave keeps its times, and has values for the mesh that it is mapped to.
use Rattle.std.proofs.Common.{◌≡◌, ◌⊎◌, inl, inr, ℕ, ◌-◌, ◌*◌, ◌<◌, ◌≤◌, Bool, true, false, if◌then◌else◌, All, length, get_or, Option, Some, None, Result, Ok, Err, refl, ap, sym, subst, ◌∙◌, arith}
use Rattle.std.specs.Option.{option_map_or}
use Rattle.std.proofs.lemmas.Bool.{cases_Bool}
use Rattle.std.proofs.lemmas.List.{length-map, get_or-map, get_or_default}
use Rattle.cpl_plan.specs.declared.parts.MapPlan.{MapPlan}
use Rattle.waveform.specs.declared.field.Field.{Field}
use Rattle.waveform.specs.declared.sample.Sample.{Sample}
use Rattle.waveform.specs.IsWave.{first_time, last_time}
use Rattle.waveform.proofs.Places.{no_sample}
use Rattle.nn_mapping.specs.Mapping.{Mapping, mapping_of}
use Rattle.nn_mapping.specs.MappedField.{places, mapped_component, overflow_of, mapped_values, mapped_field}
use Rattle.nn_mapping.proofs.Places.{length-places}
use Rattle.edge_projection.specs.Places.{places as edge_places}
use Rattle.edge_projection.specs.EdgeMapping.{EdgeMapping, searched, mapping_of as edges_of}
use Rattle.edge_projection.specs.MappedField.{mapped_component as edge_component, overflow_of as edge_overflow, mapped_values as edge_values, mapped_field as edge_field}
use Rattle.edge_projection.proofs.Places.{length-places as length-edge_places}
use Rattle.wave_coupling.specs.Posts.{Wave}
use Rattle.wave_coupling.specs.Mapped.{Points, chain, mapped_by, mapped_wave, with_field}
use Rattle.wave_laws.proofs.MappedWaves.{IsEach, each_made}
use Rattle.participant_waves.specs.Readable.{IsReadable}

-- ---- a field
made_is : (overflow : Option (ℕ × ℕ)) (made out : Field) → option_map_or {T = ℕ × ℕ} {U = Result Field (ℕ × ℕ)} Err overflow (Ok made) ≡ Ok out → out ≡ made
made_is None made out e = cc
made_is (Some place) made out e = absurd (cc)

nearest_count : (m : Mapping) (field : Field) → length (mapped_values m field) ≡ m.targets * field.components
unfolding mapped_values
nearest_count m field = length-map (places m.targets field.components) (mapped_component m field) ∙ length-places m.targets field.components

edge_count : (m : EdgeMapping) (field : Field) → length (edge_values m field) ≡ m.targets * field.components
unfolding edge_values
edge_count m field = length-map (edge_places m.targets field.components) (edge_component m field) ∙ length-edge_places m.targets field.components

-- as many components, and values for so many vertices
record HasValues (vertices components : ℕ) (field : Field) : Type 0 where
  components_are : field.components ≡ components
  values_are : length field.values ≡ vertices * components

field_mapped : (m : MapPlan) (from to : Points) (field out : Field) → mapped_by m from to field ≡ Ok out → HasValues (length to) field.components out
field_mapped m from to field out made = by (cases_Bool m.projection)
  where
    chosen : Bool → Result Field (ℕ × ℕ)
    chosen b = if b then edge_field (edges_of from to (chain (searched m.conservative from to)) m.conservative) field
        else mapped_field (mapping_of from to m.conservative) field

    by : (m.projection ≡ true) ⊎ (m.projection ≡ false) → HasValues (length to) field.components out
    by (inl kind) =
        let is = made_is (edge_overflow (edges_of from to (chain (searched m.conservative from to)) m.conservative) field)
        (record { components = field.components; values = edge_values (edges_of from to (chain (searched m.conservative from to)) m.conservative) field }) out
        (sym (ap chosen kind) ∙ made) in
        subst (λ (f : Field). HasValues (length to) field.components f) (sym is)
        (record { components_are = refl; values_are = edge_count (edges_of from to (chain (searched m.conservative from to)) m.conservative) field })
    by (inr kind) =
        let is = made_is (overflow_of (mapping_of from to m.conservative) field)
        (record { components = field.components; values = mapped_values (mapping_of from to m.conservative) field }) out
        (sym (ap chosen kind) ∙ made) in
        subst (λ (f : Field). HasValues (length to) field.components f) (sym is)
        (record { components_are = refl; values_are = nearest_count (mapping_of from to m.conservative) field })

-- ---- a sample
sample_is : (time : ℕ) (result : Result Field (ℕ × ℕ)) (out : Sample) → with_field time result ≡ Ok out → (result ≡ Ok out.field) × (out.time ≡ time)
sample_is time (Ok field) out is =
    let same : record { time = time; field = field } ≡ out = cc in
    (ap (λ (s : Sample). Ok s.field) same, sym (ap (λ (s : Sample). s.time) same))
sample_is time (Err place) out is = absurd (cc)

-- ---- a wave
-- the times of a wave
pub record KeepsTimes (wave out : Wave) : Type 0 where
  pub many : length out ≡ length wave
  pub time : (k : ℕ) (d e : Sample) → k < length wave → (get_or out k e).time ≡ (get_or wave k d).time

pub same_times : (wave : Wave) → KeepsTimes wave wave
same_times wave = record { many = refl; time = λ k d e within. ap (λ (s : Sample). s.time) (same k d e within) }
  where
    same : (k : ℕ) (d e : Sample) → k < length wave → get_or wave k e ≡ get_or wave k d
    same k d e within = get_or_default wave k e d within

module _ (m : MapPlan) (from to : Points) (wave out : Wave) (made : mapped_wave (Some m) from to wave ≡ Ok out) where
  each : IsEach (λ (s : Sample). with_field s.time (mapped_by m from to s.field)) wave out
  each = each_made (λ (s : Sample). with_field s.time (mapped_by m from to s.field)) wave out made

  pub keeps_times : KeepsTimes wave out
  keeps_times = record {
    many = each.many;
    time = λ k d e within. (sample_is (get_or wave k d).time (mapped_by m from to (get_or wave k d).field) (get_or out k e) (each.each k d e within)).1;
  }

  pub has_values : (components : ℕ) → All (λ (s : Sample). s.field.components ≡ components) wave → All (λ (s : Sample). length s.field.values ≡ length to * components) out
  has_values components alike = λ k d within.
      let inside : k < length wave = omega (arith, within, each.many) in
      let is = field_mapped m from to (get_or wave k d).field (get_or out k d).field
      (sample_is (get_or wave k d).time (mapped_by m from to (get_or wave k d).field) (get_or out k d) (each.each k d d inside)).0 in
      is.values_are ∙ ap (λ (n : ℕ). length to * n) (alike k d inside)

module _ (wave out : Wave) (keeps : KeepsTimes wave out) (least : 1 ≤ length wave) where
  same_first : first_time out ≡ first_time wave
  same_first =
      get_or-map (λ (s : Sample). s.time) out 0 no_sample 0 (omega (arith, least, keeps.many)) ∙ keeps.time 0 no_sample no_sample least
      ∙ sym (get_or-map (λ (s : Sample). s.time) wave 0 no_sample 0 least)

  same_last : last_time out ≡ last_time wave
  same_last =
      let place : length out - 1 ≡ length wave - 1 = omega (arith, keeps.many) in
      let within : length wave - 1 < length wave = omega (arith, least) in
      get_or-map (λ (s : Sample). s.time) out (length out - 1) no_sample 0 (omega (arith, least, keeps.many))
      ∙ ap (λ (k : ℕ). (get_or out k no_sample).time) place ∙ keeps.time (length wave - 1) no_sample no_sample within
      ∙ sym (get_or-map (λ (s : Sample). s.time) wave (length wave - 1) no_sample 0 within)

  -- it can be read as long as the wave
  pub readable : (start end : ℕ) → (length wave ≡ 1) ⊎ ((first_time wave ≡ start) × (last_time wave ≡ end)) → IsReadable start end out
  readable start end (inl one) = inl (keeps.many ∙ one)
  readable start end (inr span) = inr (omega (arith, same_first, span.0), omega (arith, same_last, span.1))
