-- A wave that is led by values at an earlier time, sample by sample.
use Rattle.std.proofs.Common.{◌≡◌, ℕ, zero, suc, ◌+◌, ◌-◌, ◌<◌, ◌++◌, List, [], ◌∷◌, length, get_or, take, Some, All, arith, refl, ap, sym, subst, ◌∙◌}
use Rattle.std.specs.Prelude.{slice_get}
use Rattle.std.proofs.lemmas.List.{length-take-le, get_or-take, get_or-map, get_or_default, take_more}
use Rattle.std.proofs.lemmas.List.Elements.{All-cons, All-same}
use Rattle.waveform.specs.declared.field.Field.{Field}
use Rattle.waveform.specs.declared.sample.Sample.{Sample}
use Rattle.waveform.specs.IsWave.{IsWave, times, fields, first_time, last_time}
use Rattle.waveform.specs.Shape.{IsLike}
use Rattle.acceleration.proofs.Widths.{no_sample, field_at, time_at}

abbrev sample : (time : ℕ) → Field → Sample
sample time field = record { time = time; field = field }

-- sample i by its time and its field
sample_is : (rest : List Sample) (i t : ℕ) (f : Field) → slice_get (times rest) i ≡ Some t → slice_get (fields rest) i ≡ Some f → get_or rest i no_sample ≡ sample t f
sample_is rest i t f at field =
    ap (λ (n : ℕ). sample n (get_or rest i no_sample).field) (time_at rest i t at) ∙ ap (λ (g : Field). sample t g) (field_at rest i f field)

module _ (time : ℕ) (field : Field) (rest wave : List Sample) (i : ℕ) (is : IsWave rest) (inside : i < length rest) (made : wave ≡ record { time = time; field = field } ∷ take i rest) where
  ends : last_time wave ≡ get_or (time ∷ times (take i rest)) i 0
  ends =
      let at : length (record { time = time; field = field } ∷ take i rest) - 1 ≡ i = omega (arith, length-take-le i rest (omega (arith, inside))) in
      ap (λ (ws : List Sample). last_time ws) made ∙ ap (λ (n : ℕ). get_or (time ∷ times (take i rest)) n 0) at

  pub later : time < first_time rest → (t : ℕ) → slice_get (times rest) i ≡ Some t → last_time wave < t
  later before t at = omega (arith, ends, of i refl, time_at rest i t at)
    where
      of : (n : ℕ) → i ≡ n → get_or (time ∷ times (take i rest)) n 0 < (get_or rest i no_sample).time
      of zero none =
          let first = get_or-map (λ (s : Sample). s.time) rest 0 no_sample 0 (omega (arith, inside)) in
          omega (arith, before, first, ap (λ (n : ℕ). (get_or rest n no_sample).time) none)
      of (suc j) more =
          let one = get_or-map (λ (s : Sample). s.time) (take i rest) j no_sample 0 (omega (arith, more, length-take-le i rest (omega (arith, inside)))) in
          let same = ap (λ (s : Sample). s.time) (get_or-take i rest j no_sample (omega (arith, more))) in
          omega (arith, one, same, is.rising j i no_sample (omega (arith, more)) inside)

  pub alike : All (λ (s : Sample). IsLike field s.field) rest → (f : Field) → slice_get (fields rest) i ≡ Some f → All (λ (s : Sample). IsLike s.field f) wave
  alike all f at =
      let own = field_at rest i f at in
      All-same (λ (s : Sample). IsLike s.field f) wave (sample time field ∷ take i rest) made
      (All-cons (λ (s : Sample). IsLike s.field f) (sample time field) (take i rest)
      (subst (λ (g : Field). IsLike field g) own (all i no_sample inside))
      (λ k d within.
      let below : k < i = omega (arith, within, length-take-le i rest (omega (arith, inside))) in
      let same = get_or-take i rest k d below in
      let here = is.alike k i no_sample below inside in
      subst (λ (s : Sample). IsLike s.field f) (sym (same ∙ get_or_default rest k d no_sample (omega (arith, below, inside)))) (subst (λ (g : Field). IsLike (get_or rest k no_sample).field g) own here)))

  pub more : (next : List Sample) (t : ℕ) (f : Field) → slice_get (times rest) i ≡ Some t → slice_get (fields rest) i ≡ Some f → next ≡ wave ++ record { time = t; field = f } ∷ []
      → next ≡ record { time = time; field = field } ∷ take (i + 1) rest
  more next t f at own pushed =
      pushed ∙ ap (λ (ws : List Sample). ws ++ sample t f ∷ []) made
      ∙ ap (λ (s : Sample). sample time field ∷ (take i rest ++ s ∷ [])) (sym (sample_is rest i t f at own))
      ∙ ap (λ (ws : List Sample). sample time field ∷ ws) (sym (take_more rest i no_sample inside))
