-- The relaxed waves by a factor. From the coupling documentation's relaxation of a whole waveform.
use Rattle.std.specs.Prelude.{List, ℤ, map}
use Rattle.std.specs.List.{zip}
use Rattle.fixed_num.specs.Relaxation.{relaxed}
use Rattle.waveform.specs.declared.sample.Sample.{Sample}
use Rattle.waveform.specs.WaveValue.{read}
use Rattle.acceleration.specs.Exchanged.{Exchanged}

-- each x, relaxed towards the y beside it
unfoldable pub relaxed_values : (factor : ℤ) → (xs ys : List ℤ) → List ℤ
relaxed_values factor xs ys = map (λ v. relaxed v.0 v.1 factor) (zip xs ys)

-- a posted sample, relaxed from what was read at its time
abbrev pub relaxed_sample : ℤ → Exchanged → Sample → Sample
relaxed_sample factor e sample =
    record {
      time = sample.time;
      field = record {
        components = sample.field.components;
        values = relaxed_values factor (read e.taken e.degree sample.time) sample.field.values;
      };
    }

-- the relaxed wave keeps the posted times
abbrev pub relaxed_wave : ℤ → Exchanged → List Sample
relaxed_wave factor e = map (relaxed_sample factor e) e.posted

-- one wave per exchange, in order
abbrev pub relaxed_waves : ℤ → List Exchanged → List (List Sample)
relaxed_waves factor exchanges = map (relaxed_wave factor) exchanges
