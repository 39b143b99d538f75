-- The newest values of waves in a row.
use Rattle.std.proofs.Common.{◌≡◌, ℕ, ◌+◌, ◌-◌, ◌≤◌, ◌++◌, [], length, Option, arith, ap, ◌∙◌}
use Rattle.std.specs.Prelude.{slice_get}
use Rattle.std.specs.Option.{option_map_or}
use Rattle.std.proofs.lemmas.List.{length-append}
use Rattle.cpl_plan.proofs.LooksThrough.{slice_get-past}
use Rattle.waveform.specs.declared.sample.Sample.{Sample}
use Rattle.wave_coupling.specs.Posts.{Wave, newest_sample, newest_values}

newest_of_last : (a b : Wave) → 1 ≤ length b → newest_sample (a ++ b) ≡ newest_sample b
newest_of_last a b some =
    let at : length (a ++ b) - 1 ≡ length a + (length b - 1) = omega (arith, length-append a b, some) in
    ap (λ (n : ℕ). slice_get (a ++ b) n) at ∙ slice_get-past a b (length b - 1)

pub newest-append : (a b : Wave) → 1 ≤ length b → newest_values (a ++ b) ≡ newest_values b
newest-append a b some = ap (λ (o : Option Sample). option_map_or (λ s. s.field.values) o []) (newest_of_last a b some)
