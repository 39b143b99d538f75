use Rattle.std.proofs.Common.{◌≡◌, length, List, ℤ, arith, refl, ap, ◌∙◌}
use Rattle.acceleration.proofs.Entries.{length-relaxed_values}
use Rattle.acceleration.proofs.waves.relaxed_field.Goals as goal

pub returns-clause-alike : goal.returns-clause-alike
returns-clause-alike c =
    let posted = ap (λ (xs : List ℤ). length xs) c.as_slice.ensures in
    let same : length c.read_at.new.out ≡ length c.as_slice.result.now = omega (arith, c.read_at.auto.out, c.requires.room, posted) in
    record {
      components = refl;
      len = ap (λ (xs : List ℤ). length xs) (c.from_vec.ensures ∙ c.in_ok-values.ensures.values)
          ∙ length-relaxed_values c.args.step.now.factor c.read_at.new.out c.as_slice.result.now same ∙ posted;
    }
