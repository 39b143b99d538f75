use Rattle.std.proofs.Common.{◌≤◌, Option, Some, length, arith, ap, sym, subst, ◌∙◌}
use Rattle.wave_maps.specs.declared.wave_map.WaveMap.{WaveMap}
use Rattle.participant_waves.specs.FirstMapped.{IsFirstOf}
use Rattle.participant_waves.proofs.FirstMapped.{first_is}
use Rattle.participant_waves.proofs.taking.Taking.take.Goals as goal

pub invariant_of-self : goal.invariant_of-self
invariant_of-self c =
    let some : 1 ≤ length c.args.wave.now = omega (arith, c.len-samples.ensures.wave.least) in (
      c.self.invariant.0,
      subst (λ (o : Option WaveMap). IsFirstOf o (Some (record { given = c.in_ok-copy.field-0; mapped = c.in_ok-copy-2.field-0 }))) (sym c.in-Some.is)
          (first_is c.in-Some.map c.args.wave.now c.in_ok-out.out c.in_ok-copy.field-0 c.in_ok-copy-2.field-0 some c.in_ok-out.ensures.mapped
          (c.field-2.ensures ∙ ap Some (sym c.in_ok-copy.ensures)) (c.field-3.ensures ∙ ap Some (sym c.in_ok-copy-2.ensures))),
    )
