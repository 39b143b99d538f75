use Rattle.std.proofs.Common.{[], length, Option, ap, sym, ◌∙◌, arith}
use Rattle.std.specs.Option.{option_map_or}
use Rattle.cpl_plan.specs.declared.parts.Part.{Part}
use Rattle.participant_waves.proofs.WatchPlaces.{few_watches}
use Rattle.participant_waves.proofs.watches.Watches.rows_kept.Goals as goal

pub overflow_cast-i : goal.overflow_cast-i
overflow_cast-i c =
    let few = few_watches c.args.plan.now c.args.self.now.part c.parts-parts.ensures.valid c.requires.rows.participant in
    let listed = ap length (c.as_slice-watches.ensures ∙ sym (ap (λ (o : Option Part). option_map_or (λ q. q.watches) o []) c.part.ensures)) in
    omega (arith, few, listed, c.loop-i-test.true)
