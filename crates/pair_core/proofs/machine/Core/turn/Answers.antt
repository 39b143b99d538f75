use Rattle.std.proofs.Common.{sym, ◌∙◌}
use Rattle.pair_core.proofs.Takes.{take_in-kept}
use Rattle.pair_core.proofs.machine.Core.turn.Goals as goal

pub returns-clause-state : goal.returns-clause-state
returns-clause-state c = λ windows h stands.
    let reads = take_in-kept windows c.args.self.now h c.args.p c.requires.participant c.side-own.ensures.kept c.requires.next stands in
    c.take_turn.ensures ∙ sym (rw (← c.side-own.ensures.side, ← c.side-partner.ensures.side) at reads)
