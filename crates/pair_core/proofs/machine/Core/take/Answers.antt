use Rattle.std.proofs.Common.{ap, ◌∙◌}
use Rattle.pair_core.specs.Kept.{kept_of, side_taken, side_ended}
use Rattle.pair_core.specs.CoreState.{Made, CutOff, part_of, state_after}
use Rattle.pair_core.specs.declared.event.Event.TheVariants.{Take}
use Rattle.pair_core.specs.declared.event.Ending.TheVariants.{Cut}
use Rattle.pair_core.proofs.Histories.{StandsFor-at, StandsFor-more, SideStandsFor-take, SideStandsFor-cut}
use Rattle.pair_core.proofs.machine.Core.take.Goals as goal

pub returns-in-Reads-clause-stands : goal.returns-in-Reads-clause-stands
returns-in-Reads-clause-stands c = λ windows h stands.
    rw (← c.in-Reads.ensures.state windows h stands, c.put.ensures, c.with_input.ensures ∙ ap side_taken c.side-own.ensures.side)
    (StandsFor-more windows c.args.self.now h c.args.p (side_taken (kept_of c.args.self.now c.args.p)) (Made Take) c.requires.participant stands
    (SideStandsFor-take windows (kept_of c.args.self.now c.args.p) (part_of (state_after windows h) c.args.p)
    (StandsFor-at windows c.args.self.now h c.args.p c.requires.participant stands)))

pub returns-in-CutBy-clause-stands : goal.returns-in-CutBy-clause-stands
returns-in-CutBy-clause-stands c = λ windows h stands.
    rw (← c.in-CutBy.ensures.state windows h stands, c.put-in-CutBy.ensures, c.ended.ensures ∙ ap (λ side. side_ended side Cut) c.side-own.ensures.side)
    (StandsFor-more windows c.args.self.now h c.args.p (side_ended (kept_of c.args.self.now c.args.p) Cut) (CutOff c.in-CutBy.who) c.requires.participant stands
    (SideStandsFor-cut windows (kept_of c.args.self.now c.args.p) (part_of (state_after windows h) c.args.p) c.in-CutBy.who
    (StandsFor-at windows c.args.self.now h c.args.p c.requires.participant stands)))
