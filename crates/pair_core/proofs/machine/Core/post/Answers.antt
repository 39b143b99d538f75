use Rattle.std.proofs.Common.{ap, ◌∙◌}
use Rattle.pair_core.specs.Kept.{kept_of, side_posted}
use Rattle.pair_core.specs.CoreState.{Made, part_of, state_after}
use Rattle.pair_core.specs.declared.event.Event.TheVariants.{Post}
use Rattle.pair_core.proofs.Histories.{StandsFor-at, StandsFor-more, SideStandsFor-post}
use Rattle.pair_core.proofs.machine.Core.post.Goals as goal

pub returns : goal.returns
returns c = record {
  stands = λ windows h stands.
      rw (c.put.ensures, c.posted.ensures ∙ ap (λ side. side_posted side c.args.value) c.side-own.ensures.side)
      (StandsFor-more windows c.args.self.now h c.args.p (side_posted (kept_of c.args.self.now c.args.p) c.args.value) (Made (Post c.args.value)) c.requires.participant stands
      (SideStandsFor-post windows (kept_of c.args.self.now c.args.p) (part_of (state_after windows h) c.args.p) c.args.value
      (StandsFor-at windows c.args.self.now h c.args.p c.requires.participant stands)));
}
