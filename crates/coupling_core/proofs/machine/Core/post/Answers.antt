use Rattle.std.proofs.Common.{ap, sym, ◌∙◌, slice_get}
use Rattle.coupled_loop.specs.CoreStep.{posts}
use Rattle.coupling_core.specs.KeptView.{kept_view}
use Rattle.coupling_core.proofs.Inside.{may_now, granted_now, part_now, standing_now, here_now, answers_core, makes_core, kept_after}
use Rattle.coupling_core.proofs.PostEvents.{opens_from}
use Rattle.coupling_core.proofs.machine.Core.post.Goals as goal

pub standing_place-requires : goal.standing_place-requires
standing_place-requires c = standing_now c.args.self.now (kept_view c.self.inside) c.self.view_is c.self.invariant c.args.p (posts c.args.waves) c.requires

pub post_initial-requires-clause-place : goal.post_initial-requires-clause-place
post_initial-requires-clause-place c = λ s at.
    let there = ap (λ core. slice_get core.standings c.args.p) c.self.view_is ∙ at in
    opens_from (kept_view c.self.inside) c.args.p s there c.args.waves (may_now c.args.self.now (kept_view c.self.inside) c.self.view_is c.self.invariant c.args.p (posts c.args.waves) c.requires) c.self.invariant (λ w k is. c.in_default.not-Within w k (c.standing_place.ensures s there ∙ is))
