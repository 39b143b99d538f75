use Rattle.std.proofs.Common.{ap, sym, subst, ◌∙◌}
use Rattle.coupled_loop.specs.CoreState.{look_in}
use Rattle.coupled_loop.specs.CoreStep.{judges}
use Rattle.wave_coupling.specs.Coupling.{start_of}
use Rattle.coupling_core.specs.KeptView.{kept_view}
use Rattle.coupling_core.proofs.Inside.{may_now, granted_now, part_now, standing_now, here_now, answers_core, makes_core, kept_after}
use Rattle.coupling_core.specs.StandsFor.{StandsFor}
use Rattle.coupling_core.proofs.JudgeEvents.{window_there, judging_never}
use Rattle.coupling_core.proofs.PlacedPuts.{as_standing}
use Rattle.coupling_core.proofs.machine.Core.judge_here.Goals as goal

pub standing_place-requires : goal.standing_place-requires
standing_place-requires c = standing_now c.args.self.now (kept_view c.self.inside) c.self.view_is c.self.invariant c.args.p judges c.requires.fitting

pub started-requires : goal.started-requires
started-requires c =
    let now = kept_view c.self.inside in
    let here = here_now c.args.self.now (kept_view c.self.inside) c.self.view_is c.self.invariant c.args.p judges c.requires.fitting in
    window_there now c.self.invariant.valid c.args.p here.0 here.1 (may_now c.args.self.now (kept_view c.self.inside) c.self.view_is c.self.invariant c.args.p judges c.requires.fitting) (granted_now c.args.self.now now c.self.view_is c.self.invariant c.args.p judges c.requires.granted)
    c.in-Judging.window c.in-Judging.iteration c.in-Judging.scheme (sym (c.standing_place.ensures here.0 here.1) ∙ c.in-Judging.is) c.self.invariant

pub judge_at-requires-clause-start : goal.judge_at-requires-clause-start
judge_at-requires-clause-start c = λ h sides stands.
    let own = subst (λ core. StandsFor core h sides) (sym c.self.view_is) stands in
    c.started.ensures sides (as_standing c.self.inside.plan c.self.inside.sides sides own.sides)
    ∙ ap (λ core. start_of core.plan (look_in sides) c.in-Judging.window) c.self.view_is

pub unreachable-requires : goal.unreachable-requires
unreachable-requires c =
    let now = kept_view c.self.inside in
    let here = here_now c.args.self.now (kept_view c.self.inside) c.self.view_is c.self.invariant c.args.p judges c.requires.fitting in
    judging_never now c.args.p here.0 here.1 (may_now c.args.self.now (kept_view c.self.inside) c.self.view_is c.self.invariant c.args.p judges c.requires.fitting) c.self.invariant
    (λ scheme w k is. c.in_default.not-Judging scheme w k (c.standing_place.ensures here.0 here.1 ∙ is))
