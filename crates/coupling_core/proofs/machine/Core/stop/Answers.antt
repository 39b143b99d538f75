use Rattle.std.proofs.Common.{refl, ap, ◌∙◌}
use Rattle.core_sides.specs.Answers.{act_of}
use Rattle.core_sides.specs.declared.event.Event.TheVariants.{Stop}
use Rattle.coupling_core.specs.KeptView.{kept_view}
use Rattle.coupling_core.proofs.Inside.{may_now, standing_now, here_now, answers_core, makes_core, kept_after}
use Rattle.coupling_core.proofs.TurnEvents.{stop_answers, stop_makes}
use Rattle.coupling_core.proofs.machine.Core.stop.Goals as goal

pub end-requires : goal.end-requires
end-requires c = standing_now c.args.self.now (kept_view c.self.inside) c.self.view_is c.self.invariant c.args.p (act_of (Stop c.args.cause)) c.requires

pub invariant_of-self : goal.invariant_of-self
invariant_of-self c =
    let now = kept_view c.self.inside in
    let may = may_now c.args.self.now now c.self.view_is c.self.invariant c.args.p (act_of (Stop c.args.cause)) c.requires in
    let here = here_now c.args.self.now now c.self.view_is c.self.invariant c.args.p (act_of (Stop c.args.cause)) c.requires in
    kept_after c.args.self.now now c.self.view_is c.self.invariant c.args.p (act_of (Stop c.args.cause)) _ refl
    (stop_makes now c.self.invariant.valid c.args.p here.0 here.1 _ _ c.ending_by.result c.args.cause may c.ending_by.ensures
    (c.end.ensures.standings here.0 here.1, ap (λ ends. ends.items) c.end.ensures.ends))

pub returns : goal.returns
returns c =
    let now = kept_view c.self.inside in
    let may = may_now c.args.self.now now c.self.view_is c.self.invariant c.args.p (act_of (Stop c.args.cause)) c.requires in
    let here = here_now c.args.self.now now c.self.view_is c.self.invariant c.args.p (act_of (Stop c.args.cause)) c.requires in
    record {
      reply = answers_core c.args.self.now now c.self.view_is c.self.invariant c.args.p (act_of (Stop c.args.cause)) _
          (stop_answers now c.self.invariant.valid c.args.p here.0 here.1 c.args.cause may);
      stands = makes_core c.args.self.now now c.self.view_is c.self.invariant c.args.p (act_of (Stop c.args.cause)) _
          (stop_makes now c.self.invariant.valid c.args.p here.0 here.1 _ _ c.ending_by.result c.args.cause may c.ending_by.ensures
          (c.end.ensures.standings here.0 here.1, ap (λ ends. ends.items) c.end.ensures.ends));
      plan = ap (λ core. core.plan) c.self.view_is;
    }
