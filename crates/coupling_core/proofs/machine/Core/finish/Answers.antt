use Rattle.std.proofs.Common.{refl, ap, ◌∙◌}
use Rattle.coupled_loop.specs.CoreStep.{ends}
use Rattle.coupling_core.specs.KeptView.{kept_view}
use Rattle.coupling_core.proofs.Inside.{may_now, granted_now, part_now, standing_now, here_now, answers_core, makes_core, kept_after}
use Rattle.coupling_core.proofs.PlacedPuts.{as_standing}
use Rattle.coupling_core.proofs.TurnEvents.{own_ending_is, end_answers, end_makes}
use Rattle.coupling_core.specs.OneMore.{Makes}
use Rattle.core_sides.specs.KeptSides.{kept_end_at}
use Rattle.coupling_core.proofs.machine.Core.finish.Goals as goal

pub standing_place-place-requires : goal.standing_place-place-requires
standing_place-place-requires c = standing_now c.args.self.now (kept_view c.self.inside) c.self.view_is c.self.invariant c.args.p ends c.requires

pub end-requires : goal.end-requires
end-requires c = standing_now c.args.self.now (kept_view c.self.inside) c.self.view_is c.self.invariant c.args.p ends c.requires

pub invariant_of-self : goal.invariant_of-self
invariant_of-self c =
    let now = kept_view c.self.inside in
    let may = may_now c.args.self.now (kept_view c.self.inside) c.self.view_is c.self.invariant c.args.p ends c.requires in
    let here = here_now c.args.self.now (kept_view c.self.inside) c.self.view_is c.self.invariant c.args.p ends c.requires in
    kept_after c.args.self.now (kept_view c.self.inside) c.self.view_is c.self.invariant c.args.p ends _ refl
    (end_makes now c.self.invariant.valid c.args.p here.0 here.1 _ _ c.own_ending-ending.result may
    (λ h sides stands. c.own_ending-ending.ensures ∙ ap (kept_end_at c.self.inside.plan c.self.inside.sides) (c.standing_place-place.ensures here.0 here.1)
    ∙ own_ending_is c.self.inside.plan c.self.inside.sides sides c.args.p (as_standing c.self.inside.plan c.self.inside.sides sides stands.sides) here.0.place)
    (c.end.ensures.standings here.0 here.1, ap (λ ends. ends.items) c.end.ensures.ends))

pub returns : goal.returns
returns c =
    let now = kept_view c.self.inside in
    let may = may_now c.args.self.now (kept_view c.self.inside) c.self.view_is c.self.invariant c.args.p ends c.requires in
    let here = here_now c.args.self.now (kept_view c.self.inside) c.self.view_is c.self.invariant c.args.p ends c.requires in
    record {
      reply = answers_core c.args.self.now (kept_view c.self.inside) c.self.view_is c.self.invariant c.args.p ends _ (end_answers now c.self.invariant.valid c.args.p here.0 here.1 may);
      stands = makes_core c.args.self.now (kept_view c.self.inside) c.self.view_is c.self.invariant c.args.p ends _
          (end_makes now c.self.invariant.valid c.args.p here.0 here.1 _ _ c.own_ending-ending.result may
          (λ h sides stands. c.own_ending-ending.ensures ∙ ap (kept_end_at c.self.inside.plan c.self.inside.sides) (c.standing_place-place.ensures here.0 here.1)
          ∙ own_ending_is c.self.inside.plan c.self.inside.sides sides c.args.p (as_standing c.self.inside.plan c.self.inside.sides sides stands.sides) here.0.place)
          (c.end.ensures.standings here.0 here.1, ap (λ ends. ends.items) c.end.ensures.ends));
      plan = ap (λ core. core.plan) c.self.view_is;
    }
