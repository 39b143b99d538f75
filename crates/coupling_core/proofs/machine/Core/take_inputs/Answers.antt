use Rattle.std.proofs.Common.{ℕ, List, Option, refl, ap, sym, subst, set, ◌∙◌}
use Rattle.sample_store.specs.Kept.{Kept as StoreKept}
use Rattle.core_schemes.specs.declared.schemes.SchemeState.{SchemeState}
use Rattle.core_takes.specs.Ready.{IsReady, Tells}
use Rattle.coupled_loop.specs.CoreStep.{takes}
use Rattle.core_sides.specs.KeptSides.{kept_turn}
use Rattle.core_sides.specs.declared.standing.Place.TheVariants.{Within}
use Rattle.core_sides.proofs.KeptTells.{turn_is}
use Rattle.coupling_core.specs.KeptView.{kept_view}
use Rattle.coupling_core.proofs.Inside.{may_now, granted_now, part_now, standing_now, here_now, answers_core, makes_core, kept_after}
use Rattle.coupling_core.proofs.PlacedPuts.{as_standing}
use Rattle.coupling_core.proofs.TakeEvents.{taken_window, is_ready, inputs_answers, inputs_makes}
use Rattle.coupling_core.proofs.machine.Core.take_inputs.Goals as goal

pub turn_of-turn-requires : goal.turn_of-turn-requires
turn_of-turn-requires c =
    let now = kept_view c.self.inside in
    let may = may_now c.args.self.now (kept_view c.self.inside) c.self.view_is c.self.invariant c.args.p takes c.requires.fitting in
    let granted = granted_now c.args.self.now (kept_view c.self.inside) c.self.view_is c.self.invariant c.args.p takes c.requires.granted in
    let here = here_now c.args.self.now (kept_view c.self.inside) c.self.view_is c.self.invariant c.args.p takes c.requires.fitting in
    taken_window now c.self.invariant.valid c.args.p here.0 here.1 may granted (kept_turn c.self.inside.sides c.args.p).0 (kept_turn c.self.inside.sides c.args.p).1 (λ h sides stands. sym (turn_is c.self.inside.plan c.self.inside.sides sides (as_standing c.self.inside.plan c.self.inside.sides sides stands.sides) c.args.p)) c.self.invariant

pub inputs-requires : goal.inputs-requires
inputs-requires c =
    let now = kept_view c.self.inside in
    let may = may_now c.args.self.now (kept_view c.self.inside) c.self.view_is c.self.invariant c.args.p takes c.requires.fitting in
    let granted = granted_now c.args.self.now (kept_view c.self.inside) c.self.view_is c.self.invariant c.args.p takes c.requires.granted in
    let here = here_now c.args.self.now (kept_view c.self.inside) c.self.view_is c.self.invariant c.args.p takes c.requires.fitting in
    record {
      ready = subst (λ (xs : List (Option StoreKept)). IsReady c.self.inside.plan xs c.deref-2.result.now c.turn_of-turn.result) (sym c.deref.ensures.value)
          (subst (λ (ss : List SchemeState). IsReady c.self.inside.plan c.self.inside.stores.items ss c.turn_of-turn.result) (sym c.deref-2.ensures.value)
          (is_ready now c.self.invariant.valid c.args.p here.0 here.1 may granted (kept_turn c.self.inside.sides c.args.p).0 (kept_turn c.self.inside.sides c.args.p).1 (λ h sides stands. sym (turn_is c.self.inside.plan c.self.inside.sides sides (as_standing c.self.inside.plan c.self.inside.sides sides stands.sides) c.args.p)) c.turn_of-turn.result c.turn_of-turn.ensures.part c.turn_of-turn.ensures.window c.turn_of-turn.ensures.iteration (λ h sides stands. c.turn_of-turn.ensures.start sides (as_standing c.self.inside.plan c.self.inside.sides sides stands.sides)) c.self.invariant));
    }

pub go_to-requires : goal.go_to-requires
go_to-requires c = standing_now c.args.self.now (kept_view c.self.inside) c.self.view_is c.self.invariant c.args.p takes c.requires.fitting

pub invariant_of-self : goal.invariant_of-self
invariant_of-self c =
    let now = kept_view c.self.inside in
    let may = may_now c.args.self.now (kept_view c.self.inside) c.self.view_is c.self.invariant c.args.p takes c.requires.fitting in
    let granted = granted_now c.args.self.now (kept_view c.self.inside) c.self.view_is c.self.invariant c.args.p takes c.requires.granted in
    let here = here_now c.args.self.now (kept_view c.self.inside) c.self.view_is c.self.invariant c.args.p takes c.requires.fitting in
    kept_after c.args.self.now (kept_view c.self.inside) c.self.view_is c.self.invariant c.args.p takes _ refl (inputs_makes now c.self.invariant.valid c.args.p here.0 here.1 may granted (kept_turn c.self.inside.sides c.args.p).0 (kept_turn c.self.inside.sides c.args.p).1 (λ h sides stands. sym (turn_is c.self.inside.plan c.self.inside.sides sides (as_standing c.self.inside.plan c.self.inside.sides sides stands.sides) c.args.p)) _ _ (c.go_to.ensures.standings here.0 here.1 ∙ ap (λ (v : ℕ). set c.self.inside.sides.standings.items c.args.p (record here.0 { place = Within v c.turn_of-turn.result.iteration })) c.turn_of-turn.ensures.window ∙ ap (λ (j : ℕ). set c.self.inside.sides.standings.items c.args.p (record here.0 { place = Within (kept_turn c.self.inside.sides c.args.p).0 j })) c.turn_of-turn.ensures.iteration, ap (λ ends. ends.items) c.go_to.ensures.ends))

pub returns-in-Ok : goal.returns-in-Ok
returns-in-Ok c =
    let now = kept_view c.self.inside in
    let may = may_now c.args.self.now (kept_view c.self.inside) c.self.view_is c.self.invariant c.args.p takes c.requires.fitting in
    let granted = granted_now c.args.self.now (kept_view c.self.inside) c.self.view_is c.self.invariant c.args.p takes c.requires.granted in
    let here = here_now c.args.self.now (kept_view c.self.inside) c.self.view_is c.self.invariant c.args.p takes c.requires.fitting in
    record {
      reply = answers_core c.args.self.now (kept_view c.self.inside) c.self.view_is c.self.invariant c.args.p takes _ (inputs_answers now c.self.invariant.valid c.args.p here.0 here.1 may granted (kept_turn c.self.inside.sides c.args.p).0 (kept_turn c.self.inside.sides c.args.p).1 (λ h sides stands. sym (turn_is c.self.inside.plan c.self.inside.sides sides (as_standing c.self.inside.plan c.self.inside.sides sides stands.sides) c.args.p)) c.turn_of-turn.result c.turn_of-turn.ensures.part c.turn_of-turn.ensures.window c.turn_of-turn.ensures.iteration (λ h sides stands. c.turn_of-turn.ensures.start sides (as_standing c.self.inside.plan c.self.inside.sides sides stands.sides)) c.in-Ok.inputs (λ look tells. c.in-Ok.ensures.inputs look
          (subst (λ (xs : List (Option StoreKept)). Tells c.self.inside.plan xs c.deref-2.result.now c.turn_of-turn.result look) (sym c.deref.ensures.value)
          (subst (λ (ss : List SchemeState). Tells c.self.inside.plan c.self.inside.stores.items ss c.turn_of-turn.result look) (sym c.deref-2.ensures.value) tells))));
      memory = tt;
      stands = makes_core c.args.self.now (kept_view c.self.inside) c.self.view_is c.self.invariant c.args.p takes _ (inputs_makes now c.self.invariant.valid c.args.p here.0 here.1 may granted (kept_turn c.self.inside.sides c.args.p).0 (kept_turn c.self.inside.sides c.args.p).1 (λ h sides stands. sym (turn_is c.self.inside.plan c.self.inside.sides sides (as_standing c.self.inside.plan c.self.inside.sides sides stands.sides) c.args.p)) _ _ (c.go_to.ensures.standings here.0 here.1 ∙ ap (λ (v : ℕ). set c.self.inside.sides.standings.items c.args.p (record here.0 { place = Within v c.turn_of-turn.result.iteration })) c.turn_of-turn.ensures.window ∙ ap (λ (j : ℕ). set c.self.inside.sides.standings.items c.args.p (record here.0 { place = Within (kept_turn c.self.inside.sides c.args.p).0 j })) c.turn_of-turn.ensures.iteration, ap (λ ends. ends.items) c.go_to.ensures.ends));
      plan = ap (λ core. core.plan) c.self.view_is;
      unchanged = tt;
    }
