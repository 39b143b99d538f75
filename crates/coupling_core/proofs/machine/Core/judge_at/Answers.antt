use Rattle.std.proofs.Common.{refl, ap, sym, subst, ◌∙◌, slice_get, length, List, Option, Ok}
use Rattle.coupled_loop.specs.CoreStep.{judges}
use Rattle.sample_store.specs.Kept.{Kept as StoreKept}
use Rattle.core_sides.specs.declared.event.Reply.{Reply}
use Rattle.core_stores.specs.StoresStand.{AreStores}
use Rattle.core_schemes.specs.SchemesStand.{AreSchemes}
use Rattle.core_schemes.specs.declared.schemes.SchemeState.{SchemeState}
use Rattle.coupling_core.specs.KeptView.{kept_view}
use Rattle.coupling_core.specs.LinesStand.{AreLined}
use Rattle.coupling_core.specs.Heard.{IsStartIn, IsLastOf}
use Rattle.coupling_core.specs.OneMore.{Answers}
use Rattle.coupling_core.proofs.Inside.{may_now, granted_now, part_now, standing_now, here_now, answers_core, makes_core, kept_after}
use Rattle.coupling_core.proofs.PutBack.{put_back, stores_back}
use Rattle.coupling_core.proofs.JudgeEvents.{is_judging_at, posted_at, can_be_judged_at, open_at, window_few, iteration_few, judge_answers, judge_makes}
use Rattle.coupling_core.proofs.machine.Core.judge_at.Goals as goal

pub judged-requires : goal.judged-requires
judged-requires c =
    let now = kept_view c.self.inside in
    let here = here_now c.args.self.now (kept_view c.self.inside) c.self.view_is c.self.invariant c.args.p judges c.requires.fitting in
    let may = may_now c.args.self.now (kept_view c.self.inside) c.self.view_is c.self.invariant c.args.p judges c.requires.fitting in
    let granted = granted_now c.args.self.now (kept_view c.self.inside) c.self.view_is c.self.invariant c.args.p judges c.requires.granted in
    let start = subst (λ core. IsStartIn core c.args.at.window c.args.at.start) (sym c.self.view_is) c.requires.start in
    record { ready = can_be_judged_at now c.self.invariant.valid c.args.p here.0 here.1 may granted c.args.at (c.requires.place here.0 (sym (ap (λ core. slice_get core.standings c.args.p) c.self.view_is) ∙ here.1)) c.deref.result.now c.deref_mut.result.now c.deref.ensures.value c.deref_mut.ensures.value start c.self.invariant }

pub hear-requires-clause-standing : goal.hear-requires-clause-standing
hear-requires-clause-standing c = standing_now c.args.self.now (kept_view c.self.inside) c.self.view_is c.self.invariant c.args.p judges c.requires.fitting

pub hear-requires-clause-open : goal.hear-requires-clause-open
hear-requires-clause-open c =
    let now = kept_view c.self.inside in
    let here = here_now c.args.self.now (kept_view c.self.inside) c.self.view_is c.self.invariant c.args.p judges c.requires.fitting in
    let may = may_now c.args.self.now (kept_view c.self.inside) c.self.view_is c.self.invariant c.args.p judges c.requires.fitting in
    let granted = granted_now c.args.self.now (kept_view c.self.inside) c.self.view_is c.self.invariant c.args.p judges c.requires.granted in
    let start = subst (λ core. IsStartIn core c.args.at.window c.args.at.start) (sym c.self.view_is) c.requires.start in
    open_at now c.self.invariant.valid c.args.p here.0 here.1 may granted c.args.at (c.requires.place here.0 (sym (ap (λ core. slice_get core.standings c.args.p) c.self.view_is) ∙ here.1)) c.deref_mut-in-Ok.result.now c.deref_mut-in-Ok.ensures.value c.self.invariant c.in-Ok.last.window c.in-Ok.ensures.turn.0

pub hear-requires-clause-window : goal.hear-requires-clause-window
hear-requires-clause-window c =
    let now = kept_view c.self.inside in
    let here = here_now c.args.self.now (kept_view c.self.inside) c.self.view_is c.self.invariant c.args.p judges c.requires.fitting in
    let may = may_now c.args.self.now (kept_view c.self.inside) c.self.view_is c.self.invariant c.args.p judges c.requires.fitting in
    let granted = granted_now c.args.self.now (kept_view c.self.inside) c.self.view_is c.self.invariant c.args.p judges c.requires.granted in
    let start = subst (λ core. IsStartIn core c.args.at.window c.args.at.start) (sym c.self.view_is) c.requires.start in
    window_few now c.self.invariant.valid c.args.p here.0 here.1 may granted c.args.at (c.requires.place here.0 (sym (ap (λ core. slice_get core.standings c.args.p) c.self.view_is) ∙ here.1)) c.self.invariant c.in-Ok.last.window c.in-Ok.ensures.turn.0

pub hear-requires-clause-iteration : goal.hear-requires-clause-iteration
hear-requires-clause-iteration c =
    let now = kept_view c.self.inside in
    let here = here_now c.args.self.now (kept_view c.self.inside) c.self.view_is c.self.invariant c.args.p judges c.requires.fitting in
    let may = may_now c.args.self.now (kept_view c.self.inside) c.self.view_is c.self.invariant c.args.p judges c.requires.fitting in
    let granted = granted_now c.args.self.now (kept_view c.self.inside) c.self.view_is c.self.invariant c.args.p judges c.requires.granted in
    let start = subst (λ core. IsStartIn core c.args.at.window c.args.at.start) (sym c.self.view_is) c.requires.start in
    iteration_few now c.self.invariant.valid c.args.p here.0 here.1 may granted c.args.at (c.requires.place here.0 (sym (ap (λ core. slice_get core.standings c.args.p) c.self.view_is) ∙ here.1)) c.self.invariant c.in-Ok.last.iteration c.in-Ok.ensures.turn.1

pub invariant_of-self : goal.invariant_of-self
invariant_of-self c =
    let now = kept_view c.self.inside in
    let here = here_now c.args.self.now (kept_view c.self.inside) c.self.view_is c.self.invariant c.args.p judges c.requires.fitting in
    let may = may_now c.args.self.now (kept_view c.self.inside) c.self.view_is c.self.invariant c.args.p judges c.requires.fitting in
    let granted = granted_now c.args.self.now (kept_view c.self.inside) c.self.view_is c.self.invariant c.args.p judges c.requires.granted in
    let start = subst (λ core. IsStartIn core c.args.at.window c.args.at.start) (sym c.self.view_is) c.requires.start in
    kept_after c.args.self.now (kept_view c.self.inside) c.self.view_is c.self.invariant c.args.p judges _ refl
    (judge_makes now c.self.invariant.valid c.args.p here.0 here.1 may granted c.args.at (c.requires.place here.0 (sym (ap (λ core. slice_get core.standings c.args.p) c.self.view_is) ∙ here.1)) c.in-Ok.last c.in-Ok.ensures.turn
    (λ h sides stands. c.in-Ok.ensures.judgement sides (is_judging_at now c.self.invariant.valid c.args.p here.0 here.1 may granted c.args.at (c.requires.place here.0 (sym (ap (λ core. slice_get core.standings c.args.p) c.self.view_is) ∙ here.1)) c.deref.result.now c.deref_mut.result.now c.deref.ensures.value c.deref_mut.ensures.value start h sides stands)) _ _ _ _ c.judged.new.lines.items
    (c.hear.ensures.standings here.0 here.1, ap (λ ends. ends.items) c.hear.ensures.ends)
    (subst (λ (ss : List SchemeState). IsLastOf ss c.args.at.scheme c.in-Ok.last) (sym (put_back c.self.inside.schemes.len c.self.inside.schemes.items c.judged.new.schemes c.self.inside.schemes.ok.0 (c.judged.auto.schemes ∙ ap (λ ss. length ss) c.deref_mut.ensures.value))) c.in-Ok.ensures.last)
    (λ h sides stands. stores_back c.self.inside.plan c.self.inside.stores.len c.self.inside.stores.items c.hear.new.stores _ c.self.inside.stores.ok.0
    (c.hear.auto.stores ∙ ap (λ xs. length xs) c.deref_mut-in-Ok.ensures.value)
    (c.hear.ensures.stores sides (subst (λ (xs : List (Option StoreKept)). AreStores c.self.inside.plan xs sides) (sym c.deref_mut-in-Ok.ensures.value) stands.stores)
    (posted_at now c.self.invariant.valid c.args.p here.0 here.1 may granted c.args.at (c.requires.place here.0 (sym (ap (λ core. slice_get core.standings c.args.p) c.self.view_is) ∙ here.1)) c.deref_mut-in-Ok.result.now c.deref_mut-in-Ok.ensures.value c.in-Ok.last.window c.in-Ok.last.iteration c.in-Ok.ensures.turn.0 c.in-Ok.ensures.turn.1 h sides stands)))
    (λ h sides stands. subst (λ (ss : List SchemeState). AreSchemes c.self.inside.plan ss sides) (sym (put_back c.self.inside.schemes.len c.self.inside.schemes.items c.judged.new.schemes c.self.inside.schemes.ok.0 (c.judged.auto.schemes ∙ ap (λ ss. length ss) c.deref_mut.ensures.value))) (c.in-Ok.ensures.stands sides (is_judging_at now c.self.invariant.valid c.args.p here.0 here.1 may granted c.args.at (c.requires.place here.0 (sym (ap (λ core. slice_get core.standings c.args.p) c.self.view_is) ∙ here.1)) c.deref.result.now c.deref_mut.result.now c.deref.ensures.value c.deref_mut.ensures.value start h sides stands) (subst (λ (ss : List SchemeState). AreSchemes c.self.inside.plan ss sides) (sym c.deref_mut.ensures.value) stands.schemes)))
    (λ h sides stands. c.in-Ok.ensures.lines sides (is_judging_at now c.self.invariant.valid c.args.p here.0 here.1 may granted c.args.at (c.requires.place here.0 (sym (ap (λ core. slice_get core.standings c.args.p) c.self.view_is) ∙ here.1)) c.deref.result.now c.deref_mut.result.now c.deref.ensures.value c.deref_mut.ensures.value start h sides stands) (subst (λ (ss : List SchemeState). AreLined c.self.inside.lines.items ss) (sym c.deref_mut.ensures.value) stands.lined))
    (λ h sides stands. subst (λ (ss : List SchemeState). AreLined c.judged.new.lines.items ss) (sym (put_back c.self.inside.schemes.len c.self.inside.schemes.items c.judged.new.schemes c.self.inside.schemes.ok.0 (c.judged.auto.schemes ∙ ap (λ ss. length ss) c.deref_mut.ensures.value))) (c.in-Ok.ensures.lined sides (is_judging_at now c.self.invariant.valid c.args.p here.0 here.1 may granted c.args.at (c.requires.place here.0 (sym (ap (λ core. slice_get core.standings c.args.p) c.self.view_is) ∙ here.1)) c.deref.result.now c.deref_mut.result.now c.deref.ensures.value c.deref_mut.ensures.value start h sides stands) (subst (λ (ss : List SchemeState). AreLined c.self.inside.lines.items ss) (sym c.deref_mut.ensures.value) stands.lined))))

pub returns-in-Ok-clause-reply : goal.returns-in-Ok-clause-reply
returns-in-Ok-clause-reply c =
    let now = kept_view c.self.inside in
    let here = here_now c.args.self.now (kept_view c.self.inside) c.self.view_is c.self.invariant c.args.p judges c.requires.fitting in
    let may = may_now c.args.self.now (kept_view c.self.inside) c.self.view_is c.self.invariant c.args.p judges c.requires.fitting in
    let granted = granted_now c.args.self.now (kept_view c.self.inside) c.self.view_is c.self.invariant c.args.p judges c.requires.granted in
    let start = subst (λ core. IsStartIn core c.args.at.window c.args.at.start) (sym c.self.view_is) c.requires.start in
    subst (λ (r : Reply). Answers c.args.self.now c.args.p judges (Ok r)) (sym c.hear.ensures.reply)
    (answers_core c.args.self.now (kept_view c.self.inside) c.self.view_is c.self.invariant c.args.p judges _
    (judge_answers now c.self.invariant.valid c.args.p here.0 here.1 may granted c.args.at (c.requires.place here.0 (sym (ap (λ core. slice_get core.standings c.args.p) c.self.view_is) ∙ here.1)) c.in-Ok.last c.in-Ok.ensures.turn (λ h sides stands. c.in-Ok.ensures.judgement sides (is_judging_at now c.self.invariant.valid c.args.p here.0 here.1 may granted c.args.at (c.requires.place here.0 (sym (ap (λ core. slice_get core.standings c.args.p) c.self.view_is) ∙ here.1)) c.deref.result.now c.deref_mut.result.now c.deref.ensures.value c.deref_mut.ensures.value start h sides stands)) c.in-Ok.ensures.strict))

pub returns-in-Ok-clause-stands : goal.returns-in-Ok-clause-stands
returns-in-Ok-clause-stands c =
    let now = kept_view c.self.inside in
    let here = here_now c.args.self.now (kept_view c.self.inside) c.self.view_is c.self.invariant c.args.p judges c.requires.fitting in
    let may = may_now c.args.self.now (kept_view c.self.inside) c.self.view_is c.self.invariant c.args.p judges c.requires.fitting in
    let granted = granted_now c.args.self.now (kept_view c.self.inside) c.self.view_is c.self.invariant c.args.p judges c.requires.granted in
    let start = subst (λ core. IsStartIn core c.args.at.window c.args.at.start) (sym c.self.view_is) c.requires.start in
    makes_core c.args.self.now (kept_view c.self.inside) c.self.view_is c.self.invariant c.args.p judges _
    (judge_makes now c.self.invariant.valid c.args.p here.0 here.1 may granted c.args.at (c.requires.place here.0 (sym (ap (λ core. slice_get core.standings c.args.p) c.self.view_is) ∙ here.1)) c.in-Ok.last c.in-Ok.ensures.turn
    (λ h sides stands. c.in-Ok.ensures.judgement sides (is_judging_at now c.self.invariant.valid c.args.p here.0 here.1 may granted c.args.at (c.requires.place here.0 (sym (ap (λ core. slice_get core.standings c.args.p) c.self.view_is) ∙ here.1)) c.deref.result.now c.deref_mut.result.now c.deref.ensures.value c.deref_mut.ensures.value start h sides stands)) _ _ _ _ c.judged.new.lines.items
    (c.hear.ensures.standings here.0 here.1, ap (λ ends. ends.items) c.hear.ensures.ends)
    (subst (λ (ss : List SchemeState). IsLastOf ss c.args.at.scheme c.in-Ok.last) (sym (put_back c.self.inside.schemes.len c.self.inside.schemes.items c.judged.new.schemes c.self.inside.schemes.ok.0 (c.judged.auto.schemes ∙ ap (λ ss. length ss) c.deref_mut.ensures.value))) c.in-Ok.ensures.last)
    (λ h sides stands. stores_back c.self.inside.plan c.self.inside.stores.len c.self.inside.stores.items c.hear.new.stores _ c.self.inside.stores.ok.0
    (c.hear.auto.stores ∙ ap (λ xs. length xs) c.deref_mut-in-Ok.ensures.value)
    (c.hear.ensures.stores sides (subst (λ (xs : List (Option StoreKept)). AreStores c.self.inside.plan xs sides) (sym c.deref_mut-in-Ok.ensures.value) stands.stores)
    (posted_at now c.self.invariant.valid c.args.p here.0 here.1 may granted c.args.at (c.requires.place here.0 (sym (ap (λ core. slice_get core.standings c.args.p) c.self.view_is) ∙ here.1)) c.deref_mut-in-Ok.result.now c.deref_mut-in-Ok.ensures.value c.in-Ok.last.window c.in-Ok.last.iteration c.in-Ok.ensures.turn.0 c.in-Ok.ensures.turn.1 h sides stands)))
    (λ h sides stands. subst (λ (ss : List SchemeState). AreSchemes c.self.inside.plan ss sides) (sym (put_back c.self.inside.schemes.len c.self.inside.schemes.items c.judged.new.schemes c.self.inside.schemes.ok.0 (c.judged.auto.schemes ∙ ap (λ ss. length ss) c.deref_mut.ensures.value))) (c.in-Ok.ensures.stands sides (is_judging_at now c.self.invariant.valid c.args.p here.0 here.1 may granted c.args.at (c.requires.place here.0 (sym (ap (λ core. slice_get core.standings c.args.p) c.self.view_is) ∙ here.1)) c.deref.result.now c.deref_mut.result.now c.deref.ensures.value c.deref_mut.ensures.value start h sides stands) (subst (λ (ss : List SchemeState). AreSchemes c.self.inside.plan ss sides) (sym c.deref_mut.ensures.value) stands.schemes)))
    (λ h sides stands. c.in-Ok.ensures.lines sides (is_judging_at now c.self.invariant.valid c.args.p here.0 here.1 may granted c.args.at (c.requires.place here.0 (sym (ap (λ core. slice_get core.standings c.args.p) c.self.view_is) ∙ here.1)) c.deref.result.now c.deref_mut.result.now c.deref.ensures.value c.deref_mut.ensures.value start h sides stands) (subst (λ (ss : List SchemeState). AreLined c.self.inside.lines.items ss) (sym c.deref_mut.ensures.value) stands.lined))
    (λ h sides stands. subst (λ (ss : List SchemeState). AreLined c.judged.new.lines.items ss) (sym (put_back c.self.inside.schemes.len c.self.inside.schemes.items c.judged.new.schemes c.self.inside.schemes.ok.0 (c.judged.auto.schemes ∙ ap (λ ss. length ss) c.deref_mut.ensures.value))) (c.in-Ok.ensures.lined sides (is_judging_at now c.self.invariant.valid c.args.p here.0 here.1 may granted c.args.at (c.requires.place here.0 (sym (ap (λ core. slice_get core.standings c.args.p) c.self.view_is) ∙ here.1)) c.deref.result.now c.deref_mut.result.now c.deref.ensures.value c.deref_mut.ensures.value start h sides stands) (subst (λ (ss : List SchemeState). AreLined c.self.inside.lines.items ss) (sym c.deref_mut.ensures.value) stands.lined))))
