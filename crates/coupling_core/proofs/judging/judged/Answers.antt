use Rattle.std.proofs.Common.{◌≡◌, ◌++◌, get_or, List, Option, Some, sym, ap, subst, ◌∙◌, set}
use Rattle.std.proofs.lemmas.Option.{get_or_from_slice_get}
use Rattle.cpl_plan.specs.declared.words.IterLine.{IterLine}
use Rattle.coupled_loop.specs.CoreState.{look_in}
use Rattle.wave_coupling.specs.Coupling.{judge_of}
use Rattle.group_course.specs.JudgementOf.{judgement_by}
use Rattle.core_schemes.specs.Judging.{MayJudge}
use Rattle.core_schemes.specs.SchemesStand.{IsSchemeOf}
use Rattle.core_schemes.specs.declared.schemes.LastJudged.{LastJudged}
use Rattle.core_schemes.specs.declared.schemes.SchemeState.{SchemeState}
use Rattle.core_schemes.proofs.Sets.{schemes_set}
use Rattle.coupling_core.specs.Heard.{IsStrict, line_told}
use Rattle.coupling_core.specs.LinesStand.{AreLined}
use Rattle.coupling_core.proofs.JudgeEvents.{judged_lines, judged_lined, judged_strict}
use Rattle.coupling_core.proofs.judging.judged.Goals as goal

pub returns-clause-judgement : goal.returns-clause-judgement
returns-clause-judgement c = λ sides judging.
    let same = get_or_from_slice_get c.args.schemes.now c.args.at.scheme c.requires.ready.state c.index-schemes-at.result c.requires.ready.there in
    let there = c.requires.ready.there ∙ ap Some (sym same) in
    subst (λ (l : LastJudged). judgement_by l.fault l.verdict ≡ judge_of c.args.plan.now (look_in sides) c.args.at.scheme c.args.at.window c.args.at.number) (sym c.noted.ensures.last)
    (c.in_ok-told.ensures.judgement sides (judging (get_or c.args.schemes.now c.args.at.scheme c.index-schemes-at.result) there))

pub returns-clause-stands : goal.returns-clause-stands
returns-clause-stands c = λ sides judging are.
    let same = get_or_from_slice_get c.args.schemes.now c.args.at.scheme c.requires.ready.state c.index-schemes-at.result c.requires.ready.there in
    let there = c.requires.ready.there ∙ ap Some (sym same) in
    schemes_set c.args.plan.now c.args.schemes.now sides c.args.at.scheme c.judge_once.new.state are (λ scheme at.
    subst (λ (o : Option LastJudged). IsSchemeOf c.args.plan.now sides c.args.at.scheme scheme c.judge_once.new.state o) (sym c.in_ok-told.ensures.kept)
    (c.in_ok-told.ensures.stands sides scheme (judging (get_or c.args.schemes.now c.args.at.scheme c.index-schemes-at.result) there) at))

pub returns-clause-strict : goal.returns-clause-strict
returns-clause-strict c =
    let same = get_or_from_slice_get c.args.schemes.now c.args.at.scheme c.requires.ready.state c.index-schemes-at.result c.requires.ready.there in
    let there = c.requires.ready.there ∙ ap Some (sym same) in
    let may = subst (λ (s : SchemeState). MayJudge c.args.plan.now c.args.stores.now s c.args.at c.requires.ready.can.sides) (sym same) c.requires.ready.can.may in
    subst (λ (l : LastJudged). IsStrict l) (sym c.noted.ensures.last)
    (judged_strict c.args.plan.now c.parts-valid.ensures.valid c.args.stores.now c.args.at (get_or c.args.schemes.now c.args.at.scheme c.index-schemes-at.result) c.requires.ready.can.sides may c.judge_once.new.state c.in_ok-told.told.last (λ scheme at. c.in_ok-told.ensures.stands c.requires.ready.can.sides scheme may at))

pub returns-clause-lines : goal.returns-clause-lines
returns-clause-lines c = λ sides judging lined.
    let same = get_or_from_slice_get c.args.schemes.now c.args.at.scheme c.requires.ready.state c.index-schemes-at.result c.requires.ready.there in
    let there = c.requires.ready.there ∙ ap Some (sym same) in
    c.noted.ensures.lines ∙ ap (λ (xs : List IterLine). xs ++ line_told c.args.at c.in_ok-told.told) c.reserve.ensures.items
    ∙ judged_lines c.args.plan.now c.parts-valid.ensures.valid c.args.stores.now c.args.schemes.now c.args.at (get_or c.args.schemes.now c.args.at.scheme c.index-schemes-at.result) c.judge_once.new.state there c.args.lines.now.items lined sides (judging (get_or c.args.schemes.now c.args.at.scheme c.index-schemes-at.result) there) c.in_ok-told.told.last c.in_ok-told.ensures.turn c.in_ok-told.ensures.kept c.in_ok-told.told.norms c.in_ok-told.ensures.once c.in_ok-told.ensures.verdict c.in_ok-told.ensures.norms

pub returns-clause-lined : goal.returns-clause-lined
returns-clause-lined c = λ sides judging lined.
    let same = get_or_from_slice_get c.args.schemes.now c.args.at.scheme c.requires.ready.state c.index-schemes-at.result c.requires.ready.there in
    let there = c.requires.ready.there ∙ ap Some (sym same) in
    subst (λ (xs : List IterLine). AreLined xs (set c.args.schemes.now c.args.at.scheme c.judge_once.new.state)) (sym (c.noted.ensures.lines ∙ ap (λ (xs : List IterLine). xs ++ line_told c.args.at c.in_ok-told.told) c.reserve.ensures.items))
    (judged_lined c.args.plan.now c.parts-valid.ensures.valid c.args.stores.now c.args.schemes.now c.args.at (get_or c.args.schemes.now c.args.at.scheme c.index-schemes-at.result) c.judge_once.new.state there c.args.lines.now.items lined sides (judging (get_or c.args.schemes.now c.args.at.scheme c.index-schemes-at.result) there) c.in_ok-told.told.last c.in_ok-told.ensures.turn c.in_ok-told.ensures.kept c.in_ok-told.told.norms c.in_ok-told.ensures.once c.in_ok-told.ensures.known)
