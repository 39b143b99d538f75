use Rattle.std.proofs.Common.{◌≡◌, ℕ, List, length, arith, ap, sym, subst, ◌∙◌}
use Rattle.std.specs.Prelude.{slice_get}
use Rattle.std.proofs.lemmas.List.{length-map}
use Rattle.std.proofs.lemmas.Option.{same_Some}
use Rattle.cpl_plan.specs.declared.parts.Measure.{Measure}
use Rattle.cpl_plan.specs.declared.parts.Scheme.{Scheme}
use Rattle.wave_coupling.specs.Judged.{change_in, size_in, verdict_in}
use Rattle.group_course.proofs.OfPlan.{few_measures}
use Rattle.group_course.proofs.RelaxedSteps.{firsts_are}
use Rattle.group_course.proofs.Verdicts.{verdict_is}
use Rattle.group_course.proofs.course.Course.verdict.Goals as goal

pub judge-requires-clause-few : goal.judge-requires-clause-few
judge-requires-clause-few c =
    omega (
      arith,
      ap (λ (ms : List Measure). length ms) c.as_slice-2.ensures,
      few_measures c.args.plan.now c.scheme_of-scheme.ensures.valid c.args.at.scheme c.scheme_of-scheme.result.now c.scheme_of-scheme.ensures.there,
    )

pub judge-requires-clause-norms : goal.judge-requires-clause-norms
judge-requires-clause-norms c =
    let ready = c.requires.ready in
    let at = c.args.at in
    let s = c.scheme_of-scheme.result.now in
    let are = c.requires.norms ready.look s ready.tells c.scheme_of-scheme.ensures.there in
    omega (
      arith,
      ap (λ (ms : List Measure). length ms) c.as_slice-2.ensures,
      ap (λ (ns : List ℕ). length ns) c.as_slice-changes.ensures.value,
      ap (λ (ns : List ℕ). length ns) are.0,
      length-map s.measures (λ m. change_in c.args.plan.now ready.look m.exchange at.window at.start at.number (slice_get c.args.plan.now.exchanges m.exchange)),
    )

pub judge-requires-clause-sizes : goal.judge-requires-clause-sizes
judge-requires-clause-sizes c =
    let ready = c.requires.ready in
    let at = c.args.at in
    let s = c.scheme_of-scheme.result.now in
    let are = c.requires.norms ready.look s ready.tells c.scheme_of-scheme.ensures.there in
    omega (
      arith,
      ap (λ (ms : List Measure). length ms) c.as_slice-2.ensures,
      ap (λ (ns : List ℕ). length ns) c.as_slice-sizes.ensures.value,
      ap (λ (ns : List ℕ). length ns) are.1,
      length-map s.measures (λ m. size_in c.args.plan.now ready.look m.exchange at.window at.number (slice_get c.args.plan.now.exchanges m.exchange)),
    )

pub judge-requires-clause-firsts : goal.judge-requires-clause-firsts
judge-requires-clause-firsts c =
    let ready = c.requires.ready in
    let at = c.args.at in
    let s = c.scheme_of-scheme.result.now in
    let there = c.scheme_of-scheme.ensures.there in
    let are = c.requires.norms ready.look s ready.tells there in
    let firsts = c.firsts-firsts.ensures
    ∙ firsts_are c.args.plan.now ready.look s at.window at.start at.number c.args.self.now c.as_slice.result.now c.requires.first (ready.tells.before s there) (c.as_slice.ensures.value ∙ are.0) in
    omega (
      arith,
      ap (λ (ms : List Measure). length ms) c.as_slice-2.ensures,
      ap (λ (ns : List ℕ). length ns) firsts,
      length-map s.measures (λ m. change_in c.args.plan.now ready.look m.exchange at.window at.start 1 (slice_get c.args.plan.now.exchanges m.exchange)),
    )

pub returns : goal.returns
returns c = λ look scheme tells is.
    let at = c.args.at in
    let plan = c.args.plan.now in
    let s = c.scheme_of-scheme.result.now in
    let there = c.scheme_of-scheme.ensures.there in
    let are = c.requires.norms look s tells there in
    let firsts = c.firsts-firsts.ensures
    ∙ firsts_are plan look s at.window at.start at.number c.args.self.now c.as_slice.result.now c.requires.first (tells.before s there) (c.as_slice.ensures.value ∙ are.0) in
    subst (λ (z : Scheme). c.judge.result ≡ verdict_in plan look z at.window at.start at.number) (same_Some s scheme (sym there ∙ is))
    (c.judge.ensures.exact
    ∙ verdict_is plan look s at.window at.start at.number c.as_slice-2.result.now c.as_slice-changes.result.now c.as_slice-sizes.result.now c.firsts-firsts.result.now
    c.as_slice-2.ensures (c.as_slice-changes.ensures.value ∙ are.0) (c.as_slice-sizes.ensures.value ∙ are.1) firsts)
