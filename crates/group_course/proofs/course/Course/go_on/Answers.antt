use Rattle.std.proofs.Common.{Err, ◌≡◌, ℕ, List, length, ap, refl, sym, subst, IfOk, ◌∙◌}
use Rattle.std.specs.Prelude.{sum_by}
use Rattle.std.specs.Option.{IfSome}
use Rattle.acceleration.specs.Exchanged.{Exchanged, exchanged}
use Rattle.acceleration.specs.Residual.{width}
use Rattle.acceleration.specs.RelaxedIterate.{relaxed_iterate}
use Rattle.acceleration.specs.RelaxerState.{RelaxerState}
use Rattle.wave_coupling.specs.Posts.{Wave}
use Rattle.group_course.specs.CourseKept.{CourseKept}
use Rattle.group_course.specs.Outcome.{HasRelaxed}
use Rattle.group_course.proofs.RelaxedSteps.{widths-kept, same_exchanged}
use Rattle.group_course.proofs.Errors.{failed}
use Rattle.group_course.proofs.course.Course.go_on.Goals as goal

pub invariant_of-self : goal.invariant_of-self
invariant_of-self c =
    let taken = c.args.taken.now in
    let es = same_exchanged c.as_slice-degrees.result.now taken.degrees.items c.as_slice-read.result.now taken.read.items c.as_slice-posted.result.now taken.posted.items
    c.as_slice-degrees.ensures.value c.as_slice-read.ensures.value c.as_slice-posted.ensures.value in
    let iterate = ap (λ (all : List Exchanged). relaxed_iterate c.self.inside.relaxer all) (sym es) ∙ c.in-Ok.ensures.iterate in
    let many = ap (λ (ws : List Wave). sum_by width ws) c.as_slice-posted.ensures.value in
    subst (λ (n : ℕ). IfSome c.relax_waves.new.self.memory (λ last. length last.residual ≡ n))
    (many ∙ sym (widths-kept c.self.inside.relaxer c.relax_waves.new.self taken.degrees.items taken.read.items taken.posted.items c.in-Ok.waves.items c.requires.relaxable iterate))
    c.in-Ok.ensures.remembers

pub returns-in-Err-clause-relaxed : goal.returns-in-Err-clause-relaxed
returns-in-Err-clause-relaxed c =
    let taken = c.args.taken.now in
    let es = same_exchanged c.as_slice-degrees.result.now taken.degrees.items c.as_slice-read.result.now taken.read.items c.as_slice-posted.result.now taken.posted.items
    c.as_slice-degrees.ensures.value c.as_slice-read.ensures.value c.as_slice-posted.ensures.value in
    let inside = c.self.inside in
    let kept : RelaxerState → CourseKept = λ r. record { relaxer = r; waves = inside.waves.items; firsts = inside.firsts.items } in
    let same = ap kept c.in-Err.ensures.unchanged ∙ c.self.view_is in
    subst (λ (r : RelaxerState). IfOk c.outside_of.result (HasRelaxed r (exchanged taken.degrees.items taken.read.items taken.posted.items) c.args.self.now.firsts c.args.self.now (kept c.relax_waves.new.self)))
    (ap (λ (k : CourseKept). k.relaxer) c.self.view_is)
    (subst (λ (all : List Exchanged). IfOk c.outside_of.result (HasRelaxed inside.relaxer all c.args.self.now.firsts c.args.self.now (kept c.relax_waves.new.self))) es
    (failed c.in-Err.error (Err c.in-Err.error) c.outside_of.result inside.relaxer (exchanged c.as_slice-degrees.result.now c.as_slice-read.result.now c.as_slice-posted.result.now)
    c.args.self.now.firsts c.args.self.now (kept c.relax_waves.new.self) refl c.in-Err.ensures.overflow c.outside_of.ensures.outside c.outside_of.ensures.memory same))
