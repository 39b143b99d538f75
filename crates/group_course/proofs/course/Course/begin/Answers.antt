use Rattle.std.proofs.Common.{Err, ◌≡◌, ℕ, List, length, ap, refl, sym, subst, IfOk, ◌∙◌}
use Rattle.std.specs.Prelude.{sum_by}
use Rattle.std.specs.Option.{IfSome}
use Rattle.acceleration.specs.Exchanged.{Exchanged, exchanged}
use Rattle.acceleration.specs.Residual.{width}
use Rattle.acceleration.specs.RelaxedIterate.{relaxed_iterate}
use Rattle.acceleration.specs.RelaxerState.{fresh, method_of}
use Rattle.wave_coupling.specs.Posts.{Wave}
use Rattle.group_course.specs.Outcome.{HasRelaxed}
use Rattle.group_course.proofs.RelaxedSteps.{widths-kept, same_exchanged}
use Rattle.group_course.proofs.Errors.{failed}
use Rattle.group_course.proofs.course.Course.begin.Goals as goal

pub invariant_of-t-32 : goal.invariant_of-t-32
invariant_of-t-32 c =
    let taken = c.args.taken.now in
    let es = same_exchanged c.as_slice-degrees.result.now taken.degrees.items c.as_slice-read.result.now taken.read.items c.as_slice-posted.result.now taken.posted.items
    c.as_slice-degrees.ensures.value c.as_slice-read.ensures.value c.as_slice-posted.ensures.value in
    let iterate = ap (λ (all : List Exchanged). relaxed_iterate c.in_ok-relaxer.relaxer all) (sym es) ∙ c.in-Ok.ensures.iterate in
    let many = ap (λ (ws : List Wave). sum_by width ws) c.as_slice-posted.ensures.value in
    subst (λ (n : ℕ). IfSome c.relax_waves.new.self.memory (λ last. length last.residual ≡ n))
    (many ∙ sym (widths-kept c.in_ok-relaxer.relaxer c.relax_waves.new.self taken.degrees.items taken.read.items taken.posted.items c.in-Ok.waves.items c.requires.relaxable iterate))
    c.in-Ok.ensures.remembers

pub returns-in-Err-clause-relaxed : goal.returns-in-Err-clause-relaxed
returns-in-Err-clause-relaxed c =
    let taken = c.args.taken.now in
    let es = same_exchanged c.as_slice-degrees.result.now taken.degrees.items c.as_slice-read.result.now taken.read.items c.as_slice-posted.result.now taken.posted.items
    c.as_slice-degrees.ensures.value c.as_slice-read.ensures.value c.as_slice-posted.ensures.value in
    let relaxer = c.in_ok-relaxer.ensures in
    subst (λ (all : List Exchanged). IfOk c.outside_of.result (HasRelaxed (fresh (method_of c.args.accel.now)) all c.args.changes.now c.args.self.now c.args.self.now)) es
    (subst (λ r. IfOk c.outside_of.result (HasRelaxed r (exchanged c.as_slice-degrees.result.now c.as_slice-read.result.now c.as_slice-posted.result.now) c.args.changes.now c.args.self.now c.args.self.now)) relaxer
    (failed c.in-Err.error (Err c.in-Err.error) c.outside_of.result c.in_ok-relaxer.relaxer (exchanged c.as_slice-degrees.result.now c.as_slice-read.result.now c.as_slice-posted.result.now)
    c.args.changes.now c.args.self.now c.args.self.now refl c.in-Err.ensures.overflow c.outside_of.ensures.outside c.outside_of.ensures.memory refl))
