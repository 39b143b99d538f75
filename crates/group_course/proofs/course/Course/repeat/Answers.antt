use Rattle.std.proofs.Common.{◌≡◌, Option, option_map, ap, sym, subst, ◌∙◌}
use Rattle.std.proofs.lemmas.Option.{same_Some}
use Rattle.cpl_plan.specs.declared.parts.Scheme.{Scheme}
use Rattle.acceleration.specs.Exchanged.{exchanged}
use Rattle.wave_coupling.specs.InputWave.{relaxed_after}
use Rattle.wave_coupling.specs.Judged.{relax_fault}
use Rattle.group_course.specs.declared.relaxing.OutOfRange.{OutOfRange}
use Rattle.group_course.specs.CourseTells.{CourseTells, changes_in}
use Rattle.group_course.specs.Outcome.{HasRelaxed, relaxer_at, firsts_at}
use Rattle.group_course.proofs.Relaxables.{relaxable, same_values}
use Rattle.group_course.proofs.RelaxedSteps.{outside_is, told_next}
use Rattle.group_course.proofs.Faults.{fault_is, no_outside}
use Rattle.group_course.proofs.course.Course.repeat.Goals as goal

pub relax-requires-clause-relaxable : goal.relax-requires-clause-relaxable
relax-requires-clause-relaxable c =
    let ready = c.requires.ready in
    let taken = c.in_ok-taken.taken in
    relaxable c.args.plan.now c.scheme_of.ensures.valid c.args.stores.now c.args.at c.args.self.now c.requires.first ready c.scheme_of.result.now c.scheme_of.ensures.there
    taken.degrees.items taken.read.items taken.posted.items (c.in_ok-taken.ensures ready.look c.scheme_of.result.now ready.tells c.scheme_of.ensures.there)

pub relax-requires-clause-as_many : goal.relax-requires-clause-as_many
relax-requires-clause-as_many c =
    let ready = c.requires.ready in
    let taken = c.in_ok-taken.taken in
    same_values c.args.plan.now c.scheme_of.ensures.valid c.args.stores.now c.args.at c.args.self.now c.requires.first ready c.scheme_of.result.now c.scheme_of.ensures.there
    taken.degrees.items taken.read.items taken.posted.items (c.in_ok-taken.ensures ready.look c.scheme_of.result.now ready.tells c.scheme_of.ensures.there)

pub returns-clause-outside : goal.returns-clause-outside
returns-clause-outside c = λ look scheme tells is.
    let at = c.args.at in
    let plan = c.args.plan.now in
    let s = c.scheme_of.result.now in
    let there = c.scheme_of.ensures.there in
    let taken = c.in_ok-taken.taken in
    let are = c.in_ok-taken.ensures look s tells there in
    let outside = outside_is plan look s at.window at.start at.number c.args.self.now c.relax.new.self c.requires.first (tells.before s there)
    taken.degrees.items taken.read.items taken.posted.items are.degrees_are are.read_are are.posted_are c.args.changes.now c.in_ok-outside.outside c.in_ok-outside.ensures.relaxed in
    subst (λ (z : Scheme). c.fault_of.result ≡ option_map (relax_fault plan look at.scheme at.window at.number z) (relaxed_after plan look z at.window at.start at.number).outside)
    (same_Some s scheme (sym there ∙ is))
    (fault_is plan look at.scheme at.window at.number s c.over.result.now c.in_ok-outside.outside c.fault_of.result (relaxed_after plan look s at.window at.start at.number).outside
    c.over.ensures c.fault_of.ensures.none c.fault_of.ensures.some outside)

pub returns-clause-tells : goal.returns-clause-tells
returns-clause-tells c = λ none look scheme tells is changes.
    let at = c.args.at in
    let plan = c.args.plan.now in
    let s = c.scheme_of.result.now in
    let there = c.scheme_of.ensures.there in
    let ready = c.requires.ready in
    let taken = c.in_ok-taken.taken in
    let are = c.in_ok-taken.ensures look s tells there in
    let same : s ≡ scheme = same_Some s scheme (sym there ∙ is) in
    let out = no_outside c.over.result.now at.scheme at.window at.number c.in_ok-outside.outside c.fault_of.result c.fault_of.ensures.some none in
    let can = relaxable plan c.scheme_of.ensures.valid c.args.stores.now at c.args.self.now c.requires.first ready s there
    taken.degrees.items taken.read.items taken.posted.items (c.in_ok-taken.ensures ready.look s ready.tells there) in
    subst (λ (z : Scheme). CourseTells plan look z at.window at.start at.number c.relax.new.self) same
    (told_next plan look s at.window at.start at.number c.args.self.now c.relax.new.self c.requires.first (tells.before s there)
    taken.degrees.items taken.read.items taken.posted.items are.degrees_are are.read_are are.posted_are c.args.changes.now can
    (changes ∙ ap (λ (z : Scheme). changes_in plan look z at.window at.start at.number) (sym same))
    (subst (λ (o : Option OutOfRange). HasRelaxed (relaxer_at at.number s.accel c.args.self.now) (exchanged taken.degrees.items taken.read.items taken.posted.items)
    (firsts_at at.number c.args.changes.now c.args.self.now) c.args.self.now c.relax.new.self o) out c.in_ok-outside.ensures.relaxed))
