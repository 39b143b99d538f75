use Rattle.std.proofs.Common.{◌+◌, ℕ, ap, sym, ◌∙◌}
use Rattle.cpl_plan.specs.declared.words.Fault.TheVariants.{Solver}
use Rattle.cpl_plan.specs.declared.words.StopWish.{StopWish}
use Rattle.cpl_plan.specs.declared.words.StopWish.TheVariants.{Fault as FaultWish}
use Rattle.core_sides.specs.declared.event.StopCause.TheVariants.{Fault as ByFault}
use Rattle.participant_words.specs.AfterDeed.{cause_of}
use Rattle.participant_state.specs.Member.{Member}
use Rattle.participant_state.proofs.TablesMean.{steps_written}
use Rattle.participant_state.proofs.local.Local.cause_of.Goals as goal

-- as many steps were accepted as samples were noted
pub returns-in-Fault : goal.returns-in-Fault
returns-in-Fault c =
    let s = c.self.inside in
    let now = c.args.self.now in
    ap (λ (n : ℕ). ByFault (Solver s.part s.clock.window s.clock.iteration (n + 1) c.in-Fault.code))
    (c.self.invariant.2.steps ∙ sym (steps_written s.clock.window s.clock.iteration s.times.items s.writes))
    ∙ ap (λ (m : Member). cause_of m.plan m.part m.course (FaultWish c.in-Fault.code)) c.self.view_is
    ∙ ap (λ (why : StopWish). cause_of now.plan now.part now.course why) (sym c.in-Fault.is)
