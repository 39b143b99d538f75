use Rattle.std.proofs.Common.{◌≡◌, ℕ, List, Ok, Result, Option, subst, sym, ◌∙◌}
use Rattle.std.proofs.lemmas.Result.{IfOk-weaker, IfErr-weaker}
use Rattle.cpl_plan.specs.declared.parts.PlanParts.{PlanParts}
use Rattle.cpl_plan.specs.declared.words.Fault.{Fault}
use Rattle.wave_coupling.specs.Known.{Known}
use Rattle.wave_coupling.specs.Noted.{Written}
use Rattle.wave_coupling.specs.Posts.{Post}
use Rattle.wave_coupling.specs.PostedWaves.{post_of}
use Rattle.participant_waves.specs.SendsStand.{AreSends}
use Rattle.participant_waves.specs.SentWaves.{turn_sent}
use Rattle.participant_waves.specs.Written.{AreWritten}
use Rattle.participant_waves.specs.Refusals.{IsNoPost}
use Rattle.participant_waves.proofs.SendsMean.{turn_is}
use Rattle.participant_waves.proofs.sends.Sends.turn_post.Goals as goal

pub returns-clause-posted : goal.returns-clause-posted
returns-clause-posted c =
    IfOk-weaker c.turn_waves.result
    (λ waves. turn_sent c.args.self.now c.args.window c.args.iteration c.args.writes.now ≡ Ok waves)
    (λ waves. (plan : PlanParts) (part : ℕ) (known : Known) (written : List Written) → AreSends plan part known c.args.self.now → AreWritten plan part known written c.args.writes.now
    → post_of plan part known c.args.window c.args.iteration written ≡ Ok waves)
    (λ waves is plan part known written sends turn. turn_is plan part known c.args.self.now sends c.args.window c.args.iteration written c.args.writes.now turn ∙ is)
    c.turn_waves.ensures.posted

pub returns-clause-refused : goal.returns-clause-refused
returns-clause-refused c =
    IfErr-weaker c.turn_waves.result
    (IsNoPost (turn_sent c.args.self.now c.args.window c.args.iteration c.args.writes.now))
    (λ why. (plan : PlanParts) (part : ℕ) (known : Known) (written : List Written) → AreSends plan part known c.args.self.now → AreWritten plan part known written c.args.writes.now
    → IsNoPost (post_of plan part known c.args.window c.args.iteration written) why)
    (λ why is plan part known written sends turn.
    subst (λ (meant : Result Post (Option Fault)). IsNoPost meant why) (sym (turn_is plan part known c.args.self.now sends c.args.window c.args.iteration written c.args.writes.now turn)) is)
    c.turn_waves.ensures.refused
