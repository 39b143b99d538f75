use Rattle.std.proofs.Common.{◌≡◌, ℕ, Ok, Result, Option, subst, sym, ◌∙◌}
use Rattle.std.specs.List.{flat_map}
use Rattle.std.proofs.lemmas.Result.{IfOk-weaker, IfErr-weaker}
use Rattle.cpl_plan.specs.declared.parts.PlanParts.{PlanParts}
use Rattle.cpl_plan.specs.declared.words.Fault.{Fault}
use Rattle.wave_coupling.specs.Known.{Known}
use Rattle.wave_coupling.specs.Posts.{Post}
use Rattle.wave_coupling.specs.PostedWaves.{initial_post}
use Rattle.participant_tables.specs.WriteKept.{WriteKept}
use Rattle.participant_waves.specs.SendsStand.{AreSends}
use Rattle.participant_waves.specs.SentWaves.{initial_sent}
use Rattle.participant_waves.specs.Written.{AreEntries}
use Rattle.participant_waves.specs.Refusals.{IsNoPost}
use Rattle.participant_waves.proofs.SendsMean.{initial_is}
use Rattle.participant_waves.proofs.sends.Sends.initial_post.Goals as goal

pub returns-clause-posted : goal.returns-clause-posted
returns-clause-posted c =
    IfOk-weaker c.initial_waves.result
    (λ waves. initial_sent c.args.self.now c.args.writes.now ≡ Ok waves)
    (λ waves. (plan : PlanParts) (part : ℕ) (known : Known) → AreSends plan part known c.args.self.now → AreEntries plan part known c.args.writes.now
    → initial_post plan part known (flat_map (λ (e : WriteKept). e.values) c.args.writes.now) ≡ Ok waves)
    (λ waves is plan part known sends entries. initial_is plan part known c.args.self.now sends c.args.writes.now entries ∙ is)
    c.initial_waves.ensures.posted

pub returns-clause-refused : goal.returns-clause-refused
returns-clause-refused c =
    IfErr-weaker c.initial_waves.result
    (IsNoPost (initial_sent c.args.self.now c.args.writes.now))
    (λ why. (plan : PlanParts) (part : ℕ) (known : Known) → AreSends plan part known c.args.self.now → AreEntries plan part known c.args.writes.now
    → IsNoPost (initial_post plan part known (flat_map (λ (e : WriteKept). e.values) c.args.writes.now)) why)
    (λ why is plan part known sends entries.
    subst (λ (meant : Result Post (Option Fault)). IsNoPost meant why) (sym (initial_is plan part known c.args.self.now sends c.args.writes.now entries)) is)
    c.initial_waves.ensures.refused
