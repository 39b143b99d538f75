use Rattle.std.proofs.Common.{inl, inr, List, Option, sym, subst, ap, ◌∙◌}
use Rattle.cpl_plan.specs.declared.words.Verdict.TheVariants.{Again, Converged, AtLimit, NotConverged}
use Rattle.coupled_loop.specs.Numbered.{put}
use Rattle.sample_store.specs.Kept.{Kept as StoreKept}
use Rattle.core_stores.specs.StoresStand.{AreStores}
use Rattle.core_stores.proofs.Turns.{stores_same}
use Rattle.coupling_core.specs.Heard.{side_heard}
use Rattle.coupling_core.proofs.JudgeEvents.{verdict_given}
use Rattle.coupling_core.proofs.judging.go_on.Goals.{in-Converged, in-AtLimit, in-Again}
use Rattle.coupling_core.proofs.judging.go_on.Goals as goal

pub returns-clause-stores : goal.returns-clause-stores
returns-clause-stores c = λ state are posted.
    elim c.match-last.branch [
      | in-Converged w ↦ subst (λ (xs : List (Option StoreKept)). AreStores c.args.plan.now xs (put state c.args.p (side_heard c.args.last (state c.args.p)))) (sym w.stores-is)
          (w.complete.ensures.stores state (side_heard c.args.last (state c.args.p)) c.args.last.iteration are posted (verdict_given c.args.last Converged (state c.args.p) c.requires.fault w.in-Converged.is))
      | in-AtLimit w ↦ subst (λ (xs : List (Option StoreKept)). AreStores c.args.plan.now xs (put state c.args.p (side_heard c.args.last (state c.args.p)))) (sym w.stores-is)
          (w.complete-in-AtLimit.ensures.stores state (side_heard c.args.last (state c.args.p)) c.args.last.iteration are posted (verdict_given c.args.last AtLimit (state c.args.p) c.requires.fault w.in-AtLimit.is))
      | in-Again w ↦ subst (λ (xs : List (Option StoreKept)). AreStores c.args.plan.now xs (put state c.args.p (side_heard c.args.last (state c.args.p)))) (sym w.stores-is)
          (stores_same c.args.plan.now c.args.stores.now state c.args.p (side_heard c.args.last (state c.args.p))
          (elim w.in-Again.is [
            | inl e ↦ verdict_given c.args.last Again (state c.args.p) c.requires.fault e
            | inr e ↦ verdict_given c.args.last (NotConverged e.0) (state c.args.p) c.requires.fault e.1
          ]) are)
    ]
