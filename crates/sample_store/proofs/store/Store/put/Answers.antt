use Rattle.std.proofs.Common.{sym, ap, subst, ◌∙◌}
use Rattle.cpl_plan.specs.declared.words.Item.TheVariants.{Posted}
use Rattle.coupled_loop.specs.Given.{gives}
use Rattle.sample_store.specs.Kept.{Kept}
use Rattle.sample_store.specs.StandsFor.{StandsFor}
use Rattle.sample_store.proofs.Stands.{next_window_stands, next_iteration_stands}
use Rattle.sample_store.proofs.store.Store.put.Goals as goal
use Rattle.sample_store.proofs.store.Store.put.Goals.{then-self, else-self}

pub returns-clause-stands : goal.returns-clause-stands
returns-clause-stands c = λ given stands. elim c.if-self.branch [
  | then-self w ↦
      subst (λ (kept : Kept). StandsFor (gives (Posted c.args.w c.args.k) c.args.k c.args.wave given) kept)
      (sym (w.self-is ∙ w.begin_window.ensures))
      (next_window_stands given c.args.self.now stands c.args.w c.args.k c.args.wave
      (ap (λ (kept : Kept). kept.progress.is_accepted) (sym c.self.view_is) ∙ w.if-self.true) c.requires.next)
  | else-self w ↦
      subst (λ (kept : Kept). StandsFor (gives (Posted c.args.w c.args.k) c.args.k c.args.wave given) kept)
      (sym (w.self-is ∙ w.repeat_window.ensures))
      (next_iteration_stands given c.args.self.now stands c.args.w c.args.k c.args.wave
      (ap (λ (kept : Kept). kept.progress.is_accepted) (sym c.self.view_is) ∙ w.if-self.false) c.requires.next)
]
