use Rattle.std.proofs.Common.{sym, ap, subst}
use Rattle.coupled_loop.specs.Given.{accepts}
use Rattle.sample_store.specs.Kept.{Kept}
use Rattle.sample_store.specs.KeptSteps.{after_acceptance}
use Rattle.sample_store.specs.StandsFor.{StandsFor}
use Rattle.sample_store.proofs.Stands.{acceptance_stands}
use Rattle.sample_store.proofs.store.Store.accept.Goals as goal

pub returns-clause-stands : goal.returns-clause-stands
returns-clause-stands c = λ given stands.
    subst (λ (kept : Kept). StandsFor (accepts c.args.w c.args.self.now.progress.iteration given) kept)
    (ap after_acceptance (sym c.self.view_is))
    (acceptance_stands given c.args.self.now stands c.args.w c.requires.newest c.requires.open)
