use Rattle.std.proofs.Common.{ap, ◌∙◌}
use Rattle.std.specs.Option.{option_and_then}
use Rattle.coupling_core.proofs.PostEvents.{stored_alone, stored_member}
use Rattle.core_stores.proofs.Posted.{posted_open}
use Rattle.coupling_core.proofs.posting.post_waves.Goals as goal

pub complete-requires-clause-open : goal.complete-requires-clause-open
complete-requires-clause-open c = posted_open c.args.plan.now.exchanges _ c.args.p c.args.w c.args.k c.put_waves.ensures.posted

pub returns-in-None-clause-stores : goal.returns-in-None-clause-stores
returns-in-None-clause-stores c =
    stored_alone c.args.plan.now c.args.p c.args.w c.args.k c.args.waves.items _ _ _ (ap (option_and_then (λ part. part.group)) c.part.ensures ∙ c.in-None.is)
    c.put_waves.ensures.stands c.complete.ensures.stores c.put_waves.ensures.posted

pub returns-in-Some-clause-stores : goal.returns-in-Some-clause-stores
returns-in-Some-clause-stores c =
    stored_member c.args.plan.now c.args.p c.args.w c.args.k c.args.waves.items _ _ c.in-Some.scheme (ap (option_and_then (λ part. part.group)) c.part.ensures ∙ c.in-Some.is)
    c.put_waves.ensures.stands
