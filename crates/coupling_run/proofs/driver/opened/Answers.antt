use Rattle.std.proofs.Common.{refl, []}
use Rattle.coupling_run.proofs.driver.opened.Goals as goal

pub open-requires-2-clause-next : goal.open-requires-2-clause-next
open-requires-2-clause-next c =
    let stands = c.in_ok-open.ensures.stands c.args.windows [] c.in_ok-core.ensures.stands in
    rw (stands.second.posts, stands.second.taken, stands.second.ending) refl

pub returns : goal.returns
returns c =
    let stands = c.in_ok-open.ensures.stands c.args.windows [] c.in_ok-core.ensures.stands in
    record { opened = (_, c.in_ok-open-2.ensures.stands c.args.windows _ stands, refl) }
