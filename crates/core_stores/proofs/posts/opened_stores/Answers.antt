use Rattle.std.proofs.Common.{◌+◌, List, length, take, refl, sym, subst, arith}
use Rattle.std.proofs.lemmas.Option.{slice_get_read}
use Rattle.sample_store.specs.Kept.{Kept}
use Rattle.core_stores.specs.StoreMoves.{AreOpened}
use Rattle.core_stores.proofs.Initials.{opened_more}
use Rattle.core_stores.proofs.posts.opened_stores.Goals as goal

pub loop-wave-preserved : goal.loop-wave-preserved
loop-wave-preserved c =
    let waves = c.args.waves.now in
    let i = c.loop-wave.wave-index in
    let wave = c.wave-item.result in
    subst (λ (stores : List Kept). AreOpened (take (i + 1) waves) stores) (sym c.in_ok-push.ensures.items)
    (opened_more waves c.loop-wave.stores.items i wave c.in_ok-opened_store.field-0 (omega arith)
    (slice_get_read waves (length waves) i wave refl (omega arith) c.wave-item.is) c.loop-wave.invariant c.in_ok-opened_store.ensures)
