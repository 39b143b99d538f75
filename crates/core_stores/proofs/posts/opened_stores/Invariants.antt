use Rattle.std.proofs.Common.{take}
use Rattle.core_stores.specs.StoreMoves.{AreOpened}
use Rattle.core_stores.proofs.posts.opened_stores.Given as goal

-- the waves so far have their stores
abbrev pub invariant-loop-wave : goal.invariant-loop-wave
invariant-loop-wave l = AreOpened (take l.wave-index l.waves) l.stores.items
