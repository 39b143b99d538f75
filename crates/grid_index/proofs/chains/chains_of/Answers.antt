use Rattle.std.proofs.Common.{◌≡◌, ◌++◌, ◌∷◌, [], ◌+◌, get_or, set, subst, sym, arith, rules}
use Rattle.std.proofs.lemmas.Grind.{common_steps}
use Rattle.grid_index.proofs.Chained.{AreChainsUpto, chains_more, no_chains}
use Rattle.grid_index.proofs.chains.chains_of.Goals as goal

pub loop-v-init : goal.loop-v-init
loop-v-init c = no_chains c.args.places.now c.args.cells c.in_ok-ends.ends.items c.in_ok-before.before.items (search rules) (search rules)

pub loop-v-preserved : goal.loop-v-preserved
loop-v-preserved c =
    let items : c.push.new.self.items ≡ c.loop-v.before.items ++ get_or c.loop-v.ends.items (get_or c.args.places.now c.loop-v.v 0) 0 ∷ [] = grind (arith, common_steps) in
    subst (λ b. AreChainsUpto c.args.places.now c.args.cells (c.loop-v.v + 1) (set c.loop-v.ends.items (get_or c.args.places.now c.loop-v.v 0) (c.loop-v.v + 1)) b) (sym items)
    (chains_more c.args.places.now c.args.cells c.loop-v.v c.loop-v.ends.items c.loop-v.before.items (c.requires.cells c.loop-v.v 0 (search rules)) c.loop-v.invariant)
