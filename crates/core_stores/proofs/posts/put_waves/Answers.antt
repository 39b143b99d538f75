use Rattle.std.proofs.Common.{◌≡◌, ℕ, Some, length, get_or, slice_get, sym, subst, arith}
use Rattle.std.proofs.lemmas.Option.{slice_get-get_or}
use Rattle.std.specs.Vec.Iter.{into_iter_items, into_iter_len}
use Rattle.wave_coupling.specs.Posts.{Wave}
use Rattle.core_stores.specs.StoreMoves.{IsPut}
use Rattle.core_stores.proofs.Changes.{AreChanged}
use Rattle.core_stores.proofs.Posted.{IsPutOf, posted_next, put_stand, put_posted}
use Rattle.core_stores.proofs.Rests.{wave_found}
use Rattle.core_stores.proofs.SoFar.{so_far_other, never_short, so_far_one}
use Rattle.core_stores.proofs.posts.put_waves.Goals as goal
use Rattle.core_stores.proofs.posts.put_waves.Goals.{then-exchange-p+in-Some, then-exchange-p+in_default, else-exchange-p}

pub loop-x-preserved : goal.loop-x-preserved
loop-x-preserved c =
    let plan = c.args.plan.now in
    let p = c.args.p in
    let x = c.loop-x.x in
    let stores = c.loop-x.stores in
    let rest = c.loop-x.rest in
    let Moves = IsPutOf plan p c.args.w c.args.k c.args.waves.items in
    let many = into_iter_len rest in
    let e = c.exchange.result.now in
    let is = c.loop-x.invariant in
    elim c.if-exchange-p.branch [
      | then-exchange-p+in-Some w ↦
          let one = get_or stores x w.index-stores-x.result in
          let wave = w.in-Some.wave in
          let there : slice_get stores x ≡ Some one = slice_get-get_or stores x w.index-stores-x.result (omega arith) in
          rw (w.stores-is, w.rest-is)
          (so_far_one plan p Moves c.args.stores.now c.args.waves.items x stores (into_iter_items rest) many e is c.exchange.ensures w.if-exchange-p.true
          one w.put_wave.new.store wave (into_iter_items w.next.new.self) (into_iter_len w.next.new.self) there w.in-Some.ensures.cases.0 w.in-Some.ensures.cases.1
          (λ found. subst (λ (v : Wave). IsPut c.args.w c.args.k v one w.put_wave.new.store)
          (sym (wave_found plan p e x c.args.waves.items wave w.if-exchange-p.true found)) w.put_wave.ensures))
      | then-exchange-p+in_default w ↦ absurd (never_short plan p Moves c.args.stores.now c.args.waves.items x stores (into_iter_items rest) many e is c.exchange.ensures w.if-exchange-p.true w.in_default.ensures.cases.0)
      | else-exchange-p w ↦
          rw (w.stores-is, w.rest-is)
          (so_far_other plan p Moves c.args.stores.now c.args.waves.items x stores (into_iter_items rest) many e is c.exchange.ensures w.if-exchange-p.false)
    ]

pub returns-clause-stands : goal.returns-clause-stands
returns-clause-stands c = λ sides side are given.
    let whole : c.loop-x.x ≡ length c.args.plan.now.exchanges = omega arith in
    put_stand c.args.plan.now c.args.p c.args.stores.now c.loop-x.stores sides side are c.args.w c.args.k c.args.waves.items
    (subst (λ (n : ℕ). AreChanged c.args.plan.now.exchanges c.args.p (IsPutOf c.args.plan.now c.args.p c.args.w c.args.k c.args.waves.items) n c.args.stores.now c.loop-x.stores)
    whole c.loop-x.invariant.changed) given

pub returns-clause-posted : goal.returns-clause-posted
returns-clause-posted c =
    let whole : c.loop-x.x ≡ length c.args.plan.now.exchanges = omega arith in
    put_posted c.args.plan.now c.args.p c.args.w c.args.k c.args.waves.items c.args.stores.now c.loop-x.stores
    (subst (λ (n : ℕ). AreChanged c.args.plan.now.exchanges c.args.p (IsPutOf c.args.plan.now c.args.p c.args.w c.args.k c.args.waves.items) n c.args.stores.now c.loop-x.stores)
    whole c.loop-x.invariant.changed)

pub returns-clause-next : goal.returns-clause-next
returns-clause-next c =
    let whole : c.loop-x.x ≡ length c.args.plan.now.exchanges = omega arith in
    posted_next c.args.plan.now.exchanges c.loop-x.stores c.args.p c.args.w c.args.k
    (put_posted c.args.plan.now c.args.p c.args.w c.args.k c.args.waves.items c.args.stores.now c.loop-x.stores
    (subst (λ (n : ℕ). AreChanged c.args.plan.now.exchanges c.args.p (IsPutOf c.args.plan.now c.args.p c.args.w c.args.k c.args.waves.items) n c.args.stores.now c.loop-x.stores)
    whole c.loop-x.invariant.changed))
