use Rattle.std.proofs.Common.{◌≡◌, ℕ, Some, length, get_or, slice_get, subst, arith}
use Rattle.std.proofs.lemmas.Option.{slice_get-get_or}
use Rattle.std.specs.Vec.Iter.{into_iter_items, into_iter_len}
use Rattle.core_stores.proofs.Changes.{AreChanged}
use Rattle.core_stores.proofs.Posted.{IsInstalled, installed_stand, install_next}
use Rattle.core_stores.proofs.SoFar.{so_far_other, never_short, so_far_one}
use Rattle.core_stores.proofs.posts.install.Goals as goal
use Rattle.core_stores.proofs.posts.install.Goals.{then-exchange-p+in-Some, then-exchange-p+in_default, else-exchange-p}

pub loop-x-preserved : goal.loop-x-preserved
loop-x-preserved c =
    let plan = c.args.plan.now in
    let p = c.args.p in
    let x = c.loop-x.x in
    let stores = c.loop-x.stores in
    let rest = c.loop-x.rest in
    let Moves = IsInstalled plan p c.args.opened.items in
    let many = into_iter_len rest in
    let e = c.exchange.result.now in
    let is = c.loop-x.invariant in
    elim c.if-exchange-p.branch [
      | then-exchange-p+in-Some w ↦
          let one = get_or stores x w.index-stores-x.result in
          let store = w.in-Some.store in
          let there : slice_get stores x ≡ Some one = slice_get-get_or stores x w.index-stores-x.result (omega arith) in
          rw (w.stores-is, w.rest-is)
          (so_far_one plan p Moves c.args.stores.now c.args.opened.items x stores (into_iter_items rest) many e is c.exchange.ensures w.if-exchange-p.true
          one w.put_store.new.place store (into_iter_items w.next.new.self) (into_iter_len w.next.new.self) there w.in-Some.ensures.cases.0 w.in-Some.ensures.cases.1
          (λ found. (store, found, w.put_store.ensures)))
      | then-exchange-p+in_default w ↦ absurd (never_short plan p Moves c.args.stores.now c.args.opened.items x stores (into_iter_items rest) many e is c.exchange.ensures w.if-exchange-p.true w.in_default.ensures.cases.0)
      | else-exchange-p w ↦
          rw (w.stores-is, w.rest-is)
          (so_far_other plan p Moves c.args.stores.now c.args.opened.items x stores (into_iter_items rest) many e is c.exchange.ensures w.if-exchange-p.false)
    ]

pub returns-clause-stands : goal.returns-clause-stands
returns-clause-stands c = λ sides side post are none opens given.
    let whole : c.loop-x.x ≡ length c.args.plan.now.exchanges = omega arith in
    installed_stand c.args.plan.now c.args.p c.args.stores.now c.loop-x.stores sides side are c.args.opened.items post
    (subst (λ (n : ℕ). AreChanged c.args.plan.now.exchanges c.args.p (IsInstalled c.args.plan.now c.args.p c.args.opened.items) n c.args.stores.now c.loop-x.stores)
    whole c.loop-x.invariant.changed) none opens given

pub returns-clause-next : goal.returns-clause-next
returns-clause-next c = λ post opens.
    let whole : c.loop-x.x ≡ length c.args.plan.now.exchanges = omega arith in
    install_next c.args.plan.now c.args.p c.args.opened.items post c.args.stores.now c.loop-x.stores
    (subst (λ (n : ℕ). AreChanged c.args.plan.now.exchanges c.args.p (IsInstalled c.args.plan.now c.args.p c.args.opened.items) n c.args.stores.now c.loop-x.stores)
    whole c.loop-x.invariant.changed) opens
