use Rattle.std.proofs.Common.{◌≡◌, ℕ, Some, length, get_or, slice_get, sym, subst, ◌∙◌, arith}
use Rattle.std.proofs.lemmas.Option.{slice_get-get_or}
use Rattle.core_stores.proofs.Changes.{AreChanged, changed_other, changed_one}
use Rattle.core_stores.proofs.Posted.{IsAcceptedOf, accept_stand, accept_next}
use Rattle.core_stores.proofs.posts.accept_all.Goals as goal
use Rattle.core_stores.proofs.posts.accept_all.Goals.{then-exchange-p, else-exchange-p}

pub loop-x-preserved : goal.loop-x-preserved
loop-x-preserved c =
    let plan = c.args.plan.now in
    let p = c.args.p in
    let x = c.loop-x.x in
    let stores = c.loop-x.stores in
    let Moves = IsAcceptedOf plan p c.args.w in
    let e = c.exchange.result.now in
    let is = c.loop-x.invariant in
    elim c.if-exchange-p.branch [
      | then-exchange-p w ↦
          let one = get_or stores x w.index-stores-x.result in
          let there : slice_get stores x ≡ Some one = slice_get-get_or stores x w.index-stores-x.result (omega arith) in
          rw w.stores-is
          (changed_one plan.exchanges p Moves x c.args.stores.now stores e is c.exchange.ensures w.if-exchange-p.true
          one w.accept_one.new.store (sym (is.left x (omega arith)) ∙ there) w.accept_one.ensures)
      | else-exchange-p w ↦
          rw w.stores-is
          (changed_other plan.exchanges p Moves x c.args.stores.now stores e is c.exchange.ensures w.if-exchange-p.false)
    ]

pub returns-clause-stands : goal.returns-clause-stands
returns-clause-stands c = λ sides side k are posted given.
    let whole : c.loop-x.x ≡ length c.args.plan.now.exchanges = omega arith in
    accept_stand c.args.plan.now c.args.p c.args.stores.now c.loop-x.stores sides side are c.args.w k
    (subst (λ (n : ℕ). AreChanged c.args.plan.now.exchanges c.args.p (IsAcceptedOf c.args.plan.now c.args.p c.args.w) n c.args.stores.now c.loop-x.stores) whole c.loop-x.invariant) posted given

pub returns-clause-next : goal.returns-clause-next
returns-clause-next c =
    let whole : c.loop-x.x ≡ length c.args.plan.now.exchanges = omega arith in
    accept_next c.args.plan.now c.args.p c.args.w c.args.stores.now c.loop-x.stores
    (subst (λ (n : ℕ). AreChanged c.args.plan.now.exchanges c.args.p (IsAcceptedOf c.args.plan.now c.args.p c.args.w) n c.args.stores.now c.loop-x.stores) whole c.loop-x.invariant)
    c.requires.open
