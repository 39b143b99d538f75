use Rattle.std.proofs.Common.{ℕ, ◌<◌, length, slice_index_or, subst, sym, ◌∙◌, Contains, List, arith}
use Rattle.std.proofs.lemmas.List.{take_all}
use Rattle.plan_order.specs.declared.node.Node.TheVariants.{Group}
use Rattle.plan_order.proofs.GroupNodes.{joined_more, others_stay}
use Rattle.plan_order.proofs.order.heads.join.Goals as goal

pub loop-part-preserved : goal.loop-part-preserved
loop-part-preserved c =
    let at : ℕ = slice_index_or c.args.group.now c.loop-part.part-index 0 in
    let within : at < length c.loop-part.nodes = omega (arith, c.requires c.loop-part.part-index 0 c.loop-part-test.true, c.loop-part.auto.nodes) in
    record {
      joined = λ part inside d.
          joined_more c.args.group.now c.loop-part.nodes (Group c.args.number) c.loop-part.part-index part c.loop-part-test.true within c.loop-part.invariant.joined inside d;
      others = λ part other outside.
          others_stay c.args.group.now c.loop-part.nodes (Group c.args.number) c.loop-part.part-index part other c.loop-part-test.true outside
          ∙ c.loop-part.invariant.others part other outside;
    }

pub returns-clause-joined : goal.returns-clause-joined
returns-clause-joined c = λ part inside d.
    c.loop-part.invariant.joined part
    (subst (λ (xs : List ℕ). Contains xs part) (sym (take_all c.loop-part.part-index c.args.group.now c.loop-part-test.false)) inside) d
