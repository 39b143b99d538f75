use Rattle.std.proofs.Common.{◌≡◌, ℕ, length, length-append, get_or, arith, ap, ◌∙◌, ◌++◌, ◌∷◌, [], List, Vec, Global}
use Rattle.plan_order.proofs.EdgeSteps.{empty_more, times}
use Rattle.plan_order.proofs.order.edges.no_ends.Goals as goal

pub loop-preserved : goal.loop-preserved
loop-preserved c =
    let pushed : c.push.new.self.items ≡ c.loop.after.items ++ c.new.result ∷ [] = c.in_ok-push.ensures.items in (
      omega (arith, ap length pushed, length-append c.loop.after.items (c.new.result ∷ []), c.loop.invariant.0),
      λ a b within d. ap (λ (xs : List (Vec ℕ Global)). times b (get_or xs a d).items) pushed
          ∙ empty_more (λ v. v.items) c.loop.after.items c.new.result c.new.ensures.items
          (λ k e below default. c.loop.invariant.1 k e (omega (arith, below, c.loop.invariant.0)) default) a b (omega (arith, within, c.loop.invariant.0)) d,
    )

pub returns-clause-empty : goal.returns-clause-empty
returns-clause-empty c = λ a b within d. c.loop.invariant.1 a b (omega (arith, within, c.loop-test.false)) d
