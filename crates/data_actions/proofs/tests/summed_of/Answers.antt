use Rattle.std.proofs.Common.{◌≡◌, rules, List, [], ◌∷◌, ◌++◌, ap, ◌∙◌}
use Rattle.data_actions.specs.declared.sums.Sum.{Sum}
use Rattle.data_actions.proofs.OneSum.{one_sum}
use Rattle.data_actions.proofs.tests.summed_of.Goals as goal

pub new-requires : goal.new-requires
new-requires c =
    let items : c.push.new.self.items ≡ c.args.sum ∷ [] = c.in_ok-push.ensures.items ∙ ap (λ (xs : List Sum). xs ++ c.args.sum ∷ []) c.new-sums.ensures.items in (
      search rules,
      rw (items, c.in_ok-from_slice.ensures.items)
          (one_sum _ c.args.sum (record { target = c.requires.target; sources = c.requires.sources; few = c.requires.few }) c.requires.apart),
    )
