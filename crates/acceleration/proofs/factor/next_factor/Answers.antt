use Rattle.std.proofs.Common.{◌≡◌, length, List, ℤ, ap, sym, ◌∙◌}
use Rattle.acceleration.proofs.Entries.{length-less}
use Rattle.acceleration.proofs.factor.next_factor.Goals as goal

pub factor_after-requires-clause-len : goal.factor_after-requires-clause-len
factor_after-requires-clause-len c =
    let same : length c.entries-before.result.now ≡ length c.entries.result.now =
    ap (λ (xs : List ℤ). length xs) c.entries-before.ensures.entries ∙ c.requires.len ∙ sym (ap (λ (xs : List ℤ). length xs) c.entries.ensures.entries) in
    ap (λ (xs : List ℤ). length xs) (c.deref.ensures.value ∙ c.in_ok-change.ensures.change)
    ∙ length-less c.entries.result.now c.entries-before.result.now same
    ∙ sym same
