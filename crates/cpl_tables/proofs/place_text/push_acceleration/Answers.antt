use Rattle.std.proofs.Common.{ℕ, List, ◌++◌, ◌∙◌, ap, codes, append_assoc}
use Rattle.cpl_tables.specs.PlaceText.{numbered}
use Rattle.cpl_tables.proofs.place_text.push_acceleration.Goals as goal

pub returns : goal.returns
returns c =
    let end : List ℕ = codes " acceleration" in
    c.in_ok-push_words.ensures
    ∙ (ap (λ text. text ++ end) c.in_ok-push_number.ensures ∙ append_assoc c.args.to.now.items (numbered (codes "scheme ") c.args.scheme) end)
