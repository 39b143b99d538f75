use Rattle.std.proofs.Common.{◌≡◌, ◌∙◌, ap, rules, tests, position, is_some}
use Rattle.std.proofs.lemmas.Iterator.{YieldsList-from_slice}
use Rattle.std.proofs.lemmas.Iterator.Search.{position_from_yields_List}
use Rattle.std.specs.Str.{bytes_eq}
use Rattle.cpl_tables.specs.Words.{words_of}
use Rattle.cpl_tables.proofs.WordTexts.{position_of_words, position-any}
use Rattle.cpl_tables.proofs.word_lists.word_at.Goals as goal

pub returns : goal.returns
returns c =
    let test = bytes_eq c.args.text.now in
    let place : c.position.result ≡ position test (words_of c.args.list) =
    position_from_yields_List (λ w. test w.now) _ _ c.position.result c.position.ensures.ran (YieldsList-from_slice c.words.result.now cc) (λ x b q k. search (rules, tests))
    ∙ (position_of_words test c.words.result.now ∙ ap (position test) c.words.ensures)
    in
    record { place = place; known = ap is_some place ∙ position-any test (words_of c.args.list) }
