use Rattle.std.proofs.Common.{◌∙◌, ap, rules, tests}
use Rattle.std.proofs.lemmas.Iterator.{YieldsList-from_slice}
use Rattle.std.proofs.lemmas.Iterator.Search.{any_from_yields_List}
use Rattle.std.specs.List.{list_any}
use Rattle.std.specs.Str.{bytes_eq}
use Rattle.cpl_tables.proofs.WordTexts.{any_of_words}
use Rattle.cpl_tables.proofs.word_lists.is_word.Goals as goal

pub returns : goal.returns
returns c =
    let test = bytes_eq c.args.text.now in
    any_from_yields_List (λ w. test w.now) _ _ c.any.result c.any.ensures.ran (YieldsList-from_slice c.words.result.now cc) (λ x b q k. search (rules, tests))
    ∙ (any_of_words test c.words.result.now ∙ ap (list_any test) c.words.ensures)
