use Rattle.std.proofs.Common.{◌≡◌, ℕ, ◌+◌, true, false, ◌∙◌, sym, ap, refl, map, drop, List, ◌∷◌, string_bytes}
use Rattle.std.proofs.lemmas.Bool.{not-true, not-false}
use Rattle.std.proofs.lemmas.Map.Text.{btree_set_updates_text}
use Rattle.std.specs.BTreeSet.{contains_text}
use Rattle.toml.specs.View.{view}
use Rattle.cpl_tables.specs.Values.{text_of}
use Rattle.cpl_tables.proofs.Distinct.{stay_distinct, all_new-first, stay_distinct-next, stay_distinct-ends, texts_in, texts_in-next}
use Rattle.cpl_tables.proofs.asks.are_distinct_texts.Goals as goal

pub texts-init : goal.texts-init
texts-init c =
    let texts = map text_of (map view c.args.items.now) in
    let none : (text : List ℕ) → contains_text c.new-seen.result text ≡ false = λ text. rw c.new-seen.ensures.empty refl in
    rw (all_new-first (contains_text c.new-seen.result) none texts) refl

pub texts-preserved : goal.texts-preserved
texts-preserved c =
    let items = c.args.items.now in
    let i = c.texts.item-index in
    let text = string_bytes c.in_ok-text.text in
    let has = contains_text c.texts.seen in
    let rest = texts_in (drop (i + 1) items) in
    let next : texts_in (drop i items) ≡ text ∷ rest = texts_in-next items i c.item-item.result text c.texts-test.true c.item-item.is (c.in_ok-text.ensures.ok ∙ c.text_of.ensures) in
    let new : has text ≡ false = not-true _ (sym c.in_ok-insert.ensures.added ∙ c.if-not-branch.false) in
    sym (stay_distinct-next has (contains_text c.insert.new.self) text rest new (btree_set_updates_text text c.texts.seen c.insert.new.self true c.in_ok-insert.ensures.updates))
    ∙ (sym (ap (stay_distinct has) next) ∙ c.texts.invariant)

pub returns-then-not-branch : goal.returns-then-not-branch
returns-then-not-branch c =
    let items = c.args.items.now in
    let i = c.texts.item-index in
    let text = string_bytes c.in_ok-text.text in
    let has = contains_text c.texts.seen in
    let rest = texts_in (drop (i + 1) items) in
    let next : texts_in (drop i items) ≡ text ∷ rest = texts_in-next items i c.item-item.result text c.texts-test.true c.item-item.is (c.in_ok-text.ensures.ok ∙ c.text_of.ensures) in
    let old : has text ≡ true = not-false _ (sym c.in_ok-insert.ensures.added ∙ c.if-not-branch.true) in
    sym (stay_distinct-ends has text rest old) ∙ (sym (ap (stay_distinct has) next) ∙ c.texts.invariant)
