use Rattle.std.proofs.Common.{◌≡◌, true, false, ◌∙◌, ap, refl, sym, List, ℕ, [], ◌∷◌, inl, inr, option_map, string_bytes, nat_cmp, is_eq}
use Rattle.std.proofs.lemmas.Bool.{cases_Bool}
use Rattle.std.specs.BTreeMap.{is_at}
use Rattle.std.specs.Map.{remove_entry}
use Rattle.std.specs.Cmp.Lexicographic.{slice_cmp}
use Rattle.toml.specs.View.{view, members_view, table_view}
use Rattle.toml.proofs.Views.{Entry, view-lookup}
use Rattle.coupling_run.specs.Form.{without, is_tree_of}
use Rattle.coupling_run.proofs.form.value_beside.Goals as goal

members_view-remove_entry : (key : List ℕ) (es : List Entry) → members_view (remove_entry (is_at (λ k. slice_cmp nat_cmp key (string_bytes k))) es) ≡ without key (members_view es)
members_view-remove_entry key [] = refl
members_view-remove_entry key (e ∷ es) =
    elim (cases_Bool (is_eq (slice_cmp nat_cmp key (string_bytes e.0)))) [
      | inl same ↦ rw same refl
      | inr other ↦ rw (other, members_view-remove_entry key es) refl
    ]

pub returns-then-branch : goal.returns-then-branch
returns-then-branch c =
    let key = c.args.key.now in
    let es = c.args.table.entries in
    let rest : table_view c.remove-value.new.self ≡ without key (members_view es) = ap members_view c.remove-value.ensures.entries ∙ members_view-remove_entry key es in
    let read : is_tree_of c.args.text.now (without key (members_view es)) ≡ true = rw (← rest) (sym c.in_ok-is_read_from.ensures ∙ c.if-branch.true) in
    rw read (ap (option_map view) c.remove-value.ensures.value ∙ view-lookup key es)

pub returns : goal.returns
returns c =
    let key = c.args.key.now in
    let es = c.args.table.entries in
    let rest : table_view c.remove-value.new.self ≡ without key (members_view es) = ap members_view c.remove-value.ensures.entries ∙ members_view-remove_entry key es in
    let read : is_tree_of c.args.text.now (without key (members_view es)) ≡ false = rw (← rest) (sym c.in_ok-is_read_from.ensures ∙ c.if-branch.false) in
    rw read refl
