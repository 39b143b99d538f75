use Rattle.std.proofs.Common.{◌≡◌, drop}
use Rattle.std.specs.Slice.Iter.{iter_rest}
use Rattle.toml.specs.View.{items_view, members_view}
use Rattle.coupling_run.specs.SameTree.{same_items, same_members}
use Rattle.coupling_run.proofs.tree.+tree.Given as goal

-- the rest of both lists compares as the whole lists do
abbrev pub invariant-is_same_array-items : goal.invariant-is_same_array-items
invariant-is_same_array-items l =
    (goal.iterator-is_same_array-items).can_next l.rest ×
    (goal.iterator-is_same_array-items).is_finite l.rest ×
    (same_items (items_view (drop l.item-index l.item-items)) (items_view (iter_rest l.rest)) ≡ same_items (items_view l.item-items) (items_view l.other.items))

abbrev pub invariant-is_same_table-members : goal.invariant-is_same_table-members
invariant-is_same_table-members l =
    (goal.iterator-is_same_table-members).can_next l.key-iterator ×
    (goal.iterator-is_same_table-members).is_finite l.key-iterator ×
    (same_members (members_view l.key-iterator) (members_view l.entries) ≡ same_members (members_view l.one.entries) (members_view l.other.entries))
