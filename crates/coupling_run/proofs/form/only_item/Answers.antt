use Rattle.std.proofs.Common.{◌≡◌, ◌≢◌, List, [], ◌∷◌, None, length, refl, arith}
use Rattle.std.proofs.lemmas.Grind.{common_steps}
use Rattle.toml.specs.declared.value.Value.{Value}
use Rattle.toml.specs.Data.{array}
use Rattle.toml.specs.View.{view, items_view}
use Rattle.toml.proofs.Views.{view-Array}
use Rattle.coupling_run.specs.Form.{only_item}
use Rattle.coupling_run.proofs.form.only_item.Goals as goal

only_item-other : (vs : List Value) → length vs ≢ 1 → only_item (array (items_view vs)) ≡ None
only_item-other [] h = refl
only_item-other (v ∷ []) h = absurd (h refl)
only_item-other (v ∷ w ∷ vs) h = refl

pub returns-then-len-ne1 : goal.returns-then-len-ne1
returns-then-len-ne1 c =
    let list : view c.args.value ≡ array (items_view c.in-Array.items.items) = rw c.in-Array.is (view-Array c.in-Array.items) in
    let other : length c.in-Array.items.items ≢ 1 = grind (arith, common_steps) in
    rw (list, only_item-other c.in-Array.items.items other) refl
