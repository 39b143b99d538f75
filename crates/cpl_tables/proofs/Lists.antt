-- Lists of TOML as lists.
use Rattle.std.proofs.Common.{◌≡◌, List, [], ◌∷◌, map, refl, ap, ◌∙◌, Vec, Global}
use Rattle.toml.specs.Data.{Data}
use Rattle.toml.specs.View.{view, items_of}
use Rattle.toml.proofs.Views.{view-Array}
use Rattle.toml.specs.declared.value.Value.{Value, Array}
use Rattle.cpl_tables.specs.Values.{in_list, list_of}

-- a list made into items, and back
pub in_list_items : (ds : List Data) → in_list (items_of ds) ≡ ds
in_list_items [] = refl
in_list_items (d ∷ ds) = ap (λ ts. d ∷ ts) (in_list_items ds)

-- what the items of a list of the code stand for
pub list_of_view : (v : Vec Value Global) → list_of (view (Array v)) ≡ map view v.items
list_of_view v = ap list_of (view-Array v) ∙ in_list_items (map view v.items)
