-- The steps of Form.antt, each as what it asks for.
use Rattle.std.proofs.Common.{◌≡◌, ℕ, ◌≤◌, Bool, true, false, ◌&&◌, if◌then◌else◌, refl, List, Option, Some, None, option_map, pos, nat_le}
use Rattle.std.specs.Option.{option_and_then}
use Rattle.std.proofs.lemmas.Bool.{and_parts, le-leb, leb-true}
use Rattle.std.proofs.lemmas.Option.{cond_some}
use Rattle.toml.specs.Data.{Data, integer, array, table, no_items, item, Members, get_member, as_table}
use Rattle.toml.specs.Parse.{parse_document}
use Rattle.coupling_run.specs.SameTree.{members_are_plain}
use Rattle.coupling_run.specs.Form.{is_tree_of, without, value_beside, window_count, only_item}
use Rattle.coupling_run.proofs.SameTrees.{read_same-equal, read_same-itself}

-- a step that answered had something to go on
pub then_some : {A B : Type 0} (o : Option A) (f : A → Option B) (y : B) → option_and_then f o ≡ Some y → (x : A) × (o ≡ Some x) × (f x ≡ Some y)
then_some None f y h = cc
then_some (Some x) f y h = (x, refl, h)

chosen : {A : Type 0} (b : Bool) (o : Option A) (y : A) → (if b then o else None) ≡ Some y → (b ≡ true) × (o ≡ Some y)
chosen true o y h = (refl, h)
chosen false o y h = cc

pub value_beside-found : (key text : List ℕ) (ms : Members) (d : Data) → value_beside key text ms ≡ Some d
    → (get_member key ms ≡ Some d) × (parse_document text ≡ Some (without key ms))
value_beside-found key text ms d h =
    let (same, found) = chosen (is_tree_of text (without key ms)) (get_member key ms) d h in
    (found, read_same-equal (parse_document text) (without key ms) same)

pub value_beside-finds : (key text : List ℕ) (ms : Members) (d : Data) → option_map members_are_plain (parse_document text) ≡ Some true
    → get_member key ms ≡ Some d → parse_document text ≡ Some (without key ms) → value_beside key text ms ≡ Some d
value_beside-finds key text ms d plain found rest =
    let same : is_tree_of text (without key ms) ≡ true = read_same-itself (parse_document text) (without key ms) plain rest in
    rw same found

pub window_count-some : (d : Data) (count : ℕ) → window_count d ≡ Some count → (d ≡ integer (pos count)) × (1 ≤ count) × (count ≤ 1000000)
window_count-some (integer (pos n)) count h =
    let (within, same) = cond_some (nat_le 1 n && nat_le n 1000000) n count h in
    let (least, most) = and_parts (nat_le 1 n) (nat_le n 1000000) within in
    rw (← same) (refl, leb-true 1 n least, leb-true n 1000000 most)
window_count-some _ count h = cc

pub window_count-of : (count : ℕ) → 1 ≤ count → count ≤ 1000000 → window_count (integer (pos count)) ≡ Some count
window_count-of count least most = rw (le-leb 1 count least, le-leb count 1000000 most) refl

pub only_item-some : (d e : Data) → only_item d ≡ Some e → d ≡ array (item e no_items)
only_item-some (array (item d no_items)) e h = let same : d ≡ e = cc in rw same refl
only_item-some _ e h = cc

pub as_table-some : (d : Data) (ms : Members) → as_table d ≡ Some ms → d ≡ table ms
as_table-some (table ns) ms h = let same : ns ≡ ms = cc in rw same refl
as_table-some _ ms h = cc
