-- What a shelf holds under a name, and after a file was put in its place.
use Rattle.std.proofs.Common.{◌≡◌, ℕ, List, [], ◌∷◌, map, Bool, true, false, if◌then◌else◌, Option, Some, String, Vec, string_bytes, refl, sym, ap, ◌∙◌}
use Rattle.std.specs.Option.{option_map}
use Rattle.std.specs.Ordering.{nat_cmp, eq_by_cmp}
use Rattle.std.specs.Cmp.{eq_by_cmp_equiv}
use Rattle.std.specs.Cmp.Lexicographic.{slice_cmp, nat_list_cmp_total}
use Rattle.std.specs.Map.{lookup}
use Rattle.std.specs.Str.{bytes_eq}
use Rattle.std.specs.BTreeMap.{BTreeMap, get_by_text, is_at, UpdatesBy}
use Rattle.std.specs.String.{string_cmp}
use Rattle.std.specs.FinMap as finite
use Rattle.std.proofs.lemmas.Map.Text.{btree_map_updates_text, is_eq-slice_cmp, text_cmp}
use Rattle.io_edge.specs.FileTable.{FileTable}
use Rattle.io_edge.specs.Shelved.{shelved}

option_map-if : {A B : Type 0} (f : A → B) (b : Bool) (x : A) (o : Option A) → (if b then Some (f x) else option_map f o) ≡ option_map f (if b then Some x else o)
option_map-if f true x o = refl
option_map-if f false x o = refl

-- the entries of a shelf find what the map's own entries do
find-entries : {Y Z : Type 0} (entries : List (String Y × Vec ℕ Z)) (name : List ℕ)
    → finite.find (slice_cmp nat_cmp) name (map (λ entry. (string_bytes entry.0, entry.1.items)) entries) ≡ option_map (λ file. file.items) (lookup (is_at (text_cmp name)) entries)
find-entries [] name = refl
find-entries (entry ∷ entries) name =
    ap (λ found. if is_at (text_cmp name) entry.0 then Some entry.1.items else found) (find-entries entries name)
    ∙ option_map-if (λ file. file.items) (is_at (text_cmp name) entry.0) entry.1 (lookup (is_at (text_cmp name)) entries)

-- what a shelf holds under a name is the bytes of what the map holds there
pub get-shelved : {Y Z : Type 0} (files : BTreeMap (String Y) (Vec ℕ Z)) (name : List ℕ)
    → finite.get (shelved files) name ≡ option_map (λ file. file.items) (get_by_text files name)
get-shelved files name = finite.get-from_entries nat_list_cmp_total _ name ∙ find-entries files.entries name

-- the same of the value that a shelf is seen as
pub held_file : {Y Z : Type 0} (files : BTreeMap (String Y) (Vec ℕ Z)) (table : FileTable) (name : List ℕ) (held : Option (Vec ℕ Z))
    → shelved files ≡ table → held ≡ get_by_text files name → option_map (λ file. file.items) held ≡ finite.get table name
held_file files table name held is found =
    ap (option_map (λ file. file.items)) found ∙ sym (get-shelved files name) ∙ ap (λ seen. finite.get seen name) is

-- whether two names are one does not depend on which is asked first
same_name : (name asked : List ℕ) → bytes_eq name asked ≡ eq_by_cmp (slice_cmp nat_cmp) asked name
same_name name asked = sym (is_eq-slice_cmp name asked) ∙ (eq_by_cmp_equiv nat_list_cmp_total).symm name asked

-- a file that is put in its place in the map is put in its place on the shelf
pub insert-shelved : {Y Z : Type 0} (old new : BTreeMap (String Y) (Vec ℕ Z)) (name : List ℕ) (file : Vec ℕ Z)
    → UpdatesBy string_cmp (λ key. slice_cmp nat_cmp name (string_bytes key)) old new (Some file)
    → shelved new ≡ finite.insert (shelved old) name file.items
insert-shelved old new name file updates =
    finite.same_map nat_list_cmp_total (finite.slice_cmp-IsAntisymmetric finite.nat_cmp-IsAntisymmetric) _ _
    (λ asked.
    get-shelved new asked
    ∙ ap (option_map (λ v. v.items)) (btree_map_updates_text name old new (Some file) updates asked)
    ∙ sym (option_map-if (λ v. v.items) (bytes_eq name asked) file (get_by_text old asked))
    ∙ ap (λ is. if is then Some file.items else option_map (λ v. v.items) (get_by_text old asked)) (same_name name asked)
    ∙ ap (λ held. if eq_by_cmp (slice_cmp nat_cmp) asked name then Some file.items else held) (sym (get-shelved old asked))
    ∙ sym (finite.get-insert nat_list_cmp_total (shelved old) name file.items asked))
