-- What is known of a name.
use Rattle.std.proofs.Common.{ℕ, ◌≤◌, List, [], ◌∷◌, length, true, ◌&&◌, nat_le, leb-true, IsTrue, refl}
use Rattle.std.specs.List.{list_all, AllByRecursion}
use Rattle.std.proofs.lemmas.Bool.{and_parts, and_from, le-leb}
use Rattle.cpl_tables.specs.Values.{is_visible, is_name}

abbrev pub IsVisible : ℕ → Type 0
IsVisible byte = (0x21 ≤ byte) × (byte ≤ 0x7E)

visible : (byte : ℕ) → IsTrue (is_visible byte) → IsVisible byte
visible byte h =
    let both = and_parts (nat_le 33 byte) (nat_le byte 126) h in
    (leb-true 33 byte both.0, leb-true byte 126 both.1)

pub all_visible : (text : List ℕ) → IsTrue (list_all is_visible text) → AllByRecursion IsVisible text
all_visible [] h = tt
all_visible (byte ∷ text) h =
    let both = and_parts (is_visible byte) (list_all is_visible text) h in
    (visible byte both.0, all_visible text both.1)

pub name_parts : (text : List ℕ) → IsTrue (is_name text) → ((1 ≤ length text) × (length text ≤ 64)) × AllByRecursion IsVisible text
name_parts text h =
    let both = and_parts (nat_le 1 (length text) && nat_le (length text) 64) (list_all is_visible text) h in
    let lengths = and_parts (nat_le 1 (length text)) (nat_le (length text) 64) both.0 in
    ((leb-true 1 (length text) lengths.0, leb-true (length text) 64 lengths.1), all_visible text both.1)

pub name_of_one : (byte : ℕ) → 0x21 ≤ byte → byte ≤ 0x7E → IsTrue (is_name (byte ∷ []))
name_of_one byte least most = and_from (is_visible byte) true (and_from (nat_le 33 byte) (nat_le byte 126) (le-leb 33 byte least) (le-leb byte 126 most)) refl
