-- Keys that are not listed: where each key of a table is listed, one that is not listed is not there.
use Rattle.std.proofs.Common.{◌≡◌, ℕ, Ordering, Less, Equal, Greater, nat_cmp, is_eq, not, List, IsTrue, IsFalse, Option, Some, None, refl, subst, sym, ◌∙◌}
use Rattle.std.specs.List.{list_any}
use Rattle.std.specs.Ordering.{match_ordering}
use Rattle.std.specs.Cmp.Lexicographic.{slice_cmp}
use Rattle.std.specs.Str.{bytes_eq}
use Rattle.std.proofs.lemmas.Bool.{or_parts, not-false, false_from_ne_true, both_ways, true≢false}
use Rattle.std.proofs.lemmas.Map.Text.{is_eq-slice_cmp}
use Rattle.std.proofs.lemmas.Slice.Eq.{bytes_eq-Decides}
use Rattle.toml.specs.Data.{Data, Members, no_members, member, get_member}
use Rattle.cpl_tables.specs.declared.kinds.TableKind.{TableKind}
use Rattle.cpl_rules.specs.BrokenRules.{names_in, is_listed}

passed_by : (order : Ordering) (value : Data) (rest : Option Data) → IsFalse (is_eq order) → rest ≡ None → match_ordering order rest (Some value) rest ≡ None
passed_by Less value rest apart none = none
passed_by Equal value rest apart none = absurd (true≢false apart)
passed_by Greater value rest apart none = none

other_key : (kind : TableKind) (key name : List ℕ) → IsFalse (is_listed kind key) → IsTrue (is_listed kind name) → IsFalse (bytes_eq key name)
other_key kind key name unlisted listed =
    false_from_ne_true (bytes_eq key name) (λ same.
    both_ways (is_listed kind key) unlisted (subst (λ (text : List ℕ). IsTrue (is_listed kind text)) (sym ((bytes_eq-Decides key name).0 same)) listed))

pub not_there : (kind : TableKind) (key : List ℕ) → IsFalse (is_listed kind key) → (members : Members)
    → IsFalse (list_any (λ name. not (is_listed kind name)) (names_in members)) → get_member key members ≡ None
not_there kind key unlisted no_members each = refl
not_there kind key unlisted (member name value members) each =
    let parts = or_parts (not (is_listed kind name)) (list_any (λ other. not (is_listed kind other)) (names_in members)) each in
    let apart : IsFalse (bytes_eq key name) = other_key kind key name unlisted (not-false _ parts.0) in
    passed_by (slice_cmp nat_cmp key name) value (get_member key members) (is_eq-slice_cmp key name ∙ apart) (not_there kind key unlisted members parts.1)
