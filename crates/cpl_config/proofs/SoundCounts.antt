-- What the rules over a whole file say of the tables of one kind: how many there are, and that no two have one name.
use Rattle.std.proofs.Common.{◌≡◌, ℕ, ◌+◌, ◌<◌, ◌≤◌, Bool, true, false, ◌&&◌, cond, List, [], ◌∷◌, ◌++◌, length, map, codes, IsTrue, IsFalse, Option, Some, None, option_and_then, not, nat_le, refl, sym, ap, ◌∙◌, subst, append_assoc, arith, count_by, bytes_eq, leb-false, zero-add}
use Rattle.std.specs.List.{list_any, AllByRecursion}
use Rattle.std.specs.Option.{option_map_or}
use Rattle.std.proofs.lemmas.Bool.{or_parts, or_from, and_from, not_from_false, false_from_ne_true, both_ways, false≢true}
use Rattle.std.proofs.lemmas.List.Sums.{sum_by-append}
use Rattle.std.proofs.lemmas.Slice.Eq.{bytes_eq-Decides}
use Rattle.toml.specs.Data.{Data, string, Members, get_member, as_str}
use Rattle.cpl_tables.specs.declared.kinds.TableKind.{TableKind}
use Rattle.cpl_tables.specs.declared.shapes.Presence.TheVariants.{Required}
use Rattle.cpl_tables.specs.declared.shapes.Shape.TheVariants.{Name}
use Rattle.cpl_tables.specs.Keys.{keys_of}
use Rattle.cpl_tables.specs.Values.{text_of, are_distinct_texts}
use Rattle.cpl_rules.specs.declared.rules.Rule.TheVariants.{BadLength, Repeated}
use Rattle.cpl_rules.specs.Seen.{Seen, text_at}
use Rattle.cpl_rules.specs.BrokenRules.{key_breaks, whole_file_limit, are_counted_together, is_over_limit, have_own_names, has_name, is_second, breaks}
use Rattle.cpl_config.proofs.SoundValues.{IsRightAt}
use Rattle.cpl_config.proofs.SoundRules.{IsKept, IsRightTable, IsRightSeen}
use Rattle.cpl_config.proofs.SoundPicks.{IsPick, nothing, picked, passed}

-- How many

module _ (kind : TableKind) (most : ℕ) (limited : whole_file_limit kind ≡ Some most) (counted : are_counted_together kind kind ≡ true) where
  -- how many tables of the kind are in the list
  how_many : List Seen → ℕ
  how_many tables = count_by (λ other. are_counted_together kind other.kind) tables

  one_more : (before : List Seen) (seen : Seen) → how_many (before ++ seen ∷ []) ≡ how_many before + cond (are_counted_together kind seen.kind) 1 0
  unfolding how_many
  one_more before seen =
      sum_by-append (λ other. cond (are_counted_together kind other.kind) 1 0) before (seen ∷ [])
      ∙ ap (λ n. how_many before + n) (zero-add (cond (are_counted_together kind seen.kind) 1 0))

  -- a table of the kind that keeps the rule has fewer than the most before it
  has_room : (before : List Seen) (seen : Seen) → seen.kind ≡ kind → IsFalse (is_over_limit before seen) → how_many before < most
  unfolding how_many
  has_room before seen same kept =
      let at_kind = subst (λ (k : TableKind). IsFalse (option_map_or (λ m. nat_le m (count_by (λ other. are_counted_together k other.kind) before)) (whole_file_limit k) false)) same kept in
      let at_most = subst (λ (limit : Option ℕ). IsFalse (option_map_or (λ m. nat_le m (count_by (λ other. are_counted_together kind other.kind) before)) limit false)) limited at_kind in
      leb-false most (count_by (λ other. are_counted_together kind other.kind) before) at_most

  -- with so many of the kind picked before, there is room for those that are still picked
  few_after : {trees : List Members} {tables : List Seen} (before : List Seen) (taken : ℕ) → taken ≤ how_many before → taken ≤ most
      → IsPick kind trees tables → IsKept (breaks BadLength) before tables → length trees + taken ≤ most
  few_after before taken counts within nothing kept = omega arith
  few_after before taken counts within (passed {seen = seen} {tables = tables} pick) kept =
      let more = one_more before seen in
      few_after (before ++ seen ∷ []) taken (omega arith) within pick kept.1
  few_after before taken counts within (picked {trees = trees} {seen = seen} {tables = tables} same is pick) kept =
      let room : how_many before < most = has_room before seen same (or_parts (list_any (key_breaks BadLength seen) (keys_of seen.kind)) (is_over_limit before seen) kept.0).1 in
      let more = one_more before seen in
      let one : cond {A = ℕ} (are_counted_together kind seen.kind) 1 0 ≡ 1 = subst (λ (k : TableKind). cond {A = ℕ} (are_counted_together kind k) 1 0 ≡ 1) (sym same) (ap (λ b. cond {A = ℕ} b 1 0) counted) in
      let rest : length trees + (taken + 1) ≤ most = few_after (before ++ seen ∷ []) (taken + 1) (omega arith) (omega arith) pick kept.1 in
      omega arith

  -- no more tables of the kind than a whole file may have
  pub few_picked : {trees : List Members} {tables : List Seen} → IsPick kind trees tables → IsKept (breaks BadLength) [] tables → length trees ≤ most
  few_picked {trees} pick kept = let all : length trees + 0 ≤ most = few_after [] 0 (omega arith) (omega arith) pick kept in omega arith

-- Names

bytes_eq-turned : (m n : List ℕ) → IsFalse (bytes_eq m n) → IsFalse (bytes_eq n m)
bytes_eq-turned m n apart = false_from_ne_true (bytes_eq n m) (λ same. both_ways (bytes_eq m n) apart ((bytes_eq-Decides m n).1 (sym ((bytes_eq-Decides n m).0 same))))

-- none passes the test, this one neither
none_at : {X : Type 0} (test : X → Bool) (before : List X) (x : X) (after : List X) → IsFalse (list_any test (before ++ x ∷ after)) → IsFalse (test x)
none_at test [] x after none = (or_parts (test x) (list_any test after) none).0
none_at test (y ∷ before) x after none = none_at test before x after (or_parts (test y) (list_any test (before ++ x ∷ after)) none).1

-- the name of a table, as the rules and as the configuration have it
abbrev pub name_in : Members → List ℕ
name_in tree = option_map_or text_of (get_member (codes "name") tree) []

name_is : (o : Option Data) → IsRightAt Required Name o → option_and_then as_str o ≡ Some (option_map_or text_of o [])
name_is None right = absurd (false≢true right.fits)
name_is (Some (string text)) right = refl
name_is (Some _) right = absurd (false≢true right.fits.typed)

module _ (kind : TableKind) (own : have_own_names kind kind ≡ true) (named : (tree : Members) → IsRightTable kind tree → IsRightAt Required Name (get_member (codes "name") tree)) where
  seen_name : (seen : Seen) (tree : Members) → seen.kind ≡ kind → seen.members ≡ tree → IsRightSeen seen → text_at seen (codes "name") ≡ Some (name_in tree)
  seen_name seen tree same is right =
      let at_kind = subst (λ (k : TableKind). IsRightTable k seen.members) same right in
      let at_tree = subst (λ (ms : Members). IsRightTable kind ms) is at_kind in
      subst (λ (ms : Members). option_and_then as_str (get_member (codes "name") ms) ≡ Some (name_in tree)) (sym is) (name_is (get_member (codes "name") tree) (named tree at_tree))

  -- an earlier table of the kind has another name than a later one
  other_name : (before : List Seen) (earlier : Seen) (between : List Seen) (seen : Seen) (name : List ℕ) (tree : Members)
      → earlier.kind ≡ kind → text_at earlier (codes "name") ≡ Some name
      → seen.kind ≡ kind → text_at seen (codes "name") ≡ Some (name_in tree)
      → IsFalse (is_second (before ++ earlier ∷ between) seen) → IsFalse (bytes_eq name (name_in tree))
  other_name before earlier between seen name tree same_earlier has_earlier same has kept =
      let at_kind = subst (λ (k : TableKind). IsFalse (option_map_or (λ n. list_any (has_name k n) (before ++ earlier ∷ between)) (text_at seen (codes "name")) false)) same kept in
      let at_name = subst (λ (o : Option (List ℕ)). IsFalse (option_map_or (λ n. list_any (has_name kind n) (before ++ earlier ∷ between)) o false)) has at_kind in
      let here = none_at (has_name kind (name_in tree)) before earlier between at_name in
      let here_kind = subst (λ (k : TableKind). IsFalse (have_own_names kind k && option_map_or (bytes_eq (name_in tree)) (text_at earlier (codes "name")) false)) same_earlier here in
      let here_own = subst (λ (b : Bool). IsFalse (b && option_map_or (bytes_eq (name_in tree)) (text_at earlier (codes "name")) false)) own here_kind in
      let here_name = subst (λ (o : Option (List ℕ)). IsFalse (option_map_or (bytes_eq (name_in tree)) o false)) has_earlier here_own in
      bytes_eq-turned (name_in tree) name here_name

  none_later : {trees : List Members} {tables : List Seen} (before : List Seen) (earlier : Seen) (between : List Seen) (name : List ℕ)
      → earlier.kind ≡ kind → text_at earlier (codes "name") ≡ Some name
      → IsPick kind trees tables → IsKept (breaks Repeated) (before ++ earlier ∷ between) tables → AllByRecursion IsRightSeen tables
      → IsFalse (list_any (bytes_eq name) (map name_in trees))
  none_later before earlier between name same_earlier has_earlier nothing kept right = refl
  none_later before earlier between name same_earlier has_earlier (passed {seen = seen} {tables = tables} pick) kept right =
      none_later before earlier (between ++ seen ∷ []) name same_earlier has_earlier pick
      (subst (λ (seens : List Seen). IsKept (breaks Repeated) seens tables) (append_assoc before (earlier ∷ between) (seen ∷ [])) kept.1) right.1
  none_later before earlier between name same_earlier has_earlier (picked {tree = tree} {trees = trees} {seen = seen} {tables = tables} same is pick) kept right =
      or_from (bytes_eq name (name_in tree)) (list_any (bytes_eq name) (map name_in trees))
      (other_name before earlier between seen name tree same_earlier has_earlier same (seen_name seen tree same is right.0) (or_parts (list_any (key_breaks Repeated seen) (keys_of seen.kind)) (is_second (before ++ earlier ∷ between) seen) kept.0).1)
      (none_later before earlier (between ++ seen ∷ []) name same_earlier has_earlier pick
      (subst (λ (seens : List Seen). IsKept (breaks Repeated) seens tables) (append_assoc before (earlier ∷ between) (seen ∷ [])) kept.1) right.1)

  distinct_after : {trees : List Members} {tables : List Seen} (before : List Seen) → IsPick kind trees tables → IsKept (breaks Repeated) before tables → AllByRecursion IsRightSeen tables
      → IsTrue (are_distinct_texts (map name_in trees))
  distinct_after before nothing kept right = refl
  distinct_after before (passed {seen = seen} pick) kept right = distinct_after (before ++ seen ∷ []) pick kept.1 right.1
  distinct_after before (picked {tree = tree} {trees = trees} {seen = seen} same is pick) kept right =
      and_from (not (list_any (bytes_eq (name_in tree)) (map name_in trees))) (are_distinct_texts (map name_in trees))
      (not_from_false _ (none_later before seen [] (name_in tree) same (seen_name seen tree same is right.0) pick kept.1 right.1))
      (distinct_after (before ++ seen ∷ []) pick kept.1 right.1)

  -- no two tables of the kind have one name
  pub distinct_picked : {trees : List Members} {tables : List Seen} → IsPick kind trees tables → IsKept (breaks Repeated) [] tables → AllByRecursion IsRightSeen tables
      → IsTrue (are_distinct_texts (map name_in trees))
  distinct_picked pick kept right = distinct_after [] pick kept right
