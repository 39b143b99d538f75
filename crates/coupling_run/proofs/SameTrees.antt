-- The same trees are the equal ones, where nothing inside has a fraction or is a date-time.
use Rattle.std.proofs.Common.{◌≡◌, true, false, ◌&&◌, ap, sym, refl, Option, Some, None, option_map}
use Rattle.std.specs.Option.{option_map_or}
use Rattle.std.proofs.lemmas.Bool.{and_parts}
use Rattle.std.proofs.lemmas.Bool.Decides.{Decides-int_eq}
use Rattle.std.proofs.lemmas.Slice.Eq.{bytes_eq-Decides}
use Rattle.std.specs.Cmp.{booleans_Decides}
use Rattle.std.specs.Str.{bytes_eq}
use Rattle.toml.specs.Data.{Data, string, integer, float, boolean, datetime, array, table, Items, no_items, item, Members, no_members, member}
use Rattle.coupling_run.specs.SameTree.{same_tree, same_items, same_members, is_plain, items_are_plain, members_are_plain}

mutual
  pub same_tree-equal : (d e : Data) → same_tree d e ≡ true → d ≡ e
  same_tree-equal (string s) (string t) h = ap string ((bytes_eq-Decides s t).0 h)
  same_tree-equal (integer y) (integer z) h = ap integer ((Decides-int_eq y z).0 h)
  same_tree-equal (boolean b) (boolean c) h = ap boolean ((booleans_Decides b c).0 h)
  same_tree-equal (array ds) (array es) h = ap array (same_items-equal ds es h)
  same_tree-equal (table ms) (table ns) h = ap table (same_members-equal ms ns h)
  same_tree-equal _ _ h = cc

  pub same_items-equal : (ds es : Items) → same_items ds es ≡ true → ds ≡ es
  same_items-equal no_items no_items h = refl
  same_items-equal (item d ds) (item e es) h =
      let (first, rest) = and_parts (same_tree d e) (same_items ds es) h in
      let heads : d ≡ e = same_tree-equal d e first in
      let tails : ds ≡ es = same_items-equal ds es rest in
      cc
  same_items-equal _ _ h = cc

  pub same_members-equal : (ms ns : Members) → same_members ms ns ≡ true → ms ≡ ns
  same_members-equal no_members no_members h = refl
  same_members-equal (member k d ms) (member l e ns) h =
      let (first, rest) = and_parts (bytes_eq k l && same_tree d e) (same_members ms ns) h in
      let (key, value) = and_parts (bytes_eq k l) (same_tree d e) first in
      let keys : k ≡ l = (bytes_eq-Decides k l).0 key in
      let values : d ≡ e = same_tree-equal d e value in
      let tails : ms ≡ ns = same_members-equal ms ns rest in
      cc
  same_members-equal _ _ h = cc

mutual
  pub same_tree-itself : (d : Data) → is_plain d ≡ true → same_tree d d ≡ true
  same_tree-itself (string s) h = (bytes_eq-Decides s s).1 refl
  same_tree-itself (integer z) h = (Decides-int_eq z z).1 refl
  same_tree-itself (float x) h = cc
  same_tree-itself (boolean b) h = (booleans_Decides b b).1 refl
  same_tree-itself (datetime moment) h = cc
  same_tree-itself (array ds) h = same_items-itself ds h
  same_tree-itself (table ms) h = same_members-itself ms h

  pub same_items-itself : (ds : Items) → items_are_plain ds ≡ true → same_items ds ds ≡ true
  same_items-itself no_items h = refl
  same_items-itself (item d ds) h =
      let (here, more) = and_parts (is_plain d) (items_are_plain ds) h in
      rw (same_tree-itself d here, same_items-itself ds more) refl

  pub same_members-itself : (ms : Members) → members_are_plain ms ≡ true → same_members ms ms ≡ true
  same_members-itself no_members h = refl
  same_members-itself (member k d ms) h =
      let (here, more) = and_parts (is_plain d) (members_are_plain ms) h in
      rw ((bytes_eq-Decides k k).1 refl, same_tree-itself d here, same_members-itself ms more) refl

-- what is read from a text, and the members that are to be the same
pub read_same-equal : (read : Option Members) (ms : Members) → option_map_or (same_members ms) read false ≡ true → read ≡ Some ms
read_same-equal None ms h = cc
read_same-equal (Some ns) ms h = ap Some (sym (same_members-equal ms ns h))

pub read_same-itself : (read : Option Members) (ms : Members) → option_map members_are_plain read ≡ Some true → read ≡ Some ms → option_map_or (same_members ms) read false ≡ true
read_same-itself None ms plain e = cc
read_same-itself (Some ns) ms plain e =
    let same : ns ≡ ms = cc in
    let is_plain : members_are_plain ns ≡ true = cc in
    rw (← same) (same_members-itself ns is_plain)
