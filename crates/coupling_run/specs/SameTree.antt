-- Whether two trees of TOML are the same, where they are made of texts, whole numbers, truth values, lists and tables. The project's own: the coupling documentation reads XML.
use Rattle.std.specs.Prelude.{Bool, true, false, ◌&&◌}
use Rattle.std.specs.Str.{bytes_eq}
use Rattle.std.specs.Ordering.{int_eq}
use Rattle.std.specs.Bool.{beq}
use Rattle.toml.specs.Data.{Data, string, integer, float, boolean, datetime, array, table, Items, no_items, item, Members, no_members, member}

-- a number with a fraction, or a date-time, is the same as nothing, itself included
abbrev mutual
  pub same_tree : Data → Data → Bool
  same_tree (string s) (string t) = bytes_eq s t
  same_tree (integer y) (integer z) = int_eq y z
  same_tree (boolean b) (boolean c) = beq b c
  same_tree (array ds) (array es) = same_items ds es
  same_tree (table ms) (table ns) = same_members ms ns
  same_tree _ _ = false

  pub same_items : Items → Items → Bool
  same_items no_items no_items = true
  same_items (item d ds) (item e es) = same_tree d e && same_items ds es
  same_items _ _ = false

  pub same_members : Members → Members → Bool
  same_members no_members no_members = true
  same_members (member k d ms) (member l e ns) = (bytes_eq k l && same_tree d e) && same_members ms ns
  same_members _ _ = false

-- no number with a fraction and no date-time stands inside
abbrev mutual
  pub is_plain : Data → Bool
  is_plain (float x) = false
  is_plain (datetime moment) = false
  is_plain (array ds) = items_are_plain ds
  is_plain (table ms) = members_are_plain ms
  is_plain _ = true

  pub items_are_plain : Items → Bool
  items_are_plain no_items = true
  items_are_plain (item d ds) = is_plain d && items_are_plain ds

  pub members_are_plain : Members → Bool
  members_are_plain no_members = true
  members_are_plain (member k d ms) = is_plain d && members_are_plain ms
