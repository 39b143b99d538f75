-- What a file is: a configuration, or refused for its first broken rule at its first place. The project's own.
use Rattle.std.specs.Prelude.{ℕ, ◌^◌, List, length, nat_le, Option, Some, None, Result, Ok, Err, if◌then◌else◌}
use Rattle.std.specs.Str.{is_utf8}
use Rattle.toml.specs.Data.{Members}
use Rattle.toml.specs.Parse.{parse_document}
use Rattle.cpl_tables.specs.declared.places.Place.TheVariants.{Config as ConfigPlace}
use Rattle.cpl_rules.specs.declared.rules.Refusal.{Refusal}
use Rattle.cpl_rules.specs.SeenTables.{config_top}
use Rattle.cpl_rules.specs.Refused.{refusal_of}
use Rattle.cpl_config.specs.ConfigOf.{config_of}
use Rattle.cpl_config.specs.declared.config.Config.{Config}

-- refused for a rule on the file as a whole
abbrev pub at_config : ℕ → Refusal
at_config rule = record { rule = rule; place = ConfigPlace }

-- what a file means, unless a rule on its tables is broken
abbrev pub unless_refused : {A : Type 0} → Option Refusal → A → Result A Refusal
unless_refused (Some refusal) _ = Err refusal
unless_refused None meant = Ok meant

-- what a tree is, where there is one
abbrev pub acceptance_of_tree : Option Members → Result Config Refusal
acceptance_of_tree None = Err (at_config 2)
acceptance_of_tree (Some members) = unless_refused (refusal_of (config_top members)) (config_of members)

-- the tree that the bytes of a file write
abbrev pub tree_of : List ℕ → Option Members
tree_of bytes = if is_utf8 bytes then parse_document bytes else None

-- what a file is, which has at most one mebibyte
abbrev pub acceptance : List ℕ → Result Config Refusal
acceptance bytes = if nat_le (length bytes) (2 ^ 20) then acceptance_of_tree (tree_of bytes) else Err (at_config 1)
