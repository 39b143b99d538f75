-- The participants of a configuration by their numbers, as the order of solving asks for them. The project's own.
use Rattle.std.specs.Prelude.{ℕ, List, [], ◌∷◌, map, filter, flat_map, length, Option, Some}
use Rattle.cpl_config.specs.declared.kind_words.KindWord.{KindWord}
use Rattle.cpl_config.specs.declared.kind_words.KindWord.TheVariants.{SerialExplicit}
use Rattle.cpl_config.specs.declared.config.Config.{Config}
use Rattle.cpl_config.specs.declared.config.SchemeTable.{SchemeTable}
use Rattle.plan_order.specs.declared.node.Node.{Node}
use Rattle.plan_order.specs.Groups.{members_of}
use Rattle.config_rules.specs.Members.{is_implicit, members}
use Rattle.config_rules.specs.Circles.{number_of}

-- the members of a scheme, by their numbers
abbrev pub numbers_in : Config → SchemeTable → List ℕ
numbers_in config table = map (number_of config) (members table)

-- those who are solved together: the members of each implicit scheme
abbrev pub groups_in : Config → List (List ℕ)
groups_in config = map (numbers_in config) (filter is_implicit config.scheme)

-- the first and the second of a serial-explicit scheme
abbrev pub first_and_second : Config → KindWord → Option (List ℕ) → Option (List ℕ) → List (ℕ × ℕ)
first_and_second config SerialExplicit (Some first) (Some second) = (number_of config first, number_of config second) ∷ []
first_and_second config _ _ _ = []

-- those of each serial-explicit scheme, of which the first is solved before the second
abbrev pub befores_in : Config → List SchemeTable → List (ℕ × ℕ)
befores_in config tables = flat_map (λ table. first_and_second config table.kind table.first table.second) tables

-- the numbers of the members of a node
abbrev pub node_numbers : Config → Node → List ℕ
node_numbers config node = members_of (length config.participant) (groups_in config) node
