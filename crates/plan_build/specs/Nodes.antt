-- Implicit schemes are nodes: as the order of nodes is found they are numbered among themselves, and in a plan as schemes. The project's own.
use Rattle.std.specs.Prelude.{ℕ, List, map, filter, slice_index_or}
use Rattle.std.specs.List.{enumerate_from}
use Rattle.plan_order.specs.declared.node.Node.{Node}
use Rattle.plan_order.specs.declared.node.Node.TheVariants.{Single, Group}
use Rattle.cpl_config.specs.declared.config.SchemeTable.{SchemeTable}
use Rattle.config_rules.specs.Members.{is_implicit}

-- the numbers of the implicit schemes among all schemes
abbrev pub implicit_numbers : List SchemeTable → List ℕ
implicit_numbers tables = map (λ numbered. numbered.0) (filter (λ numbered. is_implicit numbered.1) (enumerate_from 0 tables))

-- a node by the number of its scheme
abbrev pub node_name : List ℕ → Node → Node
node_name numbers (Single part) = Single part
node_name numbers (Group place) = Group (slice_index_or numbers place 0)
