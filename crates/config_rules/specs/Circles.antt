-- Firsts before seconds that go round in a circle. After the coupling documentation's serial-explicit schemes, whose second waits for its first; the project's own.
use Rattle.std.specs.Prelude.{ℕ, zero, suc, ◌==◌, ◌&&◌, not, Bool, true, false, List, [], ◌∷◌, length, find, filter, flat_map, position, unwrap_or, Option, Some}
use Rattle.std.specs.List.{list_any}
use Rattle.std.specs.Option.{option_map_or}
use Rattle.std.specs.Str.{bytes_eq}
use Rattle.cpl_config.specs.declared.kind_words.KindWord.{KindWord}
use Rattle.cpl_config.specs.declared.kind_words.KindWord.TheVariants.{SerialExplicit}
use Rattle.cpl_config.specs.declared.config.Config.{Config}
use Rattle.cpl_config.specs.declared.config.SchemeTable.{SchemeTable}
use Rattle.config_rules.specs.declared.circles.Step.{Step}
use Rattle.config_rules.specs.Members.{is_implicit, members, is_member, first_name}

-- the number of a participant, from 0
abbrev pub number_of : Config → List ℕ → ℕ
number_of config name = unwrap_or (position (λ table. bytes_eq table.name name) config.participant) 0

-- the node of a participant, which the first member of its implicit scheme stands for, or itself where it is in none
abbrev pub node_of : Config → List ℕ → ℕ
node_of config name =
    option_map_or (λ table. number_of config (first_name (members table)))
    (find (λ table. is_implicit table && is_member name table) config.scheme) (number_of config name)

-- from the node of a serial-explicit scheme's first to that of its second; from no other scheme
abbrev pub step_of : Config → KindWord → Option (List ℕ) → Option (List ℕ) → List Step
step_of config SerialExplicit (Some first) (Some second) = record { from = node_of config first; to = node_of config second } ∷ []
step_of config _ _ _ = []

abbrev pub steps_of : Config → List SchemeTable → List Step
steps_of config tables = flat_map (λ table. step_of config table.kind table.first table.second) tables

-- a step begins where one of some steps ends
abbrev pub is_followed : List Step → Step → Bool
is_followed steps step = list_any (λ other. other.to == step.from) steps

abbrev pub followed : List Step → List Step
followed steps = filter (is_followed steps) steps

-- what is left when steps that no step leads to are taken away so many times
abbrev pub left_after : ℕ → List Step → List Step
left_after zero steps = steps
left_after (suc times) steps = left_after times (followed steps)

abbrev pub is_empty : {X : Type 0} → List X → Bool
is_empty [] = true
is_empty (_ ∷ _) = false

-- some steps lie in a circle: taking away as often as there are steps leaves some
abbrev pub has_circle : List Step → Bool
has_circle steps = not (is_empty (left_after (length steps) steps))
