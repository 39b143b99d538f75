-- The rule on the actions of a participant, each of which sums data that it writes. The project's own, after the coupling documentation's action `summation`.
use Rattle.std.specs.Prelude.{ℕ, Bool, true, false, not, ◌&&◌, ◌||◌, ◌==◌, List, length, option_map, Option, Some}
use Rattle.std.specs.List.{list_any}
use Rattle.std.specs.Str.{bytes_eq}
use Rattle.cpl_config.specs.declared.kind_words.DataKind.{DataKind}
use Rattle.cpl_config.specs.declared.kind_words.DataKind.TheVariants.{Scalar, Vector}
use Rattle.cpl_config.specs.declared.config.Config.{Config}
use Rattle.cpl_config.specs.declared.config.PartTable.{PartTable}
use Rattle.cpl_config.specs.declared.config.ActionEntry.{ActionEntry}
use Rattle.mesh_rules.specs.Entries.{Held, acted}
use Rattle.mesh_rules.specs.Named.{data_called, is_among}

-- the participant writes the data on the mesh
abbrev pub writes_on : PartTable → (mesh data_name : List ℕ) → Bool
writes_on table mesh data_name = list_any (λ entry. bytes_eq entry.data_name data_name && bytes_eq entry.mesh mesh) table.write

-- the target or a source is not written on the action's mesh
abbrev pub acts_elsewhere : PartTable → ActionEntry → Bool
acts_elsewhere table entry =
    not (writes_on table entry.mesh entry.target) || list_any (λ name. not (writes_on table entry.mesh name)) entry.sources

-- the target is that of some other action
abbrev pub is_target_of : List ℕ → List ActionEntry → Bool
is_target_of target actions = list_any (λ other. bytes_eq other.target target) actions

-- the target is a source of some action
abbrev pub is_source_of : List ℕ → List ActionEntry → Bool
is_source_of target actions = list_any (λ other. is_among target other.sources) actions

abbrev pub is_same_kind : Option DataKind → Option DataKind → Bool
is_same_kind (Some Scalar) (Some Scalar) = true
is_same_kind (Some Vector) (Some Vector) = true
is_same_kind _ _ = false

-- the kind of the data of a name
abbrev pub kind_called : Config → List ℕ → Option DataKind
kind_called config name = option_map (λ table. table.kind) (data_called config name)

-- a source is of another kind than the target
abbrev pub mixes_kinds : Config → ActionEntry → Bool
mixes_kinds config entry = list_any (λ name. not (is_same_kind (kind_called config name) (kind_called config entry.target))) entry.sources

-- an action has no source; the target or a source is not written on its mesh; the target is a source of its own, the target of an earlier action or a source of some action; or the kinds differ
abbrev pub is_wrong_action : Config → Held → Bool
is_wrong_action config (acted table earlier entry) =
    ((length entry.sources == 0 || acts_elsewhere table entry)
    || (is_among entry.target entry.sources || is_target_of entry.target earlier))
    || (is_source_of entry.target table.action || mixes_kinds config entry)
is_wrong_action config _ = false
