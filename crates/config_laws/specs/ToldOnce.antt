-- What is told once in a configuration: each over a whole list, of whose items none is like another. The project's own.
use Rattle.std.specs.Prelude.{◌≡◌, ℕ, List, map, flat_map, IsTrue, IsFalse, All, AllPairs}
use Rattle.cpl_tables.specs.Values.{are_distinct_texts}
use Rattle.cpl_config.specs.declared.config.Config.{Config}
use Rattle.cpl_config.specs.declared.config.MapEntry.{MapEntry}
use Rattle.cpl_config.specs.declared.config.SchemeTable.{SchemeTable}
use Rattle.mesh_rules.specs.MeshRules.{goes}
use Rattle.config_rules.specs.Members.{is_implicit, members, is_member}
use Rattle.config_laws.specs.FitSchemes.{ShareNone}

-- no participant receives a mesh in two entries
abbrev pub ReceivedOnce : Config → Type 0
ReceivedOnce config = All (λ table. IsTrue (are_distinct_texts (map (λ entry. entry.mesh) table.receives))) config.participant

-- no participant reads data in two entries
abbrev pub ReadOnce : Config → Type 0
ReadOnce config = All (λ table. IsTrue (are_distinct_texts (map (λ entry. entry.data_name) table.read))) config.participant

-- the data of all write entries of the file, one after the other
abbrev pub all_written : Config → List (List ℕ)
all_written config = flat_map (λ table. map (λ entry. entry.data_name) table.write) config.participant

-- no data are written in two entries
abbrev pub WrittenOnce : Config → Type 0
WrittenOnce config = IsTrue (are_distinct_texts (all_written config))

-- one mapping doesn't go where the other does
abbrev pub GoElsewhere : (one other : MapEntry) → Type 0
GoElsewhere one other = IsFalse (goes other.direction other.from other.to one)

-- no two mappings of a participant go the same way between the same meshes
abbrev pub MappedOnce : Config → Type 0
MappedOnce config = All (λ table. AllPairs GoElsewhere table.map) config.participant

-- no two actions of a participant have one target
abbrev pub TargetsOnce : Config → Type 0
TargetsOnce config = All (λ table. IsTrue (are_distinct_texts (map (λ entry. entry.target) table.action))) config.participant

-- no scheme lists a participant twice
abbrev pub ListedOnce : Config → Type 0
ListedOnce config = All (λ table. IsTrue (are_distinct_texts (members table))) config.scheme

-- who is in both schemes is one participant
abbrev pub ShareOne : (one other : SchemeTable) → Type 0
ShareOne one other =
    (name partner : List ℕ) → IsTrue (is_member name one) → IsTrue (is_member partner one) → IsTrue (is_member name other)
    → IsTrue (is_member partner other) → name ≡ partner

-- no two participants are together in two schemes
abbrev pub MetOnce : Config → Type 0
MetOnce config = AllPairs ShareOne config.scheme

-- no participant is in two implicit schemes
abbrev pub GroupedOnce : Config → Type 0
GroupedOnce config = AllPairs (λ one other. IsTrue (is_implicit one) → IsTrue (is_implicit other) → ShareNone other one) config.scheme
