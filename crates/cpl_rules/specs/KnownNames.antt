-- Names that were seen before, kind by kind. The project's own.
use Rattle.std.specs.Prelude.{◌≡◌, ℕ, Bool, false, List}
use Rattle.std.specs.List.{list_any}
use Rattle.std.specs.BTreeSet.{contains_text}
use Rattle.cpl_tables.specs.declared.kinds.TableKind.{TableKind}
use Rattle.cpl_tables.specs.declared.kinds.TableKind.TheVariants.{Data, Mesh, Participant, Watch, CaseMesh}
use Rattle.cpl_rules.specs.declared.names.Names.{Names}
use Rattle.cpl_rules.specs.declared.rules.Rule.{Rule}
use Rattle.cpl_rules.specs.declared.rules.Rule.TheVariants.{Repeated}
use Rattle.cpl_rules.specs.Seen.{Seen}
use Rattle.cpl_rules.specs.BrokenRules.{has_name}

-- a table of this kind had this name
abbrev pub knows : Names → TableKind → List ℕ → Bool
knows names Data name = contains_text names.of_data name
knows names Mesh name = contains_text names.of_meshes name
knows names (Participant _) name = contains_text names.of_participants name
knows names Watch name = contains_text names.of_watches name
knows names CaseMesh name = contains_text names.of_case_meshes name
knows names _ name = false

-- the names are those of the tables before
abbrev pub AreNamesOf : List Seen → Names → Type 0
AreNamesOf before names = (kind : TableKind) (name : List ℕ) → knows names kind name ≡ list_any (has_name kind name) before

-- the same, where the rule looks at names
abbrev pub AreNamesFor : Rule → List Seen → Names → Type 0
AreNamesFor Repeated before names = AreNamesOf before names
AreNamesFor _ before names = Unit {0}
