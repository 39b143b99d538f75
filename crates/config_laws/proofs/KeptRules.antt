-- That no entry of a configuration breaks a rule, kind by kind.
use Rattle.std.proofs.Common.{◌≡◌, false, List}
use Rattle.cpl_tables.specs.declared.places.Place.{Place}
use Rattle.cpl_config.specs.declared.config.Config.{Config}
use Rattle.cpl_config.specs.declared.config.PartTable.{PartTable}
use Rattle.cpl_config.specs.declared.config.SchemeTable.{SchemeTable}
use Rattle.mesh_rules.specs.Entries.{Held, Entry, entries_of}
use Rattle.config_rules.specs.declared.rules.ConfigRule.{ConfigRule}
use Rattle.config_rules.specs.ConfigRules.{breaks, IsAccepted}
use Rattle.config_laws.proofs.EntriesOf.{InParticipant, InScheme, InConfig, parts_of}
use Rattle.config_laws.proofs.Splits.{at_splits}

-- what stands in an entry breaks no rule, after some entries
abbrev pub Kept : Config → Held → Type 0
Kept config held = (rule : ConfigRule) → (place : Place) × (before : List Entry) × (breaks config rule before (record { place = place; held = held }) ≡ false)

abbrev pub KeptParticipant : Config → PartTable → Type 0
KeptParticipant config table = InParticipant (Kept config) table

abbrev pub KeptScheme : Config → List SchemeTable → SchemeTable → Type 0
KeptScheme config earlier table = InScheme (Kept config) earlier table

-- of an accepted configuration
pub kept : (config : Config) → IsAccepted config → InConfig (Kept config) config
kept config accepted =
    parts_of (Kept config) config
    (at_splits (λ (entry : Entry). Kept config entry.held) (entries_of config) (λ before entry after is rule. (entry.place, before, accepted rule before entry after is)))
