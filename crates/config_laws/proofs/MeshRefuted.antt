-- Meshes and participants that fit break no rule.
use Rattle.std.proofs.Common.{◌≡◌, ◌≢◌, ◌*◌, ◌^◌, Bool, true, false, not, ◌||◌, inl, inr, length, List, Option, ℤ, refl, ap}
use Rattle.std.specs.Prelude.{count_by, unsigned_abs, is_some, ◌==◌, nat_lt}
use Rattle.std.specs.List.{list_any}
use Rattle.std.specs.Option.{option_map_or}
use Rattle.std.specs.Bool.{beq}
use Rattle.std.specs.Str.{bytes_eq}
use Rattle.std.proofs.lemmas.Bool.{eq-eqb, le-ltb}
use Rattle.std.proofs.lemmas.Bool.Decides.{Decides-int_eq}
use Rattle.std.proofs.lemmas.List.Folds.{list_any_none}
use Rattle.cpl_tables.specs.declared.places.Place.{Place}
use Rattle.cpl_config.specs.declared.kind_words.WindowWord.{WindowWord}
use Rattle.cpl_config.specs.declared.kind_words.WindowWord.TheVariants.{Fixed, FirstParticipant}
use Rattle.cpl_config.specs.declared.config.Config.{Config}
use Rattle.cpl_config.specs.declared.config.DataTable.{DataTable}
use Rattle.cpl_config.specs.declared.config.MeshTable.{MeshTable}
use Rattle.cpl_config.specs.declared.config.PartTable.{PartTable}
use Rattle.cpl_config.specs.declared.config.ReceivesEntry.{ReceivesEntry}
use Rattle.cpl_config.specs.declared.config.DataEntry.{DataEntry}
use Rattle.cpl_config.specs.declared.config.MapEntry.{MapEntry}
use Rattle.cpl_config.specs.declared.config.WatchEntry.{WatchEntry}
use Rattle.cpl_config.specs.SoundConfig.{all_exchanges}
use Rattle.mesh_rules.specs.Entries.{Held, whole, datum, mesh, participant, received, written, read, mapped, watched, Entry}
use Rattle.mesh_rules.specs.Named.{is_data, is_mesh, is_participant, participant_called, carries, dimensions_of, provides, holds_of}
use Rattle.mesh_rules.specs.MeshRules.{lacks_end, is_too_far, has_right_ends, have_same_dimensions, has_dimensions_of, goes, some_goes}
use Rattle.config_rules.specs.Members.{is_member}
use Rattle.config_rules.specs.SchemeRules.{feeds}
use Rattle.config_rules.specs.declared.rules.ConfigRule.{ConfigRule}
use Rattle.config_rules.specs.declared.rules.ConfigRule.TheVariants.{Undeclared, NoEnd, NoProvider, WronglyReceived, OffMesh, WrittenTwice, WronglyMapped, Unfed, NoScheme}
use Rattle.config_rules.specs.ConfigRules.{breaks}
use Rattle.config_laws.specs.FitMeshes.{EndsBy, HasEnd, IsFitMesh, IsFitParticipant, IsFitReceived, IsOnOwnMesh, IsFitRead, IsFitMap, IsFitWatch}
use Rattle.config_laws.proofs.Refuted.{either_false, not_false, lacks_none, named_none, at_test, is_there, not_there, counts_one}

-- what stands in an entry breaks no rule but that on data written twice perhaps
abbrev pub Fine : Config → Held → Type 0
Fine config held = (place : Place) (rule : ConfigRule) → rule ≢ WrittenTwice → (before : List Entry) → breaks config rule before (record { place = place; held = held }) ≡ false

ends_one_way : (time windows : Option ℤ) → is_some time ≡ true → is_some windows ≡ false → beq (is_some time) (is_some windows) ≡ false
ends_one_way time windows is_time is_windows = rw (is_time, is_windows) refl

ends_other_way : (time windows : Option ℤ) → is_some time ≡ false → is_some windows ≡ true → beq (is_some time) (is_some windows) ≡ false
ends_other_way time windows is_time is_windows = rw (is_time, is_windows) refl

end_fits : (config : Config) (method : WindowWord) → EndsBy config method → lacks_end config method ≡ false
end_fits config Fixed (inl told) =
    either_false (beq (is_some config.max_time) (is_some config.max_windows)) (is_too_far config)
    (ends_one_way config.max_time config.max_windows (is_there config.max_time told.time told.told) (not_there config.max_windows told.alone))
    (at_test (λ (time : ℤ). nat_lt (10 ^ 6 * unsigned_abs config.window) (unsigned_abs time)) config.max_time told.time false told.told (le-ltb (10 ^ 6 * unsigned_abs config.window) (unsigned_abs told.time) told.near))
end_fits config Fixed (inr told) =
    either_false (beq (is_some config.max_time) (is_some config.max_windows)) (is_too_far config)
    (ends_other_way config.max_time config.max_windows (not_there config.max_time told.alone) (is_there config.max_windows told.windows told.told))
    (ap (λ (time : Option ℤ). option_map_or (λ t. nat_lt (10 ^ 6 * unsigned_abs config.window) (unsigned_abs t)) time false) told.alone)
end_fits config FirstParticipant told = not_false (is_some config.max_windows) (is_there config.max_windows told.windows told.told)

pub whole_fine : (config : Config) → HasEnd config → Fine config whole
whole_fine config has place NoEnd other before = end_fits config config.window_method has
whole_fine config has place rule other before = refl

pub data_fine : (config : Config) (table : DataTable) → Fine config (datum table)
data_fine config table place Undeclared other before = refl
data_fine config table place rule other before = refl

pub mesh_fine : (config : Config) (table : MeshTable) → IsFitMesh config table → Fine config (mesh table)
mesh_fine config table fit place Undeclared other before = lacks_none (is_data config) table.data_list fit.data_declared
mesh_fine config table fit place NoProvider other before = counts_one (λ (part : PartTable). provides part table.name) config.participant fit.owner fit.owned
mesh_fine config table fit place rule other before = refl

pub participant_fine : (config : Config) (table : PartTable) → IsFitParticipant config table → Fine config (participant table)
participant_fine config table fit place Undeclared other before = lacks_none (is_mesh config) table.provides fit.provided_declared
participant_fine config table fit place NoScheme other before = not_false (list_any (is_member table.name) config.scheme) fit.in_a_scheme
participant_fine config table fit place rule other before = refl

pub both_there : (a b : Bool) → a ≡ true → b ≡ true → (not a || not b) ≡ false
both_there a b is_a is_b = either_false (not a) (not b) (not_false a is_a) (not_false b is_b)

pub received_fine : (config : Config) (table : PartTable) (earlier : List ReceivesEntry) (entry : ReceivesEntry) → IsFitReceived config table earlier entry → Fine config (received table earlier entry)
received_fine config table earlier entry fit place Undeclared other before =
    both_there (is_mesh config entry.mesh) (is_participant config entry.from) fit.mesh_declared (is_there (participant_called config entry.from) fit.sender fit.sender_called)
received_fine config table earlier entry fit place WronglyReceived other before =
    let provided : Bool = holds_of config entry.from (λ from. provides from entry.mesh) in
    let is : provided ≡ true = at_test (λ (from : PartTable). provides from entry.mesh) (participant_called config entry.from) fit.sender true fit.sender_called fit.provided in
    either_false (not provided || provides table entry.mesh) (list_any (λ one. bytes_eq one.mesh entry.mesh) earlier)
    (either_false (not provided) (provides table entry.mesh) (not_false provided is) fit.not_own) (named_none (λ (one : ReceivesEntry). one.mesh) entry.mesh earlier fit.once)
received_fine config table earlier entry fit place rule other before = refl

pub written_fine : (config : Config) (table : PartTable) (entry : DataEntry) → IsOnOwnMesh config table entry → Fine config (written table entry)
written_fine config table entry fit place Undeclared other before = both_there (is_data config entry.data_name) (is_mesh config entry.mesh) fit.data_declared fit.mesh_declared
written_fine config table entry fit place OffMesh other before = both_there (carries config entry.mesh entry.data_name) (provides table entry.mesh) fit.carried fit.own
written_fine config table entry fit place WrittenTwice other before = absurd (other refl)
written_fine config table entry fit place rule other before = refl

pub read_fine : (config : Config) (table : PartTable) (earlier : List DataEntry) (entry : DataEntry) → IsFitRead config table earlier entry → Fine config (read table earlier entry)
read_fine config table earlier entry fit place Undeclared other before = both_there (is_data config entry.data_name) (is_mesh config entry.mesh) fit.placed.data_declared fit.placed.mesh_declared
read_fine config table earlier entry fit place OffMesh other before = both_there (carries config entry.mesh entry.data_name) (provides table entry.mesh) fit.placed.carried fit.placed.own
read_fine config table earlier entry fit place Unfed other before =
    either_false (list_any (λ one. bytes_eq one.data_name entry.data_name) earlier) (not (count_by (feeds table.name entry.data_name) (all_exchanges config) == 1))
    (named_none (λ (one : DataEntry). one.data_name) entry.data_name earlier fit.once) (counts_one (feeds table.name entry.data_name) (all_exchanges config) fit.feeder fit.fed)
read_fine config table earlier entry fit place rule other before = refl

pub map_fine : (config : Config) (table : PartTable) (earlier : List MapEntry) (entry : MapEntry) → IsFitMap config table earlier entry → Fine config (mapped table earlier entry)
map_fine config table earlier entry fit place Undeclared other before = both_there (is_mesh config entry.from) (is_mesh config entry.to) fit.from_declared fit.to_declared
map_fine config table earlier entry fit place WronglyMapped other before =
    let same : have_same_dimensions config entry.from entry.to ≡ true = (Decides-int_eq (dimensions_of config entry.from) (dimensions_of config entry.to)).1 fit.dimensions in
    either_false (not (has_right_ends table entry.direction entry.from entry.to) || not (have_same_dimensions config entry.from entry.to)) (some_goes entry.direction entry.from entry.to earlier)
    (both_there (has_right_ends table entry.direction entry.from entry.to) (have_same_dimensions config entry.from entry.to) fit.ends same)
    (list_any_none (goes entry.direction entry.from entry.to) earlier fit.once)
map_fine config table earlier entry fit place rule other before = refl

pub watch_fine : (config : Config) (table : PartTable) (entry : WatchEntry) → IsFitWatch config table entry → Fine config (watched table entry)
watch_fine config table entry fit place Undeclared other before = not_false (is_mesh config entry.mesh) fit.mesh_declared
watch_fine config table entry fit place WronglyMapped other before =
    both_there (provides table entry.mesh) (has_dimensions_of config entry) fit.own (eq-eqb (length entry.at) (unsigned_abs (dimensions_of config entry.mesh)) fit.coordinates)
watch_fine config table entry fit place rule other before = refl
