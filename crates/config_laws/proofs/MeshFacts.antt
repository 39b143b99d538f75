-- Meshes and participants of which no entry breaks a rule fit.
use Rattle.std.proofs.Common.{◌≡◌, ℕ, ◌*◌, ◌^◌, Bool, false, not, ◌||◌, inl, inr, length, List, Option, Some, None, ◌⊎◌, ℤ, refl}
use Rattle.std.specs.Prelude.{count_by, unsigned_abs, is_some, ◌==◌, nat_lt}
use Rattle.std.specs.List.{list_any}
use Rattle.std.specs.Option.{option_map_or}
use Rattle.std.specs.Bool.{beq}
use Rattle.std.specs.Str.{bytes_eq}
use Rattle.std.proofs.lemmas.Bool.{eqb-true, ltb-false}
use Rattle.std.proofs.lemmas.Bool.Decides.{Decides-int_eq}
use Rattle.cpl_config.specs.declared.kind_words.WindowWord.{WindowWord}
use Rattle.cpl_config.specs.declared.kind_words.WindowWord.TheVariants.{Fixed, FirstParticipant}
use Rattle.cpl_config.specs.declared.config.Config.{Config}
use Rattle.cpl_config.specs.declared.config.MeshTable.{MeshTable}
use Rattle.cpl_config.specs.declared.config.PartTable.{PartTable}
use Rattle.cpl_config.specs.declared.config.ReceivesEntry.{ReceivesEntry}
use Rattle.cpl_config.specs.declared.config.DataEntry.{DataEntry}
use Rattle.cpl_config.specs.declared.config.MapEntry.{MapEntry}
use Rattle.cpl_config.specs.declared.config.WatchEntry.{WatchEntry}
use Rattle.cpl_config.specs.declared.config.ExchangeEntry.{ExchangeEntry}
use Rattle.cpl_config.specs.SoundConfig.{all_exchanges}
use Rattle.mesh_rules.specs.Entries.{whole, mesh, participant, received, written, read, mapped, watched}
use Rattle.mesh_rules.specs.Named.{is_data, is_mesh, is_participant, participant_called, carries, dimensions_of, provides, holds_of}
use Rattle.mesh_rules.specs.MeshRules.{lacks_end, is_too_far, has_right_ends, have_same_dimensions, has_dimensions_of, goes, some_goes}
use Rattle.config_rules.specs.Members.{is_member}
use Rattle.config_rules.specs.SchemeRules.{feeds}
use Rattle.config_rules.specs.declared.rules.ConfigRule.TheVariants.{Undeclared, NoEnd, NoProvider, WronglyReceived, OffMesh, WronglyMapped, Unfed, NoScheme}
use Rattle.config_laws.specs.FitMeshes.{EndsInTime, EndsInWindows, EndsBy, HasEnd, IsFitMesh, IsFitParticipant, IsFitReceived, IsOnOwnMesh, IsFitRead, IsFitMap, IsFitWatch}
use Rattle.config_laws.proofs.KeptRules.{Kept}
use Rattle.config_laws.proofs.Truths.{neither, holds, some_there, none_passes, none_lacks, none_named, holds_some, only_one}

end_told : (config : Config) (time windows : Option ℤ) → config.max_time ≡ time → config.max_windows ≡ windows → beq (is_some time) (is_some windows) ≡ false
    → option_map_or (λ t. nat_lt (10 ^ 6 * unsigned_abs config.window) (unsigned_abs t)) time false ≡ false → EndsInTime config ⊎ EndsInWindows config
end_told config None None is_time is_windows one near = cc
end_told config None (Some windows) is_time is_windows one near = inr (record { windows = windows; told = is_windows; alone = is_time })
end_told config (Some time) None is_time is_windows one near =
    inl (record { time = time; told = is_time; alone = is_windows; near = ltb-false (10 ^ 6 * unsigned_abs config.window) (unsigned_abs time) near })
end_told config (Some time) (Some windows) is_time is_windows one near = cc

end_by : (config : Config) (method : WindowWord) → lacks_end config method ≡ false → EndsBy config method
end_by config Fixed rule =
    let parts = neither (beq (is_some config.max_time) (is_some config.max_windows)) (is_too_far config) rule in
    end_told config config.max_time config.max_windows refl refl parts.0 parts.1
end_by config FirstParticipant rule =
    let windows = some_there config.max_windows (holds (is_some config.max_windows) rule) in
    record { windows = windows.0; told = windows.1 }

pub fit_end : (config : Config) → Kept config whole → HasEnd config
fit_end config kept = end_by config config.window_method (kept NoEnd).2

pub fit_mesh : (config : Config) (table : MeshTable) → Kept config (mesh table) → IsFitMesh config table
fit_mesh config table kept =
    let provider : PartTable → Bool = λ part. provides part table.name in
    let one : count_by provider config.participant ≡ 1 = eqb-true (count_by provider config.participant) 1 (holds (count_by provider config.participant == 1) (kept NoProvider).2) in
    let owner = only_one provider config.participant one in
    record {
      data_declared = none_lacks (is_data config) table.data_list (kept Undeclared).2;
      owner = owner.0;
      owned = owner.1;
    }

pub fit_participant : (config : Config) (table : PartTable) → Kept config (participant table) → IsFitParticipant config table
fit_participant config table kept = record {
  provided_declared = none_lacks (is_mesh config) table.provides (kept Undeclared).2;
  in_a_scheme = holds (list_any (is_member table.name) config.scheme) (kept NoScheme).2;
}

pub fit_received : (config : Config) (table : PartTable) (earlier : List ReceivesEntry) (entry : ReceivesEntry) → Kept config (received table earlier entry) → IsFitReceived config table earlier entry
fit_received config table earlier entry kept =
    let provided : Bool = holds_of config entry.from (λ from. provides from entry.mesh) in
    let names = neither (not (is_mesh config entry.mesh)) (not (is_participant config entry.from)) (kept Undeclared).2 in
    let rule = neither (not provided || provides table entry.mesh) (list_any (λ other. bytes_eq other.mesh entry.mesh) earlier) (kept WronglyReceived).2 in
    let ends = neither (not provided) (provides table entry.mesh) rule.0 in
    let sender = holds_some (λ (from : PartTable). provides from entry.mesh) (participant_called config entry.from) (holds provided ends.0) in
    record {
      mesh_declared = holds (is_mesh config entry.mesh) names.0;
      sender = sender.0;
      sender_called = sender.1;
      provided = sender.2;
      not_own = ends.1;
      once = none_named (λ (other : ReceivesEntry). other.mesh) entry.mesh earlier rule.1;
    }

own_mesh : (config : Config) (table : PartTable) (entry : DataEntry) → (not (is_data config entry.data_name) || not (is_mesh config entry.mesh)) ≡ false
    → (not (carries config entry.mesh entry.data_name) || not (provides table entry.mesh)) ≡ false → IsOnOwnMesh config table entry
own_mesh config table entry declared placed =
    let names = neither (not (is_data config entry.data_name)) (not (is_mesh config entry.mesh)) declared in
    let parts = neither (not (carries config entry.mesh entry.data_name)) (not (provides table entry.mesh)) placed in
    record {
      data_declared = holds (is_data config entry.data_name) names.0;
      mesh_declared = holds (is_mesh config entry.mesh) names.1;
      carried = holds (carries config entry.mesh entry.data_name) parts.0;
      own = holds (provides table entry.mesh) parts.1;
    }

pub fit_written : (config : Config) (table : PartTable) (entry : DataEntry) → Kept config (written table entry) → IsOnOwnMesh config table entry
fit_written config table entry kept = own_mesh config table entry (kept Undeclared).2 (kept OffMesh).2

pub fit_read : (config : Config) (table : PartTable) (earlier : List DataEntry) (entry : DataEntry) → Kept config (read table earlier entry) → IsFitRead config table earlier entry
fit_read config table earlier entry kept =
    let feeder : ExchangeEntry → Bool = feeds table.name entry.data_name in
    let count : ℕ = count_by feeder (all_exchanges config) in
    let rule = neither (list_any (λ other. bytes_eq other.data_name entry.data_name) earlier) (not (count == 1)) (kept Unfed).2 in
    let one = only_one feeder (all_exchanges config) (eqb-true count 1 (holds (count == 1) rule.1)) in
    record {
      placed = own_mesh config table entry (kept Undeclared).2 (kept OffMesh).2;
      once = none_named (λ (other : DataEntry). other.data_name) entry.data_name earlier rule.0;
      feeder = one.0;
      fed = one.1;
    }

pub fit_map : (config : Config) (table : PartTable) (earlier : List MapEntry) (entry : MapEntry) → Kept config (mapped table earlier entry) → IsFitMap config table earlier entry
fit_map config table earlier entry kept =
    let right : Bool = has_right_ends table entry.direction entry.from entry.to in
    let same : Bool = have_same_dimensions config entry.from entry.to in
    let names = neither (not (is_mesh config entry.from)) (not (is_mesh config entry.to)) (kept Undeclared).2 in
    let rule = neither (not right || not same) (some_goes entry.direction entry.from entry.to earlier) (kept WronglyMapped).2 in
    let parts = neither (not right) (not same) rule.0 in
    record {
      from_declared = holds (is_mesh config entry.from) names.0;
      to_declared = holds (is_mesh config entry.to) names.1;
      ends = holds right parts.0;
      dimensions = (Decides-int_eq (dimensions_of config entry.from) (dimensions_of config entry.to)).0 (holds same parts.1);
      once = none_passes (goes entry.direction entry.from entry.to) earlier rule.1;
    }

pub fit_watch : (config : Config) (table : PartTable) (entry : WatchEntry) → Kept config (watched table entry) → IsFitWatch config table entry
fit_watch config table entry kept =
    let fits : Bool = has_dimensions_of config entry in
    let parts = neither (not (provides table entry.mesh)) (not fits) (kept WronglyMapped).2 in
    record {
      mesh_declared = holds (is_mesh config entry.mesh) (kept Undeclared).2;
      own = holds (provides table entry.mesh) parts.0;
      coordinates = eqb-true (length entry.at) (unsigned_abs (dimensions_of config entry.mesh)) (holds fits parts.1);
    }
