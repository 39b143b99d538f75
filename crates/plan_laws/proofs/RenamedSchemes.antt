-- The schemes of a plan stay as they are under other names, and so does the whole plan but for its names.
use Rattle.std.proofs.Common.{◌≡◌, ℕ, ◌+◌, Bool, ◌&&◌, List, length, map, take, Option, Some, None, refl, ap, ap₂, sym, ◌∙◌}
use Rattle.std.specs.Prelude.{option_map, unwrap_or, sum_by, flat_map}
use Rattle.std.specs.List.{enumerate_from}
use Rattle.std.specs.Str.{bytes_eq}
use Rattle.std.proofs.lemmas.List.{length-map, take-map}
use Rattle.std.proofs.lemmas.List.Folds.{flat_map-map}
use Rattle.plan_order.specs.declared.node.Node.{Node}
use Rattle.cpl_plan.specs.declared.parts.PlanParts.{PlanParts}
use Rattle.cpl_plan.specs.declared.parts.Part.{Part}
use Rattle.cpl_plan.specs.declared.parts.MeshPlan.{MeshPlan}
use Rattle.cpl_plan.specs.declared.parts.DataPlan.{DataPlan}
use Rattle.cpl_plan.specs.declared.parts.Exchange.{Exchange}
use Rattle.cpl_plan.specs.declared.parts.Scheme.{Scheme}
use Rattle.cpl_plan.specs.declared.parts.Measure.{Measure}
use Rattle.cpl_plan.specs.declared.parts.Accel.{Accel}
use Rattle.cpl_plan.specs.declared.parts.Accel.TheVariants as P
use Rattle.cpl_plan.specs.ExchangeKinds.{exchange_kind}
use Rattle.cpl_config.specs.declared.kind_words.AccelWord.{AccelWord}
use Rattle.cpl_config.specs.declared.kind_words.AccelWord.TheVariants as A
use Rattle.cpl_config.specs.declared.kind_words.WindowWord.{WindowWord}
use Rattle.cpl_config.specs.declared.kind_words.WindowWord.TheVariants as W
use Rattle.cpl_config.specs.declared.config.Config.{Config}
use Rattle.cpl_config.specs.declared.config.DataTable.{DataTable}
use Rattle.cpl_config.specs.declared.config.SchemeTable.{SchemeTable}
use Rattle.cpl_config.specs.declared.config.ExchangeEntry.{ExchangeEntry}
use Rattle.cpl_config.specs.declared.config.MeasureEntry.{MeasureEntry}
use Rattle.cpl_config.specs.declared.config.AccelEntry.{AccelEntry}
use Rattle.config_rules.specs.Members.{members, scheme_kind, kind_is_iterated}
use Rattle.config_rules.specs.SchemeRules.{is_accelerated}
use Rattle.config_rules.specs.Circles.{number_of}
use Rattle.config_laws.specs.Numbered.{numbers_in}
use Rattle.scheme_parts.specs.NumbersOf.{exchanges_before}
use Rattle.scheme_parts.specs.MeasureOf.{measure_of}
use Rattle.scheme_parts.specs.AccelOf.{accelerated, accel_by, accel_of}
use Rattle.scheme_parts.specs.ExchangeOf.{exchange_of, exchanges_of}
use Rattle.scheme_parts.specs.SchemeOf.{scheme_of}
use Rattle.plan_build.specs.DataOf.{data_of}
use Rattle.plan_build.specs.MeshOf.{mesh_of}
use Rattle.plan_build.specs.PartOf.{part_of}
use Rattle.plan_build.specs.WindowsOf.{windows_by}
use Rattle.plan_build.specs.PlanOf.{schemes_of, exchanges_of_all, plan_of}
use Rattle.plan_laws.specs.Renaming.{Renaming, KeepsApart, renamed_data, renamed_mesh, renamed_participant, renamed_exchange, renamed_measure, renamed_acceleration, renamed_scheme, renamed}
use Rattle.plan_laws.specs.Unnamed.{unnamed_part, unnamed_mesh, unnamed_data, unnamed}
use Rattle.plan_laws.proofs.Lists.{map_twice, sum_mapped, sum_same}
use Rattle.plan_laws.proofs.Grouped.{flat_same}
use Rattle.plan_laws.proofs.Positions.{numbered_map, numbered_same}
use Rattle.plan_laws.proofs.Renamed.{position_mapped, among_renamed, enumerated_mapped, same_data, part_numbered, members_renamed}
use Rattle.plan_laws.proofs.RenamedParts.{maps_agree, mesh_same, part_same, to_second_same, exchange_same}

module _ (names : Renaming) (apart : KeepsApart names) (config : Config) where
  abbrev other : Config
  other = renamed names config

  before_same : (s : ℕ) → exchanges_before other s ≡ exchanges_before config s
  before_same s =
      ap (sum_by (λ (table : SchemeTable). length table.exchange)) (take-map (renamed_scheme names) s config.scheme)
      ∙ (sum_mapped (λ (table : SchemeTable). length table.exchange) (renamed_scheme names) (take s config.scheme)
      ∙ sum_same (λ (table : SchemeTable). length (map (renamed_exchange names) table.exchange)) (λ (table : SchemeTable). length table.exchange) (take s config.scheme) (λ table inside. length-map table.exchange (renamed_exchange names)))

  numbers_same : (table : SchemeTable) → numbers_in other (renamed_scheme names table) ≡ numbers_in config table
  numbers_same table =
      ap (map (number_of other)) (members_renamed names apart config table)
      ∙ maps_agree (number_of other) (number_of config) names.participant (members table) (part_numbered names apart config)

  measure_same : (before : ℕ) (table : SchemeTable) (entry : MeasureEntry) → measure_of before (renamed_scheme names table) (renamed_measure names entry) ≡ measure_of before table entry
  measure_same before table entry =
      ap (λ (o : Option ℕ). record (measure_of before table entry) { exchange = before + unwrap_or o 0 })
      (position_mapped (λ (e : ExchangeEntry). bytes_eq e.data_name (names.data_item entry.data_name)) (λ (e : ExchangeEntry). bytes_eq e.data_name entry.data_name) (renamed_exchange names) table.exchange
      (λ e. same_data names apart config e.data_name entry.data_name))

  accelerated_same : (before : ℕ) (table : SchemeTable) (entry : AccelEntry) → accelerated before (renamed_scheme names table) (renamed_acceleration names entry) ≡ accelerated before table entry
  accelerated_same before table entry =
      let test : ExchangeEntry → Bool = is_accelerated (renamed_scheme names table) (renamed_acceleration names entry) in
      numbered_map test (renamed_exchange names) before table.exchange
      ∙ numbered_same (λ (e : ExchangeEntry). test (renamed_exchange names e)) (is_accelerated table entry) before table.exchange
      (λ e inside. ap₂ (λ (a b : Bool). a && b) (among_renamed names.data_item apart.data_apart e.data_name entry.data_list)
      (ap (λ (second : Bool). kind_is_iterated (exchange_kind (scheme_kind table.kind) second)) (to_second_same names apart config table e)))

  by_word : (word : AccelWord) (before : ℕ) (table : SchemeTable) (entry : AccelEntry) → accel_by word before (renamed_scheme names table) (renamed_acceleration names entry) ≡ accel_by word before table entry
  by_word A.Constant before table entry = ap (P.Constant entry.factor) (accelerated_same before table entry)
  by_word A.Aitken before table entry = ap (P.Aitken entry.factor) (accelerated_same before table entry)

  accel_same : (before : ℕ) (table : SchemeTable) (entry : Option AccelEntry) → accel_of before (renamed_scheme names table) (option_map (renamed_acceleration names) entry) ≡ accel_of before table entry
  accel_same before table None = refl
  accel_same before table (Some entry) = by_word entry.kind before table entry

  scheme_same : (before : ℕ) (table : SchemeTable) → scheme_of other before (renamed_scheme names table) ≡ scheme_of config before table
  scheme_same before table =
      let start : Scheme = scheme_of other before (renamed_scheme names table) in
      let end : Scheme = scheme_of config before table in
      ap (λ (members : List ℕ). record start { members = members }) (numbers_same table)
      ∙ ap₂ (λ (measures : List Measure) (accel : Accel). record end { measures = measures; accel = accel })
      (maps_agree (measure_of before (renamed_scheme names table)) (measure_of before table) (renamed_measure names) table.measure (measure_same before table))
      (accel_same before table table.acceleration)

  schemes_same : schemes_of other ≡ schemes_of config
  schemes_same =
      let made : ℕ × SchemeTable → Scheme = λ numbered. scheme_of other (exchanges_before other numbered.0) numbered.1 in
      ap (map made) (enumerated_mapped (renamed_scheme names) 0 config.scheme)
      ∙ maps_agree made (λ (numbered : ℕ × SchemeTable). scheme_of config (exchanges_before config numbered.0) numbered.1) (λ (numbered : ℕ × SchemeTable). (numbered.0, renamed_scheme names numbered.1)) (enumerate_from 0 config.scheme)
      (λ numbered. ap (λ (before : ℕ). scheme_of other before (renamed_scheme names numbered.1)) (before_same numbered.0) ∙ scheme_same (exchanges_before config numbered.0) numbered.1)

  exchanges_same : exchanges_of_all other ≡ exchanges_of_all config
  exchanges_same =
      let made : ℕ × SchemeTable → List Exchange = λ numbered. exchanges_of other numbered.0 numbered.1 in
      ap (λ (entries : List (ℕ × SchemeTable)). flat_map made entries) (enumerated_mapped (renamed_scheme names) 0 config.scheme)
      ∙ (flat_map-map made (λ (numbered : ℕ × SchemeTable). (numbered.0, renamed_scheme names numbered.1)) (enumerate_from 0 config.scheme)
      ∙ flat_same (λ (numbered : ℕ × SchemeTable). exchanges_of other numbered.0 (renamed_scheme names numbered.1)) (λ (numbered : ℕ × SchemeTable). exchanges_of config numbered.0 numbered.1) (enumerate_from 0 config.scheme)
      (λ numbered inside. maps_agree (exchange_of other numbered.0 (renamed_scheme names numbered.1)) (exchange_of config numbered.0 numbered.1) (renamed_exchange names) numbered.1.exchange (exchange_same names apart config numbered.0 numbered.1)))

  -- the whole plan, in the same order of nodes

  data_same : map unnamed_data (map data_of (map (renamed_data names) config.data_list)) ≡ map unnamed_data (map data_of config.data_list)
  data_same =
      ap (map unnamed_data) (map_twice data_of (renamed_data names) config.data_list)
      ∙ (maps_agree unnamed_data (λ (table : DataTable). unnamed_data (data_of table)) (λ (table : DataTable). data_of (renamed_data names table)) config.data_list (λ table. refl)
      ∙ sym (map_twice unnamed_data data_of config.data_list))

  meshes_same : map unnamed_mesh (map (mesh_of other) (map (renamed_mesh names) config.mesh)) ≡ map unnamed_mesh (map (mesh_of config) config.mesh)
  meshes_same =
      ap (map unnamed_mesh) (map_twice (mesh_of other) (renamed_mesh names) config.mesh)
      ∙ (maps_agree unnamed_mesh (λ table. unnamed_mesh (mesh_of config table)) (λ table. mesh_of other (renamed_mesh names table)) config.mesh (mesh_same names apart config)
      ∙ sym (map_twice unnamed_mesh (mesh_of config) config.mesh))

  parts_same : map unnamed_part (map (part_of other) (map (renamed_participant names) config.participant)) ≡ map unnamed_part (map (part_of config) config.participant)
  parts_same =
      ap (map unnamed_part) (map_twice (part_of other) (renamed_participant names) config.participant)
      ∙ (maps_agree unnamed_part (λ table. unnamed_part (part_of config table)) (λ table. part_of other (renamed_participant names table)) config.participant (part_same names apart config)
      ∙ sym (map_twice unnamed_part (part_of config) config.participant))

  windows_same : (method : WindowWord) → windows_by method other ≡ windows_by method config
  windows_same W.Fixed = refl
  windows_same W.FirstParticipant = refl

  pub plan_same : (nodes : List Node) → unnamed (plan_of other nodes) ≡ unnamed (plan_of config nodes)
  plan_same nodes =
      let start : PlanParts = unnamed (plan_of other nodes) in
      let end : PlanParts = unnamed (plan_of config nodes) in
      ap₂ (λ (parts : List Part) (meshes : List MeshPlan). record start { parts = parts; meshes = meshes }) parts_same meshes_same
      ∙ (ap (λ (most : ℕ). record end { most_windows = most; data_list = start.data_list; schemes = start.schemes; exchanges = start.exchanges }) (windows_same config.window_method)
      ∙ (ap (λ (items : List DataPlan). record end { data_list = items; schemes = start.schemes; exchanges = start.exchanges }) data_same
      ∙ ap₂ (λ (schemes : List Scheme) (exchanges : List Exchange). record end { schemes = schemes; exchanges = exchanges }) schemes_same exchanges_same))
