-- What the plan of an accepted configuration says by numbers is what the configuration says by names.
use Rattle.std.proofs.Common.{◌≡◌, ℕ, Bool, true, false, ◌||◌, List, [], ◌∷◌, map, Option, Some, All, refl, ap, sym, ◌∙◌}
use Rattle.std.specs.Prelude.{slice_get, is_some}
use Rattle.std.specs.List.{list_any}
use Rattle.std.specs.Option.{option_map_or}
use Rattle.std.specs.Str.{bytes_eq}
use Rattle.std.proofs.lemmas.List.Elements.{All-map}
use Rattle.cpl_config.specs.declared.config.Config.{Config}
use Rattle.cpl_config.specs.declared.config.DataTable.{DataTable}
use Rattle.cpl_config.specs.declared.config.MeshTable.{MeshTable}
use Rattle.cpl_config.specs.declared.config.PartTable.{PartTable}
use Rattle.cpl_config.specs.declared.config.ReceivesEntry.{ReceivesEntry}
use Rattle.cpl_config.specs.declared.config.SchemeTable.{SchemeTable}
use Rattle.cpl_plan.specs.PlanWords as words
use Rattle.plan_order.specs.declared.node.Node.{Node}
use Rattle.mesh_rules.specs.Named as named
use Rattle.config_rules.specs.ConfigRules.{IsAccepted}
use Rattle.config_rules.specs.Members.{members}
use Rattle.config_rules.specs.Members as rules
use Rattle.config_laws.specs.Placed.{EachAfter}
use Rattle.config_laws.specs.FitMeshes.{IsFitMesh, IsFitParticipant, IsFitReceived}
use Rattle.config_laws.specs.FitSchemes.{IsFitScheme}
use Rattle.config_laws.proofs.Truths.{some_there, text_same}
use Rattle.config_laws.proofs.Splits.{each_weaker, each_all}
use Rattle.config_laws.proofs.WholeFacts.{meshes, participants, received_meshes, schemes}
use Rattle.scheme_parts.specs.NumbersOf.{data_number, mesh_number, part_number, exchanges_before}
use Rattle.scheme_parts.specs.SchemeOf.{scheme_of}
use Rattle.scheme_parts.proofs.Tables.{all_at, map_at, numbered_at, found_by}
use Rattle.scheme_parts.proofs.NamedTables.{HasTable, has_table, have_tables, table_at, among_same}
use Rattle.plan_build.specs.MeshOf.{mesh_of}
use Rattle.plan_build.specs.PartOf.{part_of}
use Rattle.plan_build.specs.PlanOf.{plan_of}

abbrev pub data_name : DataTable → List ℕ
data_name table = table.name

abbrev pub mesh_name : MeshTable → List ℕ
mesh_name table = table.name

abbrev pub part_name : PartTable → List ℕ
part_name table = table.name

-- what holds of each entry after those before it, in fewer words
pub each_of : {X : Type 0} (P : List X → X → Type 0) (Q : X → Type 0) (items : List X) → ((before : List X) (item : X) → P before item → Q item) → EachAfter P items → All Q items
each_of {X} P Q items f each = each_all Q items (each_weaker P (λ (before : List X) (item : X). Q item) items f each)

pub map_map : {X Y Z : Type 0} (g : Y → Z) (f : X → Y) (xs : List X) → map g (map f xs) ≡ map (λ x. g (f x)) xs
map_map g f [] = refl
map_map {X} {Y} {Z} g f (x ∷ xs) = ap (λ (zs : List Z). g (f x) ∷ zs) (map_map g f xs)

pub any_map : {X Y : Type 0} (test : Y → Bool) (f : X → Y) (xs : List X) → list_any test (map f xs) ≡ list_any (λ x. test (f x)) xs
any_map test f [] = refl
any_map test f (x ∷ xs) = ap (λ b. test (f x) || b) (any_map test f xs)

pub data_at : (config : Config) (name : List ℕ) → named.is_data config name ≡ true → HasTable data_name config.data_list name
data_at config name there = has_table data_name config.data_list name there

pub mesh_at : (config : Config) (name : List ℕ) → named.is_mesh config name ≡ true → HasTable mesh_name config.mesh name
mesh_at config name there = has_table mesh_name config.mesh name there

pub part_at : (config : Config) (name : List ℕ) → named.is_participant config name ≡ true → HasTable part_name config.participant name
part_at config name there = has_table part_name config.participant name there

pub data_all : (config : Config) (names : List (List ℕ)) → All (λ name. named.is_data config name ≡ true) names → All (HasTable data_name config.data_list) names
data_all config names all = have_tables data_name config.data_list names all

pub mesh_all : (config : Config) (names : List (List ℕ)) → All (λ name. named.is_mesh config name ≡ true) names → All (HasTable mesh_name config.mesh) names
mesh_all config names all = have_tables mesh_name config.mesh names all

pub part_all : (config : Config) (names : List (List ℕ)) → All (λ name. named.is_participant config name ≡ true) names → All (HasTable part_name config.participant) names
part_all config names all = have_tables part_name config.participant names all

there_by : {X : Type 0} {o : Option X} → (x : X) × (o ≡ Some x) → is_some o ≡ true
there_by found = ap is_some found.1

-- a table is there by its name
pub mesh_itself : (config : Config) (m : ℕ) (table : MeshTable) → slice_get config.mesh m ≡ Some table → named.is_mesh config table.name ≡ true
mesh_itself config m table at = there_by (found_by (λ (other : MeshTable). bytes_eq other.name table.name) config.mesh m table at (text_same table.name table.name refl))

pub part_itself : (config : Config) (p : ℕ) (table : PartTable) → slice_get config.participant p ≡ Some table → named.is_participant config table.name ≡ true
part_itself config p table at = there_by (found_by (λ (other : PartTable). bytes_eq other.name table.name) config.participant p table at (text_same table.name table.name refl))

module _ (config : Config) (accepted : IsAccepted config) where
  pub provided_declared : (p : ℕ) (table : PartTable) → slice_get config.participant p ≡ Some table → All (λ name. named.is_mesh config name ≡ true) table.provides
  provided_declared p table at = (all_at (IsFitParticipant config) config.participant p table (participants config accepted) at).provided_declared

  pub fit_received : (p : ℕ) (table : PartTable) → slice_get config.participant p ≡ Some table → EachAfter (IsFitReceived config table) table.receives
  fit_received p table at = all_at (λ (t : PartTable). EachAfter (IsFitReceived config t) t.receives) config.participant p table (received_meshes config accepted) at

  pub received_declared : (p : ℕ) (table : PartTable) → slice_get config.participant p ≡ Some table → All (λ (entry : ReceivesEntry). named.is_mesh config entry.mesh ≡ true) table.receives
  received_declared p table at =
      each_of (IsFitReceived config table) (λ (entry : ReceivesEntry). named.is_mesh config entry.mesh ≡ true) table.receives (λ before entry fit. fit.mesh_declared) (fit_received p table at)

  pub carried_declared : (m : ℕ) (table : MeshTable) → slice_get config.mesh m ≡ Some table → All (λ name. named.is_data config name ≡ true) table.data_list
  carried_declared m table at = (all_at (IsFitMesh config) config.mesh m table (meshes config accepted) at).data_declared

  pub members_declared : (s : ℕ) (table : SchemeTable) → slice_get config.scheme s ≡ Some table → All (λ name. named.is_participant config name ≡ true) (members table)
  members_declared s table at =
      all_at (λ (t : SchemeTable). All (λ name. named.is_participant config name ≡ true) (members t)) config.scheme s table
      (each_of (IsFitScheme config) (λ (t : SchemeTable). All (λ name. named.is_participant config name ≡ true) (members t)) config.scheme (λ before t fit. fit.declared) (schemes config accepted)) at

  module _ (nodes : List Node) where
    pub provides_is : (p : ℕ) (table : PartTable) (mesh : List ℕ) → slice_get config.participant p ≡ Some table → named.is_mesh config mesh ≡ true
        → words.provides (plan_of config nodes) p (mesh_number config mesh) ≡ named.provides table mesh
    provides_is p table mesh at there =
        ap (λ o. option_map_or (λ q. words.is_among (mesh_number config mesh) q.provides) o false) (map_at (part_of config) config.participant p table at)
        ∙ among_same mesh_name config.mesh mesh table.provides (mesh_at config mesh there) (mesh_all config table.provides (provided_declared p table at))

    pub receives_is : (p : ℕ) (table : PartTable) (mesh : List ℕ) → slice_get config.participant p ≡ Some table → named.is_mesh config mesh ≡ true
        → words.receives (plan_of config nodes) p (mesh_number config mesh) ≡ named.receives table mesh
    receives_is p table mesh at there =
        let names : List (List ℕ) = map (λ (entry : ReceivesEntry). entry.mesh) table.receives in
        let declared : All (λ name. named.is_mesh config name ≡ true) names = All-map (λ name. named.is_mesh config name ≡ true) (λ (entry : ReceivesEntry). entry.mesh) table.receives (received_declared p table at) in
        ap (λ o. option_map_or (λ q. words.is_among (mesh_number config mesh) q.receives) o false) (map_at (part_of config) config.participant p table at)
        ∙ (ap (words.is_among (mesh_number config mesh)) (sym (map_map (mesh_number config) (λ (entry : ReceivesEntry). entry.mesh) table.receives))
        ∙ (among_same mesh_name config.mesh mesh names (mesh_at config mesh there) (mesh_all config names declared)
        ∙ any_map (bytes_eq mesh) (λ (entry : ReceivesEntry). entry.mesh) table.receives))

    pub carries_is : (mesh item : List ℕ) → named.is_mesh config mesh ≡ true → named.is_data config item ≡ true
        → words.mesh_carries (plan_of config nodes) (mesh_number config mesh) (data_number config item) ≡ named.carries config mesh item
    carries_is mesh item there data_there =
        let has = mesh_at config mesh there in
        let found = some_there (named.mesh_called config mesh) there in
        let at : slice_get config.mesh (mesh_number config mesh) ≡ Some found.0 = (table_at mesh_name config.mesh mesh found.0 found.1).at in
        ap (λ o. option_map_or (λ q. words.is_among (data_number config item) q.data_list) o false) (map_at (mesh_of config) config.mesh (mesh_number config mesh) found.0 at)
        ∙ (among_same data_name config.data_list item found.0.data_list (data_at config item data_there) (data_all config found.0.data_list (carried_declared (mesh_number config mesh) found.0 at))
        ∙ sym (ap (λ (o : Option MeshTable). option_map_or (λ (table : MeshTable). named.is_among item table.data_list) o false) found.1))

    pub member_is : (s : ℕ) (table : SchemeTable) (name : List ℕ) → slice_get config.scheme s ≡ Some table → named.is_participant config name ≡ true
        → words.is_member (plan_of config nodes) s (part_number config name) ≡ rules.is_member name table
    member_is s table name at there =
        ap (λ o. option_map_or (λ q. words.is_among (part_number config name) q.members) o false)
        (numbered_at (λ (numbered : ℕ × SchemeTable). scheme_of config (exchanges_before config numbered.0) numbered.1) config.scheme s table at)
        ∙ among_same part_name config.participant name (members table) (part_at config name there) (part_all config (members table) (members_declared s table at))
