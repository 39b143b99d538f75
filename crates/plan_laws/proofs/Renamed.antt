-- Names and what they find, under other names that keep them apart.
use Rattle.std.proofs.Common.{◌≡◌, ℕ, ◌+◌, Bool, not, nat_lt, cond, List, [], ◌∷◌, ◌++◌, map, find, Option, Some, None, refl, ap, ap₂, sym, ◌∙◌}
use Rattle.std.specs.Prelude.{option_map, position, unwrap_or}
use Rattle.std.specs.List.{position_or_len, enumerate_from}
use Rattle.std.specs.Str.{bytes_eq}
use Rattle.std.proofs.lemmas.Bool.Decides.{Decides-like, same_from_decides}
use Rattle.std.proofs.lemmas.List.{length-map, map-append}
use Rattle.std.proofs.lemmas.Slice.Eq.{bytes_eq-Decides}
use Rattle.cpl_config.specs.declared.config.Config.{Config}
use Rattle.cpl_config.specs.declared.config.DataTable.{DataTable}
use Rattle.cpl_config.specs.declared.config.MeshTable.{MeshTable}
use Rattle.cpl_config.specs.declared.config.PartTable.{PartTable}
use Rattle.cpl_config.specs.declared.config.SchemeTable.{SchemeTable}
use Rattle.mesh_rules.specs.Named.{is_among, provides, participant_called}
use Rattle.config_rules.specs.Members.{name_there, members, is_member}
use Rattle.config_rules.specs.Circles.{number_of}
use Rattle.scheme_parts.specs.NumbersOf.{data_number, mesh_number}
use Rattle.plan_laws.specs.Renaming.{Renaming, KeepsApart, renamed_data, renamed_mesh, renamed_participant, renamed_scheme, renamed}
use Rattle.plan_laws.proofs.Lists.{any_mapped, any_same, find_mapped}

pub same_text_renamed : (f : List ℕ → List ℕ) → ((one other : List ℕ) → f one ≡ f other → one ≡ other) → (one other : List ℕ) → bytes_eq (f one) (f other) ≡ bytes_eq one other
same_text_renamed f apart one other =
    same_from_decides (bytes_eq (f one) (f other)) (bytes_eq one other)
    (Decides-like (bytes_eq (f one) (f other)) (apart one other) (λ (is : one ≡ other). ap f is) (bytes_eq-Decides (f one) (f other)))
    (bytes_eq-Decides one other)

-- places and finds, by tests that agree

place_mapped : {X Y : Type 0} (p : Y → Bool) (q : X → Bool) (f : X → Y) (xs : List X) → ((x : X) → p (f x) ≡ q x) → position_or_len p (map f xs) ≡ position_or_len q xs
place_mapped p q f [] same = refl
place_mapped p q f (x ∷ xs) same = ap₂ (λ (b : Bool) (n : ℕ). cond (not b) (1 + n) 0) (same x) (place_mapped p q f xs same)

pub position_mapped : {X Y : Type 0} (p : Y → Bool) (q : X → Bool) (f : X → Y) (xs : List X) → ((x : X) → p (f x) ≡ q x) → position p (map f xs) ≡ position q xs
position_mapped p q f xs same =
    ap₂ (λ (k n : ℕ). cond (nat_lt k n) (Some k) None) (place_mapped p q f xs same) (length-map xs f)

pub find_same : {X : Type 0} (p q : X → Bool) (xs : List X) → ((x : X) → p x ≡ q x) → find p xs ≡ find q xs
find_same p q [] same = refl
find_same {X} p q (x ∷ xs) same = ap₂ (λ (b : Bool) (o : Option X). cond b (Some x) o) (same x) (find_same p q xs same)

pub among_renamed : (f : List ℕ → List ℕ) → ((one other : List ℕ) → f one ≡ f other → one ≡ other) → (name : List ℕ) (names : List (List ℕ)) → is_among (f name) (map f names) ≡ is_among name names
among_renamed f apart name names =
    any_mapped (bytes_eq (f name)) f names ∙ any_same (λ (other : List ℕ). bytes_eq (f name) (f other)) (bytes_eq name) names (λ other inside. same_text_renamed f apart name other)

pub enumerated_mapped : {X Y : Type 0} (f : X → Y) (start : ℕ) (xs : List X) → enumerate_from start (map f xs) ≡ map (λ entry. (entry.0, f entry.1)) (enumerate_from start xs)
enumerated_mapped f start [] = refl
enumerated_mapped {X} {Y} f start (x ∷ xs) = ap (λ (entries : List (ℕ × Y)). (start, f x) ∷ entries) (enumerated_mapped f (start + 1) xs)

module _ (names : Renaming) (apart : KeepsApart names) (config : Config) where
  pub same_data : (one other : List ℕ) → bytes_eq (names.data_item one) (names.data_item other) ≡ bytes_eq one other
  same_data one other = same_text_renamed names.data_item apart.data_apart one other

  pub same_mesh : (one other : List ℕ) → bytes_eq (names.mesh one) (names.mesh other) ≡ bytes_eq one other
  same_mesh one other = same_text_renamed names.mesh apart.meshes_apart one other

  pub same_participant : (one other : List ℕ) → bytes_eq (names.participant one) (names.participant other) ≡ bytes_eq one other
  same_participant one other = same_text_renamed names.participant apart.participants_apart one other

  -- numbers stay

  pub data_numbered : (name : List ℕ) → data_number (renamed names config) (names.data_item name) ≡ data_number config name
  data_numbered name = ap (λ (o : Option ℕ). unwrap_or o 0)
      (position_mapped (λ (table : DataTable). bytes_eq table.name (names.data_item name)) (λ (table : DataTable). bytes_eq table.name name) (renamed_data names) config.data_list (λ table. same_data table.name name))

  pub mesh_numbered : (name : List ℕ) → mesh_number (renamed names config) (names.mesh name) ≡ mesh_number config name
  mesh_numbered name = ap (λ (o : Option ℕ). unwrap_or o 0)
      (position_mapped (λ (table : MeshTable). bytes_eq table.name (names.mesh name)) (λ (table : MeshTable). bytes_eq table.name name) (renamed_mesh names) config.mesh (λ table. same_mesh table.name name))

  pub part_numbered : (name : List ℕ) → number_of (renamed names config) (names.participant name) ≡ number_of config name
  part_numbered name = ap (λ (o : Option ℕ). unwrap_or o 0)
      (position_mapped (λ (table : PartTable). bytes_eq table.name (names.participant name)) (λ (table : PartTable). bytes_eq table.name name) (renamed_participant names) config.participant (λ table. same_participant table.name name))

  -- the table of a name is the renamed one

  pub participant_found : (name : List ℕ) → participant_called (renamed names config) (names.participant name) ≡ option_map (renamed_participant names) (participant_called config name)
  participant_found name =
      find_mapped (λ (table : PartTable). bytes_eq table.name (names.participant name)) (renamed_participant names) config.participant
      ∙ ap (option_map (renamed_participant names)) (find_same (λ (table : PartTable). bytes_eq (names.participant table.name) (names.participant name)) (λ (table : PartTable). bytes_eq table.name name) config.participant (λ table. same_participant table.name name))

  pub provides_renamed : (table : PartTable) (mesh : List ℕ) → provides (renamed_participant names table) (names.mesh mesh) ≡ provides table mesh
  provides_renamed table mesh = among_renamed names.mesh apart.meshes_apart mesh table.provides

  -- members

  there_renamed : (name : Option (List ℕ)) → name_there (option_map names.participant name) ≡ map names.participant (name_there name)
  there_renamed None = refl
  there_renamed (Some name) = refl

  list_renamed : (list : Option (List (List ℕ))) → unwrap_or (option_map (map names.participant) list) [] ≡ map names.participant (unwrap_or list [])
  list_renamed None = refl
  list_renamed (Some list) = refl

  pub members_renamed : (table : SchemeTable) → members (renamed_scheme names table) ≡ map names.participant (members table)
  members_renamed table =
      ap₂ (λ (front rest : List (List ℕ)). front ++ rest)
      (ap₂ (λ (one other : List (List ℕ)). one ++ other) (there_renamed table.first) (there_renamed table.second) ∙ sym (map-append names.participant (name_there table.first) (name_there table.second)))
      (list_renamed table.members)
      ∙ sym (map-append names.participant (name_there table.first ++ name_there table.second) (unwrap_or table.members []))

  pub member_renamed : (name : List ℕ) (table : SchemeTable) → is_member (names.participant name) (renamed_scheme names table) ≡ is_member name table
  member_renamed name table =
      ap (is_among (names.participant name)) (members_renamed table) ∙ among_renamed names.participant apart.participants_apart name (members table)
