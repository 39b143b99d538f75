-- The data of all write entries of a configuration are distinct.
use Rattle.std.proofs.Common.{◌≡◌, ◌≢◌, ℕ, true, false, List, [], ◌∷◌, ◌++◌, length, map, Option, Some, None, IfSome, All, refl, ap, sym, ◌∙◌}
use Rattle.std.specs.Prelude.{flat_map}
use Rattle.std.proofs.lemmas.List.Elements.{All-weaker}
use Rattle.std.proofs.lemmas.List.Concat.{flat_map-append, flat_map_single}
use Rattle.cpl_tables.specs.declared.places.Place.TheVariants as P
use Rattle.cpl_tables.specs.Places.{number_at}
use Rattle.cpl_tables.specs.Values.{are_distinct_texts}
use Rattle.cpl_config.specs.declared.config.Config.{Config}
use Rattle.cpl_config.specs.declared.config.PartTable.{PartTable}
use Rattle.cpl_config.specs.declared.config.DataEntry.{DataEntry}
use Rattle.cpl_config.specs.declared.config.SchemeTable.{SchemeTable}
use Rattle.cpl_config.specs.declared.config.AccelEntry.{AccelEntry}
use Rattle.mesh_rules.specs.Entries.{Held, whole, datum, mesh, participant, received, written, read, mapped, watched, acted, scheme, exchanged, measured, accelerated, Entry, at, each_after, each, received_entries, written_entries, read_entries, mapped_entries, watched_entries, acted_entries, entries_of_participant, exchanged_entries, measured_entries, accelerated_entries, entries_of_scheme, data_entries, mesh_entries, participant_entries, scheme_entries, entries_of}
use Rattle.mesh_rules.specs.MeshRules.{writes_data, is_written_twice}
use Rattle.config_rules.specs.Members.{name_there}
use Rattle.config_rules.specs.declared.rules.ConfigRule.TheVariants.{WrittenTwice}
use Rattle.config_rules.specs.ConfigRules.{IsAccepted}
use Rattle.plan_order.proofs.Orders.{append_nil}
use Rattle.config_laws.specs.ToldOnce.{all_written}
use Rattle.config_laws.proofs.Truths.{apart_text, none_passes}
use Rattle.config_laws.proofs.DistinctNames.{all_distinct}

abbrev pub written_in : Held → Option (List ℕ)
written_in (written table entry) = Some entry.data_name
written_in _ = None

abbrev pub names_of_held : Held → List (List ℕ)
names_of_held held = name_there (written_in held)

abbrev pub names_of : Entry → List (List ℕ)
names_of entry = names_of_held entry.held

not_its_name : (name : List ℕ) (held : Held) → writes_data name held ≡ false → written_in held ≢ Some name
not_its_name name (written table entry) h is = apart_text entry.data_name name h (cc)
not_its_name name whole h is = cc
not_its_name name (datum table) h is = cc
not_its_name name (mesh table) h is = cc
not_its_name name (participant table) h is = cc
not_its_name name (received table earlier entry) h is = cc
not_its_name name (read table earlier entry) h is = cc
not_its_name name (mapped table earlier entry) h is = cc
not_its_name name (watched table entry) h is = cc
not_its_name name (acted table earlier entry) h is = cc
not_its_name name (scheme earlier table) h is = cc
not_its_name name (exchanged table entry) h is = cc
not_its_name name (measured table entry) h is = cc
not_its_name name (accelerated table entry) h is = cc

new_here : (before : List Entry) (held : Held) → is_written_twice before held ≡ false → IfSome (written_in held) (λ name. All (λ other. written_in other.held ≢ Some name) before)
new_here before (written table entry) h =
    All-weaker (λ (other : Entry). writes_data entry.data_name other.held ≡ false) (λ (other : Entry). written_in other.held ≢ Some entry.data_name) (λ other. not_its_name entry.data_name other.held) before
    (none_passes (λ (other : Entry). writes_data entry.data_name other.held) before h)
new_here before whole h = tt
new_here before (datum table) h = tt
new_here before (mesh table) h = tt
new_here before (participant table) h = tt
new_here before (received table earlier entry) h = tt
new_here before (read table earlier entry) h = tt
new_here before (mapped table earlier entry) h = tt
new_here before (watched table entry) h = tt
new_here before (acted table earlier entry) h = tt
new_here before (scheme earlier table) h = tt
new_here before (exchanged table entry) h = tt
new_here before (measured table entry) h = tt
new_here before (accelerated table entry) h = tt

entries_distinct : (config : Config) → IsAccepted config → are_distinct_texts (flat_map names_of (entries_of config)) ≡ true
entries_distinct config accepted =
    all_distinct (λ (entry : Entry). written_in entry.held) (entries_of config) (λ before entry after is. new_here before entry.held (accepted WrittenTwice before entry after is))

-- the names that are written in the entries, kind by kind

quiet_right : (xs ys : List Entry) (names : List (List ℕ)) → flat_map names_of xs ≡ names → flat_map names_of ys ≡ [] → flat_map names_of (xs ++ ys) ≡ names
quiet_right xs ys names left right =
    flat_map-append names_of xs ys ∙ (ap (λ (us : List (List ℕ)). us ++ flat_map names_of ys) left ∙ (ap (λ (us : List (List ℕ)). names ++ us) right ∙ append_nil names))

quiet_left : (xs ys : List Entry) (names : List (List ℕ)) → flat_map names_of xs ≡ [] → flat_map names_of ys ≡ names → flat_map names_of (xs ++ ys) ≡ names
quiet_left xs ys names left right = flat_map-append names_of xs ys ∙ (ap (λ (us : List (List ℕ)). us ++ flat_map names_of ys) left ∙ right)

made_names : {X : Type 0} (make : ℕ → List X → X → List Entry) (told : X → List (List ℕ)) → ((n : ℕ) (before : List X) (item : X) → flat_map names_of (make n before item) ≡ told item) → (start items : List X)
    → flat_map names_of (each_after make start items) ≡ flat_map told items
made_names make told each_tells start [] = refl
made_names {X} make told each_tells start (x ∷ xs) =
    let here : List Entry = make (number_at (length start)) start x in
    let later : List Entry = each_after make (start ++ x ∷ []) xs in
    flat_map-append names_of here later
    ∙ (ap (λ (us : List (List ℕ)). us ++ flat_map names_of later) (each_tells (number_at (length start)) start x)
    ∙ ap (λ (us : List (List ℕ)). told x ++ us) (made_names make told each_tells (start ++ x ∷ []) xs))

none_told : {X : Type 0} (items : List X) → flat_map (λ (item : X). let none : List (List ℕ) = [] in none) items ≡ []
none_told [] = refl
none_told (x ∷ xs) = none_told xs

quiet : {X : Type 0} (make : ℕ → List X → X → List Entry) → ((n : ℕ) (before : List X) (item : X) → flat_map names_of (make n before item) ≡ []) → (items : List X) → flat_map names_of (each make items) ≡ []
quiet {X} make silent items = made_names make (λ (item : X). let none : List (List ℕ) = [] in none) silent [] items ∙ none_told items

participant_names : (p : ℕ) (table : PartTable) → flat_map names_of (entries_of_participant p table) ≡ map (λ entry. entry.data_name) table.write
participant_names p table =
    let names : List (List ℕ) = map (λ entry. entry.data_name) table.write in
    let es0 : List Entry = at (P.Participant p) (participant table) in
    let es1 : List Entry = es0 ++ received_entries p table in
    let es2 : List Entry = es1 ++ written_entries p table in
    let es3 : List Entry = es2 ++ read_entries p table in
    let es4 : List Entry = es3 ++ mapped_entries p table in
    let es5 : List Entry = es4 ++ watched_entries p table in
    let own : flat_map names_of es1 ≡ [] = quiet_right es0 (received_entries p table) [] refl (quiet (λ n before entry. at (P.Receives p n) (received table before entry)) (λ n before entry. refl) table.receives) in
    let writes : flat_map names_of (written_entries p table) ≡ names =
    made_names (λ n before entry. at (P.Write p n) (written table entry)) (λ (entry : DataEntry). entry.data_name ∷ []) (λ n before entry. refl) [] table.write ∙ flat_map_single (λ (entry : DataEntry). entry.data_name) table.write in
    let reads : flat_map names_of es3 ≡ names =
    quiet_right es2 (read_entries p table) names (quiet_left es1 (written_entries p table) names own writes) (quiet (λ n before entry. at (P.Read p n) (read table before entry)) (λ n before entry. refl) table.read) in
    let watches : flat_map names_of es5 ≡ names =
    quiet_right es4 (watched_entries p table) names
    (quiet_right es3 (mapped_entries p table) names reads (quiet (λ n before entry. at (P.Map p n) (mapped table before entry)) (λ n before entry. refl) table.map))
    (quiet (λ n before entry. at (P.Watch p n) (watched table entry)) (λ n before entry. refl) table.watch) in
    quiet_right es5 (acted_entries p table) names watches (quiet (λ n before entry. at (P.Action p n) (acted table before entry)) (λ n before entry. refl) table.action)

acceleration_names : (s : ℕ) (table : SchemeTable) (acceleration : Option AccelEntry) → flat_map names_of (accelerated_entries s table acceleration) ≡ []
acceleration_names s table None = refl
acceleration_names s table (Some entry) = refl

scheme_names : (s : ℕ) (earlier : List SchemeTable) (table : SchemeTable) → flat_map names_of (entries_of_scheme s earlier table) ≡ []
scheme_names s earlier table =
    let es0 : List Entry = at (P.Scheme s) (scheme earlier table) in
    let es1 : List Entry = es0 ++ exchanged_entries s table in
    let es2 : List Entry = es1 ++ measured_entries s table in
    quiet_right es2 (accelerated_entries s table table.acceleration) []
    (quiet_right es1 (measured_entries s table) []
    (quiet_right es0 (exchanged_entries s table) [] refl (quiet (λ n before entry. at (P.Exchange s n) (exchanged table entry)) (λ n before entry. refl) table.exchange))
    (quiet (λ n before entry. at (P.Measure s n) (measured table entry)) (λ n before entry. refl) table.measure))
    (acceleration_names s table table.acceleration)

pub entries_names : (config : Config) → flat_map names_of (entries_of config) ≡ all_written config
entries_names config =
    let es0 : List Entry = at P.Config whole in
    let es1 : List Entry = es0 ++ data_entries config in
    let es2 : List Entry = es1 ++ mesh_entries config in
    let es3 : List Entry = es2 ++ participant_entries config in
    let data_quiet : flat_map names_of es1 ≡ [] = quiet_right es0 (data_entries config) [] refl (quiet (λ n before table. at (P.DataTable n) (datum table)) (λ n before table. refl) config.data_list) in
    let mesh_quiet : flat_map names_of es2 ≡ [] = quiet_right es1 (mesh_entries config) [] data_quiet (quiet (λ n before table. at (P.MeshTable n) (mesh table)) (λ n before table. refl) config.mesh) in
    let parts : flat_map names_of (participant_entries config) ≡ all_written config =
    made_names (λ n before table. entries_of_participant n table) (λ (table : PartTable). map (λ entry. entry.data_name) table.write) (λ n before table. participant_names n table) [] config.participant in
    quiet_right es3 (scheme_entries config) (all_written config) (quiet_left es2 (participant_entries config) (all_written config) mesh_quiet parts) (quiet entries_of_scheme scheme_names config.scheme)

pub written_once : (config : Config) → IsAccepted config → are_distinct_texts (all_written config) ≡ true
written_once config accepted = sym (ap are_distinct_texts (entries_names config)) ∙ entries_distinct config accepted
