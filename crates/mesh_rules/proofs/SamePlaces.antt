-- The entries of a configuration stand at the places of the tables that it was read from.
use Rattle.std.proofs.Common.{◌≡◌, ℕ, ◌+◌, length, List, [], ◌∷◌, ◌++◌, map, Option, Some, None, option_map, IsTrue, refl, ap, sym, ◌∙◌, codes, append_assoc, append-nil, length-append}
use Rattle.std.specs.List.{list_all, AllByRecursion}
use Rattle.std.specs.Option.{option_map_or}
use Rattle.std.proofs.lemmas.Bool.{false≢true}
use Rattle.std.proofs.lemmas.List.{map-append}
use Rattle.std.proofs.lemmas.List.Concat.{flat_map-append}
use Rattle.toml.specs.Data.{Data, array, table, Members, get_member}
use Rattle.cpl_tables.specs.declared.kinds.Format.{Format}
use Rattle.cpl_tables.specs.declared.kinds.Format.TheVariants.{One, Two}
use Rattle.cpl_tables.specs.declared.kinds.TableKind.{TableKind}
use Rattle.cpl_tables.specs.declared.kinds.TableKind.TheVariants as K
use Rattle.cpl_tables.specs.declared.places.Place.{Place}
use Rattle.cpl_tables.specs.declared.places.Place.TheVariants as P
use Rattle.cpl_tables.specs.declared.shapes.Limit.{Limit}
use Rattle.cpl_tables.specs.declared.shapes.Limit.TheVariants.{Any, Items}
use Rattle.cpl_tables.specs.declared.shapes.Presence.{Presence}
use Rattle.cpl_tables.specs.declared.shapes.Presence.TheVariants.{Optional}
use Rattle.cpl_tables.specs.declared.shapes.Shape.TheVariants.{Tables, Table}
use Rattle.cpl_tables.specs.Keys.{keys_of}
use Rattle.cpl_tables.specs.Places.{place_in, number_at}
use Rattle.cpl_tables.specs.Values.{in_list, list_of, is_table}
use Rattle.cpl_rules.specs.Seen.{Seen}
use Rattle.cpl_rules.specs.SeenTables.{table_in, tables_listed, tables_of, tables_in, each_with_inner, all_tables, format_of, config_top}
use Rattle.cpl_rules.specs.Refused.{IsInOrder}
use Rattle.cpl_config.specs.TreeValues.{members_of}
use Rattle.cpl_config.specs.ConfigOf.{data_of, mesh_of, receives_of, data_entry_of, map_of, watch_of, action_of, participant_of, exchange_of, measure_of, acceleration_of, scheme_of, config_of}
use Rattle.cpl_config.specs.declared.config.Config.{Config}
use Rattle.cpl_config.specs.declared.config.PartTable.{PartTable}
use Rattle.cpl_config.specs.declared.config.ActionEntry.{ActionEntry}
use Rattle.cpl_config.specs.declared.config.SchemeTable.{SchemeTable}
use Rattle.cpl_config.proofs.SoundValues.{IsRightAt}
use Rattle.cpl_config.proofs.SoundRules.{IsRightSeen}
use Rattle.cpl_config.proofs.SoundTables.{IsRightWithin, all_within, by_keys}
use Rattle.cpl_config.proofs.SoundConfigs.{checked}
use Rattle.cpl_config.proofs.KnownKeys.{not_there}
use Rattle.mesh_rules.specs.Entries.{Held, whole, datum, mesh, participant, received, written, read, mapped, watched, acted, scheme, exchanged, measured, Entry, at, each_after, each, received_entries, written_entries, read_entries, mapped_entries, watched_entries, acted_entries, entries_of_participant, exchanged_entries, measured_entries, accelerated_entries, entries_of_scheme, data_entries, mesh_entries, participant_entries, scheme_entries, entries_of}

abbrev pub entry_places : List Entry → List Place
entry_places entries = map (λ entry. entry.place) entries

abbrev pub table_places : List Seen → List Place
table_places tables = map (λ seen. seen.place) tables

-- one part after another

joined : (xs ys : List Entry) (us vs : List Seen) → entry_places xs ≡ table_places us → entry_places ys ≡ table_places vs → entry_places (xs ++ ys) ≡ table_places (us ++ vs)
joined xs ys us vs one two =
    map-append (λ (entry : Entry). entry.place) xs ys
    ∙ (ap (λ (ps : List Place). ps ++ entry_places ys) one
    ∙ (ap (λ (ps : List Place). table_places us ++ ps) two
    ∙ sym (map-append (λ (seen : Seen). seen.place) us vs)))

-- a list of tables, none of which has tables in it that are entries

leaves_listed : {X : Type 0} (outer : Seen) (kind : TableKind) (place_of : ℕ → Place) (held_of : List X → X → Held) (meaning : Members → X) → ((n : ℕ) → place_of n ≡ place_in outer.place kind n)
    → (start : List X) (index : ℕ) → length start ≡ index → (items : List Data) → IsTrue (list_all is_table items)
    → entry_places (each_after (λ n before item. at (place_of n) (held_of before item)) start (map meaning (map members_of items))) ≡ table_places (tables_listed outer kind index items)
leaves_listed outer kind place_of held_of meaning same start index is [] typed = refl
leaves_listed {X} outer kind place_of held_of meaning same start index is (table tree ∷ items) typed =
    let here : place_of (number_at (length start)) ≡ place_in outer.place kind (number_at index) = ap (λ n. place_of (number_at n)) is ∙ same (number_at index) in
    let next : length (start ++ meaning tree ∷ []) ≡ index + 1 = length-append start (meaning tree ∷ []) ∙ ap (λ n. n + 1) is in
    let rest = leaves_listed outer kind place_of held_of meaning same (start ++ meaning tree ∷ []) (index + 1) next items typed in
    let later : List Place = entry_places (each_after (λ n before item. at (place_of n) (held_of before item)) (start ++ meaning tree ∷ []) (map meaning (map members_of items))) in
    ap (λ (p : Place). p ∷ later) here ∙ ap (λ (ps : List Place). place_in outer.place kind (number_at index) ∷ ps) rest
leaves_listed outer kind place_of held_of meaning same start index is (_ ∷ items) typed = absurd (false≢true typed)

leaves : {X : Type 0} (outer : Seen) (kind : TableKind) (place_of : ℕ → Place) (held_of : List X → X → Held) (meaning : Members → X) → ((n : ℕ) → place_of n ≡ place_in outer.place kind n)
    → {presence : Presence} {limit : Limit} {value : Option Data} → IsRightAt presence (Tables kind limit) value
    → entry_places (each (λ n before item. at (place_of n) (held_of before item)) (map meaning (map members_of (option_map_or list_of value [])))) ≡ table_places (tables_of outer (Tables kind limit) value)
leaves outer kind place_of held_of meaning same {presence} {limit} {value = None} right = refl
leaves outer kind place_of held_of meaning same {presence} {limit} {value = Some (array items)} right = leaves_listed outer kind place_of held_of meaning same [] 0 refl (in_list items) right.fits.typed
leaves outer kind place_of held_of meaning same {presence} {limit} {value = Some _} right = absurd (false≢true right.fits.typed)

-- a list of tables, with the tables in each

outer_listed : {X : Type 0} (outer : Seen) (kind : TableKind) (make : ℕ → List X → X → List Entry) (meaning : Members → X)
    → ((n : ℕ) (before : List X) (tree : Members) → IsRightWithin (table_in outer kind n tree) → entry_places (make n before (meaning tree)) ≡ table_places (table_in outer kind n tree ∷ tables_in (table_in outer kind n tree)))
    → (start : List X) (index : ℕ) → length start ≡ index → (items : List Data) → IsTrue (list_all is_table items) → AllByRecursion IsRightWithin (tables_listed outer kind index items)
    → entry_places (each_after make start (map meaning (map members_of items))) ≡ table_places (each_with_inner (tables_listed outer kind index items))
outer_listed outer kind make meaning one start index is [] typed all = refl
outer_listed {X} outer kind make meaning one start index is (table tree ∷ items) typed all =
    let here : entry_places (make (number_at (length start)) start (meaning tree)) ≡ table_places (table_in outer kind (number_at index) tree ∷ tables_in (table_in outer kind (number_at index) tree)) =
    ap (λ n. entry_places (make (number_at n) start (meaning tree))) is ∙ one (number_at index) start tree all.0 in
    let next : length (start ++ meaning tree ∷ []) ≡ index + 1 = length-append start (meaning tree ∷ []) ∙ ap (λ n. n + 1) is in
    joined (make (number_at (length start)) start (meaning tree)) (each_after make (start ++ meaning tree ∷ []) (map meaning (map members_of items)))
    (table_in outer kind (number_at index) tree ∷ tables_in (table_in outer kind (number_at index) tree)) (each_with_inner (tables_listed outer kind (index + 1) items))
    here (outer_listed outer kind make meaning one (start ++ meaning tree ∷ []) (index + 1) next items typed all.1)
outer_listed outer kind make meaning one start index is (_ ∷ items) typed all = absurd (false≢true typed)

outers : {X : Type 0} (outer : Seen) (kind : TableKind) (make : ℕ → List X → X → List Entry) (meaning : Members → X)
    → ((n : ℕ) (before : List X) (tree : Members) → IsRightWithin (table_in outer kind n tree) → entry_places (make n before (meaning tree)) ≡ table_places (table_in outer kind n tree ∷ tables_in (table_in outer kind n tree)))
    → {presence : Presence} {limit : Limit} {value : Option Data} → IsRightAt presence (Tables kind limit) value → AllByRecursion IsRightWithin (tables_of outer (Tables kind limit) value)
    → entry_places (each make (map meaning (map members_of (option_map_or list_of value [])))) ≡ table_places (each_with_inner (tables_of outer (Tables kind limit) value))
outers outer kind make meaning one {presence} {limit} {value = None} right all = refl
outers outer kind make meaning one {presence} {limit} {value = Some (array items)} right all = outer_listed outer kind make meaning one [] 0 refl (in_list items) right.fits.typed all
outers outer kind make meaning one {presence} {limit} {value = Some _} right all = absurd (false≢true right.fits.typed)

-- each kind of table

six : (es0 es1 es2 es3 es4 es5 es6 : List Entry) (t r w d m h a : List Seen) → entry_places es0 ≡ table_places t → entry_places es1 ≡ table_places r → entry_places es2 ≡ table_places w → entry_places es3 ≡ table_places d
    → entry_places es4 ≡ table_places m → entry_places es5 ≡ table_places h → entry_places es6 ≡ table_places a
    → entry_places ((((((es0 ++ es1) ++ es2) ++ es3) ++ es4) ++ es5) ++ es6) ≡ table_places (t ++ (r ++ (w ++ (d ++ (m ++ (h ++ (a ++ [])))))))
six es0 es1 es2 es3 es4 es5 es6 t r w d m h a e0 e1 e2 e3 e4 e5 e6 =
    let all : entry_places ((((((es0 ++ es1) ++ es2) ++ es3) ++ es4) ++ es5) ++ es6) ≡ table_places ((((((t ++ r) ++ w) ++ d) ++ m) ++ h) ++ a) =
    joined (((((es0 ++ es1) ++ es2) ++ es3) ++ es4) ++ es5) es6 (((((t ++ r) ++ w) ++ d) ++ m) ++ h) a
    (joined ((((es0 ++ es1) ++ es2) ++ es3) ++ es4) es5 ((((t ++ r) ++ w) ++ d) ++ m) h
    (joined (((es0 ++ es1) ++ es2) ++ es3) es4 (((t ++ r) ++ w) ++ d) m
    (joined ((es0 ++ es1) ++ es2) es3 ((t ++ r) ++ w) d (joined (es0 ++ es1) es2 (t ++ r) w (joined es0 es1 t r e0 e1) e2) e3) e4) e5) e6 in
    let regrouped : (((((t ++ r) ++ w) ++ d) ++ m) ++ h) ++ a ≡ t ++ (r ++ (w ++ (d ++ (m ++ (h ++ (a ++ [])))))) = simp (append_assoc, append-nil) in
    all ∙ ap table_places regrouped

three : (es0 es1 es2 es3 : List Entry) (t x m a : List Seen) → entry_places es0 ≡ table_places t → entry_places es1 ≡ table_places x → entry_places es2 ≡ table_places m → entry_places es3 ≡ table_places a
    → entry_places (((es0 ++ es1) ++ es2) ++ es3) ≡ table_places (t ++ (x ++ (m ++ (a ++ []))))
three es0 es1 es2 es3 t x m a e0 e1 e2 e3 =
    let all : entry_places (((es0 ++ es1) ++ es2) ++ es3) ≡ table_places (((t ++ x) ++ m) ++ a) = joined ((es0 ++ es1) ++ es2) es3 ((t ++ x) ++ m) a (joined (es0 ++ es1) es2 (t ++ x) m (joined es0 es1 t x e0 e1) e2) e3 in
    let regrouped : ((t ++ x) ++ m) ++ a ≡ t ++ (x ++ (m ++ (a ++ []))) = simp (append_assoc, append-nil) in
    all ∙ ap table_places regrouped

four : (es0 es1 es2 es3 es4 : List Entry) (t a b c d : List Seen) → entry_places es0 ≡ table_places t → entry_places es1 ≡ table_places a → entry_places es2 ≡ table_places b → entry_places es3 ≡ table_places c
    → entry_places es4 ≡ table_places d → entry_places ((((es0 ++ es1) ++ es2) ++ es3) ++ es4) ≡ table_places (t ++ (a ++ (b ++ (c ++ (d ++ [])))))
four es0 es1 es2 es3 es4 t a b c d e0 e1 e2 e3 e4 =
    let all : entry_places ((((es0 ++ es1) ++ es2) ++ es3) ++ es4) ≡ table_places ((((t ++ a) ++ b) ++ c) ++ d) =
    joined (((es0 ++ es1) ++ es2) ++ es3) es4 (((t ++ a) ++ b) ++ c) d
    (joined ((es0 ++ es1) ++ es2) es3 ((t ++ a) ++ b) c (joined (es0 ++ es1) es2 (t ++ a) b (joined es0 es1 t a e0 e1) e2) e3) e4 in
    let regrouped : (((t ++ a) ++ b) ++ c) ++ d ≡ t ++ (a ++ (b ++ (c ++ (d ++ [])))) = simp (append_assoc, append-nil) in
    all ∙ ap table_places regrouped

-- a participant's table

abbrev part_seen : Format → ℕ → Members → Seen
part_seen format n tree = record { place = P.Participant n; kind = K.Participant format; members = tree }

part_places : (format : Format) (n : ℕ) (tree : Members) → IsRightWithin (part_seen format n tree) → (a : List Seen) → entry_places (acted_entries n (participant_of tree)) ≡ table_places a
    → entry_places (entries_of_participant n (participant_of tree))
    ≡ table_places (part_seen format n tree ∷ (tables_of (part_seen format n tree) (Tables K.Receives (Items 0 64)) (get_member (codes "receives") tree)
    ++ (tables_of (part_seen format n tree) (Tables K.Write (Items 0 64)) (get_member (codes "write") tree)
    ++ (tables_of (part_seen format n tree) (Tables K.Read (Items 0 64)) (get_member (codes "read") tree)
    ++ (tables_of (part_seen format n tree) (Tables (K.Map format) (Items 0 64)) (get_member (codes "map") tree)
    ++ (tables_of (part_seen format n tree) (Tables K.Watch Any) (get_member (codes "watch") tree) ++ (a ++ [])))))))
part_places format n tree right a acts =
    let seen : Seen = part_seen format n tree in
    let part : PartTable = participant_of tree in
    let keys = right.itself.keys.1.1.1 in
    six (at (P.Participant n) (participant part)) (received_entries n part) (written_entries n part) (read_entries n part) (mapped_entries n part) (watched_entries n part) (acted_entries n part) (seen ∷ [])
    (tables_of seen (Tables K.Receives (Items 0 64)) (get_member (codes "receives") tree)) (tables_of seen (Tables K.Write (Items 0 64)) (get_member (codes "write") tree))
    (tables_of seen (Tables K.Read (Items 0 64)) (get_member (codes "read") tree)) (tables_of seen (Tables (K.Map format) (Items 0 64)) (get_member (codes "map") tree))
    (tables_of seen (Tables K.Watch Any) (get_member (codes "watch") tree)) a refl
    (leaves seen K.Receives (λ m. P.Receives n m) (received part) receives_of (λ m. refl) keys.0)
    (leaves seen K.Write (λ m. P.Write n m) (λ before entry. written part entry) data_entry_of (λ m. refl) keys.1.0)
    (leaves seen K.Read (λ m. P.Read n m) (read part) data_entry_of (λ m. refl) keys.1.1.0)
    (leaves seen (K.Map format) (λ m. P.Map n m) (mapped part) map_of (λ m. refl) keys.1.1.1.0)
    (leaves seen K.Watch (λ m. P.Watch n m) (λ before entry. watched part entry) watch_of (λ m. refl) keys.1.1.1.1.0) acts

no_actions_at : (value : Option Data) → value ≡ None → map action_of (map members_of (option_map_or list_of value [])) ≡ []
no_actions_at None absent = refl
no_actions_at (Some value) absent = absurd (cc)

no_acts : (n : ℕ) (part : PartTable) → part.action ≡ [] → entry_places (acted_entries n part) ≡ []
no_acts n part is = ap (λ (actions : List ActionEntry). entry_places (each (λ m before entry. at (P.Action n m) (acted part before entry)) actions)) is

of_participant : (format : Format) (n : ℕ) (tree : Members) → IsRightWithin (part_seen format n tree) → entry_places (entries_of_participant n (participant_of tree)) ≡ table_places (part_seen format n tree ∷ tables_in (part_seen format n tree))
of_participant One n tree right = part_places One n tree right [] (no_acts n (participant_of tree) (no_actions_at (get_member (codes "action") tree) (not_there (K.Participant One) (codes "action") refl tree right.itself.known)))
of_participant Two n tree right =
    let seen : Seen = part_seen Two n tree in
    part_places Two n tree right (tables_of seen (Tables K.Action (Items 0 64)) (get_member (codes "action") tree))
    (leaves seen K.Action (λ m. P.Action n m) (acted (participant_of tree)) action_of (λ m. refl) right.itself.keys.1.1.1.1.1.1.1.1.0)

-- a scheme's table

acceleration_places : (s : ℕ) (scheme_table : SchemeTable) (tree : Members) {value : Option Data} → IsRightAt Optional (Table K.Acceleration) value
    → entry_places (accelerated_entries s scheme_table (option_map (λ v. acceleration_of (members_of v)) value)) ≡ table_places (tables_of (record { place = P.Scheme s; kind = K.Scheme; members = tree }) (Table K.Acceleration) value)
acceleration_places s scheme_table tree {value = None} right = refl
acceleration_places s scheme_table tree {value = Some (table inner)} right = refl
acceleration_places s scheme_table tree {value = Some _} right = absurd (false≢true right.fits.typed)

of_scheme : (s : ℕ) (before : List SchemeTable) (tree : Members) → IsRightWithin (record { place = P.Scheme s; kind = K.Scheme; members = tree })
    → entry_places (entries_of_scheme s before (scheme_of tree)) ≡ table_places (record { place = P.Scheme s; kind = K.Scheme; members = tree } ∷ tables_in (record { place = P.Scheme s; kind = K.Scheme; members = tree }))
of_scheme s before tree right =
    let seen : Seen = record { place = P.Scheme s; kind = K.Scheme; members = tree } in
    let part : SchemeTable = scheme_of tree in
    let keys = right.itself.keys.1.1.1.1.1 in
    three (at (P.Scheme s) (scheme before part)) (exchanged_entries s part) (measured_entries s part) (accelerated_entries s part part.acceleration) (seen ∷ [])
    (tables_of seen (Tables K.Exchange Any) (get_member (codes "exchange") tree)) (tables_of seen (Tables K.Measure (Items 0 16)) (get_member (codes "measure") tree))
    (tables_of seen (Table K.Acceleration) (get_member (codes "acceleration") tree)) refl
    (leaves seen K.Exchange (λ m. P.Exchange s m) (λ b entry. exchanged part entry) exchange_of (λ m. refl) keys.0)
    (leaves seen K.Measure (λ m. P.Measure s m) (λ b entry. measured part entry) measure_of (λ m. refl) keys.1.1.1.0) (acceleration_places s part tree keys.1.1.1.1.0)

-- the whole file

spread : (d m p s : List Seen) → each_with_inner (d ++ (m ++ (p ++ (s ++ [])))) ≡ each_with_inner d ++ (each_with_inner m ++ (each_with_inner p ++ (each_with_inner s ++ [])))
spread d m p s =
    let f : Seen → List Seen = λ outer. outer ∷ tables_in outer in
    flat_map-append f d (m ++ (p ++ (s ++ [])))
    ∙ ap (λ (ts : List Seen). each_with_inner d ++ ts)
    (flat_map-append f m (p ++ (s ++ []))
    ∙ ap (λ (ts : List Seen). each_with_inner m ++ ts) (flat_map-append f p (s ++ []) ∙ ap (λ (ts : List Seen). each_with_inner p ++ ts) (flat_map-append f s [])))

abbrev top_seen : Format → Members → Seen
top_seen format tree = record { place = P.Config; kind = K.Config format; members = tree }

of_top : (format : Format) (tree : Members) → IsRightSeen (top_seen format tree) → AllByRecursion IsRightWithin (tables_in (top_seen format tree))
    → entry_places (entries_of (config_of tree))
    ≡ table_places (top_seen format tree ∷ each_with_inner (tables_of (top_seen format tree) (Tables K.Data (Items 0 64)) (get_member (codes "data") tree)
    ++ (tables_of (top_seen format tree) (Tables K.Mesh (Items 0 64)) (get_member (codes "mesh") tree)
    ++ (tables_of (top_seen format tree) (Tables (K.Participant format) (Items 1 64)) (get_member (codes "participant") tree)
    ++ (tables_of (top_seen format tree) (Tables K.Scheme (Items 1 64)) (get_member (codes "scheme") tree) ++ [])))))
of_top format tree right all =
    let top : Seen = top_seen format tree in
    let config : Config = config_of tree in
    let keys = right.keys.1.1.1.1 in
    let tables = (by_keys IsRightWithin top (keys_of (K.Config format)) all).1.1.1.1 in
    let d : List Seen = tables_of top (Tables K.Data (Items 0 64)) (get_member (codes "data") tree) in
    let m : List Seen = tables_of top (Tables K.Mesh (Items 0 64)) (get_member (codes "mesh") tree) in
    let p : List Seen = tables_of top (Tables (K.Participant format) (Items 1 64)) (get_member (codes "participant") tree) in
    let s : List Seen = tables_of top (Tables K.Scheme (Items 1 64)) (get_member (codes "scheme") tree) in
    four (at P.Config whole) (data_entries config) (mesh_entries config) (participant_entries config) (scheme_entries config) (top ∷ []) (each_with_inner d) (each_with_inner m) (each_with_inner p) (each_with_inner s) refl
    (outers top K.Data (λ n before item. at (P.DataTable n) (datum item)) data_of (λ n before inner within. refl) keys.0 tables.0)
    (outers top K.Mesh (λ n before item. at (P.MeshTable n) (mesh item)) mesh_of (λ n before inner within. refl) keys.1.0 tables.1.0)
    (outers top (K.Participant format) (λ n before item. entries_of_participant n item) participant_of (λ n before inner within. of_participant format n inner within) keys.1.1.0 tables.1.1.0)
    (outers top K.Scheme entries_of_scheme scheme_of (λ n before inner within. of_scheme n before inner within) keys.1.1.1.0 tables.1.1.1.0)
    ∙ ap (λ (ts : List Seen). table_places (top ∷ ts)) (sym (spread d m p s))

by_format : (format : Format) (tree : Members) → IsRightSeen (top_seen format tree) → AllByRecursion IsRightWithin (tables_in (top_seen format tree)) → entry_places (entries_of (config_of tree)) ≡ table_places (all_tables (top_seen format tree))
by_format One tree right all = of_top One tree right all
by_format Two tree right all = of_top Two tree right all

inner_right : (top : Seen) → AllByRecursion IsRightSeen (all_tables top) → AllByRecursion IsRightWithin (tables_in top)
inner_right top all = all_within (tables_in top) all.1

-- where the file's tables are in order, the entries are at their places
pub same_places : (tree : Members) → IsInOrder (config_top tree) → entry_places (entries_of (config_of tree)) ≡ table_places (all_tables (config_top tree))
same_places tree in_order =
    let right = (checked (config_top tree) in_order).right in
    by_format (format_of (get_member (codes "format") tree)) tree right.0 (inner_right (config_top tree) right)
