-- A configuration whose entries fit together breaks no rule.
use Rattle.std.proofs.Common.{◌≡◌, ◌≢◌, ℕ, Bool, true, false, not, ◌||◌, List, [], ◌∷◌, ◌++◌, Option, Some, None, IfSome, All, get_or, refl, ap, sym, ◌∙◌}
use Rattle.std.specs.Prelude.{flat_map}
use Rattle.std.specs.List.{list_any}
use Rattle.std.specs.Str.{bytes_eq}
use Rattle.std.proofs.lemmas.List.Concat.{flat_map-append}
use Rattle.std.proofs.lemmas.List.Elements.{All-nil, All-cons, All-head, All-weaker}
use Rattle.std.proofs.lemmas.List.Folds.{list_any-append}
use Rattle.cpl_tables.specs.Values.{are_distinct_texts}
use Rattle.cpl_config.specs.declared.config.Config.{Config}
use Rattle.cpl_config.specs.declared.config.MeshTable.{MeshTable}
use Rattle.cpl_config.specs.declared.config.DataEntry.{DataEntry}
use Rattle.cpl_config.specs.declared.config.WatchEntry.{WatchEntry}
use Rattle.cpl_config.specs.declared.config.SchemeTable.{SchemeTable}
use Rattle.cpl_config.specs.declared.config.ExchangeEntry.{ExchangeEntry}
use Rattle.cpl_config.specs.declared.config.MeasureEntry.{MeasureEntry}
use Rattle.cpl_config.specs.declared.config.AccelEntry.{AccelEntry}
use Rattle.mesh_rules.specs.Entries.{Held, mesh, written, watched, exchanged, measured, accelerated, Entry, entries_of}
use Rattle.mesh_rules.specs.MeshRules.{writes_data, is_written_twice}
use Rattle.config_rules.specs.ConfigRules.{IsAccepted}
use Rattle.config_rules.specs.declared.rules.ConfigRule.TheVariants.{WrittenTwice}
use Rattle.config_laws.specs.FitMeshes.{IsFitMesh, IsOnOwnMesh, IsFitWatch}
use Rattle.config_laws.specs.FitSchemes.{IsFitExchange, IsFitMeasure, IsFitAcceleration}
use Rattle.config_laws.specs.FitConfig.{FitsTogether}
use Rattle.config_laws.proofs.EntriesOf.{entries_with}
use Rattle.config_laws.proofs.MeshRefuted.{Fine, whole_fine, data_fine, mesh_fine, participant_fine, received_fine, written_fine, read_fine, map_fine, watch_fine}
use Rattle.config_laws.proofs.ActionFacts.{action_fine}
use Rattle.config_laws.proofs.WindowFacts.{windows_fine}
use Rattle.config_laws.proofs.SchemeRefuted.{scheme_fine, exchange_fine, measure_fine, acceleration_fine}
use Rattle.config_laws.proofs.Splits.{at_split, all_left, all_right}
use Rattle.config_laws.proofs.Truths.{both, neither, apart_text, text_apart}
use Rattle.config_laws.proofs.WrittenNames.{names_of_held, names_of, entries_names}

acceleration_fits : (config : Config) (table : SchemeTable) (acceleration : Option AccelEntry) → IfSome acceleration (IsFitAcceleration config table) → IfSome acceleration (λ entry. Fine config (accelerated table entry))
acceleration_fits config table None fit = tt
acceleration_fits config table (Some entry) fit = acceleration_fine config table entry fit

all_fine : (config : Config) → FitsTogether config → All (λ (entry : Entry). Fine config entry.held) (entries_of config)
all_fine config fits = entries_with (Fine config) config (record {
  own = whole_fine config fits.end;
  data_tables = λ k d within. data_fine config (get_or config.data_list k d);
  meshes = All-weaker (IsFitMesh config) (λ (table : MeshTable). Fine config (mesh table)) (mesh_fine config) config.mesh fits.meshes;
  participants = λ k d within. record {
    own = participant_fine config (get_or config.participant k d) (fits.participants k d within);
    receives = λ before entry after is. received_fine config (get_or config.participant k d) before entry (fits.received k d within before entry after is);
    writes = All-weaker (IsOnOwnMesh config (get_or config.participant k d)) (λ (entry : DataEntry). Fine config (written (get_or config.participant k d) entry)) (written_fine config (get_or config.participant k d)) (get_or config.participant k d).write (fits.written k d within);
    reads = λ before entry after is. read_fine config (get_or config.participant k d) before entry (fits.read k d within before entry after is);
    maps = λ before entry after is. map_fine config (get_or config.participant k d) before entry (fits.mapped k d within before entry after is);
    acts = λ before entry after is. action_fine config (get_or config.participant k d) before entry (fits.acted k d within before entry after is);
    watches = All-weaker (IsFitWatch config (get_or config.participant k d)) (λ (entry : WatchEntry). Fine config (watched (get_or config.participant k d) entry)) (watch_fine config (get_or config.participant k d)) (get_or config.participant k d).watch (fits.watched k d within);
  };
  schemes = λ before table after is. record {
    own = scheme_fine config before table (fits.schemes before table after is) (windows_fine config fits.windows before table after is);
    exchanges = All-weaker (IsFitExchange config table) (λ (entry : ExchangeEntry). Fine config (exchanged table entry)) (exchange_fine config table) table.exchange
        (at_split (λ (one : SchemeTable). All (IsFitExchange config one) one.exchange) config.scheme before table after is fits.exchanged);
    measures = All-weaker (IsFitMeasure config table) (λ (entry : MeasureEntry). Fine config (measured table entry)) (measure_fine config table) table.measure
        (at_split (λ (one : SchemeTable). All (IsFitMeasure config one) one.measure) config.scheme before table after is fits.measured);
    acceleration = acceleration_fits config table table.acceleration (at_split (λ (one : SchemeTable). IfSome one.acceleration (IsFitAcceleration config one)) config.scheme before table after is fits.accelerated);
  };
})

-- data that are written in one entry alone

not_fails : (a : Bool) → not a ≡ true → a ≡ false
not_fails true h = absurd (cc)
not_fails false h = refl

-- of distinct texts those before one are not it
none_before : (xs : List (List ℕ)) (y : List ℕ) (ys : List (List ℕ)) → are_distinct_texts (xs ++ y ∷ ys) ≡ true → All (λ x. x ≢ y) xs
none_before [] y ys distinct = All-nil (λ (x : List ℕ). x ≢ y)
none_before (x ∷ xs) y ys distinct =
    let later : List (List ℕ) = xs ++ y ∷ ys in
    let parts = both (not (list_any (bytes_eq x) later)) (are_distinct_texts later) distinct in
    let absent : (list_any (bytes_eq x) xs || list_any (bytes_eq x) (y ∷ ys)) ≡ false = sym (list_any-append (bytes_eq x) xs (y ∷ ys)) ∙ not_fails (list_any (bytes_eq x) later) parts.0 in
    let there = neither (bytes_eq x y) (list_any (bytes_eq x) ys) (neither (list_any (bytes_eq x) xs) (list_any (bytes_eq x) (y ∷ ys)) absent).1 in
    All-cons (λ (text : List ℕ). text ≢ y) x xs (apart_text x y there.0) (none_before xs y ys parts.1)

other_data : (name : List ℕ) (held : Held) → All (λ text. text ≢ name) (names_of_held held) → writes_data name held ≡ false
other_data name (written table entry) all = text_apart entry.data_name name (All-head (λ (text : List ℕ). text ≢ name) entry.data_name [] all)
other_data name held all = refl

none_writes : (name : List ℕ) (entries : List Entry) → All (λ text. text ≢ name) (flat_map names_of entries) → list_any (λ other. writes_data name other.held) entries ≡ false
none_writes name [] all = refl
none_writes name (entry ∷ entries) all =
    let Apart : List ℕ → Type 0 = λ text. text ≢ name in
    let here : writes_data name entry.held ≡ false = other_data name entry.held (all_left Apart (names_of entry) (flat_map names_of entries) all) in
    ap (λ b. b || list_any (λ other. writes_data name other.held) entries) here ∙ none_writes name entries (all_right Apart (names_of entry) (flat_map names_of entries) all)

once_here : (before : List Entry) (entry : Entry) (after : List Entry) (held : Held) → entry.held ≡ held → are_distinct_texts (flat_map names_of (before ++ entry ∷ after)) ≡ true → is_written_twice before held ≡ false
once_here before entry after (written table data_entry) is distinct =
    let name : List ℕ = data_entry.data_name in
    let own : names_of entry ≡ name ∷ [] = ap names_of_held is in
    let names : flat_map names_of (before ++ entry ∷ after) ≡ flat_map names_of before ++ name ∷ flat_map names_of after =
    flat_map-append names_of before (entry ∷ after) ∙ ap (λ (ns : List (List ℕ)). flat_map names_of before ++ (ns ++ flat_map names_of after)) own in
    none_writes name before (none_before (flat_map names_of before) name (flat_map names_of after) (sym (ap are_distinct_texts names) ∙ distinct))
once_here before entry after held is distinct = refl

pub accepted : (config : Config) → FitsTogether config → IsAccepted config
accepted config fits WrittenTwice before entry after is =
    let distinct : are_distinct_texts (flat_map names_of (entries_of config)) ≡ true = ap are_distinct_texts (entries_names config) ∙ fits.written_once in
    once_here before entry after entry.held refl (sym (ap (λ (es : List Entry). are_distinct_texts (flat_map names_of es)) is) ∙ distinct)
accepted config fits rule before entry after is =
    at_split (λ (one : Entry). Fine config one.held) (entries_of config) before entry after is (all_fine config fits) entry.place rule (λ same. cc) before
