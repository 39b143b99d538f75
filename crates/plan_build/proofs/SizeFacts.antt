-- Sizes and names of the plan of an accepted configuration.
use Rattle.std.proofs.Common.{◌≡◌, ℕ, zero, suc, ◌+◌, ◌*◌, ◌^◌, ◌<◌, ◌≤◌, Bool, true, not, ◌&&◌, inl, inr, List, [], ◌∷◌, ◌++◌, length, map, Some, All, refl, ap, sym, subst, ◌∙◌, arith}
use Rattle.std.specs.Prelude.{flat_map, sum_by, unsigned_abs, unwrap_or, pos, ℤ, Option}
use Rattle.std.specs.List.{list_all, list_any, enumerate_from}
use Rattle.std.specs.Str.{bytes_eq}
use Rattle.std.proofs.Math.Nat.{mul-le-mul_left}
use Rattle.std.proofs.lemmas.Bool.{and_from, cases_lt, eq-eqb}
use Rattle.std.proofs.lemmas.Grind.{div_ceil_times}
use Rattle.std.proofs.lemmas.List.{length-map, length-append, map-append}
use Rattle.std.proofs.lemmas.List.FromFn.{length-enumerate_from}
use Rattle.std.proofs.lemmas.List.Elements.{All-weaker, All-head, All-tail}
use Rattle.std.proofs.lemmas.List.Folds.{list_all-append}
use Rattle.std.proofs.lemmas.List.Sums.{sum_by-cons}
use Rattle.cpl_tables.specs.Values.{are_distinct_texts}
use Rattle.cpl_config.specs.declared.kind_words.WindowWord.{WindowWord}
use Rattle.cpl_config.specs.declared.kind_words.WindowWord.TheVariants as W
use Rattle.cpl_config.specs.declared.config.Config.{Config}
use Rattle.cpl_config.specs.declared.config.DataTable.{DataTable}
use Rattle.cpl_config.specs.declared.config.MeshTable.{MeshTable}
use Rattle.cpl_config.specs.declared.config.PartTable.{PartTable}
use Rattle.cpl_config.specs.declared.config.SchemeTable.{SchemeTable}
use Rattle.cpl_config.specs.declared.config.WatchEntry.{WatchEntry}
use Rattle.cpl_config.specs.SoundConfig.{IsSoundConfig, IsSoundData, IsSoundMesh, IsSoundParticipant, IsSoundWatch, all_watches}
use Rattle.cpl_plan.specs.declared.parts.Part.{Part}
use Rattle.cpl_plan.specs.declared.parts.MeshPlan.{MeshPlan}
use Rattle.cpl_plan.specs.declared.parts.DataPlan.{DataPlan}
use Rattle.cpl_plan.specs.PlanWords.{are_distinct}
use Rattle.cpl_plan.specs.PlanTests.{is_name, part_names, mesh_names, data_names, watch_names, reaches_end}
use Rattle.cpl_plan.specs.ValidPlan.{IsCount, HasSizes}
use Rattle.cpl_plan.specs.Windows.{windows_to_reach}
use Rattle.plan_order.specs.declared.node.Node.{Node}
use Rattle.config_rules.specs.ConfigRules.{IsAccepted}
use Rattle.config_laws.specs.FitNumbers.{HasTime, HasFewWindows, end_ticks}
use Rattle.config_laws.proofs.NumberFacts.{time}
use Rattle.scheme_parts.specs.NumbersOf.{exchanges_before}
use Rattle.scheme_parts.specs.SchemeOf.{scheme_of}
use Rattle.scheme_parts.proofs.Tables.{all_map}
use Rattle.plan_build.specs.DataOf.{data_of}
use Rattle.plan_build.specs.MeshOf.{mesh_of}
use Rattle.plan_build.specs.PartOf.{part_of, watch_of}
use Rattle.plan_build.specs.WindowsOf.{window_method, windows_by}
use Rattle.plan_build.specs.PlanOf.{plan_of}
use Rattle.plan_build.proofs.PlanReadings.{data_name, mesh_name, part_name, map_map}
use Rattle.plan_build.proofs.ExchangePlaces.{length_exchanges}

no_window : (size end n : ℕ) → 1 ≤ end → end ≤ n * size → n ≡ 0 → ⊥
no_window size end n some reach none = let product : n * size ≡ 0 * size = ap (λ (m : ℕ). m * size) none in omega (arith, some, reach, product)

some_window : (size end n : ℕ) → 1 ≤ end → end ≤ n * size → 1 ≤ n
some_window size end zero some reach = absurd (no_window size end zero some reach refl)
some_window size end (suc n) some reach = omega (arith)

pub few_windows : (size end : ℕ) → 1 ≤ size → 1 ≤ end → end ≤ 10 ^ 6 * size → IsCount (10 ^ 6) (windows_to_reach size end)
few_windows size end some_size some_end few =
    let n : ℕ = windows_to_reach size end in
    let is : (end ≤ n * size) × (n * size < end + size) = div_ceil_times end size some_size in
    (some_window size end n some_end is.0, within n is.1)
  where
    within : (n : ℕ) → n * size < end + size → n ≤ 10 ^ 6
    within n less = elim (cases_lt (10 ^ 6) n) [
      | inl more ↦ let up : 10 ^ 6 + 1 ≤ n = omega (arith, more) in let big : size * (10 ^ 6 + 1) ≤ size * n = mul-le-mul_left size up in absurd (omega (arith, big, less, few))
      | inr is ↦ is
    ]

told_windows : (told : Option ℤ) (windows : ℤ) → told ≡ Some windows → IsCount (10 ^ 6) (unsigned_abs windows) → IsCount (10 ^ 6) (unsigned_abs (unwrap_or told (pos 0)))
told_windows told windows is few = subst (λ (o : Option ℤ). IsCount (10 ^ 6) (unsigned_abs (unwrap_or o (pos 0)))) (sym is) few

by_method : (config : Config) (word : WindowWord) → 1 ≤ unsigned_abs config.window → 1 ≤ end_ticks config → HasFewWindows config word → IsCount (10 ^ 6) (windows_by word config)
by_method config W.Fixed size end few = few_windows (unsigned_abs config.window) (end_ticks config) size end few
by_method config W.FirstParticipant size end few = told_windows config.max_windows few.windows few.told few.few

reaches : (config : Config) (word : WindowWord) → reaches_end (window_method word) (unsigned_abs config.window) (end_ticks config) (windows_by word config) ≡ true
reaches config W.Fixed = eq-eqb (windows_to_reach (unsigned_abs config.window) (end_ticks config)) (windows_to_reach (unsigned_abs config.window) (end_ticks config)) refl
reaches config W.FirstParticipant = refl

-- the names of watch-points are those of the file
pub watched : (config : Config) (tables : List PartTable) → flat_map (λ (part : Part). map (λ watch. watch.name) part.watches) (map (part_of config) tables) ≡ map (λ (entry : WatchEntry). entry.name) (flat_map (λ (table : PartTable). table.watch) tables)
watched config [] = refl
watched config (table ∷ tables) =
    let names : List (List ℕ) = map (λ (entry : WatchEntry). entry.name) table.watch in
    let later : List WatchEntry = flat_map (λ (t : PartTable). t.watch) tables in
    ap (λ (xs : List (List ℕ)). xs ++ flat_map (λ (part : Part). map (λ watch. watch.name) part.watches) (map (part_of config) tables)) (map_map (λ watch. watch.name) (watch_of config) table.watch)
    ∙ (ap (λ (xs : List (List ℕ)). names ++ xs) (watched config tables) ∙ sym (map-append (λ (entry : WatchEntry). entry.name) table.watch later))

count_watched : (config : Config) (tables : List PartTable) → sum_by (λ (part : Part). length part.watches) (map (part_of config) tables) ≡ length (flat_map (λ (table : PartTable). table.watch) tables)
count_watched config [] = refl
count_watched config (table ∷ tables) =
    let later : List WatchEntry = flat_map (λ (t : PartTable). t.watch) tables in
    omega (arith, sum_by-cons (λ (part : Part). length part.watches) (part_of config table) (map (part_of config) tables), length-map table.watch (watch_of config), length-append table.watch later, count_watched config tables)

watch_names_sound : (tables : List PartTable) → All IsSoundParticipant tables → list_all is_name (map (λ (entry : WatchEntry). entry.name) (flat_map (λ (table : PartTable). table.watch) tables)) ≡ true
watch_names_sound [] all = refl
watch_names_sound (table ∷ tables) all =
    let name : WatchEntry → List ℕ = λ entry. entry.name in
    let later : List WatchEntry = flat_map (λ (t : PartTable). t.watch) tables in
    let own : list_all is_name (map name table.watch) ≡ true =
    all_map name is_name table.watch (All-weaker IsSoundWatch (λ (entry : WatchEntry). is_name entry.name ≡ true) (λ entry sound. sound.name) table.watch (All-head IsSoundParticipant table tables all).watches) in
    ap (list_all is_name) (map-append name table.watch later)
    ∙ (list_all-append is_name (map name table.watch) (map name later)
    ∙ and_from (list_all is_name (map name table.watch)) (list_all is_name (map name later)) own (watch_names_sound tables (All-tail IsSoundParticipant table tables all)))

-- the same test of names by another name
distinct_texts : (names : List (List ℕ)) → are_distinct bytes_eq names ≡ are_distinct_texts names
distinct_texts [] = refl
distinct_texts (name ∷ names) = ap (λ b. not (list_any (bytes_eq name) names) && b) (distinct_texts names)

both_all : {X : Type 0} (test : X → Bool) (xs ys : List X) → list_all test xs ≡ true → list_all test ys ≡ true → list_all test (xs ++ ys) ≡ true
both_all test xs ys one other = list_all-append test xs ys ∙ and_from (list_all test xs) (list_all test ys) one other

module _ (config : Config) (sound : IsSoundConfig config) (accepted : IsAccepted config) (nodes : List Node) where
  parts_are : part_names (plan_of config nodes) ≡ map part_name config.participant
  parts_are = map_map (λ (part : Part). part.name) (part_of config) config.participant

  meshes_are : mesh_names (plan_of config nodes) ≡ map mesh_name config.mesh
  meshes_are = map_map (λ (mesh : MeshPlan). mesh.name) (mesh_of config) config.mesh

  data_are : data_names (plan_of config nodes) ≡ map data_name config.data_list
  data_are = map_map (λ (item : DataPlan). item.name) data_of config.data_list

  watches_are : watch_names (plan_of config nodes) ≡ map (λ (entry : WatchEntry). entry.name) (all_watches config)
  watches_are = watched config config.participant

  parts_sound : list_all is_name (part_names (plan_of config nodes)) ≡ true
  parts_sound = ap (list_all is_name) parts_are ∙ all_map part_name is_name config.participant (All-weaker IsSoundParticipant (λ (table : PartTable). is_name table.name ≡ true) (λ table is. is.name) config.participant sound.participants)

  meshes_sound : list_all is_name (mesh_names (plan_of config nodes)) ≡ true
  meshes_sound = ap (list_all is_name) meshes_are ∙ all_map mesh_name is_name config.mesh (All-weaker IsSoundMesh (λ (table : MeshTable). is_name table.name ≡ true) (λ table is. is.name) config.mesh sound.meshes)

  data_sound : list_all is_name (data_names (plan_of config nodes)) ≡ true
  data_sound = ap (list_all is_name) data_are ∙ all_map data_name is_name config.data_list (All-weaker IsSoundData (λ (table : DataTable). is_name table.name ≡ true) (λ table is. is.name) config.data_list sound.data_tables)

  watches_sound : list_all is_name (watch_names (plan_of config nodes)) ≡ true
  watches_sound = ap (list_all is_name) watches_are ∙ watch_names_sound config.participant sound.participants

  pub sizes : HasSizes (plan_of config nodes)
  sizes =
      let has : HasTime config = time config sound accepted in
      record {
        window = has.window;
        end_time = has.end;
        windows = by_method config config.window_method has.window.0 has.end.0 has.windows;
        windows_reach = reaches config config.window_method;
        parts = (omega (arith, sound.a_participant, length-map config.participant (part_of config)), omega (arith, sound.few_participants, length-map config.participant (part_of config)));
        meshes = omega (arith, sound.few_meshes, length-map config.mesh (mesh_of config));
        data_items = omega (arith, sound.few_data, length-map config.data_list data_of);
        schemes =
            let make : ℕ × SchemeTable → _ = λ numbered. scheme_of config (exchanges_before config numbered.0) numbered.1 in
            let long = length-map (enumerate_from 0 config.scheme) make in
            let same = length-enumerate_from 0 config.scheme in
            (omega (arith, sound.a_scheme, long, same), omega (arith, sound.few_schemes, long, same));
        exchanges = omega (arith, sound.few_exchanges, length_exchanges config);
        watches = omega (arith, sound.few_watches, count_watched config config.participant);
        names =
            both_all is_name (part_names (plan_of config nodes) ++ mesh_names (plan_of config nodes) ++ data_names (plan_of config nodes)) (watch_names (plan_of config nodes))
            (both_all is_name (part_names (plan_of config nodes) ++ mesh_names (plan_of config nodes)) (data_names (plan_of config nodes))
            (both_all is_name (part_names (plan_of config nodes)) (mesh_names (plan_of config nodes)) parts_sound meshes_sound) data_sound) watches_sound;
        parts_named_once = ap (are_distinct bytes_eq) parts_are ∙ (distinct_texts (map part_name config.participant) ∙ sound.participant_once);
        meshes_named_once = ap (are_distinct bytes_eq) meshes_are ∙ (distinct_texts (map mesh_name config.mesh) ∙ sound.mesh_once);
        data_named_once = ap (are_distinct bytes_eq) data_are ∙ (distinct_texts (map data_name config.data_list) ∙ sound.data_once);
        watches_named_once = ap (are_distinct bytes_eq) watches_are ∙ (distinct_texts (map (λ (entry : WatchEntry). entry.name) (all_watches config)) ∙ sound.watch_once);
      }
