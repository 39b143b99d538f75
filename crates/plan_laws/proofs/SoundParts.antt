-- The names, texts, numbers and lists of a valid plan are within the limits of a configuration.
use Rattle.std.proofs.Common.{◌≡◌, ℕ, ◌^◌, ◌<◌, ◌≤◌, true, ◌||◌, nat_eq, nat_le, List, [], ◌∷◌, ◌++◌, length, map, pos, Option, Some, All, Contains, inl, inr, refl, ap, sym, subst, ◌∙◌, arith}
use Rattle.std.specs.Prelude.{flat_map, slice_get, sum_by, unsigned_abs}
use Rattle.std.specs.List.{list_all}
use Rattle.std.specs.Option.{option_map_or}
use Rattle.std.specs.Str.{bytes_eq}
use Rattle.std.proofs.lemmas.Bool.{and_parts, and_from, or_cases, leb-true, le-leb, eqb-true}
use Rattle.std.proofs.lemmas.List.{length-map}
use Rattle.std.proofs.lemmas.List.Concat.{length-flat_map}
use Rattle.std.proofs.lemmas.List.Folds.{flat_map-map, list_all-append}
use Rattle.std.proofs.lemmas.Option.{slice_get_within}
use Rattle.plan_order.proofs.Named.{in_map}
use Rattle.cpl_plan.specs.declared.parts.PlanParts.{PlanParts}
use Rattle.cpl_plan.specs.declared.parts.Part.{Part}
use Rattle.cpl_plan.specs.declared.parts.MeshPlan.{MeshPlan}
use Rattle.cpl_plan.specs.declared.parts.DataPlan.{DataPlan}
use Rattle.cpl_plan.specs.declared.parts.PlanEntry.{PlanEntry}
use Rattle.cpl_plan.specs.declared.parts.Watch.{Watch}
use Rattle.cpl_plan.specs.PlanWords.{mesh_carries, are_distinct}
use Rattle.cpl_plan.specs.PlanTests.{is_name, part_names, mesh_names, data_names, watch_names, lies_on_own_mesh}
use Rattle.cpl_plan.specs.ValidPlan.{IsValidPlan}
use Rattle.cpl_plan.proofs.Readings.{each_at, there}
use Rattle.cpl_tables.specs.Values as values
use Rattle.cpl_tables.specs.declared.shapes.Range.TheVariants.{Within, Between}
use Rattle.cpl_config.specs.declared.config.PartTable.{PartTable}
use Rattle.cpl_config.specs.declared.config.WatchEntry.{WatchEntry}
use Rattle.cpl_config.specs.SoundConfig.{IsName, IsIn, IsNameList, IsSoundData, IsSoundMesh, IsSoundReceives, IsSoundDataEntry, IsSoundMap, IsSoundWatch, IsSoundParticipant, all_watches}
use Rattle.plan_laws.specs.PlanNames.{part_name, mesh_name, data_name, owner_name}
use Rattle.plan_laws.specs.PlanTables.{data_table, mesh_table, part_table, received_entry, data_entry, map_entry, watch_entry}
use Rattle.plan_laws.specs.ConfigOfPlan.{config_of_plan}
use Rattle.plan_laws.proofs.Lists.{at_in, in_at, all_in, all_mapped, passes_each}
use Rattle.plan_laws.proofs.Distinct.{distinct_mapped, distinct_texts}
use Rattle.plan_laws.proofs.Grouped.{flat_in, map_flat}
use Rattle.plan_laws.proofs.Known.{provides_there, part_name_is, mesh_name_is, data_name_is, meshes_tell, data_tell, provided_in, received_in, carried_in, carried_there, has_owner}
use Rattle.plan_laws.proofs.MeshesFit.{joins}
use Rattle.plan_laws.proofs.ExchangesFit.{written_on, read_on}

-- a number in a range
pub between : (least most n : ℕ) → least ≤ n → n ≤ most → IsIn (Between least most) (pos n)
between least most n over under = and_from (nat_le least n) (nat_le n most) (le-leb least n over) (le-leb n most under)

two_or_three : (n : ℕ) → (nat_eq n 2 || nat_eq n 3) ≡ true → IsIn (Between 2 3) (pos n)
two_or_three n is = elim (or_cases (nat_eq n 2) (nat_eq n 3) is) [
  | inl two ↦ let same : n ≡ 2 = eqb-true n 2 two in between 2 3 n (omega (arith, same)) (omega (arith, same))
  | inr three ↦ let same : n ≡ 3 = eqb-true n 3 three in between 2 3 n (omega (arith, same)) (omega (arith, same))
]

module _ (plan : PlanParts) (valid : IsValidPlan plan) where
  -- names

  all_names : list_all is_name (part_names plan ++ mesh_names plan ++ data_names plan ++ watch_names plan) ≡ true
  all_names = valid.sizes.names

  fronts : (xs ys : List (List ℕ)) → list_all is_name (xs ++ ys) ≡ true → (list_all is_name xs ≡ true) × (list_all is_name ys ≡ true)
  fronts xs ys all = and_parts (list_all is_name xs) (list_all is_name ys) (sym (list_all-append is_name xs ys) ∙ all)

  but_watches : list_all is_name (part_names plan ++ mesh_names plan ++ data_names plan) ≡ true
  but_watches = (fronts (part_names plan ++ mesh_names plan ++ data_names plan) (watch_names plan) all_names).0

  but_data : list_all is_name (part_names plan ++ mesh_names plan) ≡ true
  but_data = (fronts (part_names plan ++ mesh_names plan) (data_names plan) but_watches).0

  pub part_is_named : (p : ℕ) → p < length plan.parts → IsName (part_name plan p)
  part_is_named p within =
      let at = there plan.parts p within in
      subst IsName (sym (part_name_is plan valid p at.0 at.1))
      (passes_each is_name (part_names plan) (fronts (part_names plan) (mesh_names plan) but_data).0 at.0.name (in_map (λ (x : Part). x.name) plan.parts at.0 (in_at plan.parts p at.0 at.1)))

  pub mesh_is_named : (m : ℕ) → m < length plan.meshes → IsName (mesh_name plan m)
  mesh_is_named m within =
      let at = there plan.meshes m within in
      subst IsName (sym (mesh_name_is plan valid m at.0 at.1))
      (passes_each is_name (mesh_names plan) (fronts (part_names plan) (mesh_names plan) but_data).1 at.0.name (in_map (λ (x : MeshPlan). x.name) plan.meshes at.0 (in_at plan.meshes m at.0 at.1)))

  pub data_is_named : (d : ℕ) → d < length plan.data_list → IsName (data_name plan d)
  data_is_named d within =
      let at = there plan.data_list d within in
      subst IsName (sym (data_name_is plan valid d at.0 at.1))
      (passes_each is_name (data_names plan) (fronts (part_names plan ++ mesh_names plan) (data_names plan) but_watches).1 at.0.name (in_map (λ (x : DataPlan). x.name) plan.data_list at.0 (in_at plan.data_list d at.0 at.1)))

  watch_is_named : (part : Part) → Contains plan.parts part → (watch : Watch) → Contains part.watches watch → IsName watch.name
  watch_is_named part inside watch here =
      passes_each is_name (watch_names plan) (fronts (part_names plan ++ mesh_names plan ++ data_names plan) (watch_names plan) all_names).1 watch.name
      (flat_in (λ (q : Part). map (λ (w : Watch). w.name) q.watches) plan.parts part watch.name inside (in_map (λ (w : Watch). w.name) part.watches watch here))

  pub data_listed : (ds : List ℕ) → are_distinct nat_eq ds ≡ true → ((d : ℕ) → Contains ds d → d < length plan.data_list) → IsNameList (map (data_name plan) ds)
  data_listed ds distinct within = record {
    each = all_mapped IsName (data_name plan) ds (λ d inside. data_is_named d (within d inside));
    once = distinct_texts (map (data_name plan) ds) ∙ distinct_mapped nat_eq bytes_eq (data_name plan) ds (λ a b one other apart. data_tell plan valid a b (within a one) (within b other) ∙ apart) distinct;
  }

  meshes_listed : (ms : List ℕ) → are_distinct nat_eq ms ≡ true → ((m : ℕ) → Contains ms m → m < length plan.meshes) → IsNameList (map (mesh_name plan) ms)
  meshes_listed ms distinct within = record {
    each = all_mapped IsName (mesh_name plan) ms (λ m inside. mesh_is_named m (within m inside));
    once = distinct_texts (map (mesh_name plan) ms) ∙ distinct_mapped nat_eq bytes_eq (mesh_name plan) ms (λ a b one other apart. meshes_tell plan valid a b (within a one) (within b other) ∙ apart) distinct;
  }

  -- data and meshes

  pub sound_data : All IsSoundData (map data_table plan.data_list)
  sound_data = all_mapped IsSoundData data_table plan.data_list (λ item inside.
      let at = at_in plan.data_list item inside in
      record {
        name = subst IsName (data_name_is plan valid at.0 item at.1) (data_is_named at.0 (slice_get_within plan.data_list at.0 item at.1));
        degree = between 0 1 item.degree (omega arith) (leb-true item.degree 1 (each_at _ plan.data_list valid.meshes.degrees at.0 item at.1));
      })

  pub sound_meshes : All IsSoundMesh (map (mesh_table plan) plan.meshes)
  sound_meshes = all_mapped IsSoundMesh (mesh_table plan) plan.meshes (λ mesh inside.
      let at = at_in plan.meshes mesh inside in
      record {
        name = subst IsName (mesh_name_is plan valid at.0 mesh at.1) (mesh_is_named at.0 (slice_get_within plan.meshes at.0 mesh at.1));
        dimensions = two_or_three mesh.dimensions (each_at _ plan.meshes valid.meshes.dimensions at.0 mesh at.1);
        data_names = data_listed mesh.data_list (each_at _ plan.meshes valid.meshes.data_once at.0 mesh at.1) (carried_in plan valid at.0 mesh at.1);
      })

  -- participants

  short : (text : List ℕ) → IsName text → values.is_short_text text ≡ true
  short text is =
      let lengths = and_parts _ _ (and_parts _ _ is).0 in
      let few : length text ≤ 64 = leb-true (length text) 64 lengths.1 in
      and_from (nat_le 1 (length text)) (nat_le (length text) 256) lengths.0 (le-leb (length text) 256 (omega (arith, few)))

  sound_received : (p : ℕ) (part : Part) → slice_get plan.parts p ≡ Some part → (m : ℕ) → Contains part.receives m → IsSoundReceives (received_entry plan m)
  sound_received p part is m inside =
      let within : m < length plan.meshes = received_in plan valid p part is m inside in
      let mesh = there plan.meshes m within in
      let has = has_owner plan valid m mesh.0 mesh.1 in
      let named : owner_name plan m ≡ part_name plan mesh.0.owner = ap (λ (o : Option MeshPlan). option_map_or (λ (x : MeshPlan). part_name plan x.owner) o []) mesh.1 in
      record {
        mesh = mesh_is_named m within;
        from = subst IsName (sym named) (part_is_named mesh.0.owner (slice_get_within plan.parts mesh.0.owner has.owner has.at));
      }

  sound_entry : (e : PlanEntry) → mesh_carries plan e.mesh e.data_id ≡ true → IsSoundDataEntry (data_entry plan e)
  sound_entry e carries =
      let on = carried_there plan valid e.mesh e.data_id carries in
      record { data_name = data_is_named e.data_id on.data_within; mesh = mesh_is_named e.mesh on.mesh_within }

  watch_within : (p : ℕ) (part : Part) → slice_get plan.parts p ≡ Some part → (watch : Watch) → lies_on_own_mesh plan p watch ≡ true → watch.mesh < length plan.meshes
  watch_within p part is watch holds =
      (provides_there plan valid p watch.mesh (and_parts _ _ (and_parts _ _ holds).0).0).2

  sound_watch : (p : ℕ) (part : Part) → slice_get plan.parts p ≡ Some part → (watch : Watch) → Contains part.watches watch → IsSoundWatch (watch_entry plan watch)
  sound_watch p part is watch inside =
      let holds : lies_on_own_mesh plan p watch ≡ true = passes_each (lies_on_own_mesh plan p) part.watches (each_at _ plan.parts valid.participants.watched_on_own_meshes p part is) watch inside in
      record {
        name = watch_is_named part (in_at plan.parts p part is) watch inside;
        mesh = mesh_is_named watch.mesh (watch_within p part is watch holds);
        coordinates = all_in (IsIn (Within (10 ^ 12))) watch.at (λ x there_in. passes_each (λ x. nat_le (unsigned_abs x) (10 ^ 12)) watch.at (and_parts _ _ holds).1 x there_in);
      }

  sound_participant : (p : ℕ) (part : Part) → slice_get plan.parts p ≡ Some part → IsSoundParticipant (part_table plan part)
  sound_participant p part is =
      let name : IsName part.name = subst IsName (part_name_is plan valid p part is) (part_is_named p (slice_get_within plan.parts p part is)) in
      let received : length part.receives ≤ 64 = leb-true (length part.receives) 64 (each_at _ plan.parts valid.participants.few_received p part is) in
      let written : length part.writes ≤ 64 = leb-true (length part.writes) 64 (each_at _ plan.parts valid.participants.few_written p part is) in
      let reads : length part.reads ≤ 64 = leb-true (length part.reads) 64 (each_at _ plan.parts valid.participants.few_read p part is) in
      let mapped : length part.maps ≤ 64 = leb-true (length part.maps) 64 (each_at _ plan.parts valid.participants.few_maps p part is) in
      record {
        name = name;
        case_text = short part.name name;
        provides = meshes_listed part.provides (each_at _ plan.parts valid.participants.provided_once p part is) (provided_in plan valid p part is);
        receives = all_mapped IsSoundReceives (received_entry plan) part.receives (sound_received p part is);
        few_receives = omega (arith, received, length-map part.receives (received_entry plan));
        writes = all_mapped IsSoundDataEntry (data_entry plan) part.writes (λ e inside. sound_entry e (written_on plan valid p part is e inside));
        few_writes = omega (arith, written, length-map part.writes (data_entry plan));
        reads = all_mapped IsSoundDataEntry (data_entry plan) part.reads (λ e inside. sound_entry e (read_on plan valid p part is e inside));
        few_reads = omega (arith, reads, length-map part.reads (data_entry plan));
        maps = all_mapped IsSoundMap (map_entry plan) part.maps (λ mapping inside.
            let own = joins plan valid p part is mapping inside in
            record { from = mesh_is_named mapping.from own.from_within; to = mesh_is_named mapping.to own.to_within });
        few_maps = omega (arith, mapped, length-map part.maps (map_entry plan));
        watches = all_mapped IsSoundWatch (watch_entry plan) part.watches (sound_watch p part is);
        actions = λ k d within. absurd (omega (arith, within));
        few_actions = omega arith;
      }

  pub sound_participants : All IsSoundParticipant (map (part_table plan) plan.parts)
  sound_participants = all_mapped IsSoundParticipant (part_table plan) plan.parts (λ part inside. let at = at_in plan.parts part inside in sound_participant at.0 part at.1)

  -- watch-points of all participants

  watches_are : all_watches (config_of_plan plan) ≡ map (watch_entry plan) (flat_map (λ part. part.watches) plan.parts)
  watches_are = flat_map-map (λ (table : PartTable). table.watch) (part_table plan) plan.parts ∙ map_flat (watch_entry plan) (λ (part : Part). part.watches) plan.parts

  pub few_watches : length (all_watches (config_of_plan plan)) ≤ 64
  few_watches =
      let few : sum_by (λ part. length part.watches) plan.parts ≤ 64 = valid.sizes.watches in
      let same : length (all_watches (config_of_plan plan)) ≡ length (map (watch_entry plan) (flat_map (λ part. part.watches) plan.parts)) = ap (λ (entries : List WatchEntry). length entries) watches_are in
      omega (arith, few, same, length-map (flat_map (λ (part : Part). part.watches) plan.parts) (watch_entry plan), length-flat_map (λ (part : Part). part.watches) plan.parts)

  watches_named : map (λ (entry : WatchEntry). entry.name) (all_watches (config_of_plan plan)) ≡ watch_names plan
  watches_named =
      ap (map (λ (entry : WatchEntry). entry.name)) watches_are
      ∙ (twice (flat_map (λ part. part.watches) plan.parts)
      ∙ sym (map_flat (λ (watch : Watch). watch.name) (λ (part : Part). part.watches) plan.parts))
    where
      twice : (watches : List Watch) → map (λ (entry : WatchEntry). entry.name) (map (watch_entry plan) watches) ≡ map (λ (watch : Watch). watch.name) watches
      twice [] = refl
      twice (watch ∷ watches) = ap (λ (names : List (List ℕ)). watch.name ∷ names) (twice watches)

  pub watches_once : values.are_distinct_texts (map (λ (entry : WatchEntry). entry.name) (all_watches (config_of_plan plan))) ≡ true
  watches_once = ap values.are_distinct_texts watches_named ∙ (distinct_texts (watch_names plan) ∙ valid.sizes.watches_named_once)
