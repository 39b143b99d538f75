-- The participants of a valid plan, read back from the configuration that it is written as.
use Rattle.std.proofs.Common.{◌≡◌, ℕ, ◌<◌, Bool, true, false, ◌&&◌, cond, List, [], length, map, Option, Some, None, Contains, inl, inr, refl, ap, ap₂, sym, subst, ◌∙◌, arith}
use Rattle.std.specs.Prelude.{slice_get, position, option_to_list}
use Rattle.std.proofs.lemmas.Bool.{and_parts, and_from, false_from_ne_true}
use Rattle.std.proofs.lemmas.Option.{slice_get_within}
use Rattle.plan_order.proofs.Loops.{head_in, in_cons}
use Rattle.plan_order.proofs.Orders.{none_in_nil}
use Rattle.cpl_plan.specs.declared.parts.PlanParts.{PlanParts}
use Rattle.cpl_plan.specs.declared.parts.Part.{Part}
use Rattle.cpl_plan.specs.declared.parts.PlanEntry.{PlanEntry}
use Rattle.cpl_plan.specs.declared.parts.MapPlan.{MapPlan}
use Rattle.cpl_plan.specs.declared.parts.Watch.{Watch}
use Rattle.cpl_plan.specs.declared.parts.Scheme.{Scheme}
use Rattle.cpl_plan.specs.ExchangeKinds as kinds
use Rattle.cpl_plan.specs.PlanWords.{is_among, passes, numbers, mesh_carries, is_member as is_member_of, schemes_of}
use Rattle.cpl_plan.specs.PlanTests.{groups_of, lies_on_own_mesh}
use Rattle.cpl_plan.specs.ValidPlan.{IsValidPlan}
use Rattle.cpl_plan.proofs.Readings.{each_at, passes_at, at_passes, filter_in, in_filter, in_numbers, same_numbers}
use Rattle.cpl_config.specs.declared.kind_words.Direction.TheVariants.{Read, Write}
use Rattle.cpl_config.specs.declared.kind_words.Constraint.TheVariants.{Consistent, Conservative}
use Rattle.cpl_config.specs.declared.kind_words.MapWord.TheVariants.{NearestNeighbor, NearestProjection}
use Rattle.cpl_config.specs.declared.config.Config.{Config}
use Rattle.cpl_config.specs.declared.config.SchemeTable.{SchemeTable}
use Rattle.cpl_config.specs.declared.config.ReceivesEntry.{ReceivesEntry}
use Rattle.config_rules.specs.Members.{is_implicit, is_member}
use Rattle.scheme_parts.specs.NumbersOf.{mesh_number}
use Rattle.plan_build.specs.PartOf.{is_reading, is_conservative, is_projection, entry_of, map_of, watch_of, group_of, part_of}
use Rattle.plan_laws.specs.PlanNames.{mesh_name}
use Rattle.plan_laws.specs.PlanTables.{part_table, received_entry, data_entry, map_entry, watch_entry}
use Rattle.plan_laws.specs.PlanSchemes.{scheme_table}
use Rattle.plan_laws.specs.ConfigOfPlan.{config_of_plan}
use Rattle.plan_laws.proofs.Lists.{at_in, passes_each, one_item}
use Rattle.plan_laws.proofs.Positions.{position_at, position_none, map_back}
use Rattle.plan_laws.proofs.Known.{part_in, part_name_is, provided_in, received_in, provides_there, carried_there}
use Rattle.plan_laws.proofs.Tables.{scheme_at, scheme_from, member_is, implicit_is}
use Rattle.plan_laws.proofs.MeshesFit.{joins}
use Rattle.plan_laws.proofs.ExchangesFit.{written_on, read_on}
use Rattle.plan_laws.proofs.NumbersBack.{data_back, mesh_back}

reading_back : (reading : Bool) → is_reading (cond reading Read Write) ≡ reading
reading_back true = refl
reading_back false = refl

conservative_back : (conservative : Bool) → is_conservative (cond conservative Conservative Consistent) ≡ conservative
conservative_back true = refl
conservative_back false = refl

projection_back : (projection : Bool) → is_projection (cond projection NearestProjection NearestNeighbor) ≡ projection
projection_back true = refl
projection_back false = refl

module _ (plan : PlanParts) (valid : IsValidPlan plan) where
  abbrev config : Config
  config = config_of_plan plan

  -- the entries of a participant

  meshes_are : (ms : List ℕ) → ((m : ℕ) → Contains ms m → m < length plan.meshes) → map (mesh_number config) (map (mesh_name plan) ms) ≡ ms
  meshes_are ms within = map_back (mesh_number config) (mesh_name plan) ms (λ m inside. mesh_back plan valid m (within m inside))

  received_are : (ms : List ℕ) → ((m : ℕ) → Contains ms m → m < length plan.meshes) → map (λ (entry : ReceivesEntry). mesh_number config entry.mesh) (map (received_entry plan) ms) ≡ ms
  received_are ms within = map_back (λ (entry : ReceivesEntry). mesh_number config entry.mesh) (received_entry plan) ms (λ m inside. mesh_back plan valid m (within m inside))

  entries_are : (entries : List PlanEntry) → ((e : PlanEntry) → Contains entries e → mesh_carries plan e.mesh e.data_id ≡ true) → map (entry_of config) (map (data_entry plan) entries) ≡ entries
  entries_are entries carries = map_back (entry_of config) (data_entry plan) entries (λ e inside.
      let on = carried_there plan valid e.mesh e.data_id (carries e inside) in
      ap₂ (λ (d m : ℕ). record e { data_id = d; mesh = m }) (data_back plan valid e.data_id on.data_within) (mesh_back plan valid e.mesh on.mesh_within))

  maps_are : (p : ℕ) (part : Part) → slice_get plan.parts p ≡ Some part → map (map_of config) (map (map_entry plan) part.maps) ≡ part.maps
  maps_are p part is = map_back (map_of config) (map_entry plan) part.maps (λ mapping inside.
      let own = joins plan valid p part is mapping inside in
      ap₂ (λ (from to : ℕ). record { reading = is_reading (map_entry plan mapping).direction; from = from; to = to; conservative = is_conservative (map_entry plan mapping).constraint; projection = is_projection (map_entry plan mapping).method })
      (mesh_back plan valid mapping.from own.from_within) (mesh_back plan valid mapping.to own.to_within)
      ∙ (ap (λ (b : Bool). record mapping { reading = b; conservative = is_conservative (map_entry plan mapping).constraint; projection = is_projection (map_entry plan mapping).method }) (reading_back mapping.reading)
      ∙ ap₂ (λ (b c : Bool). record mapping { conservative = b; projection = c }) (conservative_back mapping.conservative) (projection_back mapping.projection)))

  watches_are : (p : ℕ) (part : Part) → slice_get plan.parts p ≡ Some part → map (watch_of config) (map (watch_entry plan) part.watches) ≡ part.watches
  watches_are p part is = map_back (watch_of config) (watch_entry plan) part.watches (λ watch inside.
      let holds : lies_on_own_mesh plan p watch ≡ true = passes_each (lies_on_own_mesh plan p) part.watches (each_at _ plan.parts valid.participants.watched_on_own_meshes p part is) watch inside in
      let there = provides_there plan valid p watch.mesh (and_parts _ _ (and_parts _ _ holds).0).0 in
      ap (λ (m : ℕ). record watch { mesh = m }) (mesh_back plan valid watch.mesh there.2))

  -- its group

  groups_are : (p : ℕ) (part : Part) → slice_get plan.parts p ≡ Some part → groups_of plan p ≡ option_to_list part.group
  groups_are p part is = same_numbers (groups_of plan p) (option_to_list part.group) (each_at _ plan.parts valid.participants.in_one_group p part is)

  module _ (p : ℕ) (part : Part) (is : slice_get plan.parts p ≡ Some part) where
    told : (s : ℕ) (scheme : Scheme) → slice_get plan.schemes s ≡ Some scheme → (is_implicit (scheme_table plan s scheme) && is_member part.name (scheme_table plan s scheme)) ≡ (kinds.is_implicit scheme.kind && is_among p scheme.members)
    told s scheme at =
        ap₂ (λ a b. a && b) (implicit_is plan valid s scheme)
        (ap (λ (name : List ℕ). is_member name (scheme_table plan s scheme)) (sym (part_name_is plan valid p part is)) ∙ member_is plan valid s scheme at p (part_in plan valid p part is))

    in_groups : (s : ℕ) (scheme : Scheme) → slice_get plan.schemes s ≡ Some scheme → (kinds.is_implicit scheme.kind && is_among p scheme.members) ≡ true → Contains (option_to_list part.group) s
    in_groups s scheme at holds =
        let parts = and_parts (kinds.is_implicit scheme.kind) (is_among p scheme.members) holds in
        subst (λ (ns : List ℕ). Contains ns s) (groups_are p part is)
        (in_filter (λ t. passes plan.schemes t (λ (x : Scheme). kinds.is_implicit x.kind)) (schemes_of plan p) s
        (in_filter (λ t. is_member_of plan t p) (numbers plan.schemes) s (in_numbers plan.schemes s (slice_get_within plan.schemes s scheme at)) (at_passes plan.schemes s (λ (t : Scheme). is_among p t.members) scheme at parts.1))
        (at_passes plan.schemes s (λ (x : Scheme). kinds.is_implicit x.kind) scheme at parts.0))

    group_scheme : (s : ℕ) → Contains (option_to_list part.group) s → (scheme : Scheme) × (slice_get plan.schemes s ≡ Some scheme) × ((kinds.is_implicit scheme.kind && is_among p scheme.members) ≡ true)
    group_scheme s inside =
        let kept = filter_in (λ t. passes plan.schemes t (λ (x : Scheme). kinds.is_implicit x.kind)) (schemes_of plan p) s (subst (λ (ns : List ℕ). Contains ns s) (sym (groups_are p part is)) inside) in
        let member = (filter_in (λ t. is_member_of plan t p) (numbers plan.schemes) s kept.0).1 in
        let one = passes_at plan.schemes s (λ (t : Scheme). is_among p t.members) member in
        let other = passes_at plan.schemes s (λ (x : Scheme). kinds.is_implicit x.kind) kept.1 in
        let same : other.0 ≡ one.0 = one_item plan.schemes s other.0 one.0 other.1 one.1 in
        (one.0, one.1, and_from (kinds.is_implicit one.0.kind) (is_among p one.0.members) (subst (λ (x : Scheme). kinds.is_implicit x.kind ≡ true) same other.2) one.2)

    by_group : (group : Option ℕ) → part.group ≡ group → position (λ (table : SchemeTable). is_implicit table && is_member part.name table) config.scheme ≡ group
    by_group None none =
        position_none (λ (table : SchemeTable). is_implicit table && is_member part.name table) config.scheme (λ k table at.
        let from = scheme_from plan valid k table at in
        subst (λ (t : SchemeTable). (is_implicit t && is_member part.name t) ≡ false) from.2
        (told k from.0 from.1 ∙ false_from_ne_true (kinds.is_implicit from.0.kind && is_among p from.0.members) (λ also.
        none_in_nil k (subst (λ (o : Option ℕ). Contains (option_to_list o) k) none (in_groups k from.0 from.1 also)))))
    by_group (Some s) some =
        let one = group_scheme s (subst (λ (o : Option ℕ). Contains (option_to_list o) s) (sym some) (head_in s [])) in
        position_at (λ (table : SchemeTable). is_implicit table && is_member part.name table) config.scheme s (scheme_table plan s one.0) (scheme_at plan valid s one.0 one.1) (told s one.0 one.1 ∙ one.2)
        (λ k table below at.
        let from = scheme_from plan valid k table at in
        subst (λ (t : SchemeTable). (is_implicit t && is_member part.name t) ≡ false) from.2
        (told k from.0 from.1 ∙ false_from_ne_true (kinds.is_implicit from.0.kind && is_among p from.0.members) (λ also.
        elim (in_cons s [] k (subst (λ (o : Option ℕ). Contains (option_to_list o) k) some (in_groups k from.0 from.1 also))) [
          | inl same ↦ omega (arith, same, below)
          | inr none ↦ none_in_nil k none
        ])))

  part_is_back : (p : ℕ) (part : Part) → slice_get plan.parts p ≡ Some part → part_of config (part_table plan part) ≡ part
  part_is_back p part is =
      ap₂ (λ (provided received : List ℕ). record (part_of config (part_table plan part)) { provides = provided; receives = received }) (meshes_are part.provides (provided_in plan valid p part is)) (received_are part.receives (received_in plan valid p part is))
      ∙ (ap₂ (λ (written reads : List PlanEntry). record part { writes = written; reads = reads; maps = map (map_of config) (map (map_entry plan) part.maps); watches = map (watch_of config) (map (watch_entry plan) part.watches); group = group_of config part.name })
      (entries_are part.writes (written_on plan valid p part is)) (entries_are part.reads (read_on plan valid p part is))
      ∙ (ap₂ (λ (maps : List MapPlan) (watches : List Watch). record part { maps = maps; watches = watches; group = group_of config part.name }) (maps_are p part is) (watches_are p part is)
      ∙ ap (λ (group : Option ℕ). record part { group = group }) (by_group p part is part.group refl)))

  pub parts_back : map (part_of config) (map (part_table plan) plan.parts) ≡ plan.parts
  parts_back = map_back (part_of config) (part_table plan) plan.parts (λ part inside. let at = at_in plan.parts part inside in part_is_back at.0 part at.1)
