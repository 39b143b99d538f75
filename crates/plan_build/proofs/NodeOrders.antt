-- The order of the nodes of an accepted configuration, from that by numbers among implicit schemes.
use Rattle.std.proofs.Common.{◌≡◌, ℕ, suc, ◌+◌, ◌<◌, false, List, [], ◌∷◌, ◌++◌, length, map, take, Option, Some, All, Contains, refl, ap, sym, subst, ◌∙◌, arith}
use Rattle.std.specs.Prelude.{slice_get, flat_map}
use Rattle.std.specs.List.{enumerate_from}
use Rattle.std.proofs.lemmas.List.{map-id, get_or-take, length-take}
use Rattle.std.proofs.lemmas.List.Elements.{Contains-get_or}
use Rattle.cpl_config.specs.declared.kind_words.KindWord.{KindWord}
use Rattle.cpl_config.specs.declared.kind_words.KindWord.TheVariants.{SerialExplicit, ParallelExplicit, SerialImplicit, ParallelImplicit, Multi}
use Rattle.cpl_config.specs.declared.config.Config.{Config}
use Rattle.cpl_config.specs.declared.config.SchemeTable.{SchemeTable}
use Rattle.cpl_config.specs.SoundConfig.{IsSoundConfig}
use Rattle.cpl_plan.specs.PlanNodes as plan_nodes
use Rattle.cpl_plan.specs.PlanNodes.{node_members, solved_before}
use Rattle.plan_order.specs.Cycle.{HasCycle, Leads, ClosesCycle}
use Rattle.plan_order.specs.Groups.{AreGroups, members_of}
use Rattle.plan_order.specs.NodeOrder.{IsNodeOrder}
use Rattle.plan_order.specs.Renaming.{renumbered}
use Rattle.plan_order.specs.declared.node.Node.{Node}
use Rattle.plan_order.proofs.Renamed.{order_renamed, renumbering_renames}
use Rattle.config_rules.specs.ConfigRules.{IsAccepted}
use Rattle.config_rules.specs.Members.{scheme_kind, kind_is_multi, members}
use Rattle.config_laws.specs.Numbered.{numbers_in, groups_in, first_and_second, befores_in, node_numbers}
use Rattle.config_laws.proofs.NodesOf.{are_groups}
use Rattle.config_laws.proofs.CyclesOf.{befores_within}
use Rattle.config_laws.proofs.NoCycles as cycles
use Rattle.scheme_parts.specs.NumbersOf.{part_number, exchanges_before}
use Rattle.scheme_parts.specs.SchemeOf.{scheme_of}
use Rattle.plan_build.specs.Nodes.{implicit_numbers, node_name}
use Rattle.plan_build.specs.PlanOf.{plan_of}
use Rattle.plan_build.proofs.ExchangeFacts.{two_are}
use Rattle.plan_build.proofs.NodeNames.{renumbering}
use Rattle.plan_build.proofs.SchemeFacts.{known}

-- a cycle of fewer pairs is one of all
in_taken : {X : Type 0} (n : ℕ) (xs : List X) (x : X) → Contains (take n xs) x → Contains xs x
in_taken n xs x inside =
    let short = length-take n xs in
    let k : ℕ = inside.0 in
    let less : k < n = omega (arith, inside.1, short) in
    (k, omega (arith, inside.1, short), sym (get_or-take n xs k x less) ∙ inside.2)

leads_more : {N : Type 0} (members_are : N → List ℕ) (pairs : List (ℕ × ℕ)) (n : ℕ) (x : N) (between : List N) (y : N) → Leads members_are (take n pairs) x between y → Leads members_are pairs x between y
leads_more members_are pairs n x [] y walk = record { pair = walk.pair; listed = in_taken n pairs walk.pair walk.listed; from = walk.from; to = walk.to }
leads_more members_are pairs n x (next ∷ rest) y walk = (
  record { pair = walk.0.pair; listed = in_taken n pairs walk.0.pair walk.0.listed; from = walk.0.from; to = walk.0.to },
  leads_more members_are pairs n next rest y walk.1,
)

cycle_more : {N : Type 0} (members_are : N → List ℕ) (pairs : List (ℕ × ℕ)) (n : ℕ) → HasCycle members_are (take n pairs) → HasCycle members_are pairs
cycle_more members_are pairs n cycle = record { start = cycle.start; between = cycle.between; walk = leads_more members_are pairs n cycle.start cycle.between cycle.start cycle.walk }

-- what is asked of the groups and the pairs, and what they give
pub groups_fit : (config : Config) → IsAccepted config → (parts : ℕ) (groups : List (List ℕ)) → parts ≡ length config.participant → groups ≡ groups_in config → AreGroups parts groups
groups_fit config accepted parts groups p g =
    subst (λ (n : ℕ). AreGroups n groups) (sym p) (subst (λ (gs : List (List ℕ)). AreGroups (length config.participant) gs) (sym g) (are_groups config (cycles.known config accepted)))

pub befores_fit : (config : Config) → IsAccepted config → (parts : ℕ) (befores : List (ℕ × ℕ)) → parts ≡ length config.participant → befores ≡ befores_in config config.scheme → All (λ pair. (pair.0 < parts) × (pair.1 < parts)) befores
befores_fit config accepted parts befores p b =
    subst (λ (n : ℕ). All (λ pair. (pair.0 < n) × (pair.1 < n)) befores) (sym p)
    (subst (λ (bs : List (ℕ × ℕ)). All (λ pair. (pair.0 < length config.participant) × (pair.1 < length config.participant)) bs) (sym b)
    (λ k d within. befores_within config (cycles.known config accepted) _ (Contains-get_or (befores_in config config.scheme) k d within)))

pub order_fits : (config : Config) (parts : ℕ) (groups : List (List ℕ)) (befores : List (ℕ × ℕ)) (order : List Node) → parts ≡ length config.participant → groups ≡ groups_in config → befores ≡ befores_in config config.scheme
    → IsNodeOrder (members_of parts groups) befores order → IsNodeOrder (node_numbers config) (befores_in config config.scheme) order
order_fits config parts groups befores order p g b is =
    subst (λ (n : ℕ). IsNodeOrder (members_of n (groups_in config)) (befores_in config config.scheme) order) p
    (subst (λ (gs : List (List ℕ)). IsNodeOrder (members_of parts gs) (befores_in config config.scheme) order) g
    (subst (λ (bs : List (ℕ × ℕ)). IsNodeOrder (members_of parts groups) bs order) b is))

pub never_closes : (config : Config) → IsAccepted config → (parts : ℕ) (groups : List (List ℕ)) (befores : List (ℕ × ℕ)) (at : ℕ) → parts ≡ length config.participant → groups ≡ groups_in config → befores ≡ befores_in config config.scheme
    → ClosesCycle (members_of parts groups) befores at → ⊥
never_closes config accepted parts groups befores at p g b closes =
    let whole : HasCycle (members_of parts groups) befores = cycle_more (members_of parts groups) befores (at + 1) closes.closed in
    cycles.no_cycle config accepted
    (subst (λ (n : ℕ). HasCycle (members_of n (groups_in config)) (befores_in config config.scheme)) p
    (subst (λ (gs : List (List ℕ)). HasCycle (members_of parts gs) (befores_in config config.scheme)) g
    (subst (λ (bs : List (ℕ × ℕ)). HasCycle (members_of parts groups) bs) b whole)))

-- the pairs of a plan are those of its configuration
two_numbers : (config : Config) (word : KindWord) (first second : Option (List ℕ)) (names : List (List ℕ)) → (kind_is_multi word ≡ false → (one other : List ℕ) × (first ≡ Some one) × (second ≡ Some other) × (names ≡ one ∷ other ∷ []))
    → plan_nodes.first_and_second (scheme_kind word) (map (part_number config) names) ≡ first_and_second config word first second
two_numbers config SerialExplicit first second names two =
    let has = two refl in
    ap (λ (ns : List (List ℕ)). plan_nodes.first_and_second (scheme_kind SerialExplicit) (map (part_number config) ns)) has.4
    ∙ (sym (ap (λ (o : Option (List ℕ)). first_and_second config SerialExplicit o (Some has.1)) has.2) ∙ sym (ap (λ (o : Option (List ℕ)). first_and_second config SerialExplicit first o) has.3))
two_numbers config ParallelExplicit first second names two = refl
two_numbers config SerialImplicit first second names two = refl
two_numbers config ParallelImplicit first second names two = refl
two_numbers config Multi first second names two = refl

solved_from : (config : Config) (start : ℕ) (tables : List SchemeTable)
    → ((k : ℕ) (table : SchemeTable) → slice_get tables k ≡ Some table → plan_nodes.first_and_second (scheme_kind table.kind) (numbers_in config table) ≡ first_and_second config table.kind table.first table.second)
    → flat_map (λ scheme. plan_nodes.first_and_second scheme.kind scheme.members) (map (λ numbered. scheme_of config (exchanges_before config numbered.0) numbered.1) (enumerate_from start tables)) ≡ befores_in config tables
solved_from config start [] same = refl
solved_from config start (table ∷ tables) same =
    let rest : List (ℕ × ℕ) = flat_map (λ scheme. plan_nodes.first_and_second scheme.kind scheme.members) (map (λ numbered. scheme_of config (exchanges_before config numbered.0) numbered.1) (enumerate_from (start + 1) tables)) in
    ap (λ (xs : List (ℕ × ℕ)). xs ++ rest) (same 0 table refl)
    ∙ ap (λ (xs : List (ℕ × ℕ)). first_and_second config table.kind table.first table.second ++ xs) (solved_from config (start + 1) tables (λ k t at. same (suc k) t at))

module _ (config : Config) (sound : IsSoundConfig config) (accepted : IsAccepted config) where
  solved : (nodes : List Node) → solved_before (plan_of config nodes) ≡ befores_in config config.scheme
  solved nodes =
      solved_from config 0 config.scheme
      (λ k table at. two_numbers config table.kind table.first table.second (members table)
      (λ single. let two = (known config sound accepted nodes k table at).two single in
      (two.first, two.second, two.first_told, two.second_told, two_are table.first table.second table.members two.first two.second two.first_told two.second_told two.no_list)))

  pub named_order : (numbers : List ℕ) (order named : List Node) → numbers ≡ implicit_numbers config.scheme → named ≡ map (node_name numbers) order → IsNodeOrder (node_numbers config) (befores_in config config.scheme) order
      → IsNodeOrder (node_members (plan_of config named)) (solved_before (plan_of config named)) named
  named_order numbers order named are is goes =
      let pairs : List (ℕ × ℕ) = befores_in config config.scheme in
      let name : Node → Node = node_name (implicit_numbers config.scheme) in
      let renamed : IsNodeOrder (node_members (plan_of config named)) (renumbered (λ n. n) pairs) (map name order) =
      order_renamed (node_numbers config) pairs (node_members (plan_of config named)) (renumbered (λ n. n) pairs) name
      (renumbering_renames (node_numbers config) (node_members (plan_of config named)) (λ n. n) name (renumbering config sound accepted named) pairs) order goes in
      let same_pairs : renumbered (λ n. n) pairs ≡ solved_before (plan_of config named) = map-id pairs ∙ sym (solved named) in
      let same_order : map name order ≡ named = ap (λ (ns : List ℕ). map (node_name ns) order) (sym are) ∙ sym is in
      subst (λ (ns : List Node). IsNodeOrder (node_members (plan_of config named)) (solved_before (plan_of config named)) ns) same_order
      (subst (λ (ps : List (ℕ × ℕ)). IsNodeOrder (node_members (plan_of config named)) ps (map name order)) same_pairs renamed)
