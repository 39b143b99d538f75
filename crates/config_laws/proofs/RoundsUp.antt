-- Steps that go round are a cycle of the nodes.
use Rattle.std.proofs.Common.{◌≡◌, ℕ, zero, suc, ◌<◌, ◌⊎◌, inl, inr, Bool, true, false, not, ◌&&◌, ◌||◌, cond, List, [], ◌∷◌, ◌++◌, length, find, map, Option, Some, None, All, Contains, refl, ap, sym, subst, ◌∙◌, arith}
use Rattle.std.specs.Prelude.{nat_lt, slice_index_or, unwrap_or}
use Rattle.std.proofs.lemmas.Bool.{lt-ltb}
use Rattle.std.proofs.lemmas.List.Elements.{All-head, All-tail, Contains-append_cases, Contains-append_left, Contains-append_right}
use Rattle.cpl_config.specs.declared.kind_words.KindWord.{KindWord}
use Rattle.cpl_config.specs.declared.kind_words.KindWord.TheVariants.{SerialExplicit}
use Rattle.cpl_config.specs.declared.config.Config.{Config}
use Rattle.cpl_config.specs.declared.config.SchemeTable.{SchemeTable}
use Rattle.plan_order.specs.declared.node.Node.{Node}
use Rattle.plan_order.specs.declared.node.Node.TheVariants.{Single, Group}
use Rattle.plan_order.specs.Groups.{is_grouped}
use Rattle.plan_order.specs.NodeOrder.{StandsBefore}
use Rattle.plan_order.specs.Cycle.{Leads, HasCycle}
use Rattle.plan_order.proofs.Loops.{head_in, in_cons}
use Rattle.plan_order.proofs.Named.{in_map}
use Rattle.plan_order.proofs.Waiting.{is_in, in_from_is_in}
use Rattle.mesh_rules.specs.Named.{is_participant}
use Rattle.config_rules.specs.declared.circles.Step.{Step}
use Rattle.config_rules.specs.Members.{is_implicit, name_there, members, is_member, first_name}
use Rattle.config_rules.specs.Circles.{number_of, node_of, step_of, steps_of}
use Rattle.config_laws.specs.Circling.{pairs_of, GoesRound}
use Rattle.config_laws.specs.Numbered.{numbers_in, groups_in, first_and_second, befores_in, node_numbers}
use Rattle.config_laws.proofs.CyclesOf.{holds_name, both_hold, what_is_found, node_is, group_of_table, is_in_groups}
use Rattle.config_laws.proofs.KnownSchemes.{Declared, KnownSchemes}
use Rattle.config_laws.proofs.Members.{any_at}
use Rattle.config_laws.proofs.NodesOf.{in_group, same_place, member_is}
use Rattle.config_laws.proofs.Numbers.{numbered, same_name}
use Rattle.config_laws.proofs.Pairs.{place_within}
use Rattle.config_laws.proofs.Splits.{all_left, all_right}
use Rattle.config_laws.proofs.Truths.{both, among, first_found}
use Rattle.config_laws.proofs.WalksRound.{step_between}

-- the node of a number: the group that has it, or itself

abbrev node_at_place : (groups : List (List ℕ)) (part : ℕ) → ((g : ℕ) × Contains (slice_index_or groups g []) part) ⊎ (is_grouped groups part ≡ false) → Node
node_at_place groups part (inl group) = Group group.0
node_at_place groups part (inr alone) = Single part

place_here : (group : List ℕ) (groups : List (List ℕ)) (part : ℕ) (b : Bool) → is_in group part ≡ b → ((g : ℕ) × Contains (slice_index_or groups g []) part) ⊎ (is_grouped groups part ≡ false)
    → ((g : ℕ) × Contains (slice_index_or (group ∷ groups) g []) part) ⊎ ((b || is_grouped groups part) ≡ false)
place_here group groups part true is rest = inl (zero, in_from_is_in group part is)
place_here group groups part false is (inl later) = inl (suc later.0, later.1)
place_here group groups part false is (inr alone) = inr alone

place_of : (groups : List (List ℕ)) (part : ℕ) → ((g : ℕ) × Contains (slice_index_or groups g []) part) ⊎ (is_grouped groups part ≡ false)
place_of [] part = inr refl
place_of (group ∷ groups) part = place_here group groups part (is_in group part) refl (place_of groups part)

at : Config → ℕ → Node
at config part = node_at_place (groups_in config) part (place_of (groups_in config) part)

first_in_names : (names : List (List ℕ)) (name : List ℕ) → Contains names name → Contains names (first_name names)
first_in_names [] name inside = absurd (omega (arith, inside.1))
first_in_names (first ∷ names) name inside = head_in first names

-- the group of the implicit scheme that a name is found in has the name's number and its node
record IsGroupOf (config : Config) (name : List ℕ) (g : ℕ) : Type 0 where
  number : Contains (slice_index_or (groups_in config) g []) (number_of config name)
  node : Contains (slice_index_or (groups_in config) g []) (node_of config name)

group_of_name : (config : Config) (name : List ℕ) (table : SchemeTable) → find (holds_name name) config.scheme ≡ Some table → (g : ℕ) × IsGroupOf config name g
group_of_name config name table found =
    let first = what_is_found (holds_name name) config.scheme table found in
    let parts = both (is_implicit table) (is_member name table) first.1 in
    let listed : Contains (members table) name = among name (members table) parts.1 in
    let group = group_of_table config table name first.0 parts.0 listed in
    let there : Contains (numbers_in config table) (number_of config (first_name (members table))) =
    in_map (number_of config) (members table) (first_name (members table)) (first_in_names (members table) name listed) in
    let node : Contains (slice_index_or (groups_in config) group.0 []) (number_of config (first_name (members table))) =
    subst (λ (xs : List ℕ). Contains xs (number_of config (first_name (members table)))) (sym group.2) there in (
      group.0,
      record {
        number = group.1;
        node = subst (λ (n : ℕ). Contains (slice_index_or (groups_in config) group.0 []) n) (sym (node_is config name (Some table) found)) node;
      },
    )

not_found : (name : List ℕ) (tables : List SchemeTable) → find (holds_name name) tables ≡ None → (table : SchemeTable) → Contains tables table → holds_name name table ≡ true → ⊥
not_found name tables none table inside holds =
    let found = first_found (holds_name name) tables (any_at (holds_name name) tables table inside holds) in
    cc (none, found.1)

-- a name that is found in no implicit scheme is in no group
in_no_group : (config : Config) → KnownSchemes config → (name : List ℕ) → is_participant config name ≡ true → find (holds_name name) config.scheme ≡ None → (g : ℕ)
    → Contains (slice_index_or (groups_in config) g []) (number_of config name) → ⊥
in_no_group config known name declared none g inside =
    let here = in_group config known g (number_of config name) inside in
    let same : here.name ≡ name = same_name config here.name name here.declared declared here.number in
    let member : is_member name here.table ≡ true = member_is name (members here.table) (subst (λ (n : List ℕ). Contains (members here.table) n) same here.member) in
    not_found name config.scheme none here.table here.listed (both_hold (is_implicit here.table) (is_member name here.table) here.implicit member)

alone_there : (config : Config) (part : ℕ) → part < length config.participant → is_grouped (groups_in config) part ≡ false → Contains (node_numbers config (Single part)) part
alone_there config part within alone =
    let is : (nat_lt part (length config.participant) && not (is_grouped (groups_in config) part)) ≡ true = both_hold (nat_lt part (length config.participant)) (not (is_grouped (groups_in config) part)) (lt-ltb part (length config.participant) within) (ap not alone) in
    subst (λ (b : Bool). Contains (cond b (part ∷ []) []) part) (sym is) (head_in part [])

-- a name's number is in the node of its node's number
node_there : (config : Config) → KnownSchemes config → (name : List ℕ) → is_participant config name ≡ true → (found : Option SchemeTable) → find (holds_name name) config.scheme ≡ found
    → (place : ((g : ℕ) × Contains (slice_index_or (groups_in config) g []) (node_of config name)) ⊎ (is_grouped (groups_in config) (node_of config name) ≡ false))
    → Contains (node_numbers config (node_at_place (groups_in config) (node_of config name) place)) (number_of config name)
node_there config known name declared (Some table) is (inl group) =
    let own = group_of_name config name table is in
    let same : own.0 ≡ group.0 = same_place config known own.0 group.0 (node_of config name) (in_group config known own.0 (node_of config name) own.1.node) (in_group config known group.0 (node_of config name) group.1) in
    subst (λ (g : ℕ). Contains (slice_index_or (groups_in config) g []) (number_of config name)) same own.1.number
node_there config known name declared (Some table) is (inr alone) =
    let own = group_of_name config name table is in
    let within : own.0 < length (groups_in config) = place_within (groups_in config) own.0 (node_of config name) own.1.node in
    let grouped : is_grouped (groups_in config) (node_of config name) ≡ true = is_in_groups (groups_in config) own.0 (node_of config name) within own.1.node in
    cc (alone, grouped)
node_there config known name declared None is (inl group) =
    let same : node_of config name ≡ number_of config name = node_is config name None is in
    absurd (in_no_group config known name declared is group.0 (subst (λ (n : ℕ). Contains (slice_index_or (groups_in config) group.0 []) n) same group.1))
node_there config known name declared None is (inr alone) =
    let same : node_of config name ≡ number_of config name = node_is config name None is in
    let there : is_grouped (groups_in config) (number_of config name) ≡ false = subst (λ (n : ℕ). is_grouped (groups_in config) n ≡ false) same alone in
    subst (λ (n : ℕ). Contains (node_numbers config (Single n)) (number_of config name)) (sym same) (alone_there config (number_of config name) (numbered config name declared).within there)

-- steps and pairs of numbers

-- the names of a step, whose numbers are among these pairs
record IsStepOf (config : Config) (befores : List (ℕ × ℕ)) (step : Step) : Type 0 where
  first : List ℕ
  second : List ℕ
  first_declared : is_participant config first ≡ true
  second_declared : is_participant config second ≡ true
  from : node_of config first ≡ step.from
  to : node_of config second ≡ step.to
  before : Contains befores (number_of config first, number_of config second)

step_here : (config : Config) (kind : KindWord) (first second : Option (List ℕ)) → All (λ name. is_participant config name ≡ true) (name_there first) → All (λ name. is_participant config name ≡ true) (name_there second)
    → (step : Step) → Contains (step_of config kind first second) step → IsStepOf config (first_and_second config kind first second) step
step_here config SerialExplicit (Some first) (Some second) one other step inside =
    elim (in_cons (record { from = node_of config first; to = node_of config second }) [] step inside) [
      | inl same ↦ record {
        first = first;
        second = second;
        first_declared = All-head (λ (name : List ℕ). is_participant config name ≡ true) first [] one;
        second_declared = All-head (λ (name : List ℕ). is_participant config name ≡ true) second [] other;
        from = ap (λ (s : Step). s.from) same;
        to = ap (λ (s : Step). s.to) same;
        before = head_in (number_of config first, number_of config second) [];
      }
      | inr none ↦ absurd (omega (arith, none.1))
    ]
step_here config kind first second one other step inside = absurd (omega (arith, inside.1))

more_befores : (config : Config) (befores more : List (ℕ × ℕ)) (step : Step) → ((pair : ℕ × ℕ) → Contains befores pair → Contains more pair) → IsStepOf config befores step → IsStepOf config more step
more_befores config befores more step inside of = record {
  first = of.first;
  second = of.second;
  first_declared = of.first_declared;
  second_declared = of.second_declared;
  from = of.from;
  to = of.to;
  before = inside (number_of config of.first, number_of config of.second) of.before;
}

step_of_tables : (config : Config) (tables : List SchemeTable) → All (Declared config) tables → (step : Step) → Contains (steps_of config tables) step → IsStepOf config (befores_in config tables) step
step_of_tables config [] declared step inside = absurd (omega (arith, inside.1))
step_of_tables config (table ∷ tables) declared step inside =
    let Is : List ℕ → Type 0 = λ name. is_participant config name ≡ true in
    let own : Declared config table = All-head (Declared config) table tables declared in
    let two : All Is (name_there table.first ++ name_there table.second) = all_left Is (name_there table.first ++ name_there table.second) (unwrap_or table.members []) own in
    let befores : List (ℕ × ℕ) = first_and_second config table.kind table.first table.second in
    let later : List (ℕ × ℕ) = befores_in config tables in
    elim (Contains-append_cases (step_of config table.kind table.first table.second) (steps_of config tables) step inside) [
      | inl here ↦ more_befores config befores (befores ++ later) step (λ pair there. Contains-append_left befores later pair there)
          (step_here config table.kind table.first table.second (all_left Is (name_there table.first) (name_there table.second) two) (all_right Is (name_there table.first) (name_there table.second) two) step here)
      | inr rest ↦ more_befores config later (befores ++ later) step (λ pair there. Contains-append_right befores later pair there)
          (step_of_tables config tables (All-tail (Declared config) table tables declared) step rest)
    ]

-- walks

nodes_stand : (config : Config) → KnownSchemes config → (x y : ℕ) → StandsBefore (λ (node : ℕ). node ∷ []) (pairs_of (steps_of config config.scheme)) x y
    → StandsBefore (node_numbers config) (befores_in config config.scheme) (at config x) (at config y)
unfolding at
nodes_stand config known x y stands =
    let between = step_between (steps_of config config.scheme) x y stands in
    let of = step_of_tables config config.scheme known.declared between.0 between.1 in
    let from_there = node_there config known of.first of.first_declared (find (holds_name of.first) config.scheme) refl (place_of (groups_in config) (node_of config of.first)) in
    let to_there = node_there config known of.second of.second_declared (find (holds_name of.second) config.scheme) refl (place_of (groups_in config) (node_of config of.second)) in
    record {
      pair = (number_of config of.first, number_of config of.second);
      listed = of.before;
      from = subst (λ (n : ℕ). Contains (node_numbers config (at config n)) (number_of config of.first)) (of.from ∙ between.2) from_there;
      to = subst (λ (n : ℕ). Contains (node_numbers config (at config n)) (number_of config of.second)) (of.to ∙ between.3) to_there;
    }

nodes_lead : (config : Config) → KnownSchemes config → (x : ℕ) (between : List ℕ) (y : ℕ) → Leads (λ (node : ℕ). node ∷ []) (pairs_of (steps_of config config.scheme)) x between y
    → Leads (node_numbers config) (befores_in config config.scheme) (at config x) (map (at config) between) (at config y)
nodes_lead config known x [] y walk = nodes_stand config known x y walk
nodes_lead config known x (next ∷ rest) y walk = (nodes_stand config known x next walk.0, nodes_lead config known next rest y walk.1)

pub cycle_of_round : (config : Config) → KnownSchemes config → GoesRound (steps_of config config.scheme) → HasCycle (node_numbers config) (befores_in config config.scheme)
cycle_of_round config known round = record {
  start = at config round.start;
  between = map (at config) round.between;
  walk = nodes_lead config known round.start round.between round.start round.walk;
}
