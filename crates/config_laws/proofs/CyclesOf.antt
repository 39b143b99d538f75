-- A cycle of the nodes of an accepted configuration is a circle of its steps.
use Rattle.std.proofs.Common.{◌≡◌, ℕ, zero, suc, ◌<◌, ◌⊎◌, inl, inr, Bool, true, false, not, ◌&&◌, cond, List, [], ◌∷◌, ◌++◌, length, get_or, find, map, Option, Some, None, All, Contains, refl, ap, sym, subst, ◌∙◌, arith}
use Rattle.std.specs.Prelude.{filter, nat_lt, ◌==◌, slice_index_or, unwrap_or}
use Rattle.std.specs.List.{list_any}
use Rattle.std.specs.Option.{option_map_or}
use Rattle.std.proofs.lemmas.Bool.{eq-eqb}
use Rattle.std.proofs.lemmas.List.{get_or-map}
use Rattle.std.proofs.lemmas.List.Elements.{All-head, All-tail, Contains-append_cases, Contains-append_left, Contains-append_right}
use Rattle.cpl_config.specs.declared.kind_words.KindWord.{KindWord}
use Rattle.cpl_config.specs.declared.kind_words.KindWord.TheVariants.{SerialExplicit}
use Rattle.cpl_config.specs.declared.config.Config.{Config}
use Rattle.cpl_config.specs.declared.config.SchemeTable.{SchemeTable}
use Rattle.plan_order.specs.declared.node.Node.{Node}
use Rattle.plan_order.specs.declared.node.Node.TheVariants.{Single, Group}
use Rattle.plan_order.specs.Groups.{is_grouped}
use Rattle.plan_order.specs.Heads.{head_of}
use Rattle.plan_order.specs.NodeOrder.{first_member, StandsBefore}
use Rattle.plan_order.specs.Cycle.{Leads, HasCycle}
use Rattle.plan_order.proofs.Loops.{head_in, in_cons}
use Rattle.plan_order.proofs.Named.{in_map}
use Rattle.mesh_rules.specs.Named.{is_participant}
use Rattle.config_rules.specs.declared.circles.Step.{Step}
use Rattle.config_rules.specs.Members.{is_implicit, name_there, members, is_member, first_name}
use Rattle.config_rules.specs.Circles.{number_of, node_of, step_of, steps_of}
use Rattle.config_laws.specs.Circling.{pairs_of, GoesRound}
use Rattle.config_laws.specs.Numbered.{numbers_in, groups_in, first_and_second, befores_in, node_numbers}
use Rattle.config_laws.proofs.KnownSchemes.{Declared, KnownSchemes}
use Rattle.config_laws.proofs.Members.{any_at, in_filter}
use Rattle.config_laws.proofs.Numbers.{numbered, same_name}
use Rattle.config_laws.proofs.NodesOf.{in_group, same_place, member_is}
use Rattle.config_laws.proofs.Pairs.{place_within}
use Rattle.config_laws.proofs.Splits.{all_left, all_right}
use Rattle.config_laws.proofs.Truths.{both, among, first_found}

-- the group that a name is looked up in

abbrev pub holds_name : List ℕ → SchemeTable → Bool
holds_name name table = is_implicit table && is_member name table

pub both_hold : (a b : Bool) → a ≡ true → b ≡ true → (a && b) ≡ true
both_hold true b is_a is_b = is_b
both_hold false b is_a is_b = cc

found_in : (p : SchemeTable → Bool) (x : SchemeTable) (xs : List SchemeTable) (b : Bool) → p x ≡ b → (y : SchemeTable) → cond b (Some x) (find p xs) ≡ Some y
    → (find p xs ≡ Some y → Contains xs y × (p y ≡ true)) → Contains (x ∷ xs) y × (p y ≡ true)
found_in p x xs true is y found rest =
    let same : x ≡ y = cc in
    ((0, omega arith, same), ap p (sym same) ∙ is)
found_in p x xs false is y found rest =
    let later = rest found in
    ((suc later.0.0, omega (arith, later.0.1), later.0.2), later.1)

pub what_is_found : (p : SchemeTable → Bool) (xs : List SchemeTable) (y : SchemeTable) → find p xs ≡ Some y → Contains xs y × (p y ≡ true)
what_is_found p [] y found = cc
what_is_found p (x ∷ xs) y found = found_in p x xs (p x) refl y found (what_is_found p xs y)

abbrev pub node_by : Config → List ℕ → Option SchemeTable → ℕ
node_by config name found = option_map_or (λ table. number_of config (first_name (members table))) found (number_of config name)

pub node_is : (config : Config) (name : List ℕ) (found : Option SchemeTable) → find (holds_name name) config.scheme ≡ found → node_of config name ≡ node_by config name found
node_is config name found is = ap (λ (o : Option SchemeTable). option_map_or (λ table. number_of config (first_name (members table))) o (number_of config name)) is

-- an implicit scheme that has the name is in a group, under some number
pub group_of_table : (config : Config) (table : SchemeTable) (name : List ℕ) → Contains config.scheme table → is_implicit table ≡ true → Contains (members table) name
    → (g : ℕ) × Contains (slice_index_or (groups_in config) g []) (number_of config name) × (slice_index_or (groups_in config) g [] ≡ numbers_in config table)
group_of_table config table name listed implicit member =
    let there : Contains (filter is_implicit config.scheme) table = in_filter is_implicit config.scheme table listed implicit in
    let group : slice_index_or (groups_in config) there.0 [] ≡ numbers_in config table =
    get_or-map (numbers_in config) (filter is_implicit config.scheme) there.0 table [] there.1 ∙ ap (numbers_in config) there.2 in
    (there.0, subst (λ (xs : List ℕ). Contains xs (number_of config name)) (sym group) (in_map (number_of config) (members table) name member), group)

first_of_mapped : (f : List ℕ → ℕ) (names : List (List ℕ)) (name : List ℕ) → Contains names name → first_member (map f names) ≡ f (first_name names)
first_of_mapped f [] name inside = absurd (omega (arith, inside.1))
first_of_mapped f (first ∷ names) name inside = refl

at_same_place : (groups : List (List ℕ)) (group : List ℕ) (a b : ℕ) → a ≡ b → slice_index_or groups a [] ≡ group → slice_index_or groups b [] ≡ group
at_same_place groups group a b same is = subst (λ (n : ℕ). slice_index_or groups n [] ≡ group) same is

-- a name in the group of this number has the group's first member as its node
node_in_group : (config : Config) → KnownSchemes config → (name : List ℕ) → is_participant config name ≡ true → (g : ℕ) → Contains (slice_index_or (groups_in config) g []) (number_of config name)
    → node_of config name ≡ first_member (slice_index_or (groups_in config) g [])
node_in_group config known name declared g inside =
    let here = in_group config known g (number_of config name) inside in
    let same : here.name ≡ name = same_name config here.name name here.declared declared here.number in
    let member : is_member name here.table ≡ true = member_is name (members here.table) (subst (λ (n : List ℕ). Contains (members here.table) n) same here.member) in
    let holds : holds_name name here.table ≡ true = both_hold (is_implicit here.table) (is_member name here.table) here.implicit member in
    let found = first_found (holds_name name) config.scheme (any_at (holds_name name) config.scheme here.table here.listed holds) in
    let first = what_is_found (holds_name name) config.scheme found.0 found.1 in
    let parts = both (is_implicit found.0) (is_member name found.0) first.1 in
    let listed : Contains (members found.0) name = among name (members found.0) parts.1 in
    let other = group_of_table config found.0 name first.0 parts.0 listed in
    let place : other.0 ≡ g = same_place config known other.0 g (number_of config name) (in_group config known other.0 (number_of config name) other.1) here in
    let group : slice_index_or (groups_in config) g [] ≡ numbers_in config found.0 = at_same_place (groups_in config) (numbers_in config found.0) other.0 g place other.2 in
    node_is config name (Some found.0) found.1 ∙ (sym (first_of_mapped (number_of config) (members found.0) name listed) ∙ ap first_member (sym group))

-- a name in an implicit scheme is grouped
pub is_in_groups : (groups : List (List ℕ)) (g part : ℕ) → g < length groups → Contains (slice_index_or groups g []) part → is_grouped groups part ≡ true
is_in_groups groups g part within inside =
    let group : List ℕ = slice_index_or groups g [] in
    any_at (λ (other : List ℕ). list_any (λ member. member == part) other) groups group (Contains-get groups g within) (any_at (λ (member : ℕ). member == part) group part inside (eq-eqb part part refl))
  where
    Contains-get : (xs : List (List ℕ)) (k : ℕ) → k < length xs → Contains xs (get_or xs k [])
    Contains-get [] k less = absurd (omega (arith, less))
    Contains-get (x ∷ xs) zero less = head_in x xs
    Contains-get (x ∷ xs) (suc k) less = let rest = Contains-get xs k (omega (arith, less)) in (suc rest.0, omega (arith, rest.1), rest.2)

single_in : (b : Bool) (part number : ℕ) → Contains (cond b (part ∷ []) []) number → (b ≡ true) × (part ≡ number)
single_in true part number inside =
    elim (in_cons part [] number inside) [
      | inl same ↦ (refl, same)
      | inr none ↦ absurd (omega (arith, none.1))
    ]
single_in false part number inside = absurd (omega (arith, inside.1))

not_true : (b : Bool) → not b ≡ true → b ≡ false
not_true true h = cc
not_true false h = refl

-- a name in no group is a node by itself
node_alone : (config : Config) → KnownSchemes config → (name : List ℕ) (found : Option SchemeTable) → find (holds_name name) config.scheme ≡ found → is_grouped (groups_in config) (number_of config name) ≡ false
    → node_of config name ≡ number_of config name
node_alone config known name None is alone = node_is config name None is
node_alone config known name (Some table) is alone =
    let first = what_is_found (holds_name name) config.scheme table is in
    let parts = both (is_implicit table) (is_member name table) first.1 in
    let group = group_of_table config table name first.0 parts.0 (among name (members table) parts.1) in
    let within : group.0 < length (groups_in config) = place_within (groups_in config) group.0 (number_of config name) group.1 in
    let grouped : is_grouped (groups_in config) (number_of config name) ≡ true = is_in_groups (groups_in config) group.0 (number_of config name) within group.1 in
    cc (alone, grouped)

-- the node of a name is the head of the node that has its number
node_of_head : (config : Config) → KnownSchemes config → (node : Node) (name : List ℕ) → is_participant config name ≡ true → Contains (node_numbers config node) (number_of config name)
    → node_of config name ≡ head_of (groups_in config) node
node_of_head config known (Group g) name declared inside = node_in_group config known name declared g inside
node_of_head config known (Single part) name declared inside =
    let one = single_in (nat_lt part (length config.participant) && not (is_grouped (groups_in config) part)) part (number_of config name) inside in
    let parts = both (nat_lt part (length config.participant)) (not (is_grouped (groups_in config) part)) one.0 in
    let alone : is_grouped (groups_in config) (number_of config name) ≡ false = subst (λ (n : ℕ). is_grouped (groups_in config) n ≡ false) one.1 (not_true (is_grouped (groups_in config) part) parts.1) in
    node_alone config known name (find (holds_name name) config.scheme) refl alone ∙ sym one.1

-- pairs of numbers and steps

-- the names of a pair, whose step is among these
record IsPairOf (config : Config) (steps : List Step) (pair : ℕ × ℕ) : Type 0 where
  first : List ℕ
  second : List ℕ
  first_declared : is_participant config first ≡ true
  second_declared : is_participant config second ≡ true
  is : pair ≡ (number_of config first, number_of config second)
  step : Contains steps (record { from = node_of config first; to = node_of config second })

pair_here : (config : Config) (kind : KindWord) (first second : Option (List ℕ)) → All (λ name. is_participant config name ≡ true) (name_there first) → All (λ name. is_participant config name ≡ true) (name_there second)
    → (pair : ℕ × ℕ) → Contains (first_and_second config kind first second) pair → IsPairOf config (step_of config kind first second) pair
pair_here config SerialExplicit (Some first) (Some second) one other pair inside =
    elim (in_cons (number_of config first, number_of config second) [] pair inside) [
      | inl same ↦ record {
        first = first;
        second = second;
        first_declared = All-head (λ (name : List ℕ). is_participant config name ≡ true) first [] one;
        second_declared = All-head (λ (name : List ℕ). is_participant config name ≡ true) second [] other;
        is = sym same;
        step = head_in (record { from = node_of config first; to = node_of config second }) [];
      }
      | inr none ↦ absurd (omega (arith, none.1))
    ]
pair_here config kind first second one other pair inside = absurd (omega (arith, inside.1))

more_steps : (config : Config) (steps more : List Step) (pair : ℕ × ℕ) → ((step : Step) → Contains steps step → Contains more step) → IsPairOf config steps pair → IsPairOf config more pair
more_steps config steps more pair inside of = record {
  first = of.first;
  second = of.second;
  first_declared = of.first_declared;
  second_declared = of.second_declared;
  is = of.is;
  step = inside (record { from = node_of config of.first; to = node_of config of.second }) of.step;
}

pair_of_tables : (config : Config) (tables : List SchemeTable) → All (Declared config) tables → (pair : ℕ × ℕ) → Contains (befores_in config tables) pair → IsPairOf config (steps_of config tables) pair
pair_of_tables config [] declared pair inside = absurd (omega (arith, inside.1))
pair_of_tables config (table ∷ tables) declared pair inside =
    let Is : List ℕ → Type 0 = λ name. is_participant config name ≡ true in
    let own : Declared config table = All-head (Declared config) table tables declared in
    let two : All Is (name_there table.first ++ name_there table.second) = all_left Is (name_there table.first ++ name_there table.second) (unwrap_or table.members []) own in
    let steps : List Step = step_of config table.kind table.first table.second in
    let later : List Step = steps_of config tables in
    elim (Contains-append_cases (first_and_second config table.kind table.first table.second) (befores_in config tables) pair inside) [
      | inl here ↦ more_steps config steps (steps ++ later) pair (λ step there. Contains-append_left steps later step there)
          (pair_here config table.kind table.first table.second (all_left Is (name_there table.first) (name_there table.second) two) (all_right Is (name_there table.first) (name_there table.second) two) pair here)
      | inr rest ↦ more_steps config later (steps ++ later) pair (λ step there. Contains-append_right steps later step there)
          (pair_of_tables config tables (All-tail (Declared config) table tables declared) pair rest)
    ]

pub befores_within : (config : Config) → KnownSchemes config → (pair : ℕ × ℕ) → Contains (befores_in config config.scheme) pair → (pair.0 < length config.participant) × (pair.1 < length config.participant)
befores_within config known pair inside =
    let of = pair_of_tables config config.scheme known.declared pair inside in
    let first = numbered config of.first of.first_declared in
    let second = numbered config of.second of.second_declared in
    (subst (λ (n : ℕ). n < length config.participant) (sym (ap (λ (p : ℕ × ℕ). p.0) of.is)) first.within, subst (λ (n : ℕ). n < length config.participant) (sym (ap (λ (p : ℕ × ℕ). p.1) of.is)) second.within)

-- walks

heads_stand : (config : Config) → KnownSchemes config → (x y : Node) → StandsBefore (node_numbers config) (befores_in config config.scheme) x y
    → StandsBefore (λ (node : ℕ). node ∷ []) (pairs_of (steps_of config config.scheme)) (head_of (groups_in config) x) (head_of (groups_in config) y)
heads_stand config known x y stands =
    let of = pair_of_tables config config.scheme known.declared stands.pair stands.listed in
    let from : Contains (node_numbers config x) (number_of config of.first) = subst (λ (n : ℕ). Contains (node_numbers config x) n) (ap (λ (p : ℕ × ℕ). p.0) of.is) stands.from in
    let to : Contains (node_numbers config y) (number_of config of.second) = subst (λ (n : ℕ). Contains (node_numbers config y) n) (ap (λ (p : ℕ × ℕ). p.1) of.is) stands.to in
    let from_head : node_of config of.first ≡ head_of (groups_in config) x = node_of_head config known x of.first of.first_declared from in
    let to_head : node_of config of.second ≡ head_of (groups_in config) y = node_of_head config known y of.second of.second_declared to in
    record {
      pair = (node_of config of.first, node_of config of.second);
      listed = in_map (λ (step : Step). (step.from, step.to)) (steps_of config config.scheme) (record { from = node_of config of.first; to = node_of config of.second }) of.step;
      from = subst (λ (n : ℕ). Contains (n ∷ []) (node_of config of.first)) from_head (head_in (node_of config of.first) []);
      to = subst (λ (n : ℕ). Contains (n ∷ []) (node_of config of.second)) to_head (head_in (node_of config of.second) []);
    }

heads_lead : (config : Config) → KnownSchemes config → (x : Node) (between : List Node) (y : Node) → Leads (node_numbers config) (befores_in config config.scheme) x between y
    → Leads (λ (node : ℕ). node ∷ []) (pairs_of (steps_of config config.scheme)) (head_of (groups_in config) x) (map (head_of (groups_in config)) between) (head_of (groups_in config) y)
heads_lead config known x [] y walk = heads_stand config known x y walk
heads_lead config known x (next ∷ rest) y walk = (heads_stand config known x next walk.0, heads_lead config known next rest y walk.1)

pub goes_round : (config : Config) → KnownSchemes config → HasCycle (node_numbers config) (befores_in config config.scheme) → GoesRound (steps_of config config.scheme)
goes_round config known cycle = record {
  start = head_of (groups_in config) cycle.start;
  between = map (head_of (groups_in config)) cycle.between;
  walk = heads_lead config known cycle.start cycle.between cycle.start cycle.walk;
}

-- a list is empty, or has a last item
pub last_of : {X : Type 0} (xs : List X) → (xs ≡ []) ⊎ ((before : List X) × (x : X) × (xs ≡ before ++ x ∷ []))
last_of [] = inl refl
last_of {X} (x ∷ xs) =
    elim (last_of xs) [
      | inl none ↦ inr ([], x, ap (λ (ys : List X). x ∷ ys) none)
      | inr some ↦ inr (x ∷ some.0, some.1, ap (λ (ys : List X). x ∷ ys) some.2)
    ]

pub no_steps : (walk : HasCycle (λ (node : ℕ). node ∷ []) []) → ⊥
no_steps walk = absurd (none_first walk.start walk.between walk.start walk.walk)
  where
    none_stand : (x y : ℕ) → StandsBefore (λ (node : ℕ). node ∷ []) [] x y → ⊥
    none_stand x y stands = omega (arith, stands.listed.1)

    none_first : (x : ℕ) (between : List ℕ) (y : ℕ) → Leads (λ (node : ℕ). node ∷ []) [] x between y → ⊥
    none_first x [] y walk = none_stand x y walk
    none_first x (next ∷ rest) y walk = none_stand x next walk.0
