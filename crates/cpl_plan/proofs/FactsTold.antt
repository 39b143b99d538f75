-- A plan is valid where each test of a fact passes, and its nodes stand in order.
use Rattle.std.proofs.Common.{◌≡◌, ℕ, zero, suc, ◌^◌, ◌<◌, Bool, true, false, not, nat_le, cond, inl, inr, lit<, List, [], ◌∷◌, length, sum_by, refl, ap, sym, ◌∙◌, arith, get_or}
use Rattle.std.specs.Prelude.{filter}
use Rattle.std.proofs.lemmas.Bool.{cases_Bool, and_parts, and_from, leb-true, le-leb}
use Rattle.cpl_plan.specs.ValidPlan.{HasSizes, HasMeshes, HasParticipants, HasSchemes, HasExchanges, IsValidPlan, IsCount}
use Rattle.cpl_plan.specs.PlanFacts.{Fact, holds, all_facts, broken_facts, is_count, Window, EndTime, Windows, WindowsReach, Parts, Meshes, DataItems, Schemes, Exchanges, Watches, Names, PartsNamedOnce, MeshesNamedOnce, DataNamedOnce, WatchesNamedOnce, OneProvider, Dimensions, DataDeclared, DataOnce, Degrees, ProvidedDeclared, ProvidedOnce, ReceivedDeclared, ReceivedFromOthers, ReceivedOnce, WrittenOnOwnMeshes, ReadOnOwnMeshes, WrittenOnce, ReadOnce, FedOnce, MapsJoin, MapsOnce, WatchedOnOwnMeshes, FewReceived, FewWritten, FewRead, FewMaps, InAScheme, InOneGroup, MembersDeclared, MembersOnce, MembersCounted, MeetOnce, Iterations, Measures, MeasuredFirst, Limits, Accelerations, FirstStep, ByScheme, TwoMembers, Carried, Crossing, Kinds, Written, Read}
use Rattle.plan_order.specs.NodeOrder.{IsNodeOrder}
use Rattle.cpl_plan.specs.PlanNodes.{node_members, solved_before}
use Rattle.cpl_plan.specs.declared.parts.PlanParts.{PlanParts}

counted : (limit n : ℕ) → IsCount limit n → is_count limit n ≡ true
counted limit n is = and_from (nat_le 1 n) (nat_le n limit) (le-leb 1 n is.0) (le-leb n limit is.1)

counts : (limit n : ℕ) → is_count limit n ≡ true → IsCount limit n
counts limit n is = let both = and_parts (nat_le 1 n) (nat_le n limit) is in (leb-true 1 n both.0, leb-true n limit both.1)

-- each fact holds of a valid plan
fact_holds : (plan : PlanParts) → IsValidPlan plan → (fact : Fact) → holds plan fact ≡ true
fact_holds plan is Window = counted (10 ^ 9) plan.window is.sizes.window
fact_holds plan is EndTime = counted (10 ^ 15) plan.end_time is.sizes.end_time
fact_holds plan is Windows = counted (10 ^ 6) plan.most_windows is.sizes.windows
fact_holds plan is WindowsReach = is.sizes.windows_reach
fact_holds plan is Parts = counted 64 (length plan.parts) is.sizes.parts
fact_holds plan is Meshes = le-leb (length plan.meshes) 64 is.sizes.meshes
fact_holds plan is DataItems = le-leb (length plan.data_list) 64 is.sizes.data_items
fact_holds plan is Schemes = counted 64 (length plan.schemes) is.sizes.schemes
fact_holds plan is Exchanges = le-leb (length plan.exchanges) 256 is.sizes.exchanges
fact_holds plan is Watches = le-leb (sum_by (λ part. length part.watches) plan.parts) 64 is.sizes.watches
fact_holds plan is Names = is.sizes.names
fact_holds plan is PartsNamedOnce = is.sizes.parts_named_once
fact_holds plan is MeshesNamedOnce = is.sizes.meshes_named_once
fact_holds plan is DataNamedOnce = is.sizes.data_named_once
fact_holds plan is WatchesNamedOnce = is.sizes.watches_named_once
fact_holds plan is OneProvider = is.meshes.one_provider
fact_holds plan is Dimensions = is.meshes.dimensions
fact_holds plan is DataDeclared = is.meshes.data_declared
fact_holds plan is DataOnce = is.meshes.data_once
fact_holds plan is Degrees = is.meshes.degrees
fact_holds plan is ProvidedDeclared = is.participants.provided_declared
fact_holds plan is ProvidedOnce = is.participants.provided_once
fact_holds plan is ReceivedDeclared = is.participants.received_declared
fact_holds plan is ReceivedFromOthers = is.participants.received_from_others
fact_holds plan is ReceivedOnce = is.participants.received_once
fact_holds plan is WrittenOnOwnMeshes = is.participants.written_on_own_meshes
fact_holds plan is ReadOnOwnMeshes = is.participants.read_on_own_meshes
fact_holds plan is WrittenOnce = is.participants.written_once
fact_holds plan is ReadOnce = is.participants.read_once
fact_holds plan is FedOnce = is.participants.fed_once
fact_holds plan is MapsJoin = is.participants.maps_join
fact_holds plan is MapsOnce = is.participants.maps_once
fact_holds plan is WatchedOnOwnMeshes = is.participants.watched_on_own_meshes
fact_holds plan is FewReceived = is.participants.few_received
fact_holds plan is FewWritten = is.participants.few_written
fact_holds plan is FewRead = is.participants.few_read
fact_holds plan is FewMaps = is.participants.few_maps
fact_holds plan is InAScheme = is.participants.in_a_scheme
fact_holds plan is InOneGroup = is.participants.in_one_group
fact_holds plan is MembersDeclared = is.schemes.members_declared
fact_holds plan is MembersOnce = is.schemes.members_once
fact_holds plan is MembersCounted = is.schemes.members_counted
fact_holds plan is MeetOnce = is.schemes.meet_once
fact_holds plan is Iterations = is.schemes.iterations
fact_holds plan is Measures = is.schemes.measures
fact_holds plan is MeasuredFirst = is.schemes.measured_first
fact_holds plan is Limits = is.schemes.limits
fact_holds plan is Accelerations = is.schemes.accelerations
fact_holds plan is FirstStep = is.schemes.first_step
fact_holds plan is ByScheme = is.exchanges.by_scheme
fact_holds plan is TwoMembers = is.exchanges.two_members
fact_holds plan is Carried = is.exchanges.carried
fact_holds plan is Crossing = is.exchanges.crossing
fact_holds plan is Kinds = is.exchanges.kinds
fact_holds plan is Written = is.exchanges.written
fact_holds plan is Read = is.exchanges.read

none_left : (test : Fact → Bool) → ((fact : Fact) → test fact ≡ true) → (facts : List Fact) → filter (λ fact. not (test fact)) facts ≡ []
none_left test each [] = refl
none_left test each (fact ∷ facts) =
    ap (λ b. cond (not b) (fact ∷ filter (λ f. not (test f)) facts) (filter (λ f. not (test f)) facts)) (each fact) ∙ none_left test each facts

pub nothing_broken : (plan : PlanParts) → IsValidPlan plan → broken_facts plan ≡ []
nothing_broken plan is = none_left (holds plan) (fact_holds plan is) all_facts

-- what is left after one that holds, and that one that does not is left
later : (test : Fact → Bool) (fact : Fact) (facts : List Fact) → test fact ≡ true
    → filter (λ f. not (test f)) (fact ∷ facts) ≡ [] → filter (λ f. not (test f)) facts ≡ []
later test fact facts holds none =
    sym (ap (λ b. cond (not b) (fact ∷ filter (λ f. not (test f)) facts) (filter (λ f. not (test f)) facts)) holds) ∙ none

left_over : (test : Fact → Bool) (fact : Fact) (facts : List Fact) → test fact ≡ false → filter (λ f. not (test f)) (fact ∷ facts) ≡ [] → ⊥
left_over test fact facts fails none =
    let all : fact ∷ filter (λ f. not (test f)) facts ≡ [] =
    sym (ap (λ b. cond (not b) (fact ∷ filter (λ f. not (test f)) facts) (filter (λ f. not (test f)) facts)) fails) ∙ none in
    cc

-- a fact of the list of which none is left holds
first_told : (test : Fact → Bool) (fact : Fact) (facts : List Fact) → filter (λ f. not (test f)) (fact ∷ facts) ≡ [] → test fact ≡ true
first_told test fact facts none = elim (cases_Bool (test fact)) [
  | inl holds ↦ holds
  | inr fails ↦ absurd (left_over test fact facts fails none)
]

told : (test : Fact → Bool) (facts : List Fact) → filter (λ fact. not (test fact)) facts ≡ [] → (k : ℕ) (d : Fact) → k < length facts → test (get_or facts k d) ≡ true
told test [] none k d within = absurd (omega (arith, within))
told test (fact ∷ facts) none zero d within = first_told test fact facts none
told test (fact ∷ facts) none (suc k) d within =
    told test facts (later test fact facts (first_told test fact facts none) none) k d (omega (arith, within))

module _ (plan : PlanParts) (none : broken_facts plan ≡ []) where
  fact : (k : ℕ) → k < length all_facts → holds plan (get_or all_facts k Window) ≡ true
  fact k within = told (holds plan) all_facts none k Window within

  facts_sizes : HasSizes plan
  facts_sizes = record {
    window = counts (10 ^ 9) plan.window (fact 0 (lit< tt));
    end_time = counts (10 ^ 15) plan.end_time (fact 1 (lit< tt));
    windows = counts (10 ^ 6) plan.most_windows (fact 2 (lit< tt));
    windows_reach = fact 3 (lit< tt);
    parts = counts 64 (length plan.parts) (fact 4 (lit< tt));
    meshes = leb-true (length plan.meshes) 64 (fact 5 (lit< tt));
    data_items = leb-true (length plan.data_list) 64 (fact 6 (lit< tt));
    schemes = counts 64 (length plan.schemes) (fact 7 (lit< tt));
    exchanges = leb-true (length plan.exchanges) 256 (fact 8 (lit< tt));
    watches = leb-true (sum_by (λ part. length part.watches) plan.parts) 64 (fact 9 (lit< tt));
    names = fact 10 (lit< tt);
    parts_named_once = fact 11 (lit< tt);
    meshes_named_once = fact 12 (lit< tt);
    data_named_once = fact 13 (lit< tt);
    watches_named_once = fact 14 (lit< tt);
  }

  facts_meshes : HasMeshes plan
  facts_meshes = record {
    one_provider = fact 15 (lit< tt);
    dimensions = fact 16 (lit< tt);
    data_declared = fact 17 (lit< tt);
    data_once = fact 18 (lit< tt);
    degrees = fact 19 (lit< tt);
  }

  facts_participants : HasParticipants plan
  facts_participants = record {
    provided_declared = fact 20 (lit< tt);
    provided_once = fact 21 (lit< tt);
    received_declared = fact 22 (lit< tt);
    received_from_others = fact 23 (lit< tt);
    received_once = fact 24 (lit< tt);
    written_on_own_meshes = fact 25 (lit< tt);
    read_on_own_meshes = fact 26 (lit< tt);
    written_once = fact 27 (lit< tt);
    read_once = fact 28 (lit< tt);
    fed_once = fact 29 (lit< tt);
    maps_join = fact 30 (lit< tt);
    maps_once = fact 31 (lit< tt);
    watched_on_own_meshes = fact 32 (lit< tt);
    few_received = fact 33 (lit< tt);
    few_written = fact 34 (lit< tt);
    few_read = fact 35 (lit< tt);
    few_maps = fact 36 (lit< tt);
    in_a_scheme = fact 37 (lit< tt);
    in_one_group = fact 38 (lit< tt);
  }

  facts_schemes : HasSchemes plan
  facts_schemes = record {
    members_declared = fact 39 (lit< tt);
    members_once = fact 40 (lit< tt);
    members_counted = fact 41 (lit< tt);
    meet_once = fact 42 (lit< tt);
    iterations = fact 43 (lit< tt);
    measures = fact 44 (lit< tt);
    measured_first = fact 45 (lit< tt);
    limits = fact 46 (lit< tt);
    accelerations = fact 47 (lit< tt);
    first_step = fact 48 (lit< tt);
  }

  facts_exchanges : HasExchanges plan
  facts_exchanges = record {
    by_scheme = fact 49 (lit< tt);
    two_members = fact 50 (lit< tt);
    carried = fact 51 (lit< tt);
    crossing = fact 52 (lit< tt);
    kinds = fact 53 (lit< tt);
    written = fact 54 (lit< tt);
    read = fact 55 (lit< tt);
  }

  pub valid_plan : IsNodeOrder (node_members plan) (solved_before plan) plan.nodes → IsValidPlan plan
  valid_plan order =
      record { sizes = facts_sizes; meshes = facts_meshes; participants = facts_participants; schemes = facts_schemes; exchanges = facts_exchanges; nodes = order }
