-- Exchanges of the plan of an accepted configuration.
use Rattle.std.proofs.Common.{◌≡◌, ◌≢◌, ℕ, ◌+◌, ◌≤◌, Bool, true, false, not, ◌&&◌, ◌||◌, cond, nat_eq, nat_le, inl, inr, List, [], ◌∷◌, ◌++◌, map, position, option_map, Option, Some, None, All, refl, ap, sym, subst, ◌∙◌, arith}
use Rattle.std.specs.Prelude.{slice_get, flat_map, unwrap_or}
use Rattle.std.specs.List.{list_all, list_any, enumerate_from}
use Rattle.std.specs.Option.{option_map_or, option_and_then}
use Rattle.std.specs.Str.{bytes_eq}
use Rattle.std.proofs.lemmas.Bool.{and_from, and_parts, eq-eqb, le-leb, cases_Bool}
use Rattle.std.proofs.lemmas.List.{map-append}
use Rattle.cpl_config.specs.declared.kind_words.KindWord.{KindWord}
use Rattle.cpl_config.specs.declared.kind_words.KindWord.TheVariants.{SerialExplicit, ParallelExplicit, SerialImplicit, ParallelImplicit, Multi}
use Rattle.cpl_config.specs.declared.kind_words.Direction.{Direction}
use Rattle.cpl_config.specs.declared.kind_words.Direction.TheVariants.{Read, Write}
use Rattle.cpl_config.specs.declared.config.Config.{Config}
use Rattle.cpl_config.specs.declared.config.PartTable.{PartTable}
use Rattle.cpl_config.specs.declared.config.SchemeTable.{SchemeTable}
use Rattle.cpl_config.specs.declared.config.DataEntry.{DataEntry}
use Rattle.cpl_config.specs.declared.config.MapEntry.{MapEntry}
use Rattle.cpl_config.specs.declared.config.ExchangeEntry.{ExchangeEntry}
use Rattle.cpl_config.specs.SoundConfig.{IsSoundConfig}
use Rattle.cpl_plan.specs.declared.parts.PlanParts.{PlanParts}
use Rattle.cpl_plan.specs.declared.parts.Exchange.{Exchange}
use Rattle.cpl_plan.specs.declared.parts.MapPlan.{MapPlan}
use Rattle.cpl_plan.specs.declared.parts.PlanEntry.{PlanEntry}
use Rattle.cpl_plan.specs.declared.parts.Kind.{Kind}
use Rattle.cpl_plan.specs.declared.parts.Kind.TheVariants.{Lag, Fresh, FreshIter, Iterated}
use Rattle.cpl_plan.specs.ExchangeKinds.{exchange_kind}
use Rattle.cpl_plan.specs.Needs.{is_second}
use Rattle.cpl_plan.specs.PlanWords as words
use Rattle.cpl_plan.specs.PlanTests as tests
use Rattle.cpl_plan.specs.ValidPlan.{HasExchanges}
use Rattle.cpl_plan.proofs.Readings.{each_from, at_passes}
use Rattle.plan_order.specs.declared.node.Node.{Node}
use Rattle.mesh_rules.specs.Named as named
use Rattle.mesh_rules.specs.MeshRules.{goes, some_goes, same_direction}
use Rattle.config_rules.specs.ConfigRules.{IsAccepted}
use Rattle.config_rules.specs.Members.{scheme_kind, kind_is_multi, is_multi, members, name_there, goes_to_second}
use Rattle.config_laws.specs.Placed.{EachAfter}
use Rattle.config_laws.specs.FitMeshes.{IsOnOwnMesh, IsFitRead}
use Rattle.config_laws.specs.FitSchemes.{HandsOver, HasTwo, IsFitScheme, IsMappedThere, IsMappedHere}
use Rattle.config_laws.proofs.Members.{any_at}
use Rattle.config_laws.proofs.Truths.{first_found, same_text, text_apart, apart_text}
use Rattle.config_laws.proofs.WholeFacts as facts
use Rattle.scheme_parts.specs.NumbersOf.{data_number, mesh_number, part_number, exchanges_before}
use Rattle.scheme_parts.specs.MapPlaces.{map_place, entry_with, write_map, read_map}
use Rattle.scheme_parts.specs.ExchangeOf.{exchange_of, exchanges_of}
use Rattle.scheme_parts.specs.SchemeOf.{scheme_of}
use Rattle.scheme_parts.proofs.Tables.{all_at, at_in, map_at, numbered_at, found_passes, found_place}
use Rattle.scheme_parts.proofs.NamedTables.{HasTable, table_at, same_test, turned_test}
use Rattle.plan_build.specs.PartOf.{part_of, entry_of, map_of, is_reading}
use Rattle.plan_build.specs.PlanOf.{plan_of, exchanges_of_all}
use Rattle.plan_build.proofs.PlanReadings.{mesh_name, part_name, each_of, mesh_at, part_at, provides_is, receives_is, carries_is, member_is, members_declared}
use Rattle.plan_build.proofs.ExchangePlaces.{IsExchangeAt, exchange_from}
use Rattle.plan_build.proofs.FitAt.{called_there, fit_at}
use Rattle.plan_build.proofs.MapFacts.{same_flags}

-- schemes of exchanges never fall

abbrev scheme_of_exchange : Exchange → ℕ
scheme_of_exchange e = e.scheme

abbrev from : Config → ℕ → List SchemeTable → List Exchange
from config start tables = flat_map (λ numbered. exchanges_of config numbered.0 numbered.1) (enumerate_from start tables)

all_up : (config : Config) (start least : ℕ) (table : SchemeTable) (entries : List ExchangeEntry) (rest : List ℕ) → least ≤ start → list_all (nat_le least) rest ≡ true
    → list_all (nat_le least) (map scheme_of_exchange (map (exchange_of config start table) entries) ++ rest) ≡ true
all_up config start least table [] rest low all = all
all_up config start least table (entry ∷ entries) rest low all =
    and_from (nat_le least start) (list_all (nat_le least) (map scheme_of_exchange (map (exchange_of config start table) entries) ++ rest)) (le-leb least start low) (all_up config start least table entries rest low all)

none_falls : (config : Config) (start : ℕ) (table : SchemeTable) (entries : List ExchangeEntry) (rest : List ℕ) → list_all (nat_le start) rest ≡ true → words.never_fall rest ≡ true
    → words.never_fall (map scheme_of_exchange (map (exchange_of config start table) entries) ++ rest) ≡ true
none_falls config start table [] rest all never = never
none_falls config start table (entry ∷ entries) rest all never =
    let later : List ℕ = map scheme_of_exchange (map (exchange_of config start table) entries) ++ rest in
    and_from (list_all (nat_le start) later) (words.never_fall later) (all_up config start start table entries rest (omega (arith)) all) (none_falls config start table entries rest all never)

low_from : (config : Config) (start least : ℕ) (tables : List SchemeTable) → least ≤ start → list_all (nat_le least) (map scheme_of_exchange (from config start tables)) ≡ true
low_from config start least [] low = refl
low_from config start least (table ∷ tables) low =
    let rest : List Exchange = from config (start + 1) tables in
    ap (list_all (nat_le least)) (map-append scheme_of_exchange (exchanges_of config start table) rest)
    ∙ all_up config start least table table.exchange (map scheme_of_exchange rest) low (low_from config (start + 1) least tables (omega (arith, low)))

never_from : (config : Config) (start : ℕ) (tables : List SchemeTable) → words.never_fall (map scheme_of_exchange (from config start tables)) ≡ true
never_from config start [] = refl
never_from config start (table ∷ tables) =
    let rest : List Exchange = from config (start + 1) tables in
    ap words.never_fall (map-append scheme_of_exchange (exchanges_of config start table) rest)
    ∙ none_falls config start table table.exchange (map scheme_of_exchange rest) (low_from config (start + 1) start tables (omega (arith))) (never_from config (start + 1) tables)

-- kinds

multi_kind : (word : KindWord) → kind_is_multi word ≡ true → (one other : Bool) → exchange_kind (scheme_kind word) one ≡ exchange_kind (scheme_kind word) other
multi_kind SerialExplicit is one other = absurd (cc)
multi_kind ParallelExplicit is one other = absurd (cc)
multi_kind SerialImplicit is one other = absurd (cc)
multi_kind ParallelImplicit is one other = absurd (cc)
multi_kind Multi is one other = refl

same_itself : (kind : Kind) → tests.same_kind kind kind ≡ true
same_itself Lag = refl
same_itself Fresh = refl
same_itself FreshIter = refl
same_itself Iterated = refl

pub two_are : (first second : Option (List ℕ)) (listed : Option (List (List ℕ))) (one other : List ℕ) → first ≡ Some one → second ≡ Some other → listed ≡ None
    → name_there first ++ name_there second ++ unwrap_or listed [] ≡ one ∷ other ∷ []
two_are first second listed one other is is' none =
    ap (λ (o : Option (List ℕ)). name_there o ++ name_there second ++ unwrap_or listed []) is
    ∙ (ap (λ (o : Option (List ℕ)). (one ∷ []) ++ name_there o ++ unwrap_or listed []) is' ∙ ap (λ (o : Option (List (List ℕ))). (one ∷ []) ++ (other ∷ []) ++ unwrap_or o []) none)

or_left : (a b : Bool) → a ≡ true → (a || b) ≡ true
or_left a b is = ap (λ c. c || b) is

or_right : (a b : Bool) → b ≡ true → (a || b) ≡ true
or_right true b is = refl
or_right false b is = is

-- mappings

-- what goes is a mapping between the two by their numbers
goes_by_number : (config : Config) (direction : Direction) (from to : List ℕ) (entry : MapEntry) → goes direction from to entry ≡ true
    → (tests.same_flag (is_reading entry.direction) (is_reading direction) && nat_eq (mesh_number config entry.from) (mesh_number config from) && nat_eq (mesh_number config entry.to) (mesh_number config to)) ≡ true
goes_by_number config direction from to entry is =
    let parts = and_parts (same_direction entry.direction direction) (bytes_eq entry.from from && bytes_eq entry.to to) is in
    let ends = and_parts (bytes_eq entry.from from) (bytes_eq entry.to to) parts.1 in
    let way : Bool = tests.same_flag (is_reading entry.direction) (is_reading direction) in
    let first : Bool = nat_eq (mesh_number config entry.from) (mesh_number config from) in
    let second : Bool = nat_eq (mesh_number config entry.to) (mesh_number config to) in
    let from_same : first ≡ true = eq-eqb (mesh_number config entry.from) (mesh_number config from) (ap (mesh_number config) (same_text entry.from from ends.0)) in
    let to_same : second ≡ true = eq-eqb (mesh_number config entry.to) (mesh_number config to) (ap (mesh_number config) (same_text entry.to to ends.1)) in
    and_from (way && first) second (and_from way first (same_flags entry.direction direction ∙ parts.0) from_same) to_same

-- the place of a mapping is right where one goes there
map_place_right : (config : Config) (direction : Direction) (from to : List ℕ) (maps : List MapEntry) → HasTable mesh_name config.mesh from → HasTable mesh_name config.mesh to
    → (from ≢ to → some_goes direction from to maps ≡ true)
    → tests.is_map_place (map (map_of config) maps) (is_reading direction) (mesh_number config from) (mesh_number config to) (map_place direction from to maps) ≡ true
map_place_right config direction from to maps has has' some =
    let by_mesh : nat_eq (mesh_number config from) (mesh_number config to) ≡ bytes_eq from to = same_test mesh_name config.mesh from to has has' in
    let Right : Option ℕ → Type 0 = λ place. tests.is_map_place (map (map_of config) maps) (is_reading direction) (mesh_number config from) (mesh_number config to) place ≡ true in
    elim (cases_Bool (bytes_eq from to)) [
      | inl same ↦
          let none : map_place direction from to maps ≡ None = ap (λ b. cond b None (position (goes direction from to) maps)) same in
          subst Right (sym none) (by_mesh ∙ same)
      | inr apart ↦
          let found = first_found (goes direction from to) maps (some (apart_text from to apart)) in
          let place = found_place (goes direction from to) maps found.0 found.1 in
          let is : map_place direction from to maps ≡ Some place.0 = ap (λ b. cond b None (position (goes direction from to) maps)) apart ∙ place.1 in
          let test : MapPlan → Bool = λ m. tests.same_flag m.reading (is_reading direction) && nat_eq m.from (mesh_number config from) && nat_eq m.to (mesh_number config to) in
          subst Right (sym is)
          (and_from (not (nat_eq (mesh_number config from) (mesh_number config to))) (words.passes (map (map_of config) maps) place.0 test) (ap not (by_mesh ∙ apart))
          (at_passes (map (map_of config) maps) place.0 test (map_of config found.0) (map_at (map_of config) maps place.0 found.0 place.2)
          (goes_by_number config direction from to found.0 (found_passes (goes direction from to) maps found.0 found.1))))
    ]

-- a scheme of two has a first and a second
record IsMultiOr (table : SchemeTable) : Type 0 where
  two : is_multi table ≡ false → HasTwo table

module _ (config : Config) (sound : IsSoundConfig config) (accepted : IsAccepted config) (nodes : List Node) where
  abbrev plan : PlanParts
  plan = plan_of config nodes

  each_exchange : (test : Exchange → Bool) → ((x : ℕ) (e : Exchange) (at : IsExchangeAt config x e) → test (exchange_of config at.scheme at.table at.entry) ≡ true) → words.each (exchanges_of_all config) (λ _ e. test e) ≡ true
  each_exchange test holds =
      each_from (λ _ e. test e) (exchanges_of_all config) (λ x e is. let at = exchange_from config x e is in subst (λ (z : Exchange). test z ≡ true) (sym at.is) (holds x e at))

  participant_there : (name : List ℕ) (table : PartTable) → named.participant_called config name ≡ Some table → slice_get config.participant (part_number config name) ≡ Some table
  participant_there name table is = (table_at part_name config.participant name table is).at

  scheme_fit : (s : ℕ) (table : SchemeTable) → slice_get config.scheme s ≡ Some table → IsMultiOr table
  scheme_fit s table at = all_at IsMultiOr config.scheme s table (each_of (IsFitScheme config) IsMultiOr config.scheme (λ before t fit. record { two = fit.two }) (facts.schemes config accepted)) at

  second_is : (x : ℕ) (e : Exchange) (at : IsExchangeAt config x e) → is_multi at.table ≡ false
      → is_second (scheme_of config (exchanges_before config at.scheme) at.table) (part_number config at.entry.to) ≡ goes_to_second at.table at.entry
  second_is x e at single =
      let fit = fit_at config accepted x e at in
      let two = (scheme_fit at.scheme at.table at.at_scheme).two single in
      let are : members at.table ≡ two.first ∷ two.second ∷ [] = two_are at.table.first at.table.second at.table.members two.first two.second two.first_told two.second_told two.no_list in
      let there : All (λ name. named.is_participant config name ≡ true) (two.first ∷ two.second ∷ []) =
      subst (λ (names : List (List ℕ)). All (λ name. named.is_participant config name ≡ true) names) are (members_declared config accepted at.scheme at.table at.at_scheme) in
      ap (λ (names : List (List ℕ)). words.passes (map (part_number config) names) 1 (λ member. nat_eq member (part_number config at.entry.to))) are
      ∙ (turned_test part_name config.participant two.second at.entry.to (part_at config two.second (there 1 two.second (omega (arith)))) (part_at config at.entry.to (called_there config at.entry.to fit.reader fit.reader_called))
      ∙ sym (ap (λ (o : Option (List ℕ)). option_map_or (bytes_eq at.entry.to) o false) two.second_told))

  kind_is : (x : ℕ) (e : Exchange) (at : IsExchangeAt config x e)
      → exchange_kind (scheme_kind at.table.kind) (goes_to_second at.table at.entry)
      ≡ exchange_kind (scheme_kind at.table.kind) (is_second (scheme_of config (exchanges_before config at.scheme) at.table) (part_number config at.entry.to))
  kind_is x e at = elim (cases_Bool (is_multi at.table)) [
    | inl many ↦ multi_kind at.table.kind many (goes_to_second at.table at.entry) (is_second (scheme_of config (exchanges_before config at.scheme) at.table) (part_number config at.entry.to))
    | inr single ↦ ap (exchange_kind (scheme_kind at.table.kind)) (sym (second_is x e at single))
  ]

  two_members : tests.join_two_members plan ≡ true
  two_members = each_exchange (λ e. not (nat_eq e.from e.to) && words.is_member plan e.scheme e.from && words.is_member plan e.scheme e.to)
      (λ x e at.
      let fit = fit_at config accepted x e at in
      let from_there = called_there config at.entry.from fit.writer fit.writer_called in
      let to_there = called_there config at.entry.to fit.reader fit.reader_called in
      let differ : nat_eq (part_number config at.entry.from) (part_number config at.entry.to) ≡ false =
      same_test part_name config.participant at.entry.from at.entry.to (part_at config at.entry.from from_there) (part_at config at.entry.to to_there) ∙ text_apart at.entry.from at.entry.to fit.apart in
      and_from (not (nat_eq (part_number config at.entry.from) (part_number config at.entry.to)) && words.is_member plan at.scheme (part_number config at.entry.from)) (words.is_member plan at.scheme (part_number config at.entry.to))
      (and_from (not (nat_eq (part_number config at.entry.from) (part_number config at.entry.to))) (words.is_member plan at.scheme (part_number config at.entry.from)) (ap not differ)
      (member_is config accepted nodes at.scheme at.table at.entry.from at.at_scheme from_there ∙ fit.from_member))
      (member_is config accepted nodes at.scheme at.table at.entry.to at.at_scheme to_there ∙ fit.to_member))

  carried : tests.are_carried plan ≡ true
  carried = each_exchange (λ e. words.mesh_carries plan e.mesh e.data_id)
      (λ x e at. let fit = fit_at config accepted x e at in carries_is config accepted nodes at.entry.mesh at.entry.data_name fit.mesh_declared fit.data_declared ∙ fit.carried)

  hands : (owner other : PartTable) (p q : ℕ) (mesh : List ℕ) → slice_get config.participant p ≡ Some owner → slice_get config.participant q ≡ Some other → named.is_mesh config mesh ≡ true → HandsOver owner other mesh
      → (words.provides plan p (mesh_number config mesh) && words.receives plan q (mesh_number config mesh)) ≡ true
  hands owner other p q mesh at at' there over =
      and_from (words.provides plan p (mesh_number config mesh)) (words.receives plan q (mesh_number config mesh))
      (provides_is config accepted nodes p owner mesh at there ∙ over.0) (receives_is config accepted nodes q other mesh at' there ∙ over.1)

  crossing : tests.do_cross plan ≡ true
  crossing = each_exchange (λ e. tests.goes_over plan e)
      (λ x e at.
      let fit = fit_at config accepted x e at in
      let f : ℕ = part_number config at.entry.from in
      let t : ℕ = part_number config at.entry.to in
      let m : ℕ = mesh_number config at.entry.mesh in
      let from_at = participant_there at.entry.from fit.writer fit.writer_called in
      let to_at = participant_there at.entry.to fit.reader fit.reader_called in
      elim fit.crossing [
        | inl over ↦ or_left (words.provides plan f m && words.receives plan t m) (words.provides plan t m && words.receives plan f m) (hands fit.writer fit.reader f t at.entry.mesh from_at to_at fit.mesh_declared over)
        | inr over ↦ or_right (words.provides plan f m && words.receives plan t m) (words.provides plan t m && words.receives plan f m) (hands fit.reader fit.writer t f at.entry.mesh to_at from_at fit.mesh_declared over)
      ])

  kinds : tests.have_kinds plan ≡ true
  kinds = each_exchange (λ e. option_map_or (tests.same_kind e.kind) (tests.kind_by_table plan e) false)
      (λ x e at.
      let kind : Kind = exchange_kind (scheme_kind at.table.kind) (goes_to_second at.table at.entry) in
      let there = numbered_at (λ (numbered : ℕ × SchemeTable). scheme_of config (exchanges_before config numbered.0) numbered.1) config.scheme at.scheme at.table at.at_scheme in
      ap (λ o. option_map_or (tests.same_kind kind) (option_map (λ scheme. exchange_kind scheme.kind (is_second scheme (part_number config at.entry.to))) o) false) there
      ∙ (ap (tests.same_kind kind) (sym (kind_is x e at)) ∙ same_itself kind))

  -- the entry that has an exchange's data, and where it is
  written : tests.are_written plan ≡ true
  written = each_exchange (tests.is_written plan)
      (λ x e at.
      let fit = fit_at config accepted x e at in
      let has : DataEntry → Bool = λ other. bytes_eq other.data_name at.entry.data_name in
      let found = first_found has fit.writer.write fit.written in
      let place = found_place has fit.writer.write found.0 found.1 in
      let p : ℕ = part_number config at.entry.from in
      let at_part = participant_there at.entry.from fit.writer fit.writer_called in
      let own : IsOnOwnMesh config fit.writer found.0 =
      all_at (IsOnOwnMesh config fit.writer) fit.writer.write place.0 found.0 (all_at (λ (t : PartTable). All (IsOnOwnMesh config t) t.write) config.participant p fit.writer (facts.written_data config accepted) at_part) place.2 in
      let same : found.0.data_name ≡ at.entry.data_name = same_text found.0.data_name at.entry.data_name (found_passes has fit.writer.write found.0 found.1) in
      let mapped : IsMappedThere at.entry fit.writer found.0 = all_at (IsMappedThere at.entry fit.writer) fit.writer.write place.0 found.0 fit.mapped_there place.2 in
      let way : write_map config at.entry ≡ map_place Write found.0.mesh at.entry.mesh fit.writer.map =
      ap (λ (o : Option PartTable). option_and_then (λ (writer : PartTable). option_and_then (λ (w : DataEntry). map_place Write w.mesh at.entry.mesh writer.map) (entry_with at.entry.data_name writer.write)) o) fit.writer_called
      ∙ ap (λ (o : Option DataEntry). option_and_then (λ (w : DataEntry). map_place Write w.mesh at.entry.mesh fit.writer.map) o) found.1 in
      let right = map_place_right config Write found.0.mesh at.entry.mesh fit.writer.map (mesh_at config found.0.mesh own.mesh_declared) (mesh_at config at.entry.mesh fit.mesh_declared) (mapped same) in
      let right' : tests.is_map_place (map (map_of config) fit.writer.map) false (mesh_number config found.0.mesh) (mesh_number config at.entry.mesh) (write_map config at.entry) ≡ true =
      ap (tests.is_map_place (map (map_of config) fit.writer.map) false (mesh_number config found.0.mesh) (mesh_number config at.entry.mesh)) way ∙ right in
      let test : PlanEntry → Bool = λ w. nat_eq w.data_id (data_number config at.entry.data_name) && tests.is_map_place (map (map_of config) fit.writer.map) false w.mesh (mesh_number config at.entry.mesh) (write_map config at.entry) in
      let holds : test (entry_of config found.0) ≡ true =
      and_from (nat_eq (data_number config found.0.data_name) (data_number config at.entry.data_name)) (tests.is_map_place (map (map_of config) fit.writer.map) false (mesh_number config found.0.mesh) (mesh_number config at.entry.mesh) (write_map config at.entry))
      (eq-eqb (data_number config found.0.data_name) (data_number config at.entry.data_name) (ap (data_number config) same)) right' in
      ap (λ o. option_map_or (λ part. list_any (λ w. nat_eq w.data_id (data_number config at.entry.data_name) && tests.is_map_place part.maps false w.mesh (mesh_number config at.entry.mesh) (write_map config at.entry)) part.writes) o false)
      (map_at (part_of config) config.participant p fit.writer at_part)
      ∙ any_at test (map (entry_of config) fit.writer.write) (entry_of config found.0) (at_in (map (entry_of config) fit.writer.write) place.0 (entry_of config found.0) (map_at (entry_of config) fit.writer.write place.0 found.0 place.2)) holds)

  read : tests.are_read plan ≡ true
  read = each_exchange (tests.is_read plan)
      (λ x e at.
      let fit = fit_at config accepted x e at in
      let has : DataEntry → Bool = λ other. bytes_eq other.data_name at.entry.data_name in
      let found = first_found has fit.reader.read fit.read in
      let place = found_place has fit.reader.read found.0 found.1 in
      let p : ℕ = part_number config at.entry.to in
      let at_part = participant_there at.entry.to fit.reader fit.reader_called in
      let own : IsOnOwnMesh config fit.reader found.0 =
      all_at (IsOnOwnMesh config fit.reader) fit.reader.read place.0 found.0
      (each_of (IsFitRead config fit.reader) (IsOnOwnMesh config fit.reader) fit.reader.read (λ before w is. is.placed)
      (all_at (λ (t : PartTable). EachAfter (IsFitRead config t) t.read) config.participant p fit.reader (facts.read_data config accepted) at_part)) place.2 in
      let same : found.0.data_name ≡ at.entry.data_name = same_text found.0.data_name at.entry.data_name (found_passes has fit.reader.read found.0 found.1) in
      let mapped : IsMappedHere at.entry fit.reader found.0 = all_at (IsMappedHere at.entry fit.reader) fit.reader.read place.0 found.0 fit.mapped_here place.2 in
      let way : read_map config at.entry ≡ map_place Read at.entry.mesh found.0.mesh fit.reader.map =
      ap (λ (o : Option PartTable). option_and_then (λ (reader : PartTable). option_and_then (λ (w : DataEntry). map_place Read at.entry.mesh w.mesh reader.map) (entry_with at.entry.data_name reader.read)) o) fit.reader_called
      ∙ ap (λ (o : Option DataEntry). option_and_then (λ (w : DataEntry). map_place Read at.entry.mesh w.mesh fit.reader.map) o) found.1 in
      let right = map_place_right config Read at.entry.mesh found.0.mesh fit.reader.map (mesh_at config at.entry.mesh fit.mesh_declared) (mesh_at config found.0.mesh own.mesh_declared) (λ differ. mapped same (λ is. differ (sym is))) in
      let right' : tests.is_map_place (map (map_of config) fit.reader.map) true (mesh_number config at.entry.mesh) (mesh_number config found.0.mesh) (read_map config at.entry) ≡ true =
      ap (tests.is_map_place (map (map_of config) fit.reader.map) true (mesh_number config at.entry.mesh) (mesh_number config found.0.mesh)) way ∙ right in
      let test : PlanEntry → Bool = λ w. nat_eq w.data_id (data_number config at.entry.data_name) && tests.is_map_place (map (map_of config) fit.reader.map) true (mesh_number config at.entry.mesh) w.mesh (read_map config at.entry) in
      let holds : test (entry_of config found.0) ≡ true =
      and_from (nat_eq (data_number config found.0.data_name) (data_number config at.entry.data_name)) (tests.is_map_place (map (map_of config) fit.reader.map) true (mesh_number config at.entry.mesh) (mesh_number config found.0.mesh) (read_map config at.entry))
      (eq-eqb (data_number config found.0.data_name) (data_number config at.entry.data_name) (ap (data_number config) same)) right' in
      ap (λ o. option_map_or (λ part. list_any (λ w. nat_eq w.data_id (data_number config at.entry.data_name) && tests.is_map_place part.maps true (mesh_number config at.entry.mesh) w.mesh (read_map config at.entry)) part.reads) o false)
      (map_at (part_of config) config.participant p fit.reader at_part)
      ∙ any_at test (map (entry_of config) fit.reader.read) (entry_of config found.0) (at_in (map (entry_of config) fit.reader.read) place.0 (entry_of config found.0) (map_at (entry_of config) fit.reader.read place.0 found.0 place.2)) holds)

  pub exchange_facts : HasExchanges plan
  exchange_facts = record {
    by_scheme = never_from config 0 config.scheme;
    two_members = two_members;
    carried = carried;
    crossing = crossing;
    kinds = kinds;
    written = written;
    read = read;
  }
