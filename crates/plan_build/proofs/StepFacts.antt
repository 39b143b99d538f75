-- The first participant's step in the plan of an accepted configuration.
use Rattle.std.proofs.Common.{◌≡◌, ℕ, ◌+◌, true, false, ◌&&◌, nat_eq, List, [], ◌∷◌, map, Some, refl, ap, ◌∙◌}
use Rattle.std.specs.Prelude.{slice_get}
use Rattle.std.specs.List.{list_any, enumerate_from}
use Rattle.std.proofs.lemmas.Bool.{and_from, eq-eqb}
use Rattle.std.proofs.lemmas.Option.{slice_get-get_or}
use Rattle.cpl_config.specs.declared.kind_words.KindWord.{KindWord}
use Rattle.cpl_config.specs.declared.kind_words.WindowWord.{WindowWord}
use Rattle.cpl_config.specs.declared.kind_words.WindowWord.TheVariants as W
use Rattle.cpl_config.specs.declared.config.Config.{Config}
use Rattle.cpl_config.specs.declared.config.SchemeTable.{SchemeTable}
use Rattle.cpl_config.specs.SoundConfig.{IsSoundConfig}
use Rattle.cpl_plan.specs.declared.parts.PlanParts.{PlanParts}
use Rattle.cpl_plan.specs.declared.parts.Scheme.{Scheme}
use Rattle.cpl_plan.specs.declared.parts.Exchange.{Exchange}
use Rattle.cpl_plan.specs.Needs.{is_second}
use Rattle.cpl_plan.specs.PlanWords as words
use Rattle.cpl_plan.specs.PlanTests as tests
use Rattle.cpl_plan.proofs.Readings.{at_passes}
use Rattle.plan_order.specs.declared.node.Node.{Node}
use Rattle.config_rules.specs.ConfigRules.{IsAccepted}
use Rattle.config_rules.specs.Members.{members, scheme_kind, kind_is_multi}
use Rattle.config_laws.specs.FitSchemes.{HasWindowMaker, HasTwo}
use Rattle.config_laws.proofs.Members.{any_at}
use Rattle.config_laws.proofs.WindowFacts.{windows}
use Rattle.scheme_parts.specs.NumbersOf.{part_number, exchanges_before}
use Rattle.scheme_parts.specs.ExchangeOf.{exchange_of}
use Rattle.scheme_parts.specs.SchemeOf.{scheme_of}
use Rattle.scheme_parts.proofs.Tables.{at_in, numbered_at}
use Rattle.plan_build.specs.WindowsOf.{window_method}
use Rattle.plan_build.specs.PlanOf.{plan_of, schemes_of, exchanges_of_all}
use Rattle.plan_build.proofs.ExchangePlaces.{exchange_there}
use Rattle.plan_build.proofs.ExchangeFacts.{two_are}
use Rattle.plan_build.proofs.SchemeFacts.{known}

module _ (config : Config) (sound : IsSoundConfig config) (accepted : IsAccepted config) (nodes : List Node) where
  abbrev plan : PlanParts
  plan = plan_of config nodes

  abbrev make : ℕ × SchemeTable → Scheme
  make = λ numbered. scheme_of config (exchanges_before config numbered.0) numbered.1

  has_step : HasWindowMaker config → tests.has_first_step (window_method W.FirstParticipant) plan ≡ true
  has_step maker =
      let table : SchemeTable = maker.table in
      let at : slice_get config.scheme 0 ≡ Some table = ap (λ (tables : List SchemeTable). slice_get tables 0) maker.alone in
      let single : kind_is_multi table.kind ≡ false = ap kind_is_multi maker.serial_explicit in
      let two : HasTwo table = (known config sound accepted nodes 0 table at).two single in
      let are : members table ≡ maker.forward.from ∷ maker.forward.to ∷ [] = two_are table.first table.second table.members maker.forward.from maker.forward.to maker.from_first maker.to_second two.no_list in
      let serial : tests.is_one_serial (schemes_of config) ≡ true =
      ap (λ (tables : List SchemeTable). tests.is_one_serial (map make (enumerate_from 0 tables))) maker.alone ∙ ap (λ (kind : KindWord). tests.is_serial_explicit (scheme_kind kind)) maker.serial_explicit in
      let k : ℕ = maker.there.0 in
      let at_entry : slice_get table.exchange k ≡ Some maker.forward = slice_get-get_or table.exchange k maker.forward maker.there.1 ∙ ap Some maker.there.2 in
      let e : Exchange = exchange_of config 0 table maker.forward in
      let from : ℕ = part_number config maker.forward.from in
      let to : ℕ = part_number config maker.forward.to in
      let ends : (words.passes (map (part_number config) (members table)) 0 (λ first. nat_eq first from) && words.passes (map (part_number config) (members table)) 1 (λ member. nat_eq member to)) ≡ true =
      ap (λ (names : List (List ℕ)). words.passes (map (part_number config) names) 0 (λ first. nat_eq first from) && words.passes (map (part_number config) names) 1 (λ member. nat_eq member to)) are
      ∙ and_from (nat_eq from from) (nat_eq to to) (eq-eqb from from refl) (eq-eqb to to refl) in
      let forward : tests.goes_to_second plan e ≡ true =
      at_passes (schemes_of config) 0 (λ scheme. words.passes scheme.members 0 (λ first. nat_eq first from) && is_second scheme to) (make (0, table)) (numbered_at make config.scheme 0 table at) ends in
      and_from (tests.is_one_serial (schemes_of config)) (list_any (tests.goes_to_second plan) (exchanges_of_all config)) serial
      (any_at (tests.goes_to_second plan) (exchanges_of_all config) e (at_in (exchanges_of_all config) (exchanges_before config 0 + k) e (exchange_there config 0 k table maker.forward at at_entry)) forward)

  by_word : (word : WindowWord) → config.window_method ≡ word → tests.has_first_step (window_method word) plan ≡ true
  by_word W.Fixed is = refl
  by_word W.FirstParticipant is = has_step (windows config sound accepted is)

  pub first_step : tests.fits_method plan ≡ true
  first_step = by_word config.window_method refl
