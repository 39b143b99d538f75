use Rattle.std.proofs.Common.{◌∷◌, ◌++◌, []}
use Rattle.std.proofs.lemmas.List.Elements.{All-push, All-same}
use Rattle.cpl_tables.specs.declared.places.Place.TheVariants.{Case}
use Rattle.case_rules.specs.declared.case_check.CaseSpot.{CaseSpot}
use Rattle.case_rules.specs.CaseRules.{entry_of_case, IsSoundEntry}
use Rattle.case_rules.proofs.case_check.push_case.Goals as goal

pub returns-clause-sound : goal.returns-clause-sound
returns-clause-sound c =
    let IsSound : CaseSpot → Type 0 = λ spot. IsSoundEntry (entry_of_case spot) in
    let spot : CaseSpot = record { place = Case c.number_at.result; part = c.args.part; case_file = c.args.case_file } in
    All-same IsSound c.push.new.self.items (c.args.to.now.items ++ spot ∷ []) c.in_ok-push.ensures.items
    (All-push IsSound c.args.to.now.items spot c.requires.sound (record { part = c.requires.part; case_file = c.requires.case_file }))
