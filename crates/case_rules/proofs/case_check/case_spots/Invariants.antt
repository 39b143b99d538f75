use Rattle.std.proofs.Common.{◌≡◌, ◌++◌, map, drop, All}
use Rattle.case_rules.specs.CaseRules.{entry_of_case, IsSoundEntry, case_entries, case_entries_from}
use Rattle.case_rules.proofs.case_check.case_spots.Given as goal

-- the cases that are there and those of the rest are all, and those that are there are sound
abbrev pub invariant-parts : goal.invariant-parts
invariant-parts l = record {
  rest : map entry_of_case l.spots.items ++ case_entries_from l.index (drop l.index l.parts) (drop l.index l.cases) ≡ case_entries l.fn.config l.cases;
  sound : All (λ spot. IsSoundEntry (entry_of_case spot)) l.spots.items;
}
