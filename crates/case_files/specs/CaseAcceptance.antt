-- What a case file is: a case, or refused for its first broken rule. The project's own.
use Rattle.std.specs.Prelude.{ℕ, ◌+◌, ◌^◌, List, length, nat_le, Option, Some, None, Result, Err, if◌then◌else◌}
use Rattle.toml.specs.Data.{Members}
use Rattle.cpl_tables.specs.declared.places.Place.TheVariants.{Case}
use Rattle.cpl_rules.specs.declared.rules.Refusal.{Refusal}
use Rattle.cpl_rules.specs.SeenTables.{case_top}
use Rattle.cpl_rules.specs.Refused.{refusal_of}
use Rattle.cpl_config.specs.Acceptance.{unless_refused, tree_of}
use Rattle.case_files.specs.CaseOf.{case_of}
use Rattle.case_files.specs.declared.case_file.CaseFile.{CaseFile}

-- refused for a rule, at the case of the participant with this number, from 0
abbrev pub at_case : (part rule : ℕ) → Refusal
at_case part rule = record { rule = rule; place = Case (part + 1) }

-- what a tree is, where there is one
abbrev pub case_acceptance_of_tree : ℕ → Option Members → Result CaseFile Refusal
case_acceptance_of_tree part None = Err (at_case part 2)
case_acceptance_of_tree part (Some members) = unless_refused (refusal_of (case_top (part + 1) members)) (case_of members)

-- what a file is, which has at most one mebibyte
abbrev pub case_acceptance : (part : ℕ) → List ℕ → Result CaseFile Refusal
case_acceptance part bytes = if nat_le (length bytes) (2 ^ 20) then case_acceptance_of_tree part (tree_of bytes) else Err (at_case part 1)
