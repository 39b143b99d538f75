-- Cases one after the other.
use Rattle.std.proofs.Common.{◌≡◌, ℕ, ◌+◌, List, [], ◌∷◌, ◌++◌, ap, sym, ◌∙◌, append_assoc}
use Rattle.cpl_config.specs.declared.config.PartTable.{PartTable}
use Rattle.case_files.specs.declared.case_file.CaseFile.{CaseFile}
use Rattle.case_rules.specs.CaseRules.{CaseEntry, case_at, case_entries_from}

-- one case more
pub cases_next : (entries : List CaseEntry) (i : ℕ) (parts more_parts : List PartTable) (cases more_cases : List CaseFile) (part : PartTable) (case_file : CaseFile)
    → parts ≡ part ∷ more_parts → cases ≡ case_file ∷ more_cases
    → (entries ++ case_at i part case_file ∷ []) ++ case_entries_from (i + 1) more_parts more_cases ≡ entries ++ case_entries_from i parts cases
cases_next entries i parts more_parts cases more_cases part case_file p c =
    append_assoc entries (case_at i part case_file ∷ []) (case_entries_from (i + 1) more_parts more_cases)
    ∙ ap (λ es. entries ++ es) (ap (λ cs. case_entries_from i (part ∷ more_parts) cs) (sym c) ∙ ap (λ ps. case_entries_from i ps cases) (sym p))
