-- What a refusal of cases tells, and what there is where there is none.
use Rattle.std.proofs.Common.{◌≡◌, List, Option, Some, None, option_map, All, refl, lit<}
use Rattle.cpl_rules.specs.declared.rules.Refusal.{Refusal}
use Rattle.cpl_rules.specs.FirstBroken.{first_broken, IsUnbroken}
use Rattle.cpl_rules.proofs.FirstPlaces.{first_broken-none, first_broken-some}
use Rattle.cpl_config.specs.declared.config.Config.{Config}
use Rattle.case_files.specs.declared.case_file.CaseFile.{CaseFile}
use Rattle.case_rules.specs.declared.rules.CaseRule.{CaseRule}
use Rattle.case_rules.specs.declared.rules.CaseRule.TheVariants.{Unsuited, TooManySteps}
use Rattle.case_rules.specs.CaseRules.{CaseEntry, case_entries, breaks_case, case_rules, refused_for_case, case_refusal, IsCaseRefused, AreAccepted}

all_kept : (config : Config) (cases : List CaseFile) → All (λ rule. IsUnbroken (breaks_case config rule) (case_entries config cases)) case_rules → AreAccepted config cases
all_kept config cases h Unsuited = h 0 Unsuited (lit< tt)
all_kept config cases h TooManySteps = h 1 Unsuited (lit< tt)

accepted_by : (config : Config) (cases : List CaseFile) (found : Option (CaseRule × CaseEntry)) → first_broken (breaks_case config) case_rules (case_entries config cases) ≡ found → option_map refused_for_case found ≡ None → AreAccepted config cases
accepted_by config cases None h none = all_kept config cases (first_broken-none (breaks_case config) case_rules (case_entries config cases) h)
accepted_by config cases (Some found) h none = cc

-- where there is no refusal no entry breaks a rule
pub accepted : (config : Config) (cases : List CaseFile) → case_refusal config cases ≡ None → AreAccepted config cases
accepted config cases none = accepted_by config cases (first_broken (breaks_case config) case_rules (case_entries config cases)) refl none

refused_by : (config : Config) (cases : List CaseFile) (refusal : Refusal) (found : Option (CaseRule × CaseEntry)) → first_broken (breaks_case config) case_rules (case_entries config cases) ≡ found → option_map refused_for_case found ≡ Some refusal → IsCaseRefused config cases refusal
refused_by config cases refusal None h some = cc
refused_by config cases refusal (Some found) h some =
    let same : refusal ≡ refused_for_case found = cc in
    record { rule = found.0; at = found.1; told = same; first = first_broken-some (breaks_case config) case_rules (case_entries config cases) found.0 found.1 h }

-- a refusal tells the first broken rule, at its first place
pub refused : (config : Config) (cases : List CaseFile) (refusal : Refusal) → case_refusal config cases ≡ Some refusal → IsCaseRefused config cases refusal
refused config cases refusal some = refused_by config cases refusal (first_broken (breaks_case config) case_rules (case_entries config cases)) refl some
