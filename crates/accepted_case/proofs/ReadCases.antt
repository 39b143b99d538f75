-- Case files that were read break none of the rules 1 to 8.
use Rattle.std.proofs.Common.{◌≡◌, ℕ, ◌+◌, List, [], ◌∷◌, Result, Ok, Err, refl, subst}
use Rattle.cpl_rules.specs.declared.rules.Refusal.{Refusal}
use Rattle.case_files.specs.declared.case_file.CaseFile.{CaseFile}
use Rattle.case_files.specs.CaseAcceptance.{case_acceptance}
use Rattle.case_files.proofs.CaseFaults.{no_case_fault}
use Rattle.accepted_case.specs.Acceptance.{and_then_those, each_read}
use Rattle.accepted_case.specs.IsAcceptedCase.{AreReadCases}

read_after : (part : ℕ) (bytes : List ℕ) (found : Result CaseFile Refusal) (others : Result (List CaseFile) Refusal) → case_acceptance part bytes ≡ found
    → ((rest : List CaseFile) → others ≡ Ok rest → AreReadCases (part + 1) rest) → (cases : List CaseFile) → and_then_those found others ≡ Ok cases → AreReadCases part cases
read_after part bytes (Err refusal) others is rest cases h = absurd (cc)
read_after part bytes (Ok case_file) (Err refusal) is rest cases h = absurd (cc)
read_after part bytes (Ok case_file) (Ok read) is rest cases h =
    let same : case_file ∷ read ≡ cases = cc in
    subst (λ (all : List CaseFile). AreReadCases part all) same (record { bytes = bytes; read = is; unbroken = no_case_fault part bytes case_file is }, rest read refl)

pub are_read : (part : ℕ) (files : List (List ℕ)) (cases : List CaseFile) → each_read part files ≡ Ok cases → AreReadCases part cases
are_read part [] cases h =
    let none : [] ≡ cases = cc in
    subst (λ (all : List CaseFile). AreReadCases part all) none tt
are_read part (bytes ∷ files) cases h = read_after part bytes (case_acceptance part bytes) (each_read (part + 1) files) refl (are_read (part + 1) files) cases h
