-- A file that is cut one byte past its limit is what the whole file is.
use Rattle.std.specs.Prelude.{option_and_then}
use Rattle.std.proofs.Common.{◌≡◌, ℕ, ◌+◌, ◌<◌, ◌^◌, List, [], ◌∷◌, ◌++◌, length, map, Option, Some, None, option_map, Result, Ok, Err, refl, sym, ap, ◌∙◌, arith, length-take, inl, inr, append_assoc}
use Rattle.std.specs.Result.{result_map_both}
use Rattle.std.proofs.lemmas.Bool.{cases_lt, lt-leb}
use Rattle.std.proofs.lemmas.List.{take_all}
use Rattle.io_edge.specs.FileMap.{FileMap}
use Rattle.cpl_config.specs.Acceptance.{acceptance, at_config}
use Rattle.cpl_config.specs.declared.config.Config.{Config}
use Rattle.cpl_config.specs.declared.config.PartTable.{PartTable}
use Rattle.cpl_rules.specs.declared.rules.Refusal.{Refusal}
use Rattle.case_files.specs.declared.case_file.CaseFile.{CaseFile}
use Rattle.case_files.specs.CaseAcceptance.{case_acceptance, at_case}
use Rattle.accepted_case.specs.Acceptance.{as_a_whole, config_acceptance, and_then_those, each_read, beside, cases_acceptance, with_cases, case_names, files_of, after_config, files_acceptance, refused_in}
use Rattle.accepted_case.specs.Loaded.{cut, cut_files_of}
use Rattle.accepted_case.specs.declared.parts.AcceptedCase.{AcceptedCase}
use Rattle.accepted_case.specs.declared.parts.RefusedCase.{RefusedCase}

long_config : (bytes : List ℕ) → 2 ^ 20 < length bytes → acceptance bytes ≡ Err (at_config 1)
long_config bytes long = rw (lt-leb (length bytes) (2 ^ 20) long) refl

long_case : (part : ℕ) (bytes : List ℕ) → 2 ^ 20 < length bytes → case_acceptance part bytes ≡ Err (at_case part 1)
long_case part bytes long = rw (lt-leb (length bytes) (2 ^ 20) long) refl

config-cut : (file : List ℕ) → acceptance (cut file) ≡ acceptance file
config-cut file =
    elim (cases_lt (2 ^ 20) (length file)) [
      | inl long ↦ long_config (cut file) (simp length-take (omega arith)) ∙ sym (long_config file long)
      | inr short ↦ ap acceptance (take_all 1048577 file (omega arith))
    ]

case-cut : (part : ℕ) (file : List ℕ) → case_acceptance part (cut file) ≡ case_acceptance part file
case-cut part file =
    elim (cases_lt (2 ^ 20) (length file)) [
      | inl long ↦ long_case part (cut file) (simp length-take (omega arith)) ∙ sym (long_case part file long)
      | inr short ↦ ap (case_acceptance part) (take_all 1048577 file (omega arith))
    ]

pub config_acceptance-cut : (file bytes : List ℕ) → bytes ≡ cut file → config_acceptance bytes ≡ config_acceptance file
config_acceptance-cut file bytes is = ap config_acceptance is ∙ ap as_a_whole (config-cut file)

each_read-cut : (part : ℕ) (files : List (List ℕ)) → each_read part (map cut files) ≡ each_read part files
each_read-cut part [] = refl
each_read-cut part (file ∷ files) =
    ap (λ found. and_then_those found (each_read (part + 1) (map cut files))) (case-cut part file)
    ∙ ap (and_then_those (case_acceptance part file)) (each_read-cut (part + 1) files)

with_cases-cut : (config : Config) (files : List (List ℕ)) → with_cases config (map cut files) ≡ with_cases config files
with_cases-cut config files = ap (λ found. result_map_both (λ cases. record { config = config; cases = cases }) (refused_in config) (beside config found)) (each_read-cut 0 files)

pub cut_back : (files : Option (List (List ℕ))) (config : Config) (loaded : List (List ℕ)) → option_map (map cut) files ≡ Some loaded → option_map (with_cases config) files ≡ Some (with_cases config loaded)
cut_back None config loaded h = cc
cut_back (Some files) config loaded h =
    let same : map cut files ≡ loaded = cc in
    ap Some (sym (with_cases-cut config files) ∙ ap (with_cases config) same)

cut_more : (done : List (List ℕ)) (file : List ℕ) (rest : Option (List (List ℕ)))
    → option_map (λ others. done ++ others) (option_map (map cut) (option_map (λ others. file ∷ others) rest)) ≡ option_map (λ others. (done ++ cut file ∷ []) ++ others) (option_map (map cut) rest)
cut_more done file None = refl
cut_more done file (Some others) = ap Some (sym (append_assoc done (cut file ∷ []) (map cut others)))

-- one file more is loaded
pub cut_files-next : (told : FileMap) (done : List (List ℕ)) (name : List ℕ) (names : List (List ℕ)) (file : List ℕ) → told name ≡ Some file
    → option_map (λ others. done ++ others) (cut_files_of told (name ∷ names)) ≡ option_map (λ others. (done ++ cut file ∷ []) ++ others) (cut_files_of told names)
cut_files-next told done name names file is = rw is (cut_more done file (files_of told names))

as_loaded : (told : FileMap) (config : Config) (parts : List PartTable) (loaded files : List (List ℕ)) → parts ≡ config.participant → cut_files_of told (map (λ part. part.case) parts) ≡ Some loaded → files ≡ loaded
    → after_config told (Ok config) ≡ Some (with_cases config files)
as_loaded told config parts loaded files is given same =
    let named : cut_files_of told (case_names config) ≡ Some loaded = ap (λ ps. cut_files_of told (map (λ part. part.case) ps)) (sym is) ∙ given in
    cut_back (files_of told (case_names config)) config loaded named ∙ ap (λ fs. Some (with_cases config fs)) (sym same)

abbrev told_as : Config → Result (List CaseFile) Refusal → Option (Result AcceptedCase RefusedCase)
told_as config found = Some (result_map_both (λ cases. record { config = config; cases = cases }) (refused_in config) found)

-- what the bytes that were loaded are, the files are
pub accepted_as : (told : FileMap) (config : Config) (parts : List PartTable) (loaded files : List (List ℕ)) (cases : List CaseFile) → parts ≡ config.participant → cut_files_of told (map (λ part. part.case) parts) ≡ Some loaded → files ≡ loaded
    → cases_acceptance config files ≡ Ok cases → after_config told (Ok config) ≡ Some (Ok (record { config = config; cases = cases }))
accepted_as told config parts loaded files cases is given same answer = as_loaded told config parts loaded files is given same ∙ ap (told_as config) answer

pub refused_as : (told : FileMap) (config : Config) (parts : List PartTable) (loaded files : List (List ℕ)) (refusal : Refusal) → parts ≡ config.participant → cut_files_of told (map (λ part. part.case) parts) ≡ Some loaded → files ≡ loaded
    → cases_acceptance config files ≡ Err refusal → after_config told (Ok config) ≡ Some (Err (refused_in config refusal))
refused_as told config parts loaded files refusal is given same answer = as_loaded told config parts loaded files is given same ∙ ap (told_as config) answer

pub read_as : (told : FileMap) (name file bytes : List ℕ) (read : Result Config Refusal) → told name ≡ Some file → bytes ≡ cut file → config_acceptance bytes ≡ read → files_acceptance told name ≡ after_config told read
read_as told name file bytes read found same is =
    ap (option_and_then (λ bytes. after_config told (config_acceptance bytes))) found ∙ ap (after_config told) (sym (config_acceptance-cut file bytes same) ∙ is)
