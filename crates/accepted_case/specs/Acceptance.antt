-- What the files of a coupling are: an accepted case, or refused for the first broken rule at its first place. The project's own.
use Rattle.std.specs.Prelude.{ℕ, ◌+◌, ◌-◌, List, [], ◌∷◌, map, slice_get, Option, Some, option_map, option_and_then, unwrap_or, Result, Ok, Err}
use Rattle.std.specs.Result.{result_map_both}
use Rattle.io_edge.specs.FileMap.{FileMap}
use Rattle.cpl_tables.specs.declared.places.Place.{Place}
use Rattle.cpl_tables.specs.declared.places.Place.TheVariants.{Case}
use Rattle.cpl_rules.specs.declared.rules.Refusal.{Refusal}
use Rattle.cpl_config.specs.Acceptance.{acceptance, unless_refused}
use Rattle.cpl_config.specs.declared.config.Config.{Config}
use Rattle.case_files.specs.CaseAcceptance.{case_acceptance}
use Rattle.case_files.specs.declared.case_file.CaseFile.{CaseFile}
use Rattle.config_rules.specs.ConfigRules.{config_refusal}
use Rattle.case_rules.specs.CaseRules.{case_refusal}
use Rattle.accepted_case.specs.declared.parts.AcceptedCase.{AcceptedCase}
use Rattle.accepted_case.specs.declared.parts.RefusedCase.{RefusedCase}

-- a configuration that was read is checked as a whole
abbrev pub as_a_whole : Result Config Refusal → Result Config Refusal
as_a_whole (Ok config) = unless_refused (config_refusal config) config
as_a_whole (Err refusal) = Err refusal

-- what the bytes of a configuration's file are, by the rules 1 to 30, 33 and 35
abbrev pub config_acceptance : List ℕ → Result Config Refusal
config_acceptance bytes = as_a_whole (acceptance bytes)

-- a case file, and then those after it
abbrev pub and_then_those : Result CaseFile Refusal → Result (List CaseFile) Refusal → Result (List CaseFile) Refusal
and_then_those (Err refusal) _ = Err refusal
and_then_those (Ok case_file) (Err refusal) = Err refusal
and_then_those (Ok case_file) (Ok others) = Ok (case_file ∷ others)

-- what the bytes of case files are, by the rules 1 to 8, one after the other; the first is that of the participant with this number, from 0
abbrev pub each_read : ℕ → List (List ℕ) → Result (List CaseFile) Refusal
each_read part [] = Ok []
each_read part (bytes ∷ others) = and_then_those (case_acceptance part bytes) (each_read (part + 1) others)

-- case files that were all read are checked with their configuration
abbrev pub beside : Config → Result (List CaseFile) Refusal → Result (List CaseFile) Refusal
beside config (Ok cases) = unless_refused (case_refusal config cases) cases
beside config (Err refusal) = Err refusal

-- what the bytes of the case files of an accepted configuration are, by the rules 1 to 8 and then 31 and 32
abbrev pub cases_acceptance : Config → List (List ℕ) → Result (List CaseFile) Refusal
cases_acceptance config files = beside config (each_read 0 files)

-- the name of the participant whose case file a place is
abbrev pub name_at : Config → Place → List ℕ
name_at config (Case number) = unwrap_or (option_map (λ part. part.name) (slice_get config.participant (number - 1))) []
name_at config _ = []

abbrev pub refused_in : Config → Refusal → RefusedCase
refused_in config refusal = record { refusal = refusal; name = name_at config refusal.place }

abbrev pub refused_config : Refusal → RefusedCase
refused_config refusal = record { refusal = refusal; name = [] }

-- what an accepted configuration and the bytes of its case files are
abbrev pub with_cases : Config → List (List ℕ) → Result AcceptedCase RefusedCase
with_cases config files = result_map_both (λ cases. record { config = config; cases = cases }) (refused_in config) (cases_acceptance config files)

abbrev pub case_names : Config → List (List ℕ)
case_names config = map (λ part. part.case) config.participant

-- the bytes of the files of these names, where all of them are there
abbrev pub files_of : FileMap → List (List ℕ) → Option (List (List ℕ))
files_of files [] = Some []
files_of files (name ∷ names) = option_and_then (λ bytes. option_map (λ others. bytes ∷ others) (files_of files names)) (files name)

-- the case files are there for an accepted configuration alone, and all of them before any is read
abbrev pub after_config : FileMap → Result Config Refusal → Option (Result AcceptedCase RefusedCase)
after_config files (Err refusal) = Some (Err (refused_config refusal))
after_config files (Ok config) = option_map (with_cases config) (files_of files (case_names config))

-- what the files are, from the configuration of this name on; nothing where one that is asked for is not there
abbrev pub files_acceptance : FileMap → (name : List ℕ) → Option (Result AcceptedCase RefusedCase)
files_acceptance files name = option_and_then (λ bytes. after_config files (config_acceptance bytes)) (files name)
