-- Which files may be asked, one after the other.
use Rattle.std.proofs.Common.{◌≡◌, ℕ, Bool, List, [], ◌∷◌, Option, Some, None, option_map, Result, Ok, Err, refl, sym, ap, ◌∙◌, subst}
use Rattle.io_edge.specs.FileMap.{FileMap}
use Rattle.cpl_rules.specs.declared.rules.Refusal.{Refusal}
use Rattle.cpl_config.specs.declared.config.Config.{Config}
use Rattle.accepted_case.specs.Acceptance.{config_acceptance, case_names}
use Rattle.accepted_case.specs.Loaded.{cut}
use Rattle.accepted_case.specs.MayLoad.{MayLoadInTurn, MayLoadCases, MayAskAll, MayLoadNames, MayLoad}
use Rattle.accepted_case.proofs.Cuts.{config_acceptance-cut}

-- where files are told, the name is there, and these are its bytes
abbrev pub IsLoaded : Option FileMap → (name bytes : List ℕ) → Type 0
IsLoaded o name bytes = (told : FileMap) → o ≡ Some told → (file : List ℕ) × (told name ≡ Some file) × (bytes ≡ cut file)

-- the case files of a configuration that is accepted
pub its_cases : (o : Option FileMap) (may_ask : List ℕ → Bool) (name bytes : List ℕ) (config : Config) → IsLoaded o name bytes → config_acceptance bytes ≡ Ok config → MayLoad o may_ask name → MayLoadNames o may_ask (case_names config)
its_cases None may_ask name bytes config loaded is h = h
its_cases (Some told) may_ask name bytes config loaded is h =
    let (file, found, same) = loaded told refl in
    let accepted : option_map config_acceptance (told name) ≡ Some (Ok config) = ap (option_map config_acceptance) found ∙ ap Some (sym (config_acceptance-cut file bytes same) ∙ is) in
    subst (λ (read : Option (Result Config Refusal)). MayLoadCases told may_ask read) accepted h.1

all_in_turn : (files : FileMap) (may_ask : List ℕ → Bool) (names : List (List ℕ)) → MayAskAll may_ask → MayLoadInTurn files may_ask names
all_in_turn files may_ask [] all = tt
all_in_turn files may_ask (name ∷ names) all = (all name, λ there. all_in_turn files may_ask names all)

-- where every name may be asked, those of the case files may be
pub all_cases : (files : FileMap) (may_ask : List ℕ → Bool) (read : Option (Result Config Refusal)) → MayAskAll may_ask → MayLoadCases files may_ask read
all_cases files may_ask None all = tt
all_cases files may_ask (Some (Err refusal)) all = tt
all_cases files may_ask (Some (Ok config)) all = all_in_turn files may_ask (case_names config) all
