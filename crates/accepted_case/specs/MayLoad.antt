-- Which files may be asked for when a coupling is loaded. The project's own.
use Rattle.std.specs.Prelude.{ℕ, Bool, List, [], ◌∷◌, IsTrue, IsSome, Option, Some, None, option_map, Result, Ok}
use Rattle.io_edge.specs.FileMap.{FileMap}
use Rattle.cpl_rules.specs.declared.rules.Refusal.{Refusal}
use Rattle.cpl_config.specs.declared.config.Config.{Config}
use Rattle.accepted_case.specs.Acceptance.{config_acceptance, case_names}

-- each of these names may be asked once those before it are there
abbrev pub MayLoadInTurn : FileMap → (List ℕ → Bool) → List (List ℕ) → Type 0
MayLoadInTurn files may_ask [] = Unit {0}
MayLoadInTurn files may_ask (name ∷ names) = IsTrue (may_ask name) × (IsSome (files name) → MayLoadInTurn files may_ask names)

-- the case files of an accepted configuration may be asked
abbrev pub MayLoadCases : FileMap → (List ℕ → Bool) → Option (Result Config Refusal) → Type 0
MayLoadCases files may_ask (Some (Ok config)) = MayLoadInTurn files may_ask (case_names config)
MayLoadCases files may_ask _ = Unit {0}

-- where no content is known, every name may be asked
abbrev pub MayAskAll : (List ℕ → Bool) → Type 0
MayAskAll may_ask = (name : List ℕ) → IsTrue (may_ask name)

-- these names may be asked, one after the other
abbrev pub MayLoadNames : Option FileMap → (List ℕ → Bool) → List (List ℕ) → Type 0
MayLoadNames None may_ask names = MayAskAll may_ask
MayLoadNames (Some files) may_ask names = MayLoadInTurn files may_ask names

-- the configuration's name may be asked, and then those that its acceptance reaches
abbrev pub MayLoad : Option FileMap → (List ℕ → Bool) → (name : List ℕ) → Type 0
MayLoad None may_ask name = MayAskAll may_ask
MayLoad (Some files) may_ask name = IsTrue (may_ask name) × MayLoadCases files may_ask (option_map config_acceptance (files name))
