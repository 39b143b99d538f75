-- From what a call answers to what it says of the refusal.
use Rattle.std.proofs.Common.{◌≡◌, Option, Some, None, Result, Ok, Err, OnOk, refl}
use Rattle.cpl_rules.specs.declared.rules.Refusal.{Refusal}
use Rattle.cpl_config.specs.declared.error.ConfigErr.{ConfigErr}
use Rattle.cpl_config.specs.declared.error.ConfigErr.TheVariants.{Refused}
use Rattle.cpl_config.specs.Acceptance.{unless_refused}
use Rattle.cpl_config.specs.Answers.{Answers}

no_refusal : {A : Type 0} (refusal : Option Refusal) (meant value : A) → unless_refused refusal meant ≡ Ok value → refusal ≡ None
no_refusal None meant value h = refl
no_refusal (Some refusal) meant value h = cc

some_refusal : {A : Type 0} (refusal : Option Refusal) (meant : A) (told : Refusal) → unless_refused refusal meant ≡ Err told → refusal ≡ Some told
some_refusal None meant told h = cc
some_refusal (Some refusal) meant told h = cc

-- where the call accepts nothing is refused
pub on_ok : {A : Type 0} (P : Type 0) (refusal : Option Refusal) (meant : A) (result : Result A ConfigErr) → Answers (unless_refused refusal meant) result → (refusal ≡ None → P) → OnOk result P
on_ok P refusal meant (Ok value) h holds = holds (no_refusal refusal meant value h)
on_ok P refusal meant (Err error) h holds = tt

-- what the call refuses is what is refused
pub on_refused : {A : Type 0} (refusal : Option Refusal) (meant : A) (told : Refusal) → Answers (unless_refused refusal meant) (Err (Refused told)) → refusal ≡ Some told
on_refused refusal meant told h = some_refusal refusal meant told h
