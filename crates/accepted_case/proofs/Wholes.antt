-- What was read, and is then checked as a whole.
use Rattle.std.proofs.Common.{◌≡◌, Option, Some, None, Result, Ok, Err, refl, sym, ap, ◌∙◌, subst}
use Rattle.cpl_rules.specs.declared.rules.Refusal.{Refusal}
use Rattle.cpl_config.specs.declared.error.ConfigErr.{ConfigErr}
use Rattle.cpl_config.specs.declared.error.ConfigErr.TheVariants.{Refused, Memory}
use Rattle.cpl_config.specs.Acceptance.{unless_refused}
use Rattle.cpl_config.specs.Answers.{Answers}

-- what is refused for one meaning is refused for another
handed_on : {A B : Type 0} (refusal : Option Refusal) (unit : A) (meant : B) (e : ConfigErr) → Answers (unless_refused refusal unit) (Err e) → Answers (unless_refused refusal meant) (Err e)
handed_on None unit meant (Refused r) h = cc
handed_on (Some s) unit meant (Refused r) h = let same : s ≡ r = cc in ap Err same
handed_on refusal unit meant Memory h = tt

let_pass : {A B : Type 0} (refusal : Option Refusal) (unit given : A) (meant : B) → unless_refused refusal unit ≡ Ok given → unless_refused refusal meant ≡ Ok meant
let_pass None unit given meant h = refl
let_pass (Some refusal) unit given meant h = cc

-- what the check refuses is refused of what was read
pub checked_err : {A B : Type 0} (whole : Result A Refusal → Result A Refusal) (found : Result A Refusal) (meant : A) (refusal : Option Refusal) (unit : B) (e : ConfigErr)
    → found ≡ Ok meant → whole (Ok meant) ≡ unless_refused refusal meant → Answers (unless_refused refusal unit) (Err e) → Answers (whole found) (Err e)
checked_err whole found meant refusal unit e is by_check h =
    subst (λ (answer : Result _ Refusal). Answers answer (Err e)) (sym (ap whole is ∙ by_check)) (handed_on refusal unit meant e h)

-- and what it lets pass is what was read
pub checked_ok : {A B : Type 0} (whole : Result A Refusal → Result A Refusal) (found : Result A Refusal) (meant : A) (refusal : Option Refusal) (unit given : B)
    → found ≡ Ok meant → whole (Ok meant) ≡ unless_refused refusal meant → unless_refused refusal unit ≡ Ok given → whole found ≡ Ok meant
checked_ok whole found meant refusal unit given is by_check h = ap whole is ∙ by_check ∙ let_pass refusal unit given meant h
