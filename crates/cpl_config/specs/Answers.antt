-- What a call that reads a configuration or a case file answers. The project's own.
use Rattle.std.specs.Prelude.{◌≡◌, Result, Ok, Err}
use Rattle.cpl_rules.specs.declared.rules.Refusal.{Refusal}
use Rattle.cpl_config.specs.declared.error.ConfigErr.{ConfigErr}
use Rattle.cpl_config.specs.declared.error.ConfigErr.TheVariants.{Refused, Memory}

-- what the file means or the refusal that it is, unless memory ran out
abbrev pub Answers : {A : Type 0} → Result A Refusal → Result A ConfigErr → Type 0
Answers file (Ok meant) = file ≡ Ok meant
Answers file (Err (Refused refusal)) = file ≡ Err refusal
Answers file (Err Memory) = Unit {0}
