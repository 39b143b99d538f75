-- Case files, read one after the other.
use Rattle.std.proofs.Common.{◌≡◌, List, [], ◌∷◌, ◌++◌, Result, Ok, Err, refl, sym, ap, append_assoc}
use Rattle.std.specs.Result.{result_map_both}
use Rattle.cpl_rules.specs.declared.rules.Refusal.{Refusal}
use Rattle.case_files.specs.declared.case_file.CaseFile.{CaseFile}
use Rattle.accepted_case.specs.Acceptance.{and_then_those}

-- what was read before what is read after it
abbrev pub behind : List CaseFile → Result (List CaseFile) Refusal → Result (List CaseFile) Refusal
behind done rest = result_map_both (λ others. done ++ others) (λ refusal. refusal) rest

pub one_more : (done : List CaseFile) (case_file : CaseFile) (rest : Result (List CaseFile) Refusal) → behind done (and_then_those (Ok case_file) rest) ≡ behind (done ++ case_file ∷ []) rest
one_more done case_file (Err refusal) = refl
one_more done case_file (Ok others) = ap Ok (sym (append_assoc done (case_file ∷ []) others))
