use Rattle.std.proofs.Common.{◌≡◌, ◌+◌, [], ◌∷◌, drop, Ok, ap, sym, ◌∙◌}
use Rattle.std.proofs.lemmas.List.{drop_more, length-append}
use Rattle.std.proofs.lemmas.List.Elements.{All-push}
use Rattle.case_files.specs.SoundCase.{IsSoundCaseFile}
use Rattle.case_files.specs.CaseAcceptance.{case_acceptance}
use Rattle.accepted_case.specs.Acceptance.{and_then_those, each_read}
use Rattle.accepted_case.proofs.InTurn.{behind, one_more}
use Rattle.accepted_case.proofs.cases.read_each.Goals as goal

pub files-preserved : goal.files-preserved
files-preserved c =
    let files = c.args.files.now in
    let i = c.files.index in
    let done = c.files.cases.items in
    let case_file = c.in_ok-case_file.case_file in
    let file = c.index-files-index.result in
    let next : drop i files ≡ file ∷ drop (i + 1) files = drop_more files i file c.files-test.true ∙ ap (λ x. x ∷ drop (i + 1) files) (sym c.index-files-index.is) in
    let rest = each_read (i + 1) (drop (i + 1) files) in
    let read : case_acceptance i file ≡ Ok case_file = ap (case_acceptance i) (sym c.as_slice.ensures) ∙ c.in_ok-case_file.ensures.answer in
    rw c.in_ok-push.ensures (record {
      read =
          sym (one_more done case_file rest)
          ∙ (ap (λ found. behind done (and_then_those found rest)) (sym read)
          ∙ (ap (λ fs. behind done (each_read i fs)) (sym next)
          ∙ c.files.invariant.read));
      counted = length-append done (case_file ∷ []) ∙ ap (λ n. n + 1) c.files.invariant.counted;
      sound = All-push IsSoundCaseFile done case_file c.files.invariant.sound c.in_ok-case_file.ensures.accepted;
    })
