use Rattle.std.proofs.Common.{◌≡◌, All, length, drop}
use Rattle.case_files.specs.SoundCase.{IsSoundCaseFile}
use Rattle.accepted_case.specs.Acceptance.{each_read}
use Rattle.accepted_case.proofs.InTurn.{behind}
use Rattle.accepted_case.proofs.cases.read_each.Given as goal

-- what was read, before what the rest is, is what all are
abbrev pub invariant-files : goal.invariant-files
invariant-files l = record {
  read : behind l.cases.items (each_read l.index (drop l.index l.files)) ≡ each_read 0 l.files;
  counted : length l.cases.items ≡ l.index;
  sound : All IsSoundCaseFile l.cases.items;
}
