use Rattle.std.proofs.Common.{◌≡◌, ◌==◌, drop, length}
use Rattle.std.specs.List.{list_all}
use Rattle.line_solvers.specs.declared.case.RecordEntry.{RecordEntry}
use Rattle.case_rules.proofs.solvers.have_writes.Given as goal

-- the records of the rest have so many written values where all have
abbrev pub invariant-records : goal.invariant-records
invariant-records l =
    list_all (λ (entry : RecordEntry). length entry.writes == l.written) (drop l.entry-index l.records) ≡ list_all (λ (entry : RecordEntry). length entry.writes == l.written) l.records
