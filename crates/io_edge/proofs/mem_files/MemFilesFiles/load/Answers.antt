use Rattle.std.proofs.Common.{◌≡◌, false, arith}
use Rattle.std.proofs.lemmas.Grind.{common_steps}
use Rattle.io_edge.specs.MemoryFiles.{load_fails}
use Rattle.io_edge.proofs.mem_files.MemFilesFiles.load.Goals as goal

-- the load is not listed and the name is held, and what appends the file is never Failed
pub returns-in-Some-clause-exactly : goal.returns-in-Some-clause-exactly
returns-in-Some-clause-exactly c =
    let holds : load_fails c.args.self.now c.args.name.now ≡ false = grind (arith, common_steps) in
    (λ failed. absurd (c.append_file.ensures.never_failed failed), λ fails. absurd (cc))
