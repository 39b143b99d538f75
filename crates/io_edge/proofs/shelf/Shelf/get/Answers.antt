use Rattle.std.proofs.Common.{ap, ◌∙◌, Some}
use Rattle.io_edge.proofs.ShelvedFiles.{held_file}
use Rattle.io_edge.proofs.shelf.Shelf.get.Goals as goal

pub returns-in_err-file : goal.returns-in_err-file
returns-in_err-file c =
    rw c.from_residual.ensures (held_file c.self.inside.files _ _ _ c.self.view_is c.in_err-file.ensures.value)

pub returns : goal.returns
returns c =
    ap Some c.as_slice.ensures.value
    ∙ held_file c.self.inside.files _ _ _ c.self.view_is c.in_ok-file.ensures.value
