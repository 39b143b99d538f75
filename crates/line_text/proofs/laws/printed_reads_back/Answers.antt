use Rattle.line_text.proofs.Shape.{reads_back}
use Rattle.line_text.proofs.laws.printed_reads_back.Goals as goal

pub returns : goal.returns
returns c = reads_back
