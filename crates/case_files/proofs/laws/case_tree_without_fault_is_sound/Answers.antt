use Rattle.case_files.proofs.SoundCases.{case_in_order}
use Rattle.case_files.proofs.laws.case_tree_without_fault_is_sound.Goals as goal

pub returns : goal.returns
returns c = λ number tree in_order. case_in_order number tree in_order
