use Rattle.cpl_config.proofs.SoundConfigs.{sound_in_order}
use Rattle.cpl_config.proofs.laws.tree_without_fault_is_sound.Goals as goal

pub returns : goal.returns
returns c = λ tree in_order. sound_in_order tree in_order
