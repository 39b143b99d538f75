-- What an answer unfolds to compute a coupling on literals.
use Rattle.std.specs.Prelude.{⊤}
use Rattle.fixed_num.specs.Numbers.{nearest_of, quotient}
use Rattle.line_solvers.specs.RowsStep.{weighted_sum}
use Rattle.mesh_data.specs.Nearest.{nearest_vertex}
use Rattle.nn_mapping.specs.MappedField.{overflow_of, mapped_values}
use Rattle.waveform.specs.WaveValue.{component_between, values_between, read}
use Rattle.acceleration.specs.RelaxedIterate.{relaxed_iterate}
use Rattle.acceleration.specs.Residual.{less}
use Rattle.acceleration.specs.Outside.{first_outside}
use Rattle.acceleration.specs.RelaxedWaves.{relaxed_values}
use Rattle.acceleration.specs.Factors.{factor_after}
use Rattle.wave_coupling.specs.Root.{root_within}

unfoldable pub waves_on_literals : ⊤
unfolding nearest_of quotient weighted_sum nearest_vertex overflow_of mapped_values component_between values_between read relaxed_iterate less first_outside relaxed_values factor_after root_within
waves_on_literals = tt
