use Rattle.edge_projection.proofs.FirstOverflows.{mapped_field-IsFirstOverflow, mapped_field-all_values, mapped_field-consistent}
use Rattle.edge_projection.proofs.laws.undefined_at_the_first_overflow.Goals as goal

pub returns : goal.returns
returns c = record { undefined = mapped_field-IsFirstOverflow; defined = mapped_field-all_values; consistent = mapped_field-consistent }
