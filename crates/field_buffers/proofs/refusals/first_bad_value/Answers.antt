use Rattle.std.proofs.Common.{◌≡◌, ℕ, ℤ, pos, Option, Some, None, get_or, not, position, ap, ◌∙◌}
use Rattle.field_buffers.proofs.BadValues.{place_is}
use Rattle.field_buffers.proofs.refusals.first_bad_value.Goals as goal

pub returns-clause-first : goal.returns-clause-first
returns-clause-first c =
    place_is c.args.numbers.now c.first_outside.result c.first_outside.ensures.found c.first_outside.ensures.no_value c.first_outside.ensures.first c.first_outside.ensures.none
