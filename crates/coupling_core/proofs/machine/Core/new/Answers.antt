use Rattle.std.proofs.Common.{[], refl, ap, sym, ◌∙◌}
use Rattle.coupled_loop.specs.LegalHistory.{opening_state}
use Rattle.coupling_core.specs.KeptView.{kept_view}
use Rattle.coupling_core.proofs.Readers.{opening_stands}
use Rattle.coupling_core.proofs.machine.Core.new.Goals as goal

pub invariant_of-result : goal.invariant_of-result
invariant_of-result c = record {
  valid = c.parts-valid.ensures.valid;
  history = [];
  state = opening_state;
  stands = opening_stands _ c.in_ok-sides.ensures.standings c.in_ok-sides.ensures.ends c.in_ok-stores.ensures c.in_ok-schemes.ensures.count c.in_ok-schemes.ensures.unjudged c.new.ensures.items;
}

pub returns : goal.returns
returns c = record {
  plan = refl;
  stands = opening_stands _ c.in_ok-sides.ensures.standings c.in_ok-sides.ensures.ends c.in_ok-stores.ensures c.in_ok-schemes.ensures.count c.in_ok-schemes.ensures.unjudged c.new.ensures.items;
}
