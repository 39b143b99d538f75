use Rattle.std.proofs.Common.{arith}
use Rattle.convergence.proofs.Rows.{inside, measured_at}
use Rattle.convergence.proofs.measures.Measures.at.Goals as goal

pub offset_bounds-measures-place : goal.offset_bounds-measures-place
offset_bounds-measures-place c = let within = inside _ _ _ _ _ _ c.self.invariant c.self.view_is c.requires in omega (arith, within, c.self.invariant)

pub bounds-measures-place : goal.bounds-measures-place
bounds-measures-place c = inside _ _ _ _ _ _ c.self.invariant c.self.view_is c.requires

pub offset_bounds-self-inside-place : goal.offset_bounds-self-inside-place
offset_bounds-self-inside-place c = let within = inside _ _ _ _ _ _ c.self.invariant c.self.view_is c.requires in omega (arith, within, c.self.invariant)

pub bounds-self-inside-place : goal.bounds-self-inside-place
bounds-self-inside-place c = let within = inside _ _ _ _ _ _ c.self.invariant c.self.view_is c.requires in omega (arith, within, c.self.invariant)

pub offset_bounds-self-inside-place-2 : goal.offset_bounds-self-inside-place-2
offset_bounds-self-inside-place-2 c = let within = inside _ _ _ _ _ _ c.self.invariant c.self.view_is c.requires in omega (arith, within, c.self.invariant)

pub bounds-self-inside-place-2 : goal.bounds-self-inside-place-2
bounds-self-inside-place-2 c = let within = inside _ _ _ _ _ _ c.self.invariant c.self.view_is c.requires in omega (arith, within, c.self.invariant)

pub offset_bounds-self-inside-place-3 : goal.offset_bounds-self-inside-place-3
offset_bounds-self-inside-place-3 c = let within = inside _ _ _ _ _ _ c.self.invariant c.self.view_is c.requires in omega (arith, within, c.self.invariant)

pub bounds-self-inside-place-3 : goal.bounds-self-inside-place-3
bounds-self-inside-place-3 c = let within = inside _ _ _ _ _ _ c.self.invariant c.self.view_is c.requires in omega (arith, within, c.self.invariant)

pub returns : goal.returns
returns c = measured_at _ _ _ _ _ _ _ c.self.invariant c.self.view_is c.requires c.index-measures-place.is
