-- The verdict of an iteration of a scheme, with its norms, and the fault of one that fails. From the coupling documentation's convergence measures; that Aitken's and other relaxations can be out of range is the project's own.
use Rattle.std.specs.Prelude.{ℕ, ◌-◌, ◌==◌, if◌then◌else◌, List, map, slice_get, slice_index, Option, Some, None, ℤ}
use Rattle.cpl_plan.specs.declared.parts.PlanParts.{PlanParts}
use Rattle.cpl_plan.specs.declared.parts.Exchange.{Exchange}
use Rattle.cpl_plan.specs.declared.parts.Scheme.{Scheme}
use Rattle.cpl_plan.specs.declared.parts.Measure.{Measure}
use Rattle.cpl_plan.specs.declared.parts.Kind.{Kind}
use Rattle.cpl_plan.specs.declared.parts.Kind.TheVariants.{Iterated}
use Rattle.cpl_plan.specs.declared.words.Fault.{Fault}
use Rattle.cpl_plan.specs.declared.words.Fault.TheVariants.{Relax, NotConverged as NotConvergedFault}
use Rattle.cpl_plan.specs.declared.words.Verdict.{Verdict}
use Rattle.cpl_plan.specs.declared.words.Verdict.TheVariants.{Again, Converged, AtLimit, NotConverged}
use Rattle.convergence.specs.declared.measured.Measured.{Measured}
use Rattle.convergence.specs.Change.{change_of}
use Rattle.convergence.specs.Verdict.{verdict}
use Rattle.acceleration.specs.Outside.{Location}
use Rattle.coupled_loop.specs.Given.{Look}
use Rattle.coupled_loop.specs.Endings.{Judgement, again, converged, at_limit, refused}
use Rattle.wave_coupling.specs.Root.{norm}
use Rattle.wave_coupling.specs.Posts.{Post, newest_values}
use Rattle.wave_coupling.specs.InputWave.{input_wave, relaxed_after, posted, completed, over}

module _ (plan : PlanParts) (look : Look Post) where
  -- the values that a measured exchange had before: those that were read, or, where it is not iterated, those that were posted in the iteration before
  abbrev pub old_values : Kind → Exchange → (x w start k : ℕ) → List ℤ
  old_values Iterated e x w start k = newest_values (input_wave plan look x w start k).wave
  old_values _ e x w start k =
      newest_values (if k == 1 then (completed plan look e x (w - 1)).wave else (posted plan look e x w (k - 1)).wave)

  -- the change of an exchange in an iteration, and the size of its new values
  abbrev pub change_in : (x w start k : ℕ) → Option Exchange → ℕ
  change_in x w start k None = 0
  change_in x w start k (Some e) = norm (change_of (newest_values (posted plan look e x w k).wave) (old_values e.kind e x w start k))

  abbrev pub size_in : (x w k : ℕ) → Option Exchange → ℕ
  size_in x w k None = 0
  size_in x w k (Some e) = norm (newest_values (posted plan look e x w k).wave)

  abbrev pub measured_in : (w start k : ℕ) → Measure → Measured
  measured_in w start k measure = record {
    measure = measure;
    change = change_in measure.exchange w start k (slice_get plan.exchanges measure.exchange);
    size = size_in measure.exchange w k (slice_get plan.exchanges measure.exchange);
    first = change_in measure.exchange w start 1 (slice_get plan.exchanges measure.exchange);
  }

  abbrev pub verdict_in : Scheme → (w start k : ℕ) → Verdict
  verdict_in scheme w start k = verdict (map (measured_in w start k) scheme.measures) k scheme.min scheme.max

  -- the fault of a relaxed value that is out of range
  abbrev pub relax_fault : (number w k : ℕ) → Scheme → Location → Fault
  relax_fault number w k scheme location =
      Relax number w k (slice_index (over scheme.accel) location.place) location.time location.component

  -- a verdict as a judgement: what is repeated must be relaxed
  abbrev pub judgement_of : (number w k : ℕ) → Scheme → Option Location → Verdict → Judgement Fault
  judgement_of number w k scheme None Again = again
  judgement_of number w k scheme (Some location) Again = refused (relax_fault number w k scheme location)
  judgement_of number w k scheme outside Converged = converged
  judgement_of number w k scheme outside AtLimit = at_limit
  judgement_of number w k scheme outside (NotConverged measure) = refused (NotConvergedFault number w k measure)

  abbrev pub judged_by : (number w start k : ℕ) → Option Scheme → Judgement Fault
  judged_by number w start k None = again
  judged_by number w start k (Some scheme) =
      judgement_of number w k scheme (relaxed_after plan look scheme w start k).outside (verdict_in scheme w start k)
