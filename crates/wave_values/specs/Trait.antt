-- What solvers are held to. The clauses of the solver trait, in words of what a solver does; the project's own.
use Rattle.std.specs.Prelude.{◌≡◌, ℕ, ◌≤◌, Bool, IsTrue, List, ℤ, sum_by}
use Rattle.solver_trait.specs.Behaviour.{Behaviour, goes_on}
use Rattle.cpl_plan.specs.declared.parts.PlanParts.{PlanParts}
use Rattle.wave_coupling.specs.Known.{Known, read_entries, write_entries, width_of}
use Rattle.wave_laws.specs.Fitting.{AreValues}

-- in the states that pass a test, which its steps do not leave, a solver picks from one tick to as many as are left, and writes as many Values as it says where it reads as many as it says
pub record MeetsTrait {State : Type 0} (sound : State → Bool) (solver : Behaviour State) : Type 0 where
  pub picks : (state : State) (most : ℕ) → IsTrue (sound state) → 1 ≤ most → (1 ≤ solver.pick state most) × (solver.pick state most ≤ most)
  pub first : (state : State) → IsTrue (sound state) → AreValues solver.write_len (solver.first state)
  pub steps : (state after : State) (ticks : ℕ) (reads writes : List ℤ) → IsTrue (sound state) → 1 ≤ ticks → AreValues solver.read_len reads
      → solver.next state ticks reads ≡ goes_on after writes → IsTrue (sound after) × AreValues solver.write_len writes

-- it reads and writes as many values as its participant's entries have in all
pub record FitsEntries (plan : PlanParts) (part : ℕ) (known : Known) {State : Type 0} (solver : Behaviour State) : Type 0 where
  pub reads : solver.read_len ≡ sum_by (width_of plan part known) (read_entries plan part)
  pub writes : solver.write_len ≡ sum_by (width_of plan part known) (write_entries plan part)
