-- The line of a fault: who faults, in which turn, and where. Schemes, exchanges and measures count from 1, vertices and components from 0. The project's own.
use Rattle.std.specs.Prelude.{ℕ, List, ◌++◌, codes}
use Rattle.cpl_plan.specs.declared.parts.PlanParts.{PlanParts}
use Rattle.cpl_plan.specs.declared.words.Fault.{Fault}
use Rattle.cpl_plan.specs.declared.words.Fault.TheVariants.{Solver, Steps, WriteMap, ReadMap, Relax, NotConverged}
use Rattle.watch_log.specs.Words.{line_feed, numbered, counted, turn_text, participant_name}

-- a participant's fault, in a turn
abbrev pub participant_part : PlanParts → (part window iteration : ℕ) → List ℕ
participant_part plan part window iteration = codes "fault participant " ++ (participant_name plan part ++ turn_text window iteration)

-- a scheme's fault, in an iteration of a window
abbrev pub scheme_part : (scheme window iteration : ℕ) → List ℕ
scheme_part scheme window iteration = counted (codes "fault scheme ") scheme ++ turn_text window iteration

-- where a mapped sum is out of range
abbrev pub map_part : (exchange time vertex component : ℕ) → List ℕ
map_part exchange time vertex component =
    counted (codes " exchange ") exchange
    ++ (numbered (codes " time ") time ++ (numbered (codes " vertex ") vertex ++ numbered (codes " component ") component))

-- where a relaxed value is out of range; the component counts over all vertices
abbrev pub relax_part : (exchange time component : ℕ) → List ℕ
relax_part exchange time component =
    counted (codes " relax exchange ") exchange ++ (numbered (codes " time ") time ++ numbered (codes " component ") component)

-- the line without its end
abbrev pub fault_words : PlanParts → Fault → List ℕ
fault_words plan (Solver part w k step code) =
    participant_part plan part w k ++ (numbered (codes " step ") step ++ numbered (codes " code ") code)
fault_words plan (Steps part w k) = participant_part plan part w k ++ codes " steps"
fault_words plan (WriteMap part w k exchange time vertex component) =
    participant_part plan part w k ++ (codes " write-map" ++ map_part exchange time vertex component)
fault_words plan (ReadMap part w k exchange time vertex component) =
    participant_part plan part w k ++ (codes " read-map" ++ map_part exchange time vertex component)
fault_words plan (Relax scheme w k exchange time component) = scheme_part scheme w k ++ relax_part exchange time component
fault_words plan (NotConverged scheme w k measure) =
    scheme_part scheme w k ++ (counted (codes " measure ") measure ++ codes " not converged")

abbrev pub fault_text : PlanParts → Fault → List ℕ
fault_text plan fault = fault_words plan fault ++ line_feed
