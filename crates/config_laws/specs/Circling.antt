-- Steps that go round, as nodes that wait for one another do. The project's own.
use Rattle.std.specs.Prelude.{◌≢◌, ℕ, List, [], ◌∷◌, map}
use Rattle.plan_order.specs.Cycle.{HasCycle}
use Rattle.cpl_config.specs.declared.config.Config.{Config}
use Rattle.cpl_rules.specs.FirstBroken.{IsUnbroken}
use Rattle.mesh_rules.specs.Entries.{entries_of}
use Rattle.config_rules.specs.declared.circles.Step.{Step}
use Rattle.config_rules.specs.declared.rules.ConfigRule.{ConfigRule}
use Rattle.config_rules.specs.declared.rules.ConfigRule.TheVariants.{Cycle}
use Rattle.config_rules.specs.ConfigRules.{breaks}

-- the steps as pairs of nodes, of which the first stands before the second
abbrev pub pairs_of : List Step → List (ℕ × ℕ)
pairs_of steps = map (λ step. (step.from, step.to)) steps

-- a walk of at least one step, from node to node, comes back to where it began
abbrev pub GoesRound : List Step → Type 0
GoesRound steps = HasCycle (λ (node : ℕ). node ∷ []) (pairs_of steps)

-- no entry of the configuration breaks a rule, but that on circles perhaps
abbrev pub IsAcceptedButForCircles : Config → Type 0
IsAcceptedButForCircles config = (rule : ConfigRule) → rule ≢ Cycle → IsUnbroken (breaks config rule) (entries_of config)
