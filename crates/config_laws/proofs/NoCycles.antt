-- Steps that go round, and nodes in a cycle: the one is where the other is, and then a rule is broken.
use Rattle.std.proofs.Common.{◌≡◌, inl, inr, false, List, [], ◌∷◌, ◌++◌, Option, Some, None, IfSome, All, Contains, refl, ap, sym, subst, ◌∙◌, append_assoc}
use Rattle.std.proofs.lemmas.List.Concat.{flat_map-append}
use Rattle.std.proofs.lemmas.List.Elements.{Contains-append_left}
use Rattle.cpl_config.specs.declared.config.Config.{Config}
use Rattle.cpl_config.specs.declared.config.SchemeTable.{SchemeTable}
use Rattle.plan_order.specs.Cycle.{HasCycle}
use Rattle.cpl_config.specs.declared.config.AccelEntry.{AccelEntry}
use Rattle.mesh_rules.specs.Entries.{Held, scheme, accelerated, Entry, entries_of}
use Rattle.config_rules.specs.Circles.{step_of, steps_of}
use Rattle.config_rules.specs.SchemeRules.{closes_circle}
use Rattle.config_rules.specs.declared.circles.Step.{Step}
use Rattle.config_rules.specs.ConfigRules.{IsAccepted}
use Rattle.config_rules.specs.declared.rules.ConfigRule.TheVariants.{Undeclared, WrongMembers, TwoImplicit, Cycle}
use Rattle.config_laws.specs.Circling.{GoesRound, IsAcceptedButForCircles}
use Rattle.config_laws.specs.FitConfig.{FitSchemes}
use Rattle.config_laws.specs.Numbered.{befores_in, node_numbers}
use Rattle.config_laws.proofs.CyclesOf.{goes_round, last_of, no_steps}
use Rattle.config_laws.proofs.EntriesOf.{entries_with}
use Rattle.config_laws.proofs.KnownSchemes.{KnownSchemes, known_schemes}
use Rattle.config_laws.proofs.RoundsUp.{cycle_of_round}
use Rattle.config_laws.proofs.Splits.{at_split}
use Rattle.config_laws.proofs.Truths.{fails}
use Rattle.config_laws.proofs.WalksRound.{circle_meant, loose_round}
use Rattle.config_laws.proofs.WholeFacts.{schemes}

pub known : (config : Config) → IsAccepted config → KnownSchemes config
known config accepted = known_schemes config (accepted Undeclared) (accepted WrongMembers) (accepted TwoImplicit)

no_round : (config : Config) → FitSchemes config → ¬ GoesRound (steps_of config config.scheme)
no_round config fits round =
    elim (last_of config.scheme) [
      | inl none ↦ no_steps (subst (λ (tables : List SchemeTable). GoesRound (steps_of config tables)) none round)
      | inr last ↦ (fits last.0 last.1 [] last.2).no_circle (subst (λ (tables : List SchemeTable). GoesRound (steps_of config tables)) last.2 round)
    ]

pub no_cycle : (config : Config) → IsAccepted config → ¬ HasCycle (node_numbers config) (befores_in config config.scheme)
no_cycle config accepted cycle = no_round config (schemes config accepted) (goes_round config (known config accepted) cycle)

pub known_but : (config : Config) → IsAcceptedButForCircles config → KnownSchemes config
known_but config but = known_schemes config (but Undeclared (λ is. cc)) (but WrongMembers (λ is. cc)) (but TwoImplicit (λ is. cc))

pub circle : (config : Config) → IsAcceptedButForCircles config → HasCycle (node_numbers config) (befores_in config config.scheme) → GoesRound (steps_of config config.scheme)
circle config but cycle = goes_round config (known_but config but) cycle

pub cycle : (config : Config) → IsAcceptedButForCircles config → GoesRound (steps_of config config.scheme) → HasCycle (node_numbers config) (befores_in config config.scheme)
cycle config but round = cycle_of_round config (known_but config but) round

-- where all steps do not go round, no entry closes a circle

steps_before : (config : Config) (before : List SchemeTable) (table : SchemeTable) (after : List SchemeTable) → config.scheme ≡ before ++ table ∷ after
    → (step : Step) → Contains (steps_of config (before ++ table ∷ [])) step → Contains (steps_of config config.scheme) step
steps_before config before table after is step inside =
    let front : List SchemeTable = before ++ table ∷ [] in
    let split : config.scheme ≡ front ++ after = is ∙ sym (append_assoc before (table ∷ []) after) in
    let steps : steps_of config config.scheme ≡ steps_of config front ++ steps_of config after =
    ap (steps_of config) split ∙ flat_map-append (λ (t : SchemeTable). step_of config t.kind t.first t.second) front after in
    subst (λ (xs : List Step). Contains xs step) (sym steps) (Contains-append_left (steps_of config front) (steps_of config after) step inside)

front_open : (config : Config) → ¬ GoesRound (steps_of config config.scheme) → (before : List SchemeTable) (table : SchemeTable) (after : List SchemeTable) → config.scheme ≡ before ++ table ∷ after
    → closes_circle config (scheme before table) ≡ false
front_open config none before table after is =
    fails (closes_circle config (scheme before table))
    (λ has. none (loose_round (steps_of config (before ++ table ∷ [])) (steps_of config config.scheme) (steps_before config before table after is) (circle_meant (steps_of config (before ++ table ∷ [])) has)))

IsOpen : Config → Held → Type 0
IsOpen config held = closes_circle config held ≡ false

acceleration_open : (config : Config) (table : SchemeTable) (acceleration : Option AccelEntry) → IfSome acceleration (λ entry. IsOpen config (accelerated table entry))
unfolding IsOpen
acceleration_open config table None = tt
acceleration_open config table (Some entry) = refl

all_open : (config : Config) → ¬ GoesRound (steps_of config config.scheme) → All (λ (entry : Entry). IsOpen config entry.held) (entries_of config)
unfolding IsOpen
all_open config none = entries_with (IsOpen config) config (record {
  own = refl;
  data_tables = λ k d within. refl;
  meshes = λ k d within. refl;
  participants = λ k d within. record {
    own = refl;
    receives = λ before entry after is. refl;
    writes = λ j e inside. refl;
    reads = λ before entry after is. refl;
    maps = λ before entry after is. refl;
    watches = λ j e inside. refl;
    acts = λ before entry after is. refl;
  };
  schemes = λ before table after is. record {
    own = front_open config none before table after is;
    exchanges = λ j e inside. refl;
    measures = λ j e inside. refl;
    acceleration = acceleration_open config table table.acceleration;
  };
})

unbroken : (config : Config) → IsAcceptedButForCircles config → All (λ (entry : Entry). IsOpen config entry.held) (entries_of config) → IsAccepted config
unfolding IsOpen
unbroken config but open_all Cycle before entry after is = at_split (λ (one : Entry). IsOpen config one.held) (entries_of config) before entry after is open_all
unbroken config but open_all rule before entry after is = but rule (λ same. cc) before entry after is

-- a configuration that breaks no other rule is accepted where its nodes have no cycle
pub accepted_without : (config : Config) → IsAcceptedButForCircles config → ¬ HasCycle (node_numbers config) (befores_in config config.scheme) → IsAccepted config
accepted_without config but none = unbroken config but (all_open config (λ round. none (cycle config but round)))
