-- The rules over a whole configuration, in their order. The project's own.
use Rattle.std.specs.Prelude.{◌≡◌, ℕ, Bool, List, [], ◌∷◌, Option, option_map}
use Rattle.cpl_config.specs.declared.config.Config.{Config}
use Rattle.cpl_rules.specs.declared.rules.Refusal.{Refusal}
use Rattle.cpl_rules.specs.FirstBroken.{first_broken, IsFirstBroken, IsUnbroken}
use Rattle.mesh_rules.specs.Entries.{Entry, entries_of}
use Rattle.mesh_rules.specs.MeshRules.{names_nothing, has_no_end, has_no_provider, is_wrongly_received, is_off_mesh, is_written_twice, is_wrongly_mapped, is_unmapped}
use Rattle.mesh_rules.specs.ActionRules.{is_wrong_action}
use Rattle.config_rules.specs.WindowRules.{has_wrong_windows}
use Rattle.config_rules.specs.SchemeRules.{has_wrong_members, has_wrong_ends, is_unshared, is_unused, is_unfed, meets_twice, shares_implicit, closes_circle, is_alone, has_wrong_measures, is_uncarried, has_wrong_iterations, is_wrongly_accelerated, is_wide}
use Rattle.config_rules.specs.declared.rules.ConfigRule.{ConfigRule}
use Rattle.config_rules.specs.declared.rules.ConfigRule.TheVariants.{Undeclared, NoEnd, NoProvider, WronglyReceived, OffMesh, WrittenTwice, WronglyMapped, Unmapped, WrongMembers, WrongEnds, UnsharedMesh, UnusedExchange, Unfed, MetTwice, TwoImplicit, Cycle, NoScheme, WrongMeasures, UncarriedMeasure, WrongIterations, WrongAcceleration, WideAcceleration, WrongWindows, WrongAction}

-- the entry breaks the rule, after the entries before it
abbrev pub breaks : Config → ConfigRule → List Entry → Entry → Bool
breaks config Undeclared _ entry = names_nothing config entry.held
breaks config NoEnd _ entry = has_no_end config entry.held
breaks config NoProvider _ entry = has_no_provider config entry.held
breaks config WronglyReceived _ entry = is_wrongly_received config entry.held
breaks config OffMesh _ entry = is_off_mesh config entry.held
breaks config WrittenTwice before entry = is_written_twice before entry.held
breaks config WronglyMapped _ entry = is_wrongly_mapped config entry.held
breaks config Unmapped _ entry = is_unmapped config entry.held
breaks config WrongMembers _ entry = has_wrong_members entry.held
breaks config WrongEnds _ entry = has_wrong_ends entry.held
breaks config UnsharedMesh _ entry = is_unshared config entry.held
breaks config UnusedExchange _ entry = is_unused config entry.held
breaks config Unfed _ entry = is_unfed config entry.held
breaks config MetTwice _ entry = meets_twice entry.held
breaks config TwoImplicit _ entry = shares_implicit entry.held
breaks config Cycle _ entry = closes_circle config entry.held
breaks config NoScheme _ entry = is_alone config entry.held
breaks config WrongMeasures _ entry = has_wrong_measures entry.held
breaks config UncarriedMeasure _ entry = is_uncarried entry.held
breaks config WrongIterations _ entry = has_wrong_iterations entry.held
breaks config WrongAcceleration _ entry = is_wrongly_accelerated entry.held
breaks config WideAcceleration _ entry = is_wide config entry.held
breaks config WrongWindows _ entry = has_wrong_windows config entry.held
breaks config WrongAction _ entry = is_wrong_action config entry.held

-- the rules, in their order
abbrev pub config_rules : List ConfigRule
config_rules =
    Undeclared ∷ NoEnd ∷ NoProvider ∷ WronglyReceived ∷ OffMesh ∷ WrittenTwice ∷ WronglyMapped ∷ Unmapped
    ∷ WrongMembers ∷ WrongEnds ∷ UnsharedMesh ∷ UnusedExchange ∷ Unfed ∷ MetTwice ∷ TwoImplicit ∷ Cycle ∷ NoScheme
    ∷ WrongMeasures ∷ UncarriedMeasure ∷ WrongIterations ∷ WrongAcceleration ∷ WideAcceleration
    ∷ WrongWindows ∷ WrongAction ∷ []

-- the number by which a refusal names a rule
abbrev pub number_of_rule : ConfigRule → ℕ
number_of_rule Undeclared = 9
number_of_rule NoEnd = 10
number_of_rule NoProvider = 11
number_of_rule WronglyReceived = 12
number_of_rule OffMesh = 13
number_of_rule WrittenTwice = 14
number_of_rule WronglyMapped = 15
number_of_rule Unmapped = 16
number_of_rule WrongMembers = 17
number_of_rule WrongEnds = 18
number_of_rule UnsharedMesh = 19
number_of_rule UnusedExchange = 20
number_of_rule Unfed = 21
number_of_rule MetTwice = 22
number_of_rule TwoImplicit = 23
number_of_rule Cycle = 24
number_of_rule NoScheme = 25
number_of_rule WrongMeasures = 26
number_of_rule UncarriedMeasure = 27
number_of_rule WrongIterations = 28
number_of_rule WrongAcceleration = 29
number_of_rule WideAcceleration = 30
number_of_rule WrongWindows = 33
number_of_rule WrongAction = 35

-- a broken rule and the entry that breaks it, as they are told
abbrev pub refused_for : ConfigRule × Entry → Refusal
refused_for found = record { rule = number_of_rule found.0; place = found.1.place }

-- the first broken rule of a configuration, at its first place
abbrev pub config_refusal : Config → Option Refusal
config_refusal config = option_map refused_for (first_broken (breaks config) config_rules (entries_of config))

-- the refusal tells the first broken rule of the configuration, and its first place
pub record IsConfigRefused (config : Config) (refusal : Refusal) : Type 0 where
  pub rule : ConfigRule
  pub at : Entry
  pub told : refusal ≡ refused_for (rule, at)
  pub first : IsFirstBroken (breaks config) config_rules (entries_of config) rule at

-- no entry of the configuration breaks a rule
abbrev pub IsAccepted : Config → Type 0
IsAccepted config = (rule : ConfigRule) → IsUnbroken (breaks config rule) (entries_of config)
