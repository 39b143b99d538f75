-- What a refusal tells, and what there is where there is none.
use Rattle.std.proofs.Common.{◌≡◌, Option, Some, None, option_map, All, refl, lit<}
use Rattle.cpl_rules.specs.declared.rules.Refusal.{Refusal}
use Rattle.cpl_rules.specs.FirstBroken.{first_broken, IsUnbroken}
use Rattle.cpl_rules.proofs.FirstPlaces.{first_broken-none, first_broken-some}
use Rattle.cpl_config.specs.declared.config.Config.{Config}
use Rattle.mesh_rules.specs.Entries.{Entry, entries_of}
use Rattle.config_rules.specs.declared.rules.ConfigRule.{ConfigRule}
use Rattle.config_rules.specs.declared.rules.ConfigRule.TheVariants.{Undeclared, NoEnd, NoProvider, WronglyReceived, OffMesh, WrittenTwice, WronglyMapped, Unmapped, WrongMembers, WrongEnds, UnsharedMesh, UnusedExchange, Unfed, MetTwice, TwoImplicit, Cycle, NoScheme, WrongMeasures, UncarriedMeasure, WrongIterations, WrongAcceleration, WideAcceleration, WrongWindows, WrongAction}
use Rattle.config_rules.specs.ConfigRules.{breaks, config_rules, refused_for, config_refusal, IsConfigRefused, IsAccepted}

all_kept : (config : Config) → All (λ rule. IsUnbroken (breaks config rule) (entries_of config)) config_rules → IsAccepted config
all_kept config h Undeclared = h 0 Undeclared (lit< tt)
all_kept config h NoEnd = h 1 Undeclared (lit< tt)
all_kept config h NoProvider = h 2 Undeclared (lit< tt)
all_kept config h WronglyReceived = h 3 Undeclared (lit< tt)
all_kept config h OffMesh = h 4 Undeclared (lit< tt)
all_kept config h WrittenTwice = h 5 Undeclared (lit< tt)
all_kept config h WronglyMapped = h 6 Undeclared (lit< tt)
all_kept config h Unmapped = h 7 Undeclared (lit< tt)
all_kept config h WrongMembers = h 8 Undeclared (lit< tt)
all_kept config h WrongEnds = h 9 Undeclared (lit< tt)
all_kept config h UnsharedMesh = h 10 Undeclared (lit< tt)
all_kept config h UnusedExchange = h 11 Undeclared (lit< tt)
all_kept config h Unfed = h 12 Undeclared (lit< tt)
all_kept config h MetTwice = h 13 Undeclared (lit< tt)
all_kept config h TwoImplicit = h 14 Undeclared (lit< tt)
all_kept config h Cycle = h 15 Undeclared (lit< tt)
all_kept config h NoScheme = h 16 Undeclared (lit< tt)
all_kept config h WrongMeasures = h 17 Undeclared (lit< tt)
all_kept config h UncarriedMeasure = h 18 Undeclared (lit< tt)
all_kept config h WrongIterations = h 19 Undeclared (lit< tt)
all_kept config h WrongAcceleration = h 20 Undeclared (lit< tt)
all_kept config h WideAcceleration = h 21 Undeclared (lit< tt)
all_kept config h WrongWindows = h 22 Undeclared (lit< tt)
all_kept config h WrongAction = h 23 Undeclared (lit< tt)

accepted_by : (config : Config) (found : Option (ConfigRule × Entry)) → first_broken (breaks config) config_rules (entries_of config) ≡ found → option_map refused_for found ≡ None → IsAccepted config
accepted_by config None h none = all_kept config (first_broken-none (breaks config) config_rules (entries_of config) h)
accepted_by config (Some found) h none = cc

-- where there is no refusal no entry breaks a rule
pub accepted : (config : Config) → config_refusal config ≡ None → IsAccepted config
accepted config none = accepted_by config (first_broken (breaks config) config_rules (entries_of config)) refl none

refused_by : (config : Config) (refusal : Refusal) (found : Option (ConfigRule × Entry)) → first_broken (breaks config) config_rules (entries_of config) ≡ found → option_map refused_for found ≡ Some refusal → IsConfigRefused config refusal
refused_by config refusal None h some = cc
refused_by config refusal (Some found) h some =
    let same : refusal ≡ refused_for found = cc in
    record { rule = found.0; at = found.1; told = same; first = first_broken-some (breaks config) config_rules (entries_of config) found.0 found.1 h }

-- a refusal tells the first broken rule, at its first place
pub refused : (config : Config) (refusal : Refusal) → config_refusal config ≡ Some refusal → IsConfigRefused config refusal
refused config refusal some = refused_by config refusal (first_broken (breaks config) config_rules (entries_of config)) refl some
