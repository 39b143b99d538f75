-- What an entry of an accepted configuration fits, by its place.
use Rattle.std.proofs.Common.{◌≡◌, ℕ, true, List, Option, Some, All, ap}
use Rattle.std.specs.Prelude.{slice_get, is_some}
use Rattle.cpl_config.specs.declared.config.Config.{Config}
use Rattle.cpl_config.specs.declared.config.SchemeTable.{SchemeTable}
use Rattle.cpl_config.specs.declared.config.PartTable.{PartTable}
use Rattle.cpl_config.specs.declared.config.ExchangeEntry.{ExchangeEntry}
use Rattle.cpl_plan.specs.declared.parts.Exchange.{Exchange}
use Rattle.mesh_rules.specs.Named.{is_participant, participant_called}
use Rattle.config_rules.specs.ConfigRules.{IsAccepted}
use Rattle.config_laws.specs.FitSchemes.{IsFitExchange}
use Rattle.config_laws.proofs.WholeFacts.{exchanges}
use Rattle.scheme_parts.proofs.Tables.{all_at}
use Rattle.plan_build.proofs.ExchangePlaces.{IsExchangeAt}

pub called_there : (config : Config) (name : List ℕ) (table : PartTable) → participant_called config name ≡ Some table → is_participant config name ≡ true
called_there config name table is = ap (λ (o : Option PartTable). is_some o) is

pub fit_exchange : (config : Config) → IsAccepted config → (s k : ℕ) (table : SchemeTable) (entry : ExchangeEntry) → slice_get config.scheme s ≡ Some table → slice_get table.exchange k ≡ Some entry
    → IsFitExchange config table entry
fit_exchange config accepted s k table entry at at_entry =
    all_at (IsFitExchange config table) table.exchange k entry
    (all_at (λ (t : SchemeTable). All (IsFitExchange config t) t.exchange) config.scheme s table (exchanges config accepted) at) at_entry

pub fit_at : (config : Config) → IsAccepted config → (x : ℕ) (e : Exchange) (at : IsExchangeAt config x e) → IsFitExchange config at.table at.entry
fit_at config accepted x e at = fit_exchange config accepted at.scheme at.place at.table at.entry at.at_scheme at.at_entry
