-- The exchanges of a plan are those of its configuration's schemes, scheme by scheme.
use Rattle.std.proofs.Common.{◌≡◌, ℕ, zero, suc, ◌+◌, ◌-◌, ◌<◌, ◌≤◌, inl, inr, List, [], ◌∷◌, ◌++◌, length, take, get_or, Some, refl, ap, sym, ◌∙◌, arith}
use Rattle.std.specs.Prelude.{slice_get, flat_map, sum_by}
use Rattle.std.specs.List.{enumerate_from}
use Rattle.std.proofs.lemmas.Bool.{cases_lt}
use Rattle.std.proofs.lemmas.Option.{slice_get_within, get_or_from_slice_get}
use Rattle.std.proofs.lemmas.List.{length-append, length-map}
use Rattle.std.proofs.lemmas.List.Sums.{sum_by-cons, sum_by-take-drop, sum_by-drop_more}
use Rattle.std.proofs.lemmas.List.Concat.{length-flat_map}
use Rattle.cpl_config.specs.declared.config.Config.{Config}
use Rattle.cpl_config.specs.declared.config.SchemeTable.{SchemeTable}
use Rattle.cpl_config.specs.declared.config.ExchangeEntry.{ExchangeEntry}
use Rattle.cpl_config.specs.SoundConfig.{all_exchanges}
use Rattle.cpl_plan.specs.declared.parts.Exchange.{Exchange}
use Rattle.cpl_plan.proofs.LooksThrough.{slice_get-here, slice_get-past}
use Rattle.cpl_plan.proofs.Readings.{there}
use Rattle.scheme_parts.specs.NumbersOf.{exchanges_before}
use Rattle.scheme_parts.specs.ExchangeOf.{exchange_of, exchanges_of}
use Rattle.scheme_parts.proofs.Tables.{same_some, none_some, map_at, at_map}
use Rattle.plan_build.specs.PlanOf.{exchanges_of_all}

abbrev count_in : SchemeTable → ℕ
count_in table = length table.exchange

-- the exchanges of some schemes, of which the first has this number
abbrev from : Config → ℕ → List SchemeTable → List Exchange
from config start tables = flat_map (λ numbered. exchanges_of config numbered.0 numbered.1) (enumerate_from start tables)

-- as many as the entries
length_from : (config : Config) (start : ℕ) (tables : List SchemeTable) → length (from config start tables) ≡ length (flat_map (λ (table : SchemeTable). table.exchange) tables)
length_from config start [] = refl
length_from config start (table ∷ tables) =
    let own : List Exchange = exchanges_of config start table in
    let rest : List Exchange = from config (start + 1) tables in
    omega (arith, length-append own rest, length-append table.exchange (flat_map (λ (t : SchemeTable). t.exchange) tables), length-map table.exchange (exchange_of config start table), length_from config (start + 1) tables)

pub length_exchanges : (config : Config) → length (exchanges_of_all config) ≡ length (flat_map (λ (table : SchemeTable). table.exchange) config.scheme)
length_exchanges config = length_from config 0 config.scheme

-- an exchange, and where it is in the configuration
record IsFrom (config : Config) (start : ℕ) (tables : List SchemeTable) (x : ℕ) (e : Exchange) : Type 0 where
  scheme : ℕ
  table : SchemeTable
  place : ℕ
  entry : ExchangeEntry
  at_scheme : slice_get tables scheme ≡ Some table
  at_entry : slice_get table.exchange place ≡ Some entry
  listed : slice_get (flat_map (λ (t : SchemeTable). t.exchange) tables) x ≡ Some entry
  number : x ≡ sum_by count_in (take scheme tables) + place
  is : e ≡ exchange_of config (start + scheme) table entry

found_from : (config : Config) (start : ℕ) (tables : List SchemeTable) (x : ℕ) (e : Exchange) → slice_get (from config start tables) x ≡ Some e → IsFrom config start tables x e
found_from config start [] x e at = absurd (none_some at)
found_from config start (table ∷ tables) x e at =
    let own : List Exchange = exchanges_of config start table in
    let rest : List Exchange = from config (start + 1) tables in
    let long : length own ≡ length table.exchange = length-map table.exchange (exchange_of config start table) in
    elim (cases_lt x (length own)) [
      | inl less ↦
          let here = there own x less in
          let same : here.0 ≡ e = same_some (sym (slice_get-here own rest x here.0 here.1) ∙ at) in
          let made = at_map (exchange_of config start table) table.exchange x here.0 here.1 in
          let on : start ≡ start + 0 = omega (arith) in
          record {
            scheme = 0;
            table = table;
            place = x;
            entry = made.0;
            at_scheme = refl;
            at_entry = made.1;
            listed = slice_get-here table.exchange (flat_map (λ (t : SchemeTable). t.exchange) tables) x made.0 made.1;
            number = omega (arith);
            is = sym same ∙ (made.2 ∙ ap (λ (n : ℕ). exchange_of config n table made.0) on);
          }
      | inr past ↦
          let left : x ≡ length own + (x - length own) = omega (arith, past) in
          let later = found_from config (start + 1) tables (x - length own) e (sym (slice_get-past own rest (x - length own)) ∙ (sym (ap (slice_get (own ++ rest)) left) ∙ at)) in
          let on : start + 1 + later.scheme ≡ start + suc later.scheme = omega (arith) in
          record {
            scheme = suc later.scheme;
            table = later.table;
            place = later.place;
            entry = later.entry;
            at_scheme = later.at_scheme;
            at_entry = later.at_entry;
            listed =
                let front : length own + (x - length own) ≡ length table.exchange + (x - length own) = ap (λ (n : ℕ). n + (x - length own)) long in
                ap (slice_get (table.exchange ++ flat_map (λ (t : SchemeTable). t.exchange) tables)) (left ∙ front)
                ∙ (slice_get-past table.exchange (flat_map (λ (t : SchemeTable). t.exchange) tables) (x - length own) ∙ later.listed);
            number = omega (arith, left, long, later.number, sum_by-cons count_in table (take later.scheme tables));
            is = later.is ∙ ap (λ (n : ℕ). exchange_of config n later.table later.entry) on;
          }
    ]

there_from : (config : Config) (start : ℕ) (tables : List SchemeTable) (s k : ℕ) (table : SchemeTable) (entry : ExchangeEntry) → slice_get tables s ≡ Some table → slice_get table.exchange k ≡ Some entry
    → slice_get (from config start tables) (sum_by count_in (take s tables) + k) ≡ Some (exchange_of config (start + s) table entry)
there_from config start [] s k table entry at at_entry = absurd (none_some at)
there_from config start (t ∷ tables) zero k table entry at at_entry =
    let same : t ≡ table = same_some at in
    let zero_on : 0 + k ≡ k = omega (arith) in
    let on : start ≡ start + 0 = omega (arith) in
    let at_own : slice_get t.exchange k ≡ Some entry = ap (λ (u : SchemeTable). slice_get u.exchange k) same ∙ at_entry in
    ap (slice_get (from config start (t ∷ tables))) zero_on
    ∙ (slice_get-here (exchanges_of config start t) (from config (start + 1) tables) k (exchange_of config start t entry) (map_at (exchange_of config start t) t.exchange k entry at_own)
    ∙ (ap (λ (u : SchemeTable). Some (exchange_of config start u entry)) same ∙ ap (λ (n : ℕ). Some (exchange_of config n table entry)) on))
there_from config start (t ∷ tables) (suc s) k table entry at at_entry =
    let own : List Exchange = exchanges_of config start t in
    let rest : List Exchange = from config (start + 1) tables in
    let place : sum_by count_in (t ∷ take s tables) + k ≡ length own + (sum_by count_in (take s tables) + k) =
    omega (arith, sum_by-cons count_in t (take s tables), length-map t.exchange (exchange_of config start t)) in
    let on : start + 1 + s ≡ start + suc s = omega (arith) in
    ap (slice_get (own ++ rest)) place
    ∙ (slice_get-past own rest (sum_by count_in (take s tables) + k)
    ∙ (there_from config (start + 1) tables s k table entry at at_entry ∙ ap (λ (n : ℕ). Some (exchange_of config n table entry)) on))

pub record IsExchangeAt (config : Config) (x : ℕ) (e : Exchange) : Type 0 where
  pub scheme : ℕ
  pub table : SchemeTable
  pub place : ℕ
  pub entry : ExchangeEntry
  pub at_scheme : slice_get config.scheme scheme ≡ Some table
  pub at_entry : slice_get table.exchange place ≡ Some entry
  pub listed : slice_get (all_exchanges config) x ≡ Some entry
  pub number : x ≡ exchanges_before config scheme + place
  pub is : e ≡ exchange_of config scheme table entry

pub exchange_from : (config : Config) (x : ℕ) (e : Exchange) → slice_get (exchanges_of_all config) x ≡ Some e → IsExchangeAt config x e
exchange_from config x e at =
    let found = found_from config 0 config.scheme x e at in
    let on : 0 + found.scheme ≡ found.scheme = omega (arith) in
    record {
      scheme = found.scheme;
      table = found.table;
      place = found.place;
      entry = found.entry;
      at_scheme = found.at_scheme;
      at_entry = found.at_entry;
      listed = found.listed;
      number = found.number;
      is = found.is ∙ ap (λ (n : ℕ). exchange_of config n found.table found.entry) on;
    }

pub exchange_there : (config : Config) (s k : ℕ) (table : SchemeTable) (entry : ExchangeEntry) → slice_get config.scheme s ≡ Some table → slice_get table.exchange k ≡ Some entry
    → slice_get (exchanges_of_all config) (exchanges_before config s + k) ≡ Some (exchange_of config s table entry)
exchange_there config s k table entry at at_entry =
    let on : 0 + s ≡ s = omega (arith) in
    there_from config 0 config.scheme s k table entry at at_entry ∙ ap (λ (n : ℕ). Some (exchange_of config n table entry)) on

-- an entry of the file's list of exchanges is that of the exchange of its number
pub record IsListedAt (config : Config) (x : ℕ) (entry : ExchangeEntry) : Type 0 where
  pub exchange : Exchange
  pub at : slice_get (exchanges_of_all config) x ≡ Some exchange
  pub place : IsExchangeAt config x exchange
  pub same : place.entry ≡ entry

pub exchange_listed : (config : Config) (x : ℕ) (entry : ExchangeEntry) → slice_get (all_exchanges config) x ≡ Some entry → IsListedAt config x entry
exchange_listed config x entry at =
    let within : x < length (exchanges_of_all config) = omega (arith, slice_get_within (all_exchanges config) x entry at, length_exchanges config) in
    let item = there (exchanges_of_all config) x within in
    let place : IsExchangeAt config x item.0 = exchange_from config x item.0 item.1 in
    record { exchange = item.0; at = item.1; place = place; same = same_some (sym place.listed ∙ at) }

-- those of the schemes up to one are not more than all
pub within_all : (config : Config) (s : ℕ) (table : SchemeTable) → slice_get config.scheme s ≡ Some table → exchanges_before config s + length table.exchange ≤ length (exchanges_of_all config)
within_all config s table at =
    let within : s < length config.scheme = slice_get_within config.scheme s table at in
    let here : get_or config.scheme s table ≡ table = get_or_from_slice_get config.scheme s table table at in
    let same : count_in (get_or config.scheme s table) ≡ count_in table = ap count_in here in
    omega (arith, length_exchanges config, length-flat_map (λ (other : SchemeTable). other.exchange) config.scheme, sum_by-take-drop count_in config.scheme s, sum_by-drop_more count_in config.scheme s table within, same)
