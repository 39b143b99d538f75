-- Where the steps of the first participant are the windows: from the rule to the one scheme that there is, and back.
use Rattle.std.proofs.Common.{◌≡◌, ◌≤◌, ℕ, Bool, true, false, not, ◌&&◌, ◌||◌, length, List, [], ◌∷◌, ◌++◌, Option, Some, Contains, refl, ap, sym, subst, ◌∙◌, arith}
use Rattle.std.specs.Prelude.{◌==◌}
use Rattle.std.specs.List.{list_any}
use Rattle.std.specs.Option.{option_map_or}
use Rattle.std.specs.Str.{bytes_eq}
use Rattle.cpl_config.specs.declared.kind_words.KindWord.{KindWord}
use Rattle.cpl_config.specs.declared.kind_words.KindWord.TheVariants.{SerialExplicit, ParallelExplicit, SerialImplicit, ParallelImplicit, Multi}
use Rattle.cpl_config.specs.declared.kind_words.WindowWord.{WindowWord}
use Rattle.cpl_config.specs.declared.kind_words.WindowWord.TheVariants.{Fixed, FirstParticipant}
use Rattle.cpl_config.specs.declared.config.Config.{Config}
use Rattle.cpl_config.specs.declared.config.SchemeTable.{SchemeTable}
use Rattle.cpl_config.specs.declared.config.ExchangeEntry.{ExchangeEntry}
use Rattle.cpl_config.specs.SoundConfig.{IsSoundConfig}
use Rattle.mesh_rules.specs.Entries.{scheme}
use Rattle.config_rules.specs.Members.{goes_to_second}
use Rattle.config_rules.specs.WindowRules.{is_first_participant, is_serial_explicit, goes_forward, goes_nowhere, has_wrong_windows}
use Rattle.config_rules.specs.Circles.{is_empty}
use Rattle.config_rules.specs.ConfigRules.{IsAccepted}
use Rattle.config_rules.specs.declared.rules.ConfigRule.TheVariants.{WrongWindows}
use Rattle.config_laws.specs.FitSchemes.{HasWindowMaker}
use Rattle.config_laws.specs.FitConfig.{FitWindows}
use Rattle.config_laws.proofs.CyclesOf.{both_hold}
use Rattle.config_laws.proofs.KeptRules.{kept}
use Rattle.config_laws.proofs.Members.{any_at, any_found}
use Rattle.config_laws.proofs.Refuted.{either_false, not_false, one_without, at_test}
use Rattle.config_laws.proofs.Truths.{neither, both, holds, other_fails, same_text, text_same, holds_some}

-- the rule at a scheme

kept_scheme : (config : Config) → IsAccepted config → (before : List SchemeTable) (table : SchemeTable) (after : List SchemeTable) → config.scheme ≡ before ++ table ∷ after → has_wrong_windows config (scheme before table) ≡ false
kept_scheme config accepted before table after is = (((kept config accepted).schemes before table after is).own WrongWindows).2

kind_is : (kind : KindWord) → is_serial_explicit kind ≡ true → kind ≡ SerialExplicit
kind_is SerialExplicit h = refl
kind_is ParallelExplicit h = absurd (cc)
kind_is SerialImplicit h = absurd (cc)
kind_is ParallelImplicit h = absurd (cc)
kind_is Multi h = absurd (cc)

told_name : (o : Option (List ℕ)) (name : List ℕ) → option_map_or (bytes_eq name) o false ≡ true → o ≡ Some name
told_name o name h =
    let found = holds_some (bytes_eq name) o h in
    found.1 ∙ ap (λ (text : List ℕ). Some text) (sym (same_text name found.0 found.2))

maker_of : (config : Config) (table : SchemeTable) → config.scheme ≡ table ∷ [] → is_first_participant config.window_method ≡ true → has_wrong_windows config (scheme [] table) ≡ false → HasWindowMaker config
maker_of config table alone method rule =
    let forward : Bool = list_any (goes_forward table) table.exchange in
    let rest = other_fails (is_first_participant config.window_method) (false || (not (is_serial_explicit table.kind) || goes_nowhere config table)) rule method in
    let parts = neither (not (is_serial_explicit table.kind)) (goes_nowhere config table) rest in
    let one : (length config.scheme == 1) ≡ true = ap (λ (tables : List SchemeTable). length tables == 1) alone in
    let goes : forward ≡ true = holds forward (other_fails (length config.scheme == 1) (not forward) parts.1 one) in
    let found = any_found (goes_forward table) table.exchange goes in
    let ends = both (option_map_or (bytes_eq found.0.from) table.first false) (goes_to_second table found.0) found.2 in
    record {
      table = table;
      alone = alone;
      serial_explicit = kind_is table.kind (holds (is_serial_explicit table.kind) parts.0);
      forward = found.0;
      there = found.1;
      from_first = told_name table.first found.0.from ends.0;
      to_second = told_name table.second found.0.to ends.1;
    }

by_schemes : (config : Config) → IsAccepted config → (tables : List SchemeTable) → config.scheme ≡ tables → 1 ≤ length tables → is_first_participant config.window_method ≡ true → HasWindowMaker config
by_schemes config accepted [] is some method = absurd (omega (arith, some))
by_schemes config accepted (table ∷ []) is some method = maker_of config table is method (kept_scheme config accepted [] table [] is)
by_schemes config accepted (table ∷ other ∷ more) is some method =
    let rule = kept_scheme config accepted (table ∷ []) other more is in
    let fails = other_fails (is_first_participant config.window_method) (true || (not (is_serial_explicit other.kind) || goes_nowhere config other)) rule method in
    absurd (cc)

pub windows : (config : Config) → IsSoundConfig config → IsAccepted config → FitWindows config
windows config sound accepted is = by_schemes config accepted config.scheme refl sound.a_scheme (ap is_first_participant is)

-- and back

none_before : {X : Type 0} (one : X) (before : List X) (x : X) (after : List X) → one ∷ [] ≡ before ++ x ∷ after → (before ≡ []) × (one ≡ x)
none_before one [] x after is = (refl, cc)
none_before one (y ∷ []) x after is = absurd (cc)
none_before one (y ∷ z ∷ before) x after is = absurd (cc)

forward_told : (table : SchemeTable) (entry : ExchangeEntry) → table.first ≡ Some entry.from → table.second ≡ Some entry.to → goes_forward table entry ≡ true
forward_told table entry first second =
    both_hold (option_map_or (bytes_eq entry.from) table.first false) (goes_to_second table entry)
    (at_test (bytes_eq entry.from) table.first entry.from true first (text_same entry.from entry.from refl))
    (at_test (bytes_eq entry.to) table.second entry.to true second (text_same entry.to entry.to refl))

maker_fine : (config : Config) (maker : HasWindowMaker config) → has_wrong_windows config (scheme [] maker.table) ≡ false
maker_fine config maker =
    let table = maker.table in
    let forward : Bool = list_any (goes_forward table) table.exchange in
    let goes : forward ≡ true = any_at (goes_forward table) table.exchange maker.forward maker.there (forward_told table maker.forward maker.from_first maker.to_second) in
    let kind : is_serial_explicit table.kind ≡ true = ap is_serial_explicit maker.serial_explicit in
    one_without (is_first_participant config.window_method) (false || (not (is_serial_explicit table.kind) || goes_nowhere config table))
    (λ method. either_false (not (is_serial_explicit table.kind)) (goes_nowhere config table) (not_false (is_serial_explicit table.kind) kind)
    (one_without (length config.scheme == 1) (not forward) (λ one. not_false forward goes)))

fine_by : (config : Config) → FitWindows config → (method : WindowWord) → config.window_method ≡ method → (before : List SchemeTable) (table : SchemeTable) (after : List SchemeTable) → config.scheme ≡ before ++ table ∷ after
    → has_wrong_windows config (scheme before table) ≡ false
fine_by config fits Fixed is before table after split = ap (λ word. is_first_participant word && (not (is_empty before) || (not (is_serial_explicit table.kind) || goes_nowhere config table))) is
fine_by config fits FirstParticipant is before table after split =
    let maker = fits is in
    let places = none_before maker.table before table after (sym maker.alone ∙ split) in
    subst (λ (earlier : List SchemeTable). has_wrong_windows config (scheme earlier table) ≡ false) (sym places.0)
    (subst (λ (one : SchemeTable). has_wrong_windows config (scheme [] one) ≡ false) places.1 (maker_fine config maker))

pub windows_fine : (config : Config) → FitWindows config → (before : List SchemeTable) (table : SchemeTable) (after : List SchemeTable) → config.scheme ≡ before ++ table ∷ after → has_wrong_windows config (scheme before table) ≡ false
windows_fine config fits before table after split = fine_by config fits config.window_method refl before table after split
