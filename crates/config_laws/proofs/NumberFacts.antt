-- The times and the numbers of iterations of an accepted configuration.
use Rattle.std.proofs.Common.{◌≡◌, ℕ, ◌*◌, ◌^◌, ◌≤◌, true, inl, inr, List, Option, Some, None, IfSome, All, ℤ, pos, negsuc, refl, ap, sym, subst, ◌∙◌, arith}
use Rattle.std.specs.Prelude.{unsigned_abs, unwrap_or, nat_le}
use Rattle.std.specs.Option.{option_map_or}
use Rattle.std.proofs.lemmas.Bool.{leb-true}
use Rattle.std.proofs.lemmas.Nat.{mul-le}
use Rattle.cpl_tables.specs.Values.{is_in_range}
use Rattle.cpl_tables.specs.declared.shapes.Range.TheVariants.{Between}
use Rattle.cpl_plan.specs.ValidPlan.{IsCount}
use Rattle.cpl_config.specs.declared.kind_words.WindowWord.{WindowWord}
use Rattle.cpl_config.specs.declared.kind_words.WindowWord.TheVariants.{Fixed, FirstParticipant}
use Rattle.cpl_config.specs.declared.config.Config.{Config}
use Rattle.cpl_config.specs.declared.config.SchemeTable.{SchemeTable}
use Rattle.cpl_config.specs.SoundConfig.{IsIn, IsSoundScheme, IsSoundConfig}
use Rattle.config_rules.specs.Members.{is_implicit}
use Rattle.config_rules.specs.ConfigRules.{IsAccepted}
use Rattle.config_laws.specs.FitMeshes.{EndsBy}
use Rattle.config_laws.specs.FitSchemes.{RepeatsWindows, IsFitScheme}
use Rattle.config_laws.specs.FitNumbers.{end_ticks, HasFewWindows, HasTime, HasFewIterations, FewIterations}
use Rattle.config_laws.proofs.Splits.{each_weaker, each_all}
use Rattle.config_laws.proofs.Truths.{both}
use Rattle.config_laws.proofs.WholeFacts.{end, schemes}

-- a number from one to a limit
count_in : (most : ℕ) (z : ℤ) → is_in_range (Between 1 most) z ≡ true → IsCount most (unsigned_abs z)
count_in most (pos n) h = let parts = both (nat_le 1 n) (nat_le n most) h in (leb-true 1 n parts.0, leb-true n most parts.1)
count_in most (negsuc n) h = cc

count_of : (most : ℕ) (o : Option ℤ) (z : ℤ) → o ≡ Some z → IfSome o (IsIn (Between 1 most)) → IsCount most (unsigned_abs z)
count_of most o z is sound =
    let there : IfSome (Some z) (IsIn (Between 1 most)) = subst (λ (p : Option ℤ). IfSome p (IsIn (Between 1 most))) is sound in
    count_in most z there

ticks_of_time : (time windows : Option ℤ) (window t : ℤ) → time ≡ Some t → option_map_or (λ z. unsigned_abs z) time (option_map_or (λ n. unsigned_abs n * unsigned_abs window) windows 0) ≡ unsigned_abs t
ticks_of_time time windows window t is = ap (λ (o : Option ℤ). option_map_or (λ z. unsigned_abs z) o (option_map_or (λ n. unsigned_abs n * unsigned_abs window) windows 0)) is

ticks_of_windows : (time windows : Option ℤ) (window n : ℤ) → time ≡ None → windows ≡ Some n
    → option_map_or (λ z. unsigned_abs z) time (option_map_or (λ m. unsigned_abs m * unsigned_abs window) windows 0) ≡ unsigned_abs n * unsigned_abs window
ticks_of_windows time windows window n none is =
    ap (λ (o : Option ℤ). option_map_or (λ z. unsigned_abs z) o (option_map_or (λ m. unsigned_abs m * unsigned_abs window) windows 0)) none
    ∙ ap (λ (o : Option ℤ). option_map_or (λ m. unsigned_abs m * unsigned_abs window) o 0) is

-- so many windows of so many ticks
some_windows : (count window most longest : ℕ) → IsCount most count → IsCount longest window → IsCount (most * longest) (count * window) × (count * window ≤ most * window)
some_windows count window most longest counted long =
    let one : 1 * 1 ≤ count * window = mul-le 1 1 count window counted.0 long.0 in
    let within : count * window ≤ most * longest = mul-le count window most longest counted.1 long.1 in
    let under : count * window ≤ most * window = mul-le count window most window counted.1 (omega arith) in
    ((one, within), under)

-- the end, where it is told as a time, and where it is told as a number of windows
time_end : (config : Config) → IsSoundConfig config → (time : ℤ) → config.max_time ≡ Some time → (end_ticks config ≡ unsigned_abs time) × IsCount (10 ^ 15) (end_ticks config)
time_end config sound time told =
    let is : end_ticks config ≡ unsigned_abs time = ticks_of_time config.max_time config.max_windows config.window time told in
    (is, subst (λ (n : ℕ). IsCount (10 ^ 15) n) (sym is) (count_of (10 ^ 15) config.max_time time told sound.max_time))

windows_end : (config : Config) → IsSoundConfig config → (windows : ℤ) → config.max_time ≡ None → config.max_windows ≡ Some windows
    → IsCount (10 ^ 15) (end_ticks config) × (end_ticks config ≤ 10 ^ 6 * unsigned_abs config.window)
windows_end config sound windows none told =
    let is : end_ticks config ≡ unsigned_abs windows * unsigned_abs config.window = ticks_of_windows config.max_time config.max_windows config.window windows none told in
    let long : IsCount (10 ^ 9) (unsigned_abs config.window) = count_in (10 ^ 9) config.window sound.window in
    let all = some_windows (unsigned_abs windows) (unsigned_abs config.window) (10 ^ 6) (10 ^ 9) (count_of (10 ^ 6) config.max_windows windows told sound.max_windows) long in
    (subst (λ (n : ℕ). IsCount (10 ^ 15) n) (sym is) all.0, subst (λ (n : ℕ). n ≤ 10 ^ 6 * unsigned_abs config.window) (sym is) all.1)

some_end : (config : Config) → IsSoundConfig config → (time : Option ℤ) → config.max_time ≡ time → (windows : ℤ) → config.max_windows ≡ Some windows → IsCount (10 ^ 15) (end_ticks config)
some_end config sound None is windows told = (windows_end config sound windows is told).0
some_end config sound (Some time) is windows told = (time_end config sound time is).1

time_by : (config : Config) → IsSoundConfig config → (method : WindowWord) → EndsBy config method → IsCount (10 ^ 15) (end_ticks config) × HasFewWindows config method
time_by config sound Fixed (inl told) =
    let end = time_end config sound told.time told.told in
    (end.1, subst (λ (n : ℕ). n ≤ 10 ^ 6 * unsigned_abs config.window) (sym end.0) told.near)
time_by config sound Fixed (inr told) = windows_end config sound told.windows told.alone told.told
time_by config sound FirstParticipant told =
    let few : IsCount (10 ^ 6) (unsigned_abs told.windows) = count_of (10 ^ 6) config.max_windows told.windows told.told sound.max_windows in
    (some_end config sound config.max_time refl told.windows told.told, record { windows = told.windows; told = told.told; few = few })

pub time : (config : Config) → IsSoundConfig config → IsAccepted config → HasTime config
time config sound accepted =
    let parts = time_by config sound config.window_method (end config accepted) in
    record { window = count_in (10 ^ 9) config.window sound.window; end = parts.0; windows = parts.1 }

-- iterations

least_of : (least : Option ℤ) → IfSome least (IsIn (Between 1 1000)) → 1 ≤ unsigned_abs (unwrap_or least (pos 1))
least_of None sound = omega arith
least_of (Some z) sound = (count_in 1000 z sound).0

few_of : (table : SchemeTable) → RepeatsWindows table → IsSoundScheme table → HasFewIterations table
few_of table repeats sound = record {
  greatest = repeats.iterations.greatest;
  told = repeats.iterations.told;
  one = least_of table.min_iterations sound.least;
  in_order = repeats.iterations.in_order;
  few = (count_of 1000 table.max_iterations repeats.iterations.greatest repeats.iterations.told sound.greatest).1;
}

pub iterations : (config : Config) → IsSoundConfig config → IsAccepted config → FewIterations config
iterations config sound accepted =
    let fits : All (λ table. IsSoundScheme table → is_implicit table ≡ true → HasFewIterations table) config.scheme =
    each_all (λ (table : SchemeTable). IsSoundScheme table → is_implicit table ≡ true → HasFewIterations table) config.scheme
    (each_weaker (IsFitScheme config) (λ (earlier : List SchemeTable) (table : SchemeTable). IsSoundScheme table → is_implicit table ≡ true → HasFewIterations table) config.scheme
    (λ earlier table fit sounds implicit. few_of table (fit.implicit implicit) sounds) (schemes config accepted)) in
    λ k d within. fits k d within (sound.schemes k d within)
