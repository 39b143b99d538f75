-- Steps in a window, without a quotient.
use Rattle.std.proofs.Common.{◌≡◌, sym, refl, ◌∙◌, ℕ, ◌+◌, ◌-◌, ◌*◌, ◌<◌, ◌≤◌, ◌^◌, Bool, true, false, not, ◌&&◌, List, Option, Some, None, ap, ℤ, pos, negsuc, ◌≤ℤ◌, arith}
use lib.Dec.{leb→le}
use Rattle.std.specs.Prelude.{unsigned_abs, nat_lt, IsFalse}
use Rattle.std.specs.Option.{option_map_or}
use Rattle.std.specs.Str.{bytes_eq}
use Rattle.std.proofs.lemmas.Slice.Eq.{bytes_eq-Decides}
use Rattle.std.proofs.lemmas.Bool.{and_parts, leb-true, ltb-true, ltb-false, lt-ltb, le-ltb}
use Rattle.std.proofs.lemmas.Nat.{le-div, div_below}
use Rattle.cpl_tables.specs.declared.shapes.Range.TheVariants.{Between}
use Rattle.cpl_config.specs.SoundConfig.{IsIn}
use Rattle.case_files.specs.declared.case_file.CaseFile.{CaseFile}
use Rattle.case_files.specs.SoundCase.{IsSoundCaseFile}
use Rattle.cpl_config.specs.declared.kind_words.WindowWord.{WindowWord}
use Rattle.cpl_config.specs.declared.kind_words.WindowWord.TheVariants.{Fixed, FirstParticipant}
use Rattle.cpl_config.specs.declared.config.Config.{Config}
use Rattle.cpl_config.specs.declared.config.PartTable.{PartTable}
use Rattle.cpl_config.specs.declared.config.SchemeTable.{SchemeTable}
use Rattle.case_rules.specs.CaseRules.{steps_in, makes_windows, takes_too_many_steps}
use Rattle.case_rules.specs.SuitedCases.{MakesWindows}
use Rattle.case_rules.proofs.Passing.{any_passes, passes_any}

some_step : (most : ℕ) (step : ℤ) → IsIn (Between 1 most) step → 1 ≤ unsigned_abs step
some_step most (pos n) within = leb-true 1 n (and_parts _ _ within).0
some_step most (negsuc n) within = cc

-- more steps are needed than so many where these end before the window does
more_than : (count window step : ℕ) → 1 ≤ step → count * step < window → count < steps_in window step
more_than count window step some over =
    let next : (count + 1) * step ≤ window + (step - 1) = omega (arith, some, over) in
    let held : count + 1 ≤ steps_in window step = le-div (count + 1) (window + (step - 1)) step (omega (arith, some)) next in
    omega (arith, held)

not_more : (count window step : ℕ) → 1 ≤ step → window ≤ count * step → steps_in window step ≤ count
not_more count window step some within =
    let next : window + (step - 1) < (count + 1) * step = omega (arith, some, within) in
    let held : steps_in window step < count + 1 = div_below (window + (step - 1)) step (count + 1) (omega (arith, some)) next in
    omega (arith, held)

-- a window has more steps than so many where these end before it does
pub more_steps : (count window step : ℕ) → 1 ≤ step → nat_lt (count * step) window ≡ nat_lt count (steps_in window step)
more_steps count window step some =
    elim (nat_lt (count * step) window) as (λ b. nat_lt (count * step) window ≡ b → b ≡ nat_lt count (steps_in window step)) [
      | true ↦ λ e. sym (lt-ltb count (steps_in window step) (more_than count window step some (ltb-true (count * step) window e)))
      | false ↦ λ e. sym (le-ltb count (steps_in window step) (not_more count window step some (ltb-false (count * step) window e)))
    ] refl

pub a_step : (case_file : CaseFile) → IsSoundCaseFile case_file → 1 ≤ unsigned_abs case_file.step
a_step case_file sound = some_step (10 ^ 9) case_file.step sound.step

tick_from : (step : ℤ) → pos 1 ≤ℤ step → 1 ≤ unsigned_abs step
tick_from (pos n) h = leb→le 1 n h.le
tick_from (negsuc n) h = absurd h.le

-- who makes the windows

named : (name : List ℕ) (first : Option (List ℕ)) → option_map_or (bytes_eq name) first false ≡ true → first ≡ Some name
named name None h = absurd (cc)
named name (Some other) h = ap Some (sym ((bytes_eq-Decides name other).0 h))

is_named : (name : List ℕ) (first : Option (List ℕ)) → first ≡ Some name → option_map_or (bytes_eq name) first false ≡ true
is_named name first h = ap (λ o. option_map_or (bytes_eq name) o false) h ∙ (bytes_eq-Decides name name).1 refl

makes_by : (config : Config) (part : PartTable) (method : WindowWord) → config.window_method ≡ method → makes_windows method config part ≡ true → MakesWindows config part
makes_by config part Fixed is h = absurd (cc)
makes_by config part FirstParticipant is h = (is, any_passes (λ (scheme : SchemeTable). option_map_or (bytes_eq part.name) scheme.first false) (λ (scheme : SchemeTable). scheme.first ≡ Some part.name) (λ scheme. named part.name scheme.first) config.scheme h)

made_by : (config : Config) (part : PartTable) → MakesWindows config part → makes_windows config.window_method config part ≡ true
made_by config part h =
    ap (λ method. makes_windows method config part) h.0
    ∙ passes_any (λ (scheme : SchemeTable). option_map_or (bytes_eq part.name) scheme.first false) (λ (scheme : SchemeTable). scheme.first ≡ Some part.name) (λ scheme. is_named part.name scheme.first) config.scheme h.1

unless_made : (made many : Bool) → (not made && many) ≡ false → (made ≡ true → ⊥) → many ≡ false
unless_made true many h none = absurd (none refl)
unless_made false many h none = h

either_way : (made many : Bool) → ((made ≡ true → ⊥) → many ≡ false) → (not made && many) ≡ false
either_way true many h = refl
either_way false many h = h (λ is. cc)

-- where a window takes at most 1,024 steps, they reach its end
pub steps_suffice : (config : Config) (part : PartTable) (case_file : CaseFile) → IsSoundCaseFile case_file → IsFalse (takes_too_many_steps config part case_file)
    → ¬ MakesWindows config part → unsigned_abs config.window ≤ 1024 * unsigned_abs case_file.step
steps_suffice config part case_file sound kept not_made =
    let window = unsigned_abs config.window in
    let step = unsigned_abs case_file.step in
    let few : nat_lt 1024 (steps_in window step) ≡ false =
    unless_made (makes_windows config.window_method config part) (nat_lt 1024 (steps_in window step)) kept (λ made. not_made (makes_by config part config.window_method refl made)) in
    ltb-false (1024 * step) window (more_steps 1024 window step (a_step case_file sound) ∙ few)

-- and where they reach it, it takes no more
pub steps_needed : (config : Config) (part : PartTable) (case_file : CaseFile) → pos 1 ≤ℤ case_file.step
    → (¬ MakesWindows config part → unsigned_abs config.window ≤ 1024 * unsigned_abs case_file.step) → IsFalse (takes_too_many_steps config part case_file)
steps_needed config part case_file tick few =
    let window = unsigned_abs config.window in
    let step = unsigned_abs case_file.step in
    either_way (makes_windows config.window_method config part) (nat_lt 1024 (steps_in window step))
    (λ none. le-ltb 1024 (steps_in window step) (not_more 1024 window step (tick_from case_file.step tick) (few (λ made. none (made_by config part made)))))
