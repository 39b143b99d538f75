-- What is kept of the participants answers as the state does.
use Rattle.std.proofs.Common.{◌≡◌, ℕ, zero, suc, ◌-◌, ◌<◌, ◌≤◌, Bool, false, ◌&&◌, if◌then◌else◌, nat_le, nat_lt, List, [], ◌∷◌, take, length, slice_get, Option, Some, None, is_some, option_map, refl, sym, ap, ◌∙◌, arith}
use Rattle.std.specs.Option.{option_map_or}
use Rattle.cpl_plan.specs.ValidPlan.{IsValidPlan}
use Rattle.cpl_plan.specs.Windows.{start_by, end_by, is_window, window_start, window_end}
use Rattle.cpl_plan.specs.declared.parts.PlanParts.{PlanParts}
use Rattle.cpl_plan.specs.declared.parts.WindowMethod.{WindowMethod}
use Rattle.cpl_plan.specs.declared.parts.WindowMethod.TheVariants.{Fixed, FirstParticipant}
use Rattle.cpl_plan.specs.declared.words.Fault.{Fault}
use Rattle.coupled_loop.specs.Endings.{Ending as LoopEnding}
use Rattle.coupled_loop.specs.CoreState.{has_ended, look_in}
use Rattle.coupled_loop.specs.CoreStep.{cut_by, waits_for}
use Rattle.coupled_loop.specs.PlanFrames.{window_maker, ends_made}
use Rattle.wave_coupling.specs.Posts.{newest_time}
use Rattle.wave_coupling.specs.Coupling.{wave_frame}
use Rattle.core_sides.specs.CoreWords.{WaveState}
use Rattle.core_sides.specs.Answers.{ending_of, next_kind_at, next_kind_in, ending_in, position_in, enabled_by, enabled_in, window_end_in}
use Rattle.core_sides.specs.KeptSides.{kept_turn, kept_search_at, kept_next_kind_at, kept_next_kind, kept_enabled_by, kept_enabled}
use Rattle.core_sides.specs.SidesStand.{place_of, IsStanding, AreStanding}
use Rattle.core_sides.specs.declared.event.Enabled.{Enabled}
use Rattle.core_sides.specs.declared.event.Enabled.TheVariants.{Missing, Ended}
use Rattle.core_sides.specs.declared.event.NextKind.{NextKind}
use Rattle.core_sides.specs.declared.event.NextKind.TheVariants.{Take, End, None as NoNext}
use Rattle.core_sides.specs.declared.search.Search.{Search}
use Rattle.core_sides.specs.declared.sides.Sides.{Sides}
use Rattle.core_sides.specs.declared.standing.Place.{Place as KeptPlace}
use Rattle.core_sides.specs.declared.standing.Place.TheVariants.{Sending, Collecting, Opening, Taking, Within, Judging}
use Rattle.core_sides.specs.declared.standing.Standing.{Standing}
use Rattle.core_sides.proofs.Aligned.{IsTold}
use Rattle.core_sides.proofs.KeptTells.{there_is, turn_is}
use Rattle.core_sides.proofs.AsksTell.{search_is}

-- an end that was made, of the first ends
taken_at : (ends : List ℕ) (n k : ℕ) → k < n → slice_get (take n ends) k ≡ slice_get ends k
taken_at [] zero k less = absurd (omega (arith, less))
taken_at [] (suc n) k less = refl
taken_at (x ∷ ends) zero k less = absurd (omega (arith, less))
taken_at (x ∷ ends) (suc n) zero less = refl
taken_at (x ∷ ends) (suc n) (suc k) less = taken_at ends n k (omega (arith, less))

start_of_first : (size : ℕ) (ends : List ℕ) (w : ℕ) → start_by FirstParticipant size (take w ends) w ≡ start_by FirstParticipant size ends w
start_of_first size ends zero = refl
start_of_first size ends (suc zero) = refl
start_of_first size ends (suc (suc before)) = taken_at ends (suc (suc before)) before (omega arith)

module _ (plan : PlanParts) (kept : Sides) (sides : WaveState) (standing : AreStanding plan kept sides) where
  -- where a window starts and ends, by the ends that were made up to it
  pub starts_as : (w : ℕ) → window_start plan (ends_made newest_time (look_in sides) (window_maker plan) w) w ≡ window_start plan kept.ends.items w
  starts_as w = by plan.method refl where
    fixed_start : (ends others : List ℕ) (v : ℕ) → start_by Fixed plan.window ends v ≡ start_by Fixed plan.window others v
    fixed_start ends others zero = refl
    fixed_start ends others (suc v) = refl

    by : (m : WindowMethod) → plan.method ≡ m
        → start_by plan.method plan.window (ends_made newest_time (look_in sides) (window_maker plan) w) w ≡ start_by plan.method plan.window kept.ends.items w
    by Fixed fixed = rw fixed (fixed_start (ends_made newest_time (look_in sides) (window_maker plan) w) kept.ends.items w)
    by FirstParticipant made =
        rw made (ap (λ (ends : List ℕ). start_by FirstParticipant plan.window ends w) (standing.ends made w) ∙ start_of_first plan.window kept.ends.items w)

  there_as : (w : ℕ) → is_window plan (ends_made newest_time (look_in sides) (window_maker plan) w) w ≡ is_window plan kept.ends.items w
  there_as w = ap (λ (o : Option ℕ). nat_le w plan.most_windows && option_map_or (λ start. nat_lt start plan.end_time) o false) (starts_as w)

  ends_as : (w : ℕ) → 1 ≤ w
      → end_by plan.method plan.window plan.end_time (ends_made newest_time (look_in sides) (window_maker plan) w) w ≡ end_by plan.method plan.window plan.end_time kept.ends.items w
  ends_as w some = by plan.method refl where
    by : (m : WindowMethod) → plan.method ≡ m
        → end_by plan.method plan.window plan.end_time (ends_made newest_time (look_in sides) (window_maker plan) w) w ≡ end_by plan.method plan.window plan.end_time kept.ends.items w
    by Fixed fixed = rw fixed refl
    by FirstParticipant made =
        rw made (ap (λ (ends : List ℕ). slice_get ends (w - 1)) (standing.ends made w) ∙ taken_at kept.ends.items w (w - 1) (omega (arith, some)))

  pub window_end_is : (w : ℕ) → 1 ≤ w → window_end plan kept.ends.items w ≡ window_end_in plan sides w
  window_end_is w some =
      ap (λ (b : Bool). if b then end_by plan.method plan.window plan.end_time kept.ends.items w else None) (sym (there_as w))
      ∙ ap (λ (o : Option ℕ). if is_window plan (ends_made newest_time (look_in sides) (window_maker plan) w) w then o else None) (sym (ends_as w some))

  module _ (p : ℕ) (s : Standing) (at : slice_get kept.standings.items p ≡ Some s) where
    is_now : IsStanding s (sides p)
    is_now = standing.each p s at

    pub ended_as : is_some s.ending ≡ has_ended (sides p)
    ended_as = ap (λ o. is_some o) is_now.ending ∙ mapped (sides p).ending where
      mapped : (o : Option (LoopEnding Fault)) → is_some (option_map ending_of o) ≡ is_some o
      mapped (Some x) = refl
      mapped None = refl

    kind_at : (place : KeptPlace) → kept_next_kind_at plan kept p place ≡ next_kind_at plan sides p (place_of place)
    kind_at Sending = refl
    kind_at Collecting = refl
    kind_at Opening = refl
    kind_at (Taking w k) = ap (λ (b : Bool). if b then Take else End) (there_is plan kept sides standing w)
    kind_at (Within w k) = refl
    kind_at (Judging scheme w k) = refl

    pub next_kind_is : kept_next_kind plan kept p s ≡ next_kind_in plan sides p
    next_kind_is =
        ap (λ (b : Bool). if b then NoNext else kept_next_kind_at plan kept p s.place) ended_as
        ∙ ap (λ (kind : NextKind). if has_ended (sides p) then NoNext else kind) (kind_at s.place ∙ ap (next_kind_at plan sides p) (sym is_now.place))

    pub ending_is : s.ending ≡ ending_in plan sides p
    ending_is = is_now.ending

    pub position_is : kept_turn kept p ≡ position_in plan sides p
    position_is = turn_is plan kept sides standing p

    module _ (valid : IsValidPlan plan) (told : IsTold (wave_frame plan) sides) (below : p < length plan.parts) where
      enabled_same : (who owner : Option ℕ) → kept_enabled_by plan kept p who owner ≡ enabled_by plan sides p who owner
      enabled_same (Some who) owner = refl
      enabled_same None (Some owner) = ap (λ (turn : ℕ × ℕ). Missing owner turn.0 turn.1) (turn_is plan kept sides standing owner)
      enabled_same None None = refl

      pub enabled_is : kept_enabled plan kept p s ≡ enabled_in plan sides p
      enabled_is =
          ap (λ (b : Bool). if b then Ended else kept_enabled_by plan kept p (kept_search_at plan kept p s.place).cut (kept_search_at plan kept p s.place).waits) ended_as
          ∙ ap (λ (e : Enabled). if has_ended (sides p) then Ended else e)
          (ap (λ (search : Search). kept_enabled_by plan kept p search.cut search.waits) (search_is plan kept sides standing valid told p s.place below is_now.place)
          ∙ enabled_same (cut_by (wave_frame plan) sides p) (waits_for (wave_frame plan) sides p))
