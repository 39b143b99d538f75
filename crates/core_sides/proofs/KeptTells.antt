-- What is kept of the participants tells what the state does.
use Rattle.std.proofs.Common.{◌≡◌, ℕ, zero, suc, ◌-◌, ◌<◌, ◌≤◌, false, ◌&&◌, nat_le, nat_lt, List, [], ◌∷◌, take, length, map, slice_get, Option, Some, None, is_some, option_map, refl, sym, ap, ◌∙◌, arith, Contains}
use Rattle.std.specs.Option.{option_map_or}
use Rattle.plan_order.proofs.Loops.{head_in, tail_in}
use Rattle.cpl_plan.specs.ValidPlan.{IsValidPlan}
use Rattle.cpl_plan.specs.Windows.{start_by, is_window}
use Rattle.cpl_plan.specs.declared.parts.PlanParts.{PlanParts}
use Rattle.cpl_plan.specs.declared.parts.WindowMethod.{WindowMethod}
use Rattle.cpl_plan.specs.declared.parts.WindowMethod.TheVariants.{Fixed, FirstParticipant}
use Rattle.cpl_plan.specs.declared.words.Fault.{Fault}
use Rattle.cpl_plan.specs.declared.words.Item.{Item}
use Rattle.cpl_plan.specs.declared.words.Item.TheVariants.{Completed, Posted}
use Rattle.coupled_loop.specs.Given.{has_given}
use Rattle.coupled_loop.specs.Endings.{Ending as LoopEnding}
use Rattle.coupled_loop.specs.CoreState.{has_ended, look_in, start_side, turn_at}
use Rattle.coupled_loop.specs.PlanFrames.{window_maker, ends_made, is_told, group_of}
use Rattle.core_laws.proofs.PlanSound.{plan_sound}
use Rattle.core_laws.proofs.PlanWindows.{fixed_told}
use Rattle.wave_coupling.specs.Posts.{newest_time}
use Rattle.wave_coupling.specs.Coupling.{wave_frame, exchanged}
use Rattle.core_sides.specs.CoreWords.{WaveState, WaveSide}
use Rattle.core_sides.specs.Answers.{ending_of}
use Rattle.core_sides.specs.KeptPlaces.{given_at, turn_of}
use Rattle.core_sides.specs.KeptSides.{kept_ended, kept_sent, kept_given, kept_turn}
use Rattle.core_sides.specs.SidesStand.{place_of, IsStanding, AreStanding}
use Rattle.core_sides.specs.declared.sides.Sides.{Sides}
use Rattle.core_sides.specs.declared.standing.Place.{Place as KeptPlace}
use Rattle.core_sides.specs.declared.standing.Place.TheVariants.{Sending, Collecting, Opening, Taking, Within, Judging}
use Rattle.core_sides.specs.declared.standing.Standing.{Standing}
use Rattle.core_sides.proofs.Aligned.{IsTold}
use Rattle.core_sides.proofs.PlaceTells.{completed_at, posted_at}

-- windows are told by the ends that were made, however many there are
start_of_taken : (size : ℕ) (ends : List ℕ) (w : ℕ) → start_by FirstParticipant size (take (w - 1) ends) w ≡ start_by FirstParticipant size ends w
start_of_taken size ends zero = refl
start_of_taken size ends (suc zero) = refl
start_of_taken size ends (suc (suc before)) = (let less : suc (suc before) - 1 ≡ suc before = omega arith in ap (λ (n : ℕ). slice_get (take n ends) before) less ∙ taken ends before) where
  taken : (xs : List ℕ) (n : ℕ) → slice_get (take (suc n) xs) n ≡ slice_get xs n
  taken [] n = refl
  taken (x ∷ xs) zero = refl
  taken (x ∷ xs) (suc n) = taken xs n

pub same_in : {X Y : Type 0} (f g : X → Y) (xs : List X) → ((x : X) → Contains xs x → f x ≡ g x) → map f xs ≡ map g xs
same_in f g [] same = refl
same_in f g (x ∷ xs) same = ap (λ y. y ∷ map f xs) (same x (head_in x xs)) ∙ ap (λ ys. g x ∷ ys) (same_in f g xs (λ y inside. same y (tail_in x xs y inside)))

module _ (plan : PlanParts) (kept : Sides) (sides : WaveState) (standing : AreStanding plan kept sides) where
  of_each : {X : Type 0} (of_side : WaveSide → X) (of_kept : Standing → X) (none : X) → ((s : Standing) (p : ℕ) → IsStanding s (sides p) → of_kept s ≡ of_side (sides p)) → of_side start_side ≡ none
      → (p : ℕ) → option_map_or of_kept (slice_get kept.standings.items p) none ≡ of_side (sides p)
  of_each {X} of_side of_kept none same start p = by (slice_get kept.standings.items p) refl where
    by : (o : Option Standing) → slice_get kept.standings.items p ≡ o → option_map_or of_kept o none ≡ of_side (sides p)
    by (Some s) e = same s p (standing.each p s e)
    by None e = sym start ∙ ap of_side (sym (standing.others p e))

  pub ended_is : (p : ℕ) → kept_ended kept p ≡ has_ended (sides p)
  ended_is p = of_each has_ended (λ s. is_some s.ending) false (λ s q is. ap (λ o. is_some o) is.ending ∙ mapped (sides q).ending) refl p where
    mapped : (o : Option (LoopEnding Fault)) → is_some (option_map ending_of o) ≡ is_some o
    mapped (Some x) = refl
    mapped None = refl

  pub sent_is : (p : ℕ) → kept_sent kept p ≡ is_some (sides p).sent
  sent_is p = of_each (λ side. is_some side.sent) (λ s. is_some s.sent) false (λ s q is. ap (λ o. is_some o) is.sent) refl p

  turns_same : (place : KeptPlace) → turn_of place ≡ turn_at (place_of place)
  turns_same Sending = refl
  turns_same Collecting = refl
  turns_same Opening = refl
  turns_same (Taking w k) = refl
  turns_same (Within w k) = refl
  turns_same (Judging scheme w k) = refl

  pub turn_is : (p : ℕ) → kept_turn kept p ≡ turn_at (sides p).place
  turn_is p = of_each (λ side. turn_at side.place) (λ s. turn_of s.place) (0, 0) (λ s q is. turns_same s.place ∙ ap turn_at (sym is.place)) refl p

  -- there is a window
  pub there_is : (w : ℕ) → is_window plan kept.ends.items w ≡ (wave_frame plan).is_there (look_in sides) w
  there_is w = by plan.method refl where
    by : (m : WindowMethod) → plan.method ≡ m → is_window plan kept.ends.items w ≡ is_told plan newest_time (look_in sides) w
    by Fixed fixed = fixed_told plan kept.ends.items (ends_made newest_time (look_in sides) (window_maker plan) (w - 1)) w fixed
    by FirstParticipant made =
        ap (λ o. nat_le w plan.most_windows && option_map_or (λ start. nat_lt start plan.end_time) o false)
        (ap (λ m. start_by m plan.window kept.ends.items w) made ∙ sym (start_of_taken plan.window kept.ends.items w)
        ∙ ap (λ ends. start_by FirstParticipant plan.window ends w) (sym (standing.ends made (w - 1)))
        ∙ ap (λ m. start_by m plan.window (ends_made newest_time (look_in sides) (window_maker plan) (w - 1)) w) (sym made))

  -- items that were given
  module _ (valid : IsValidPlan plan) (told : IsTold (wave_frame plan) sides) where
    given_of : (p : ℕ) (item : Item) → ((place : KeptPlace) → (sides p).place ≡ place_of place → has_given (look_in sides) p item ≡ given_at place item)
        → kept_given kept p item ≡ has_given (look_in sides) p item
    given_of p item tells = by (slice_get kept.standings.items p) refl where
      by : (o : Option Standing) → slice_get kept.standings.items p ≡ o → option_map_or (λ s. given_at s.place item) o false ≡ has_given (look_in sides) p item
      by (Some s) e = sym (tells s.place (standing.each p s e).place)
      by None e = sym (tells Sending (ap (λ side. side.place) (standing.others p e)))

    pub completed_is : (p v : ℕ) → kept_given kept p (Completed v) ≡ has_given (look_in sides) p (Completed v)
    completed_is p v = given_of p (Completed v) (λ place at. completed_at (wave_frame plan) (plan_sound plan (exchanged plan) valid) sides told p place at v)

    -- the turn at which a member stands, of another member
    pub posted_is : (scheme one p w k : ℕ) → one < length plan.parts → p < length plan.parts → group_of plan one ≡ Some scheme → group_of plan p ≡ Some scheme
        → turn_at (sides one).place ≡ (w, k) → 1 ≤ w → 1 ≤ k → kept_given kept p (Posted w k) ≡ has_given (look_in sides) p (Posted w k)
    posted_is scheme one p w k is_one is_p one_in p_in at window iteration =
        given_of p (Posted w k) (posted_at (wave_frame plan) (plan_sound plan (exchanged plan) valid) sides told scheme one p w k is_one is_p one_in p_in at window iteration)
