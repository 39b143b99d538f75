-- What is kept of the schemes stays true at every event.
use Rattle.std.proofs.Common.{◌≡◌, ℕ, suc, ◌+◌, ◌<◌, ◌≤◌, ◌⊎◌, inl, inr, List, length, slice_get, Option, Some, None, refl, sym, ap, subst, ◌∙◌, arith}
use Rattle.std.proofs.lemmas.Bool.{cases_eq}
use Rattle.cpl_plan.specs.ValidPlan.{IsValidPlan}
use Rattle.cpl_plan.specs.declared.parts.PlanParts.{PlanParts}
use Rattle.cpl_plan.specs.declared.parts.Scheme.{Scheme}
use Rattle.cpl_plan.specs.declared.words.Fault.{Fault}
use Rattle.coupled_loop.specs.Numbered.{put}
use Rattle.coupled_loop.specs.Endings.{Judgement, again, converged, at_limit, refused}
use Rattle.coupled_loop.specs.CoreState.{Place, judging, look_in, turn_at}
use Rattle.coupled_loop.specs.CoreStep.{after_judgement}
use Rattle.coupled_loop.specs.PlanFrames.{group_of}
use Rattle.coupled_loop.specs.Settled.{Extends}
use Rattle.core_laws.proofs.Growth.{step_extends}
use Rattle.core_laws.proofs.KeptPlaces.{posted_below_kept}
use Rattle.core_laws.proofs.Looks.{extends_itself, extends_further}
use Rattle.core_laws.proofs.PlanSound.{plan_sound}
use Rattle.core_laws.proofs.Puts.{put_same, put_other}
use Rattle.core_laws.proofs.Steps.{made_by}
use Rattle.wave_coupling.specs.Coupling.{wave_frame, exchanged, start_of, judge_of}
use Rattle.wave_laws.proofs.InputsStay.{starts_same}
use Rattle.wave_laws.proofs.Settling.{wave_settled}
use Rattle.group_course.specs.CourseTells.{CourseTells}
use Rattle.core_sides.specs.CoreWords.{WaveState, WaveSide, WaveAct, WaveReply, WaveEntry, wave_step}
use Rattle.core_sides.specs.Reached.{IsReached}
use Rattle.core_sides.proofs.Aligned.{IsTold, step_told}
use Rattle.core_sides.proofs.Histories.{reached_told}
use Rattle.core_schemes.specs.declared.schemes.LastJudged.{LastJudged}
use Rattle.core_schemes.specs.declared.schemes.SchemeState.{SchemeState}
use Rattle.core_schemes.specs.SchemesStand.{IsNextTurn, AreUnjudged, IsLastJudged, IsSchemeOf, AreSchemes}
use Rattle.core_schemes.specs.Judging.{IsOfTurn, IsHeard}
use Rattle.core_schemes.proofs.TurnMoves.{Hears, Moves, turn_moves}
use Rattle.core_schemes.proofs.LaterCourses.{course_later}

-- the turn of who is told a judgement
pub heard_turn : (judgement : Judgement Fault) (w k : ℕ) (side : WaveSide) → turn_at side.place ≡ (w, k)
    → (turn_at (after_judgement judgement w k side).place ≡ (w, k)) ⊎ IsNextTurn judgement w k (turn_at (after_judgement judgement w k side).place)
heard_turn again w k side at = inr refl
heard_turn converged w k side at = inr refl
heard_turn at_limit w k side at = inr refl
heard_turn (refused fault) w k side at = inl at

-- no turn comes before the first
pub never_opening : (judgement : Judgement Fault) (w k : ℕ) (turn : ℕ × ℕ) → 1 ≤ w → (turn ≡ (w, k)) ⊎ IsNextTurn judgement w k turn → turn ≡ (0, 0) → ⊥
never_opening judgement w k turn some (inl here) opens = let none : 0 ≡ w = ap (λ (t : ℕ × ℕ). t.0) (sym opens ∙ here) in omega (arith, some, none)
never_opening again w k turn some (inr next) opens = let none : 0 ≡ w = ap (λ (t : ℕ × ℕ). t.0) (sym opens ∙ next) in omega (arith, some, none)
never_opening converged w k turn some (inr next) opens = let none : 0 ≡ w + 1 = ap (λ (t : ℕ × ℕ). t.0) (sym opens ∙ next) in omega (arith, none)
never_opening at_limit w k turn some (inr next) opens = let none : 0 ≡ w + 1 = ap (λ (t : ℕ × ℕ). t.0) (sym opens ∙ next) in omega (arith, none)
never_opening (refused fault) w k turn some (inr next) opens = next

module _ (plan : PlanParts) (valid : IsValidPlan plan) (sides : WaveState) (told : IsTold (wave_frame plan) sides) (part : ℕ) (is_part : part < length plan.parts)
    (act : WaveAct) (reply : WaveReply) (side : WaveSide) (made : wave_step plan sides part act ≡ Some (reply, side)) where
  extends : Extends (look_in sides) (look_in (put sides part side))
  extends = step_extends (wave_frame plan) sides part act reply side made

  told_after : IsTold (wave_frame plan) (put sides part side)
  told_after = step_told (wave_frame plan) (plan_sound plan (exchanged plan) valid) (wave_settled plan valid) sides part act reply side is_part made told

  -- a fact of each member's turn after the event
  each_turn : (number : ℕ) (Holds : ℕ × ℕ → Type 0) → ((one : ℕ) → one < length plan.parts → group_of plan one ≡ Some number → Holds (turn_at (sides one).place))
      → (group_of plan part ≡ Some number → Holds (turn_at (sides part).place) → Moves (wave_frame plan) sides part number act side → Holds (turn_at side.place))
      → (one : ℕ) → one < length plan.parts → group_of plan one ≡ Some number → Holds (turn_at (put sides part side one).place)
  each_turn number Holds before own one below grouped = elim (cases_eq one part) [
    | inl same ↦
        let in_it : group_of plan part ≡ Some number = subst (λ (q : ℕ). group_of plan q ≡ Some number) same grouped in
        subst (λ (q : ℕ). Holds (turn_at (put sides part side q).place)) (sym same)
        (subst (λ (s : WaveSide). Holds (turn_at s.place)) (sym (put_same sides part side))
        (own in_it (before part is_part in_it)
        (turn_moves (wave_frame plan) sides part number in_it (sides part).place refl (told.well.stands part) act reply side (made_by (wave_frame plan) sides part act (reply, side) made).1)))
    | inr apart ↦ subst (λ (s : WaveSide). Holds (turn_at s.place)) (sym (put_other sides part side one apart)) (before one below grouped)
  ]

  module _ (schemes : List SchemeState) (heard : IsHeard schemes (sides part).place act) (number : ℕ) (state : SchemeState) (there : slice_get schemes number ≡ Some state) where
    -- who hears a judgement hears the last one of its scheme
    heard_last : (hears : Hears (wave_frame plan) sides part number act side) → IsOfTurn hears.window hears.iteration state.last
    heard_last hears =
        subst (λ (a : WaveAct). IsHeard schemes (judging number hears.window hears.iteration) a) hears.act_is
        (subst (λ (p : Place). IsHeard schemes p act) hears.place heard) state there

    unjudged_on : state.last ≡ None → AreUnjudged plan sides number → AreUnjudged plan (put sides part side) number
    unjudged_on none are = each_turn number (λ turn. (turn ≡ (0, 0)) ⊎ (turn ≡ (1, 1))) are by where
      by : group_of plan part ≡ Some number → (turn_at (sides part).place ≡ (0, 0)) ⊎ (turn_at (sides part).place ≡ (1, 1)) → Moves (wave_frame plan) sides part number act side
          → (turn_at side.place ≡ (0, 0)) ⊎ (turn_at side.place ≡ (1, 1))
      by grouped old (inl stays) = subst (λ (t : ℕ × ℕ). (t ≡ (0, 0)) ⊎ (t ≡ (1, 1))) (sym stays) old
      by grouped old (inr (inl opens)) = inr opens.1
      by grouped old (inr (inr hears)) = absurd (subst (λ (o : Option LastJudged). IsOfTurn hears.window hears.iteration o) none (heard_last hears))

    module _ (scheme : Scheme) (stands : slice_get plan.schemes number ≡ Some scheme) (last : LastJudged) (last_is : state.last ≡ Some last) (is : IsLastJudged plan sides number scheme state last) where
      same_judgement : judge_of plan (look_in sides) number last.window last.iteration ≡ judge_of plan (look_in (put sides part side)) number last.window last.iteration
      same_judgement =
          (wave_settled plan valid).judgements (look_in sides) (look_in (put sides part side)) number last.window last.iteration is.implicit extends told.well.in_order told_after.well.in_order
          is.iteration (is.there (look_in sides) (extends_itself (look_in sides)) told.well.in_order) is.posted

      abbrev AtLast : Judgement Fault → ℕ × ℕ → Type 0
      AtLast judgement turn = (turn ≡ (last.window, last.iteration)) ⊎ IsNextTurn judgement last.window last.iteration turn

      own_turn : group_of plan part ≡ Some number → AtLast (judge_of plan (look_in sides) number last.window last.iteration) (turn_at (sides part).place)
          → Moves (wave_frame plan) sides part number act side → AtLast (judge_of plan (look_in sides) number last.window last.iteration) (turn_at side.place)
      own_turn grouped old (inl stays) = subst (λ (t : ℕ × ℕ). AtLast (judge_of plan (look_in sides) number last.window last.iteration) t) (sym stays) old
      own_turn grouped old (inr (inl opens)) =
          absurd (never_opening (judge_of plan (look_in sides) number last.window last.iteration) last.window last.iteration (turn_at (sides part).place) is.window old opens.0)
      own_turn grouped old (inr (inr hears)) =
          let turn = subst (λ (o : Option LastJudged). IsOfTurn hears.window hears.iteration o) last_is (heard_last hears) in
          subst (λ (w : ℕ). (turn_at side.place ≡ (w, last.iteration)) ⊎ IsNextTurn (judge_of plan (look_in sides) number w last.iteration) w last.iteration (turn_at side.place)) (sym turn.0)
          (subst (λ (k : ℕ). (turn_at side.place ≡ (hears.window, k)) ⊎ IsNextTurn (judge_of plan (look_in sides) number hears.window k) hears.window k (turn_at side.place)) (sym turn.1)
          (subst (λ (s : WaveSide). (turn_at s.place ≡ (hears.window, hears.iteration))
          ⊎ IsNextTurn (judge_of plan (look_in sides) number hears.window hears.iteration) hears.window hears.iteration (turn_at s.place)) (sym hears.side_is)
          (heard_turn (judge_of plan (look_in sides) number hears.window hears.iteration) hears.window hears.iteration (sides part) (ap turn_at hears.place))))

      judged_on : IsLastJudged plan (put sides part side) number scheme state last
      judged_on = record {
        implicit = is.implicit;
        window = is.window;
        iteration = is.iteration;
        there = λ later further in_order. is.there later (extends_further (look_in sides) (look_in (put sides part side)) later extends further) in_order;
        posted = posted_below_kept (wave_frame plan) (look_in sides) (look_in (put sides part side)) extends told_after.well.in_order number last.window (suc last.iteration) is.posted;
        judgement = is.judgement ∙ same_judgement;
        strict = is.strict;
        repeats = λ repeated.
            subst (λ (start : ℕ). CourseTells plan (look_in (put sides part side)) scheme last.window start last.iteration state.course)
            (starts_same plan valid (look_in sides) (look_in (put sides part side)) extends told.well.in_order last.window
            (is.there (look_in sides) (extends_itself (look_in sides)) told.well.in_order))
            (course_later plan valid (look_in sides) (look_in (put sides part side)) extends told.well.in_order number scheme stands last.window (start_of plan (look_in sides) last.window)
            last.iteration is.iteration is.posted state.course (is.repeats (same_judgement ∙ repeated)));
        members = each_turn number (λ turn. AtLast (judge_of plan (look_in (put sides part side)) number last.window last.iteration) turn)
            (subst (λ (j : Judgement Fault). (one : ℕ) → one < length plan.parts → group_of plan one ≡ Some number → AtLast j (turn_at (sides one).place)) same_judgement is.members)
            (subst (λ (j : Judgement Fault). group_of plan part ≡ Some number → AtLast j (turn_at (sides part).place)
            → Moves (wave_frame plan) sides part number act side → AtLast j (turn_at side.place)) same_judgement own_turn);
      }

    scheme_on : (scheme : Scheme) → slice_get plan.schemes number ≡ Some scheme → (last : Option LastJudged) → state.last ≡ last → IsSchemeOf plan sides number scheme state last
        → IsSchemeOf plan (put sides part side) number scheme state last
    scheme_on scheme stands None last_is is = unjudged_on last_is is
    scheme_on scheme stands (Some last) last_is is = judged_on scheme stands last last_is is

  schemes_on : (schemes : List SchemeState) → IsHeard schemes (sides part).place act → AreSchemes plan schemes sides → AreSchemes plan schemes (put sides part side)
  schemes_on schemes heard are = record {
    count = are.count;
    each = λ number scheme state at there. scheme_on schemes heard number state there scheme at state.last refl (are.each number scheme state at there);
  }

-- at every event, where a judgement that is told is that of its scheme's last judged iteration
pub schemes_go_on : (plan : PlanParts) (schemes : List SchemeState) (history : List WaveEntry) (sides : WaveState) (part : ℕ) (act : WaveAct) (reply : WaveReply) (side : WaveSide)
    → IsValidPlan plan → IsReached plan history sides → part < length plan.parts → wave_step plan sides part act ≡ Some (reply, side) → IsHeard schemes (sides part).place act
    → AreSchemes plan schemes sides → AreSchemes plan schemes (put sides part side)
schemes_go_on plan schemes history sides part act reply side valid reached is_part made heard are =
    schemes_on plan valid sides (reached_told plan history sides valid (wave_settled plan valid) reached) part is_part act reply side made schemes heard are
