-- A judgement: the line of an iteration that is judged now, and what each member is told.
use Rattle.std.proofs.Common.{◌≡◌, ◌⊎◌, ◌↔◌, ℕ, suc, ◌+◌, ◌-◌, ◌<◌, ◌≤◌, ◌^◌, inl, inr, Bool, true, false, if◌then◌else◌, nat_le, nat_eq, ◌&&◌, List, [], ◌∷◌, ◌++◌, append-nil, IsTrue, Contains, length, map, set, slice_get, Option, Some, None, option_map, Ok, refl, sym, ap, subst, ◌∙◌, arith}
use Rattle.std.specs.List.{list_any}
use Rattle.std.specs.Option.{IfSome, option_map_or}
use Rattle.std.proofs.lemmas.Bool.{and_parts, leb-true, eqb-true}
use Rattle.std.proofs.lemmas.Option.{same_Some, none-some, slice_get_within}
use Rattle.plan_order.specs.declared.node.Node.TheVariants.{Group}
use Rattle.cpl_plan.specs.ExchangeKinds.{is_implicit}
use Rattle.cpl_plan.specs.PlanTests.{has_iterations}
use Rattle.cpl_plan.specs.ValidPlan.{IsValidPlan}
use Rattle.cpl_plan.specs.declared.parts.PlanParts.{PlanParts}
use Rattle.cpl_plan.specs.declared.parts.Scheme.{Scheme}
use Rattle.cpl_plan.specs.declared.words.Fault.{Fault}
use Rattle.cpl_plan.specs.declared.words.IterLine.{IterLine}
use Rattle.cpl_plan.specs.declared.words.Verdict.{Verdict}
use Rattle.cpl_plan.specs.declared.words.Verdict.TheVariants.{Again, Converged, AtLimit, NotConverged}
use Rattle.cpl_plan.proofs.FixedWindows.{window_number}
use Rattle.cpl_plan.proofs.Readings.{each_at, there}
use Rattle.coupled_loop.specs.Endings.{Judgement, again, converged, at_limit, refused}
use Rattle.coupled_loop.specs.Numbered.{put}
use Rattle.coupled_loop.specs.CoreState.{Place, sending, collecting, opening, taking, within, judging, look_in, turn_at}
use Rattle.coupled_loop.specs.CoreStep.{judges, judged, after_judgement, asked_at, is_granted, waits_for}
use Rattle.coupled_loop.specs.PlanFrames.{group_of, iterations_of, window_maker, ends_made}
use Rattle.core_laws.proofs.GoodMoves.{group_solved}
use Rattle.core_laws.proofs.PlanSound.{plan_sound}
use Rattle.core_laws.proofs.Well.{Stands, IsIteration}
use Rattle.wave_coupling.specs.Coupling.{wave_frame, exchanged, start_of, judge_of}
use Rattle.wave_coupling.specs.Judged.{verdict_in}
use Rattle.wave_coupling.specs.Posts.{newest_time}
use Rattle.wave_laws.proofs.JudgementsStay.{group_there}
use Rattle.wave_laws.proofs.Settling.{wave_settled}
use Rattle.sample_store.specs.Kept.{Kept as StoreKept}
use Rattle.group_course.specs.CourseTells.{changes_in}
use Rattle.group_course.specs.JudgementOf.{judgement_by}
use Rattle.group_course.specs.declared.iteration.Iteration.{Iteration}
use Rattle.core_sides.specs.Answers.{verdict_shown}
use Rattle.core_sides.specs.CoreWords.{WaveState, WaveSide, WaveReply, WaveEntry, wave_step}
use Rattle.core_sides.specs.Fitting.{FitsAt}
use Rattle.core_sides.specs.SidesStand.{place_of, IsStanding}
use Rattle.core_sides.specs.declared.event.Reply.{Reply}
use Rattle.core_sides.specs.declared.standing.Place.{Place as KeptPlace}
use Rattle.core_sides.specs.declared.standing.Place.TheVariants.{Sending, Collecting, Opening, Taking, Within, Judging}
use Rattle.core_sides.specs.declared.standing.Standing.{Standing}
use Rattle.core_sides.proofs.Aligned.{IsTold}
use Rattle.core_sides.proofs.Gates.{judges_made}
use Rattle.core_sides.proofs.Histories.{reached_told}
use Rattle.core_stores.specs.StoresStand.{AreStores}
use Rattle.core_stores.specs.StoreMoves.{ArePosted, AreOpen}
use Rattle.core_schemes.specs.SchemesStand.{IsNextTurn, IsLastJudged, IsSchemeOf, AreSchemes}
use Rattle.core_schemes.specs.Judging.{IsOfTurn, HasJudged, MayJudge, CanJudge, IsHeard}
use Rattle.core_schemes.specs.declared.schemes.LastJudged.{LastJudged}
use Rattle.core_schemes.specs.declared.schemes.SchemeState.{SchemeState}
use Rattle.coupling_core.specs.CoreKept.{CoreKept}
use Rattle.coupling_core.specs.JudgedLines.{line_of, is_line_on, lines_at}
use Rattle.coupling_core.specs.LinesStand.{AreLined}
use Rattle.coupling_core.specs.Heard.{IsJudging, CanBeJudged, IsLastOf, IsStrict, IsStrictBy, IsStartIn, line_by, reply_by, reply_heard, standing_by, standing_heard, side_heard}
use Rattle.coupling_core.specs.OneMore.{MayMake, IsGranted, Answers, Makes}
use Rattle.coupling_core.specs.StandsFor.{StandsFor, IsKept}
use Rattle.coupling_core.proofs.Lined.{IsAfter, has_line, has_no_line, lined_more}
use Rattle.coupling_core.proofs.PutBack.{set_same}
use Rattle.coupling_core.proofs.Looking.{alone}
use Rattle.coupling_core.proofs.PlacedPuts.{placed_put}
use Rattle.coupling_core.proofs.Steps.{answer_made, as_asked, stands_more}
use Rattle.core_schemes.proofs.GoOn.{schemes_go_on}
use Rattle.core_stores.proofs.Turns.{are_open, are_posted}
use Rattle.coupling_core.proofs.TurnEvents.{granted_there, IsSetTo}

-- an iteration that is not the last judged one comes after it
pub after_last : (w k : ℕ) (last : LastJudged) (judgement : Judgement Fault) (turn : ℕ × ℕ) → turn ≡ (w, k) → ¬ (IsOfTurn w k (Some last))
    → (turn ≡ (last.window, last.iteration)) ⊎ IsNextTurn judgement last.window last.iteration turn → IsAfter (Some last) w k
after_last w k last judgement turn is apart (inl same) =
    let own : (last.window, last.iteration) ≡ (w, k) = sym same ∙ is in
    absurd (apart (ap (λ (t : ℕ × ℕ). t.0) own, ap (λ (t : ℕ × ℕ). t.1) own))
after_last w k last again turn is apart (inr next) =
    let own : (last.window, last.iteration + 1) ≡ (w, k) = sym next ∙ is in
    let iteration : last.iteration + 1 ≡ k = ap (λ (t : ℕ × ℕ). t.1) own in
    inr (ap (λ (t : ℕ × ℕ). t.0) own, omega (arith, iteration))
after_last w k last converged turn is apart (inr next) =
    let own : (last.window + 1, 1) ≡ (w, k) = sym next ∙ is in
    let window : last.window + 1 ≡ w = ap (λ (t : ℕ × ℕ). t.0) own in
    inl (omega (arith, window))
after_last w k last at_limit turn is apart (inr next) =
    let own : (last.window + 1, 1) ≡ (w, k) = sym next ∙ is in
    let window : last.window + 1 ≡ w = ap (λ (t : ℕ × ℕ). t.0) own in
    inl (omega (arith, window))
after_last w k last (refused fault) turn is apart (inr next) = absurd next

module _ (plan : PlanParts) (valid : IsValidPlan plan) (history : List WaveEntry) (sides : WaveState) (told : IsTold (wave_frame plan) sides) (p scheme w k : ℕ)
    (place : (sides p).place ≡ judging scheme w k) where
  judge_stands : Stands (wave_frame plan) (look_in sides) p (judging scheme w k) (sides p).given
  judge_stands = subst (λ (here : Place). Stands (wave_frame plan) (look_in sides) p here (sides p).given) place (told.well.stands p)

  pub judging_group : group_of plan p ≡ Some scheme
  judging_group = judge_stands.0

  pub judging_scheme : p < length plan.parts → (z : Scheme) × (slice_get plan.schemes scheme ≡ Some z)
  judging_scheme below =
      let one = group_there plan valid scheme (group_solved (wave_frame plan) (plan_sound plan (exchanged plan) valid) p scheme below judging_group) in (one.0, one.1)

  pub judging_window : w ≤ plan.most_windows
  judging_window = (window_number plan (ends_made newest_time (look_in sides) (window_maker plan) (w - 1)) w judge_stands.2.window).1

  few : (z : Scheme) → has_iterations z ≡ true → z.max ≤ 10 ^ 3
  few z is = by (is_implicit z.kind) is where
    by : (b : Bool) → (if b then nat_le 1 z.min && nat_le z.min z.max && nat_le z.max (10 ^ 3) else nat_eq z.min 1 && nat_eq z.max 1) ≡ true → z.max ≤ 10 ^ 3
    by true all = leb-true z.max (10 ^ 3) (and_parts (nat_le 1 z.min && nat_le z.min z.max) (nat_le z.max (10 ^ 3)) all).1
    by false all = let one = eqb-true z.max 1 (and_parts (nat_eq z.min 1) (nat_eq z.max 1) all).1 in omega (arith, one)

  pub judging_iteration : p < length plan.parts → k ≤ 10 ^ 3
  judging_iteration below =
      let one = judging_scheme below in
      let most : k ≤ iterations_of plan scheme = (subst (λ (group : Option ℕ). IsIteration (wave_frame plan) group k) judging_group judge_stands.1.iteration).1 in
      let is : iterations_of plan scheme ≡ one.0.max = ap (λ o. option_map_or (λ s. s.max) o 0) one.1 in
      let within = few one.0 (each_at (λ _ z. has_iterations z) plan.schemes valid.schemes.iterations scheme one.0 one.1) in
      omega (arith, most, is, within)

-- the scheme's last judged iteration is this one or an earlier one
pub is_after : (plan : PlanParts) → IsValidPlan plan → (stores : List (Option StoreKept)) (state : SchemeState) (at : Iteration) (sides : WaveState) (scheme : Scheme)
    → slice_get plan.schemes at.scheme ≡ Some scheme → MayJudge plan stores state at sides → ¬ HasJudged at state.last → IsAfter state.last at.window at.number
is_after plan valid stores state at sides scheme is_scheme may apart = by state.last refl (may.scheme_stands scheme is_scheme) where
  told : IsTold (wave_frame plan) sides
  told = reached_told plan may.history sides valid (wave_settled plan valid) may.reached

  by : (o : Option LastJudged) → state.last ≡ o → IsSchemeOf plan sides at.scheme scheme state o → IsAfter o at.window at.number
  by None e is = tt
  by (Some last) e is =
      after_last at.window at.number last (judge_of plan (look_in sides) at.scheme last.window last.iteration) (turn_at (sides may.part).place) (ap turn_at may.place)
      (λ turn. apart (subst (IsOfTurn at.window at.number) (sym e) turn))
      (is.members may.part may.is_part (judging_group plan valid may.history sides told may.part at.scheme at.window at.number may.place))

module _ (plan : PlanParts) (valid : IsValidPlan plan) (stores : List (Option StoreKept)) (schemes : List SchemeState) (at : Iteration) (state : SchemeState)
    (is_state : slice_get schemes at.scheme ≡ Some state) (lines : List IterLine) (lined : AreLined lines schemes) (sides : WaveState) (may : MayJudge plan stores state at sides) where
  -- a judgement that is told again adds no line
  pub lines_known : HasJudged at state.last → lines ≡ lines_at plan sides (judging at.scheme at.window at.number) judges lines
  lines_known is =
      sym (ap (λ (b : Bool). if b then lines else lines ++ line_of plan (look_in sides) at.scheme at.window at.number ∷ [])
      (has_line lines schemes lined at.scheme at.window at.number state is_state is))

  -- one that is made now adds its own
  pub lines_new : ¬ HasJudged at state.last → (scheme : Scheme) → slice_get plan.schemes at.scheme ≡ Some scheme → (line : IterLine)
      → line.scheme ≡ at.scheme → line.window ≡ at.window → line.iteration ≡ at.number
      → line.verdict ≡ verdict_in plan (look_in sides) scheme at.window at.start at.number → line.norms ≡ changes_in plan (look_in sides) scheme at.window at.start at.number
      → lines ++ line ∷ [] ≡ lines_at plan sides (judging at.scheme at.window at.number) judges lines
  lines_new apart scheme is_scheme line on_scheme on_window on_iteration verdict norms =
      ap (λ (one : IterLine). lines ++ one ∷ []) same
      ∙ sym (ap (λ (b : Bool). if b then lines else lines ++ line_of plan (look_in sides) at.scheme at.window at.number ∷ [])
      (has_no_line lines schemes lined at.scheme at.window at.number state is_state (is_after plan valid stores state at sides scheme is_scheme may apart))) where
        same : line ≡ line_of plan (look_in sides) at.scheme at.window at.number
        same = λ i. record {
          scheme = on_scheme i;
          window = on_window i;
          iteration = on_iteration i;
          verdict = (verdict ∙ ap (λ (start : ℕ). verdict_in plan (look_in sides) scheme at.window start at.number) may.start
              ∙ ap (λ (o : Option Scheme). option_map_or (λ z. verdict_in plan (look_in sides) z at.window (start_of plan (look_in sides) at.window) at.number) o Again) (sym is_scheme)) i;
          norms = (norms ∙ ap (λ (start : ℕ). changes_in plan (look_in sides) scheme at.window start at.number) may.start
              ∙ ap (λ (o : Option Scheme). option_map_or (λ z. changes_in plan (look_in sides) z at.window (start_of plan (look_in sides) at.window) at.number) o []) (sym is_scheme)) i;
        }

-- a judgement that is made or told again
module _ (plan : PlanParts) (valid : IsValidPlan plan) (stores : List (Option StoreKept)) (at : Iteration) (state : SchemeState) (sides : WaveState) (may : MayJudge plan stores state at sides) where
  the_scheme : (z : Scheme) × (slice_get plan.schemes at.scheme ≡ Some z)
  the_scheme =
      judging_scheme plan valid may.history sides (reached_told plan may.history sides valid (wave_settled plan valid) may.reached) may.part at.scheme at.window at.number may.place may.is_part

  pub judged_strict : (after : SchemeState) (last : LastJudged) → ((scheme : Scheme) → slice_get plan.schemes at.scheme ≡ Some scheme → IsLastJudged plan sides at.scheme scheme after last) → IsStrict last
  judged_strict after last is = by last.fault last.verdict refl refl where
    strict : (measure : ℕ) → last.fault ≡ None → last.verdict ≡ NotConverged measure → ⊥
    strict = (is the_scheme.0 the_scheme.1).strict

    by : (fault : Option Fault) (verdict : Verdict) → last.fault ≡ fault → last.verdict ≡ verdict → IsStrictBy fault verdict
    by (Some fault) verdict e f = tt
    by None Again e f = tt
    by None Converged e f = tt
    by None AtLimit e f = tt
    by None (NotConverged measure) e f = strict measure e f

-- the lines and the schemes after a judgement
module _ (plan : PlanParts) (valid : IsValidPlan plan) (stores : List (Option StoreKept)) (schemes : List SchemeState) (at : Iteration) (state after : SchemeState)
    (is_state : slice_get schemes at.scheme ≡ Some state) (lines : List IterLine) (lined : AreLined lines schemes) (sides : WaveState) (may : MayJudge plan stores state at sides)
    (last : LastJudged) (turn : HasJudged at (Some last)) (is_last : after.last ≡ Some last) where
  pub judged_lines : (norms : Option (List ℕ)) → (norms ≡ None ↔ HasJudged at state.last)
      → IfSome norms (λ ns. (sides : WaveState) (scheme : Scheme) → MayJudge plan stores state at sides → slice_get plan.schemes at.scheme ≡ Some scheme
      → last.verdict ≡ verdict_in plan (look_in sides) scheme at.window at.start at.number)
      → IfSome norms (λ ns. (sides : WaveState) (scheme : Scheme) → MayJudge plan stores state at sides → slice_get plan.schemes at.scheme ≡ Some scheme
      → ns ≡ changes_in plan (look_in sides) scheme at.window at.start at.number)
      → lines ++ line_by at last norms ≡ lines_at plan sides (judging at.scheme at.window at.number) judges lines
  judged_lines None once verdict norms_are = append-nil lines ∙ lines_known plan valid stores schemes at state is_state lines lined sides may (once.0 refl)
  judged_lines (Some norms) once verdict norms_are =
      lines_new plan valid stores schemes at state is_state lines lined sides may (λ is. none-some norms (sym (once.1 is))) (the_scheme plan valid stores at state sides may).0 (the_scheme plan valid stores at state sides may).1
      (record { scheme = at.scheme; window = at.window; iteration = at.number; verdict = last.verdict; norms = norms }) refl refl refl
      (verdict sides (the_scheme plan valid stores at state sides may).0 may (the_scheme plan valid stores at state sides may).1) (norms_are sides (the_scheme plan valid stores at state sides may).0 may (the_scheme plan valid stores at state sides may).1)

  pub judged_lined : (norms : Option (List ℕ)) → (norms ≡ None ↔ HasJudged at state.last) → (norms ≡ None → after ≡ state)
      → AreLined (lines ++ line_by at last norms) (set schemes at.scheme after)
  judged_lined None once known =
      subst (λ (xs : List IterLine). AreLined xs (set schemes at.scheme after)) (sym (append-nil lines))
      (subst (λ (ss : List SchemeState). AreLined lines ss) (sym (ap (set schemes at.scheme) (known refl) ∙ set_same schemes at.scheme state is_state)) lined)
  judged_lined (Some norms) once known =
      lined_more lines schemes lined at.scheme at.window at.number state is_state after last
      (record { scheme = at.scheme; window = at.window; iteration = at.number; verdict = last.verdict; norms = norms })
      (is_after plan valid stores state at sides (the_scheme plan valid stores at state sides may).0 (the_scheme plan valid stores at state sides may).1 may (λ is. none-some norms (sym (once.1 is)))) is_last turn.0 turn.1 refl refl refl

-- what is told, as it is kept and as the state says
heard_standing : (fault : Option Fault) (verdict : Verdict) (w k : ℕ) (s : Standing) (side : WaveSide) → IsStanding s side
    → IsStanding (standing_by fault verdict w k s) (after_judgement (judgement_by fault verdict) w k side)
heard_standing (Some fault) verdict w k s side is = record { place = is.place; ending = refl; sent = is.sent }
heard_standing None Again w k s side is = record { place = refl; ending = is.ending; sent = is.sent }
heard_standing None Converged w k s side is = record { place = refl; ending = is.ending; sent = is.sent }
heard_standing None AtLimit w k s side is = record { place = refl; ending = is.ending; sent = is.sent }
heard_standing None (NotConverged measure) w k s side is = record { place = refl; ending = is.ending; sent = is.sent }

reply_shown : (plan : PlanParts) (sides : WaveState) (p : ℕ) (fault : Option Fault) (verdict : Verdict) → IsStrictBy fault verdict
    → verdict_shown plan sides p (judgement_by fault verdict) ≡ reply_by fault verdict
reply_shown plan sides p (Some fault) verdict strict = refl
reply_shown plan sides p None Again strict = refl
reply_shown plan sides p None Converged strict = refl
reply_shown plan sides p None AtLimit strict = refl
reply_shown plan sides p None (NotConverged measure) strict = absurd strict

pub judging_from : (plan : PlanParts) (sides : WaveState) (p : ℕ) (place : KeptPlace) → FitsAt plan sides p (place_of place) judges
    → ((scheme w k : ℕ) → place ≡ Judging scheme w k → ⊥) → ⊥
judging_from plan sides p (Judging scheme w k) fits apart = apart scheme w k refl
judging_from plan sides p Sending fits apart = fits
judging_from plan sides p Collecting fits apart = fits
judging_from plan sides p Opening fits apart = fits
judging_from plan sides p (Taking w k) fits apart = fits
judging_from plan sides p (Within w k) fits apart = fits

-- who judges stands at an iteration
pub judging_never : (core : CoreKept) (p : ℕ) (s : Standing) → slice_get core.standings p ≡ Some s → MayMake core p judges → IsKept core
    → ((scheme w k : ℕ) → s.place ≡ Judging scheme w k → ⊥) → ⊥
judging_never core p s at may kept apart =
    judging_from core.plan kept.state p s.place
    (subst (λ (here : Place). FitsAt core.plan kept.state p here judges) (kept.stands.sides.each p s at).place (may kept.history kept.state kept.stands).fits) apart

-- who ends by the scheme's fault, or repeats the window, gives nothing
pub faulted_given : (last : LastJudged) (fault : Fault) (side : WaveSide) → last.fault ≡ Some fault → (side_heard last side).given ≡ side.given
faulted_given last fault side is = ap (λ (f : Option Fault). (after_judgement (judgement_by f last.verdict) last.window last.iteration side).given) is

pub verdict_given : (last : LastJudged) (verdict : Verdict) (side : WaveSide) → last.fault ≡ None → last.verdict ≡ verdict
    → (side_heard last side).given ≡ (after_judgement (judgement_by None verdict) last.window last.iteration side).given
verdict_given last verdict side none is =
    ap (λ (f : Option Fault). (after_judgement (judgement_by f last.verdict) last.window last.iteration side).given) none
    ∙ ap (λ (v : Verdict). (after_judgement (judgement_by None v) last.window last.iteration side).given) is

module _ (core : CoreKept) (valid : IsValidPlan core.plan) (p : ℕ) (s : Standing) (at : slice_get core.standings p ≡ Some s)
    (may : MayMake core p judges) (granted : IsGranted core p) where
  -- a window at which it judges
  pub window_there : (w k scheme : ℕ) → s.place ≡ Judging scheme w k → IsKept core → w ≤ core.plan.most_windows
  window_there w k scheme place kept =
      judging_window core.plan valid kept.history kept.state (reached_told core.plan kept.history kept.state valid (wave_settled core.plan valid) kept.stands.reached) p scheme w k
      ((kept.stands.sides.each p s at).place ∙ ap place_of place)

  module _ (now : Iteration) (place : s.place ≡ Judging now.scheme now.window now.number) where
    module _ (history : List WaveEntry) (sides : WaveState) (stands : StandsFor core history sides) where
      pub told : IsTold (wave_frame core.plan) sides
      told = reached_told core.plan history sides valid (wave_settled core.plan valid) stands.reached

      pub judges_here : (sides p).place ≡ judging now.scheme now.window now.number
      judges_here = (stands.sides.each p s at).place ∙ ap place_of place

      pub is_judging : IsStartIn core now.window now.start → IsJudging core.plan core.stores core.schemes now sides
      is_judging start state is_state = record {
        history = history;
        reached = stands.reached;
        stores_stand = stands.stores;
        scheme_stands = λ scheme is. stands.schemes.each now.scheme scheme state is is_state;
        part = p;
        is_part = (may history sides stands).participant;
        place = judges_here;
        posted = granted_there core.plan sides p (judging now.scheme now.window now.number) judges_here (granted history sides stands);
        start = start history sides stands;
      }

    pub is_judging_at : (stores : List (Option StoreKept)) (schemes : List SchemeState) → stores ≡ core.stores → schemes ≡ core.schemes → IsStartIn core now.window now.start
        → (history : List WaveEntry) (sides : WaveState) → StandsFor core history sides → IsJudging core.plan stores schemes now sides
    is_judging_at stores schemes same_stores same_schemes start history sides stands =
        subst (λ (xs : List (Option StoreKept)). IsJudging core.plan xs schemes now sides) (sym same_stores)
        (subst (λ (xs : List SchemeState). IsJudging core.plan core.stores xs now sides) (sym same_schemes) (is_judging history sides stands start))

    pub posted_at : (stores : List (Option StoreKept)) → stores ≡ core.stores → (w k : ℕ) → w ≡ now.window → k ≡ now.number
        → (history : List WaveEntry) (sides : WaveState) → StandsFor core history sides → ArePosted core.plan.exchanges stores p w k
    posted_at stores same w k window iteration history sides stands =
        subst (λ (xs : List (Option StoreKept)). ArePosted core.plan.exchanges xs p w k) (sym same)
        (subst (λ (v : ℕ). ArePosted core.plan.exchanges core.stores p v k) (sym window)
        (subst (λ (j : ℕ). ArePosted core.plan.exchanges core.stores p now.window j) (sym iteration)
        (are_posted core.plan valid history sides stands.reached core.stores stands.stores p now.window now.number now.scheme (judges_here history sides stands))))

    pub is_scheme : IsKept core → now.scheme < length core.schemes
    is_scheme kept =
        let one = judging_scheme core.plan valid kept.history kept.state (told kept.history kept.state kept.stands) p now.scheme now.window now.number (judges_here kept.history kept.state kept.stands)
        (may kept.history kept.state kept.stands).participant in
        let below = slice_get_within core.plan.schemes now.scheme one.0 one.1 in
        omega (arith, below, kept.stands.schemes.count)

    pub can_be_judged : IsStartIn core now.window now.start → IsKept core → CanBeJudged core.plan core.stores core.schemes now
    can_be_judged start kept =
        let one = there core.schemes now.scheme (is_scheme kept) in record {
          state = one.0;
          there = one.1;
          can = record { sides = kept.state; may = is_judging kept.history kept.state kept.stands start one.0 one.1 };
        }

    pub can_be_judged_at : (stores : List (Option StoreKept)) (schemes : List SchemeState) → stores ≡ core.stores → schemes ≡ core.schemes → IsStartIn core now.window now.start → IsKept core
        → CanBeJudged core.plan stores schemes now
    can_be_judged_at stores schemes same_stores same_schemes start kept =
        subst (λ (xs : List (Option StoreKept)). CanBeJudged core.plan xs schemes now) (sym same_stores)
        (subst (λ (xs : List SchemeState). CanBeJudged core.plan core.stores xs now) (sym same_schemes) (can_be_judged start kept))

    pub open_there : IsKept core → (w : ℕ) → w ≡ now.window → AreOpen core.plan.exchanges core.stores p w
    open_there kept w same =
        subst (AreOpen core.plan.exchanges core.stores p) (sym same)
        (are_open core.plan valid kept.history kept.state kept.stands.reached core.stores kept.stands.stores p now.window now.number now.scheme (judges_here kept.history kept.state kept.stands))

    pub open_at : (stores : List (Option StoreKept)) → stores ≡ core.stores → IsKept core → (w : ℕ) → w ≡ now.window → AreOpen core.plan.exchanges stores p w
    open_at stores same kept w window = subst (λ (xs : List (Option StoreKept)). AreOpen core.plan.exchanges xs p w) (sym same) (open_there kept w window)

    pub window_few : IsKept core → (w : ℕ) → w ≡ now.window → w ≤ 10 ^ 6
    window_few kept w same =
        let most = window_there now.window now.number now.scheme place kept in omega (arith, most, same, valid.sizes.windows.1)

    pub iteration_few : IsKept core → (k : ℕ) → k ≡ now.number → k ≤ 10 ^ 6
    iteration_few kept k same =
        let most = judging_iteration core.plan valid kept.history kept.state (told kept.history kept.state kept.stands) p now.scheme now.window now.number (judges_here kept.history kept.state kept.stands)
        (may kept.history kept.state kept.stands).participant in
        omega (arith, most, same)

    module _ (last : LastJudged) (turn : HasJudged now (Some last))
        (told_so : (history : List WaveEntry) (sides : WaveState) → StandsFor core history sides → judgement_by last.fault last.verdict ≡ judge_of core.plan (look_in sides) now.scheme now.window now.number) where
      heard_reply : WaveReply
      heard_reply = judged (judgement_by last.fault last.verdict)

      heard_step : (history : List WaveEntry) (sides : WaveState) → StandsFor core history sides → wave_step core.plan sides p judges ≡ Some (heard_reply, side_heard last (sides p))
      unfolding heard_reply
      heard_step history sides stands =
          judges_made core.plan sides p (may history sides stands).running now.scheme now.window now.number (judges_here history sides stands) (granted history sides stands)
          ∙ ap (λ (j : Judgement Fault). Some (judged j, after_judgement j now.window now.number (sides p))) (sym (told_so history sides stands))
          ∙ ap (λ (w : ℕ). Some (judged (judgement_by last.fault last.verdict), after_judgement (judgement_by last.fault last.verdict) w now.number (sides p))) (sym turn.0)
          ∙ ap (λ (k : ℕ). Some (judged (judgement_by last.fault last.verdict), after_judgement (judgement_by last.fault last.verdict) last.window k (sides p))) (sym turn.1)

      pub judge_answers : IsStrict last → Answers core p judges (Ok (reply_heard last))
      unfolding heard_reply
      judge_answers strict history sides stands =
          answer_made core.plan sides p judges heard_reply (side_heard last (sides p)) (heard_step history sides stands)
          ∙ ap (λ (r : Reply). Ok r) (reply_shown core.plan sides p last.fault last.verdict strict)

      pub judge_makes : (standings : List Standing) (windows : List ℕ) (stores : List (Option StoreKept)) (schemes : List SchemeState) (lines : List IterLine)
          → IsSetTo core valid p s at standings windows (standing_heard last s) → IsLastOf schemes now.scheme last
          → ((history : List WaveEntry) (sides : WaveState) → StandsFor core history sides → AreStores core.plan stores (put sides p (side_heard last (sides p))))
          → ((history : List WaveEntry) (sides : WaveState) → StandsFor core history sides → AreSchemes core.plan schemes sides)
          → ((history : List WaveEntry) (sides : WaveState) → StandsFor core history sides → lines ≡ lines_at core.plan sides (judging now.scheme now.window now.number) judges core.lines)
          → ((history : List WaveEntry) (sides : WaveState) → StandsFor core history sides → AreLined lines schemes)
          → Makes core (record { plan = core.plan; standings = standings; ends = windows; stores = stores; schemes = schemes; lines = lines }) p judges
      judge_makes standings windows stores schemes lines is_set is_last are_stores are_schemes same lined history sides stands =
          let made = heard_step history sides stands in
          let fits = may history sides stands in
          let side : WaveSide = side_heard last (sides p) in
          let here = judges_here history sides stands in
          let heard : IsHeard schemes (judging now.scheme now.window now.number) judges = (λ state is_state. subst (IsOfTurn now.window now.number) (sym (is_last state is_state)) turn) in
          as_asked core history sides p judges heard_reply side stands fits made (record { plan = core.plan; standings = standings; ends = windows; stores = stores; schemes = schemes; lines = lines })
          (stands_more core history sides p judges heard_reply side stands fits made standings windows stores schemes lines
          (placed_put core.plan core.standings core.ends standings windows sides stands.sides p (standing_heard last s) side fits.participant is_set.0
          (heard_standing last.fault last.verdict last.window last.iteration s (sides p) (stands.sides.each p s at))
          (λ method n. absurd (none-some now.scheme (sym (alone core.plan valid method p fits.participant)
          ∙ judging_group core.plan valid history sides (told history sides stands) p now.scheme now.window now.number here))))
          (are_stores history sides stands)
          (schemes_go_on core.plan schemes history sides p judges heard_reply side valid stands.reached fits.participant made
          (subst (λ (q : Place). IsHeard schemes q judges) (sym here) heard) (are_schemes history sides stands))
          (same history sides stands ∙ ap (λ (q : Place). lines_at core.plan sides q judges core.lines) (sym here)) (lined history sides stands))
