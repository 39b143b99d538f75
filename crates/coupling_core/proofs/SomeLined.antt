-- For each list of fitting events some states of the schemes stand for the state after it, and its lines are of what they have judged.
use Rattle.std.proofs.Common.{◌≡◌, ℕ, ◌<◌, ◌⊎◌, inl, inr, true, List, [], ◌∷◌, ◌++◌, map, length, set, slice_get, Option, Some, None, option_map, All, if◌then◌else◌, Bool, IsTrue, refl, sym, ap, subst, ◌∙◌, arith}
use Rattle.std.proofs.lemmas.Bool.{cases_eq}
use Rattle.std.proofs.lemmas.List.{length-map}
use Rattle.std.proofs.lemmas.List.Elements.{All-map, All-set}
use Rattle.std.proofs.lemmas.Option.{none-some, same_Some, slice_get-map, slice_get_within, get_or_from_slice_get}
use Rattle.cpl_plan.specs.ValidPlan.{IsValidPlan}
use Rattle.cpl_plan.specs.declared.parts.PlanParts.{PlanParts}
use Rattle.cpl_plan.specs.declared.parts.Scheme.{Scheme}
use Rattle.cpl_plan.specs.declared.words.Fault.{Fault}
use Rattle.cpl_plan.specs.declared.words.Verdict.{Verdict}
use Rattle.acceleration.specs.RelaxerState.{fresh, method_of}
use Rattle.coupled_loop.specs.Numbered.{put}
use Rattle.coupled_loop.specs.CoreState.{Place, judging, look_in}
use Rattle.coupled_loop.specs.CoreStep.{sends_meshes, takes_meshes, posts, takes, judges, stops, lacks_memory, ends, is_cut, is_granted, made_at}
use Rattle.coupled_loop.specs.LegalHistory.{Happens, opening_state}
use Rattle.core_laws.proofs.Steps.{guarded, made_by}
use Rattle.sample_store.specs.Kept.{Kept as StoreKept}
use Rattle.wave_coupling.specs.Coupling.{wave_frame, start_of}
use Rattle.wave_coupling.specs.InputWave.{relaxed_after}
use Rattle.wave_coupling.specs.Judged.{verdict_in, judgement_of as judgement_in, judged_by}
use Rattle.group_course.specs.declared.iteration.Iteration.{Iteration}
use Rattle.group_course.specs.CourseKept.{IsKept}
use Rattle.group_course.specs.JudgementOf.{judgement_by}
use Rattle.core_sides.specs.CoreWords.{WaveState, WaveSide, WaveAct, WaveReply, WaveEntry}
use Rattle.core_sides.specs.Reached.{AreFitting, IsReached}
use Rattle.core_sides.proofs.Histories.{reached_more}
use Rattle.core_sides.proofs.StandingPuts.{set_here}
use Rattle.core_stores.specs.StoresStand.{AreStores}
use Rattle.core_stores.proofs.AllStores.{some_stores}
use Rattle.core_fits.specs.VerticesIn.{vertices_in}
use Rattle.core_fits.proofs.ReachedFits.{reached_fits, vertices_few}
use Rattle.core_schemes.specs.declared.schemes.LastJudged.{LastJudged}
use Rattle.core_schemes.specs.declared.schemes.SchemeState.{SchemeState}
use Rattle.core_schemes.specs.SchemesStand.{IsLastJudged, IsSchemeOf, AreSchemes}
use Rattle.core_schemes.specs.Judging.{IsOfTurn, IsHeard, MayJudge}
use Rattle.core_schemes.proofs.GoOn.{schemes_go_on}
use Rattle.core_schemes.proofs.JudgedNow.{last_judged_now}
use Rattle.core_schemes.proofs.Ready.{stands_at, scheme_there, is_ready}
use Rattle.core_schemes.proofs.Sets.{schemes_set}
use Rattle.core_schemes.proofs.WrittenDown.{WrittenDown, written_down, fault_in, fault_told}
use Rattle.std.proofs.lemmas.Bool.{false≢true}
use Rattle.cpl_plan.specs.declared.words.IterLine.{IterLine}
use Rattle.cpl_plan.proofs.Readings.{there}
use Rattle.wave_laws.proofs.Settling.{wave_settled}
use Rattle.core_sides.proofs.Histories.{reached_told}
use Rattle.coupling_core.specs.JudgedLines.{line_of, lines_at, lines_then, lines_after}
use Rattle.coupling_core.specs.LinesStand.{AreLined}
use Rattle.coupling_core.proofs.JudgeEvents.{is_after, judging_scheme, lines_known}
use Rattle.coupling_core.proofs.Lined.{has_no_line, lined_more}
use Rattle.coupling_core.proofs.Steps.{lines_still}

-- a scheme before its first window
abbrev opened : Scheme → SchemeState
opened scheme = record { course = record { relaxer = fresh (method_of scheme.accel); waves = []; firsts = [] }; last = None }

-- the last judged iteration is this one, or another
is_of_turn : (w k : ℕ) (last : Option LastJudged) → IsOfTurn w k last ⊎ (IsOfTurn w k last → ⊥)
is_of_turn w k None = inr (λ none. none)
is_of_turn w k (Some last) = elim (cases_eq last.window w) [
  | inl window ↦ elim (cases_eq last.iteration k) [
    | inl iteration ↦ inl (window, iteration)
    | inr apart ↦ inr (λ same. apart same.1)
  ]
  | inr apart ↦ inr (λ same. apart same.0)
]

module _ (plan : PlanParts) (valid : IsValidPlan plan) where
  stores_of : (history : List WaveEntry) (sides : WaveState) → IsReached plan history sides → (stores : List (Option StoreKept)) × AreStores plan stores sides
  stores_of history sides reached = let some = some_stores plan valid history sides reached in (some.0, some.1)

  pub record SomeLined (sides : WaveState) (lines : List IterLine) : Type 0 where
    pub schemes : List SchemeState
    pub stand : AreSchemes plan schemes sides
    pub kept : All (λ (state : SchemeState). IsKept state.course) schemes
    pub lined : AreLined lines schemes

  unjudged : (number : ℕ) (state : SchemeState) → slice_get (map opened plan.schemes) number ≡ Some state → state.last ≡ None
  unjudged number state at = by (slice_get plan.schemes number) (sym (slice_get-map opened plan.schemes number) ∙ at) where
    by : (o : Option Scheme) → option_map opened o ≡ Some state → state.last ≡ None
    by None is = absurd (none-some state is)
    by (Some scheme) is = subst (λ (s : SchemeState). s.last ≡ None) (same_Some (opened scheme) state is) refl

  at_first : SomeLined opening_state []
  at_first = record {
    schemes = map opened plan.schemes;
    stand = record {
      count = length-map plan.schemes opened;
      each = λ number scheme state at there.
          let same : opened scheme ≡ state = same_Some (opened scheme) state (sym (slice_get-map opened plan.schemes number ∙ ap (λ (o : Option Scheme). option_map opened o) at) ∙ there) in
          subst (λ (s : SchemeState). IsSchemeOf plan opening_state number scheme s s.last) same (λ part below grouped. inl refl);
    };
    kept = All-map (λ (state : SchemeState). IsKept state.course) opened plan.schemes (λ k d inside. tt);
    lined = record {
      earlier = λ number w k state at has. absurd (false≢true has);
      newest = λ number state last at is. absurd (none-some last (sym (unjudged number state at) ∙ is));
    };
  }

  module _ (history : List WaveEntry) (sides : WaveState) (reached : IsReached plan history sides) (part : ℕ) (is_part : part < length plan.parts) (lines : List IterLine) where
    -- the schemes and the lines with an event's judgement
    pub record HeardSo (act : WaveAct) (place : Place) : Type 0 where
      pub some : SomeLined sides (lines_at plan sides place act lines)
      pub heard : IsHeard some.schemes place act

    module _ (some : SomeLined sides lines) (number w k : ℕ) (state : SchemeState) (there : slice_get some.schemes number ≡ Some state)
        (place : (sides part).place ≡ judging number w k) (posted : is_granted (wave_frame plan) sides part (judging number w k) ≡ true) where
      abbrev stores_here : List (Option StoreKept)
      stores_here = (stores_of history sides reached).0

      abbrev at_here : Iteration
      at_here = record { scheme = number; window = w; start = start_of plan (look_in sides) w; number = k }

      may_judge : MayJudge plan stores_here state at_here sides
      may_judge = record {
        history = history;
        reached = reached;
        stores_stand = (stores_of history sides reached).1;
        scheme_stands = λ scheme at. some.stand.each number scheme state at there;
        part = part;
        is_part = is_part;
        place = place;
        posted = posted;
        start = refl;
      }

      module _ (scheme : Scheme) (at : slice_get plan.schemes number ≡ Some scheme) where
        abbrev verdict_here : Verdict
        verdict_here = verdict_in plan (look_in sides) scheme w (start_of plan (look_in sides) w) k

        abbrev fault_here : Option Fault
        fault_here = fault_in (judgement_in plan (look_in sides) number w k scheme (relaxed_after plan (look_in sides) scheme w (start_of plan (look_in sides) w) k).outside verdict_here)

        abbrev last_here : LastJudged
        last_here = record { window = w; iteration = k; verdict = verdict_here; fault = fault_here }

        kept_course : IsKept state.course
        kept_course =
            subst (λ (s : SchemeState). IsKept s.course) (get_or_from_slice_get some.schemes number state state there)
            (some.kept number state (slice_get_within some.schemes number state there))

        module _ (new : IsOfTurn w k state.last → ⊥) where
          written : WrittenDown plan (look_in sides) at_here scheme
          written =
              written_down plan valid stores_here at_here state.course (stands_at plan valid stores_here state at_here sides may_judge).2.iteration
              (is_ready plan valid stores_here state at_here sides may_judge new (vertices_in plan sides) (reached_fits plan valid history sides reached) (vertices_few plan valid history sides reached))
              scheme at kept_course

          abbrev next_here : SchemeState
          next_here = record { course = written.after; last = Some last_here }

          judged : judgement_by fault_here verdict_here ≡ judged_by plan (look_in sides) number w (start_of plan (look_in sides) w) k (slice_get plan.schemes number)
          judged =
              fault_told plan (look_in sides) number w k scheme (relaxed_after plan (look_in sides) scheme w (start_of plan (look_in sides) w) k).outside verdict_here
              ∙ sym (ap (λ (o : Option Scheme). judged_by plan (look_in sides) number w (start_of plan (look_in sides) w) k o) at)

          stands_here : IsLastJudged plan sides number scheme next_here last_here
          stands_here =
              last_judged_now plan valid stores_here state at_here sides may_judge new scheme at verdict_here fault_here written.after last_here refl judged refl
              (λ repeated. written.repeats (sym judged ∙ repeated)) next_here refl

          judged_in : HeardSo judges (judging number w k)
          judged_in = record {
            some = record {
              schemes = set some.schemes number next_here;
              stand = schemes_set plan some.schemes sides number next_here some.stand (λ other there'.
                  subst (λ (z : Scheme). IsLastJudged plan sides number z next_here last_here) (same_Some scheme other (sym at ∙ there')) stands_here);
              kept = All-set (λ (s : SchemeState). IsKept s.course) some.schemes number next_here written.is_kept some.kept;
              lined = subst (λ (xs : List IterLine). AreLined xs (set some.schemes number next_here))
                  (sym (ap (λ (b : Bool). if b then lines else lines ++ line_of plan (look_in sides) number w k ∷ [])
                  (has_no_line lines some.schemes some.lined number w k state there (is_after plan valid stores_here state at_here sides scheme at may_judge new))))
                  (lined_more lines some.schemes some.lined number w k state there next_here last_here (line_of plan (look_in sides) number w k)
                  (is_after plan valid stores_here state at_here sides scheme at may_judge new) refl refl refl refl refl refl);
            };
            heard = λ other there'.
                let same : next_here ≡ other = same_Some next_here other (sym (set_here some.schemes number next_here (slice_get_within some.schemes number state there)) ∙ there') in
                subst (λ (s : SchemeState). IsOfTurn w k s.last) same (refl, refl);
          }

      judged_now : (IsOfTurn w k state.last → ⊥) → HeardSo judges (judging number w k)
      judged_now new = let scheme = scheme_there plan valid stores_here state at_here sides may_judge in judged_in scheme.0 scheme.1 new

      -- one that is told again adds no line
      told_again : IsOfTurn w k state.last → HeardSo judges (judging number w k)
      told_again is = record {
        some = record {
          schemes = some.schemes;
          stand = some.stand;
          kept = some.kept;
          lined = subst (λ (xs : List IterLine). AreLined xs some.schemes) (lines_known plan valid stores_here some.schemes at_here state there lines some.lined sides may_judge is) some.lined;
        };
        heard = λ other at. subst (λ (s : SchemeState). IsOfTurn w k s.last) (same_Some state other (sym there ∙ at)) is;
      }

    heard_at : SomeLined sides lines → (act : WaveAct) (place : Place) → (sides part).place ≡ place → (reply : WaveReply) (side : WaveSide) → made_at (wave_frame plan) sides part place act ≡ Some (reply, side)
        → HeardSo act place
    heard_at some judges (judging number w k) place reply side made = of is_state.0 is_state.1 (is_of_turn w k is_state.0.last) where
      scheme : (z : Scheme) × (slice_get plan.schemes number ≡ Some z)
      scheme = judging_scheme plan valid history sides (reached_told plan history sides valid (wave_settled plan valid) reached) part number w k place is_part

      is_state : (state : SchemeState) × (slice_get some.schemes number ≡ Some state)
      is_state = (let below = slice_get_within plan.schemes number scheme.0 scheme.1 in there some.schemes number (omega (arith, below, some.stand.count)))

      of : (state : SchemeState) → slice_get some.schemes number ≡ Some state → IsOfTurn w k state.last ⊎ (IsOfTurn w k state.last → ⊥) → HeardSo judges (judging number w k)
      of state is (inl turn) = told_again some number w k state is place (guarded _ _ _ made).0 turn
      of state is (inr new) = judged_now some number w k state is place (guarded _ _ _ made).0 new
    heard_at some judges place at reply side made = record { some = some; heard = tt }
    heard_at some act place at reply side made = record {
      some = record {
        schemes = some.schemes;
        stand = some.stand;
        kept = some.kept;
        lined = subst (λ (xs : List IterLine). AreLined xs some.schemes) (sym (lines_still plan sides place act lines tt)) some.lined;
      };
      heard = tt;
    }

  goes_on : (history rest : List WaveEntry) (from to : WaveState) (lines : List IterLine) → IsReached plan history from → SomeLined from lines → Happens (wave_frame plan) from rest to → AreFitting plan from rest
      → SomeLined to (lines_after plan rest from lines)
  goes_on history [] from to lines reached some happens fitting = subst (λ (s : WaveState). SomeLined s lines) happens some
  goes_on history (entry ∷ rest) from to lines reached some happens fitting =
      let heard = heard_at history from reached entry.part happens.2 lines some entry.act (from entry.part).place refl happens.0 happens.1
      (made_by (wave_frame plan) from entry.part entry.act (happens.0, happens.1) happens.3).1 in
      subst (SomeLined to) (sym (ap (lines_then plan (lines_after plan rest) from entry lines) happens.3))
      (goes_on (history ++ entry ∷ []) rest (put from entry.part happens.1) to (lines_at plan from (from entry.part).place entry.act lines)
      (reached_more plan history from entry.part entry.act happens.0 happens.1 reached fitting.0 happens.3)
      (record {
        schemes = heard.some.schemes;
        stand = schemes_go_on plan heard.some.schemes history from entry.part entry.act happens.0 happens.1 valid reached happens.2 happens.3 heard.heard heard.some.stand;
        kept = heard.some.kept;
        lined = heard.some.lined;
      })
      happens.4 (fitting.1 happens.0 happens.1 happens.3))

  pub some_lined : (history : List WaveEntry) (sides : WaveState) → IsReached plan history sides → SomeLined sides (lines_after plan history opening_state [])
  some_lined history sides reached = goes_on [] history opening_state sides [] (record { legal = refl; fitting = tt }) at_first reached.legal reached.fitting
