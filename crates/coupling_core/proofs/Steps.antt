-- One more event: what is kept after it stands for the list with it.
use Rattle.std.proofs.Common.{◌≡◌, ℕ, ◌<◌, length, List, [], ◌∷◌, ◌++◌, Option, Some, None, is_some, if◌then◌else◌, Ok, refl, sym, ap, subst, ◌∙◌}
use Rattle.cpl_plan.specs.declared.parts.PlanParts.{PlanParts}
use Rattle.cpl_plan.specs.declared.words.IterLine.{IterLine}
use Rattle.coupled_loop.specs.Numbered.{put}
use Rattle.coupled_loop.specs.CoreState.{Place, sending, collecting, opening, taking, within, judging}
use Rattle.coupled_loop.specs.CoreStep.{sends_meshes, takes_meshes, posts, takes, judges, stops, lacks_memory, ends, is_cut, cut_by, waits_for}
use Rattle.coupled_loop.specs.LegalHistory.{Happens, opening_state}
use Rattle.wave_coupling.specs.Coupling.{wave_frame}
use Rattle.sample_store.specs.Kept.{Kept as StoreKept}
use Rattle.core_sides.specs.Answers.{shown, answer_by, answer_in, entry_in, side_by, state_after}
use Rattle.core_sides.specs.CoreWords.{WaveState, WaveSide, WaveAct, WaveReply, WaveEntry, wave_step}
use Rattle.core_sides.specs.Fitting.{IsFitting}
use Rattle.core_sides.specs.declared.standing.Standing.{Standing}
use Rattle.core_sides.proofs.Histories.{reached_more}
use Rattle.core_stores.specs.StoresStand.{AreStores}
use Rattle.core_schemes.specs.SchemesStand.{AreSchemes}
use Rattle.core_schemes.specs.declared.schemes.SchemeState.{SchemeState}
use Rattle.coupling_core.specs.CoreKept.{CoreKept}
use Rattle.coupling_core.specs.JudgedLines.{lines_at, lines_then, lines_after, lines_of}
use Rattle.coupling_core.specs.LinesStand.{AreLined}
use Rattle.coupling_core.specs.Placed.{ArePlaced}
use Rattle.coupling_core.specs.StandsFor.{StandsFor}

-- the lines after one more event
pub lines_more : (plan : PlanParts) (history : List WaveEntry) (from to : WaveState) (entry : WaveEntry) (reply : WaveReply) (side : WaveSide) (lines : List IterLine)
    → Happens (wave_frame plan) from history to → wave_step plan to entry.part entry.act ≡ Some (reply, side)
    → lines_after plan (history ++ entry ∷ []) from lines ≡ lines_at plan to (to entry.part).place entry.act (lines_after plan history from lines)
lines_more plan [] from to entry reply side lines happens made =
    ap (λ (s : WaveState). lines_then plan (lines_after plan []) s entry lines (wave_step plan s entry.part entry.act)) happens
    ∙ ap (λ o. lines_then plan (lines_after plan []) to entry lines o) made
lines_more plan (one ∷ rest) from to entry reply side lines happens made =
    ap (λ o. lines_then plan (lines_after plan (rest ++ entry ∷ [])) from one lines o) happens.3
    ∙ lines_more plan rest (put from one.part happens.1) to entry reply side (lines_at plan from (from one.part).place one.act lines) happens.4 made
    ∙ ap (λ o. lines_at plan to (to entry.part).place entry.act (lines_then plan (lines_after plan rest) from one lines o)) (sym happens.3)

-- an event that is no Judge adds no line
abbrev pub IsQuiet : WaveAct → Type 0
IsQuiet judges = ⊥
IsQuiet _ = Unit {0}

pub lines_still : (plan : PlanParts) (sides : WaveState) (place : Place) (act : WaveAct) (lines : List IterLine) → IsQuiet act → lines_at plan sides place act lines ≡ lines
lines_still plan sides (judging number w k) judges lines quiet = absurd quiet
lines_still plan sides place act lines quiet = refl

module _ (plan : PlanParts) (sides : WaveState) (part : ℕ) (act : WaveAct) (reply : WaveReply) (side : WaveSide) (made : wave_step plan sides part act ≡ Some (reply, side)) where
  -- what is made is the event
  pub entry_made : record { part = part; act = act } ≡ entry_in plan sides part act
  entry_made = ap (λ (o : Option (WaveReply × WaveSide)). record { part = part; act = if is_some o then act else is_cut }) (sym made)

  pub state_made : put sides part side ≡ state_after plan sides part act
  state_made = ap (λ (o : Option (WaveReply × WaveSide)). put sides part (side_by plan sides part o)) (sym made)

  pub answer_made : answer_in plan sides part act ≡ Ok (shown plan sides part reply)
  answer_made = ap (λ (o : Option (WaveReply × WaveSide)). answer_by plan sides part o (cut_by (wave_frame plan) sides part) (waits_for (wave_frame plan) sides part)) made

module _ (core : CoreKept) (history : List WaveEntry) (sides : WaveState) (part : ℕ) (act : WaveAct) (reply : WaveReply) (side : WaveSide)
    (stands : StandsFor core history sides) (fits : IsFitting core.plan sides part act) (made : wave_step core.plan sides part act ≡ Some (reply, side)) where
  -- what is kept after an event, by its parts
  pub stands_more : (standings : List Standing) (windows : List ℕ) (stores : List (Option StoreKept)) (schemes : List SchemeState) (lines : List IterLine)
      → ArePlaced core.plan standings windows (put sides part side) → AreStores core.plan stores (put sides part side) → AreSchemes core.plan schemes (put sides part side)
      → lines ≡ lines_at core.plan sides (sides part).place act core.lines → AreLined lines schemes
      → StandsFor (record { plan = core.plan; standings = standings; ends = windows; stores = stores; schemes = schemes; lines = lines }) (history ++ record { part = part; act = act } ∷ []) (put sides part side)
  stands_more standings windows stores schemes lines standing are_stores are_schemes same lined = record {
    reached = reached_more core.plan history sides part act reply side stands.reached fits made;
    sides = standing;
    stores = are_stores;
    schemes = are_schemes;
    lines = same ∙ ap (lines_at core.plan sides (sides part).place act) stands.lines
        ∙ sym (lines_more core.plan history opening_state sides (record { part = part; act = act }) reply side [] stands.reached.legal made);
    lined = lined;
  }

  -- as it is said of an event that is asked for
  pub as_asked : (now : CoreKept) → StandsFor now (history ++ record { part = part; act = act } ∷ []) (put sides part side)
      → StandsFor now (history ++ entry_in core.plan sides part act ∷ []) (state_after core.plan sides part act)
  as_asked now is =
      subst (λ (e : WaveEntry). StandsFor now (history ++ e ∷ []) (state_after core.plan sides part act)) (entry_made core.plan sides part act reply side made)
      (subst (λ (s : WaveState). StandsFor now (history ++ record { part = part; act = act } ∷ []) s) (state_made core.plan sides part act reply side made) is)
