-- Events that give nothing: one participant stands otherwise in its turn, or has ended.
use Rattle.std.proofs.Common.{◌≡◌, ℕ, ◌<◌, length, List, [], ◌∷◌, ◌++◌, set, slice_get, Option, Some, None, Ok, refl, sym, ap, subst, ◌∙◌, arith}
use Rattle.std.proofs.Common.{option_map}
use Rattle.cpl_plan.specs.ValidPlan.{IsValidPlan}
use Rattle.cpl_plan.specs.declared.words.Fault.{Fault}
use Rattle.coupled_loop.specs.Endings.{Ending as LoopEnding}
use Rattle.coupled_loop.specs.Numbered.{put}
use Rattle.coupled_loop.specs.CoreState.{has_ended}
use Rattle.coupled_loop.specs.CoreStep.{ends_with}
use Rattle.core_sides.specs.Answers.{entry_in, ending_of, state_after}
use Rattle.core_sides.specs.CoreWords.{WaveState, WaveSide, WaveAct, WaveReply, WaveEntry, wave_step}
use Rattle.core_sides.specs.Fitting.{IsFitting}
use Rattle.core_sides.specs.SidesStand.{IsStanding}
use Rattle.core_sides.specs.declared.standing.Standing.{Standing}
use Rattle.core_schemes.specs.Judging.{IsHeard}
use Rattle.coupling_core.specs.CoreKept.{CoreKept}
use Rattle.coupling_core.specs.JudgedLines.{lines_at}
use Rattle.coupling_core.specs.OneMore.{MayMake}
use Rattle.coupling_core.specs.StandsFor.{StandsFor, IsKept}
use Rattle.coupling_core.proofs.Steps.{IsQuiet, lines_still, stands_more}
use Rattle.coupling_core.proofs.PlacedPuts.{placed_moved}
use Rattle.core_schemes.proofs.GoOn.{schemes_go_on}
use Rattle.core_stores.proofs.Turns.{stores_same}

-- whoever may ask for something is a participant
pub is_participant : (core : CoreKept) (p : ℕ) (act : WaveAct) → IsKept core → MayMake core p act → p < length core.plan.parts
is_participant core p act kept may = (may kept.history kept.state kept.stands).participant

pub has_standing : (core : CoreKept) (p : ℕ) (act : WaveAct) → IsKept core → MayMake core p act → p < length core.standings
has_standing core p act kept may = let below = is_participant core p act kept may in omega (arith, below, kept.stands.sides.count)

-- an ending changes nothing else
pub ended_standing : (s : Standing) (side : WaveSide) (ending : LoopEnding Fault) → IsStanding s side → IsStanding (record s { ending = Some (ending_of ending) }) (ends_with ending side)
ended_standing s side ending is = record { place = is.place; ending = refl; sent = is.sent }

module _ (core : CoreKept) (history : List WaveEntry) (sides : WaveState) (part : ℕ) (act : WaveAct) (reply : WaveReply) (side : WaveSide)
    (stands : StandsFor core history sides) (fits : IsFitting core.plan sides part act) (made : wave_step core.plan sides part act ≡ Some (reply, side)) (valid : IsValidPlan core.plan) where
  pub moved : (standings : List Standing) (windows : List ℕ) (next : Standing) → standings ≡ set core.standings part next → windows ≡ core.ends → IsStanding next side
      → side.given ≡ (sides part).given → IsHeard core.schemes (sides part).place act → IsQuiet act
      → StandsFor (record core { standings = standings; ends = windows }) (history ++ record { part = part; act = act } ∷ []) (put sides part side)
  moved standings windows next is_set ends is given heard quiet =
      stands_more core history sides part act reply side stands fits made standings windows core.stores core.schemes core.lines
      (placed_moved core.plan core.standings core.ends standings windows sides stands.sides part next side fits.participant is_set is ends given)
      (stores_same core.plan core.stores sides part side given stands.stores)
      (schemes_go_on core.plan core.schemes history sides part act reply side valid stands.reached fits.participant made heard stands.schemes)
      (sym (lines_still core.plan sides (sides part).place act core.lines quiet)) stands.lined
