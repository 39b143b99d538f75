-- How far the stores of what a participant sends have come, by where it stands.
use Rattle.std.proofs.Common.{◌≡◌, ℕ, ◌-◌, ◌<◌, ◌≤◌, List, [], Option, Some, None, IsSome, is_some, inl, inr, length, refl, sym, ap, subst, ◌∙◌, arith}
use Rattle.std.proofs.lemmas.Bool.{cases_eq}
use Rattle.cpl_plan.specs.ValidPlan.{IsValidPlan}
use Rattle.cpl_plan.specs.declared.parts.PlanParts.{PlanParts}
use Rattle.cpl_plan.specs.declared.parts.Exchange.{Exchange}
use Rattle.cpl_plan.specs.declared.words.Item.{Item}
use Rattle.cpl_plan.specs.declared.words.Item.TheVariants.{Completed, Posted}
use Rattle.coupled_loop.specs.Given.{Gift, found}
use Rattle.coupled_loop.specs.CoreState.{Place, opening, within, judging, look_in}
use Rattle.coupled_loop.specs.Numbered.{put}
use Rattle.core_laws.proofs.GoodMoves.{among_members, positive}
use Rattle.core_laws.proofs.PlanSound.{plan_sound}
use Rattle.core_laws.proofs.Puts.{put_same, put_other}
use Rattle.core_laws.proofs.Well.{IsBefore, IsIteration, Stands}
use Rattle.wave_coupling.specs.Posts.{Wave, Post}
use Rattle.wave_coupling.specs.Coupling.{wave_frame, exchanged}
use Rattle.wave_laws.proofs.Settling.{wave_settled}
use Rattle.sample_store.specs.Kept.{Kept as StoreKept}
use Rattle.core_sides.specs.CoreWords.{WaveState, WaveSide, WaveEntry}
use Rattle.core_sides.specs.Reached.{IsReached}
use Rattle.core_sides.proofs.Aligned.{IsTold}
use Rattle.core_sides.proofs.Histories.{reached_told}
use Rattle.core_stores.specs.StoresStand.{gifts_of, IsStoreOf, AreStores}
use Rattle.core_stores.specs.StoreMoves.{IsNext, AreNext, IsPosted, ArePosted, AreOpen}
use Rattle.core_stores.proofs.HeldEnds.{is_given_same}
use Rattle.core_stores.proofs.Posted.{posted_open}
use Rattle.core_stores.proofs.Progresses.{next_turn_is, posted_is}

module _ (plan : PlanParts) (valid : IsValidPlan plan) (sides : WaveState) (told : IsTold (wave_frame plan) sides) where
  -- who stands at a place has given what the place tells
  pub standing_at : (p : ℕ) (place : Place) → (sides p).place ≡ place → Stands (wave_frame plan) (look_in sides) p place (sides p).given
  standing_at p place at = subst (λ (here : Place). Stands (wave_frame plan) (look_in sides) p here (sides p).given) at (told.well.stands p)

  -- it has posted the iterations of its turn's window before
  posted_below : (p w k : ℕ) → p < length plan.parts → IsBefore (wave_frame plan) (look_in sides) p w k → (j : ℕ) → 1 ≤ j → j < k → IsSome (look_in sides p (Posted w j))
  posted_below p w k below before = by ((wave_frame plan).group p) refl before.iteration where
    by : (group : Option ℕ) → (wave_frame plan).group p ≡ group → IsIteration (wave_frame plan) group k → (j : ℕ) → 1 ≤ j → j < k → IsSome (look_in sides p (Posted w j))
    by None grouped only j some less = absurd (omega (arith, only, some, less))
    by (Some scheme) grouped iteration j some less =
        before.group scheme grouped p j (among_members (wave_frame plan) (plan_sound plan (exchanged plan) valid) p scheme below grouped) some less

  module _ (x : ℕ) (e : Exchange) (w k : ℕ) where
    -- there is a store where something was given
    not_empty : (item : Item) → IsSome (look_in sides e.from item) → IsStoreOf (gifts_of plan e x (sides e.from).given) None → ⊥
    not_empty item is empty =
        let none : is_some (found (gifts_of plan e x (sides e.from).given) item) ≡ is_some (found {Post = Wave} [] item) =
        ap (λ (given : List (Gift Wave)). is_some (found given item)) empty in
        let some = is_given_same plan e x (sides e.from).given item ∙ is in
        cc

    pub is_next : e.from < length plan.parts → (sides e.from).place ≡ within w k → (o : Option StoreKept) → IsStoreOf (gifts_of plan e x (sides e.from).given) o → IsNext o w k
    is_next below at None empty = absurd (not_empty (Completed (w - 1)) (standing_at e.from (within w k) at).0.completed empty)
    is_next below at (Some store) stands =
        let here = standing_at e.from (within w k) at in
        next_turn_is (wave_frame plan) (look_in sides) e.from (gifts_of plan e x (sides e.from).given) store.progress stands.order
        (is_given_same plan e x (sides e.from).given) w k here.0 (positive (wave_frame plan) ((wave_frame plan).group e.from) k here.0.iteration) here.2
        (posted_below e.from w k below here.0)

    pub is_posted : (scheme : ℕ) → (sides e.from).place ≡ judging scheme w k → (o : Option StoreKept) → IsStoreOf (gifts_of plan e x (sides e.from).given) o → IsPosted o w k
    is_posted scheme at None empty = absurd (not_empty (Completed (w - 1)) (standing_at e.from (judging scheme w k) at).1.completed empty)
    is_posted scheme at (Some store) stands =
        let here = standing_at e.from (judging scheme w k) at in
        let newest = posted_is (wave_frame plan) (look_in sides) e.from (gifts_of plan e x (sides e.from).given) store.progress stands.order
        (is_given_same plan e x (sides e.from).given) w k here.1 here.4 here.3 in
        (newest.1, newest.2, newest.0)

  place_of_sender : (p : ℕ) (e : Exchange) (place : Place) → e.from ≡ p → (sides p).place ≡ place → (sides e.from).place ≡ place
  place_of_sender p e place own at = ap (λ (q : ℕ). (sides q).place) own ∙ at

module _ (plan : PlanParts) (valid : IsValidPlan plan) (history : List WaveEntry) (sides : WaveState) (reached : IsReached plan history sides) where
  told : IsTold (wave_frame plan) sides
  told = reached_told plan history sides valid (wave_settled plan valid) reached

  -- before its first post a participant has given nothing
  pub none_given : (p : ℕ) → (sides p).place ≡ opening → (sides p).given ≡ []
  none_given p at = standing_at plan valid sides told p opening at

  module _ (stores : List (Option StoreKept)) (are : AreStores plan stores sides) (p w k : ℕ) where
    -- before its post of turn (w, k) that turn is the next of each exchange
    pub are_next : p < length plan.parts → (sides p).place ≡ within w k → AreNext plan.exchanges stores p w k
    are_next below at x e store there own kept =
        is_next plan valid sides told x e w k (subst (λ (q : ℕ). q < length plan.parts) (sym own) below)
        (place_of_sender plan valid sides told p e (within w k) own at) store (are.each x e store there kept)

    -- when it judges turn (w, k) that turn is the newest of each exchange
    pub are_posted : (scheme : ℕ) → (sides p).place ≡ judging scheme w k → ArePosted plan.exchanges stores p w k
    are_posted scheme at x e store there own kept =
        is_posted plan valid sides told x e w k scheme (place_of_sender plan valid sides told p e (judging scheme w k) own at) store (are.each x e store there kept)

    -- and not accepted yet
    pub are_open : (scheme : ℕ) → (sides p).place ≡ judging scheme w k → AreOpen plan.exchanges stores p w
    are_open scheme at = posted_open plan.exchanges stores p w k (are_posted scheme at)

-- where nothing more is given, the stores stand as they are
pub stores_alike : (plan : PlanParts) (stores : List (Option StoreKept)) (sides other : WaveState) → ((q : ℕ) → (other q).given ≡ (sides q).given)
    → AreStores plan stores sides → AreStores plan stores other
stores_alike plan stores sides other same are = record {
  count = are.count;
  each = λ x e store at there.
      subst (λ (list : List (Gift Post)). IsStoreOf (gifts_of plan e x list) store) (sym (same e.from)) (are.each x e store at there);
}

pub stores_same : (plan : PlanParts) (stores : List (Option StoreKept)) (sides : WaveState) (p : ℕ) (side : WaveSide) → side.given ≡ (sides p).given
    → AreStores plan stores sides → AreStores plan stores (put sides p side)
stores_same plan stores sides p side same are = stores_alike plan stores sides (put sides p side) by are where
  by : (q : ℕ) → (put sides p side q).given ≡ (sides q).given
  by q = elim (cases_eq q p) [
    | inl here ↦ subst (λ (r : ℕ). (put sides p side r).given ≡ (sides r).given) (sym here) (ap (λ (s : WaveSide). s.given) (put_same sides p side) ∙ same)
    | inr apart ↦ ap (λ (s : WaveSide). s.given) (put_other sides p side q apart)
  ]
