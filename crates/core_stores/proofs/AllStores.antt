-- In every state that fitting events come to there are stores for all exchanges.
use Rattle.std.proofs.Common.{◌≡◌, ℕ, zero, suc, ◌<◌, inl, inr, List, [], ◌∷◌, Option, Some, None, length, slice_get, refl, sym, ap, subst, ◌∙◌, arith}
use Rattle.std.proofs.lemmas.Bool.{cases_eq}
use Rattle.std.proofs.lemmas.Option.{same_Some, none-some, slice_get_within}
use Rattle.cpl_plan.specs.ValidPlan.{IsValidPlan}
use Rattle.cpl_plan.specs.declared.parts.PlanParts.{PlanParts}
use Rattle.cpl_plan.specs.declared.parts.Exchange.{Exchange}
use Rattle.cpl_plan.specs.declared.words.Fault.{Fault}
use Rattle.cpl_plan.specs.declared.words.Item.TheVariants.{Completed, Posted}
use Rattle.coupled_loop.specs.Numbered.{put}
use Rattle.coupled_loop.specs.Endings.{Judgement, again, converged, at_limit, refused, Ending, faulted, no_memory, cut}
use Rattle.coupled_loop.specs.Given.{Gift, gives, accepts}
use Rattle.coupled_loop.specs.CoreState.{Place, sending, collecting, opening, taking, within, judging, look_in}
use Rattle.coupled_loop.specs.CoreStep.{sends_meshes, takes_meshes, posts, takes, judges, stops, lacks_memory, ends, is_cut, cut_off, after_post, after_judgement, ends_with, made_at, is_cut_off, ending_at}
use Rattle.coupled_loop.specs.LegalHistory.{Happens, opening_state}
use Rattle.core_laws.proofs.GoodSteps.{second_same}
use Rattle.core_laws.proofs.PlanSound.{plan_sound}
use Rattle.core_laws.proofs.Puts.{put_same, put_other}
use Rattle.core_laws.proofs.Steps.{guarded, made_by}
use Rattle.core_laws.proofs.Wellness.{opening_well}
use Rattle.wave_coupling.specs.Posts.{Wave, Post, wave_of}
use Rattle.wave_coupling.specs.Coupling.{wave_frame, exchanged}
use Rattle.wave_laws.proofs.Settling.{wave_settled}
use Rattle.sample_store.specs.Kept.{Kept as StoreKept}
use Rattle.sample_store.proofs.Mapped.{gives_part, accepts_part}
use Rattle.core_sides.specs.CoreWords.{WaveState, WaveSide, WaveAct, WaveReply, WaveEntry}
use Rattle.core_sides.specs.Reached.{IsReached}
use Rattle.core_sides.proofs.Aligned.{IsTold, step_told, opening_aligned}
use Rattle.core_stores.specs.StoresStand.{gifts_of, IsStoreOf, AreStores, AreKept}
use Rattle.core_stores.specs.StoreMoves.{IsNext, IsPosted}
use Rattle.core_stores.proofs.Changes.{at_place}
use Rattle.core_stores.proofs.SomeStores.{IsKeptThere, HasStore, HasPosted, has_store, opened_has, posted_has, accepted_has}
use Rattle.core_stores.proofs.Turns.{standing_at, is_next, is_posted}

-- what is there for each item of a list is there as a list
listed : {X Y : Type 0} (xs : List X) (P : ℕ → X → Y → Type 0) → ((n : ℕ) (x : X) → slice_get xs n ≡ Some x → (y : Y) × P n x y)
    → (ys : List Y) × (length ys ≡ length xs) × ((n : ℕ) (x : X) (y : Y) → slice_get xs n ≡ Some x → slice_get ys n ≡ Some y → P n x y)
listed [] P each = ([], refl, λ n x y at there. absurd (none-some x at))
listed {X} {Y} (x ∷ xs) P each =
    let head = each zero x refl in
    let rest = listed xs (λ n. P (suc n)) (λ n z at. each (suc n) z at) in
    (head.0 ∷ rest.0, ap suc rest.1, λ n z y at there. by head.0 head.1 rest.0 rest.2 n z y at there) where
      by : (first : Y) → P zero x first → (ys : List Y) → ((n : ℕ) (z : X) (y : Y) → slice_get xs n ≡ Some z → slice_get ys n ≡ Some y → P (suc n) z y)
          → (n : ℕ) (z : X) (y : Y) → slice_get (x ∷ xs) n ≡ Some z → slice_get (first ∷ ys) n ≡ Some y → P n z y
      by first is ys more zero z y at there = subst (λ (u : X). P zero u y) (same_Some x z at) (subst (P zero x) (same_Some first y there) is)
      by first is ys more (suc n) z y at there = more n z y at there

module _ (plan : PlanParts) where
  -- for each exchange there is a store of what its sender has given
  abbrev HaveStores : WaveState → Type 0
  HaveStores sides = (x : ℕ) (e : Exchange) → slice_get plan.exchanges x ≡ Some e → HasStore (gifts_of plan e x (sides e.from).given)

  module _ (valid : IsValidPlan plan) (sides : WaveState) (told : IsTold (wave_frame plan) sides) (have : HaveStores sides) (p : ℕ) (below : p < length plan.parts) where
    module _ (x : ℕ) (e : Exchange) (at : slice_get plan.exchanges x ≡ Some e) (own : e.from ≡ p) where
      -- what it gives then
      abbrev Has : List (Gift Post) → Type 0
      Has given = HasStore (gifts_of plan e x given)

      had : Has (sides p).given
      had = subst (λ (q : ℕ). Has (sides q).given) own (have x e at)

      opens : (post : Post) → (sides p).given ≡ [] → Has (gives (Completed 0) 0 post (sides p).given)
      opens post none = subst (λ (given : List (Gift Post)). Has (gives (Completed 0) 0 post given)) (sym none) (opened_has (wave_of plan e x post))

      puts : (w k : ℕ) (post : Post) → (sides p).place ≡ within w k → HasPosted w k (gifts_of plan e x (gives (Posted w k) k post (sides p).given))
      puts w k post here = by had.store had.stands had.kept where
        next : (o : Option StoreKept) → IsStoreOf (gifts_of plan e x (sides p).given) o → IsNext o w k
        next o stands =
            is_next plan valid sides told x e w k (subst (λ (q : ℕ). q < length plan.parts) (sym own) below) (ap (λ (q : ℕ). (sides q).place) own ∙ here) o
            (subst (λ (q : ℕ). IsStoreOf (gifts_of plan e x (sides q).given) o) (sym own) stands)

        by : (o : Option StoreKept) → IsStoreOf (gifts_of plan e x (sides p).given) o → IsKeptThere o → HasPosted w k (gifts_of plan e x (gives (Posted w k) k post (sides p).given))
        by None stands kept = absurd (next None stands)
        by (Some store) stands kept =
            subst (λ (given : List (Gift Wave)). HasPosted w k given) (gives_part (wave_of plan e x) (Posted w k) k post (sides p).given)
            (posted_has (gifts_of plan e x (sides p).given) store stands kept w k (wave_of plan e x post) (next (Some store) stands))

      accepts_it : (w k : ℕ) (given : List (Gift Post)) → (o : Option StoreKept) → IsStoreOf (gifts_of plan e x given) o → IsKeptThere o → IsPosted o w k → Has (accepts w k given)
      accepts_it w k given None stands kept posted = absurd posted
      accepts_it w k given (Some store) stands kept posted =
          subst HasStore (accepts_part (wave_of plan e x) w k given) (accepted_has (gifts_of plan e x given) store stands kept w k posted)

      completes_it : (scheme w k : ℕ) → (sides p).place ≡ judging scheme w k → Has (accepts w k (sides p).given)
      completes_it scheme w k here =
          accepts_it w k (sides p).given had.store had.stands had.kept
          (is_posted plan valid sides told x e w k scheme (ap (λ (q : ℕ). (sides q).place) own ∙ here) had.store
          (subst (λ (q : ℕ). IsStoreOf (gifts_of plan e x (sides q).given) had.store) (sym own) had.stands))

      posts_it : (w k : ℕ) (post : Post) → (sides p).place ≡ within w k → (group : Option ℕ) → Has (after_post group w k post (sides p)).given
      posts_it w k post here None =
          let put_there = puts w k post here in
          accepts_it w k (gives (Posted w k) k post (sides p).given) (Some put_there.store) put_there.stands put_there.kept put_there.posted
      posts_it w k post here (Some scheme) = has_store w k (gifts_of plan e x (gives (Posted w k) k post (sides p).given)) (puts w k post here)

      hears_it : (scheme w k : ℕ) → (sides p).place ≡ judging scheme w k → (judgement : Judgement Fault) → Has (after_judgement judgement w k (sides p)).given
      hears_it scheme w k here again = had
      hears_it scheme w k here converged = completes_it scheme w k here
      hears_it scheme w k here at_limit = completes_it scheme w k here
      hears_it scheme w k here (refused fault) = had

      ends_there : (ending : Ending Fault) (side : WaveSide) → ends_with ending (sides p) ≡ side → Has side.given
      ends_there ending side is = subst (λ (s : WaveSide). Has s.given) is had

      after : (place : Place) → (sides p).place ≡ place → (act : WaveAct) (reply : WaveReply) (side : WaveSide)
          → made_at (wave_frame plan) sides p place act ≡ Some (reply, side) → Has side.given
      after sending here (sends_meshes meshes) reply side made = subst (λ (s : WaveSide). Has s.given) (second_same _ _ made) had
      after collecting here takes_meshes reply side made =
          subst (λ (s : WaveSide). Has s.given) (ap (λ (pair : WaveReply × WaveSide). pair.1) (guarded _ _ _ made).1) had
      after opening here (posts post) reply side made =
          subst (λ (s : WaveSide). Has s.given) (second_same _ _ made) (opens post (standing_at plan valid sides told p opening here))
      after (taking w k) here takes reply side made =
          subst (λ (s : WaveSide). Has s.given) (ap (λ (pair : WaveReply × WaveSide). pair.1) (guarded _ _ _ made).1) had
      after (within w k) here (posts post) reply side made =
          subst (λ (s : WaveSide). Has s.given) (second_same _ _ made) (posts_it w k post here ((wave_frame plan).group p))
      after (judging scheme w k) here judges reply side made =
          subst (λ (s : WaveSide). Has s.given) (ap (λ (pair : WaveReply × WaveSide). pair.1) (guarded _ _ _ made).1)
          (hears_it scheme w k here ((wave_frame plan).judge (look_in sides) scheme w k))
      after place here (stops fault) reply side made = ends_there (faulted fault) side (second_same _ _ made)
      after place here lacks_memory reply side made = ends_there no_memory side (second_same _ _ made)
      after place here ends reply side made = ends_there (ending_at (wave_frame plan) sides p place) side (second_same _ _ made)
      after place here is_cut reply side made =
          ends_there cut side
          (ap (λ (pair : WaveReply × WaveSide). pair.1)
          (guarded (is_cut_off (wave_frame plan) sides p place) (cut_off, ends_with cut (sides p)) (reply, side) made).1)
      after place here act reply side made = cc

    -- one event more
    step_stores : (act : WaveAct) (reply : WaveReply) (side : WaveSide) → made_at (wave_frame plan) sides p (sides p).place act ≡ Some (reply, side) → HaveStores (put sides p side)
    step_stores act reply side made x e at = elim (cases_eq e.from p) [
      | inl own ↦
          subst (λ (q : ℕ). HasStore (gifts_of plan e x (put sides p side q).given)) (sym own)
          (subst (λ (s : WaveSide). HasStore (gifts_of plan e x s.given)) (sym (put_same sides p side))
          (after x e at own (sides p).place refl act reply side made))
      | inr apart ↦ subst (λ (s : WaveSide). HasStore (gifts_of plan e x s.given)) (sym (put_other sides p side e.from apart)) (have x e at)
    ]

  module _ (valid : IsValidPlan plan) where
    happens_stores : (history : List WaveEntry) (from to : WaveState) → IsTold (wave_frame plan) from → HaveStores from → Happens (wave_frame plan) from history to → HaveStores to
    happens_stores [] from to told have happens = subst HaveStores happens have
    happens_stores (entry ∷ rest) from to told have happens =
        happens_stores rest (put from entry.part happens.1) to
        (step_told (wave_frame plan) (plan_sound plan (exchanged plan) valid) (wave_settled plan valid) from entry.part entry.act happens.0 happens.1 happens.2 happens.3 told)
        (step_stores valid from told have entry.part happens.2 entry.act happens.0 happens.1 (made_by (wave_frame plan) from entry.part entry.act (happens.0, happens.1) happens.3).1)
        happens.4

    -- some stores stand for the state, and each has what has to be there
    pub some_stores : (history : List WaveEntry) (sides : WaveState) → IsReached plan history sides → (stores : List (Option StoreKept)) × AreStores plan stores sides × AreKept stores
    some_stores history sides reached =
        let have = happens_stores history opening_state sides (record { well = opening_well (wave_frame plan); aligned = opening_aligned (wave_frame plan) })
        (λ x e at. record { store = None; stands = refl; kept = tt }) reached.legal in
        let all = listed plan.exchanges (λ (x : ℕ) (e : Exchange) (o : Option StoreKept). IsStoreOf (gifts_of plan e x (sides e.from).given) o × IsKeptThere o)
        (λ x e at. let has = have x e at in (has.store, (has.stands, has.kept))) in (
          all.0,
          record { count = all.1; each = λ x e store at there. (all.2 x e store at there).0 },
          λ x store there.
              let within : x < length plan.exchanges = let last = slice_get_within all.0 x (Some store) there in let many = all.1 in omega (arith, last, many) in
              let e = at_place plan.exchanges x within in
              (all.2 x e.0 (Some store) e.1 there).1,
        )
