-- The posts of a participant: the initial one, and that of a turn.
use Rattle.std.proofs.Common.{◌≡◌, ℕ, zero, suc, ◌+◌, ◌-◌, ◌<◌, ◌≤◌, ◌^◌, inl, inr, Bool, true, false, ◌&&◌, nat_eq, eq-eqb, ne_eqb, if◌then◌else◌, List, [], ◌∷◌, ◌++◌, All, Contains, length, set, take, slice_get, Option, Some, None, IsSome, is_some, Ok, refl, sym, ap, subst, ◌∙◌, arith}
use Rattle.std.proofs.lemmas.Bool.{cases_eq, false≢true}
use Rattle.std.proofs.lemmas.List.Elements.{All-from_get_or, Contains-get_or}
use Rattle.std.proofs.lemmas.Option.{slice_get-get_or}
use Rattle.waveform.specs.declared.sample.Sample.{Sample}
use Rattle.cpl_plan.specs.PlanWords.{passes, numbers}
use Rattle.cpl_plan.specs.ValidPlan.{IsValidPlan}
use Rattle.cpl_plan.specs.declared.parts.PlanParts.{PlanParts}
use Rattle.cpl_plan.specs.declared.parts.Exchange.{Exchange}
use Rattle.cpl_plan.specs.declared.parts.WindowMethod.{WindowMethod}
use Rattle.cpl_plan.specs.declared.parts.WindowMethod.TheVariants.{Fixed, FirstParticipant}
use Rattle.cpl_plan.specs.declared.words.Item.{Item}
use Rattle.cpl_plan.specs.declared.words.Item.TheVariants.{Completed, Posted}
use Rattle.cpl_plan.proofs.FixedWindows.{window_number}
use Rattle.cpl_plan.proofs.Readings.{filter_in, passes_at}
use Rattle.coupled_loop.specs.Given.{Gift, found, gives, accepts}
use Rattle.coupled_loop.specs.Numbered.{put}
use Rattle.coupled_loop.specs.CoreState.{Place, sending, collecting, opening, taking, within, judging, look_in}
use Rattle.coupled_loop.specs.CoreStep.{posts, posted, completes, after_post, made_at}
use Rattle.coupled_loop.specs.PlanFrames.{group_of, window_maker, ends_made}
use Rattle.core_laws.proofs.Puts.{put_same, put_twice}
use Rattle.core_laws.proofs.Well.{Stands}
use Rattle.wave_coupling.specs.Posts.{Wave, Post, sent, newest_time}
use Rattle.wave_coupling.specs.Coupling.{makes_windows, is_first_step, wave_frame}
use Rattle.wave_laws.proofs.Settling.{wave_settled}
use Rattle.core_sides.specs.CoreWords.{WaveState, WaveSide, WaveEntry, wave_step}
use Rattle.core_sides.specs.Fitting.{FitsAt, IsFitting}
use Rattle.core_sides.specs.FittingPosts.{AreWaves, IsInitialWave, IsInitialPost, IsWindowPost}
use Rattle.core_sides.specs.SidesStand.{place_of, IsStanding}
use Rattle.core_sides.specs.declared.event.Reply.TheVariants.{Posted as PostedReply}
use Rattle.core_sides.specs.declared.standing.Place.{Place as KeptPlace}
use Rattle.core_sides.specs.declared.standing.Place.TheVariants.{Sending, Collecting, Opening, Taking, Within, Judging}
use Rattle.core_sides.specs.declared.standing.Standing.{Standing}
use Rattle.core_sides.proofs.Aligned.{IsTold}
use Rattle.core_sides.proofs.Histories.{reached_told}
use Rattle.core_sides.proofs.PlaceTells.{completed_before}
use Rattle.core_stores.specs.StoresStand.{AreStores}
use Rattle.core_stores.specs.StoreMoves.{IsInitial, AreNext, ArePosted}
use Rattle.sample_store.specs.Kept.{Kept as StoreKept}
use Rattle.coupling_core.specs.CoreKept.{CoreKept}
use Rattle.coupling_core.specs.Heard.{place_posted}
use Rattle.coupling_core.specs.OneMore.{MayMake, Answers, Makes}
use Rattle.coupling_core.specs.Placed.{ArePlaced}
use Rattle.coupling_core.specs.StandsFor.{StandsFor, IsKept}
use Rattle.coupling_core.proofs.Ends.{ends_alike, ends_more}
use Rattle.coupling_core.proofs.Looking.{alone, look_own, look_other, found_past, completed_gift, completed_post, other_window, this_window}
use Rattle.coupling_core.proofs.PlacedPuts.{placed_put}
use Rattle.coupling_core.proofs.Steps.{answer_made, as_asked, lines_still, stands_more}
use Rattle.core_schemes.proofs.GoOn.{schemes_go_on}
use Rattle.core_stores.proofs.Turns.{are_next, none_given}
use Rattle.coupling_core.proofs.TurnEvents.{running_made, IsSetTo}

-- a wave for each exchange that is sent
module _ (plan : PlanParts) (part : ℕ) (Fits : Exchange → Wave → Type 0) (post : Post) (are : AreWaves plan part Fits post) where
  fits_there : (i : ℕ) → i < length post → (wave : Wave) → slice_get post i ≡ Some wave → (e : Exchange) × Fits e wave
  fits_there i below wave at =
      let within : i < length (sent plan part) = omega (arith, below, are.count) in
      let own = (filter_in (λ x. passes plan.exchanges x (λ e. nat_eq e.from part)) (numbers plan.exchanges) _ (Contains-get_or (sent plan part) i 0 within)).1 in
      let there = passes_at plan.exchanges _ (λ e. nat_eq e.from part) own in
      (there.0, are.each i _ there.0 wave (slice_get-get_or (sent plan part) i 0 within) there.1 at)

  pub each_wave : (Is : Wave → Type 0) → ((e : Exchange) (wave : Wave) → Fits e wave → Is wave) → All Is post
  each_wave Is so = All-from_get_or Is post [] (λ i below.
      let fits = fits_there i below _ (slice_get-get_or post i [] below) in so fits.0 _ fits.1)

module _ (plan : PlanParts) (sides : WaveState) (p : ℕ) where
  -- the places at which a participant posts
  pub opening_from : (place : KeptPlace) (post : Post) → FitsAt plan sides p (place_of place) (posts post) → ((w k : ℕ) → place ≡ Within w k → ⊥) → place ≡ Opening
  opening_from Opening post fits apart = refl
  opening_from (Within w k) post fits apart = absurd (apart w k refl)
  opening_from Sending post fits apart = absurd fits
  opening_from Collecting post fits apart = absurd fits
  opening_from (Taking w k) post fits apart = absurd fits
  opening_from (Judging scheme w k) post fits apart = absurd fits

  looks_by : (side : WaveSide) (q : ℕ) (item : Item) → (q ≡ p → found side.given item ≡ found (sides p).given item) → look_in (put sides p side) q item ≡ look_in sides q item
  looks_by side q item own = elim (cases_eq q p) [
    | inl here ↦
        ap (λ (r : ℕ). look_in (put sides p side) r item) here ∙ look_own sides p side item ∙ own here ∙ ap (λ (r : ℕ). look_in sides r item) (sym here)
    | inr apart ↦ look_other sides p side q item apart
  ]

-- it posts its initial data first
pub opens_from : (core : CoreKept) (p : ℕ) (s : Standing) → slice_get core.standings p ≡ Some s → (post : Post) → MayMake core p (posts post) → IsKept core
    → ((w k : ℕ) → s.place ≡ Within w k → ⊥) → s.place ≡ Opening
opens_from core p s at post may kept apart =
    opening_from core.plan kept.state p s.place post
    (subst (λ (here : Place). FitsAt core.plan kept.state p here (posts post)) (kept.stands.sides.each p s at).place (may kept.history kept.state kept.stands).fits) apart

-- the stores after a post of a participant of no implicit scheme, which completes its window
pub stored_alone : (plan : PlanParts) (p w k : ℕ) (post : Post) (old mid new : List (Option StoreKept)) → group_of plan p ≡ None
    → ((sides : WaveState) (side : WaveSide) → AreStores plan old sides → side.given ≡ gives (Posted w k) k post (sides p).given → AreStores plan mid (put sides p side))
    → ((sides : WaveState) (side : WaveSide) (j : ℕ) → AreStores plan mid sides → ArePosted plan.exchanges mid p w j → side.given ≡ accepts w j (sides p).given → AreStores plan new (put sides p side))
    → ArePosted plan.exchanges mid p w k
    → (state : WaveState) → AreStores plan old state → AreStores plan new (put state p (after_post (group_of plan p) w k post (state p)))
stored_alone plan p w k post old mid new group puts takes_it are_posted state are =
    let first : WaveSide = record (state p) { given = gives (Posted w k) k post (state p).given } in
    let last : WaveSide = after_post None w k post (state p) in
    let after = takes_it (put state p first) last k (puts state first are refl) are_posted (ap (λ (s : WaveSide). accepts w k s.given) (sym (put_same state p first))) in
    subst (λ (o : Option ℕ). AreStores plan new (put state p (after_post o w k post (state p)))) (sym group)
    (subst (λ (s : WaveState). AreStores plan new s) (put_twice state p first last) after)

-- and of a member of one
pub stored_member : (plan : PlanParts) (p w k : ℕ) (post : Post) (old new : List (Option StoreKept)) (scheme : ℕ) → group_of plan p ≡ Some scheme
    → ((sides : WaveState) (side : WaveSide) → AreStores plan old sides → side.given ≡ gives (Posted w k) k post (sides p).given → AreStores plan new (put sides p side))
    → (state : WaveState) → AreStores plan old state → AreStores plan new (put state p (after_post (group_of plan p) w k post (state p)))
stored_member plan p w k post old new scheme group puts state are =
    subst (λ (o : Option ℕ). AreStores plan new (put state p (after_post o w k post (state p)))) (sym group) (puts state (after_post (Some scheme) w k post (state p)) are refl)

-- where a participant stands after a post
posted_standing : (o : Option ℕ) (w k : ℕ) (post : Post) (s : Standing) (side : WaveSide) → IsStanding s side → IsStanding (record s { place = place_posted o w k }) (after_post o w k post side)
posted_standing None w k post s side is = record { place = refl; ending = is.ending; sent = is.sent }
posted_standing (Some scheme) w k post s side is = record { place = refl; ending = is.ending; sent = is.sent }

no_gift : {X : Type 0} (o : Option X) → (IsSome o → ⊥) → o ≡ None
no_gift None never = refl
no_gift (Some x) never = absurd (never refl)

module _ (core : CoreKept) (valid : IsValidPlan core.plan) (p : ℕ) (s : Standing) (at : slice_get core.standings p ≡ Some s) (post : Post) (may : MayMake core p (posts post)) where
  -- what is given goes into the stores
  gave : (history : List WaveEntry) (sides : WaveState) (stands : StandsFor core history sides) (side : WaveSide) → wave_step core.plan sides p (posts post) ≡ Some (posted, side)
      → (standings : List Standing) (windows : List ℕ) (stores : List (Option StoreKept)) → ArePlaced core.plan standings windows (put sides p side) → AreStores core.plan stores (put sides p side)
      → StandsFor (record core { standings = standings; ends = windows; stores = stores }) (history ++ record { part = p; act = posts post } ∷ []) (put sides p side)
  gave history sides stands side made standings windows stores standing are =
      let fits = may history sides stands in
      stands_more core history sides p (posts post) posted side stands fits made standings windows stores core.schemes core.lines standing are
      (schemes_go_on core.plan core.schemes history sides p (posts post) posted side valid stands.reached fits.participant made tt stands.schemes)
      (sym (lines_still core.plan sides (sides p).place (posts post) core.lines tt)) stands.lined

  module _ (place : s.place ≡ Opening) where
    module _ (history : List WaveEntry) (sides : WaveState) (stands : StandsFor core history sides) where
      opens : (sides p).place ≡ opening
      opens = (stands.sides.each p s at).place ∙ ap place_of place

      pub initial_fits : IsInitialPost core.plan sides p post
      initial_fits = subst (λ (here : Place). FitsAt core.plan sides p here (posts post)) opens (may history sides stands).fits

      initial_side : WaveSide
      initial_side = record (sides p) { place = taking 1 1; given = gives (Completed 0) 0 post (sides p).given }

      initial_step : wave_step core.plan sides p (posts post) ≡ Some (posted, initial_side)
      unfolding initial_side
      initial_step = running_made core.plan sides p (posts post) (may history sides stands).running ∙ ap (λ (here : Place). made_at (wave_frame core.plan) sides p here (posts post)) opens

      initial_ends : (windows : List ℕ) → windows ≡ core.ends → core.plan.method ≡ FirstParticipant → (n : ℕ)
          → ends_made newest_time (look_in (put sides p initial_side)) (window_maker core.plan) n ≡ take n windows
      unfolding initial_side
      initial_ends windows same method n =
          ends_alike newest_time (window_maker core.plan) (look_in sides) (look_in (put sides p initial_side))
          (λ v. looks_by core.plan sides p initial_side (window_maker core.plan) (Completed (suc v)) (λ here.
          found_past (sides p).given (record { item = Completed 0; iteration = 0; post = post }) (Completed (suc v)) (λ is. cc))) n
          ∙ stands.sides.ends method n ∙ ap (take n) (sym same)

    pub are_initial : IsKept core → All IsInitial post
    are_initial kept =
        each_wave core.plan p (IsInitialWave core.plan kept.state) post (initial_fits kept.history kept.state kept.stands) IsInitial
        (λ e wave is. record { one = is.one; start = is.start })

    pub initial_count : IsKept core → length post ≡ length (sent core.plan p)
    initial_count kept = (initial_fits kept.history kept.state kept.stands).count

    pub initial_answers : Answers core p (posts post) (Ok PostedReply)
    initial_answers history sides stands = answer_made core.plan sides p (posts post) posted (initial_side history sides stands) (initial_step history sides stands)

    pub initial_makes : (standings : List Standing) (windows : List ℕ) (stores : List (Option StoreKept)) → IsSetTo core valid p s at standings windows (record s { place = Taking 1 1 })
        → ((sides : WaveState) (side : WaveSide) → AreStores core.plan core.stores sides → (sides p).given ≡ [] → side.given ≡ gives (Completed 0) 0 post (sides p).given
        → AreStores core.plan stores (put sides p side))
        → Makes core (record core { standings = standings; ends = windows; stores = stores }) p (posts post)
    unfolding initial_side
    initial_makes standings windows stores is_set are history sides stands =
        let side = initial_side history sides stands in
        let made = initial_step history sides stands in
        let fits = may history sides stands in
        as_asked core history sides p (posts post) posted side stands fits made (record core { standings = standings; ends = windows; stores = stores })
        (gave history sides stands side made standings windows stores
        (placed_put core.plan core.standings core.ends standings windows sides stands.sides p (record s { place = Taking 1 1 }) side fits.participant is_set.0
        (record { place = refl; ending = (stands.sides.each p s at).ending; sent = (stands.sides.each p s at).sent }) (initial_ends history sides stands windows is_set.1))
        (are sides side stands.stores (none_given core.plan valid history sides stands.reached p (opens history sides stands)) refl))

  module _ (w k : ℕ) (place : s.place ≡ Within w k) where
    module _ (history : List WaveEntry) (sides : WaveState) (stands : StandsFor core history sides) where
      solves : (sides p).place ≡ within w k
      solves = (stands.sides.each p s at).place ∙ ap place_of place

      pub turn_fits : IsWindowPost core.plan sides p w post
      turn_fits = subst (λ (here : Place). FitsAt core.plan sides p here (posts post)) solves (may history sides stands).fits

      told : IsTold (wave_frame core.plan) sides
      told = reached_told core.plan history sides valid (wave_settled core.plan valid) stands.reached

      here_stands : Stands (wave_frame core.plan) (look_in sides) p (within w k) (sides p).given
      here_stands = subst (λ (here : Place). Stands (wave_frame core.plan) (look_in sides) p here (sides p).given) solves (told.well.stands p)

      turn_side : WaveSide
      turn_side = after_post (group_of core.plan p) w k post (sides p)

      turn_step : wave_step core.plan sides p (posts post) ≡ Some (posted, turn_side)
      unfolding turn_side
      turn_step = running_made core.plan sides p (posts post) (may history sides stands).running ∙ ap (λ (here : Place). made_at (wave_frame core.plan) sides p here (posts post)) solves

      not_posted : found (sides p).given (Posted w k) ≡ None
      not_posted = no_gift (found (sides p).given (Posted w k)) (λ is. elim (here_stands.2 w k is) [
        | inl less ↦ omega (arith, less)
        | inr own ↦ omega (arith, own.1)
      ])

      module _ (windows : List ℕ) (method : core.plan.method ≡ FirstParticipant) (n : ℕ)
          (same : windows ≡ (if makes_windows core.plan p then core.ends ++ newest_time post ∷ [] else core.ends)) where
        -- another makes the windows
        others_window : ¬ (window_maker core.plan ≡ p) → ends_made newest_time (look_in (put sides p turn_side)) (window_maker core.plan) n ≡ take n windows
        others_window apart =
            ends_alike newest_time (window_maker core.plan) (look_in sides) (look_in (put sides p turn_side))
            (λ v. look_other sides p turn_side (window_maker core.plan) (Completed (suc v)) apart) n
            ∙ stands.sides.ends method n
            ∙ ap (take n) (sym (same ∙ ap (λ (b : Bool). if b then core.ends ++ newest_time post ∷ [] else core.ends)
            (ap (λ (m : WindowMethod). is_first_step m && nat_eq p (window_maker core.plan)) method ∙ ne_eqb p (window_maker core.plan) (λ is. apart (sym is)))))

        -- its own step does
        own_window : window_maker core.plan ≡ p → (u : ℕ) → w ≡ suc u → ends_made newest_time (look_in (put sides p turn_side)) (window_maker core.plan) n ≡ take n windows
        unfolding turn_side
        own_window here u is =
            let group = alone core.plan valid method p (may history sides stands).participant in
            let given : turn_side.given ≡ accepts w k (gives (Posted w k) k post (sides p).given) = ap (λ (o : Option ℕ). (after_post o w k post (sides p)).given) group in
            let own = λ (v : ℕ). ap (λ (q : ℕ). look_in (put sides p turn_side) q (Completed (suc v))) here ∙ look_own sides p turn_side (Completed (suc v))
            ∙ ap (λ (xs : List (Gift Post)). found xs (Completed (suc v))) given in
            ends_more newest_time (window_maker core.plan) (look_in sides) (look_in (put sides p turn_side)) u (completed_gift w k post (sides p).given not_posted) core.ends
            (λ v below. subst (λ (q : ℕ). IsSome (look_in sides q (Completed (suc v)))) (sym here)
            (completed_before (wave_frame core.plan) (look_in sides) told.well.in_order p (w - 1) here_stands.0.completed (suc v) (omega (arith, is, below))))
            (λ v past. ap (λ (q : ℕ). look_in sides q (Completed (suc v))) here
            ∙ no_gift (look_in sides p (Completed (suc v))) (λ some. let less = here_stands.0.uncompleted (suc v) some in omega (arith, less, is, past)))
            (λ v apart. own v ∙ other_window w k post (sides p).given not_posted (suc v) (λ e. apart (omega (arith, e, is)))
            ∙ ap (λ (q : ℕ). look_in sides q (Completed (suc v))) (sym here))
            (own u ∙ ap (λ (v : ℕ). found (accepts w k (gives (Posted w k) k post (sides p).given)) (Completed v)) (sym is)
            ∙ this_window w k post (sides p).given not_posted
            (no_gift (look_in sides p (Completed w)) (λ some. let less = here_stands.0.uncompleted w some in omega (arith, less))))
            (stands.sides.ends method) n
            ∙ ap (λ (one : Post). take n (core.ends ++ newest_time one ∷ [])) (completed_post w k post (sides p).given not_posted)
            ∙ ap (take n) (sym (same ∙ ap (λ (b : Bool). if b then core.ends ++ newest_time post ∷ [] else core.ends)
            (ap (λ (m : WindowMethod). is_first_step m && nat_eq p (window_maker core.plan)) method ∙ eq-eqb p (window_maker core.plan) (sym here))))

        turn_ends : ends_made newest_time (look_in (put sides p turn_side)) (window_maker core.plan) n ≡ take n windows
        turn_ends = elim (cases_eq (window_maker core.plan) p) [
          | inl here ↦ own_window here (w - 1) (let some = here_stands.0.window in omega (arith, some))
          | inr apart ↦ others_window apart
        ]

      turn_stands : (standings : List Standing) (windows : List ℕ) → standings ≡ set core.standings p (record s { place = place_posted (group_of core.plan p) w k })
          → windows ≡ (if makes_windows core.plan p then core.ends ++ newest_time post ∷ [] else core.ends)
          → ArePlaced core.plan standings windows (put sides p turn_side)
      unfolding turn_side
      turn_stands standings windows is_set ends =
          placed_put core.plan core.standings core.ends standings windows sides stands.sides p (record s { place = place_posted (group_of core.plan p) w k }) turn_side (may history sides stands).participant is_set
          (posted_standing (group_of core.plan p) w k post s (sides p) (stands.sides.each p s at)) (λ method n. turn_ends windows method n ends)

      -- the window is one of the plan's
      pub turn_window : w ≤ 10 ^ 6
      turn_window =
          let most = (window_number core.plan (ends_made newest_time (look_in sides) (window_maker core.plan) (w - 1)) w here_stands.1.window).1 in
          omega (arith, most, valid.sizes.windows.1)

    pub turn_count : IsKept core → length post ≡ length (sent core.plan p)
    turn_count kept = (turn_fits kept.history kept.state kept.stands).waves.count

    pub turn_is_next : IsKept core → AreNext core.plan.exchanges core.stores p w k
    turn_is_next kept =
        are_next core.plan valid kept.history kept.state kept.stands.reached core.stores kept.stands.stores p w k (may kept.history kept.state kept.stands).participant (solves kept.history kept.state kept.stands)

    pub window_within : IsKept core → w ≤ 10 ^ 6
    window_within kept = turn_window kept.history kept.state kept.stands

    pub turn_answers : Answers core p (posts post) (Ok PostedReply)
    turn_answers history sides stands = answer_made core.plan sides p (posts post) posted (turn_side history sides stands) (turn_step history sides stands)

    pub turn_makes : (standings : List Standing) (windows : List ℕ) (stores : List (Option StoreKept)) → standings ≡ set core.standings p (record s { place = place_posted (group_of core.plan p) w k })
        → windows ≡ (if makes_windows core.plan p then core.ends ++ newest_time post ∷ [] else core.ends)
        → ((sides : WaveState) → AreStores core.plan core.stores sides → AreStores core.plan stores (put sides p (after_post (group_of core.plan p) w k post (sides p))))
        → Makes core (record core { standings = standings; ends = windows; stores = stores }) p (posts post)
    unfolding turn_side
    turn_makes standings windows stores is_set ends are history sides stands =
        let side = turn_side history sides stands in
        let made = turn_step history sides stands in
        as_asked core history sides p (posts post) posted side stands (may history sides stands) made (record core { standings = standings; ends = windows; stores = stores })
        (gave history sides stands side made standings windows stores (turn_stands history sides stands standings windows is_set ends) (are sides stands.stores))
