-- Each event leaves its participant with gifts that fit in each later look.
use Rattle.std.proofs.Common.{◌≡◌, ◌⊎◌, inl, inr, ℕ, zero, suc, ◌+◌, ◌-◌, ◌*◌, ◌<◌, true, List, [], ◌∷◌, ◌++◌, length, slice_get, Option, Some, None, is_some, IsSome, option_map, option_to_list, refl, ap, sym, subst, ◌∙◌, arith, append_assoc}
use Rattle.std.specs.Option.{option_or}
use Rattle.std.proofs.lemmas.Option.{none-some, same_Some}
use Rattle.cpl_plan.specs.PlanWords.{components_of}
use Rattle.cpl_plan.specs.ValidPlan.{IsValidPlan}
use Rattle.cpl_plan.specs.declared.parts.PlanParts.{PlanParts}
use Rattle.cpl_plan.specs.declared.parts.Exchange.{Exchange}
use Rattle.cpl_plan.specs.declared.words.Item.{Item}
use Rattle.cpl_plan.specs.declared.words.Item.TheVariants.{Completed, Posted}
use Rattle.cpl_plan.specs.declared.words.Fault.{Fault}
use Rattle.coupled_loop.specs.Numbered.{put}
use Rattle.coupled_loop.specs.Given.{Gift, Look, found, gives, accepted_for}
use Rattle.coupled_loop.specs.Endings.{Ending, Judgement, again, converged, at_limit, refused, faulted, no_memory, cut}
use Rattle.coupled_loop.specs.CoreState.{Place, sending, collecting, opening, taking, within, judging, look_in}
use Rattle.coupled_loop.specs.CoreStep.{sends_meshes, takes_meshes, posts, takes, judges, stops, lacks_memory, ends, is_cut, cut_off, completes, after_post, ends_with, after_judgement, is_cut_off, ending_at, made_at}
use Rattle.coupled_loop.specs.PlanFrames.{group_of}
use Rattle.coupled_loop.specs.Settled.{Extends, IsInOrder}
use Rattle.core_laws.proofs.GoodSteps.{second_same}
use Rattle.core_laws.proofs.Looks.{found_joined, found_itself, found_one, extends_further}
use Rattle.core_laws.proofs.Puts.{put_same}
use Rattle.core_laws.proofs.Steps.{guarded}
use Rattle.core_laws.proofs.Well.{IsWell, Stands}
use Rattle.wave_coupling.specs.Posts.{Wave, Post, wave_of}
use Rattle.wave_coupling.specs.Coupling.{makes_windows, start_of, latest_of, wave_frame}
use Rattle.wave_laws.specs.Fitting.{IsFittingLook, IsInitialWave, IsPostedWave, count_of, end_told}
use Rattle.wave_values.proofs.PostsFit.{post_given}
use Rattle.wave_values.proofs.TurnsFit.{turn_is}
use Rattle.wave_readings.proofs.Invariant.{WaveFits, GiftFits, GiftsFit}
use Rattle.wave_readings.proofs.LooksFit.{look_fits}
use Rattle.wave_readings.proofs.Makers.{maker_alone}
use Rattle.core_sides.specs.CoreWords.{WaveState, WaveSide, WaveAct, WaveReply}
use Rattle.core_sides.specs.Fitting.{FitsAt}
use Rattle.core_sides.specs.FittingPosts.{IsInitialPost, IsWindowPost}
use Rattle.core_fits.specs.VerticesIn.{vertices_in}
use Rattle.core_fits.proofs.MeshesKnown.{HasCollected, HasMeshes, MeshesStay, vertices_stay}
use Rattle.core_fits.proofs.PostsFit.{initial_post_fits, window_post_fits}

none_is : {X : Type 0} (o : Option X) → (IsSome o → ⊥) → o ≡ None
none_is None never = refl
none_is (Some x) never = absurd (never refl)

-- what is found of one gift
one_found : (given : Gift Post) (item : Item) (gift : Gift Post) → found (given ∷ []) item ≡ Some gift → (given.item ≡ item) × (given ≡ gift)
one_found given item gift is =
    let same : given.item ≡ item = found_one given item (ap is_some is) in
    (same, same_Some given gift (sym (found_itself given) ∙ ap (λ (i : Item). found (given ∷ []) i) same ∙ is))

-- a wave fits by the number of its mesh's vertices
wave_as : (plan : PlanParts) (before after : ℕ → ℕ) (item : Item) (g : Look Post) (e : Exchange) (wave : Wave) → before e.mesh ≡ after e.mesh
    → WaveFits plan before item g e wave → WaveFits plan after item g e wave
wave_as plan before after (Completed zero) g e wave same fits = subst (λ (n : ℕ). IsInitialWave (components_of plan e) (components_of plan e * n) wave) same fits
wave_as plan before after (Completed (suc v)) g e wave same fits =
    subst (λ (n : ℕ). IsPostedWave (start_of plan g (suc v)) (end_told plan g (suc v)) (components_of plan e) (components_of plan e * n) wave) same fits
wave_as plan before after (Posted w k) g e wave same fits =
    subst (λ (n : ℕ). IsPostedWave (start_of plan g w) (end_told plan g w) (components_of plan e) (components_of plan e * n) wave) same fits

-- all participants have the meshes that they need, and all that they have given fits
pub record AllFit (plan : PlanParts) (sides : WaveState) : Type 0 where
  pub meshes : (part : ℕ) → part < length plan.parts → HasMeshes plan sides part (sides part)
  pub gifts : (part : ℕ) → part < length plan.parts → GiftsFit plan (vertices_in plan sides) (look_in sides) part

module _ (plan : PlanParts) (valid : IsValidPlan plan) (sides : WaveState) (well : IsWell (wave_frame plan) sides) (all : AllFit plan sides) where
  abbrev vertices : ℕ → ℕ
  vertices = vertices_in plan sides

  abbrev f : Look Post
  f = look_in sides

  look : IsFittingLook plan vertices f
  look = look_fits plan valid vertices f well.in_order all.gifts

  -- the sender's meshes are as they were
  same_vertices : (later : WaveState) → MeshesStay sides later → (part : ℕ) → part < length plan.parts → HasCollected (sides part).place
      → (x : ℕ) (e : Exchange) → slice_get plan.exchanges x ≡ Some e → e.from ≡ part → vertices e.mesh ≡ vertices_in plan later e.mesh
  same_vertices later stay part below past x e at sends =
      vertices_stay plan valid sides later stay x e at (subst (λ (p : ℕ). HasMeshes plan sides p (sides p)) (sym sends) (all.meshes part below))
      (subst (λ (p : ℕ). HasCollected (sides p).place) (sym sends) past)

  -- who has given something has received meshes
  given_past : (part : ℕ) (item : Item) → IsSome (f part item) → HasCollected (sides part).place
  given_past part item some = by (sides part).place (well.stands part)
    where
      none : (sides part).given ≡ [] → ⊥
      none empty = let never : IsSome (found {Post = Post} [] item) = subst (λ (given : List (Gift Post)). IsSome (found given item)) empty some in cc

      by : (place : Place) → Stands (wave_frame plan) f part place (sides part).given → HasCollected place
      by sending stands = absurd (none stands)
      by collecting stands = absurd (none stands)
      by opening stands = tt
      by (taking w k) stands = tt
      by (within w k) stands = tt
      by (judging scheme w k) stands = tt

  -- a gift that was there
  pub old_gift : (later : WaveState) → MeshesStay sides later → Extends f (look_in later) → (part : ℕ) → part < length plan.parts → (item : Item) (gift : Gift Post) → f part item ≡ Some gift
      → GiftFits plan (vertices_in plan later) (look_in later) part item gift.post
  old_gift later stay extends part below item gift at x e stands sends g further order =
      wave_as plan vertices (vertices_in plan later) item g e (wave_of plan e x gift.post)
      (same_vertices later stay part below (given_past part item (ap is_some at)) x e stands sends)
      (all.gifts part below item gift at x e stands sends g (extends_further f (look_in later) g extends further) order)

  module _ (part : ℕ) (below : part < length plan.parts) where
    abbrev after : WaveSide → WaveState
    after side = put sides part side

    abbrev now : WaveSide → Look Post
    now side = look_in (put sides part side)

    abbrev then : WaveSide → ℕ → ℕ
    then side = vertices_in plan (put sides part side)

    abbrev Gives : WaveSide → Type 0
    Gives side = MeshesStay sides (put sides part side) → Extends f (now side) → GiftsFit plan (then side) (now side) part

    own_item : (side : WaveSide) (item : Item) → now side part item ≡ found side.given item
    own_item side item = ap (λ (s : WaveSide). found s.given item) (put_same sides part side)

    -- nothing is given
    stays : (side : WaveSide) → side.given ≡ (sides part).given → Gives side
    stays side same stay extends item gift at =
        old_gift (after side) stay extends part below item gift (sym (own_item side item ∙ ap (λ (given : List (Gift Post)). found given item) same) ∙ at)

    one_gift : (side : WaveSide) (given : Gift Post) → GiftFits plan (then side) (now side) part given.item given.post → (item : Item) (gift : Gift Post) → found (given ∷ []) item ≡ Some gift
        → GiftFits plan (then side) (now side) part item gift.post
    one_gift side given fits item gift at =
        let same = one_found given item gift at in
        subst (λ (i : Item). GiftFits plan (then side) (now side) part i gift.post) same.0 (subst (λ (q : Gift Post). GiftFits plan (then side) (now side) part given.item q.post) same.1 fits)

    two_gifts : (side : WaveSide) (first second : Gift Post) → GiftFits plan (then side) (now side) part first.item first.post → GiftFits plan (then side) (now side) part second.item second.post
        → (item : Item) (gift : Gift Post) → found (first ∷ second ∷ []) item ≡ Some gift → GiftFits plan (then side) (now side) part item gift.post
    two_gifts side first second one other item gift at = by (found (first ∷ []) item) refl (sym (found_joined (first ∷ []) (second ∷ []) item) ∙ at)
      where
        by : (o : Option (Gift Post)) → found (first ∷ []) item ≡ o → option_or o (found (second ∷ []) item) ≡ Some gift → GiftFits plan (then side) (now side) part item gift.post
        by (Some old) before same = one_gift side first one item gift (before ∙ same)
        by None before same = one_gift side second other item gift same

    -- more is given
    gives_more : (side : WaveSide) (more : List (Gift Post)) → side.given ≡ (sides part).given ++ more
        → (MeshesStay sides (after side) → Extends f (now side) → (item : Item) (gift : Gift Post) → found more item ≡ Some gift → GiftFits plan (then side) (now side) part item gift.post) → Gives side
    gives_more side more grows fits stay extends item gift at =
        by (found (sides part).given item) refl
        (sym (found_joined (sides part).given more item) ∙ sym (ap (λ (given : List (Gift Post)). found given item) grows) ∙ sym (own_item side item) ∙ at)
      where
        by : (o : Option (Gift Post)) → found (sides part).given item ≡ o → option_or o (found more item) ≡ Some gift → GiftFits plan (then side) (now side) part item gift.post
        by (Some old) before same = old_gift (after side) stay extends part below item gift (before ∙ same)
        by None before same = fits stay extends item gift same

    ends_there : (ending : Ending Fault) (side : WaveSide) → ends_with ending (sides part) ≡ side → Gives side
    ends_there ending side e = subst Gives e (stays (ends_with ending (sides part)) refl)

    on_pair : (x : WaveReply × WaveSide) (reply : WaveReply) (side : WaveSide) → x ≡ (reply, side) → Gives x.1 → Gives side
    on_pair x reply side e gives_it = subst (λ (pair : WaveReply × WaveSide). Gives pair.1) e gives_it

    -- it posts its initial data
    opens : (sides part).place ≡ opening → (post : Post) → IsInitialPost plan sides part post
        → Gives (record (sides part) { place = taking 1 1; given = gives (Completed 0) 0 post (sides part).given })
    opens at post fits =
        gives_more side (first ∷ []) refl (λ stay extends. one_gift side first (λ x e stands sends g further order.
        wave_as plan vertices (then side) (Completed 0) g e (wave_of plan e x post)
        (same_vertices (after side) stay part below (subst HasCollected (sym at) tt) x e stands sends)
        (initial_post_fits plan valid sides part post fits x e stands sends)))
      where
        first : Gift Post
        first = record { item = Completed 0; iteration = 0; post = post }

        side : WaveSide
        side = record (sides part) { place = taking 1 1; given = gives (Completed 0) 0 post (sides part).given }

    -- it posts a turn
    abbrev posted_as : (w k : ℕ) → Post → Gift Post
    posted_as w k post = record { item = Posted w k; iteration = k; post = post }

    abbrev completed_as : (w k : ℕ) → Post → Gift Post
    completed_as w k post = record { item = Completed w; iteration = k; post = post }

    module _ (v k : ℕ) (post : Post) (at : (sides part).place ≡ within (suc v) k) (stands : Stands (wave_frame plan) f part (within (suc v) k) (sides part).given)
        (fits : IsWindowPost plan sides part (suc v) post) where
      none_posted : found (sides part).given (Posted (suc v) k) ≡ None
      none_posted = none_is (found (sides part).given (Posted (suc v) k)) (λ some.
          elim (stands.2 (suc v) k some) [ inl less ↦ absurd (omega (arith, less)) | inr same ↦ absurd (let later = same.1 in omega (arith, later)) ])

      none_completed : found (sides part).given (Completed (suc v)) ≡ None
      none_completed = none_is (found (sides part).given (Completed (suc v))) (λ some. let less = stands.0.uncompleted (suc v) some in absurd (omega (arith, less)))

      alone_grows : (after_post None (suc v) k post (sides part)).given ≡ (sides part).given ++ (posted_as (suc v) k post ∷ completed_as (suc v) k post ∷ [])
      alone_grows =
          ap (λ (o : Option (Gift Post)). ((sides part).given ++ posted_as (suc v) k post ∷ []) ++ option_to_list (option_map (accepted_for (suc v)) o))
          (found_joined (sides part).given (posted_as (suc v) k post ∷ []) (Posted (suc v) k)
          ∙ ap (λ (o : Option (Gift Post)). option_or o (found (posted_as (suc v) k post ∷ []) (Posted (suc v) k))) none_posted
          ∙ found_itself (posted_as (suc v) k post))
          ∙ append_assoc (sides part).given (posted_as (suc v) k post ∷ []) (completed_as (suc v) k post ∷ [])

      -- what is posted fits in each later look in which its maker has completed the window with it
      posted_later : (later : WaveState) → MeshesStay sides later → (x : ℕ) (e : Exchange) → slice_get plan.exchanges x ≡ Some e → e.from ≡ part
          → (g : Look Post) → Extends f g → IsInOrder g → (makes_windows plan part ≡ true → g part (Completed (suc v)) ≡ Some (completed_as (suc v) k post))
          → IsPostedWave (start_of plan g (suc v)) (end_told plan g (suc v)) (components_of plan e) (count_of plan (vertices_in plan later) e) (wave_of plan e x post)
      posted_later later stay x e is sends g further order done =
          subst (λ (n : ℕ). IsPostedWave (start_of plan g (suc v)) (end_told plan g (suc v)) (components_of plan e) (components_of plan e * n) (wave_of plan e x post))
          (same_vertices later stay part below (subst HasCollected (sym at) tt) x e is sends)
          (post_given plan valid vertices part f g further order v (start_of plan f (suc v)) (latest_of plan f part (suc v)) (makes_windows plan part)
          (turn_is plan valid vertices f well.in_order look part (suc v) k below stands.1) post (window_post_fits plan valid sides part post (suc v) fits x e is sends)
          (completed_as (suc v) k post) (λ makes. (done makes, refl)) x e is sends)

      posted_alone : MeshesStay sides (after (after_post None (suc v) k post (sides part))) → Extends f (now (after_post None (suc v) k post (sides part)))
          → (item : Item) → (item ≡ Posted (suc v) k) ⊎ (item ≡ Completed (suc v))
          → GiftFits plan (then (after_post None (suc v) k post (sides part))) (now (after_post None (suc v) k post (sides part))) part item post
      posted_alone stay extends item which x e is sends g further order =
          elim which [
            | inl same ↦ subst (λ (i : Item). WaveFits plan (then side) i g e (wave_of plan e x post)) (sym same) wave
            | inr same ↦ subst (λ (i : Item). WaveFits plan (then side) i g e (wave_of plan e x post)) (sym same) wave
          ]
        where
          side : WaveSide
          side = after_post None (suc v) k post (sides part)

          completed_now : now (after_post None (suc v) k post (sides part)) part (Completed (suc v)) ≡ Some (completed_as (suc v) k post)
          completed_now =
              own_item (after_post None (suc v) k post (sides part)) (Completed (suc v))
              ∙ ap (λ (given : List (Gift Post)). found given (Completed (suc v))) alone_grows
              ∙ found_joined (sides part).given (posted_as (suc v) k post ∷ completed_as (suc v) k post ∷ []) (Completed (suc v))
              ∙ ap (λ (o : Option (Gift Post)). option_or o (found (posted_as (suc v) k post ∷ completed_as (suc v) k post ∷ []) (Completed (suc v)))) none_completed
              ∙ found_itself (completed_as (suc v) k post)

          wave : IsPostedWave (start_of plan g (suc v)) (end_told plan g (suc v)) (components_of plan e) (count_of plan (then (after_post None (suc v) k post (sides part))) e) (wave_of plan e x post)
          wave =
              posted_later (after (after_post None (suc v) k post (sides part))) stay x e is sends g (extends_further f (now (after_post None (suc v) k post (sides part))) g extends further) order
              (λ makes. further part (Completed (suc v)) (completed_as (suc v) k post) completed_now)

      posts_by : (group : Option ℕ) → group_of plan part ≡ group → Gives (after_post group (suc v) k post (sides part))
      posts_by None grouped =
          gives_more (after_post None (suc v) k post (sides part)) (posted_as (suc v) k post ∷ completed_as (suc v) k post ∷ []) alone_grows
          (λ stay extends. two_gifts (after_post None (suc v) k post (sides part)) (posted_as (suc v) k post) (completed_as (suc v) k post)
          (posted_alone stay extends (Posted (suc v) k) (inl refl)) (posted_alone stay extends (Completed (suc v)) (inr refl)))
      posts_by (Some number) grouped =
          gives_more (after_post (Some number) (suc v) k post (sides part)) (posted_as (suc v) k post ∷ []) refl
          (λ stay extends. one_gift (after_post (Some number) (suc v) k post (sides part)) (posted_as (suc v) k post)
          (λ x e is sends g further order. posted_later (after (after_post (Some number) (suc v) k post (sides part))) stay x e is sends g
          (extends_further f (now (after_post (Some number) (suc v) k post (sides part))) g extends further) order
          (λ makes. absurd (maker_alone plan valid part number makes grouped))))

    posts_turn : (w k : ℕ) (post : Post) → (sides part).place ≡ within w k → Stands (wave_frame plan) f part (within w k) (sides part).given → IsWindowPost plan sides part w post
        → Gives (after_post (group_of plan part) w k post (sides part))
    posts_turn zero k post at stands fits = absurd (let first = stands.0.window in omega (arith, first))
    posts_turn (suc v) k post at stands fits = posts_by v k post at stands fits (group_of plan part) refl

    -- what is accepted is what was posted
    accepted_gifts : (w k v : ℕ) → w ≡ suc v → (side : WaveSide) → MeshesStay sides (after side) → Extends f (now side) → (o : Option (Gift Post)) → found (sides part).given (Posted w k) ≡ o
        → (item : Item) (gift : Gift Post) → found (option_to_list (option_map (accepted_for w) o)) item ≡ Some gift → GiftFits plan (then side) (now side) part item gift.post
    accepted_gifts w k v first side stay extends None before item gift at = absurd (none-some gift at)
    accepted_gifts w k v first side stay extends (Some given) before item gift at =
        one_gift side (accepted_for w given)
        (subst (λ (n : ℕ). GiftFits plan (then side) (now side) part (Completed n) given.post) (sym first)
        (subst (λ (n : ℕ). GiftFits plan (then side) (now side) part (Posted n k) given.post) first (old_gift (after side) stay extends part below (Posted w k) given before))) item gift at

    accepts_turn : (w k : ℕ) → w ≡ suc (w - 1) → Gives (completes w k (sides part))
    accepts_turn w k first =
        gives_more (completes w k (sides part)) (option_to_list (option_map (accepted_for w) (found (sides part).given (Posted w k)))) refl
        (λ stay extends. accepted_gifts w k (w - 1) first (completes w k (sides part)) stay extends (found (sides part).given (Posted w k)) refl)

    hears : (w k : ℕ) → w ≡ suc (w - 1) → (judgement : Judgement Fault) → Gives (after_judgement judgement w k (sides part))
    hears w k first again = stays (record (sides part) { place = taking w (k + 1) }) refl
    hears w k first converged = accepts_turn w k first
    hears w k first at_limit = accepts_turn w k first
    hears w k first (refused fault) = stays (ends_with (faulted fault) (sides part)) refl

    -- every event
    pub step_gifts : (place : Place) → (sides part).place ≡ place → Stands (wave_frame plan) f part place (sides part).given → (act : WaveAct) (reply : WaveReply) (side : WaveSide)
        → FitsAt plan sides part place act → made_at (wave_frame plan) sides part place act ≡ Some (reply, side) → Gives side
    step_gifts sending at stands (sends_meshes meshes) reply side fits made = subst Gives (second_same _ _ made) (stays (record (sides part) { place = collecting; sent = Some meshes }) refl)
    step_gifts collecting at stands takes_meshes reply side fits made = on_pair _ reply side (guarded _ _ _ made).1 (stays (record (sides part) { place = opening }) refl)
    step_gifts opening at stands (posts post) reply side fits made = subst Gives (second_same _ _ made) (opens at post fits)
    step_gifts (taking w k) at stands takes reply side fits made = on_pair _ reply side (guarded _ _ _ made).1 (stays (record (sides part) { place = within w k }) refl)
    step_gifts (within w k) at stands (posts post) reply side fits made = subst Gives (second_same _ _ made) (posts_turn w k post at stands fits)
    step_gifts (judging scheme w k) at stands judges reply side fits made =
        on_pair _ reply side (guarded _ _ _ made).1
        (hears w k (let first = stands.1.window in omega (arith, first)) ((wave_frame plan).judge (look_in sides) scheme w k))
    step_gifts place at stands (stops fault) reply side fits made = ends_there (faulted fault) side (second_same _ _ made)
    step_gifts place at stands lacks_memory reply side fits made = ends_there no_memory side (second_same _ _ made)
    step_gifts place at stands ends reply side fits made = ends_there (ending_at (wave_frame plan) sides part place) side (second_same _ _ made)
    step_gifts place at stands is_cut reply side fits made =
        ends_there cut side (ap (λ (pair : WaveReply × WaveSide). pair.1) (guarded (is_cut_off (wave_frame plan) sides part place) (cut_off, ends_with cut (sides part)) (reply, side) made).1)
    step_gifts place at stands act reply side fits made = cc
