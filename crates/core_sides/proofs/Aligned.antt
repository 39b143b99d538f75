-- Members of a scheme move together: who stands at an iteration has been told to repeat those before it, and what is completed was accepted, with all that it needs.
use Rattle.std.proofs.Common.{◌≡◌, ℕ, suc, ◌+◌, ◌<◌, ◌≤◌, ◌⊎◌, inl, inr, Bool, true, false, List, [], ◌∷◌, ◌++◌, Option, Some, None, IsSome, cond, append-nil, IsTrue, option_map, option_to_list, refl, sym, ap, subst, ◌∙◌, arith, Contains}
use Rattle.std.specs.Option.{option_or}
use Rattle.std.proofs.lemmas.Bool.{cases_lt}
use Rattle.std.proofs.lemmas.Option.{none-some, same_Some}
use Rattle.plan_order.specs.declared.node.Node.TheVariants.{Group}
use Rattle.cpl_plan.specs.declared.words.Item.{Item}
use Rattle.cpl_plan.specs.declared.words.Item.TheVariants.{Completed, Posted}
use Rattle.coupled_loop.specs.Numbered.{put}
use Rattle.coupled_loop.specs.Given.{Gift, Look, is_item, found, gives, accepts, accepted_for}
use Rattle.coupled_loop.specs.Endings.{Judgement, again, converged, at_limit, refused, Ending, faulted, no_memory, cut}
use Rattle.coupled_loop.specs.Frames.{Frame}
use Rattle.coupled_loop.specs.CoreState.{Place, sending, collecting, opening, taking, within, judging, Side, CoreState, look_in, turn_at}
use Rattle.coupled_loop.specs.CoreStep.{Act, sends_meshes, takes_meshes, posts, takes, judges, stops, lacks_memory, ends, is_cut, Reply, cut_off, after_post, ends_with, after_judgement, is_granted, is_cut_off, ending_at, made_at, core_step}
use Rattle.coupled_loop.specs.LegalHistory.{Entry, opening_state, Happens, IsLegal}
use Rattle.coupled_loop.specs.Settled.{Extends, IsInOrder, AreNeedsGiven, HavePostedBelow, IsSettled}
use Rattle.core_laws.proofs.Sound.{IsSound}
use Rattle.core_laws.proofs.Well.{IsDecided, Stands, IsWell}
use Rattle.core_laws.proofs.KeptPlaces.{decided_kept, there_kept, posted_below_kept}
use Rattle.core_laws.proofs.GiftOrders.{found_before_or}
use Rattle.core_laws.proofs.GoodMoves.{group_solved, positive}
use Rattle.core_laws.proofs.GoodSteps.{second_same}
use Rattle.core_laws.proofs.Growth.{step_extends}
use Rattle.core_laws.proofs.Looks.{found_joined, still_given, is_item_true}
use Rattle.core_laws.proofs.Steps.{guarded, made_by, posted_up_to}
use Rattle.core_laws.proofs.Wellness.{opening_well, step_well, put_each}

-- a judgement by which a window is accepted
abbrev pub IsAccepting : {Fault : Type 0} → Judgement Fault → Type 0
IsAccepting again = ⊥
IsAccepting converged = Unit {0}
IsAccepting at_limit = Unit {0}
IsAccepting (refused fault) = ⊥

module _ {Post : Type 0} where
  -- what is found in a list with one gift more was found before, or is that gift
  pub found_new : (given : List (Gift Post)) (gift : Gift Post) (item : Item) (one : Gift Post) → found (given ++ gift ∷ []) item ≡ Some one
      → (found given item ≡ Some one) ⊎ ((gift.item ≡ item) × (gift ≡ one))
  found_new given gift item one is = by (found given item) refl (sym (found_joined given (gift ∷ []) item) ∙ is) where
    last : (b : Bool) → is_item gift.item item ≡ b → cond b (Some gift) None ≡ Some one → (gift.item ≡ item) × (gift ≡ one)
    last true e same = (is_item_true gift.item item e, same_Some gift one same)
    last false e same = absurd (none-some one same)

    by : (o : Option (Gift Post)) → found given item ≡ o → option_or o (found (gift ∷ []) item) ≡ Some one → (found given item ≡ Some one) ⊎ ((gift.item ≡ item) × (gift ≡ one))
    by (Some old) e same = inl (e ∙ same)
    by None e same = inr (last (is_item gift.item item) refl same)

module _ {Post Inputs Fault : Type 0} (frame : Frame Post Inputs Fault) where
  -- a turn of a scheme has been judged so
  pub record IsJudgedBy (f : Look Post) (scheme w k : ℕ) (IsSo : Judgement Fault → Type 0) : Type 0 where
    pub iteration : 1 ≤ k
    pub decided : IsDecided frame f w
    pub there : IsTrue (frame.is_there f w)
    pub posted : HavePostedBelow frame f scheme w (suc k)
    pub so : IsSo (frame.judge f scheme w k)

  -- it stays judged
  pub judged_still : (f g : Look Post) (scheme w k : ℕ) (IsSo : Judgement Fault → Type 0) → IsSettled frame → Contains frame.nodes (Group scheme)
      → Extends f g → IsInOrder f → IsInOrder g → IsJudgedBy f scheme w k IsSo → IsJudgedBy g scheme w k IsSo
  judged_still f g scheme w k IsSo settled stands extends order later is = record {
    iteration = is.iteration;
    decided = decided_kept frame f g extends later w is.decided;
    there = there_kept frame f g extends later w is.decided is.there;
    posted = posted_below_kept frame f g extends later scheme w (suc k) is.posted;
    so = subst IsSo (settled.judgements f g scheme w k stands extends order later is.iteration is.there is.posted) is.so;
  }

  -- one participant
  pub record Aligns (f : Look Post) (part : ℕ) (place : Place) (given : List (Gift Post)) : Type 0 where
    -- who stands at an iteration has been told to repeat those before it
    pub passed : (scheme w k j : ℕ) → frame.group part ≡ Some scheme → turn_at place ≡ (w, k) → 1 ≤ j → j < k → IsJudgedBy f scheme w j (λ judgement. judgement ≡ again)
    -- what a member has completed was accepted
    pub accepted : (scheme w : ℕ) (gift : Gift Post) → frame.group part ≡ Some scheme → found given (Completed (suc w)) ≡ Some gift
        → IsJudgedBy f scheme (suc w) gift.iteration IsAccepting
    -- who has completed a window was given what it needs for it
    pub served : (w : ℕ) → IsSome (found given (Completed (suc w))) → (k : ℕ) × AreNeedsGiven frame f part (suc w) k
    -- posts bear their iterations
    pub numbered : (w k : ℕ) (gift : Gift Post) → found given (Posted w k) ≡ Some gift → gift.iteration ≡ k
    -- who repeats a window was given what it needs for it
    pub turned : (w k : ℕ) → turn_at place ≡ (w, k) → 1 < k → (j : ℕ) × AreNeedsGiven frame f part w j

  pub aligns_still : (f g : Look Post) (part : ℕ) (place : Place) (given : List (Gift Post)) → IsSound frame → IsSettled frame → part < frame.parts
      → Extends f g → IsInOrder f → IsInOrder g → Aligns f part place given → Aligns g part place given
  aligns_still f g part place given sound settled is_part extends order later is = record {
    passed = λ scheme w k j grouped at from below.
        judged_still f g scheme w j (λ judgement. judgement ≡ again) settled (group_solved frame sound part scheme is_part grouped) extends order later (is.passed scheme w k j grouped at from below);
    accepted = λ scheme w gift grouped has.
        judged_still f g scheme (suc w) gift.iteration IsAccepting settled (group_solved frame sound part scheme is_part grouped) extends order later (is.accepted scheme w gift grouped has);
    served = λ w has. let own = is.served w has in (own.0, λ need among. still_given f g need.owner need.item extends (own.1 need among));
    numbered = is.numbered;
    turned = λ w k at more. let own = is.turned w k at more in (own.0, λ need among. still_given f g need.owner need.item extends (own.1 need among));
  }

  module _ (f : Look Post) (part : ℕ) (given : List (Gift Post)) where
    -- it stays in its turn
    pub aligns_there : (place other : Place) → turn_at other ≡ turn_at place → Aligns f part place given → Aligns f part other given
    aligns_there place other same is = record {
      passed = λ scheme w k j grouped at. is.passed scheme w k j grouped (sym same ∙ at);
      accepted = is.accepted;
      served = is.served;
      numbered = is.numbered;
      turned = λ w k at. is.turned w k (sym same ∙ at);
    }

    -- it posts its initial data
    pub aligns_opened : (place : Place) (post : Post) → Aligns f part place given → Aligns f part (taking 1 1) (gives (Completed 0) 0 post given)
    aligns_opened place post is = record {
      passed = λ scheme w k j grouped at from below. let second : 1 ≡ k = ap (λ turn. turn.1) at in absurd (omega (arith, from, below, second));
      accepted = λ scheme w gift grouped has. elim (found_new given first (Completed (suc w)) gift has) [
        | inl old ↦ is.accepted scheme w gift grouped old
        | inr new ↦ cc
      ];
      served = λ w has. elim (found_before_or given first (Completed (suc w)) has) [ inl old ↦ is.served w old | inr new ↦ cc ];
      numbered = λ w k gift has. elim (found_new given first (Posted w k) gift has) [ inl old ↦ is.numbered w k gift old | inr new ↦ cc ];
      turned = λ w k at more. let second : 1 ≡ k = ap (λ turn. turn.1) at in absurd (omega (arith, more, second));
    } where
      first : Gift Post
      first = record { item = Completed 0; iteration = 0; post = post }

    -- it posts a turn
    pub aligns_posted : (w k : ℕ) (place other : Place) (post : Post) → turn_at other ≡ turn_at place → Aligns f part place given
        → Aligns f part other (gives (Posted w k) k post given)
    aligns_posted w k place other post same is = record {
      passed = λ scheme v i j grouped at. is.passed scheme v i j grouped (sym same ∙ at);
      accepted = λ scheme v gift grouped has. elim (found_new given turn (Completed (suc v)) gift has) [
        | inl old ↦ is.accepted scheme v gift grouped old
        | inr new ↦ cc
      ];
      served = λ v has. elim (found_before_or given turn (Completed (suc v)) has) [ inl old ↦ is.served v old | inr new ↦ cc ];
      numbered = λ v j gift has. elim (found_new given turn (Posted v j) gift has) [
        | inl old ↦ is.numbered v j gift old
        | inr new ↦ let second : k ≡ j = cc in sym (ap (λ (g : Gift Post). g.iteration) new.1) ∙ second
      ];
      turned = λ v i at. is.turned v i (sym same ∙ at);
    } where
      turn : Gift Post
      turn = record { item = Posted w k; iteration = k; post = post }

    -- it completes a window
    pub aligns_completed : (w k : ℕ) (place : Place) → ((scheme : ℕ) → frame.group part ≡ Some scheme → IsJudgedBy f scheme w k IsAccepting)
        → AreNeedsGiven frame f part w k → Aligns f part place given → Aligns f part (taking (w + 1) 1) (accepts w k given)
    aligns_completed w k place judged needed is = by (found given (Posted w k)) refl where
      none_passed : (scheme v i j : ℕ) → frame.group part ≡ Some scheme → turn_at (taking (w + 1) 1) ≡ (v, i) → 1 ≤ j → j < i → IsJudgedBy f scheme v j (λ judgement. judgement ≡ again)
      none_passed scheme v i j grouped at from below = let second : 1 ≡ i = ap (λ turn. turn.1) at in absurd (omega (arith, from, below, second))

      none_turned : (v i : ℕ) → turn_at (taking (w + 1) 1) ≡ (v, i) → 1 < i → (j : ℕ) × AreNeedsGiven frame f part v j
      none_turned v i at more = let second : 1 ≡ i = ap (λ turn. turn.1) at in absurd (omega (arith, more, second))

      by : (o : Option (Gift Post)) → found given (Posted w k) ≡ o → Aligns f part (taking (w + 1) 1) (given ++ option_to_list (option_map (accepted_for w) o))
      by None e = subst (λ (xs : List (Gift Post)). Aligns f part (taking (w + 1) 1) xs) (sym (append-nil given)) (record {
        passed = none_passed;
        accepted = is.accepted;
        served = is.served;
        numbered = is.numbered;
        turned = none_turned;
      })
      by (Some gift) e = record {
        passed = none_passed;
        accepted = λ scheme v one grouped has. elim (found_new given (accepted_for w gift) (Completed (suc v)) one has) [
          | inl old ↦ is.accepted scheme v one grouped old
          | inr new ↦
              let window : w ≡ suc v = cc in
              let iteration : k ≡ one.iteration = sym (is.numbered w k gift e) ∙ ap (λ (g : Gift Post). g.iteration) new.1 in
              subst (λ (i : ℕ). IsJudgedBy f scheme (suc v) i IsAccepting) iteration
              (subst (λ (u : ℕ). IsJudgedBy f scheme u k IsAccepting) window (judged scheme grouped))
        ];
        served = λ v has. elim (found_before_or given (accepted_for w gift) (Completed (suc v)) has) [
          | inl old ↦ is.served v old
          | inr new ↦ let window : w ≡ suc v = cc in (k, subst (λ (u : ℕ). AreNeedsGiven frame f part u k) window needed)
        ];
        numbered = λ v j one has. elim (found_new given (accepted_for w gift) (Posted v j) one has) [ inl old ↦ is.numbered v j one old | inr new ↦ cc ];
        turned = none_turned;
      }

    -- it repeats a window
    pub aligns_again : (w k : ℕ) (place : Place) → turn_at place ≡ (w, k) → ((scheme : ℕ) → frame.group part ≡ Some scheme → IsJudgedBy f scheme w k (λ judgement. judgement ≡ again))
        → AreNeedsGiven frame f part w k → Aligns f part place given → Aligns f part (taking w (k + 1)) given
    aligns_again w k place at judged needed is = record {
      passed = λ scheme v i j grouped there from below.
          let window : w ≡ v = ap (λ turn. turn.0) there in
          let iteration : k + 1 ≡ i = ap (λ turn. turn.1) there in
          subst (λ (u : ℕ). IsJudgedBy f scheme u j (λ judgement. judgement ≡ again)) window
          (elim (cases_lt j k) [
            | inl less ↦ is.passed scheme w k j grouped at from less
            | inr past ↦ let same : k ≡ j = omega (arith, past, below, iteration) in
                subst (λ (u : ℕ). IsJudgedBy f scheme w u (λ judgement. judgement ≡ again)) same (judged scheme grouped)
          ]);
      accepted = is.accepted;
      served = is.served;
      numbered = is.numbered;
      turned = λ v i there more. let window : w ≡ v = ap (λ turn. turn.0) there in (k, subst (λ (u : ℕ). AreNeedsGiven frame f part u k) window needed);
    }

module _ {Mesh Post Inputs Fault : Type 0} (frame : Frame Post Inputs Fault) where
  pub record IsAligned (sides : CoreState Mesh Post Fault) : Type 0 where
    pub each : (part : ℕ) → part < frame.parts → Aligns frame (look_in sides) part (sides part).place (sides part).given

  pub opening_aligned : IsAligned opening_state
  opening_aligned = record {
    each = λ part is_part. record {
      passed = λ scheme w k j grouped at from below. let none : 0 ≡ k = ap (λ turn. turn.1) at in absurd (omega (arith, from, below, none));
      accepted = λ scheme w gift grouped has. cc;
      served = λ w has. cc;
      numbered = λ w k gift has. cc;
      turned = λ w k at more. let none : 0 ≡ k = ap (λ turn. turn.1) at in absurd (omega (arith, more, none));
    };
  }

  module _ (sound : IsSound frame) (sides : CoreState Mesh Post Fault) (part : ℕ) (is_part : part < frame.parts) where
    abbrev IsNow : Side Mesh Post Fault → Type 0
    IsNow side = Aligns frame (look_in sides) part side.place side.given

    -- the turn that it judges
    judged_here : (scheme w k : ℕ) (IsSo : Judgement Fault → Type 0) → Stands frame (look_in sides) part (judging scheme w k) (sides part).given
        → is_granted frame sides part (judging scheme w k) ≡ true → IsSo (frame.judge (look_in sides) scheme w k)
        → (one : ℕ) → frame.group part ≡ Some one → IsJudgedBy frame (look_in sides) one w k IsSo
    judged_here scheme w k IsSo stands granted so one grouped =
        subst (λ (u : ℕ). IsJudgedBy frame (look_in sides) u w k IsSo) (same_Some scheme one (sym stands.0 ∙ grouped)) (record {
          iteration = positive frame (frame.group part) k stands.1.iteration;
          decided = stands.1.decided;
          there = stands.2.window;
          posted = posted_up_to frame sides part scheme w k granted (stands.1.group scheme stands.0);
          so = so;
        })

    -- it is told a judgement
    hears_it : (scheme w k : ℕ) → (sides part).place ≡ judging scheme w k → Stands frame (look_in sides) part (judging scheme w k) (sides part).given
        → is_granted frame sides part (judging scheme w k) ≡ true → Aligns frame (look_in sides) part (judging scheme w k) (sides part).given
        → (judgement : Judgement Fault) → frame.judge (look_in sides) scheme w k ≡ judgement → IsNow (after_judgement judgement w k (sides part))
    hears_it scheme w k at stands granted is again told =
        aligns_again frame (look_in sides) part (sides part).given w k (judging scheme w k) refl
        (judged_here scheme w k (λ judgement. judgement ≡ again) stands granted told) stands.2.needed is
    hears_it scheme w k at stands granted is converged told =
        aligns_completed frame (look_in sides) part (sides part).given w k (judging scheme w k)
        (judged_here scheme w k IsAccepting stands granted (subst IsAccepting (sym told) tt)) stands.2.needed is
    hears_it scheme w k at stands granted is at_limit told =
        aligns_completed frame (look_in sides) part (sides part).given w k (judging scheme w k)
        (judged_here scheme w k IsAccepting stands granted (subst IsAccepting (sym told) tt)) stands.2.needed is
    hears_it scheme w k at stands granted is (refused fault) told =
        aligns_there frame (look_in sides) part (sides part).given (judging scheme w k) (sides part).place (ap turn_at at) is

    -- it posts a turn
    posts_turn : (w k : ℕ) (post : Post) → Stands frame (look_in sides) part (within w k) (sides part).given → Aligns frame (look_in sides) part (within w k) (sides part).given
        → (group : Option ℕ) → frame.group part ≡ group → IsNow (after_post group w k post (sides part))
    posts_turn w k post stands is None grouped =
        aligns_completed frame (look_in sides) part (gives (Posted w k) k post (sides part).given) w k (within w k)
        (λ scheme one. absurd (none-some scheme (sym grouped ∙ one))) stands.1.needed
        (aligns_posted frame (look_in sides) part (sides part).given w k (within w k) (within w k) post refl is)
    posts_turn w k post stands is (Some scheme) grouped =
        aligns_posted frame (look_in sides) part (sides part).given w k (within w k) (judging scheme w k) post refl is

    stays : (place other : Place) → turn_at other ≡ turn_at place → Aligns frame (look_in sides) part place (sides part).given
        → Aligns frame (look_in sides) part other (sides part).given
    stays place other same is = aligns_there frame (look_in sides) part (sides part).given place other same is

    ends_there : (place : Place) → (sides part).place ≡ place → Aligns frame (look_in sides) part place (sides part).given
        → (ending : Ending Fault) (side : Side Mesh Post Fault) → ends_with ending (sides part) ≡ side → IsNow side
    ends_there place at is ending side e = subst IsNow e (stays place (sides part).place (ap turn_at at) is)

    step_aligns : (place : Place) → (sides part).place ≡ place → Stands frame (look_in sides) part place (sides part).given
        → Aligns frame (look_in sides) part place (sides part).given
        → (act : Act Mesh Post Fault) (reply : Reply Mesh Inputs Fault) (side : Side Mesh Post Fault)
        → made_at frame sides part place act ≡ Some (reply, side) → IsNow side
    step_aligns sending at stands is (sends_meshes own) reply side made = subst IsNow (second_same _ _ made) (stays sending collecting refl is)
    step_aligns collecting at stands is takes_meshes reply side made =
        subst IsNow (ap (λ (pair : Reply Mesh Inputs Fault × Side Mesh Post Fault). pair.1) (guarded _ _ _ made).1) (stays collecting opening refl is)
    step_aligns opening at stands is (posts post) reply side made =
        subst IsNow (second_same _ _ made) (aligns_opened frame (look_in sides) part (sides part).given opening post is)
    step_aligns (taking w k) at stands is takes reply side made =
        subst IsNow (ap (λ (pair : Reply Mesh Inputs Fault × Side Mesh Post Fault). pair.1) (guarded _ _ _ made).1) (stays (taking w k) (within w k) refl is)
    step_aligns (within w k) at stands is (posts post) reply side made =
        subst IsNow (second_same _ _ made) (posts_turn w k post stands is (frame.group part) refl)
    step_aligns (judging scheme w k) at stands is judges reply side made =
        let open_there = guarded _ _ _ made in
        subst IsNow (ap (λ (pair : Reply Mesh Inputs Fault × Side Mesh Post Fault). pair.1) open_there.1)
        (hears_it scheme w k at stands open_there.0 is (frame.judge (look_in sides) scheme w k) refl)
    step_aligns place at stands is (stops fault) reply side made = ends_there place at is (faulted fault) side (second_same _ _ made)
    step_aligns place at stands is lacks_memory reply side made = ends_there place at is no_memory side (second_same _ _ made)
    step_aligns place at stands is ends reply side made = ends_there place at is (ending_at frame sides part place) side (second_same _ _ made)
    step_aligns place at stands is is_cut reply side made =
        ends_there place at is cut side
        (ap (λ (pair : Reply Mesh Inputs Fault × Side Mesh Post Fault). pair.1)
        (guarded (is_cut_off frame sides part place) (cut_off, ends_with cut (sides part)) (reply, side) made).1)
    step_aligns place at stands is act reply side made = cc

  -- each event keeps them together
  pub step_aligned : IsSound frame → IsSettled frame → (sides : CoreState Mesh Post Fault) (part : ℕ) (act : Act Mesh Post Fault) (reply : Reply Mesh Inputs Fault) (side : Side Mesh Post Fault)
      → part < frame.parts → IsWell frame sides → core_step frame sides part act ≡ Some (reply, side) → IsAligned sides → IsAligned (put sides part side)
  step_aligned sound settled sides part act reply side is_part well made aligned = record {
    each = put_each (λ one (s : Side Mesh Post Fault). one < frame.parts → Aligns frame (look_in now) one s.place s.given) sides part side
        (λ inside. still part side.place side.given inside
        (step_aligns sound sides part is_part (sides part).place refl (well.stands part) (aligned.each part is_part) act reply side
        (made_by frame sides part act (reply, side) made).1))
        (λ one apart inside. still one (sides one).place (sides one).given inside (aligned.each one inside));
  } where
    now : CoreState Mesh Post Fault
    now = put sides part side

    still : (one : ℕ) (place : Place) (given : List (Gift Post)) → one < frame.parts → Aligns frame (look_in sides) one place given → Aligns frame (look_in (put sides part side)) one place given
    still one place given inside is =
        aligns_still frame (look_in sides) (look_in (put sides part side)) one place given sound settled inside (step_extends frame sides part act reply side made) well.in_order
        (step_well frame sound settled sides part act reply side is_part well made).in_order is

  -- what holds of every state that events come to
  pub record IsTold (sides : CoreState Mesh Post Fault) : Type 0 where
    pub well : IsWell frame sides
    pub aligned : IsAligned sides

  pub step_told : IsSound frame → IsSettled frame → (sides : CoreState Mesh Post Fault) (part : ℕ) (act : Act Mesh Post Fault) (reply : Reply Mesh Inputs Fault) (side : Side Mesh Post Fault)
      → part < frame.parts → core_step frame sides part act ≡ Some (reply, side) → IsTold sides → IsTold (put sides part side)
  step_told sound settled sides part act reply side is_part made told = record {
    well = step_well frame sound settled sides part act reply side is_part told.well made;
    aligned = step_aligned sound settled sides part act reply side is_part told.well made told.aligned;
  }

  pub happens_told : IsSound frame → IsSettled frame → (history : List (Entry Mesh Post Fault)) (from to : CoreState Mesh Post Fault) → IsTold from → Happens frame from history to → IsTold to
  happens_told sound settled [] from to told happens = subst IsTold happens told
  happens_told sound settled (entry ∷ rest) from to told happens =
      happens_told sound settled rest (put from entry.part happens.1) to
      (step_told sound settled from entry.part entry.act happens.0 happens.1 happens.2 happens.3 told) happens.4

  pub legal_told : IsSound frame → IsSettled frame → (history : List (Entry Mesh Post Fault)) (to : CoreState Mesh Post Fault) → IsLegal frame history to → IsTold to
  legal_told sound settled history to legal =
      happens_told sound settled history opening_state to (record { well = opening_well frame; aligned = opening_aligned }) legal
