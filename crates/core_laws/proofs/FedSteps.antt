-- An event at the core is mirrored by entries of the fed system: by the same event, after the one step of its solve where it posts in a turn; whoever ends quits there.
use Rattle.std.proofs.Common.{◌≡◌, ℕ, ◌<◌, ◌⊎◌, inl, inr, Bool, true, false, ◌&&◌, if◌then◌else◌, List, [], ◌∷◌, ◌++◌, map, filter_map, Option, Some, None, is_some, option_map, refl, sym, ap, subst, ◌∙◌, append-nil}
use Rattle.coupled_loop.specs.Numbered.{put}
use Rattle.std.specs.List.{list_all}
use Rattle.std.proofs.lemmas.Option.{same_Some}
use Rattle.cpl_plan.specs.declared.words.Item.TheVariants.{Completed, Posted}
use Rattle.coupled_loop.specs.Endings.{Judgement}
use Rattle.coupled_loop.specs.Given.{Gift, Look, has_given, gives}
use Rattle.coupled_loop.specs.Frames.{Frame}
use Rattle.coupled_loop.specs.CoreState.{Place, sending, collecting, opening, taking, within, judging, Side, CoreState, has_ended, look_in, turn_at}
use Rattle.coupled_loop.specs.CoreStep.{Act, sends_meshes, takes_meshes, posts, takes, judges, ends, Reply, posted, meshes, taken, judged, cut_off, over, core_step, made_at, after_judgement, ends_with, is_granted, goes_on_at, ending_at, judged_as}
use Rattle.coupled_loop.specs.LegalHistory.{Told, told_inputs, told_judgement, told_at}
use Rattle.coupled_loop.specs.FedLoop.{fed, fed_post}
use Rattle.coupled_loop.specs.Schedules.{running, Actor, Entry, go, quit, Wish, asks, first_act, sides_of, wish_at, becomes, hears, answered, Leads}
use Rattle.core_laws.proofs.Stops.{IsEndOf}
use Rattle.core_laws.proofs.Shadows.{does_next, asks_next}
use Rattle.core_laws.proofs.NotesGrow.{taken_notes}
use Rattle.core_laws.proofs.Behind.{both}
use Rattle.core_laws.proofs.Tracks.{IsLike, IsTracked, end_like, judgement_like, like_looks, judgement_leaves}

abbrev pub FedActor : Type 0 → Type 0 → Type 0 → Type 0
FedActor Post Inputs Fault = Actor (Unit {0}) Post Fault (Unit {0}) (ℕ × ℕ) (Told Inputs Fault)

-- an end is made at any place
pub ends_made : {Mesh Post Inputs Fault : Type 0} (frame : Frame Post Inputs Fault) (sides : CoreState Mesh Post Fault) (part : ℕ) (place : Place)
    → made_at frame sides part place ends ≡ Some (over, ends_with (ending_at frame sides part place) (sides part))
ends_made frame sides part sending = refl
ends_made frame sides part collecting = refl
ends_made frame sides part opening = refl
ends_made frame sides part (taking w k) = refl
ends_made frame sides part (within w k) = refl
ends_made frame sides part (judging scheme w k) = refl

-- an event of one who has not ended
pub step_at : {Mesh Post Inputs Fault : Type 0} (frame : Frame Post Inputs Fault) (sides : CoreState Mesh Post Fault) (part : ℕ) (place : Place) (act : Act Mesh Post Fault)
    (made : Reply Mesh Inputs Fault × Side Mesh Post Fault) → has_ended (sides part) ≡ false → (sides part).place ≡ place
    → made_at frame sides part place act ≡ Some made → core_step frame sides part act ≡ Some made
step_at frame sides part place act made un at is =
    ap (λ (b : Bool). if b then None else made_at frame sides part (sides part).place act) un ∙ (ap (λ (p : Place). made_at frame sides part p act) at ∙ is)

-- nothing is told at an end
told_end : {Mesh Inputs Fault : Type 0} (place : Place) (reply : Reply Mesh Inputs Fault) → (reply ≡ over) ⊎ (reply ≡ cut_off) → told_at place reply ≡ []
told_end sending reply is = refl
told_end collecting reply is = refl
told_end opening reply is = refl
told_end (taking w k) (taken inputs) (inl e) = cc
told_end (taking w k) (taken inputs) (inr e) = cc
told_end (taking w k) reply is = refl
told_end (within w k) reply is = refl
told_end (judging scheme w k) (judged judgement) (inl e) = cc
told_end (judging scheme w k) (judged judgement) (inr e) = cc
told_end (judging scheme w k) reply is = refl

module _ {Mesh Post Inputs Fault : Type 0} (frame : Frame Post Inputs Fault) (look : Look Post) (sides : CoreState Mesh Post Fault)
    (actors : ℕ → FedActor Post Inputs Fault) (all : (other : ℕ) → IsTracked (sides other) (actors other)) (part : ℕ) (inside : part < frame.parts)
    (un : has_ended (sides part) ≡ false) where
  abbrev Own : CoreState (Unit {0}) Post Fault
  Own = sides_of frame (fed look) actors

  -- an event and its reply, mirrored
  pub record IsMirrored (made : Reply Mesh Inputs Fault × Side Mesh Post Fault) : Type 0 where
    pub list : List Entry
    pub actor : FedActor Post Inputs Fault
    pub leads : Leads frame (fed look) actors list (put actors part actor)
    pub tracked : IsTracked made.1 actor
    pub notes : actor.held.notes ≡ (actors part).held.notes ++ told_at (sides part).place made.0

  pub un_own : has_ended (actors part).side ≡ false
  un_own = (all part).like.ended ∙ un

  looks : look_in Own ≡ look_in sides
  looks = like_looks sides Own (λ other. (all other).like)

  pub place_own : (place : Place) → (sides part).place ≡ place → (actors part).side.place ≡ place
  place_own place at = (all part).like.place ∙ at

  -- a participant that has been answered at a place
  abbrev answered_at : Place → Reply (Unit {0}) Inputs Fault × Side (Unit {0}) Post Fault → FedActor Post Inputs Fault
  answered_at place made = becomes frame (fed look) made.1 (hears frame (fed look) part (turn_at place).0 (turn_at place).1 made.0 (actors part).held)

  answered_there : (place : Place) (made : Reply (Unit {0}) Inputs Fault × Side (Unit {0}) Post Fault) → (sides part).place ≡ place → answered frame (fed look) actors part made ≡ answered_at place made
  answered_there place made at = ap (λ (p : Place). answered_at p made) (place_own place at)

  -- one entry, where what is asked for is made
  one_go : (place : Place) (act : Act (Unit {0}) Post Fault) (made : Reply (Unit {0}) Inputs Fault × Side (Unit {0}) Post Fault) → (sides part).place ≡ place
      → wish_at frame (fed look) actors part place ≡ asks act → made_at frame Own part place act ≡ Some made
      → Leads frame (fed look) actors (go part ∷ []) (put actors part (answered_at place made))
  one_go place act made at wished is =
      let own = place_own place at in
      let goes = does_next frame (fed look) actors part (asks act) un_own (ap (wish_at frame (fed look) actors part) own ∙ wished) in
      let made_there = step_at frame Own part place act made un_own own is in (
        answered_at place made,
        inside,
        goes ∙ (asks_next frame (fed look) actors part act made made_there ∙ ap (λ (a : FedActor Post Inputs Fault). Some a) (answered_there place made at)),
        refl,
      )

  silent : (xs : List (Told Inputs Fault)) → xs ≡ [] → (actors part).held.notes ≡ (actors part).held.notes ++ xs
  silent xs none = sym (append-nil (actors part).held.notes) ∙ ap (λ (l : List (Told Inputs Fault)). (actors part).held.notes ++ l) (sym none)

  pub told_there : (place : Place) (reply : Reply Mesh Inputs Fault) → (sides part).place ≡ place → told_at place reply ≡ told_at (sides part).place reply
  told_there place reply at = ap (λ (p : Place). told_at p reply) (sym at)

  -- an end is mirrored by a quit
  pub end_mirrored : (act : Act Mesh Post Fault) (made : Reply Mesh Inputs Fault × Side Mesh Post Fault) → IsEndOf frame sides part made → IsMirrored made
  end_mirrored act made end =
      let own : Reply (Unit {0}) Inputs Fault × Side (Unit {0}) Post Fault = (over, ends_with (ending_at frame Own part (actors part).side.place) (actors part).side) in
      let stepped = step_at frame Own part (actors part).side.place ends own un_own refl (ends_made frame Own part (actors part).side.place) in
      record {
        list = quit part ∷ [];
        actor = answered frame (fed look) actors part own;
        leads = (answered frame (fed look) actors part own, inside, ap (option_map (answered frame (fed look) actors part)) stepped, refl);
        tracked = subst (λ (side : Side Mesh Post Fault). IsTracked side (answered frame (fed look) actors part own)) (sym end.side)
            (record { like = end_like (sides part) (actors part).side (all part).like end.ending _; stage = λ w k at unended. cc });
        notes = silent (told_at (sides part).place made.0) (told_end (sides part).place made.0 end.reply);
      }

  by_made : (before made : Reply Mesh Inputs Fault × Side Mesh Post Fault) → Some before ≡ Some made → IsMirrored before → IsMirrored made
  by_made before made e = subst IsMirrored (same_Some before made e)

  pub sends_mirrored : (own : Mesh) → (sides part).place ≡ sending → IsMirrored (posted, record (sides part) { place = collecting; sent = Some own })
  sends_mirrored own at =
      let made : Reply (Unit {0}) Inputs Fault × Side (Unit {0}) Post Fault = (posted, record (actors part).side { place = collecting; sent = Some tt }) in
      record {
        list = go part ∷ [];
        actor = answered_at sending made;
        leads = one_go sending (sends_meshes tt) made at refl refl;
        tracked = record { like = record { place = refl; given = (all part).like.given; sent = refl; ended = (all part).like.ended }; stage = λ w k e unended. cc };
        notes = silent _ (sym (told_there sending posted at));
      }

  abbrev have_sent : {Any : Type 0} → CoreState Any Post Fault → ℕ → Bool
  have_sent any other = is_some (any other).sent

  sent_alike : have_sent Own ≡ have_sent sides
  sent_alike = λ i other. (all other).like.sent i

  pub meshes_mirrored : (received : List Mesh) → (sides part).place ≡ collecting → is_granted frame sides part collecting ≡ true → IsMirrored (meshes received, record (sides part) { place = opening })
  meshes_mirrored received at granted =
      let own : Reply (Unit {0}) Inputs Fault × Side (Unit {0}) Post Fault = (meshes (filter_map (λ owner. (Own owner).sent) (frame.owners part)), record (actors part).side { place = opening }) in
      let granted_own : is_granted frame Own part collecting ≡ true =
      ap (λ (sent : ℕ → Bool). list_all (λ (asked : ℕ × Bool). asked.1) (map (λ owner. (owner, sent owner)) (frame.owners part))) sent_alike ∙ granted in
      record {
        list = go part ∷ [];
        actor = answered_at collecting own;
        leads = one_go collecting takes_meshes own at refl (ap (λ (b : Bool). if b then Some own else None) granted_own);
        tracked = record { like = record { place = refl; given = (all part).like.given; sent = (all part).like.sent; ended = (all part).like.ended }; stage = λ w k e unended. cc };
        notes = silent _ (sym (told_there collecting (meshes received) at));
      }

  pub first_mirrored : (post : Post) → (sides part).place ≡ opening → look part (Completed 0) ≡ Some (record { item = Completed 0; iteration = 0; post = post })
      → IsMirrored (posted, record (sides part) { place = taking 1 1; given = gives (Completed 0) 0 post (sides part).given })
  first_mirrored post at is =
      let own : Reply (Unit {0}) Inputs Fault × Side (Unit {0}) Post Fault = (posted, record (actors part).side { place = taking 1 1; given = gives (Completed 0) 0 post (actors part).side.given }) in
      let wished : Option (Gift Post) → Wish (Unit {0}) Post Fault (ℕ × ℕ) = λ o. asks (first_act (fed_post o)) in
      record {
        list = go part ∷ [];
        actor = answered_at opening own;
        leads = one_go opening (posts post) own at (ap wished is) refl;
        tracked = record {
          like = record { place = refl; given = ap (λ (g : List (Gift Post)). gives (Completed 0) 0 post g) (all part).like.given; sent = (all part).like.sent; ended = (all part).like.ended };
          stage = λ w k e unended. cc;
        };
        notes = silent _ (sym (told_there opening posted at));
      }

  pub taken_mirrored : (w k : ℕ) → (sides part).place ≡ taking w k → goes_on_at frame sides part (taking w k) ≡ true → is_granted frame sides part (taking w k) ≡ true
      → IsMirrored (taken (frame.inputs (look_in sides) part w k), record (sides part) { place = within w k })
  taken_mirrored w k at there granted =
      let own : Reply (Unit {0}) Inputs Fault × Side (Unit {0}) Post Fault = (taken (frame.inputs (look_in Own) part w k), record (actors part).side { place = within w k }) in
      let there_own : frame.is_there (look_in Own) w ≡ true = ap (λ (f : Look Post). frame.is_there f w) looks ∙ there in
      let granted_own : is_granted frame Own part (taking w k) ≡ true =
      ap (λ (f : Look Post). list_all (λ (asked : ℕ × Bool). asked.1) (if frame.is_there f w then map (λ need. (need.owner, has_given f need.owner need.item)) (frame.needs part w k) else [])) looks ∙ granted in
      let made_own : (goes_on_at frame Own part (taking w k) && is_granted frame Own part (taking w k)) ≡ true = both (goes_on_at frame Own part (taking w k)) (is_granted frame Own part (taking w k)) there_own granted_own in
      record {
        list = go part ∷ [];
        actor = answered_at (taking w k) own;
        leads = one_go (taking w k) takes own at (ap (λ (b : Bool). asks (if b then takes else ends)) there_own) (ap (λ (b : Bool). if b then Some own else None) made_own);
        tracked = record {
          like = record { place = refl; given = (all part).like.given; sent = (all part).like.sent; ended = (all part).like.ended };
          stage = λ v j e unended. ap (λ (turn : ℕ × ℕ). running turn 0) (ap turn_at e);
        };
        notes = taken_notes frame (fed look) part w k (frame.inputs (look_in Own) part w k) (actors part).held
            ∙ (ap (λ (f : Look Post). (actors part).held.notes ++ told_inputs w k (frame.inputs f part w k) ∷ []) looks
            ∙ ap (λ (l : List (Told Inputs Fault)). (actors part).held.notes ++ l) (told_there (taking w k) (taken (frame.inputs (look_in sides) part w k)) at));
      }

  pub judged_mirrored : (scheme w k : ℕ) → (sides part).place ≡ judging scheme w k → is_granted frame sides part (judging scheme w k) ≡ true
      → IsMirrored (judged_as frame sides part (frame.judge (look_in sides) scheme w k) w k)
  judged_mirrored scheme w k at granted =
      let own = judged_as frame Own part (frame.judge (look_in Own) scheme w k) w k in
      let granted_own : is_granted frame Own part (judging scheme w k) ≡ true =
      ap (λ (f : Look Post). list_all (λ (asked : ℕ × Bool). asked.1) (map (λ member. (member, has_given f member (Posted w k))) (frame.members scheme))) looks ∙ granted in
      let judgement : frame.judge (look_in Own) scheme w k ≡ frame.judge (look_in sides) scheme w k = ap (λ (f : Look Post). frame.judge f scheme w k) looks in
      record {
        list = go part ∷ [];
        actor = answered_at (judging scheme w k) own;
        leads = one_go (judging scheme w k) judges own at refl (ap (λ (b : Bool). if b then Some own else None) granted_own);
        tracked = record {
          like = subst (λ (j : Judgement Fault). IsLike (after_judgement (frame.judge (look_in sides) scheme w k) w k (sides part)) (after_judgement j w k (actors part).side)) (sym judgement)
              (judgement_like (sides part) (actors part).side (all part).like (frame.judge (look_in sides) scheme w k) w k);
          stage = λ v j e unended. absurd (judgement_leaves (sides part) (frame.judge (look_in sides) scheme w k) scheme w k v j at e unended);
        };
        notes = ap (λ (j : Judgement Fault). (actors part).held.notes ++ told_judgement w k j ∷ []) judgement
            ∙ ap (λ (l : List (Told Inputs Fault)). (actors part).held.notes ++ l) (told_there (judging scheme w k) (judged (frame.judge (look_in sides) scheme w k)) at);
      }
