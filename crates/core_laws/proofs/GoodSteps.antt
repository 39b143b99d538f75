-- Each event of the core leaves its participant at a place that tells what it has given.
use Rattle.std.proofs.Common.{◌≡◌, ℕ, ◌<◌, true, false, [], ◌∷◌, Option, Some, None, is_some, refl, sym, ap, subst, ◌∙◌, append-nil}
use Rattle.coupled_loop.specs.Given.{gives}
use Rattle.std.proofs.lemmas.Bool.{and_parts}
use Rattle.cpl_plan.specs.declared.words.Item.TheVariants.{Posted}
use Rattle.coupled_loop.specs.Endings.{Ending, faulted, no_memory, cut, Judgement, again, converged, at_limit, refused}
use Rattle.coupled_loop.specs.Frames.{Frame}
use Rattle.coupled_loop.specs.CoreState.{Place, sending, collecting, opening, taking, within, judging, Side, CoreState, look_in}
use Rattle.coupled_loop.specs.CoreStep.{Act, sends_meshes, takes_meshes, posts, takes, judges, stops, lacks_memory, ends, is_cut, Reply, cut_off, completes, after_post, ends_with, after_judgement, is_granted, is_cut_off, ending_at, made_at}
use Rattle.coupled_loop.specs.Settled.{IsSettled}
use Rattle.core_laws.proofs.Sound.{IsSound}
use Rattle.core_laws.proofs.Well.{Stands, Unsent}
use Rattle.core_laws.proofs.GiftOrders.{IsGivenInOrder}
use Rattle.core_laws.proofs.Completions.{HasTurn}
use Rattle.core_laws.proofs.GoodMoves.{group_solved, IsGoodMove, good_stay, good_opened, good_taken, good_turn, good_posted, good_accepted, good_again}
use Rattle.core_laws.proofs.Steps.{some_same, guarded, needs_told, posted_up_to}

pub second_same : {A B : Type 0} (x y : A × B) → Some x ≡ Some y → x.1 ≡ y.1
second_same {A} {B} x y e = ap (λ (pair : A × B). pair.1) (some_same x y e)

module _ {Mesh Post Inputs Fault : Type 0} (frame : Frame Post Inputs Fault) (sides : CoreState Mesh Post Fault) (part : ℕ) where
  -- the participant as it is after a step
  pub record IsGoodStep (side : Side Mesh Post Fault) : Type 0 where
    pub move : IsGoodMove frame (look_in sides) part (sides part).given side.place side.given
    pub sent : is_some (sides part).sent ≡ true → side.sent ≡ (sides part).sent
    pub unsent : Unsent frame side.place side.sent

  module _ (sound : IsSound frame) (settled : IsSettled frame) (is_part : part < frame.parts) (order : IsGivenInOrder (sides part).given) where
    -- it ends where it stands
    ends_there : (place : Place) → (sides part).place ≡ place → Stands frame (look_in sides) part place (sides part).given → Unsent frame place (sides part).sent
        → (ending : Ending Fault) (side : Side Mesh Post Fault) → ends_with ending (sides part) ≡ side → IsGoodStep side
    ends_there place at stands unsent ending side e = subst IsGoodStep e (record {
      move = subst (λ (p : Place). IsGoodMove frame (look_in sides) part (sides part).given p (sides part).given) (sym at)
          (good_stay frame (look_in sides) part (sides part).given (λ item. refl) order place stands);
      sent = λ had. refl;
      unsent = subst (λ (p : Place). Unsent frame p (sides part).sent) (sym at) unsent;
    })

    -- it posts a turn
    posts_turn : (w k : ℕ) (post : Post) → Stands frame (look_in sides) part (within w k) (sides part).given
        → (group : Option ℕ) → frame.group part ≡ group → IsGoodStep (after_post group w k post (sides part))
    posts_turn w k post stands None grouped = record {
      move = good_accepted frame (look_in sides) part (sides part).given (λ item. refl) order w k (gives (Posted w k) k post (sides part).given)
          (record { item = Posted w k; iteration = k; post = post } ∷ []) sound is_part refl
          (good_turn frame (look_in sides) part (sides part).given (λ item. refl) order w k post sound is_part stands.0 stands.2) stands.0 stands.1;
      sent = λ had. refl;
      unsent = tt;
    }
    posts_turn w k post stands (Some scheme) grouped = record {
      move = good_posted frame (look_in sides) part (sides part).given (λ item. refl) order scheme w k post sound is_part grouped stands.0 stands.1 stands.2;
      sent = λ had. refl;
      unsent = tt;
    }

    -- what it has given when it judges has its turn
    has_turn : (scheme w k : ℕ) → Stands frame (look_in sides) part (judging scheme w k) (sides part).given → HasTurn (sides part).given w k
    has_turn scheme w k stands = record {
      order = order;
      turn = stands.3;
      posted = stands.4;
      completed = stands.1.completed;
      uncompleted = stands.1.uncompleted;
    }

    accepts_turn : (scheme w k : ℕ) → Stands frame (look_in sides) part (judging scheme w k) (sides part).given → IsGoodStep (completes w k (sides part))
    accepts_turn scheme w k stands = record {
      move = good_accepted frame (look_in sides) part (sides part).given (λ item. refl) order w k (sides part).given [] sound is_part
          (sym (append-nil (sides part).given)) (has_turn scheme w k stands) stands.1 stands.2;
      sent = λ had. refl;
      unsent = tt;
    }

    -- it is told a judgement
    hears_it : (scheme w k : ℕ) → (sides part).place ≡ judging scheme w k → Stands frame (look_in sides) part (judging scheme w k) (sides part).given
        → is_granted frame sides part (judging scheme w k) ≡ true
        → (judgement : Judgement Fault) → frame.judge (look_in sides) scheme w k ≡ judgement → IsGoodStep (after_judgement judgement w k (sides part))
    hears_it scheme w k at stands granted again is = record {
      move = good_again frame (look_in sides) part (sides part).given (λ item. refl) order scheme w k sound settled is_part stands.0 stands.1 stands.2 stands.4
          (posted_up_to frame sides part scheme w k granted (stands.1.group scheme stands.0))
          (λ last. settled.last (look_in sides) scheme w (group_solved frame sound part scheme is_part stands.0)
          (subst (λ (u : ℕ). frame.judge (look_in sides) scheme w u ≡ again) last is));
      sent = λ had. refl;
      unsent = tt;
    }
    hears_it scheme w k at stands granted converged is = accepts_turn scheme w k stands
    hears_it scheme w k at stands granted at_limit is = accepts_turn scheme w k stands
    hears_it scheme w k at stands granted (refused fault) is = ends_there (judging scheme w k) at stands tt (faulted fault) _ refl

    -- every event
    pub good_step : (place : Place) → (sides part).place ≡ place → Stands frame (look_in sides) part place (sides part).given → Unsent frame place (sides part).sent
        → (act : Act Mesh Post Fault) (reply : Reply Mesh Inputs Fault) (side : Side Mesh Post Fault)
        → made_at frame sides part place act ≡ Some (reply, side) → IsGoodStep side
    good_step sending at stands unsent (sends_meshes own) reply side made = subst IsGoodStep (second_same _ _ made) (record {
      move = good_stay frame (look_in sides) part (sides part).given (λ item. refl) order collecting stands;
      sent = λ had. let never : false ≡ true = ap is_some (sym unsent) ∙ had in cc;
      unsent = tt;
    })
    good_step collecting at stands unsent takes_meshes reply side made =
        subst IsGoodStep (ap (λ (pair : Reply Mesh Inputs Fault × Side Mesh Post Fault). pair.1) (guarded _ _ _ made).1) (record {
          move = good_stay frame (look_in sides) part (sides part).given (λ item. refl) order opening stands;
          sent = λ had. refl;
          unsent = tt;
        })
    good_step opening at stands unsent (posts post) reply side made = subst IsGoodStep (second_same _ _ made) (record {
      move = good_opened frame (look_in sides) part (sides part).given (λ item. refl) order post sound is_part stands;
      sent = λ had. refl;
      unsent = tt;
    })
    good_step (taking w k) at stands unsent takes reply side made =
        let open_there = guarded _ _ _ made in
        let both = and_parts (frame.is_there (look_in sides) w) (is_granted frame sides part (taking w k)) open_there.0 in
        subst IsGoodStep (ap (λ (pair : Reply Mesh Inputs Fault × Side Mesh Post Fault). pair.1) open_there.1) (record {
          move = good_stay frame (look_in sides) part (sides part).given (λ item. refl) order (within w k) (
            stands.0,
            good_taken frame (look_in sides) part (sides part).given (λ item. refl) order w k stands.0 stands.1 both.0 (needs_told frame sides part w k both.0 both.1),
            stands.1,
          );
          sent = λ had. refl;
          unsent = tt;
        })
    good_step (within w k) at stands unsent (posts post) reply side made =
        subst IsGoodStep (second_same _ _ made) (posts_turn w k post stands (frame.group part) refl)
    good_step (judging scheme w k) at stands unsent judges reply side made =
        let open_there = guarded _ _ _ made in
        subst IsGoodStep (ap (λ (pair : Reply Mesh Inputs Fault × Side Mesh Post Fault). pair.1) open_there.1)
        (hears_it scheme w k at stands open_there.0 (frame.judge (look_in sides) scheme w k) refl)
    good_step place at stands unsent (stops fault) reply side made = ends_there place at stands unsent (faulted fault) side (second_same _ _ made)
    good_step place at stands unsent lacks_memory reply side made = ends_there place at stands unsent no_memory side (second_same _ _ made)
    good_step place at stands unsent ends reply side made =
        ends_there place at stands unsent (ending_at frame sides part place) side (second_same _ _ made)
    good_step place at stands unsent is_cut reply side made =
        ends_there place at stands unsent cut side
        (ap (λ (pair : Reply Mesh Inputs Fault × Side Mesh Post Fault). pair.1)
        (guarded (is_cut_off frame sides part place) (cut_off, ends_with cut (sides part)) (reply, side) made).1)
    good_step place at stands unsent act reply side made = cc
