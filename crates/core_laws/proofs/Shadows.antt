-- A schedule in which participants end before their time is shadowed by one in which nobody does: each is as it is there, or has ended with what it has noted and given there.
use Rattle.std.proofs.Common.{◌≡◌, ℕ, nat_eq, ◌<◌, ◌⊎◌, inl, inr, Bool, true, false, if◌then◌else◌, List, [], ◌∷◌, ◌++◌, Some, option_map, refl, sym, ap, subst, ◌∙◌}
use Rattle.coupled_loop.specs.Numbered.{put}
use Rattle.std.specs.Option.{option_or}
use Rattle.coupled_loop.specs.Given.{Look}
use Rattle.coupled_loop.specs.Frames.{Frame}
use Rattle.coupled_loop.specs.CoreState.{Place, sending, collecting, opening, taking, within, judging, Side, has_ended, look_in, turn_at}
use Rattle.coupled_loop.specs.CoreStep.{Act, takes, ends, lacks_memory, is_cut, Reply, core_step}
use Rattle.coupled_loop.specs.Solving.{Solvers, notes}
use Rattle.coupled_loop.specs.Schedules.{Actor, Actors, Entry, go, quit, run_out, participant_of, Wish, asks, steps, nothing, first_act, wish_within, sides_of, wish_at, becomes, stepped, hears, answered, does, next, enabled, Leads}
use Rattle.core_laws.proofs.Puts.{put_there}
use Rattle.core_laws.proofs.Nets.{Goes, goes_joined}
use Rattle.core_laws.proofs.StepKinds.{IsEvent, IsDone, event_of, made_from, kind_of}
use Rattle.core_laws.proofs.Stops.{IsStop, HasStopped, stopped_by}
use Rattle.core_laws.proofs.SameSteps.{AreSame, same_step, same_look, is_cut_or_own}

-- what holds of all participants and of one that is put holds of all that are there then
pub put_related : {X Y : Type 0} (R : X → Y → Type 0) (s : ℕ → X) (t : ℕ → Y) (part : ℕ) (x : X) (y : Y)
    → ((other : ℕ) → R (s other) (t other)) → R x y → (other : ℕ) → R (put s part x other) (put t part y other)
put_related R s t part x y all one other = by (nat_eq other part)
  where
    by : (b : Bool) → R (if b then x else s other) (if b then y else t other)
    by true = one
    by false = all other

module _ {Mesh Post Fault State Run Note : Type 0} where
  abbrev pub IsShadowOf : Actor Mesh Post Fault State Run Note → Actor Mesh Post Fault State Run Note → Type 0
  IsShadowOf one other = (one ≡ other) ⊎ HasStopped one other

  abbrev pub IsShadow : Actors Mesh Post Fault State Run Note → Actors Mesh Post Fault State Run Note → Type 0
  IsShadow actors shadow = (part : ℕ) → IsShadowOf (actors part) (shadow part)

  pub shadow_notes : (one other : Actor Mesh Post Fault State Run Note) → IsShadowOf one other → one.held.notes ≡ other.held.notes
  shadow_notes one other (inl e) = ap (λ (a : Actor Mesh Post Fault State Run Note). a.held.notes) e
  shadow_notes one other (inr stopped) = stopped.notes

  pub shadow_given : (one other : Actor Mesh Post Fault State Run Note) → IsShadowOf one other → one.side.given ≡ other.side.given
  shadow_given one other (inl e) = ap (λ (a : Actor Mesh Post Fault State Run Note). a.side.given) e
  shadow_given one other (inr stopped) = stopped.given

  pub shadow_sent : (one other : Actor Mesh Post Fault State Run Note) → IsShadowOf one other → one.side.sent ≡ other.side.sent
  shadow_sent one other (inl e) = ap (λ (a : Actor Mesh Post Fault State Run Note). a.side.sent) e
  shadow_sent one other (inr stopped) = stopped.sent

  -- who has not ended is the same
  pub shadow_same : (one other : Actor Mesh Post Fault State Run Note) → IsShadowOf one other → has_ended one.side ≡ false → one ≡ other
  shadow_same one other (inl e) un = e
  shadow_same one other (inr stopped) un = let has : has_ended one.side ≡ true = stopped.ended in cc

module _ {Mesh Post Inputs Fault State Run Note : Type 0} (frame : Frame Post Inputs Fault) (solvers : Solvers Mesh Post Inputs Fault State Run Note) where
  -- what is wished by one who is the same, where windows are there or not as they are here
  pub same_wish : (actors shadow : Actors Mesh Post Fault State Run Note) (part : ℕ) (place : Place) → actors part ≡ shadow part
      → ((w k : ℕ) → place ≡ taking w k → frame.is_there (look_in (sides_of frame solvers actors)) w ≡ frame.is_there (look_in (sides_of frame solvers shadow)) w)
      → wish_at frame solvers actors part place ≡ wish_at frame solvers shadow part place
  same_wish actors shadow part sending e there = refl
  same_wish actors shadow part collecting e there = refl
  same_wish actors shadow part opening e there =
      let wished : Actor Mesh Post Fault State Run Note → Wish Mesh Post Fault Run = λ a. asks (first_act (solvers.first part a.held.received a.held.state)) in
      ap wished e
  same_wish actors shadow part (taking w k) e there = ap (λ (b : Bool). asks (if b then takes else ends)) (there w k refl)
  same_wish actors shadow part (within w k) e there = ap (λ (a : Actor Mesh Post Fault State Run Note). wish_within a.stage) e
  same_wish actors shadow part (judging scheme w k) e there = refl

  -- what is wished by one who has not ended, and can be done, is done
  pub does_next : (actors : Actors Mesh Post Fault State Run Note) (part : ℕ) (wished : Wish Mesh Post Fault Run) → has_ended (actors part).side ≡ false
      → wish_at frame solvers actors part (actors part).side.place ≡ wished → next frame solvers actors part ≡ does frame solvers actors part wished
  does_next actors part wished un e =
      ap (λ (b : Bool). does frame solvers actors part (if b then nothing else wish_at frame solvers actors part (actors part).side.place)) un
      ∙ ap (does frame solvers actors part) e

  pub asks_next : (actors : Actors Mesh Post Fault State Run Note) (part : ℕ) (act : Act Mesh Post Fault) (made : Reply Mesh Inputs Fault × Side Mesh Post Fault)
      → core_step frame (sides_of frame solvers actors) part act ≡ Some made
      → does frame solvers actors part (asks act) ≡ Some (answered frame solvers actors part made)
  asks_next actors part act made e = ap (λ o. option_map (answered frame solvers actors part) (option_or o (core_step frame (sides_of frame solvers actors) part is_cut))) e

  module _ (actors shadow : Actors Mesh Post Fault State Run Note) (are : IsShadow actors shadow) where
    shadow_looks : look_in (sides_of frame solvers actors) ≡ look_in (sides_of frame solvers shadow)
    shadow_looks = same_look (sides_of frame solvers actors) (sides_of frame solvers shadow) (λ other. shadow_given (actors other) (shadow other) (are other))

    -- how a participant's entry is mirrored: by its own step, or by none
    abbrev IsMirrored : (part : ℕ) → Actor Mesh Post Fault State Run Note → Type 0
    IsMirrored part actor =
        ((mirrored : Actor Mesh Post Fault State Run Note) × (next frame solvers shadow part ≡ Some mirrored) × (actor ≡ mirrored)) ⊎ HasStopped actor (shadow part)

    stop_mirrored : (part : ℕ) (act : Act Mesh Post Fault) (actor : Actor Mesh Post Fault State Run Note) → actors part ≡ shadow part → IsStop act
        → IsEvent frame solvers actors part act actor → IsMirrored part actor
    stop_mirrored part act actor same stop event = inr (subst (HasStopped actor) same (stopped_by frame solvers actors part act actor stop event))

    shadow_wish : (part : ℕ) (wished : Wish Mesh Post Fault Run) → actors part ≡ shadow part
        → wish_at frame solvers actors part (actors part).side.place ≡ wished → wish_at frame solvers shadow part (shadow part).side.place ≡ wished
    shadow_wish part wished same e =
        ap (λ (a : Actor Mesh Post Fault State Run Note). wish_at frame solvers shadow part a.side.place) (sym same)
        ∙ (sym (same_wish actors shadow part (actors part).side.place same (λ w k at. ap (λ (f : Look Post). frame.is_there f w) shadow_looks)) ∙ e)

    event_mirrored : (part : ℕ) (act : Act Mesh Post Fault) (actor : Actor Mesh Post Fault State Run Note) → has_ended (actors part).side ≡ false → actors part ≡ shadow part
        → wish_at frame solvers actors part (actors part).side.place ≡ asks act → ¬ (act ≡ is_cut)
        → IsEvent frame solvers actors part act actor → IsMirrored part actor
    event_mirrored part act actor un same wished own event =
        let alike : AreSame (sides_of frame solvers actors) (sides_of frame solvers shadow) part = record {
          sent = λ other. shadow_sent (actors other) (shadow other) (are other);
          given = λ other. shadow_given (actors other) (shadow other) (are other);
          side = ap (λ (a : Actor Mesh Post Fault State Run Note). a.side) same;
        } in
        let made = sym (same_step frame (sides_of frame solvers actors) (sides_of frame solvers shadow) part act own alike) ∙ event.made in
        let un_there = ap (λ (a : Actor Mesh Post Fault State Run Note). has_ended a.side) (sym same) ∙ un in
        let goes = does_next shadow part (asks act) un_there (shadow_wish part (asks act) same wished) ∙ asks_next shadow part act (event.reply, event.side) made in
        let heard = ap (λ (a : Actor Mesh Post Fault State Run Note). becomes frame solvers event.side (hears frame solvers part (turn_at a.side.place).0 (turn_at a.side.place).1 event.reply a.held)) same in
        inl (answered frame solvers shadow part (event.reply, event.side), goes, event.is ∙ heard)

    step_mirrored : (part : ℕ) (run : Run) (more : ℕ) (actor : Actor Mesh Post Fault State Run Note) → has_ended (actors part).side ≡ false → actors part ≡ shadow part
        → wish_at frame solvers actors part (actors part).side.place ≡ steps run more → IsDone frame solvers actors part (steps run more) actor → IsMirrored part actor
    step_mirrored part run more actor un same wished done =
        let un_there = ap (λ (a : Actor Mesh Post Fault State Run Note). has_ended a.side) (sym same) ∙ un in
        let goes = does_next shadow part (steps run more) un_there (shadow_wish part (steps run more) same wished) in
        let stepping = ap (λ (a : Actor Mesh Post Fault State Run Note). becomes frame solvers a.side
        (stepped frame solvers part (turn_at a.side.place).0 (turn_at a.side.place).1 more (solvers.step part run).1 (notes (solvers.step part run).0 a.held))) same in
        inl (_, goes, done ∙ stepping)

    done_mirrored : (part : ℕ) (wished : Wish Mesh Post Fault Run) (actor : Actor Mesh Post Fault State Run Note) → has_ended (actors part).side ≡ false → actors part ≡ shadow part
        → wish_at frame solvers actors part (actors part).side.place ≡ wished → IsDone frame solvers actors part wished actor → IsMirrored part actor
    done_mirrored part (asks act) actor un same wished (inl event) = elim (is_cut_or_own act) [
      | inl cut ↦ stop_mirrored part is_cut actor same tt (subst (λ (a : Act Mesh Post Fault). IsEvent frame solvers actors part a actor) cut event)
      | inr own ↦ event_mirrored part act actor un same wished own event
    ]
    done_mirrored part (asks act) actor un same wished (inr (none, event)) = stop_mirrored part is_cut actor same tt event
    done_mirrored part (steps run more) actor un same wished done = step_mirrored part run more actor un same wished done
    done_mirrored part nothing actor un same wished done = absurd done

    unended : (part : ℕ) → has_ended (actors part).side ≡ false → actors part ≡ shadow part
    unended part un = shadow_same (actors part) (shadow part) (are part) un

    quit_mirrored : (part : ℕ) (act : Act Mesh Post Fault) (actor : Actor Mesh Post Fault State Run Note) → IsStop act → IsEvent frame solvers actors part act actor → IsMirrored part actor
    quit_mirrored part act actor stop event =
        let un = (made_from frame (sides_of frame solvers actors) part act (event.reply, event.side) event.made).0 in
        stop_mirrored part act actor (unended part un) stop event

    entry_mirrored : (entry : Entry) (actor : Actor Mesh Post Fault State Run Note) → enabled frame solvers actors entry ≡ Some actor → IsMirrored (participant_of entry) actor
    entry_mirrored (go part) actor e =
        let kind = kind_of frame solvers actors part actor e in
        done_mirrored part (wish_at frame solvers actors part (actors part).side.place) actor kind.0 (unended part kind.0) refl kind.1
    entry_mirrored (quit part) actor e = quit_mirrored part ends actor tt (event_of frame solvers actors part ends actor e)
    entry_mirrored (run_out part) actor e = quit_mirrored part lacks_memory actor tt (event_of frame solvers actors part lacks_memory actor e)

  -- goes that lead from a shadow to a shadow
  pub record Follows (to shadow : Actors Mesh Post Fault State Run Note) : Type 0 where
    pub list : List ℕ
    pub end : Actors Mesh Post Fault State Run Note
    pub goes : Goes frame.parts (next frame solvers) shadow list end
    pub are : IsShadow to end

  entry_followed : (actors shadow : Actors Mesh Post Fault State Run Note) (are : IsShadow actors shadow) (part : ℕ) (actor : Actor Mesh Post Fault State Run Note) → part < frame.parts
      → IsMirrored actors shadow are part actor → Follows (put actors part actor) shadow
  entry_followed actors shadow are part actor inside (inl (mirrored, goes, same)) = record {
    list = part ∷ [];
    end = put shadow part mirrored;
    goes = (mirrored, inside, goes, refl);
    are = put_related IsShadowOf actors shadow part actor mirrored are (inl same);
  }
  entry_followed actors shadow are part actor inside (inr stopped) = record {
    list = [];
    end = shadow;
    goes = refl;
    are = subst (IsShadow (put actors part actor)) (put_there shadow part (shadow part) refl) (put_related IsShadowOf actors shadow part actor (shadow part) are (inr stopped));
  }

  pub followed : (list : List Entry) (from to shadow : Actors Mesh Post Fault State Run Note) → IsShadow from shadow → Leads frame solvers from list to → Follows to shadow
  followed [] from to shadow are leads = record { list = []; end = shadow; goes = refl; are = subst (λ (s : Actors Mesh Post Fault State Run Note). IsShadow s shadow) leads are }
  followed (entry ∷ rest) from to shadow are leads =
      let part = participant_of entry in
      let one = entry_followed from shadow are part leads.0 leads.1 (entry_mirrored from shadow are entry leads.0 leads.2) in
      let more = followed rest (put from part leads.0) to one.end one.are leads.3 in
      record {
        list = one.list ++ more.list;
        end = more.end;
        goes = goes_joined frame.parts (next frame solvers) one.list shadow one.end more.end more.list one.goes more.goes;
        are = more.are;
      }
