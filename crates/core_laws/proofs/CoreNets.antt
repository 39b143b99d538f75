-- Two participants at the core: what one can do is the same after the other's event; and who is cut off stays so.
use Rattle.std.proofs.Common.{◌≡◌, ℕ, ◌<◌, Bool, true, false, ◌&&◌, if◌then◌else◌, List, Option, Some, None, is_some, refl, sym, ap, ◌∙◌}
use Rattle.coupled_loop.specs.Numbered.{put}
use Rattle.std.specs.Option.{option_or}
use Rattle.std.proofs.lemmas.Bool.{and_right}
use Rattle.coupled_loop.specs.Given.{Gift}
use Rattle.coupled_loop.specs.Endings.{cut}
use Rattle.coupled_loop.specs.Frames.{Frame}
use Rattle.coupled_loop.specs.CoreState.{Place, sending, collecting, taking, judging, Side, CoreState, has_ended, look_in}
use Rattle.coupled_loop.specs.CoreStep.{Act, takes_meshes, takes, judges, is_cut, Reply, cut_off, ends_with, is_granted, is_cut_off, goes_on_at, made_at, core_step}
use Rattle.coupled_loop.specs.Settled.{IsSettled}
use Rattle.core_laws.proofs.Sound.{IsSound}
use Rattle.core_laws.proofs.Well.{Stands, IsWell}
use Rattle.core_laws.proofs.Puts.{put_other}
use Rattle.core_laws.proofs.Steps.{guarded, made_by}
use Rattle.core_laws.proofs.Growth.{step_extends}
use Rattle.core_laws.proofs.Wellness.{put_each, step_good, step_well}
use Rattle.core_laws.proofs.Later.{IsLater, cut_stays, cut_blocks}
use Rattle.core_laws.proofs.CoreStays.{allowed, refused_by, made_stays}

module _ {Mesh Post Inputs Fault : Type 0} (frame : Frame Post Inputs Fault) (sides now : CoreState Mesh Post Fault) (part : ℕ) (later : IsLater sides now part) where
  -- the event of one who has not ended
  pub later_step : (act : Act Mesh Post Fault) (made : Option (Reply Mesh Inputs Fault × Side Mesh Post Fault)) → has_ended (sides part) ≡ false
      → made_at frame now part (sides part).place act ≡ made → core_step frame now part act ≡ made
  later_step act made ended e =
      ap (λ (s : Side Mesh Post Fault). if has_ended s then None else made_at frame now part s.place act) later.own
      ∙ ap (λ (b : Bool). if b then None else made_at frame now part (sides part).place act) ended ∙ e

  -- who is cut off can still not do what it asks for
  none_stays : (place : Place) (given : List (Gift Post)) → Stands frame (look_in sides) part place given → (act : Act Mesh Post Fault)
      → is_cut_off frame sides part place ≡ true → made_at frame sides part place act ≡ None → made_at frame now part place act ≡ None
  none_stays collecting given stands takes_meshes off none =
      refused_by (is_granted frame now part collecting) _ (cut_blocks sides now part frame later collecting (cut_stays sides now part frame later collecting given stands off))
  none_stays (taking w k) given stands takes off none =
      refused_by (goes_on_at frame now part (taking w k) && is_granted frame now part (taking w k)) _
      (and_right (goes_on_at frame now part (taking w k)) (is_granted frame now part (taking w k))
      (cut_blocks sides now part frame later (taking w k) (cut_stays sides now part frame later (taking w k) given stands off)))
  none_stays (judging scheme w k) given stands judges off none =
      refused_by (is_granted frame now part (judging scheme w k)) _
      (cut_blocks sides now part frame later (judging scheme w k) (cut_stays sides now part frame later (judging scheme w k) given stands off))
  none_stays place given stands is_cut off none =
      let x : Reply Mesh Inputs Fault × Side Mesh Post Fault = (cut_off, ends_with cut (sides part)) in
      let made : (if is_cut_off frame sides part place then Some x else None) ≡ Some x = allowed (is_cut_off frame sides part place) x off in
      let never : Some x ≡ None = sym made ∙ none in
      cc
  none_stays place given stands act off none = cc

  module _ (sound : IsSound frame) (settled : IsSettled frame) (is_part : part < frame.parts) (well : IsWell frame sides) where
    pub step_stays : (act : Act Mesh Post Fault) (made : Reply Mesh Inputs Fault × Side Mesh Post Fault) → core_step frame sides part act ≡ Some made → core_step frame now part act ≡ Some made
    step_stays act made e =
        let own = made_by frame sides part act made e in
        later_step act (Some made) own.0 (made_stays frame sides now part later sound settled is_part (sides part).place (sides part).given (well.stands part) act made own.1)

    -- what it asks for, or else the cut
    pub choice_stays : (act : Act Mesh Post Fault) (made : Reply Mesh Inputs Fault × Side Mesh Post Fault)
        → option_or (core_step frame sides part act) (core_step frame sides part is_cut) ≡ Some made
        → option_or (core_step frame now part act) (core_step frame now part is_cut) ≡ Some made
    choice_stays act made e = by (core_step frame sides part act) refl e where
      not_ended : has_ended (sides part) ≡ false → core_step frame sides part act ≡ None → made_at frame sides part (sides part).place act ≡ None
      not_ended ended none = ap (λ (b : Bool). if b then None else made_at frame sides part (sides part).place act) (sym ended) ∙ none

      cut_told : (place : Place) → made_at frame sides part place is_cut ≡ Some made → is_cut_off frame sides part place ≡ true
      cut_told sending told = (guarded (is_cut_off frame sides part sending) (cut_off, ends_with cut (sides part)) made told).0
      cut_told place told = (guarded (is_cut_off frame sides part place) (cut_off, ends_with cut (sides part)) made told).0

      by : (o : Option (Reply Mesh Inputs Fault × Side Mesh Post Fault)) → core_step frame sides part act ≡ o
          → option_or o (core_step frame sides part is_cut) ≡ Some made
          → option_or (core_step frame now part act) (core_step frame now part is_cut) ≡ Some made
      by (Some x) is same = rw (step_stays act x is) same
      by None is same =
          let own = made_by frame sides part is_cut made same in
          let off : is_cut_off frame sides part (sides part).place ≡ true = cut_told (sides part).place own.1 in
          let none : made_at frame sides part (sides part).place act ≡ None = not_ended own.0 is in
          rw (later_step act None own.0 (none_stays (sides part).place (sides part).given (well.stands part) act off none)) (step_stays is_cut made same)

module _ {Mesh Post Inputs Fault : Type 0} (frame : Frame Post Inputs Fault) (sound : IsSound frame) (settled : IsSettled frame) (sides : CoreState Mesh Post Fault) (part other : ℕ) where
  -- after another's event the state is a later one
  pub stepped_later : IsWell frame sides → other < frame.parts → ¬ (other ≡ part) → (act : Act Mesh Post Fault) (reply : Reply Mesh Inputs Fault) (side : Side Mesh Post Fault)
      → core_step frame sides other act ≡ Some (reply, side) → IsLater sides (put sides other side) part
  stepped_later well is_other apart act reply side made = record {
    own = put_other sides other side part (λ e. apart (sym e));
    extends = step_extends frame sides other act reply side made;
    before = well.in_order;
    after = (step_well frame sound settled sides other act reply side is_other well made).in_order;
    sent = put_each (λ one (s : Side Mesh Post Fault). is_some (sides one).sent ≡ true → s.sent ≡ (sides one).sent) sides other side
        (step_good frame sound settled sides other act reply side is_other well made).sent (λ one off had. refl);
    ended = put_each (λ one (s : Side Mesh Post Fault). has_ended (sides one) ≡ true → s ≡ sides one) sides other side
        (λ ended. let never : false ≡ true = sym (made_by frame sides other act (reply, side) made).0 ∙ ended in cc) (λ one off had. refl);
  }

  pub core_stays : IsWell frame sides → part < frame.parts → other < frame.parts → ¬ (other ≡ part)
      → (act : Act Mesh Post Fault) (reply : Reply Mesh Inputs Fault) (side : Side Mesh Post Fault) → core_step frame sides part act ≡ Some (reply, side)
      → (others_act : Act Mesh Post Fault) (others_reply : Reply Mesh Inputs Fault) (beside : Side Mesh Post Fault)
      → core_step frame sides other others_act ≡ Some (others_reply, beside) → core_step frame (put sides other beside) part act ≡ Some (reply, side)
  core_stays well is_part is_other apart act reply side made others_act others_reply beside others_made =
      step_stays frame sides (put sides other beside) part (stepped_later well is_other apart others_act others_reply beside others_made)
      sound settled is_part well act (reply, side) made
