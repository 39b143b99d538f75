-- What one participant can do at the core is answered as before when others have gone on.
use Rattle.std.proofs.Common.{◌≡◌, ℕ, ◌<◌, Bool, true, false, ◌&&◌, if◌then◌else◌, List, filter_map, Option, Some, None, refl, sym, ap, ◌∙◌}
use Rattle.std.proofs.lemmas.Bool.{and_parts, and_from}
use Rattle.cpl_plan.specs.declared.words.Item.TheVariants.{Completed}
use Rattle.coupled_loop.specs.Given.{Gift, gives}
use Rattle.coupled_loop.specs.Endings.{Ending, faulted, no_memory, cut, early, done, Judgement}
use Rattle.coupled_loop.specs.Frames.{Frame}
use Rattle.coupled_loop.specs.CoreState.{Place, sending, collecting, opening, taking, within, judging, Side, CoreState, look_in}
use Rattle.coupled_loop.specs.CoreStep.{Act, sends_meshes, takes_meshes, posts, takes, judges, stops, lacks_memory, ends, is_cut, Reply, posted, meshes, taken, judged, cut_off, over, after_post, ends_with, after_judgement, is_granted, is_cut_off, goes_on_at, ending_at, judged_as, made_at}
use Rattle.coupled_loop.specs.Settled.{IsProvided, IsSettled}
use Rattle.core_laws.proofs.Sound.{IsSound}
use Rattle.core_laws.proofs.Well.{Stands}
use Rattle.core_laws.proofs.GoodMoves.{group_solved, positive}
use Rattle.core_laws.proofs.Steps.{guarded, needs_told, posted_up_to}
use Rattle.core_laws.proofs.Later.{filtered_stays, IsLater, there_same, granted_stays, cut_stays}

pub allowed : {X : Type 0} (b : Bool) (x : X) → b ≡ true → (if b then Some x else None) ≡ Some x
allowed b x is = rw is refl

pub refused_by : {X : Type 0} (b : Bool) (x : X) → b ≡ false → (if b then Some x else None) ≡ None
refused_by b x is = rw is refl

module _ {Mesh Post Inputs Fault : Type 0} (frame : Frame Post Inputs Fault) (sides now : CoreState Mesh Post Fault) (part : ℕ) (later : IsLater sides now part) where
  abbrev Made : Type 0
  Made = Reply Mesh Inputs Fault × Side Mesh Post Fault

  -- where the answer depends on the participant's own side alone
  by_own : (h : Side Mesh Post Fault → Made) (made : Made) → Some (h (sides part)) ≡ Some made → Some (h (now part)) ≡ Some made
  by_own h made e = ap (λ (s : Side Mesh Post Fault). Some (h s)) later.own ∙ e

  -- where the answer is behind a test that stays
  by_test : (b c : Bool) (x y made : Made) → (if b then Some x else None) ≡ Some made → (b ≡ true → (c ≡ true) × (y ≡ x))
      → (if c then Some y else None) ≡ Some made
  by_test b c x y made e stays =
      let open_there = guarded b x made e in let same = stays open_there.0 in
      allowed c y same.0 ∙ ap (λ (m : Made). Some m) same.1 ∙ ap (λ (m : Made). Some m) open_there.1

  ending_same : (place : Place) (given : List (Gift Post)) → Stands frame (look_in sides) part place given → ending_at frame now part place ≡ ending_at frame sides part place
  ending_same sending given stands = refl
  ending_same collecting given stands = refl
  ending_same opening given stands = refl
  ending_same (taking w k) given stands =
      ap (λ (b : Bool). let ending : Ending Fault = if b then early else done in ending) (sym (there_same sides now part frame later w stands.0.decided))
  ending_same (within w k) given stands = refl
  ending_same (judging scheme w k) given stands = refl

  ends_same : (place : Place) (made : Made) → ending_at frame now part place ≡ ending_at frame sides part place
      → Some (over, ends_with (ending_at frame sides part place) (sides part)) ≡ Some made → Some (over, ends_with (ending_at frame now part place) (now part)) ≡ Some made
  ends_same place made same e =
      ap (λ (ending : Ending Fault). let made : Option Made = Some (over, ends_with ending (now part)) in made) same
      ∙ by_own (λ s. (over, ends_with (ending_at frame sides part place) s)) made e

  module _ (sound : IsSound frame) (settled : IsSettled frame) (is_part : part < frame.parts) where
    -- who can take its inputs is provided
    provided : (w k : ℕ) (given : List (Gift Post)) → Stands frame (look_in sides) part (taking w k) given → goes_on_at frame sides part (taking w k) ≡ true
        → is_granted frame sides part (taking w k) ≡ true → IsProvided frame (look_in sides) part w k
    provided w k given stands there granted = record {
      window = there;
      iteration = positive frame (frame.group part) k stands.0.iteration;
      before = stands.0.completed;
      needed = needs_told frame sides part w k there granted;
      group = stands.0.group;
    }

    pub made_stays : (place : Place) (given : List (Gift Post)) → Stands frame (look_in sides) part place given → (act : Act Mesh Post Fault) (made : Made)
        → made_at frame sides part place act ≡ Some made → made_at frame now part place act ≡ Some made
    made_stays sending given stands (sends_meshes own) made e = by_own (λ s. (posted, record s { place = collecting; sent = Some own })) made e
    made_stays collecting given stands takes_meshes made e =
        by_test (is_granted frame sides part collecting) (is_granted frame now part collecting) _ _ made e
        (λ granted. (granted_stays sides now part frame later collecting given stands granted, same granted)) where
          same : is_granted frame sides part collecting ≡ true
              → (let x : Made = (meshes (filter_map (λ owner. (now owner).sent) (frame.owners part)), record (now part) { place = opening }) in x)
              ≡ (meshes (filter_map (λ owner. (sides owner).sent) (frame.owners part)), record (sides part) { place = opening })
          same granted = rw (filtered_stays (λ owner. owner) (λ owner. (sides owner).sent) (λ owner. (now owner).sent) later.sent (frame.owners part) granted, later.own) refl
    made_stays opening given stands (posts post) made e =
        by_own (λ s. (posted, record s { place = taking 1 1; given = gives (Completed 0) 0 post s.given })) made e
    made_stays (taking w k) given stands takes made e =
        by_test (goes_on_at frame sides part (taking w k) && is_granted frame sides part (taking w k))
        (goes_on_at frame now part (taking w k) && is_granted frame now part (taking w k)) _ _ made e
        (λ both. let two = and_parts (goes_on_at frame sides part (taking w k)) (is_granted frame sides part (taking w k)) both in (
          and_from (goes_on_at frame now part (taking w k)) (is_granted frame now part (taking w k))
              (sym (there_same sides now part frame later w stands.0.decided) ∙ two.0)
              (granted_stays sides now part frame later (taking w k) given stands two.1),
          same two.0 two.1,
        )) where
          same : goes_on_at frame sides part (taking w k) ≡ true → is_granted frame sides part (taking w k) ≡ true
              → (let x : Made = (taken (frame.inputs (look_in now) part w k), record (now part) { place = within w k }) in x)
              ≡ (taken (frame.inputs (look_in sides) part w k), record (sides part) { place = within w k })
          same there granted = rw (
            sym (settled.inputs (look_in sides) (look_in now) part w k is_part later.extends later.before later.after
                (provided w k given stands there granted)),
            later.own,
          ) refl
    made_stays (within w k) given stands (posts post) made e = by_own (λ s. (posted, after_post (frame.group part) w k post s)) made e
    made_stays (judging scheme w k) given stands judges made e =
        by_test (is_granted frame sides part (judging scheme w k)) (is_granted frame now part (judging scheme w k)) _ _ made e
        (λ granted. (granted_stays sides now part frame later (judging scheme w k) given stands granted, same granted)) where
          same : is_granted frame sides part (judging scheme w k) ≡ true
              → judged_as frame now part (frame.judge (look_in now) scheme w k) w k ≡ judged_as frame sides part (frame.judge (look_in sides) scheme w k) w k
          same granted = ap (λ (j : Judgement Fault). judged_as frame now part j w k)
              (sym (settled.judgements (look_in sides) (look_in now) scheme w k (group_solved frame sound part scheme is_part stands.0)
              later.extends later.before later.after (positive frame (frame.group part) k stands.1.iteration) stands.2.window
              (posted_up_to frame sides part scheme w k granted (stands.1.group scheme stands.0))))
              ∙ ap (λ (s : Side Mesh Post Fault). let x : Made = (judged (frame.judge (look_in sides) scheme w k), after_judgement (frame.judge (look_in sides) scheme w k) w k s) in x) later.own
    made_stays place given stands (stops fault) made e = by_own (λ s. (over, ends_with (faulted fault) s)) made e
    made_stays place given stands lacks_memory made e = by_own (λ s. (over, ends_with no_memory s)) made e
    made_stays place given stands ends made e = ends_same place made (ending_same place given stands) e
    made_stays place given stands is_cut made e =
        by_test (is_cut_off frame sides part place) (is_cut_off frame now part place) (cut_off, ends_with cut (sides part)) (cut_off, ends_with cut (now part)) made e
        (λ off. (
          cut_stays sides now part frame later place given stands off,
          ap (λ (s : Side Mesh Post Fault). let x : Made = (cut_off, ends_with cut s) in x) later.own,
        ))
    made_stays place given stands act made e = cc
