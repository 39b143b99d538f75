-- What becomes of an event that asks for something: it is made, becomes a cut, or waits.
use Rattle.std.proofs.Common.{◌≡◌, ℕ, Bool, true, false, not, ◌&&◌, if◌then◌else◌, List, [], ◌∷◌, filter_map, find, Option, Some, None, is_some, option_map, Ok, Err, refl, sym, ap, subst, ◌∙◌}
use Rattle.cpl_plan.specs.declared.parts.PlanParts.{PlanParts}
use Rattle.coupled_loop.specs.Endings.{cut}
use Rattle.coupled_loop.specs.CoreState.{Place, sending, collecting, opening, taking, within, judging, has_ended, look_in, turn_at}
use Rattle.coupled_loop.specs.CoreStep.{takes_meshes, takes, judges, is_cut, meshes, taken, cut_off, ends_with, asked_at, is_granted, is_cut_off, judged_as, made_at, cut_by, waits_for}
use Rattle.wave_coupling.specs.Coupling.{wave_frame}
use Rattle.core_sides.specs.CoreWords.{WaveState, WaveAct, wave_step}
use Rattle.core_sides.specs.Answers.{answer_by, answer_in, made_in, side_by}
use Rattle.core_sides.specs.declared.event.Reply.TheVariants.{Cut}
use Rattle.core_sides.specs.declared.event.CoreErr.TheVariants.{NotEnabled}
use Rattle.core_sides.proofs.AsksTell.{all_granted, not_granted, cut_found}

-- who has ended before giving something has not given it
cut_waits : (ended : ℕ → Bool) (asked : List (ℕ × Bool)) (who : ℕ) → option_map (λ one. one.0) (find (λ one. not one.1 && ended one.0) asked) ≡ Some who
    → (owner : ℕ) × (option_map (λ one. one.0) (find (λ one. not one.1) asked) ≡ Some owner)
cut_waits ended [] who found = cc
cut_waits ended ((owner, true) ∷ rest) who found = cut_waits ended rest who found
cut_waits ended ((owner, false) ∷ rest) who found = (owner, refl)

module _ (plan : PlanParts) (sides : WaveState) (part : ℕ) (running : has_ended (sides part) ≡ false) where
  -- an event that asks for something at its place
  abbrev pub Asks : Place → WaveAct → Type 0
  Asks collecting takes_meshes = Unit {0}
  Asks (taking w k) takes = (wave_frame plan).is_there (look_in sides) w ≡ true
  Asks (judging scheme w k) judges = Unit {0}
  Asks _ _ = ⊥

  granted_at : (place : Place) → (sides part).place ≡ place → waits_for (wave_frame plan) sides part ≡ None → is_granted (wave_frame plan) sides part place ≡ true
  granted_at place at none = all_granted (asked_at (wave_frame plan) sides part place)
      (subst (λ (p : Place). option_map (λ one. one.0) (find (λ one. not one.1) (asked_at (wave_frame plan) sides part p)) ≡ None) at none)

  waiting_at : (place : Place) (owner : ℕ) → (sides part).place ≡ place → waits_for (wave_frame plan) sides part ≡ Some owner → is_granted (wave_frame plan) sides part place ≡ false
  waiting_at place owner at some = not_granted (asked_at (wave_frame plan) sides part place) owner
      (subst (λ (p : Place). option_map (λ one. one.0) (find (λ one. not one.1) (asked_at (wave_frame plan) sides part p)) ≡ Some owner) at some)

  made_of : (place : Place) (act : WaveAct) → (sides part).place ≡ place → wave_step plan sides part act ≡ made_at (wave_frame plan) sides part place act
  made_of place act at =
      ap (λ (b : Bool). if b then None else made_at (wave_frame plan) sides part (sides part).place act) running
      ∙ ap (λ (p : Place). made_at (wave_frame plan) sides part p act) at

  if_so : {X : Type 0} (b : Bool) (x : X) → b ≡ true → (if b then Some x else None) ≡ Some x
  if_so b x is = ap (λ (c : Bool). if c then Some x else None) is

  if_not : {X : Type 0} (b : Bool) (x : X) → b ≡ false → (if b then Some x else None) ≡ None
  if_not b x is = ap (λ (c : Bool). if c then Some x else None) is

  -- where all is given it is made
  pub meshes_made : (sides part).place ≡ collecting → waits_for (wave_frame plan) sides part ≡ None
      → wave_step plan sides part takes_meshes
      ≡ Some (meshes (filter_map (λ owner. (sides owner).sent) ((wave_frame plan).owners part)), record (sides part) { place = opening })
  meshes_made at none = made_of collecting takes_meshes at
      ∙ if_so (is_granted (wave_frame plan) sides part collecting)
      (meshes (filter_map (λ owner. (sides owner).sent) ((wave_frame plan).owners part)), record (sides part) { place = opening }) (granted_at collecting at none)

  pub takes_made : (w k : ℕ) → (sides part).place ≡ taking w k → (wave_frame plan).is_there (look_in sides) w ≡ true → waits_for (wave_frame plan) sides part ≡ None
      → wave_step plan sides part takes ≡ Some (taken ((wave_frame plan).inputs (look_in sides) part w k), record (sides part) { place = within w k })
  takes_made w k at there none = made_of (taking w k) takes at
      ∙ if_so ((wave_frame plan).is_there (look_in sides) w && is_granted (wave_frame plan) sides part (taking w k))
      (taken ((wave_frame plan).inputs (look_in sides) part w k), record (sides part) { place = within w k })
      (ap (λ (b : Bool). b && is_granted (wave_frame plan) sides part (taking w k)) there ∙ granted_at (taking w k) at none)

  pub judges_made : (scheme w k : ℕ) → (sides part).place ≡ judging scheme w k → waits_for (wave_frame plan) sides part ≡ None
      → wave_step plan sides part judges ≡ Some (judged_as (wave_frame plan) sides part ((wave_frame plan).judge (look_in sides) scheme w k) w k)
  judges_made scheme w k at none = made_of (judging scheme w k) judges at
      ∙ if_so (is_granted (wave_frame plan) sides part (judging scheme w k))
      (judged_as (wave_frame plan) sides part ((wave_frame plan).judge (look_in sides) scheme w k) w k) (granted_at (judging scheme w k) at none)

  -- else it is not
  asks_nothing : (place : Place) (act : WaveAct) (owner : ℕ) → (sides part).place ≡ place → Asks place act → waits_for (wave_frame plan) sides part ≡ Some owner
      → wave_step plan sides part act ≡ None
  asks_nothing collecting takes_meshes owner at asks some = made_of collecting takes_meshes at
      ∙ if_not (is_granted (wave_frame plan) sides part collecting) _ (waiting_at collecting owner at some)
  asks_nothing (taking w k) takes owner at asks some = made_of (taking w k) takes at
      ∙ if_not ((wave_frame plan).is_there (look_in sides) w && is_granted (wave_frame plan) sides part (taking w k)) _
      (ap (λ (b : Bool). b && is_granted (wave_frame plan) sides part (taking w k)) asks ∙ waiting_at (taking w k) owner at some)
  asks_nothing (judging scheme w k) judges owner at asks some = made_of (judging scheme w k) judges at
      ∙ if_not (is_granted (wave_frame plan) sides part (judging scheme w k)) _ (waiting_at (judging scheme w k) owner at some)
  asks_nothing place act owner at asks some = absurd asks

  cut_off_at : (who : ℕ) → cut_by (wave_frame plan) sides part ≡ Some who → is_cut_off (wave_frame plan) sides part (sides part).place ≡ true
  cut_off_at who found = sym (cut_found (λ p. has_ended (sides p)) (asked_at (wave_frame plan) sides part (sides part).place)) ∙ ap (λ (o : Option ℕ). is_some o) found

  -- it becomes a cut
  pub cut_made : (who : ℕ) → cut_by (wave_frame plan) sides part ≡ Some who → wave_step plan sides part is_cut ≡ Some (cut_off, ends_with cut (sides part))
  cut_made who found = rw running (cuts (sides part).place (cut_off_at who found)) where
    cuts : (place : Place) → is_cut_off (wave_frame plan) sides part place ≡ true
        → made_at (wave_frame plan) sides part place is_cut ≡ Some (cut_off, ends_with cut (sides part))
    cuts sending is = cc
    cuts collecting is = rw is refl
    cuts opening is = cc
    cuts (taking w k) is = rw is refl
    cuts (within w k) is = cc
    cuts (judging scheme w k) is = rw is refl

  module _ (place : Place) (act : WaveAct) (at : (sides part).place ≡ place) (asks : Asks place act) where
    pub cut_answers : (who : ℕ) → cut_by (wave_frame plan) sides part ≡ Some who
        → (answer_in plan sides part act ≡ Ok (Cut who)) × (made_in plan sides part act ≡ is_cut) × (side_by plan sides part (wave_step plan sides part act) ≡ ends_with cut (sides part))
    cut_answers who found =
        let owner = cut_waits (λ p. has_ended (sides p)) (asked_at (wave_frame plan) sides part (sides part).place) who found in
        let none = asks_nothing place act owner.0 at asks owner.1 in (
          ap (λ o. answer_by plan sides part o (cut_by (wave_frame plan) sides part) (waits_for (wave_frame plan) sides part)) none
              ∙ ap (λ (o : Option ℕ). answer_by plan sides part None o (waits_for (wave_frame plan) sides part)) found,
          ap (λ o. if is_some o then act else is_cut) none,
          ap (side_by plan sides part) none,
        )

    pub wait_answers : (owner : ℕ) → cut_by (wave_frame plan) sides part ≡ None → waits_for (wave_frame plan) sides part ≡ Some owner
        → answer_in plan sides part act ≡ Err (NotEnabled owner (turn_at (sides owner).place).0 (turn_at (sides owner).place).1)
    wait_answers owner none some =
        ap (λ o. answer_by plan sides part o (cut_by (wave_frame plan) sides part) (waits_for (wave_frame plan) sides part)) (asks_nothing place act owner at asks some)
        ∙ ap (λ (o : Option ℕ). answer_by plan sides part None o (waits_for (wave_frame plan) sides part)) none
        ∙ ap (λ (o : Option ℕ). answer_by plan sides part None None o) some
