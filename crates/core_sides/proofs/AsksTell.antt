-- What is kept of the participants tells whom a participant asks, and who of them has not given what is asked for.
use Rattle.std.proofs.Common.{◌≡◌, ℕ, ◌-◌, ◌<◌, ◌≤◌, ◌⊎◌, inl, inr, Bool, true, false, not, ◌&&◌, if◌then◌else◌, List, [], ◌∷◌, length, map, find, Option, Some, None, is_some, option_map, refl, sym, ap, subst, ◌∙◌, Contains}
use Rattle.std.specs.List.{list_all, list_any}
use Rattle.std.proofs.Math.Path.{fun_ext}
use Rattle.plan_order.specs.declared.node.Node.TheVariants.{Group}
use Rattle.cpl_plan.specs.Needs.{needs}
use Rattle.cpl_plan.specs.ValidPlan.{IsValidPlan}
use Rattle.cpl_plan.specs.declared.parts.PlanParts.{PlanParts}
use Rattle.cpl_plan.specs.declared.words.Need.{Need}
use Rattle.cpl_plan.specs.declared.words.Item.{Item}
use Rattle.cpl_plan.specs.declared.words.Item.TheVariants.{Completed, Posted}
use Rattle.coupled_loop.specs.Given.{has_given}
use Rattle.coupled_loop.specs.CoreState.{Place, has_ended, look_in, turn_at}
use Rattle.coupled_loop.specs.CoreStep.{asked_at, cut_by, waits_for}
use Rattle.coupled_loop.specs.PlanFrames.{owners_of, members_of, group_of}
use Rattle.core_laws.proofs.GoodMoves.{group_solved, positive}
use Rattle.core_laws.proofs.Members.{in_first}
use Rattle.core_laws.proofs.PlanSound.{plan_sound}
use Rattle.core_laws.proofs.Sound.{IsSound, node_by, IsOfEarlierNode, IsOfEarlierMember}
use Rattle.core_laws.proofs.Well.{Stands}
use Rattle.wave_coupling.specs.Coupling.{wave_frame, exchanged}
use Rattle.core_sides.specs.CoreWords.{WaveState}
use Rattle.core_sides.specs.KeptSides.{kept_given, kept_asked_at, kept_search_at}
use Rattle.core_sides.specs.Searched.{searched}
use Rattle.core_sides.specs.SidesStand.{place_of, AreStanding}
use Rattle.core_sides.specs.declared.sides.Sides.{Sides}
use Rattle.core_sides.specs.declared.standing.Place.{Place as KeptPlace}
use Rattle.core_sides.specs.declared.standing.Place.TheVariants.{Sending, Collecting, Opening, Taking, Within, Judging}
use Rattle.core_sides.proofs.Aligned.{IsTold}
use Rattle.core_sides.proofs.KeptTells.{ended_is, sent_is, there_is, completed_is, posted_is, same_in}

grouped_by : (part scheme : ℕ) (group : Option ℕ) → node_by part group ≡ Group scheme → group ≡ Some scheme
grouped_by part scheme None is = cc
grouped_by part scheme (Some own) is = cc

module _ (plan : PlanParts) (kept : Sides) (sides : WaveState) (standing : AreStanding plan kept sides) (valid : IsValidPlan plan) (told : IsTold (wave_frame plan) sides) where
  abbrev sound : IsSound (wave_frame plan)
  sound = plan_sound plan (exchanged plan) valid

  -- a member of a scheme that is solved
  member_is : (scheme member : ℕ) → Contains (wave_frame plan).nodes (Group scheme) → Contains (members_of plan scheme) member
      → (member < length plan.parts) × (group_of plan member ≡ Some scheme)
  member_is scheme member solved inside =
      let own = sound.of_node (Group scheme) member solved inside in
      (own.0, grouped_by member scheme (group_of plan member) own.1)

  stands_at : (part : ℕ) (place : KeptPlace) → (sides part).place ≡ place_of place → Stands (wave_frame plan) (look_in sides) part (place_of place) (sides part).given
  stands_at part place at = subst (λ (p : Place). Stands (wave_frame plan) (look_in sides) part p (sides part).given) at (told.well.stands part)

  -- what is needed at the turn at which the participant stands
  need_is : (part w k : ℕ) (need : Need) → part < length plan.parts → turn_at (sides part).place ≡ (w, k) → 1 ≤ w → 1 ≤ k → Contains (needs plan part w k) need
      → kept_given kept need.owner need.item ≡ has_given (look_in sides) need.owner need.item
  need_is part w k need is_part at window iteration inside = by (sound.needs part w k need is_part window iteration inside) where
    as_item : (item : Item) → need.item ≡ item → kept_given kept need.owner item ≡ has_given (look_in sides) need.owner item
        → kept_given kept need.owner need.item ≡ has_given (look_in sides) need.owner need.item
    as_item item is same = subst (λ (i : Item). kept_given kept need.owner i ≡ has_given (look_in sides) need.owner i) (sym is) same

    of_member : IsOfEarlierMember (wave_frame plan) part w k need → kept_given kept need.owner need.item ≡ has_given (look_in sides) need.owner need.item
    of_member earlier =
        let solved = group_solved (wave_frame plan) sound part earlier.scheme is_part earlier.group in
        let owner = member_is earlier.scheme need.owner solved
        (subst (λ (ns : List ℕ). Contains ns need.owner) (sym earlier.stands) (in_first earlier.before (part ∷ earlier.after) need.owner earlier.earlier)) in
        as_item (Posted w k) earlier.item
        (posted_is plan kept sides standing valid told earlier.scheme part need.owner w k is_part owner.0 earlier.group owner.1 at window iteration)

    by : (need.item ≡ Completed (w - 1)) ⊎ (IsOfEarlierNode (wave_frame plan) part w need ⊎ IsOfEarlierMember (wave_frame plan) part w k need)
        → kept_given kept need.owner need.item ≡ has_given (look_in sides) need.owner need.item
    by (inl is) = as_item (Completed (w - 1)) is (completed_is plan kept sides standing valid told need.owner (w - 1))
    by (inr (inl earlier)) = as_item (Completed w) earlier.item (completed_is plan kept sides standing valid told need.owner w)
    by (inr (inr earlier)) = of_member earlier

  -- whom a participant asks where it stands
  pub asked_is : (part : ℕ) (place : KeptPlace) → part < length plan.parts → (sides part).place ≡ place_of place
      → kept_asked_at plan kept part place ≡ asked_at (wave_frame plan) sides part (place_of place)
  asked_is part Sending is_part at = refl
  asked_is part Collecting is_part at =
      ap (λ (f : ℕ → ℕ × Bool). map f (owners_of plan part)) (fun_ext (λ owner. ap (λ (b : Bool). (owner, b)) (sent_is plan kept sides standing owner)))
  asked_is part Opening is_part at = refl
  asked_is part (Taking w k) is_part at =
      let stands = stands_at part (Taking w k) at in
      let same : map (λ (need : Need). (need.owner, kept_given kept need.owner need.item)) (needs plan part w k)
      ≡ map (λ (need : Need). (need.owner, has_given (look_in sides) need.owner need.item)) (needs plan part w k) =
      same_in _ _ (needs plan part w k) (λ need inside. ap (λ (b : Bool). (need.owner, b))
      (need_is part w k need is_part (ap turn_at at) stands.0.window (positive (wave_frame plan) (group_of plan part) k stands.0.iteration) inside)) in
      ap (λ (b : Bool). if b then map (λ (need : Need). (need.owner, kept_given kept need.owner need.item)) (needs plan part w k) else []) (there_is plan kept sides standing w)
      ∙ ap (λ (asked : List (ℕ × Bool)). if (wave_frame plan).is_there (look_in sides) w then asked else []) same
  asked_is part (Within w k) is_part at = refl
  asked_is part (Judging scheme w k) is_part at =
      let stands = stands_at part (Judging scheme w k) at in
      let solved = group_solved (wave_frame plan) sound part scheme is_part stands.0 in
      same_in _ _ (members_of plan scheme) (λ member inside.
      (let own = member_is scheme member solved inside in
      ap (λ (b : Bool). (member, b))
      (posted_is plan kept sides standing valid told scheme part member w k is_part own.0 stands.0 own.1 (ap turn_at at) stands.1.window
      (positive (wave_frame plan) (group_of plan part) k stands.1.iteration))))

  -- who cuts it, and for whom it waits
  pub search_is : (part : ℕ) (place : KeptPlace) → part < length plan.parts → (sides part).place ≡ place_of place
      → kept_search_at plan kept part place ≡ record { cut = cut_by (wave_frame plan) sides part; waits = waits_for (wave_frame plan) sides part }
  search_is part place is_part at =
      ap (λ (ended : ℕ → Bool). searched ended (kept_asked_at plan kept part place)) (fun_ext (λ p. ended_is plan kept sides standing p))
      ∙ ap (searched (λ p. has_ended (sides p))) (asked_is part place is_part at)
      ∙ ap (λ (p : Place). searched (λ q. has_ended (sides q)) (asked_at (wave_frame plan) sides part p)) (sym at)

-- where nobody is found all is granted
pub all_granted : (asked : List (ℕ × Bool)) → option_map (λ one. one.0) (find (λ one. not one.1) asked) ≡ None → list_all (λ one. one.1) asked ≡ true
all_granted [] none = refl
all_granted ((owner, true) ∷ rest) none = all_granted rest none
all_granted ((owner, false) ∷ rest) none = cc

pub not_granted : (asked : List (ℕ × Bool)) (owner : ℕ) → option_map (λ one. one.0) (find (λ one. not one.1) asked) ≡ Some owner → list_all (λ one. one.1) asked ≡ false
not_granted [] owner some = cc
not_granted ((one, true) ∷ rest) owner some = not_granted rest owner some
not_granted ((one, false) ∷ rest) owner some = refl

pub cut_found : (ended : ℕ → Bool) (asked : List (ℕ × Bool)) → is_some (option_map (λ one. one.0) (find (λ one. not one.1 && ended one.0) asked))
    ≡ list_any (λ one. not one.1 && ended one.0) asked
cut_found ended [] = refl
cut_found ended (one ∷ rest) = by (not one.1 && ended one.0) refl (cut_found ended rest) where
  by : (b : Bool) → (not one.1 && ended one.0) ≡ b
      → is_some (option_map (λ one. one.0) (find (λ one. not one.1 && ended one.0) rest)) ≡ list_any (λ one. not one.1 && ended one.0) rest
      → is_some (option_map (λ one. one.0) (find (λ one. not one.1 && ended one.0) (one ∷ rest))) ≡ list_any (λ one. not one.1 && ended one.0) (one ∷ rest)
  by true is further = rw is refl
  by false is further = rw is further
