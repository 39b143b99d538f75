-- A later state, in which one participant stands as before: what it asks for stays granted, or stays cut off.
use Rattle.std.proofs.Common.{◌≡◌, ℕ, Bool, true, false, not, ◌&&◌, ◌||◌, if◌then◌else◌, ◌⊎◌, inl, inr, List, [], ◌∷◌, map, filter_map, Option, is_some, refl, sym, ap, subst, ◌∙◌}
use Rattle.std.specs.List.{list_all, list_any}
use Rattle.std.proofs.lemmas.Bool.{and_parts, and_from, or_cases}
use Rattle.cpl_plan.specs.declared.words.Need.{Need}
use Rattle.cpl_plan.specs.declared.words.Item.{Item}
use Rattle.cpl_plan.specs.declared.words.Item.TheVariants.{Posted}
use Rattle.coupled_loop.specs.Given.{Gift, Look, found, has_given}
use Rattle.coupled_loop.specs.Frames.{Frame}
use Rattle.coupled_loop.specs.CoreState.{Place, sending, collecting, opening, taking, within, judging, Side, CoreState, has_ended, look_in}
use Rattle.coupled_loop.specs.CoreStep.{asked_at, is_granted, is_cut_off}
use Rattle.coupled_loop.specs.Settled.{Extends, IsInOrder}
use Rattle.core_laws.proofs.Looks.{still_given}
use Rattle.core_laws.proofs.Well.{IsDecided, Stands}

-- tests over lists that were made item by item
module _ {X Y : Type 0} (test later : Y → Bool) (made now : X → Y) (more : (x : X) → test (made x) ≡ true → later (now x) ≡ true) where
  pub all_stays : (xs : List X) → list_all test (map made xs) ≡ true → list_all later (map now xs) ≡ true
  all_stays [] all = refl
  all_stays (x ∷ xs) all =
      let both = and_parts (test (made x)) (list_all test (map made xs)) all in
      and_from (later (now x)) (list_all later (map now xs)) (more x both.0) (all_stays xs both.1)

  pub any_stays : (xs : List X) → list_any test (map made xs) ≡ true → list_any later (map now xs) ≡ true
  any_stays [] any = any
  any_stays (x ∷ xs) any = by (or_cases (test (made x)) (list_any test (map made xs)) any) (any_stays xs) where
    by : (test (made x) ≡ true) ⊎ (list_any test (map made xs) ≡ true) → (list_any test (map made xs) ≡ true → list_any later (map now xs) ≡ true)
        → (later (now x) || list_any later (map now xs)) ≡ true
    by (inl here) further = rw (more x here) refl
    by (inr there) further = elim (later (now x)) as (λ b. (b || list_any later (map now xs)) ≡ true) [ true ↦ refl | false ↦ further there ]

-- whoever is cut off is not granted
pub any_blocks : (ended : ℕ → Bool) (xs : List (ℕ × Bool)) → list_any (λ asked. not asked.1 && ended asked.0) xs ≡ true → list_all (λ (asked : ℕ × Bool). asked.1) xs ≡ false
any_blocks ended [] any = cc
any_blocks ended (x ∷ xs) any = by x.1 any (any_blocks ended xs) where
  by : (b : Bool) → ((not b && ended x.0) || list_any (λ (asked : ℕ × Bool). not asked.1 && ended asked.0) xs) ≡ true
      → (list_any (λ (asked : ℕ × Bool). not asked.1 && ended asked.0) xs ≡ true → list_all (λ (asked : ℕ × Bool). asked.1) xs ≡ false)
      → (b && list_all (λ (asked : ℕ × Bool). asked.1) xs) ≡ false
  by true is further = further is
  by false is further = refl

-- what was there in each is the same
pub filtered_stays : {X Y : Type 0} (name : X → ℕ) (made now : X → Option Y) → ((x : X) → is_some (made x) ≡ true → now x ≡ made x)
    → (xs : List X) → list_all (λ (asked : ℕ × Bool). asked.1) (map (λ x. (name x, is_some (made x))) xs) ≡ true → filter_map now xs ≡ filter_map made xs
filtered_stays name made now same [] all = refl
filtered_stays {X} {Y} name made now same (x ∷ xs) all =
    let both = and_parts (is_some (made x)) (list_all (λ (asked : ℕ × Bool). asked.1) (map (λ (u : X). (name u, is_some (made u))) xs)) all in
    rw (same x both.0, filtered_stays name made now same xs both.1) refl

module _ {Mesh Post : Type 0} {Fault : Type 0} (sides now : CoreState Mesh Post Fault) (part : ℕ) where
  -- others have gone on: what was given and sent stays, and who has ended is as it was
  pub record IsLater : Type 0 where
    pub own : now part ≡ sides part
    pub extends : Extends (look_in sides) (look_in now)
    pub before : IsInOrder (look_in sides)
    pub after : IsInOrder (look_in now)
    pub sent : (one : ℕ) → is_some (sides one).sent ≡ true → (now one).sent ≡ (sides one).sent
    pub ended : (one : ℕ) → has_ended (sides one) ≡ true → now one ≡ sides one

  module _ {Inputs : Type 0} (frame : Frame Post Inputs Fault) (later : IsLater) where
    pub there_same : (w : ℕ) → IsDecided frame (look_in sides) w → frame.is_there (look_in sides) w ≡ frame.is_there (look_in now) w
    there_same w decided = decided (look_in now) later.extends later.after

    -- what is given stays given
    given_stays : (owner : ℕ) (item : Item) → has_given (look_in sides) owner item ≡ true → has_given (look_in now) owner item ≡ true
    given_stays owner item is = still_given (look_in sides) (look_in now) owner item later.extends is

    sent_stays : (owner : ℕ) → is_some (sides owner).sent ≡ true → is_some (now owner).sent ≡ true
    sent_stays owner is = ap is_some (later.sent owner is) ∙ is

    pub granted_stays : (place : Place) (given : List (Gift Post)) → Stands frame (look_in sides) part place given
        → is_granted frame sides part place ≡ true → is_granted frame now part place ≡ true
    granted_stays sending given stands is = refl
    granted_stays collecting given stands is = all_stays (λ (asked : ℕ × Bool). asked.1) (λ asked. asked.1)
        (λ owner. (owner, is_some (sides owner).sent)) (λ owner. (owner, is_some (now owner).sent)) sent_stays (frame.owners part) is
    granted_stays opening given stands is = refl
    granted_stays (taking w k) given stands is = by (frame.is_there (look_in sides) w) (frame.is_there (look_in now) w) (there_same w stands.0.decided) is where
      asked : Look Post → Need → ℕ × Bool
      asked f need = (need.owner, has_given f need.owner need.item)

      by : (b c : Bool) → b ≡ c → list_all (λ (one : ℕ × Bool). one.1) (if b then map (asked (look_in sides)) (frame.needs part w k) else []) ≡ true
          → list_all (λ (one : ℕ × Bool). one.1) (if c then map (asked (look_in now)) (frame.needs part w k) else []) ≡ true
      by true true e all = all_stays (λ (one : ℕ × Bool). one.1) (λ one. one.1) (asked (look_in sides)) (asked (look_in now))
          (λ need. given_stays need.owner need.item) (frame.needs part w k) all
      by true false e all = refl
      by false true e all = cc
      by false false e all = refl
    granted_stays (within w k) given stands is = refl
    granted_stays (judging scheme w k) given stands is = all_stays (λ (asked : ℕ × Bool). asked.1) (λ asked. asked.1)
        (λ member. (member, has_given (look_in sides) member (Posted w k))) (λ member. (member, has_given (look_in now) member (Posted w k)))
        (λ member. given_stays member (Posted w k)) (frame.members scheme) is

    -- a test of one that has not given and has ended is the same later
    missing_stays : (test : Side Mesh Post Fault → Bool) (owner : ℕ) → (test (sides owner) && has_ended (sides owner)) ≡ true
        → (test (now owner) && has_ended (now owner)) ≡ true
    missing_stays test owner is =
        let both = and_parts (test (sides owner)) (has_ended (sides owner)) is in
        subst (λ (s : Side Mesh Post Fault). (test s && has_ended s) ≡ true) (sym (later.ended owner both.1)) is

    pub cut_stays : (place : Place) (given : List (Gift Post)) → Stands frame (look_in sides) part place given
        → is_cut_off frame sides part place ≡ true → is_cut_off frame now part place ≡ true
    cut_stays sending given stands is = is
    cut_stays collecting given stands is = any_stays (λ (asked : ℕ × Bool). not asked.1 && has_ended (sides asked.0)) (λ asked. not asked.1 && has_ended (now asked.0))
        (λ owner. (owner, is_some (sides owner).sent)) (λ owner. (owner, is_some (now owner).sent))
        (missing_stays (λ s. not (is_some s.sent))) (frame.owners part) is
    cut_stays opening given stands is = is
    cut_stays (taking w k) given stands is = by (frame.is_there (look_in sides) w) (frame.is_there (look_in now) w) (there_same w stands.0.decided) is where
      asked : Look Post → Need → ℕ × Bool
      asked f need = (need.owner, has_given f need.owner need.item)

      by : (b c : Bool) → b ≡ c
          → list_any (λ (one : ℕ × Bool). not one.1 && has_ended (sides one.0)) (if b then map (asked (look_in sides)) (frame.needs part w k) else []) ≡ true
          → list_any (λ (one : ℕ × Bool). not one.1 && has_ended (now one.0)) (if c then map (asked (look_in now)) (frame.needs part w k) else []) ≡ true
      by true true e any = any_stays (λ (one : ℕ × Bool). not one.1 && has_ended (sides one.0)) (λ one. not one.1 && has_ended (now one.0))
          (asked (look_in sides)) (asked (look_in now)) (λ need. missing_stays (λ s. not (is_some (found s.given need.item))) need.owner) (frame.needs part w k) any
      by true false e any = cc
      by false true e any = cc
      by false false e any = cc
    cut_stays (within w k) given stands is = is
    cut_stays (judging scheme w k) given stands is =
        any_stays (λ (asked : ℕ × Bool). not asked.1 && has_ended (sides asked.0)) (λ asked. not asked.1 && has_ended (now asked.0))
        (λ member. (member, has_given (look_in sides) member (Posted w k))) (λ member. (member, has_given (look_in now) member (Posted w k)))
        (missing_stays (λ s. not (is_some (found s.given (Posted w k))))) (frame.members scheme) is

    -- who is cut off later is not granted
    pub cut_blocks : (place : Place) → is_cut_off frame now part place ≡ true → is_granted frame now part place ≡ false
    cut_blocks place is = any_blocks (λ one. has_ended (now one)) (asked_at frame now part place) is
