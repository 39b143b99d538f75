-- A state behind another: whoever is not as it is there has ended here. What is granted there is granted here too, or somebody who has ended here has not given it.
use Rattle.std.proofs.Common.{◌≡◌, ℕ, ◌⊎◌, inl, inr, Bool, true, false, not, ◌&&◌, ◌||◌, if◌then◌else◌, List, [], ◌∷◌, map, Some, None, is_some, IsSome, refl, sym, ap, subst, ◌∙◌}
use Rattle.std.specs.List.{list_all, list_any}
use Rattle.std.proofs.lemmas.Bool.{and_parts}
use Rattle.std.proofs.lemmas.Option.{none-some}
use Rattle.cpl_plan.specs.declared.words.Need.{Need}
use Rattle.cpl_plan.specs.declared.words.Item.{Item}
use Rattle.cpl_plan.specs.declared.words.Item.TheVariants.{Posted}
use Rattle.coupled_loop.specs.Given.{found, has_given}
use Rattle.coupled_loop.specs.Frames.{Frame}
use Rattle.coupled_loop.specs.CoreState.{Place, sending, collecting, opening, taking, within, judging, Side, CoreState, has_ended, look_in}
use Rattle.coupled_loop.specs.CoreStep.{Act, sends_meshes, takes_meshes, posts, takes, judges, stops, lacks_memory, ends, is_cut, Reply, made_at, is_granted, is_cut_off, goes_on_at}
use Rattle.coupled_loop.specs.Settled.{Extends}
use Rattle.core_laws.proofs.Looks.{still_given}
use Rattle.core_laws.proofs.StepKinds.{if_from}

-- what is asked of owners
module _ {X : Type 0} (owner : X → ℕ) where
  abbrev pub all_given : (X → Bool) → List X → Bool
  all_given given asked = list_all (λ one. one.1) (map (λ x. let pair : ℕ × Bool = (owner x, given x) in pair) asked)

  abbrev pub some_over : (X → Bool) → (ℕ → Bool) → List X → Bool
  some_over given over asked = list_any (λ one. not one.1 && over one.0) (map (λ x. let pair : ℕ × Bool = (owner x, given x) in pair) asked)

  pub given_here : (here there : X → Bool) (over : ℕ → Bool) → ((x : X) → there x ≡ true → (here x ≡ true) ⊎ (over (owner x) ≡ true))
      → (asked : List X) → all_given there asked ≡ true → (all_given here asked ≡ true) ⊎ (some_over here over asked ≡ true)
  given_here here there over told [] all = inl refl
  given_here here there over told (x ∷ asked) all =
      let parts = and_parts (there x) (all_given there asked) all in
      by (here x) (over (owner x)) (told x parts.0) (given_here here there over told asked parts.1)
    where
      by : (h o : Bool) → (h ≡ true) ⊎ (o ≡ true) → (all_given here asked ≡ true) ⊎ (some_over here over asked ≡ true)
          → ((h && all_given here asked) ≡ true) ⊎ (((not h && o) || some_over here over asked) ≡ true)
      by true o is (inl rest) = inl rest
      by true o is (inr rest) = inr rest
      by false true is rest = inr refl
      by false false (inl e) rest = cc
      by false false (inr e) rest = cc

  pub over_here : (here there : X → Bool) (over over_there : ℕ → Bool) → ((x : X) → here x ≡ true → there x ≡ true) → ((one : ℕ) → over_there one ≡ true → over one ≡ true)
      → (asked : List X) → some_over there over_there asked ≡ true → some_over here over asked ≡ true
  over_here here there over over_there given ended [] some = some
  over_here here there over over_there given ended (x ∷ asked) some =
      by (here x) (there x) (over (owner x)) (over_there (owner x)) (given x) (ended (owner x)) (over_here here there over over_there given ended asked) some
    where
      by : (h t o p : Bool) → (h ≡ true → t ≡ true) → (p ≡ true → o ≡ true) → (some_over there over_there asked ≡ true → some_over here over asked ≡ true)
          → ((not t && p) || some_over there over_there asked) ≡ true → ((not h && o) || some_over here over asked) ≡ true
      by true true o p g e rest is = rest is
      by true false o p g e rest is = let never = g refl in cc
      by false t true p g e rest is = refl
      by false true false p g e rest is = rest is
      by false false false true g e rest is = let never = e refl in cc
      by false false false false g e rest is = rest is

some_if : {X : Type 0} (b : Bool) (x : X) → b ≡ true → IsSome (if b then Some x else None)
some_if b x e = ap (λ (c : Bool). is_some (if c then Some x else None)) e

some_or_off : {X : Type 0} (b : Bool) (x : X) {off : Bool} → (b ≡ true) ⊎ (off ≡ true) → IsSome (if b then Some x else None) ⊎ (off ≡ true)
some_or_off b x (inl is) = inl (some_if b x is)
some_or_off b x (inr is) = inr is

pub both : (a b : Bool) → a ≡ true → b ≡ true → (a && b) ≡ true
both a b e f = rw (e, f) refl

module _ {Mesh Post Fault : Type 0} where
  pub record IsBehind (here there : CoreState Mesh Post Fault) : Type 0 where
    pub extends : Extends (look_in here) (look_in there)
    pub sent : (other : ℕ) → IsSome (here other).sent → IsSome (there other).sent
    pub same : (other : ℕ) → (here other ≡ there other) ⊎ (has_ended (here other) ≡ true)

  module _ (here there : CoreState Mesh Post Fault) (behind : IsBehind here there) where
    ended_here : (other : ℕ) → has_ended (there other) ≡ true → has_ended (here other) ≡ true
    ended_here other ended = by (behind.same other)
      where
        by : (here other ≡ there other) ⊎ (has_ended (here other) ≡ true) → has_ended (here other) ≡ true
        by (inl e) = ap (λ (side : Side Mesh Post Fault). has_ended side) e ∙ ended
        by (inr e) = e

    -- what is there is here, or its owner has ended here
    has_here : (other : ℕ) (item : Item) → has_given (look_in there) other item ≡ true → (has_given (look_in here) other item ≡ true) ⊎ (has_ended (here other) ≡ true)
    has_here other item is = by (behind.same other)
      where
        by : (here other ≡ there other) ⊎ (has_ended (here other) ≡ true) → (has_given (look_in here) other item ≡ true) ⊎ (has_ended (here other) ≡ true)
        by (inl e) = inl (ap (λ (side : Side Mesh Post Fault). is_some (found side.given item)) e ∙ is)
        by (inr e) = inr e

    sent_here : (other : ℕ) → is_some (there other).sent ≡ true → (is_some (here other).sent ≡ true) ⊎ (has_ended (here other) ≡ true)
    sent_here other is = by (behind.same other)
      where
        by : (here other ≡ there other) ⊎ (has_ended (here other) ≡ true) → (is_some (here other).sent ≡ true) ⊎ (has_ended (here other) ≡ true)
        by (inl e) = inl (ap (λ (side : Side Mesh Post Fault). is_some side.sent) e ∙ is)
        by (inr e) = inr e

    has_there : (other : ℕ) (item : Item) → has_given (look_in here) other item ≡ true → has_given (look_in there) other item ≡ true
    has_there other item is = still_given (look_in here) (look_in there) other item behind.extends is

    module _ {Inputs : Type 0} (frame : Frame Post Inputs Fault) (part : ℕ) where
      -- the window of a place is there as it is here
      abbrev pub IsTold : Place → Type 0
      IsTold (taking w k) = frame.is_there (look_in here) w ≡ frame.is_there (look_in there) w
      IsTold _ = Unit {0}

      -- what is needed, as it is given in a state
      abbrev asked_in : CoreState Mesh Post Fault → (w k : ℕ) → List (ℕ × Bool)
      asked_in sides w k = map (λ need. (need.owner, has_given (look_in sides) need.owner need.item)) (frame.needs part w k)

      abbrev given_in : CoreState Mesh Post Fault → Bool → (w k : ℕ) → Bool
      given_in sides there w k = list_all (λ (one : ℕ × Bool). one.1) (if there then asked_in sides w k else [])

      abbrev over_in : CoreState Mesh Post Fault → Bool → (w k : ℕ) → Bool
      over_in sides there w k = list_any (λ (one : ℕ × Bool). not one.1 && has_ended (sides one.0)) (if there then asked_in sides w k else [])

      given_in_here : (w k : ℕ) (b : Bool) → given_in there b w k ≡ true → (given_in here b w k ≡ true) ⊎ (over_in here b w k ≡ true)
      given_in_here w k true all =
          given_here (λ (need : Need). need.owner) (λ need. has_given (look_in here) need.owner need.item) (λ need. has_given (look_in there) need.owner need.item)
          (λ one. has_ended (here one)) (λ need. has_here need.owner need.item) (frame.needs part w k) all
      given_in_here w k false all = inl refl

      over_in_here : (w k : ℕ) (b : Bool) → over_in there b w k ≡ true → over_in here b w k ≡ true
      over_in_here w k true some =
          over_here (λ (need : Need). need.owner) (λ need. has_given (look_in here) need.owner need.item) (λ need. has_given (look_in there) need.owner need.item)
          (λ one. has_ended (here one)) (λ one. has_ended (there one)) (λ need. has_there need.owner need.item) ended_here (frame.needs part w k) some
      over_in_here w k false some = some

      -- what is granted there is granted here, or its owner has ended before giving it
      pub granted_here : (place : Place) → IsTold place → is_granted frame there part place ≡ true
          → (is_granted frame here part place ≡ true) ⊎ (is_cut_off frame here part place ≡ true)
      granted_here sending told all = inl refl
      granted_here collecting told all =
          given_here (λ (owner : ℕ). owner) (λ owner. is_some (here owner).sent) (λ owner. is_some (there owner).sent) (λ one. has_ended (here one)) sent_here (frame.owners part) all
      granted_here opening told all = inl refl
      granted_here (taking w k) told all =
          given_in_here w k (frame.is_there (look_in here) w) (subst (λ (b : Bool). given_in there b w k ≡ true) (sym told) all)
      granted_here (within w k) told all = inl refl
      granted_here (judging scheme w k) told all =
          given_here (λ (member : ℕ). member) (λ member. has_given (look_in here) member (Posted w k)) (λ member. has_given (look_in there) member (Posted w k))
          (λ one. has_ended (here one)) (λ member. has_here member (Posted w k)) (frame.members scheme) all

      -- who is cut off there is cut off here
      pub off_here : (place : Place) → IsTold place → is_cut_off frame there part place ≡ true → is_cut_off frame here part place ≡ true
      off_here sending told some = some
      off_here collecting told some =
          over_here (λ (owner : ℕ). owner) (λ owner. is_some (here owner).sent) (λ owner. is_some (there owner).sent) (λ one. has_ended (here one)) (λ one. has_ended (there one))
          behind.sent ended_here (frame.owners part) some
      off_here opening told some = some
      off_here (taking w k) told some =
          over_in_here w k (frame.is_there (look_in here) w) (subst (λ (b : Bool). over_in there b w k ≡ true) (sym told) some)
      off_here (within w k) told some = some
      off_here (judging scheme w k) told some =
          over_here (λ (member : ℕ). member) (λ member. has_given (look_in here) member (Posted w k)) (λ member. has_given (look_in there) member (Posted w k))
          (λ one. has_ended (here one)) (λ one. has_ended (there one)) (λ member. has_there member (Posted w k)) ended_here (frame.members scheme) some

      pub cut_made : (place : Place) → is_cut_off frame here part place ≡ true → IsSome (made_at frame here part place is_cut)
      cut_made sending off = cc
      cut_made collecting off = some_if _ _ off
      cut_made opening off = cc
      cut_made (taking w k) off = some_if _ _ off
      cut_made (within w k) off = cc
      cut_made (judging scheme w k) off = some_if _ _ off

      pub was_off : (place : Place) (made : Reply Mesh Inputs Fault × Side Mesh Post Fault) → made_at frame there part place is_cut ≡ Some made → is_cut_off frame there part place ≡ true
      was_off sending made e = absurd (none-some made e)
      was_off collecting made e = (if_from _ _ made e).0
      was_off opening made e = absurd (none-some made e)
      was_off (taking w k) made e = (if_from _ _ made e).0
      was_off (within w k) made e = absurd (none-some made e)
      was_off (judging scheme w k) made e = (if_from _ _ made e).0

      -- who goes on there goes on here, or is cut off
      pub made_here : (place : Place) (act : Act Mesh Post Fault) (made : Reply Mesh Inputs Fault × Side Mesh Post Fault) → IsTold place
          → made_at frame there part place act ≡ Some made → IsSome (made_at frame here part place act) ⊎ (is_cut_off frame here part place ≡ true)
      made_here sending (sends_meshes own) made told e = inl refl
      made_here collecting takes_meshes made told e = some_or_off _ _ (granted_here collecting told (if_from _ _ made e).0)
      made_here opening (posts post) made told e = inl refl
      made_here (taking w k) takes made told e =
          let parts = and_parts (goes_on_at frame there part (taking w k)) (is_granted frame there part (taking w k)) (if_from _ _ made e).0 in
          by (told ∙ parts.0) (granted_here (taking w k) told parts.1)
        where
          by : frame.is_there (look_in here) w ≡ true → (is_granted frame here part (taking w k) ≡ true) ⊎ (is_cut_off frame here part (taking w k) ≡ true)
              → IsSome (made_at frame here part (taking w k) takes) ⊎ (is_cut_off frame here part (taking w k) ≡ true)
          by is (inl all) = inl (some_if _ _ (both _ _ is all))
          by is (inr off) = inr off
      made_here (within w k) (posts post) made told e = inl refl
      made_here (judging scheme w k) judges made told e = some_or_off _ _ (granted_here (judging scheme w k) told (if_from _ _ made e).0)
      made_here sending (stops fault) made told e = inl refl
      made_here collecting (stops fault) made told e = inl refl
      made_here opening (stops fault) made told e = inl refl
      made_here (taking w k) (stops fault) made told e = inl refl
      made_here (within w k) (stops fault) made told e = inl refl
      made_here (judging scheme w k) (stops fault) made told e = inl refl
      made_here place lacks_memory made told e = inl refl
      made_here place ends made told e = inl refl
      made_here place is_cut made told e = inr (off_here place told (was_off place made e))
      made_here place act made told e = absurd (none-some made e)
