-- One event of the core, taken apart: what it leaves of the participant that makes it.
use Rattle.std.proofs.Common.{◌≡◌, ℕ, suc, ◌<◌, Bool, true, false, if◌then◌else◌, ◌⊎◌, inl, inr, List, [], map, Some, None, IsSome, IsTrue, refl, sym, ap, subst, ◌∙◌, arith, Contains}
use Rattle.std.specs.List.{list_all}
use Rattle.std.proofs.lemmas.Bool.{cases_order}
use Rattle.std.proofs.lemmas.List.Folds.{list_all-map, list_all_at}
use Rattle.cpl_plan.specs.declared.words.Need.{Need}
use Rattle.cpl_plan.specs.declared.words.Item.TheVariants.{Posted}
use Rattle.coupled_loop.specs.Given.{has_given}
use Rattle.coupled_loop.specs.Frames.{Frame}
use Rattle.coupled_loop.specs.CoreState.{taking, judging, Side, CoreState, has_ended, look_in}
use Rattle.coupled_loop.specs.CoreStep.{Act, Reply, is_granted, made_at, core_step}
use Rattle.coupled_loop.specs.Settled.{AreNeedsGiven, HavePostedBelow}

-- what is told by a test that all pass
pub all_tell : {X : Type 0} (test : X → Bool) (xs : List X) (x : X) → list_all test xs ≡ true → Contains xs x → test x ≡ true
all_tell {X} test xs x all among = by (test x) refl where
  by : (b : Bool) → test x ≡ b → b ≡ true
  by true e = refl
  by false e =
      let fails : list_all test xs ≡ false = list_all_at test xs among.0 x among.1 (ap test among.2 ∙ e) in cc

pub some_same : {X : Type 0} (x y : X) → Some x ≡ Some y → x ≡ y
some_same x y e = cc

-- what is behind a test
pub guarded : {X : Type 0} (b : Bool) (x y : X) → (if b then Some x else None) ≡ Some y → (b ≡ true) × (x ≡ y)
guarded true x y e = (refl, some_same x y e)
guarded false x y e = cc

module _ {Mesh Post Inputs Fault : Type 0} (frame : Frame Post Inputs Fault) (sides : CoreState Mesh Post Fault) (part : ℕ) where
  -- who makes an event has not ended
  pub made_by : (act : Act Mesh Post Fault) (made : Reply Mesh Inputs Fault × Side Mesh Post Fault) → core_step frame sides part act ≡ Some made
      → (has_ended (sides part) ≡ false) × (made_at frame sides part (sides part).place act ≡ Some made)
  made_by act made e = by (has_ended (sides part)) refl e where
    by : (b : Bool) → has_ended (sides part) ≡ b → (if b then None else made_at frame sides part (sides part).place act) ≡ Some made
        → (has_ended (sides part) ≡ false) × (made_at frame sides part (sides part).place act ≡ Some made)
    by false ended is = (ended, is)
    by true ended is = cc

  -- what is needed is given
  pub needs_told : (w k : ℕ) → IsTrue (frame.is_there (look_in sides) w) → is_granted frame sides part (taking w k) ≡ true
      → AreNeedsGiven frame (look_in sides) part w k
  needs_told w k there granted need among =
      all_tell (λ (one : Need). has_given (look_in sides) one.owner one.item) (frame.needs part w k) need
      (sym (list_all-map (λ (asked : ℕ × Bool). asked.1) (λ (one : Need). (one.owner, has_given (look_in sides) one.owner one.item)) (frame.needs part w k))
      ∙ by (frame.is_there (look_in sides) w) there granted) among where
        asked : List (ℕ × Bool)
        asked = map (λ need. (need.owner, has_given (look_in sides) need.owner need.item)) (frame.needs part w k)

        by : (b : Bool) → b ≡ true → list_all (λ (one : ℕ × Bool). one.1) (if b then asked else []) ≡ true
            → list_all (λ (one : ℕ × Bool). one.1) asked ≡ true
        by true is all = all
        by false is all = cc

  -- all members have posted
  pub members_told : (scheme w k : ℕ) → is_granted frame sides part (judging scheme w k) ≡ true
      → (member : ℕ) → Contains (frame.members scheme) member → IsSome (look_in sides member (Posted w k))
  members_told scheme w k granted member among =
      all_tell (λ (one : ℕ). has_given (look_in sides) one (Posted w k)) (frame.members scheme) member
      (sym (list_all-map (λ (asked : ℕ × Bool). asked.1) (λ (one : ℕ). (one, has_given (look_in sides) one (Posted w k))) (frame.members scheme)) ∙ granted) among

  -- and so the iterations up to this one
  pub posted_up_to : (scheme w k : ℕ) → is_granted frame sides part (judging scheme w k) ≡ true
      → HavePostedBelow frame (look_in sides) scheme w k → HavePostedBelow frame (look_in sides) scheme w (suc k)
  posted_up_to scheme w k granted have member j among from below = by (cases_order j k) where
    by : (j ≡ k) ⊎ ((j < k) ⊎ (k < j)) → IsSome (look_in sides member (Posted w j))
    by (inl same) = subst (λ (u : ℕ). IsSome (look_in sides member (Posted w u))) (sym same) (members_told scheme w k granted member among)
    by (inr (inl less)) = have member j among from less
    by (inr (inr more)) = let never : ⊥ = omega arith in absurd never
