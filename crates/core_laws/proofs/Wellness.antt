-- The core's invariant: it holds where nothing has happened, and each event keeps it.
use Rattle.std.proofs.Common.{◌≡◌, ℕ, ◌<◌, inl, inr, Some, refl, sym, ap, subst}
use Rattle.coupled_loop.specs.Numbered.{put}
use Rattle.std.proofs.lemmas.Bool.{cases_eq}
use Rattle.coupled_loop.specs.Given.{found}
use Rattle.coupled_loop.specs.Frames.{Frame}
use Rattle.coupled_loop.specs.CoreState.{Side, CoreState, look_in}
use Rattle.coupled_loop.specs.CoreStep.{Act, Reply, core_step}
use Rattle.coupled_loop.specs.LegalHistory.{opening_state}
use Rattle.coupled_loop.specs.Settled.{Extends, IsInOrder, IsSettled}
use Rattle.core_laws.proofs.Sound.{IsSound}
use Rattle.core_laws.proofs.Well.{Stands, Unsent, IsWell}
use Rattle.core_laws.proofs.Puts.{put_same, put_other}
use Rattle.core_laws.proofs.GiftOrders.{IsGivenInOrder}
use Rattle.core_laws.proofs.KeptPlaces.{stands_kept}
use Rattle.core_laws.proofs.Steps.{made_by}
use Rattle.core_laws.proofs.GoodSteps.{IsGoodStep, good_step}
use Rattle.core_laws.proofs.Growth.{step_extends}

module _ {Mesh Post Fault : Type 0} (sides : CoreState Mesh Post Fault) where
  -- all are in order if each is
  pub each_in_order : ((part : ℕ) → IsGivenInOrder (sides part).given) → IsInOrder (look_in sides)
  each_in_order each = record {
    windows = λ part w is. (each part).windows w is;
    turns = λ part w k is. (each part).turns w k is;
    iterations = λ part w k is. (each part).iterations w k is;
  }

  pub one_in_order : IsInOrder (look_in sides) → (part : ℕ) → IsGivenInOrder (sides part).given
  one_in_order order part = record {
    windows = λ w is. order.windows part w is;
    turns = λ w k is. order.turns part w k is;
    iterations = λ w k is. order.iterations part w k is;
  }

-- what holds of the new side and of all others holds of each
pub put_each : {X : Type 0} (Holds : ℕ → X → Type 0) (state : ℕ → X) (part : ℕ) (side : X) → Holds part side
    → ((one : ℕ) → ¬ (one ≡ part) → Holds one (state one)) → (one : ℕ) → Holds one (put state part side one)
put_each {X} Holds state part side here there one = elim (cases_eq one part) [
  | inl same ↦ subst (λ (u : ℕ). Holds u (put state part side u)) (sym same) (subst (λ (x : X). Holds part x) (sym (put_same state part side)) here)
  | inr apart ↦ subst (λ (x : X). Holds one x) (sym (put_other state part side one apart)) (there one apart)
]

module _ {Mesh Post Inputs Fault : Type 0} (frame : Frame Post Inputs Fault) where
  pub opening_well : IsWell frame {Mesh = Mesh} opening_state
  opening_well = record {
    in_order = record {
      windows = λ part w is. cc;
      turns = λ part w k is. (cc, cc, cc);
      iterations = λ part w k is. cc;
    };
    stands = λ part. refl;
    unsent = λ part. refl;
  }

  module _ (sound : IsSound frame) (settled : IsSettled frame) (sides : CoreState Mesh Post Fault) (part : ℕ) where
    -- the participant that makes an event
    pub step_good : (act : Act Mesh Post Fault) (reply : Reply Mesh Inputs Fault) (side : Side Mesh Post Fault)
        → part < frame.parts → IsWell frame sides → core_step frame sides part act ≡ Some (reply, side) → IsGoodStep frame sides part side
    step_good act reply side is_part well made =
        good_step frame sides part sound settled is_part (one_in_order sides well.in_order part) (sides part).place refl (well.stands part) (well.unsent part)
        act reply side (made_by frame sides part act (reply, side) made).1

    pub step_well : (act : Act Mesh Post Fault) (reply : Reply Mesh Inputs Fault) (side : Side Mesh Post Fault)
        → part < frame.parts → IsWell frame sides → core_step frame sides part act ≡ Some (reply, side) → IsWell frame (put sides part side)
    step_well act reply side is_part well made = record {
      in_order = order;
      stands = put_each (λ one (s : Side Mesh Post Fault). Stands frame (look_in now) one s.place s.given) sides part side
          (good.move.stands (look_in now) (λ item. ap (λ (s : Side Mesh Post Fault). found s.given item) (put_same sides part side)) extends order)
          (λ one apart. stands_kept frame (look_in sides) (look_in now) extends order one
          (λ item. ap (λ (s : Side Mesh Post Fault). found s.given item) (put_other sides part side one apart))
          (sides one).place (sides one).given (well.stands one));
      unsent = put_each (λ one (s : Side Mesh Post Fault). Unsent frame s.place s.sent) sides part side good.unsent (λ one apart. well.unsent one);
    } where
      now : CoreState Mesh Post Fault
      now = put sides part side

      good : IsGoodStep frame sides part side
      good = step_good act reply side is_part well made

      extends : Extends (look_in sides) (look_in (put sides part side))
      extends = step_extends frame sides part act reply side made

      order : IsInOrder (look_in (put sides part side))
      order = each_in_order (put sides part side) (put_each (λ one (s : Side Mesh Post Fault). IsGivenInOrder s.given) sides part side good.move.order
          (λ one apart. one_in_order sides well.in_order one))
