-- An event that is no cut depends on others by what they have given and sent alone.
use Rattle.std.proofs.Common.{◌≡◌, ℕ, ◌⊎◌, inl, inr, if◌then◌else◌, List, Option, None, refl, sym, ap, ◌∙◌}
use Rattle.coupled_loop.specs.Endings.{Ending}
use Rattle.coupled_loop.specs.Given.{Gift, found}
use Rattle.coupled_loop.specs.Frames.{Frame}
use Rattle.coupled_loop.specs.CoreState.{Place, sending, collecting, opening, taking, within, judging, CoreState, has_ended, look_in}
use Rattle.coupled_loop.specs.CoreStep.{Act, is_cut, core_step, made_at}

module _ {Mesh Post Fault : Type 0} where
  -- all stand where one stands, each with what it has given and sent
  abbrev pub as_one : Place → Option (Ending Fault) → (ℕ → Option Mesh) → (ℕ → List (Gift Post)) → CoreState Mesh Post Fault
  as_one place ending sent given other = record { place = place; ending = ending; sent = sent other; given = given other }

  abbrev pub as_it : CoreState Mesh Post Fault → (part : ℕ) → CoreState Mesh Post Fault
  as_it sides part = as_one (sides part).place (sides part).ending (λ other. (sides other).sent) (λ other. (sides other).given)

  -- what others have given and sent is the same, and so is the participant
  pub record AreSame (sides beside : CoreState Mesh Post Fault) (part : ℕ) : Type 0 where
    pub sent : (other : ℕ) → (sides other).sent ≡ (beside other).sent
    pub given : (other : ℕ) → (sides other).given ≡ (beside other).given
    pub side : sides part ≡ beside part

  same_as : (sides beside : CoreState Mesh Post Fault) (part : ℕ) → AreSame sides beside part → as_it sides part ≡ as_it beside part
  same_as sides beside part same =
      λ i other. record { place = (same.side i).place; ending = (same.side i).ending; sent = same.sent other i; given = same.given other i }

  pub same_look : (sides beside : CoreState Mesh Post Fault) → ((other : ℕ) → (sides other).given ≡ (beside other).given) → look_in sides ≡ look_in beside
  same_look sides beside same = λ i other item. found (same other i) item

module _ {Mesh Post Inputs Fault : Type 0} (frame : Frame Post Inputs Fault) where
  made_as : (sides : CoreState Mesh Post Fault) (part : ℕ) (place : Place) (act : Act Mesh Post Fault) → ¬ (act ≡ is_cut)
      → made_at frame sides part place act ≡ made_at frame (as_it sides part) part place act
  made_as sides part sending is_cut own = absurd (own refl)
  made_as sides part collecting is_cut own = absurd (own refl)
  made_as sides part opening is_cut own = absurd (own refl)
  made_as sides part (taking w k) is_cut own = absurd (own refl)
  made_as sides part (within w k) is_cut own = absurd (own refl)
  made_as sides part (judging scheme w k) is_cut own = absurd (own refl)
  made_as sides part place act own = refl

  step_as : (sides : CoreState Mesh Post Fault) (part : ℕ) (act : Act Mesh Post Fault) → ¬ (act ≡ is_cut)
      → core_step frame sides part act ≡ core_step frame (as_it sides part) part act
  step_as sides part act own = ap (λ o. if has_ended (sides part) then None else o) (made_as sides part (sides part).place act own)

  pub same_step : (sides beside : CoreState Mesh Post Fault) (part : ℕ) (act : Act Mesh Post Fault) → ¬ (act ≡ is_cut) → AreSame sides beside part
      → core_step frame sides part act ≡ core_step frame beside part act
  same_step sides beside part act own same =
      step_as sides part act own ∙ (ap (λ (s : CoreState Mesh Post Fault). core_step frame s part act) (same_as sides beside part same) ∙ sym (step_as beside part act own))

pub is_cut_or_own : {Mesh Post Fault : Type 0} (act : Act Mesh Post Fault) → (act ≡ is_cut) ⊎ (¬ (act ≡ is_cut))
is_cut_or_own is_cut = inl refl
is_cut_or_own act = inr (λ e. cc)
