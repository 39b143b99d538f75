-- What is read in a turn by what is kept of the exchanges that are received is what is read of the plan.
use Rattle.std.proofs.Common.{◌≡◌, ℕ, List, [], ◌∷◌, map, zip, slice_get, Option, Some, Result, Ok, Err, All, refl, ap, sym, ◌∙◌}
use Rattle.std.proofs.lemmas.List.Elements.{All-head, All-tail}
use Rattle.cpl_plan.specs.declared.parts.PlanParts.{PlanParts}
use Rattle.cpl_plan.specs.declared.parts.Exchange.{Exchange}
use Rattle.cpl_plan.specs.declared.words.Fault.{Fault}
use Rattle.cpl_plan.proofs.Readings.{there}
use Rattle.core_sides.specs.declared.event.Input.{Input}
use Rattle.wave_coupling.specs.Posts.{Wave}
use Rattle.wave_coupling.specs.InputWave.{InputWave}
use Rattle.wave_coupling.specs.Mapped.{OutOfRange, all_or_first, before_all}
use Rattle.wave_coupling.specs.Known.{Known}
use Rattle.wave_coupling.specs.MappedInputs.{mapped_inputs, read_wave, with_wave}
use Rattle.participant_words.specs.Begun.{input_wave_of}
use Rattle.participant_waves.specs.Passages.{through}
use Rattle.participant_waves.specs.TakingKept.{TakingKept, TakesKept}
use Rattle.participant_waves.specs.declared.no_waves.NoTake.{NoTake}
use Rattle.participant_waves.specs.declared.no_waves.NoTake.TheVariants.{Overflow, Memory}
use Rattle.participant_waves.specs.Refusals.{IsNoTake}
use Rattle.participant_waves.specs.TakesStand.{IsTaking, AreTakes}
use Rattle.participant_waves.specs.TakenWaves.{taken_or_fault, wave_taken, waves_taken, with_waves}

-- the inputs with the waves that were taken, or the fault
abbrev pub lifted : List Input → Result (List Wave) (Option Fault) → Result (List InputWave) (Option Fault)
lifted inputs (Ok waves) = Ok (with_waves inputs waves)
lifted inputs (Err why) = Err why

module _ (plan : PlanParts) (part : ℕ) (known : Known) (w k : ℕ) where
  one_more : (x : ℕ) (input : Input) (inputs : List Input) (result : Result Wave OutOfRange) (rest : Result (List Wave) (Option Fault))
      → before_all (with_wave plan part w k x (input_wave_of input) result) (lifted inputs rest) ≡ lifted (input ∷ inputs) (before_all (taken_or_fault part w k x result) rest)
  one_more x input inputs (Ok wave) (Ok waves) = refl
  one_more x input inputs (Ok wave) (Err why) = refl
  one_more x input inputs (Err at) rest = refl

  one_is : (t : TakingKept) → IsTaking plan part known t → (input : InputWave)
      → read_wave plan part known w k t.exchange (slice_get plan.exchanges t.exchange) input ≡ with_wave plan part w k t.exchange input (through t.map input.wave)
  one_is t is input =
      let found : (e : Exchange) × (slice_get plan.exchanges t.exchange ≡ Some e) = there plan.exchanges t.exchange is.there in
      ap (λ (o : Option Exchange). read_wave plan part known w k t.exchange o input) found.1
      ∙ ap (with_wave plan part w k t.exchange input) (is.mapped found.0 found.1 input.wave)

  all_are : (ts : List TakingKept) (inputs : List Input) → All (IsTaking plan part known) ts
      → all_or_first (map (λ at. read_wave plan part known w k at.0 (slice_get plan.exchanges at.0) at.1) (zip (map (λ (t : TakingKept). t.exchange) ts) (map input_wave_of inputs)))
      ≡ lifted inputs (all_or_first (map (wave_taken part w k) (zip ts inputs)))
  all_are [] [] all = refl
  all_are [] (input ∷ inputs) all = refl
  all_are (t ∷ ts) [] all = refl
  all_are (t ∷ ts) (input ∷ inputs) all =
      ap (λ one. before_all one (all_or_first (map (λ at. read_wave plan part known w k at.0 (slice_get plan.exchanges at.0) at.1) (zip (map (λ (t : TakingKept). t.exchange) ts) (map input_wave_of inputs)))))
      (one_is t (All-head (IsTaking plan part known) t ts all) (input_wave_of input))
      ∙ ap (before_all (with_wave plan part w k t.exchange (input_wave_of input) (through t.map input.wave))) (all_are ts inputs (All-tail (IsTaking plan part known) t ts all))
      ∙ one_more t.exchange input inputs (through t.map input.wave) (all_or_first (map (wave_taken part w k) (zip ts inputs)))

  module _ (takes : TakesKept) (are : AreTakes plan part known takes) (inputs : List Input) where
    pub taken_is : mapped_inputs plan part known w k (map input_wave_of inputs) ≡ lifted inputs (waves_taken takes.part w k takes.takings inputs)
    taken_is =
        ap (λ xs. all_or_first (map (λ at. read_wave plan part known w k at.0 (slice_get plan.exchanges at.0) at.1) (zip xs (map input_wave_of inputs)))) (sym are.numbers)
        ∙ all_are takes.takings inputs are.each
        ∙ ap (λ (p : ℕ). lifted inputs (all_or_first (map (wave_taken p w k) (zip takes.takings inputs)))) (sym are.reader)

    pub taken_ok : (waves : List Wave) → waves_taken takes.part w k takes.takings inputs ≡ Ok waves → mapped_inputs plan part known w k (map input_wave_of inputs) ≡ Ok (with_waves inputs waves)
    taken_ok waves is = taken_is ∙ ap (lifted inputs) is

    pub not_taken : (why : NoTake) → IsNoTake (waves_taken takes.part w k takes.takings inputs) why → IsNoTake (mapped_inputs plan part known w k (map input_wave_of inputs)) why
    not_taken (Overflow fault) is = taken_is ∙ ap (lifted inputs) is
    not_taken Memory is = tt
