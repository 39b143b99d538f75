-- Inputs that may come can be mapped.
use Rattle.std.proofs.Common.{◌≡◌, ℕ, ◌*◌, ◌<◌, List, length, get_or, slice_get, Option, Some, None, ap, sym, ◌∙◌, arith, mul_comm}
use Rattle.std.proofs.lemmas.List.{length-map, get_or-map}
use Rattle.std.proofs.lemmas.Option.{slice_get-get_or}
use Rattle.cpl_plan.specs.PlanWords.{components_of}
use Rattle.cpl_plan.specs.declared.parts.PlanParts.{PlanParts}
use Rattle.cpl_plan.specs.declared.parts.Exchange.{Exchange}
use Rattle.cpl_plan.proofs.Readings.{there}
use Rattle.core_sides.specs.declared.event.Input.{Input}
use Rattle.wave_coupling.specs.Posts.{Wave, received}
use Rattle.wave_coupling.specs.Known.{points_of}
use Rattle.wave_maps.specs.declared.wave_map.WaveMap.{WaveMap}
use Rattle.wave_maps.specs.MappedThrough.{sources_of}
use Rattle.participant_words.specs.Course.{Course, known}
use Rattle.participant_words.specs.Replies.{AreInputs, IsInput}
use Rattle.participant_words.specs.Begun.{latest_of, newest_input_time}
use Rattle.participant_waves.specs.Passages.{CanPass, HasSources}
use Rattle.participant_waves.specs.TakesStand.{AreTakes, CanTake, IsTaking}
use Rattle.participant_waves.specs.TakingKept.{TakesKept, TakingKept}

module _ (plan : PlanParts) (part : ℕ) (c : Course) (takes : TakesKept) (are : AreTakes plan part (known plan part c) takes) (inputs : List Input) (come : AreInputs plan part c inputs) where
  many : length takes.takings ≡ length (received plan part)
  many = sym (length-map takes.takings (λ t. t.exchange)) ∙ ap (λ (xs : List ℕ). length xs) are.numbers

  passes : (map : Option WaveMap) (e : Exchange) (start end : ℕ) (wave : Wave) → HasSources (length (points_of plan part (known plan part c) e.mesh)) map → IsInput plan part c start end e wave → CanPass map wave
  passes None e start end wave has is = tt
  passes (Some m) e start end wave has is = λ k d within.
      let of = is.lengths k (get_or wave k d) (slice_get-get_or wave k d within) in
      of.values ∙ mul_comm (components_of plan e) (length (points_of plan part (known plan part c) e.mesh))
      ∙ ap (λ (n : ℕ). n * components_of plan e) (sym has)
      ∙ ap (λ (n : ℕ). sources_of m * n) (sym of.components)

  one : (k : ℕ) (t : TakingKept) (input : Input) → k < length takes.takings
      → CanPass (get_or takes.takings k t).map (get_or inputs k input).wave
  one k t input within =
      let at : TakingKept = get_or takes.takings k t in
      let is : IsTaking plan part (known plan part c) at = are.each k t within in
      let found = there plan.exchanges at.exchange is.there in
      let number : get_or (received plan part) k at.exchange ≡ at.exchange =
      ap (λ (xs : List ℕ). get_or xs k at.exchange) (sym are.numbers) ∙ get_or-map (λ (o : TakingKept). o.exchange) takes.takings k t at.exchange within in
      let listed : slice_get (received plan part) k ≡ Some at.exchange =
      slice_get-get_or (received plan part) k at.exchange (omega (arith, within, many)) ∙ ap Some number in
      passes at.map found.0 c.turn.start (latest_of plan part c.turn (newest_input_time inputs)) (get_or inputs k input).wave (is.sources found.0 found.1)
      (come.each k at.exchange found.0 (get_or inputs k input) listed found.1 (slice_get-get_or inputs k input (omega (arith, within, many, come.count))))

  pub can_take : CanTake takes.takings inputs
  can_take = record { many = come.count ∙ sym many; fields = one }
