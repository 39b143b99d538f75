-- The waves that are read of accelerated exchanges.
use Rattle.std.proofs.Common.{◌≡◌, ℕ, ◌-◌, ◌<◌, ◌≤◌, ◌++◌, List, [], ◌∷◌, length, get_or, map, Option, Some, option_map, All, arith, ap, sym, subst, ◌∙◌}
use Rattle.std.specs.Prelude.{slice_get}
use Rattle.std.specs.Option.{option_map_or}
use Rattle.std.proofs.lemmas.List.{get_or-map, get_or_read}
use Rattle.std.proofs.lemmas.Option.{slice_get-map, slice_get_within}
use Rattle.cpl_plan.specs.PlanWords.{components_of}
use Rattle.cpl_plan.specs.ValidPlan.{IsValidPlan}
use Rattle.cpl_plan.specs.declared.parts.PlanParts.{PlanParts}
use Rattle.cpl_plan.specs.declared.parts.Exchange.{Exchange}
use Rattle.cpl_plan.specs.declared.parts.Scheme.{Scheme}
use Rattle.waveform.specs.declared.field.Field.{Field}
use Rattle.waveform.specs.declared.sample.Sample.{Sample}
use Rattle.waveform.specs.IsWave.{first_time}
use Rattle.waveform.specs.Shape.{IsLike}
use Rattle.coupled_loop.specs.Given.{Gift, Look}
use Rattle.sample_store.specs.Ends.{end_sample}
use Rattle.sample_store.specs.Kept.{Kept}
use Rattle.sample_store.specs.StandsFor.{StandsFor}
use Rattle.wave_coupling.specs.Posts.{Wave, Post}
use Rattle.wave_coupling.specs.InputWave.{accepted_before, over}
use Rattle.group_course.specs.declared.iteration.Iteration.{Iteration}
use Rattle.group_course.specs.CourseKept.{CourseKept}
use Rattle.group_course.specs.Shapes.{HasShape, IsTurnWave}
use Rattle.group_course.specs.StoresTell.{StoresTell}
use Rattle.group_course.specs.Ready.{IsReady}
use Rattle.group_course.specs.Norms.{IsExchangeOf}
use Rattle.group_course.specs.Taken.{relaxed_of, read_in}
use Rattle.group_course.proofs.StoreWords.{start_is}
use Rattle.group_course.proofs.Relaxables.{as_many, relaxed_turn, started}

abbrev LooksUp : Kept → (w : ℕ) → Field → Type 0
LooksUp store w field = (given : List (Gift Wave)) → StandsFor given store → option_map (λ s. s.field) (end_sample given (w - 1)) ≡ Some field

-- what was read of the exchange at a place
pub read_is : (plan : PlanParts) (stores : List (Option Kept)) (at : Iteration) (scheme : Scheme) (waves : List Wave) (look : Look Post) → StoresTell plan look at.scheme stores → (place x : ℕ)
    → slice_get (over scheme.accel) place ≡ Some x → (own : IsExchangeOf plan at.scheme x) (store : Kept) → slice_get stores x ≡ Some (Some store) → (field : Field) → LooksUp store at.window field
    → (rest wave : Wave) → relaxed_of scheme waves x ≡ rest → wave ≡ record { time = at.start; field = field } ∷ rest
    → slice_get (map (read_in plan look scheme at.window at.start waves) (over scheme.accel)) place ≡ Some wave
read_is plan stores at scheme waves look tell place x here own store there field looked rest wave relaxed is =
    let f = read_in plan look scheme at.window at.start waves in
    let start = start_is plan look x own.exchange store (tell x own.exchange store own.there own.own there) at.window at.start field looked in
    let value : f x ≡ wave =
    ap (λ (o : Option Exchange). option_map_or (λ e. accepted_before plan look e x at.window at.start ++ relaxed_of scheme waves x) o []) own.there
    ∙ ap (λ (w : Wave). w ++ relaxed_of scheme waves x) start
    ∙ ap (λ (w : Wave). record { time = at.start; field = field } ∷ w) relaxed ∙ sym is in
    slice_get-map f (over scheme.accel) place ∙ ap (option_map f) here ∙ ap Some value

module _ (plan : PlanParts) (valid : IsValidPlan plan) (stores : List (Option Kept)) (at : Iteration) (course : CourseKept) (first : 1 ≤ at.number) (ready : IsReady plan stores at course) (scheme : Scheme)
    (is : slice_get plan.schemes at.scheme ≡ Some scheme) (later : 2 ≤ at.number) (place x : ℕ) (here : slice_get (over scheme.accel) place ≡ Some x) (own : IsExchangeOf plan at.scheme x)
    (wave : Wave) (found : wave ≡ get_or course.waves place wave) where
  turn : IsTurnWave (components_of plan own.exchange) (ready.shaped.vertices own.exchange.mesh) at.start ready.shaped.end wave
  turn =
      let inside : place < length course.waves = omega (arith, slice_get_within (over scheme.accel) place x here, as_many plan valid stores at course first ready scheme is later) in
      subst (IsTurnWave (components_of plan own.exchange) (ready.shaped.vertices own.exchange.mesh) at.start ready.shaped.end) (sym (get_or_read course.waves place wave inside found []))
      (relaxed_turn plan valid stores at course first ready scheme is later place x own here)

  -- the relaxed samples come after the start, are of the same shape, and there is room for one more
  pub after_start : at.start < first_time wave
  after_start =
      let d : Sample = record { time = 0; field = record { components = 0; values = [] } } in
      let some : 0 < length wave = omega (arith, turn.some) in
      omega (arith, get_or-map (λ (s : Sample). s.time) wave 0 d 0 some, turn.after 0 d some)

  pub few_samples : length wave ≤ 1024
  few_samples = turn.few

  pub alike_start : (store : Kept) → slice_get stores x ≡ Some (Some store) → (field : Field) → LooksUp store at.window field → All (λ s. IsLike field s.field) wave
  alike_start store there field looked =
      let e = own.exchange in
      let one = started plan valid stores at course first ready scheme is x own in
      let start = start_is plan ready.look x e store (ready.tells.posts x e store own.there own.own there) at.window at.start field looked in
      let waves : (record { time = at.start; field = one.0 } ∷ []) ≡ (record { time = at.start; field = field } ∷ []) = sym one.1 ∙ start in
      let same : one.0 ≡ field = ap (λ (w : Wave). (get_or w 0 (record { time = 0; field = field })).field) waves in
      let shape = subst (HasShape (components_of plan e) (ready.shaped.vertices e.mesh)) same one.2 in
      λ k d inside.
      let other = turn.shape k d inside in
      record { components = shape.each ∙ sym other.each; len = shape.values ∙ sym other.values }
