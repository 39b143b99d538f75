use Rattle.std.proofs.Common.{◌≡◌, ℕ, ◌≤◌, ◌*◌, List, length, get_or, slice_get, Some, ap, sym, subst, ◌∙◌, arith}
use Rattle.std.specs.Prelude.{All}
use Rattle.std.proofs.lemmas.Option.{same_Some, slice_get-get_or, slice_get_within}
use Rattle.cpl_plan.specs.PlanWords.{components_of}
use Rattle.cpl_plan.specs.Windows.{latest_end, window_end}
use Rattle.mesh_data.specs.declared.any_mesh.AnyMesh.{AnyMesh}
use Rattle.waveform.specs.declared.sample.Sample.{Sample}
use Rattle.wave_coupling.specs.Known.{Known, points_of}
use Rattle.participant_words.specs.Begun.{latest_of, newest_input_time}
use Rattle.participant_words.specs.Course.{known}
use Rattle.participant_words.specs.KnownByReply.{known_by}
use Rattle.call_parts.specs.InputLengths.{HasLengths, Spans}
use Rattle.call_parts.proofs.Latest.{latest_is}
use Rattle.call_parts.proofs.fitting_inputs.are_inputs.Goals as goal

all_at : (P : Sample → Type 0) (wave : List Sample) (j : ℕ) (sample : Sample) → slice_get wave j ≡ Some sample → All P wave → P sample
all_at P wave j sample at all =
    let below = slice_get_within wave j sample at in
    subst P (same_Some (get_or wave j sample) sample (sym (slice_get-get_or wave j sample below) ∙ at)) (all j sample below)

pub returns : goal.returns
returns c = λ yes course at.
    let plan = c.args.plan.now in
    let part = c.args.part in
    let latest = c.started-latest.result.latest in
    let inputs = c.args.inputs.now in
    let told : latest ≡ latest_of plan part course.turn (newest_input_time inputs) =
    latest_is plan part course.turn c.newest_time.result latest c.args.clock.one_step c.requires.one_step
    (λ is ends. ap (window_end plan ends) at.window ∙ c.started-latest.ensures.by_plan is ends)
    (λ is own. c.started-latest.ensures.by_own_step is own ∙ ap (latest_end plan) (sym at.start))
    c.started-latest.ensures.by_the_step_made
    ∙ ap (latest_of plan part course.turn) c.newest_time.ensures in
    let same : known_by plan part c.args.own.now c.args.received.now ≡ known plan part course =
    ap (λ (own : List AnyMesh). known_by plan part own c.args.received.now) (sym at.own_same) ∙ ap (known_by plan part course.own) (sym at.received_same) in
    let all = c.are_all_inputs.ensures yes in
    let begins : c.args.clock.start ≤ latest = omega (arith, c.if-latest-clock.false) in
    let ends : latest ≤ plan.end_time = omega (arith, c.if-end_time-latest.false, c.end_time.ensures) in
    record {
      count = all.count;
      begins = subst (λ (n : ℕ). course.turn.start ≤ n) told (subst (λ (n : ℕ). n ≤ latest) (sym at.start) begins);
      ends = subst (λ (n : ℕ). n ≤ plan.end_time) told ends;
      each = λ i x e input is at_x at_input.
          let one = all.each i x e input is at_x at_input in
          record {
            is_wave = one.is_wave;
            lengths = λ j sample at_sample.
                let has : HasLengths (components_of plan e) (components_of plan e * length (points_of plan part (known_by plan part c.args.own.now c.args.received.now) e.mesh)) sample =
                all_at (HasLengths (components_of plan e) (components_of plan e * length (points_of plan part (known_by plan part c.args.own.now c.args.received.now) e.mesh))) input.wave j sample at_sample one.lengths in
                record {
                  components = has.wide;
                  values = has.long ∙ ap (λ (k : Known). components_of plan e * length (points_of plan part k e.mesh)) same;
                };
            span = subst (λ (n : ℕ). Spans n (latest_of plan part course.turn (newest_input_time inputs)) input.wave) (sym at.start)
                (subst (λ (n : ℕ). Spans c.args.clock.start n input.wave) told one.spans);
          };
    }
