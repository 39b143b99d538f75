use Rattle.std.proofs.Common.{◌≡◌, ℕ, suc, inl, inr, ◌-◌, ◌<◌, get_or, arith, sym, ap, ◌∙◌}
use Rattle.std.proofs.lemmas.List.{get_or_default, get_or-map}
use Rattle.std.proofs.lemmas.Bool.{cases_lt}
use Rattle.waveform.specs.declared.sample.Sample.{Sample}
use Rattle.waveform.specs.WaveValue.{read}
use Rattle.waveform.proofs.Places.{place_from, read_only, read_step, read_found, read_line}
use Rattle.waveform.proofs.reading.write_at.Goals as goal

pub returns-then-samples-eq1-clause-values : goal.returns-then-samples-eq1-clause-values
returns-then-samples-eq1-clause-values c =
    c.write_values.ensures.values ∙ sym (read_only c.args.samples.now c.args.degree c.args.t c.index-samples-0.result c.if-samples-eq1.true)

pub returns-then-degree-eq0-clause-values : goal.returns-then-degree-eq0-clause-values
returns-then-degree-eq0-clause-values c =
    cc (
      c.write_values-then-degree-eq0.ensures.values,
      ap (λ (s : Sample). s.field.values) c.index-samples-next.is,
      read_step c.args.samples.now c.args.t c.next_sample-next.result c.index-samples-next.result
          (omega (arith, c.if-samples-eq1.false, c.requires.wave.least))
          (place_from c.args.samples.now c.args.t c.next_sample-next.result c.next_sample-next.ensures.inside c.next_sample-next.ensures.before c.next_sample-next.ensures.later),
    )

pub returns-then-after-t-clause-values : goal.returns-then-after-t-clause-values
returns-then-after-t-clause-values c =
    cc (
      c.write_values-then-after-t.ensures.values,
      ap (λ (s : Sample). s.field.values) c.index-samples-next.is,
      read_found c.args.samples.now c.args.degree c.args.t c.next_sample-next.result c.index-samples-next.result
          (omega (arith, c.if-samples-eq1.false, c.requires.wave.least))
          (place_from c.args.samples.now c.args.t c.next_sample-next.result c.next_sample-next.ensures.inside c.next_sample-next.ensures.before c.next_sample-next.ensures.later)
          (ap (λ (s : Sample). s.time) (sym c.index-samples-next.is) ∙ c.if-after-t.true),
    )

-- no sample is at t, so the one that follows is later
later : (c : goal.After-out-2-1) → c.args.t < (get_or c.args.samples.now c.next_sample-next.result c.index-samples-next.result).time
later c =
    let le = c.next_sample-next.ensures.later c.next_sample-next.result c.index-samples-next.result (omega arith) c.next_sample-next.ensures.inside in
    let is = ap (λ (s : Sample). s.time) c.index-samples-next.is in
    let ne = c.if-after-t.false in
    omega (arith, le, is, ne)

-- as some sample is at or before t, it is not the first one
some : (c : goal.After-out-2-1) → 0 < c.next_sample-next.result
some c =
    elim c.requires.time [
      | inl one ↦ absurd (omega (arith, one, c.if-samples-eq1.false))
      | inr w ↦ elim (cases_lt 0 c.next_sample-next.result) [
        | inl above ↦ above
        | inr zero ↦
            let first = get_or-map (λ (s : Sample). s.time) c.args.samples.now 0 c.index-samples-next.result 0 (omega (arith, c.requires.wave.least)) in
            let at : c.next_sample-next.result ≡ 0 = omega (arith, zero) in
            let same = ap (λ (n : ℕ). (get_or c.args.samples.now n c.index-samples-next.result).time) at in
            absurd (omega (arith, later c, first, same, w.0))
      ]
    ]

before_is : (c : goal.After-out-2-1) → c.index-samples-next-2.result ≡ get_or c.args.samples.now (c.next_sample-next.result - 1) c.index-samples-next.result
before_is c =
    c.index-samples-next-2.is
    ∙ get_or_default c.args.samples.now (c.next_sample-next.result - 1) c.index-samples-next-2.result c.index-samples-next.result (omega (arith, c.next_sample-next.ensures.inside))

pub returns-clause-values : goal.returns-clause-values
returns-clause-values c =
    let degree : c.args.degree ≡ suc 0 = omega (arith, c.requires.degree, c.if-degree-eq0.false) in
    cc (
      c.write_between.ensures.values,
      c.index-samples-next.is,
      before_is c,
      ap (λ (n : ℕ). read c.args.samples.now n c.args.t) degree,
      read_line c.args.samples.now 0 c.args.t c.next_sample-next.result c.index-samples-next.result
          (omega (arith, c.if-samples-eq1.false, c.requires.wave.least))
          (place_from c.args.samples.now c.args.t c.next_sample-next.result c.next_sample-next.ensures.inside c.next_sample-next.ensures.before c.next_sample-next.ensures.later)
          c.requires.wave.rising (later c) (some c),
    )
