use Rattle.std.proofs.Common.{◌≡◌, ℕ, suc, inl, inr, ◌-◌, ◌<◌, get_or, arith, ap, ◌∙◌}
use Rattle.std.proofs.lemmas.Bool.{cases_lt}
use Rattle.waveform.specs.WaveValue.{read}
use Rattle.waveform.proofs.Places.{no_sample, place_from, read_only, read_step, read_found, read_line}
use Rattle.wave_reading.proofs.FoundPlaces.{time_told, first_told}
use Rattle.wave_reading.proofs.place.place_of.Goals as goal

pub returns-then-len-eq1-clause-values : goal.returns-then-len-eq1-clause-values
returns-then-len-eq1-clause-values c = read_only c.args.wave.now c.args.degree c.args.t no_sample (omega (arith, c.if-len-eq1.true, c.len.ensures.count))

pub returns-then-degree-eq0-clause-values : goal.returns-then-degree-eq0-clause-values
returns-then-degree-eq0-clause-values c =
    let zero : c.args.degree ≡ 0 = omega (arith, c.if-degree-eq0.true) in
    ap (λ (n : ℕ). read c.args.wave.now n c.args.t) zero
    ∙ read_step c.args.wave.now c.args.t c.next_sample-next.result no_sample
    (omega (arith, c.if-len-eq1.false, c.len.ensures.count, c.len.ensures.wave.least))
    (place_from c.args.wave.now c.args.t c.next_sample-next.result c.next_sample-next.ensures.inside c.next_sample-next.ensures.before c.next_sample-next.ensures.later)

pub returns-then-time-t-clause-values : goal.returns-then-time-t-clause-values
returns-then-time-t-clause-values c =
    read_found c.args.wave.now c.args.degree c.args.t c.next_sample-next.result no_sample
    (omega (arith, c.if-len-eq1.false, c.len.ensures.count, c.len.ensures.wave.least))
    (place_from c.args.wave.now c.args.t c.next_sample-next.result c.next_sample-next.ensures.inside c.next_sample-next.ensures.before c.next_sample-next.ensures.later)
    (time_told c.args.wave.now c.next_sample-next.result c.time.result no_sample c.time.ensures c.next_sample-next.ensures.inside ∙ c.if-time-t.true)

-- no sample is at t, so the one that follows is later
later : (c : goal.Else-time-t) → c.args.t < (get_or c.args.wave.now c.next_sample-next.result no_sample).time
later c =
    let le = c.next_sample-next.ensures.later c.next_sample-next.result no_sample (omega arith) c.next_sample-next.ensures.inside in
    let is = time_told c.args.wave.now c.next_sample-next.result c.time.result no_sample c.time.ensures c.next_sample-next.ensures.inside in
    let ne = c.if-time-t.false in
    omega (arith, le, is, ne)

-- as some sample is at or before t, it is not the first one
some : (c : goal.Else-time-t) → 0 < c.next_sample-next.result
some c =
    elim c.requires.time [
      | inl one ↦ absurd (omega (arith, one, c.if-len-eq1.false, c.len.ensures.count))
      | inr w ↦ elim (cases_lt 0 c.next_sample-next.result) [
        | inl above ↦ above
        | inr zero ↦
            let first = first_told c.args.wave.now no_sample (omega (arith, c.len.ensures.wave.least)) in
            let at : c.next_sample-next.result ≡ 0 = omega (arith, zero) in
            let same = ap (λ (n : ℕ). (get_or c.args.wave.now n no_sample).time) at in
            absurd (omega (arith, later c, first, same, w.0))
      ]
    ]

pub returns-clause-values : goal.returns-clause-values
returns-clause-values c =
    let degree : c.args.degree ≡ suc 0 = omega (arith, c.requires.degree, c.if-degree-eq0.false) in
    ap (λ (n : ℕ). read c.args.wave.now n c.args.t) degree
    ∙ read_line c.args.wave.now 0 c.args.t c.next_sample-next.result no_sample
    (omega (arith, c.if-len-eq1.false, c.len.ensures.count, c.len.ensures.wave.least))
    (place_from c.args.wave.now c.args.t c.next_sample-next.result c.next_sample-next.ensures.inside c.next_sample-next.ensures.before c.next_sample-next.ensures.later)
    c.len.ensures.wave.rising (later c) (some c)

pub returns-clause-inside : goal.returns-clause-inside
returns-clause-inside c = (
  some c,
  c.next_sample-next.ensures.inside,
  c.next_sample-next.ensures.before (c.next_sample-next.result - 1) no_sample (omega arith) (omega (arith, some c)),
  later c,
)
