use Rattle.std.proofs.Common.{◌≡◌, ℕ, ◌-◌, ◌<◌, List, ℤ, length, take, drop, subst, arith, sym, ap, ◌∙◌}
use Rattle.waveform.specs.declared.sample.Sample.{Sample}
use Rattle.waveform.proofs.Places.{no_sample}
use Rattle.wave_reading.specs.Places.{IsPlaceIn, values_at, sample_of}
use Rattle.wave_reading.specs.declared.place.Place.{Place}
use Rattle.wave_reading.specs.declared.place.Place.TheVariants.{At, LineTo}
use Rattle.wave_reading.proofs.FoundPlaces.{time_told, values_told, room_told}
use Rattle.wave_reading.proofs.LineValues.{line_told}
use Rattle.wave_reading.proofs.reading.read_row.Goals as goal

at_inside : (wave : List Sample) (t i : ℕ) (place : Place) → place ≡ At i → IsPlaceIn wave t place → i < length wave
at_inside wave t i place is inside = subst (IsPlaceIn wave t) is inside

placed : (wave : List Sample) (t i : ℕ) (place : Place) → place ≡ LineTo i → IsPlaceIn wave t place → IsPlaceIn wave t (LineTo i)
placed wave t i place is inside = subst (IsPlaceIn wave t) is inside

pub row_from-requires : goal.row_from-requires
row_from-requires c =
    room_told c.args.wave.now c.in-At.i c.args.from (length c.args.out.now) c.field.result.now c.as_slice.result.now c.field.ensures c.as_slice.ensures (at_inside c.args.wave.now c.args.t c.in-At.i c.args.place c.in-At.is c.requires.place) c.requires.room

pub row_from-first-requires : goal.row_from-first-requires
row_from-first-requires c =
    room_told c.args.wave.now (c.in-LineTo.i - 1) c.args.from (length c.args.out.now) c.field-in-LineTo.result.now c.as_slice-in-LineTo.result.now c.field-in-LineTo.ensures
    c.as_slice-in-LineTo.ensures (omega (arith, (placed c.args.wave.now c.args.t c.in-LineTo.i c.args.place c.in-LineTo.is c.requires.place).1)) c.requires.room

pub row_from-last-requires : goal.row_from-last-requires
row_from-last-requires c =
    room_told c.args.wave.now c.in-LineTo.i c.args.from (length c.args.out.now) c.field-in-LineTo-2.result.now c.as_slice-in-LineTo-2.result.now c.field-in-LineTo-2.ensures
    c.as_slice-in-LineTo-2.ensures (placed c.args.wave.now c.args.t c.in-LineTo.i c.args.place c.in-LineTo.is c.requires.place).1 c.requires.room

pub write_line-requires-clause-after_start : goal.write_line-requires-clause-after_start
write_line-requires-clause-after_start c =
    omega (arith, (placed c.args.wave.now c.args.t c.in-LineTo.i c.args.place c.in-LineTo.is c.requires.place).2, time_told c.args.wave.now (c.in-LineTo.i - 1) c.time.result no_sample c.time.ensures (omega (arith, (placed c.args.wave.now c.args.t c.in-LineTo.i c.args.place c.in-LineTo.is c.requires.place).1)))

pub write_line-requires-clause-before_end : goal.write_line-requires-clause-before_end
write_line-requires-clause-before_end c =
    omega (arith, (placed c.args.wave.now c.args.t c.in-LineTo.i c.args.place c.in-LineTo.is c.requires.place).3, time_told c.args.wave.now c.in-LineTo.i c.time-in-LineTo.result no_sample c.time-in-LineTo.ensures (placed c.args.wave.now c.args.t c.in-LineTo.i c.args.place c.in-LineTo.is c.requires.place).1)

pub returns-in-At : goal.returns-in-At
returns-in-At c =
    c.copy_row.ensures ∙ c.row_from.ensures.row
    ∙ ap (λ (values : List ℤ). take (length c.args.out.now) (drop c.args.from values)) (values_told c.args.wave.now c.in-At.i c.field.result.now c.as_slice.result.now c.field.ensures c.as_slice.ensures (at_inside c.args.wave.now c.args.t c.in-At.i c.args.place c.in-At.is c.requires.place))
    ∙ ap (λ place. take (length c.args.out.now) (drop c.args.from (values_at c.args.wave.now c.args.t place))) (sym c.in-At.is)

pub returns-in-LineTo : goal.returns-in-LineTo
returns-in-LineTo c =
    let there = placed c.args.wave.now c.args.t c.in-LineTo.i c.args.place c.in-LineTo.is c.requires.place in
    let before : c.in-LineTo.i - 1 < length c.args.wave.now = omega (arith, there.1) in
    c.write_line.ensures
    ∙ line_told c.args.t c.args.from (length c.args.out.now) (sample_of c.args.wave.now (c.in-LineTo.i - 1)) (sample_of c.args.wave.now c.in-LineTo.i) c.time.result c.time-in-LineTo.result
    c.row_from-first.result.now c.row_from-last.result.now
    (time_told c.args.wave.now (c.in-LineTo.i - 1) c.time.result no_sample c.time.ensures before)
    (time_told c.args.wave.now c.in-LineTo.i c.time-in-LineTo.result no_sample c.time-in-LineTo.ensures there.1)
    (c.row_from-first.ensures.row ∙ ap (λ (values : List ℤ). take (length c.args.out.now) (drop c.args.from values))
    (values_told c.args.wave.now (c.in-LineTo.i - 1) c.field-in-LineTo.result.now c.as_slice-in-LineTo.result.now c.field-in-LineTo.ensures c.as_slice-in-LineTo.ensures before))
    (c.row_from-last.ensures.row ∙ ap (λ (values : List ℤ). take (length c.args.out.now) (drop c.args.from values))
    (values_told c.args.wave.now c.in-LineTo.i c.field-in-LineTo-2.result.now c.as_slice-in-LineTo-2.result.now c.field-in-LineTo-2.ensures c.as_slice-in-LineTo-2.ensures there.1))
    ∙ ap (λ place. take (length c.args.out.now) (drop c.args.from (values_at c.args.wave.now c.args.t place))) (sym c.in-LineTo.is)
