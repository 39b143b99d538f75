use Rattle.std.proofs.Common.{◌≡◌, ◌+◌, ◌++◌, [], take, length, get_or, List, ℕ, ℤ, arith, refl, ap, sym, ◌∙◌}
use Rattle.std.proofs.lemmas.List.{flat_map_more, take_all, length-append, get_or_read}
use Rattle.std.proofs.lemmas.List.Sums.{sum_by_more}
use Rattle.std.specs.List.{sum_by}
use Rattle.waveform.specs.declared.sample.Sample.{Sample}
use Rattle.std.proofs.lemmas.List.Elements.{All-append, All-same}
use Rattle.acceleration.specs.Differences.{IsDifference}
use Rattle.acceleration.specs.Exchanged.{exchanged, exchange_of}
use Rattle.acceleration.specs.Residual.{end_difference, residual, width}
use Rattle.acceleration.proofs.Exchanges.{exchange_at, can_relax_at, exchanges_more, length-exchanged}
use Rattle.acceleration.proofs.residual.Residual.of.Goals as goal

pub push_end_difference-requires : goal.push_end_difference-requires
push_end_difference-requires c =
    let e = exchange_of (get_or c.args.degrees.now c.loop-place.place 0) c.index-read-place.result c.index-posted-place.result in
    let is = exchange_at c.args.degrees.now c.args.read.now c.args.posted.now c.loop-place.place (get_or c.args.degrees.now c.loop-place.place 0) c.index-read-place.result c.index-posted-place.result
    c.requires.one_degree c.requires.one_read c.loop-place-test.true refl c.index-read-place.is c.index-posted-place.is in
    can_relax_at (exchanged c.args.degrees.now c.args.read.now c.args.posted.now) c.loop-place.place e c.requires.exchanges
    (omega (arith, length-exchanged c.args.degrees.now c.args.read.now c.args.posted.now c.requires.one_degree c.requires.one_read, c.loop-place-test.true)) is

pub loop-place-preserved : goal.loop-place-preserved
loop-place-preserved c =
    let all = exchanged c.args.degrees.now c.args.read.now c.args.posted.now in
    let i = c.loop-place.place in
    let e = exchange_of (get_or c.args.degrees.now i 0) c.index-read-place.result c.index-posted-place.result in
    let is = exchange_at c.args.degrees.now c.args.read.now c.args.posted.now i (get_or c.args.degrees.now i 0) c.index-read-place.result c.index-posted-place.result
    c.requires.one_degree c.requires.one_read c.loop-place-test.true refl c.index-read-place.is c.index-posted-place.is in
    let more = exchanges_more all i e (omega (arith, length-exchanged c.args.degrees.now c.args.read.now c.args.posted.now c.requires.one_degree c.requires.one_read, c.loop-place-test.true)) is in
    let pushed : c.push_end_difference.new.entries.items ≡ c.loop-place.entries.items ++ end_difference e = c.in_ok-push_end_difference.ensures.pushed in (
      pushed ∙ ap (λ (xs : List ℤ). xs ++ end_difference e) c.loop-place.invariant.0
          ∙ flat_map_more end_difference [] (take i all) e
          ∙ ap residual (sym more),
      All-same IsDifference c.push_end_difference.new.entries.items (c.loop-place.entries.items ++ end_difference e) pushed
          (All-append IsDifference c.loop-place.entries.items (end_difference e) c.loop-place.invariant.1 c.in_ok-push_end_difference.ensures.small),
      ap (λ (xs : List ℤ). length xs) pushed ∙ length-append c.loop-place.entries.items (end_difference e)
          ∙ ap (λ (n : ℕ). n + length (end_difference e)) c.loop-place.invariant.2
          ∙ ap (λ (n : ℕ). sum_by width (take i c.args.posted.now) + n) (c.in_ok-push_end_difference.ensures.len ∙ ap width (get_or_read c.args.posted.now i c.index-posted-place.result c.loop-place-test.true c.index-posted-place.is []))
          ∙ sym (sum_by_more width c.args.posted.now i [] c.loop-place-test.true),
    )

pub returns-clause-residual : goal.returns-clause-residual
returns-clause-residual c =
    let all = exchanged c.args.degrees.now c.args.read.now c.args.posted.now in
    let past = length-exchanged c.args.degrees.now c.args.read.now c.args.posted.now c.requires.one_degree c.requires.one_read in
    c.loop-place.invariant.0
    ∙ ap residual (take_all c.loop-place.place all (omega (arith, past, c.loop-place-test.false)))

pub returns-clause-len : goal.returns-clause-len
returns-clause-len c =
    c.loop-place.invariant.2 ∙ ap (λ (ws : List (List Sample)). sum_by width ws) (take_all c.loop-place.place c.args.posted.now (omega (arith, c.loop-place-test.false)))
