use Rattle.std.proofs.Common.{rules, ◌≡◌, ◌-◌, ◌++◌, length, List, ℕ, ℤ, All, arith, ap, subst, sym, ◌∙◌}
use Rattle.std.proofs.lemmas.List.{length-replicate, with_items_is}
use Rattle.std.proofs.lemmas.Result.{on_ok_weaker}
use Rattle.waveform.specs.WaveValue.{read}
use Rattle.acceleration.specs.Differences.{IsDifference}
use Rattle.acceleration.specs.Exchanged.{exchange_of}
use Rattle.acceleration.specs.Residual.{less, end_values, end_difference}
use Rattle.acceleration.proofs.Entries.{length-less}
use Rattle.acceleration.proofs.Widths.{covered_at, time_at, last_time-is, width_of_taken, end_values-last}
use Rattle.acceleration.proofs.residual.push_end_difference.Goals as goal

pub read_at-requires-clause-time : goal.read_at-requires-clause-time
read_at-requires-clause-time c =
    covered_at c.args.degree c.args.read.now c.args.posted.now (c.len-last.result - 1) c.time.result c.requires.covered
    (omega (arith, c.len-last.ensures.count, c.len-last.ensures.wave.least))
    (time_at c.args.posted.now (c.len-last.result - 1) c.time.result c.time.ensures)

pub read_at-requires-clause-len : goal.read_at-requires-clause-len
read_at-requires-clause-len c =
    let room : length c.deref_mut.result.now ≡ c.width.result = search (rules, length-replicate) in
    λ k d inside.
    width_of_taken c.args.degree c.args.read.now c.args.posted.now c.len-last.ensures.wave.least c.requires.alike k d inside
    ∙ sym c.width.ensures ∙ sym room

pub push_less-requires-clause-len : goal.push_less-requires-clause-len
push_less-requires-clause-len c =
    let room : length c.deref_mut.result.now ≡ c.width.result = search (rules, length-replicate) in
    let out : length c.deref.result.now ≡ length c.deref_mut.result.now = search rules in
    out ∙ room ∙ c.width.ensures
    ∙ ap (λ (values : List ℤ). length values)
    (end_values-last c.args.posted.now (c.len-last.result - 1) c.field.result.now (ap (λ (n : ℕ). n - 1) c.len-last.ensures.count) c.field.ensures ∙ sym c.as_slice.ensures)

pub returns-clause-pushed : goal.returns-clause-pushed
returns-clause-pushed c =
    let last : c.len-last.result - 1 ≡ length c.args.posted.now - 1 = ap (λ (n : ℕ). n - 1) c.len-last.ensures.count in
    let posted = c.as_slice.ensures ∙ sym (end_values-last c.args.posted.now (c.len-last.result - 1) c.field.result.now last c.field.ensures) in
    let as_long : length c.read_at.new.out ≡ c.in_ok-at_end.at_end.len = search rules in
    let out : c.deref.result.now ≡ c.read_at.new.out = c.deref.ensures.value ∙ with_items_is c.in_ok-at_end.at_end c.read_at.new.out as_long in
    let taken = out ∙ c.read_at.ensures.values ∙ ap (λ (t : ℕ). read c.args.read.now c.args.degree t) (sym (last_time-is c.args.posted.now (c.len-last.result - 1) c.time.result last c.time.ensures)) in
    let is : less c.as_slice.result.now c.deref.result.now ≡ end_difference (exchange_of c.args.degree c.args.read.now c.args.posted.now) =
    ap (λ (a : List ℤ). less a c.deref.result.now) posted
    ∙ ap (λ (b : List ℤ). less (end_values c.args.posted.now) b) taken in
    on_ok_weaker c.push_less.result (λ pushed. pushed ∙ ap (λ (b : List ℤ). c.args.entries.now.items ++ b) is) c.push_less.ensures.pushed

pub returns-clause-small : goal.returns-clause-small
returns-clause-small c =
    let last : c.len-last.result - 1 ≡ length c.args.posted.now - 1 = ap (λ (n : ℕ). n - 1) c.len-last.ensures.count in
    let posted = c.as_slice.ensures ∙ sym (end_values-last c.args.posted.now (c.len-last.result - 1) c.field.result.now last c.field.ensures) in
    let as_long : length c.read_at.new.out ≡ c.in_ok-at_end.at_end.len = search rules in
    let out : c.deref.result.now ≡ c.read_at.new.out = c.deref.ensures.value ∙ with_items_is c.in_ok-at_end.at_end c.read_at.new.out as_long in
    let taken = out ∙ c.read_at.ensures.values ∙ ap (λ (t : ℕ). read c.args.read.now c.args.degree t) (sym (last_time-is c.args.posted.now (c.len-last.result - 1) c.time.result last c.time.ensures)) in
    let is : less c.as_slice.result.now c.deref.result.now ≡ end_difference (exchange_of c.args.degree c.args.read.now c.args.posted.now) =
    ap (λ (a : List ℤ). less a c.deref.result.now) posted
    ∙ ap (λ (b : List ℤ). less (end_values c.args.posted.now) b) taken in
    on_ok_weaker c.push_less.result (λ small. subst (All IsDifference) is small) c.push_less.ensures.small

pub returns-clause-len : goal.returns-clause-len
returns-clause-len c =
    let last : c.len-last.result - 1 ≡ length c.args.posted.now - 1 = ap (λ (n : ℕ). n - 1) c.len-last.ensures.count in
    let posted = c.as_slice.ensures ∙ sym (end_values-last c.args.posted.now (c.len-last.result - 1) c.field.result.now last c.field.ensures) in
    let as_long : length c.read_at.new.out ≡ c.in_ok-at_end.at_end.len = search rules in
    let out : c.deref.result.now ≡ c.read_at.new.out = c.deref.ensures.value ∙ with_items_is c.in_ok-at_end.at_end c.read_at.new.out as_long in
    let taken = out ∙ c.read_at.ensures.values ∙ ap (λ (t : ℕ). read c.args.read.now c.args.degree t) (sym (last_time-is c.args.posted.now (c.len-last.result - 1) c.time.result last c.time.ensures)) in
    let is : less c.as_slice.result.now c.deref.result.now ≡ end_difference (exchange_of c.args.degree c.args.read.now c.args.posted.now) =
    ap (λ (a : List ℤ). less a c.deref.result.now) posted
    ∙ ap (λ (b : List ℤ). less (end_values c.args.posted.now) b) taken in
    let room : length c.deref_mut.result.now ≡ c.width.result = search (rules, length-replicate) in
    let same : length c.deref.result.now ≡ length c.as_slice.result.now =
    ap (λ (b : List ℤ). length b) out ∙ c.read_at.auto.out ∙ room ∙ c.width.ensures ∙ ap (λ (b : List ℤ). length b) (sym posted) in
    on_ok_weaker c.push_less.result (λ _. ap (λ (b : List ℤ). length b) (sym is) ∙ length-less c.as_slice.result.now c.deref.result.now same ∙ ap (λ (b : List ℤ). length b) posted) c.push_less.ensures.small
