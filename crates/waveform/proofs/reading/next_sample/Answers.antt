use Rattle.std.proofs.Common.{◌≡◌, ◌-◌, ◌<◌, ◌≤◌, inl, inr, true, false, ltb, get_or, length, arith, rules}
use Rattle.std.specs.List.Sorted.{IsPartitionPoint}
use Rattle.std.proofs.lemmas.Bool.{ltb-true, ltb-false, cases_lt}
use Rattle.std.proofs.lemmas.List.Sorted.{IsPartitionPoint-from_clause, IsPartitionedBy-ltb}
use Rattle.waveform.specs.IsWave.{last_time}
use Rattle.waveform.specs.declared.sample.Sample.{Sample}
use Rattle.waveform.proofs.Places.{IsNonDecreasingBy-rises, no_sample, time-is}
use Rattle.waveform.proofs.reading.next_sample.Goals as goal

parted : (c : goal.After-partition_point) → IsPartitionPoint (λ (s : Sample). ltb s.time c.args.t ≡ true) (λ (s : Sample). ltb s.time c.args.t ≡ false) c.args.samples.now c.partition_point.result
parted c =
    IsPartitionPoint-from_clause (λ (s : Sample). ltb s.time c.args.t) c.args.samples.now c.partition_point.result c.partition_point.ensures.partitioned
    (IsPartitionedBy-ltb (λ (s : Sample). s.time) c.args.samples.now c.args.t (IsNonDecreasingBy-rises c.args.samples.now c.requires.wave.rising))
    (λ a r q k. search rules)

pub returns-clause-before : goal.returns-clause-before
returns-clause-before c = λ k d low h. ltb-true (get_or c.args.samples.now k d).time c.args.t ((parted c).0 k d low h)

pub returns-clause-later : goal.returns-clause-later
returns-clause-later c = λ k d low h. ltb-false (get_or c.args.samples.now k d).time c.args.t ((parted c).1 k d low h)

last_before : (c : goal.After-partition_point) → length c.args.samples.now ≤ c.partition_point.result → last_time c.args.samples.now < c.args.t
last_before c past =
    rw (time-is c.args.samples.now (length c.args.samples.now - 1) (omega (arith, c.requires.wave.least)))
    (ltb-true (get_or c.args.samples.now (length c.args.samples.now - 1) no_sample).time c.args.t
    ((parted c).0 (length c.args.samples.now - 1) no_sample (omega arith) (omega (arith, c.requires.wave.least))))

pub returns-clause-inside : goal.returns-clause-inside
returns-clause-inside c =
    elim (cases_lt c.partition_point.result (length c.args.samples.now)) [
      | inl inside ↦ inside
      | inr past ↦ absurd (omega (arith, last_before c past, c.requires.time))
    ]
