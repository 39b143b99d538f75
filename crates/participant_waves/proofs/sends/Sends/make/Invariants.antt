use Rattle.std.proofs.Common.{◌≡◌, nat_eq, map, All}
use Rattle.std.specs.List.{filter, range_with_len}
use Rattle.cpl_plan.specs.PlanWords.{passes}
use Rattle.participant_words.specs.KnownByReply.{known_by}
use Rattle.participant_waves.specs.SendsStand.{IsSending}
use Rattle.participant_waves.proofs.sends.Sends.make.Given as goal

abbrev pub invariant-loop-x : goal.invariant-loop-x
invariant-loop-x l = record {
  numbers : map (λ s. s.exchange) l.sendings.items ≡ filter (λ x. passes l.plan.exchanges x (λ e. nat_eq e.from l.part)) (range_with_len 0 l.x);
  each : All (IsSending l.plan l.part (known_by l.plan l.part l.own l.received)) l.sendings.items;
}
