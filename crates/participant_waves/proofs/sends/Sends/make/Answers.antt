use Rattle.std.proofs.Common.{◌≡◌, List, [], ◌∷◌, ◌++◌, map, All, ap, sym, subst, ◌∙◌}
use Rattle.std.proofs.lemmas.List.Elements.{All-push}
use Rattle.cpl_plan.specs.declared.parts.Exchange.{Exchange}
use Rattle.participant_words.specs.KnownByReply.{known_by}
use Rattle.participant_waves.specs.declared.sending.Sending.{Sending}
use Rattle.participant_waves.specs.SendsStand.{IsSending}
use Rattle.participant_waves.proofs.NumbersMore.{of_more, of_others}
use Rattle.participant_waves.proofs.sends.Sends.make.Goals as goal
use Rattle.participant_waves.proofs.sends.Sends.make.Goals.{then-exchange-part+in_ok-make+in_ok-push, else-exchange-part}

pub loop-x-preserved : goal.loop-x-preserved
loop-x-preserved c =
    elim c.if-exchange-part.branch [
      | then-exchange-part+in_ok-make+in_ok-push w ↦
          let items : c.if-exchange-part.sendings.items ≡ c.loop-x.sendings.items ++ w.in_ok-make.field-0 ∷ [] = cc (w.sendings-is, w.in_ok-push.ensures.items) in
          record {
            numbers = ap (map (λ (s : Sending). s.exchange)) items
                ∙ of_more c.args.plan.now.exchanges (λ (e : Exchange). e.from) c.args.part c.loop-x.x c.exchange.result.now c.exchange.ensures
                (λ (s : Sending). s.exchange) c.loop-x.sendings.items w.in_ok-make.field-0 w.if-exchange-part.true w.in_ok-make.ensures.number c.loop-x.invariant.numbers;
            each = subst (λ (ss : List Sending). All (IsSending c.args.plan.now c.args.part (known_by c.args.plan.now c.args.part c.args.own.now c.args.received.now)) ss) (sym items)
                (All-push (IsSending c.args.plan.now c.args.part (known_by c.args.plan.now c.args.part c.args.own.now c.args.received.now)) c.loop-x.sendings.items w.in_ok-make.field-0
                c.loop-x.invariant.each w.in_ok-make.ensures.sending);
          }
      | else-exchange-part w ↦
          let items : c.if-exchange-part.sendings.items ≡ c.loop-x.sendings.items = cc (w.sendings-is) in
          record {
            numbers = ap (map (λ (s : Sending). s.exchange)) items
                ∙ of_others c.args.plan.now.exchanges (λ (e : Exchange). e.from) c.args.part c.loop-x.x c.exchange.result.now c.exchange.ensures
                (λ (s : Sending). s.exchange) c.loop-x.sendings.items w.if-exchange-part.false c.loop-x.invariant.numbers;
            each = subst (λ (ss : List Sending). All (IsSending c.args.plan.now c.args.part (known_by c.args.plan.now c.args.part c.args.own.now c.args.received.now)) ss) (sym items) c.loop-x.invariant.each;
          }
    ]
