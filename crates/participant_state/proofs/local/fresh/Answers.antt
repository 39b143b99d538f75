use Rattle.std.proofs.Common.{refl, ◌∙◌}
use Rattle.participant_state.proofs.CallsOpening.{fresh_of_plan, fresh_filled, fresh_in_time, fresh_read, fresh_stands, nothing_kept, none_joined, no_rows, before_first}
use Rattle.participant_state.proofs.CallsFresh.{fresh_course}
use Rattle.participant_state.proofs.local.fresh.Goals as goal

pub invariant_of-result : goal.invariant_of-result
invariant_of-result c =
    let t = c.args.tables in (
      fresh_of_plan c.args.plan c.args.part t.names t.own t.writes t.reads c.parts-valid.ensures.valid c.requires.part c.requires.names c.requires.own c.requires.writes c.requires.reads,
      fresh_filled c.args.plan c.args.part t.own t.writes c.new-4.result.items c.requires.own c.requires.writes c.new-4.ensures.items,
      fresh_in_time c.args.plan c.args.part c.new-clock.result c.new-4.result.items c.new-clock.ensures c.new-4.ensures.items,
      fresh_read c.args.plan c.args.part t.own t.reads c.new-clock.result c.new-2.result.items c.new-2.ensures.items,
      none_joined c.args.plan c.args.part t.own c.from_vec.result,
      fresh_stands c.args.plan c.args.part t.own c.new-clock.result c.new-2.result.items c.new-4.result.items t.queue c.requires.waiting c.requires.out,
      (
        nothing_kept t.queue c.requires.waiting c.requires.out,
        before_first c.args.plan c.args.part c.new-clock.result c.new-4.result.items c.new-clock.ensures c.new-4.ensures.items,
        c.new-2.ensures.items,
        refl,
      ),
      no_rows _ c.new-5.result.items c.new-5.ensures.items,
    )

pub returns : goal.returns
returns c =
    let t = c.args.tables in
    fresh_course c.args.plan c.args.part t.own c.from_vec.result t.writes c.new-clock.result c.new-2.result.items c.new-3.result.items c.new-4.result.items t.queue c.new-5.result.items
    c.requires.own (c.from_vec.ensures ∙ c.new.ensures.items) c.requires.writes c.new-clock.ensures c.new-2.ensures.items c.new-3.ensures.items c.new-4.ensures.items c.requires.waiting c.requires.out c.new-5.ensures.items
