use Rattle.std.proofs.Common.{sym, ◌∙◌}
use Rattle.participant_waves.proofs.StepsKept.{written_there}
use Rattle.participant_waves.proofs.shown.push_entry_written.Goals as goal

pub push_written_at-requires-clause-written : goal.push_written_at-requires-clause-written
push_written_at-requires-clause-written c =
    written_there c.args.entries.now c.args.writes.now c.args.entry c.in-Some.place c.args.vertex c.requires (sym c.place_of.ensures ∙ c.in-Some.is)
