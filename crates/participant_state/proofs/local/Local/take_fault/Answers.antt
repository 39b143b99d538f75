use Rattle.participant_state.proofs.local.Local.take_fault.Goals as goal

pub returns-clause-ending : goal.returns-clause-ending
returns-clause-ending c = c.ending_by.ensures c.args.self.now.plan c.args.self.now.part c.args.self.now.course
