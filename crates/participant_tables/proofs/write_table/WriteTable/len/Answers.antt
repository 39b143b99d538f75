use Rattle.std.proofs.Common.{List, All, subst, ◌∙◌, arith}
use Rattle.std.proofs.lemmas.List.{take_all}
use Rattle.std.proofs.lemmas.List.Elements.{All-more}
use Rattle.participant_tables.specs.WriteKept.{WriteKept, AreSamples}
use Rattle.participant_tables.proofs.write_table.WriteTable.len.Goals as goal

pub loop-i-preserved : goal.loop-i-preserved
loop-i-preserved c =
    All-more AreSamples c.self.inside.entries.items c.loop-i.i c.index.result.now (omega (arith, c.loop-i-test.true)) c.loop-i.invariant (subst AreSamples c.index.ensures c.samples-samples.ensures.shape)

pub returns-clause-shapes : goal.returns-clause-shapes
returns-clause-shapes c =
    subst (λ (entries : List WriteKept). All AreSamples entries) (take_all c.loop-i.i c.self.inside.entries.items (omega (arith, c.loop-i-test.false)) ∙ c.self.view_is) c.loop-i.invariant
