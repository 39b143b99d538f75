use Rattle.std.proofs.Common.{◌≡◌, length, ap, sym, subst, ◌∙◌, arith}
use Rattle.wave_coupling.specs.Posts.{received}
use Rattle.participant_words.specs.Questions.{source_of}
use Rattle.participant_state.specs.Member.{Member}
use Rattle.participant_state.proofs.CallsSource.{source_within, source_is}
use Rattle.participant_state.proofs.local.Local.source.Goals as goal

pub index-requires : goal.index-requires
index-requires c =
    let s = c.self.inside in
    let taken = subst (λ (m : Member). length m.course.sources ≡ length (received m.plan m.part)) (sym c.self.view_is) c.requires.taken in
    let within = source_within s.plan c.parts-valid.ensures.valid s.part s.reads c.args.entry c.get.result s.sources.items c.self.invariant.0.read c.get.ensures taken in
    omega (arith, within, s.sources.ok.0)

pub returns : goal.returns
returns c =
    let s = c.self.inside in
    let taken = subst (λ (m : Member). length m.course.sources ≡ length (received m.plan m.part)) (sym c.self.view_is) c.requires.taken in
    c.index.ensures
    ∙ source_is s.plan c.parts-valid.ensures.valid s.part s.reads c.args.entry c.get.result s.sources.items c.index.result.now c.self.invariant.0.read c.get.ensures taken
    ∙ ap (λ (m : Member). source_of m.plan m.part m.course c.args.entry) c.self.view_is
