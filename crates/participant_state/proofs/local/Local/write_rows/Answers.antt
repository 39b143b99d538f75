use Rattle.std.proofs.Common.{◌≡◌, ◌*◌, ◌<◌, ◌∷◌, [], List, Some, None, length, slice_get, ap, sym, subst, ◌∙◌, arith}
use Rattle.std.specs.Prelude.{IfSome}
use Rattle.cpl_plan.proofs.Readings.{there}
use Rattle.wave_coupling.specs.Known.{write_entries}
use Rattle.participant_words.specs.Entries.{components_written, size_at}
use Rattle.participant_words.specs.Named.{place_of}
use Rattle.participant_words.specs.Refusals.{bad_value}
use Rattle.participant_words.specs.declared.api_err.ApiErr.TheVariants.{BadLength, ValueRange}
use Rattle.participant_tables.specs.AtPlace.{at_place}
use Rattle.participant_tables.specs.WriteKept.{WriteKept}
use Rattle.participant_tables.specs.WriteSteps.{written}
use Rattle.participant_state.specs.Kept.{buffers_of, written_in}
use Rattle.participant_state.specs.Member.{Member}
use Rattle.participant_state.specs.Together.{AreFilled, IsOfPlan}
use Rattle.participant_state.proofs.CallsRows.{have_rows, length_refused, rows_done, rows_granted, still_filled, still_of_plan, value_refused}
use Rattle.participant_state.proofs.CallsWriting.{all_inside, components_told, len_told, thrice, told_refusal, written_few}
use Rattle.participant_state.proofs.TablesMean.{rows_written, same_written, samples_untouched}
use Rattle.participant_state.proofs.local.Local.write_rows.Goals as goal

pub overflow_mul-want : goal.overflow_mul-want
overflow_mul-want c =
    let s = c.self.inside in
    let counted = components_told s.plan s.part s.writes c.self.invariant.0.written c.args.entry c.components.result c.components.ensures in
    let few = written_few s.plan c.parts-valid.ensures.valid s.part c.args.entry in
    omega (arith, thrice (length c.args.vertices.now) c.components.result (omega (arith, few, counted)))

pub returns-then-values-want-clause-refused : goal.returns-then-values-want-clause-refused
returns-then-values-want-clause-refused c =
    let s = c.self.inside in
    let now = c.args.self.now in
    let counted =
    components_told s.plan s.part s.writes c.self.invariant.0.written c.args.entry c.components.result c.components.ensures
    ∙ ap (λ (m : Member). components_written m.plan m.part c.args.entry) c.self.view_is in
    let none = sym c.in_default.ensures.first in
    told_refusal c.vertices_at-size.result (size_at now.course c.args.place) c.components.result (components_written now.plan now.part c.args.entry)
    c.args.vertices.now c.args.values.now c.vertices_at-size.ensures.size counted
    (Some (BadLength (length c.args.vertices.now * c.components.result) (length c.args.values.now)))
    (length_refused c.vertices_at-size.result c.args.vertices.now none (length c.args.vertices.now * c.components.result) (length c.args.values.now)
    (bad_value c.args.values.now ∷ []) c.if-values-want.true)

pub returns-in-Some-first_bad_value-clause-refused : goal.returns-in-Some-first_bad_value-clause-refused
returns-in-Some-first_bad_value-clause-refused c =
    let s = c.self.inside in
    let now = c.args.self.now in
    let counted =
    components_told s.plan s.part s.writes c.self.invariant.0.written c.args.entry c.components.result c.components.ensures
    ∙ ap (λ (m : Member). components_written m.plan m.part c.args.entry) c.self.view_is in
    let none = sym c.in_default.ensures.first in
    told_refusal c.vertices_at-size.result (size_at now.course c.args.place) c.components.result (components_written now.plan now.part c.args.entry)
    c.args.vertices.now c.args.values.now c.vertices_at-size.ensures.size counted
    (Some (ValueRange c.in-Some-first_bad_value.index))
    (value_refused c.vertices_at-size.result c.args.vertices.now none (length c.args.vertices.now * c.components.result) c.args.values.now
    c.in-Some-first_bad_value.index c.if-values-want.false (sym c.in-Some-first_bad_value.ensures.first))

pub returns-clause-granted : goal.returns-clause-granted
returns-clause-granted c =
    let s = c.self.inside in
    let now = c.args.self.now in
    let counted =
    components_told s.plan s.part s.writes c.self.invariant.0.written c.args.entry c.components.result c.components.ensures
    ∙ ap (λ (m : Member). components_written m.plan m.part c.args.entry) c.self.view_is in
    let none = sym c.in_default.ensures.first in
    told_refusal c.vertices_at-size.result (size_at now.course c.args.place) c.components.result (components_written now.plan now.part c.args.entry)
    c.args.vertices.now c.args.values.now c.vertices_at-size.ensures.size counted None
    (rows_granted c.vertices_at-size.result c.args.vertices.now none (length c.args.vertices.now * c.components.result) c.args.values.now
    c.if-values-want.false (sym c.in_default-first_bad_value.ensures.first))

pub write-requires-clause-vertices : goal.write-requires-clause-vertices
write-requires-clause-vertices c =
    let s = c.self.inside in
    let within = subst (λ (m : Member). c.args.place < length m.course.own) (sym c.self.view_is) c.requires.place in
    let on = subst (λ (m : Member). IfSome (slice_get (write_entries m.plan m.part) c.args.entry) (λ e. place_of m.plan m.part e.mesh ≡ c.args.place)) (sym c.self.view_is) c.requires.mesh in
    let mesh = there s.own c.args.place within in
    let size = c.vertices_at-size.ensures.size ∙ ap (λ (m : Member). size_at m.course c.args.place) (sym c.self.view_is) in
    let inside = all_inside s.own c.args.place c.vertices_at-size.result mesh.0 c.args.vertices.now mesh.1 size c.in_default.ensures.none in
    have_rows s.plan s.part s.own s.writes s.times.items c.self.invariant.1 c.self.invariant.0.written c.args.place c.args.entry on mesh.0 mesh.1 c.args.vertices.now inside

pub invariant_of-self : goal.invariant_of-self
invariant_of-self c =
    let s = c.self.inside in
    let v = c.self.invariant in
    let within = subst (λ (m : Member). c.args.place < length m.course.own) (sym c.self.view_is) c.requires.place in
    let on = subst (λ (m : Member). IfSome (slice_get (write_entries m.plan m.part) c.args.entry) (λ e. place_of m.plan m.part e.mesh ≡ c.args.place)) (sym c.self.view_is) c.requires.mesh in
    let mesh = there s.own c.args.place within in
    let size = c.vertices_at-size.ensures.size ∙ ap (λ (m : Member). size_at m.course c.args.place) (sym c.self.view_is) in
    let inside = all_inside s.own c.args.place c.vertices_at-size.result mesh.0 c.args.vertices.now mesh.1 size c.in_default.ensures.none in
    let len = len_told s.writes c.args.entry c.components.result (length c.args.vertices.now) (length c.args.values.now) c.components.ensures c.if-values-want.false in (
      subst (λ (ws : List WriteKept). IsOfPlan s.plan s.part s.names s.own ws s.reads) (sym c.write.ensures)
          (still_of_plan s.plan s.part s.names s.own s.writes s.reads c.args.entry c.args.vertices.now c.args.values.now v.0),
      subst (λ (ws : List WriteKept). AreFilled s.own ws s.times.items) (sym c.write.ensures)
          (still_filled s.plan s.part s.own s.writes s.times.items v.1 v.0.written c.args.place c.args.entry on mesh.0 mesh.1 c.args.vertices.now inside c.args.values.now len),
      v.2,
      v.3,
      v.4,
      v.5,
      v.6,
      v.7,
    )

pub returns-clause-done : goal.returns-clause-done
returns-clause-done c =
    let s = c.self.inside in
    let changed = at_place (written c.args.vertices.now c.args.values.now) c.args.entry s.writes in
    rows_done _ c.args.self.now (buffers_of c.write.new.self) (written_in s.clock.window s.clock.iteration s.times.items c.write.new.self)
    c.args.entry c.args.vertices.now c.args.values.now c.self.view_is
    (ap buffers_of c.write.ensures ∙ rows_written s.plan s.part s.writes c.self.invariant.0.written c.args.entry c.args.vertices.now c.args.values.now)
    (ap (written_in s.clock.window s.clock.iteration s.times.items) c.write.ensures
    ∙ same_written s.clock.window s.clock.iteration s.times.items changed s.writes (samples_untouched s.writes c.args.entry c.args.vertices.now c.args.values.now))
