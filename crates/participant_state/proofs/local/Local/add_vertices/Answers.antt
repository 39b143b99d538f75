use Rattle.std.proofs.Common.{◌≡◌, ◌+◌, ◌*◌, ◌/◌, ◌<◌, ℕ, List, Option, map, length, ap, sym, subst, ◌∙◌, arith}
use Rattle.std.specs.Option.{option_map_or}
use Rattle.mesh_data.specs.AnyMeshes.{dimensions_of, vertices_of}
use Rattle.mesh_data.specs.declared.any_mesh.AnyMesh.{AnyMesh}
use Rattle.cpl_plan.proofs.Readings.{there}
use Rattle.participant_words.specs.Entries.{dimensions_at, grown_buffers, points_in, size_at}
use Rattle.participant_words.specs.declared.phase.EventKind.{EventKind}
use Rattle.participant_words.specs.declared.phase.Phase.{Phase}
use Rattle.participant_tables.specs.AtPlace.{at_place}
use Rattle.participant_tables.specs.Vertices.{with_points}
use Rattle.participant_tables.specs.WriteKept.{WriteKept}
use Rattle.participant_tables.specs.WriteSteps.{HaveNoSamples, HaveVertices, grown}
use Rattle.participant_tables.proofs.Results.{told_ok, told_err}
use Rattle.participant_state.specs.Agenda.{agenda, Stands, StandsIn}
use Rattle.participant_state.specs.Kept.{buffers_of, written_in}
use Rattle.participant_state.specs.Member.{Member}
use Rattle.participant_state.proofs.CallsVertices.{few_points, fresh_joined, fresh_still_read, grown_fresh, grown_has, points_many, shrunk_back, told_at, vertices_done, vertices_filled, vertices_of_plan}
use Rattle.participant_state.proofs.TablesMean.{same_written}
use Rattle.participant_state.proofs.VerticesSet.{buffers_grown, points_set, samples_kept}
use Rattle.participant_state.proofs.local.Local.add_vertices.Goals as goal

pub overflow_add-before : goal.overflow_add-before
overflow_add-before c =
    let s = c.self.inside in
    let within = subst (λ (m : Member). c.args.place < length m.course.own) (sym c.self.view_is) c.requires.place in
    let mesh = there s.own c.args.place within in
    let dims = told_at s.own c.args.place c.dimensions.result dimensions_of mesh.0 mesh.1 c.dimensions.ensures in
    let same = dims ∙ sym (ap (λ (o : Option AnyMesh). option_map_or dimensions_of o 0) mesh.1) ∙ ap (λ (m : Member). dimensions_at m.course c.args.place) c.self.view_is in
    let whole = subst (λ (d : ℕ). length c.args.points.now / d * d ≡ length c.args.points.now) (sym same) c.requires.whole in
    omega (arith, few_points mesh.0 c.dimensions.result (length c.args.points.now) dims whole, c.vertices_at-size.ensures.few)

pub shrink-requires-clause-vertices : goal.shrink-requires-clause-vertices
shrink-requires-clause-vertices c =
    let s = c.self.inside in
    let v = c.self.invariant in
    let within = subst (λ (m : Member). c.args.place < length m.course.own) (sym c.self.view_is) c.requires.place in
    let mesh = there s.own c.args.place within in
    let size =
    c.vertices_at-size.ensures.size ∙ ap (λ (m : Member). size_at m.course c.args.place) (sym c.self.view_is)
    ∙ ap (λ (o : Option AnyMesh). option_map_or (λ g. length (vertices_of g)) o 0) mesh.1 in
    let grew : c.grow.new.self ≡ map (grown c.args.place (length c.args.points.now / c.dimensions.result)) s.writes =
    told_ok c.grow.result _ (sym c.is_err.ensures.value ∙ c.if-is_err.false) c.grow.ensures.grown in
    subst (λ (ws : List WriteKept). HaveVertices c.args.place (c.vertices_at-size.result + length c.args.points.now / c.dimensions.result) ws) (sym grew)
    (grown_has s.own s.writes s.times.items v.1 c.args.place c.vertices_at-size.result (length c.args.points.now / c.dimensions.result) mesh.0 mesh.1 size)

pub shrink-requires-clause-fresh : goal.shrink-requires-clause-fresh
shrink-requires-clause-fresh c =
    let s = c.self.inside in
    let v = c.self.invariant in
    let within = subst (λ (m : Member). c.args.place < length m.course.own) (sym c.self.view_is) c.requires.place in
    let mesh = there s.own c.args.place within in
    let phase = ap (λ (m : Member). m.course.phase) c.self.view_is ∙ c.requires.fresh in
    let first = subst (λ (p : Phase). StandsIn s.plan s.part s.own s.clock s.passages s.inputs.items s.times.items p (agenda s.queue)) phase v.6 in
    let grew : c.grow.new.self ≡ map (grown c.args.place (length c.args.points.now / c.dimensions.result)) s.writes =
    told_ok c.grow.result _ (sym c.is_err.ensures.value ∙ c.if-is_err.false) c.grow.ensures.grown in
    subst HaveNoSamples (sym grew) (grown_fresh s.own s.writes s.times.items v.1 c.args.place (length c.args.points.now / c.dimensions.result) first.1.steps)

pub invariant_of-self-then-is_err-2 : goal.invariant_of-self-then-is_err-2
invariant_of-self-then-is_err-2 c =
    let s = c.self.inside in
    let v = c.self.invariant in
    let within = subst (λ (m : Member). c.args.place < length m.course.own) (sym c.self.view_is) c.requires.place in
    let mesh = there s.own c.args.place within in
    let size =
    c.vertices_at-size.ensures.size ∙ ap (λ (m : Member). size_at m.course c.args.place) (sym c.self.view_is)
    ∙ ap (λ (o : Option AnyMesh). option_map_or (λ g. length (vertices_of g)) o 0) mesh.1 in
    let grew : c.grow.new.self ≡ map (grown c.args.place (length c.args.points.now / c.dimensions.result)) s.writes =
    told_ok c.grow.result _ (sym c.is_err.ensures.value ∙ c.if-is_err.false) c.grow.ensures.grown in
    let kept : c.add_points.new.self ≡ s.own = told_err c.add_points.result _ (sym c.is_err-2.ensures.value ∙ c.if-is_err-2.true) c.add_points.ensures.unchanged in
    let back : c.shrink.new.self ≡ s.writes =
    c.shrink.ensures
    ∙ shrunk_back s.own s.writes s.times.items v.1 c.args.place c.vertices_at-size.result (length c.args.points.now / c.dimensions.result) mesh.0 c.grow.new.self mesh.1 size grew in
    rw (kept, back) c.self.invariant

pub returns-then-is_err-2-clause-unchanged : goal.returns-then-is_err-2-clause-unchanged
returns-then-is_err-2-clause-unchanged c =
    let s = c.self.inside in
    let v = c.self.invariant in
    let within = subst (λ (m : Member). c.args.place < length m.course.own) (sym c.self.view_is) c.requires.place in
    let mesh = there s.own c.args.place within in
    let size =
    c.vertices_at-size.ensures.size ∙ ap (λ (m : Member). size_at m.course c.args.place) (sym c.self.view_is)
    ∙ ap (λ (o : Option AnyMesh). option_map_or (λ g. length (vertices_of g)) o 0) mesh.1 in
    let grew : c.grow.new.self ≡ map (grown c.args.place (length c.args.points.now / c.dimensions.result)) s.writes =
    told_ok c.grow.result _ (sym c.is_err.ensures.value ∙ c.if-is_err.false) c.grow.ensures.grown in
    let kept : c.add_points.new.self ≡ s.own = told_err c.add_points.result _ (sym c.is_err-2.ensures.value ∙ c.if-is_err-2.true) c.add_points.ensures.unchanged in
    let back : c.shrink.new.self ≡ s.writes =
    c.shrink.ensures
    ∙ shrunk_back s.own s.writes s.times.items v.1 c.args.place c.vertices_at-size.result (length c.args.points.now / c.dimensions.result) mesh.0 c.grow.new.self mesh.1 size grew in
    rw (kept, back) c.self.view_is

pub invariant_of-self-else-is_err-2 : goal.invariant_of-self-else-is_err-2
invariant_of-self-else-is_err-2 c =
    let s = c.self.inside in
    let v = c.self.invariant in
    let within = subst (λ (m : Member). c.args.place < length m.course.own) (sym c.self.view_is) c.requires.place in
    let mesh = there s.own c.args.place within in
    let phase = ap (λ (m : Member). m.course.phase) c.self.view_is ∙ c.requires.fresh in
    let first = subst (λ (p : Phase). StandsIn s.plan s.part s.own s.clock s.passages s.inputs.items s.times.items p (agenda s.queue)) phase v.6 in
    let grew : c.grow.new.self ≡ map (grown c.args.place (length c.args.points.now / c.dimensions.result)) s.writes =
    told_ok c.grow.result _ (sym c.is_err.ensures.value ∙ c.if-is_err.false) c.grow.ensures.grown in
    let added : c.add_points.new.self ≡ at_place (with_points c.args.points.now) c.args.place s.own =
    told_ok c.add_points.result _ (sym c.is_err-2.ensures.value ∙ c.if-is_err-2.false) c.add_points.ensures.added in
    let dims = told_at s.own c.args.place c.dimensions.result dimensions_of mesh.0 mesh.1 c.dimensions.ensures in
    let own = at_place (with_points c.args.points.now) c.args.place s.own in
    let many = ap (λ (d : ℕ). length c.args.points.now / d) dims in
    rw (added, grew) (
      vertices_of_plan s.plan s.part s.names s.own s.writes s.reads c.args.points.now c.args.place (length c.args.points.now / c.dimensions.result) v.0,
      vertices_filled s.own s.writes s.times.items v.1 c.args.place mesh.0 c.args.points.now (length c.args.points.now / c.dimensions.result) mesh.1 many,
      v.2,
      fresh_still_read s.own own s.reads s.clock s.inputs.items first.2 v.3,
      fresh_joined s.plan s.part own s.received s.passages first.3,
      subst (λ (kinds : List EventKind). Stands s.plan s.part own s.clock s.passages s.inputs.items s.times.items kinds) (sym first.0) tt,
      subst (λ (p : Phase). StandsIn s.plan s.part own s.clock s.passages s.inputs.items s.times.items p (agenda s.queue)) (sym phase) first,
      v.7,
    )

pub returns-clause-done : goal.returns-clause-done
returns-clause-done c =
    let s = c.self.inside in
    let v = c.self.invariant in
    let within = subst (λ (m : Member). c.args.place < length m.course.own) (sym c.self.view_is) c.requires.place in
    let mesh = there s.own c.args.place within in
    let grew : c.grow.new.self ≡ map (grown c.args.place (length c.args.points.now / c.dimensions.result)) s.writes =
    told_ok c.grow.result _ (sym c.is_err.ensures.value ∙ c.if-is_err.false) c.grow.ensures.grown in
    let added : c.add_points.new.self ≡ at_place (with_points c.args.points.now) c.args.place s.own =
    told_ok c.add_points.result _ (sym c.is_err-2.ensures.value ∙ c.if-is_err-2.false) c.add_points.ensures.added in
    let dims = told_at s.own c.args.place c.dimensions.result dimensions_of mesh.0 mesh.1 c.dimensions.ensures in
    let d = dimensions_at c.args.self.now.course c.args.place in
    let here = ap (λ (m : Member). dimensions_at m.course c.args.place) c.self.view_is in
    let same = dims ∙ sym (ap (λ (o : Option AnyMesh). option_map_or dimensions_of o 0) mesh.1) ∙ here in
    let more = ap (λ (n : ℕ). length c.args.points.now / n) same ∙ sym (points_many d c.args.points.now) in
    vertices_done _ c.args.self.now c.add_points.new.self (buffers_of c.grow.new.self) (written_in s.clock.window s.clock.iteration s.times.items c.grow.new.self)
    c.args.place (points_in d c.args.points.now) c.self.view_is
    (added ∙ points_set s.own c.args.place c.args.points.now d here)
    (ap buffers_of grew ∙ buffers_grown s.plan s.part c.args.place (length c.args.points.now / c.dimensions.result) s.writes v.0.written
    ∙ ap (λ (n : ℕ). grown_buffers s.plan s.part c.args.place n (buffers_of s.writes)) more)
    (ap (written_in s.clock.window s.clock.iteration s.times.items) grew
    ∙ same_written s.clock.window s.clock.iteration s.times.items (map (grown c.args.place (length c.args.points.now / c.dimensions.result)) s.writes) s.writes
    (samples_kept c.args.place (length c.args.points.now / c.dimensions.result) s.writes))
