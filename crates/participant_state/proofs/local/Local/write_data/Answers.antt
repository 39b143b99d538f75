use Rattle.std.proofs.Common.{◌≡◌, ℕ, Some, None, ap, sym, ◌∙◌}
use Rattle.participant_words.specs.Deeds.{writes}
use Rattle.participant_words.specs.Entries.{components_written, size_at}
use Rattle.participant_words.specs.Named.{entry_written}
use Rattle.participant_words.specs.Refusals.{refusal_of_write_data}
use Rattle.participant_state.specs.Member.{Member, did, written_called}
use Rattle.participant_state.proofs.CallsCalled.{called_is, err_by, ok_by, write_refused}
use Rattle.participant_state.proofs.CallsWriting.{entry_found_on, rows_refusal}
use Rattle.participant_state.proofs.TablesMean.{written_found}
use Rattle.participant_state.proofs.local.Local.write_data.Goals as goal

pub returns-in-None-clause-refused : goal.returns-in-None-clause-refused
returns-in-None-clause-refused c =
    let s = c.self.inside in
    let now = c.args.self.now in
    let kept = sym (ap (λ (m : Member). entry_written m.plan m.part c.in_ok-place.place c.in_ok-data_id.data_id) c.self.view_is)
    ∙ sym (written_found s.plan s.part s.writes c.self.invariant.0.written c.in_ok-place.place c.in_ok-data_id.data_id) in
    write_refused now.plan now.part now.course c.args.mesh.now c.args.data_name.now c.args.vertices.now c.args.values.now
    c.in_ok-place.place c.in_ok-data_id.data_id None c.in_ok-place.ensures.granted c.in_ok-data_id.ensures.0 (kept ∙ sym c.in-None.ensures.first)

pub write_rows-requires-clause-mesh : goal.write_rows-requires-clause-mesh
write_rows-requires-clause-mesh c =
    let s = c.self.inside in
    let now = c.args.self.now in
    let kept = sym (ap (λ (m : Member). entry_written m.plan m.part c.in_ok-place.place c.in_ok-data_id.data_id) c.self.view_is)
    ∙ sym (written_found s.plan s.part s.writes c.self.invariant.0.written c.in_ok-place.place c.in_ok-data_id.data_id) in
    entry_found_on now.plan now.part c.in_ok-place.place c.in_ok-data_id.data_id c.in-Some.entry (kept ∙ sym c.in-Some.ensures.first)

pub returns-clause-refused : goal.returns-clause-refused
returns-clause-refused c =
    let s = c.self.inside in
    let now = c.args.self.now in
    let kept = sym (ap (λ (m : Member). entry_written m.plan m.part c.in_ok-place.place c.in_ok-data_id.data_id) c.self.view_is)
    ∙ sym (written_found s.plan s.part s.writes c.self.invariant.0.written c.in_ok-place.place c.in_ok-data_id.data_id) in
    let same =
    write_refused now.plan now.part now.course c.args.mesh.now c.args.data_name.now c.args.vertices.now c.args.values.now
    c.in_ok-place.place c.in_ok-data_id.data_id (Some c.in-Some.entry) c.in_ok-place.ensures.granted c.in_ok-data_id.ensures.0 (kept ∙ sym c.in-Some.ensures.first) in
    let one = rows_refusal (size_at now.course c.in_ok-place.place) (components_written now.plan now.part c.in-Some.entry) c.args.vertices.now c.args.values.now in
    err_by c.write_rows.result one (refusal_of_write_data now.plan now.part now.course c.args.mesh.now c.args.data_name.now c.args.vertices.now c.args.values.now)
    same c.write_rows.ensures.refused

pub returns-clause-granted : goal.returns-clause-granted
returns-clause-granted c =
    let s = c.self.inside in
    let now = c.args.self.now in
    let kept = sym (ap (λ (m : Member). entry_written m.plan m.part c.in_ok-place.place c.in_ok-data_id.data_id) c.self.view_is)
    ∙ sym (written_found s.plan s.part s.writes c.self.invariant.0.written c.in_ok-place.place c.in_ok-data_id.data_id) in
    let same =
    write_refused now.plan now.part now.course c.args.mesh.now c.args.data_name.now c.args.vertices.now c.args.values.now
    c.in_ok-place.place c.in_ok-data_id.data_id (Some c.in-Some.entry) c.in_ok-place.ensures.granted c.in_ok-data_id.ensures.0 (kept ∙ sym c.in-Some.ensures.first) in
    let one = rows_refusal (size_at now.course c.in_ok-place.place) (components_written now.plan now.part c.in-Some.entry) c.args.vertices.now c.args.values.now in
    ok_by c.write_rows.result (one ≡ None) (refusal_of_write_data now.plan now.part now.course c.args.mesh.now c.args.data_name.now c.args.vertices.now c.args.values.now ≡ None)
    (λ told. same ∙ told) c.write_rows.ensures.granted

pub returns-clause-done : goal.returns-clause-done
returns-clause-done c =
    let s = c.self.inside in
    let now = c.args.self.now in
    let kept = sym (ap (λ (m : Member). entry_written m.plan m.part c.in_ok-place.place c.in_ok-data_id.data_id) c.self.view_is)
    ∙ sym (written_found s.plan s.part s.writes c.self.invariant.0.written c.in_ok-place.place c.in_ok-data_id.data_id) in
    let called =
    called_is now c.args.mesh.now c.args.data_name.now c.in_ok-place.place c.in_ok-data_id.data_id c.in-Some.entry
    c.in_ok-place.ensures.found.0 c.in_ok-data_id.ensures.0 (kept ∙ sym c.in-Some.ensures.first) in
    ok_by c.write_rows.result (c.write_rows.new.self ≡ did now (writes c.in-Some.entry c.args.vertices.now c.args.values.now))
    (c.write_rows.new.self ≡ did now (writes (written_called now c.args.mesh.now c.args.data_name.now) c.args.vertices.now c.args.values.now))
    (λ told. told ∙ ap (λ (e : ℕ). did now (writes e c.args.vertices.now c.args.values.now)) (sym called)) c.write_rows.ensures.done
