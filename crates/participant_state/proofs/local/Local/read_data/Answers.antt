use Rattle.std.proofs.Common.{◌≡◌, ℕ, length, slice_get, Option, None, Some, IfErr, IfSome, OnOk, ap, sym, subst, ◌∙◌}
use Rattle.std.specs.Prelude.{unwrap_or}
use Rattle.wave_coupling.specs.Known.{read_entries}
use Rattle.participant_tables.specs.ReadKept.{read_at}
use Rattle.participant_words.specs.Named.{data_on, entry_read}
use Rattle.participant_words.specs.Phases.{not_allowed}
use Rattle.participant_words.specs.Questions.{rows_read}
use Rattle.participant_words.specs.Refusals.{Refusal, needing, on_mesh}
use Rattle.participant_words.specs.declared.api_err.ApiErr.TheVariants.{NotReadable}
use Rattle.participant_words.specs.declared.phase.Call.TheVariants.{ReadData}
use Rattle.participant_state.specs.Member.{Member, data_called, mesh_called, read_called}
use Rattle.participant_state.proofs.ReadingsMean.{entry_refused, found_on, read_refused}
use Rattle.participant_state.proofs.StepRefused.{first_none, reads_running}
use Rattle.participant_state.proofs.TablesMean.{read_found}
use Rattle.participant_state.proofs.local.Local.read_data.Goals as goal

pub returns-in-None-clause-refused : goal.returns-in-None-clause-refused
returns-in-None-clause-refused c =
    let l = c.self.inside in
    let m : Member = c.args.self.now in
    let kept : entry_read m.plan m.part c.in_ok-place.place c.in_ok-data_id.data_id ≡ read_at c.in_ok-place.place c.in_ok-data_id.data_id l.reads =
    ap (λ (m : Member). entry_read m.plan m.part c.in_ok-place.place c.in_ok-data_id.data_id) (sym c.self.view_is)
    ∙ sym (read_found l.plan l.part c.in_ok-place.place c.in_ok-data_id.data_id)
    ∙ ap (read_at c.in_ok-place.place c.in_ok-data_id.data_id) (sym c.self.invariant.0.read) in
    let is : entry_read m.plan m.part c.in_ok-place.place c.in_ok-data_id.data_id ≡ None = kept ∙ sym c.in-None.ensures.first in
    let why = read_refused m.plan m.part m.course c.args.mesh.now c.args.data_name.now c.args.vertices.now c.args.at (length c.args.out.now) c.in_ok-place.place c.in_ok-data_id.data_id
    c.in_ok-place.ensures.granted c.in_ok-data_id.ensures.0
    ∙ ap (λ (o : Option ℕ). needing o NotReadable (entry_refused m.plan m.part m.course c.args.mesh.now c.args.data_name.now c.args.vertices.now c.args.at (length c.args.out.now) c.in_ok-place.place c.in_ok-data_id.data_id)) is in
    why

pub read_entry-requires-clause-running : goal.read_entry-requires-clause-running
read_entry-requires-clause-running c =
    let m : Member = c.args.self.now in
    reads_running m.course.phase (first_none (not_allowed ReadData m.course.phase) (on_mesh m.plan m.part m.course c.args.mesh.now (λ place. None)) (c.in_ok-place.ensures.granted (λ place. None)))

pub read_entry-requires-clause-mesh : goal.read_entry-requires-clause-mesh
read_entry-requires-clause-mesh c =
    let l = c.self.inside in
    let m : Member = c.args.self.now in
    let kept : entry_read m.plan m.part c.in_ok-place.place c.in_ok-data_id.data_id ≡ read_at c.in_ok-place.place c.in_ok-data_id.data_id l.reads =
    ap (λ (m : Member). entry_read m.plan m.part c.in_ok-place.place c.in_ok-data_id.data_id) (sym c.self.view_is)
    ∙ sym (read_found l.plan l.part c.in_ok-place.place c.in_ok-data_id.data_id)
    ∙ ap (read_at c.in_ok-place.place c.in_ok-data_id.data_id) (sym c.self.invariant.0.read) in
    let is : entry_read m.plan m.part c.in_ok-place.place c.in_ok-data_id.data_id ≡ Some c.in-Some.number = kept ∙ sym c.in-Some.ensures.first in
    found_on m.plan m.part c.in_ok-place.place c.in_ok-data_id.data_id c.in-Some.number is

pub returns-clause-refused : goal.returns-clause-refused
returns-clause-refused c =
    let l = c.self.inside in
    let m : Member = c.args.self.now in
    let kept : entry_read m.plan m.part c.in_ok-place.place c.in_ok-data_id.data_id ≡ read_at c.in_ok-place.place c.in_ok-data_id.data_id l.reads =
    ap (λ (m : Member). entry_read m.plan m.part c.in_ok-place.place c.in_ok-data_id.data_id) (sym c.self.view_is)
    ∙ sym (read_found l.plan l.part c.in_ok-place.place c.in_ok-data_id.data_id)
    ∙ ap (read_at c.in_ok-place.place c.in_ok-data_id.data_id) (sym c.self.invariant.0.read) in
    let is : entry_read m.plan m.part c.in_ok-place.place c.in_ok-data_id.data_id ≡ Some c.in-Some.number = kept ∙ sym c.in-Some.ensures.first in
    let why = read_refused m.plan m.part m.course c.args.mesh.now c.args.data_name.now c.args.vertices.now c.args.at (length c.args.out.now) c.in_ok-place.place c.in_ok-data_id.data_id
    c.in_ok-place.ensures.granted c.in_ok-data_id.ensures.0
    ∙ ap (λ (o : Option ℕ). needing o NotReadable (entry_refused m.plan m.part m.course c.args.mesh.now c.args.data_name.now c.args.vertices.now c.args.at (length c.args.out.now) c.in_ok-place.place c.in_ok-data_id.data_id)) is in
    subst (λ (r : Refusal). IfErr c.read_entry.result (λ error. r ≡ Some error)) (sym why) c.read_entry.ensures.refused

pub returns-clause-granted : goal.returns-clause-granted
returns-clause-granted c =
    let l = c.self.inside in
    let m : Member = c.args.self.now in
    let kept : entry_read m.plan m.part c.in_ok-place.place c.in_ok-data_id.data_id ≡ read_at c.in_ok-place.place c.in_ok-data_id.data_id l.reads =
    ap (λ (m : Member). entry_read m.plan m.part c.in_ok-place.place c.in_ok-data_id.data_id) (sym c.self.view_is)
    ∙ sym (read_found l.plan l.part c.in_ok-place.place c.in_ok-data_id.data_id)
    ∙ ap (read_at c.in_ok-place.place c.in_ok-data_id.data_id) (sym c.self.invariant.0.read) in
    let is : entry_read m.plan m.part c.in_ok-place.place c.in_ok-data_id.data_id ≡ Some c.in-Some.number = kept ∙ sym c.in-Some.ensures.first in
    let why = read_refused m.plan m.part m.course c.args.mesh.now c.args.data_name.now c.args.vertices.now c.args.at (length c.args.out.now) c.in_ok-place.place c.in_ok-data_id.data_id
    c.in_ok-place.ensures.granted c.in_ok-data_id.ensures.0
    ∙ ap (λ (o : Option ℕ). needing o NotReadable (entry_refused m.plan m.part m.course c.args.mesh.now c.args.data_name.now c.args.vertices.now c.args.at (length c.args.out.now) c.in_ok-place.place c.in_ok-data_id.data_id)) is in
    subst (λ (r : Refusal). OnOk c.read_entry.result (r ≡ None)) (sym why) c.read_entry.ensures.granted

pub returns-clause-read : goal.returns-clause-read
returns-clause-read c =
    let l = c.self.inside in
    let m : Member = c.args.self.now in
    let kept : entry_read m.plan m.part c.in_ok-place.place c.in_ok-data_id.data_id ≡ read_at c.in_ok-place.place c.in_ok-data_id.data_id l.reads =
    ap (λ (m : Member). entry_read m.plan m.part c.in_ok-place.place c.in_ok-data_id.data_id) (sym c.self.view_is)
    ∙ sym (read_found l.plan l.part c.in_ok-place.place c.in_ok-data_id.data_id)
    ∙ ap (read_at c.in_ok-place.place c.in_ok-data_id.data_id) (sym c.self.invariant.0.read) in
    let is : entry_read m.plan m.part c.in_ok-place.place c.in_ok-data_id.data_id ≡ Some c.in-Some.number = kept ∙ sym c.in-Some.ensures.first in
    let on : mesh_called m c.args.mesh.now ≡ c.in_ok-place.place = ap (λ (o : Option ℕ). unwrap_or o 0) c.in_ok-place.ensures.found.0 in
    let data_is : data_called m c.args.mesh.now c.args.data_name.now ≡ c.in_ok-data_id.data_id =
    ap (λ (p : ℕ). unwrap_or (data_on m.plan m.part p c.args.data_name.now) 0) on ∙ ap (λ (o : Option ℕ). unwrap_or o 0) c.in_ok-data_id.ensures.0 in
    let called : read_called m c.args.mesh.now c.args.data_name.now ≡ c.in-Some.number =
    ap (λ (p : ℕ). unwrap_or (entry_read m.plan m.part p (data_called m c.args.mesh.now c.args.data_name.now)) 0) on
    ∙ ap (λ (d : ℕ). unwrap_or (entry_read m.plan m.part c.in_ok-place.place d) 0) data_is ∙ ap (λ (o : Option ℕ). unwrap_or o 0) is in
    subst (λ (n : ℕ). OnOk c.read_entry.result (IfSome (slice_get (read_entries m.plan m.part) n) (λ entry. c.read_entry.new.out ≡ rows_read m.plan m.part m.course entry c.args.vertices.now c.args.at))) (sym called)
    c.read_entry.ensures.read
