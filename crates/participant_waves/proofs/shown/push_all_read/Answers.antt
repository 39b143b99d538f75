use Rattle.std.proofs.Common.{◌≡◌, ◌++◌, nat_eq, List, [], ℤ, Vec, Global, get_or, slice_get, Option, ap, sym, ◌∙◌}
use Rattle.std.specs.Prelude.{option_map}
use Rattle.std.specs.Option.{option_map_or}
use Rattle.std.proofs.lemmas.Bool.{eq-eqb, ne_eqb}
use Rattle.std.proofs.lemmas.List.{get_or_default}
use Rattle.std.proofs.lemmas.Option.{same_Some, slice_get-map, slice_get-get_or}
use Rattle.cpl_plan.specs.declared.parts.Part.{Part}
use Rattle.cpl_plan.specs.declared.parts.PlanEntry.{PlanEntry}
use Rattle.wave_coupling.specs.Known.{read_entries}
use Rattle.participant_tables.specs.ReadKept.{opening_read}
use Rattle.participant_tables.specs.declared.read_table.ReadEntry.{ReadEntry}
use Rattle.participant_waves.specs.RowsKept.{entry_read}
use Rattle.participant_waves.proofs.FilteredMore.{pushed, skipped}
use Rattle.participant_waves.proofs.shown.push_all_read.Goals.{then-entries-i+in_ok-push_entry_read, else-entries-i}
use Rattle.participant_waves.proofs.shown.push_all_read.Goals as goal

pub loop-i-preserved : goal.loop-i-preserved
loop-i-preserved c =
    let entries : List PlanEntry = c.as_slice-entries.result.now in
    let none : PlanEntry = record { data_id = 0; mesh = 0 } in
    let entry : PlanEntry = get_or entries c.loop-i.i none in
    let shown : PlanEntry → List ℤ = λ e. entry_read c.args.inputs.now c.args.now c.args.vertex (opening_read c.args.plan.now c.args.part e) in
    let at : entry ≡ get_or entries c.loop-i.i entry = get_or_default entries c.loop-i.i none entry c.loop-i-test.true in
    elim c.if-entries-i.branch [
      | then-entries-i+in_ok-push_entry_read w ↦
          let listed : entries ≡ read_entries c.args.plan.now c.args.part = c.as_slice-entries.ensures ∙ sym (ap (λ (o : Option Part). option_map_or (λ q. q.reads) o []) c.part.ensures) in
          let kept : w.get.result ≡ opening_read c.args.plan.now c.args.part entry =
          same_Some w.get.result (opening_read c.args.plan.now c.args.part entry)
          (sym w.get.ensures ∙ ap (λ (rs : List ReadEntry). slice_get rs c.loop-i.i) c.requires.opened
          ∙ slice_get-map (opening_read c.args.plan.now c.args.part) (read_entries c.args.plan.now c.args.part) c.loop-i.i
          ∙ ap (λ (es : List PlanEntry). option_map (opening_read c.args.plan.now c.args.part) (slice_get es c.loop-i.i)) (sym listed)
          ∙ ap (option_map (opening_read c.args.plan.now c.args.part)) (slice_get-get_or entries c.loop-i.i none c.loop-i-test.true)) in
          pushed shown (λ e. nat_eq e.mesh c.args.mesh) entries c.loop-i.i entry c.loop-i-test.true at c.args.values.now.items c.loop-i.values.items c.if-entries-i.values.items
          c.loop-i.invariant
          (ap (λ (v : Vec ℤ Global). v.items) w.values-is ∙ w.in_ok-push_entry_read.ensures ∙ ap (λ (e : ReadEntry). c.loop-i.values.items ++ entry_read c.args.inputs.now c.args.now c.args.vertex e) kept)
          (eq-eqb entry.mesh c.args.mesh w.if-entries-i.true)
      | else-entries-i w ↦
          skipped shown (λ e. nat_eq e.mesh c.args.mesh) entries c.loop-i.i entry c.loop-i-test.true at c.args.values.now.items c.loop-i.values.items c.if-entries-i.values.items
          c.loop-i.invariant (ap (λ (v : Vec ℤ Global). v.items) w.values-is) (ne_eqb entry.mesh c.args.mesh w.if-entries-i.false)
    ]
