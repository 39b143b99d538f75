-- What is kept of the entries that a participant writes can be sent: the entry is there, and its samples have values for the vertices that are mapped from.
use Rattle.std.proofs.Common.{◌≡◌, ℕ, ◌*◌, ◌≤◌, nat_eq, List, [], ◌∷◌, length, get_or, Option, None, Some, IfSome, All, refl, ap, sym, subst, ◌∙◌, arith, mul_comm}
use Rattle.std.specs.Option.{option_map_or}
use Rattle.std.proofs.lemmas.Bool.{and_parts, eqb-true}
use Rattle.std.proofs.lemmas.List.{get_or-map}
use Rattle.std.proofs.lemmas.List.Elements.{All-cons, All-contains}
use Rattle.std.proofs.lemmas.Option.{get_or_from_slice_get, slice_get_within}
use Rattle.waveform.specs.Shape.{IsLike}
use Rattle.waveform.specs.declared.sample.Sample.{Sample}
use Rattle.cpl_plan.specs.declared.parts.PlanParts.{PlanParts}
use Rattle.cpl_plan.specs.declared.parts.PlanEntry.{PlanEntry}
use Rattle.wave_coupling.specs.Posts.{Wave}
use Rattle.wave_coupling.specs.Noted.{Written}
use Rattle.wave_coupling.specs.Known.{Known, points_of, width_of, write_entries, write_mesh}
use Rattle.wave_maps.specs.declared.wave_map.WaveMap.{WaveMap}
use Rattle.wave_maps.specs.MappedThrough.{sources_of}
use Rattle.wave_laws.proofs.Stills.{slice_in}
use Rattle.participant_tables.specs.WriteKept.{WriteKept, AreSamples, field_of}
use Rattle.participant_waves.specs.Passages.{CanPass, HasSources}
use Rattle.participant_waves.specs.declared.sending.Sending.{Sending}
use Rattle.participant_waves.specs.declared.sends.Sends.{Sends}
use Rattle.participant_waves.specs.SendsStand.{IsSending, AreSends, CanSend, CanSendInitial}
use Rattle.participant_waves.specs.Written.{AreEntries, AreWritten}
use Rattle.participant_waves.proofs.SendsMean.{entry_sent, place, kept, components_kept, lengths}

module _ (plan : PlanParts) (part : ℕ) (known : Known) (writes : List WriteKept) (entries : AreEntries plan part known writes) (s : Sending) (is : IsSending plan part known s) where
  abbrev points : ℕ
  points = length (points_of plan part known (write_mesh plan part s.sent))

  width_kept : length (kept plan part known writes entries s is).0.values ≡ s.components * points
  width_kept =
      let e : WriteKept = (kept plan part known writes entries s is).0 in
      let found = (kept plan part known writes entries s is).1 in
      let there = place plan part known writes entries s is in
      let at : PlanEntry = get_or (write_entries plan part) s.entry (entry_sent plan part known writes entries s is) in
      let both = and_parts (nat_eq at.data_id s.sent.data_id) (nat_eq at.mesh (write_mesh plan part s.sent)) there.1 in
      let data_same : at.data_id ≡ s.sent.data_id = eqb-true at.data_id s.sent.data_id both.0 in
      let mesh_same : at.mesh ≡ write_mesh plan part s.sent = eqb-true at.mesh (write_mesh plan part s.sent) both.1 in
      ap (λ (one : WriteKept). length one.values) (sym (get_or_from_slice_get writes s.entry e e found))
      ∙ sym (get_or-map (λ (one : WriteKept). length one.values) writes s.entry e 0 (slice_get_within writes s.entry e found))
      ∙ ap (λ (ns : List ℕ). get_or ns s.entry 0) entries.widths
      ∙ get_or-map (width_of plan part known) (write_entries plan part) s.entry (entry_sent plan part known writes entries s is) 0 there.0
      ∙ ap (λ (d : ℕ). width_of plan part known (record { data_id = d; mesh = at.mesh })) data_same
      ∙ ap (λ (m : ℕ). width_of plan part known (record { data_id = s.sent.data_id; mesh = m })) mesh_same
      ∙ ap (λ (o : Option ℕ). option_map_or (λ n. n) o 0 * length (points_of plan part known (write_mesh plan part s.sent))) is.written

  passes : (map : Option WaveMap) → HasSources points map → (wave : Wave) → All (λ (one : Sample). IsLike one.field (field_of (kept plan part known writes entries s is).0)) wave → CanPass map wave
  passes None has wave alike = tt
  passes (Some m) has wave alike = λ k d within.
      let like = alike k d within in
      like.len ∙ width_kept ∙ mul_comm s.components points ∙ ap (λ (n : ℕ). n * s.components) (sym has)
      ∙ ap (λ (n : ℕ). sources_of m * n) (sym (like.components ∙ components_kept plan part known writes entries s is))

  sources_are : HasSources points s.map
  sources_are = is.sources

  pub can_send : (written : List Written) → AreWritten plan part known written writes → 1 ≤ length written → CanSend writes s
  can_send written turn some =
      let e : WriteKept = (kept plan part known writes entries s is).0 in
      let found = (kept plan part known writes entries s is).1 in
      let shape : AreSamples e = All-contains AreSamples writes e turn.shapes (slice_in writes s.entry e found) in
      let long : 1 ≤ length e.samples = omega (arith, some, lengths plan part known writes entries s is written turn) in
      record {
        there = slice_get_within writes s.entry e found;
        some = subst (λ (o : Option WriteKept). IfSome o (λ e. 1 ≤ length e.samples)) (sym found) long;
        fields = subst (λ (o : Option WriteKept). IfSome o (λ e. CanPass s.map e.samples)) (sym found) (passes s.map sources_are e.samples shape.alike);
      }

  pub can_send_initial : CanSendInitial writes s
  can_send_initial =
      let e : WriteKept = (kept plan part known writes entries s is).0 in
      let found = (kept plan part known writes entries s is).1 in
      record {
        there = slice_get_within writes s.entry e found;
        field = subst (λ (o : Option WriteKept). IfSome o (λ e. CanPass s.map (record { time = 0; field = field_of e } ∷ []))) (sym found)
            (passes s.map sources_are (record { time = 0; field = field_of e } ∷ []) (alone e));
      }
    where
      alone : (e : WriteKept) → All (λ (one : Sample). IsLike one.field (field_of e)) (record { time = 0; field = field_of e } ∷ [])
      alone e = All-cons (λ (one : Sample). IsLike one.field (field_of e)) (record { time = 0; field = field_of e }) [] (record { components = refl; len = refl }) (λ k d within. absurd (omega (arith, within)))

pub all_can_send : (plan : PlanParts) (part : ℕ) (known : Known) (sends : Sends) (written : List Written) (writes : List WriteKept) → AreSends plan part known sends
    → AreWritten plan part known written writes → 1 ≤ length written → All (CanSend writes) sends.sendings
all_can_send plan part known sends written writes are turn some = λ k d within. can_send plan part known writes turn.entries (get_or sends.sendings k d) (are.each k d within) written turn some

pub all_can_send_initial : (plan : PlanParts) (part : ℕ) (known : Known) (sends : Sends) (writes : List WriteKept) → AreSends plan part known sends
    → AreEntries plan part known writes → All (CanSendInitial writes) sends.sendings
all_can_send_initial plan part known sends writes are entries = λ k d within. can_send_initial plan part known writes entries (get_or sends.sendings k d) (are.each k d within)
