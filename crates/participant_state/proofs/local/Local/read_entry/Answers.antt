use Rattle.std.proofs.Common.{◌≡◌, ◌∷◌, [], ◌*◌, ℕ, ◌+◌, ◌-◌, ◌<◌, ◌≤◌, rules, nat_lt, length, slice_get, None, Some, IfErr, IfSome, All, ap, sym, subst, ◌∙◌, arith}
use Rattle.std.proofs.lemmas.Option.{slice_get_read}
use Rattle.wave_coupling.specs.Known.{read_entries}
use Rattle.participant_words.specs.Entries.{components_read, size_at}
use Rattle.participant_words.specs.Named.{place_of}
use Rattle.participant_words.specs.Questions.{most_step, rows_read}
use Rattle.participant_words.specs.Refusals.{bad_length, bad_vertex, first_of, where_holds}
use Rattle.participant_words.specs.declared.api_err.ApiErr.TheVariants.{BadReadTime as TooLate}
use Rattle.participant_words.specs.declared.phase.Phase.{Phase}
use Rattle.participant_words.specs.declared.phase.Phase.TheVariants.{Running}
use Rattle.participant_state.specs.Agenda.{agenda, HasBegun, StandsIn}
use Rattle.participant_state.specs.Member.{Member}
use Rattle.participant_state.proofs.ReadingsMean.{components_few, degree_few, input_within, of_components, reads_input, rows_there, still_readable}
use Rattle.participant_state.proofs.local.Local.read_entry.Goals as goal

pub may_read-requires-clause-components : goal.may_read-requires-clause-components
may_read-requires-clause-components c =
    let l = c.self.inside in
    let within : c.args.number < length (read_entries l.plan l.part) = subst (λ (m : Member). c.args.number < length (read_entries m.plan m.part)) (sym c.self.view_is) c.requires.entry in
    components_few l.plan l.part l.reads c.self.invariant.0.read c.args.number c.get-entry.result c.get-entry.ensures within c.parts-parts.ensures.valid

pub returns-in_err-may_read-clause-refused : goal.returns-in_err-may_read-clause-refused
returns-in_err-may_read-clause-refused c =
    let l = c.self.inside in
    let m : Member = c.args.self.now in
    let within : c.args.number < length (read_entries l.plan l.part) = subst (λ (m : Member). c.args.number < length (read_entries m.plan m.part)) (sym c.self.view_is) c.requires.entry in
    let count : c.get-entry.result.components ≡ components_read m.plan m.part c.args.number =
    of_components l.plan l.part l.reads c.self.invariant.0.read c.args.number c.get-entry.result c.get-entry.ensures within
    ∙ ap (λ (m : Member). components_read m.plan m.part c.args.number) c.self.view_is in
    subst (λ (n : ℕ). IfErr c.from_residual.result (λ error. first_of (bad_vertex (size_at m.course c.args.place) c.args.vertices.now
    ∷ bad_length (length c.args.vertices.now * n) (length c.args.out.now) ∷ where_holds (nat_lt (most_step m.course) c.args.at) (TooLate (most_step m.course)) ∷ []) ≡ Some error)) count
    (search rules)

pub index-requires : goal.index-requires
index-requires c =
    let l = c.self.inside in
    let within : c.args.number < length (read_entries l.plan l.part) = subst (λ (m : Member). c.args.number < length (read_entries m.plan m.part)) (sym c.self.view_is) c.requires.entry in
    let running : l.phase ≡ Running = ap (λ (m : Member). m.course.phase) c.self.view_is ∙ c.requires.running in
    let stands = subst (λ (p : Phase). StandsIn l.plan l.part l.own l.clock l.passages l.inputs.items l.times.items p (agenda l.queue)) running c.self.invariant.6 in
    let begun : HasBegun l.plan l.part l.clock l.passages l.inputs.items = stands.1 in
    let inside = input_within l.plan l.part l.reads c.self.invariant.0.read c.args.number c.get-entry.result c.get-entry.ensures within c.parts-parts.ensures.valid l.inputs.items begun.taken in
    omega (arith, inside)

pub read_rows-requires-clause-degree : goal.read_rows-requires-clause-degree
read_rows-requires-clause-degree c =
    let l = c.self.inside in
    let within : c.args.number < length (read_entries l.plan l.part) = subst (λ (m : Member). c.args.number < length (read_entries m.plan m.part)) (sym c.self.view_is) c.requires.entry in
    degree_few l.plan l.part l.reads c.self.invariant.0.read c.args.number c.get-entry.result c.get-entry.ensures within c.parts-parts.ensures.valid

pub read_rows-requires-clause-time : goal.read_rows-requires-clause-time
read_rows-requires-clause-time c =
    let l = c.self.inside in
    let within : c.args.number < length (read_entries l.plan l.part) = subst (λ (m : Member). c.args.number < length (read_entries m.plan m.part)) (sym c.self.view_is) c.requires.entry in
    let running : l.phase ≡ Running = ap (λ (m : Member). m.course.phase) c.self.view_is ∙ c.requires.running in
    let stands = subst (λ (p : Phase). StandsIn l.plan l.part l.own l.clock l.passages l.inputs.items l.times.items p (agenda l.queue)) running c.self.invariant.6 in
    let begun : HasBegun l.plan l.part l.clock l.passages l.inputs.items = stands.1 in
    let inside = input_within l.plan l.part l.reads c.self.invariant.0.read c.args.number c.get-entry.result c.get-entry.ensures within c.parts-parts.ensures.valid l.inputs.items begun.taken in
    let found : slice_get l.inputs.items c.get-entry.result.received ≡ Some c.index.result.now =
    slice_get_read l.inputs.items (length l.inputs.items) c.get-entry.result.received c.index.result.now (λ i. length l.inputs.items) inside c.index.ensures in
    let most : c.args.at ≤ l.clock.latest - l.clock.now = subst (λ (m : Member). c.args.at ≤ most_step m.course) (sym c.self.view_is) c.in_ok-may_read.ensures.time in
    still_readable l.own l.reads l.clock l.inputs.items c.index.result.now c.get-entry.result.received c.args.at c.self.invariant.3 found c.self.invariant.2.within most

pub read_rows-requires-clause-vertices : goal.read_rows-requires-clause-vertices
read_rows-requires-clause-vertices c =
    let l = c.self.inside in
    let within : c.args.number < length (read_entries l.plan l.part) = subst (λ (m : Member). c.args.number < length (read_entries m.plan m.part)) (sym c.self.view_is) c.requires.entry in
    let running : l.phase ≡ Running = ap (λ (m : Member). m.course.phase) c.self.view_is ∙ c.requires.running in
    let stands = subst (λ (p : Phase). StandsIn l.plan l.part l.own l.clock l.passages l.inputs.items l.times.items p (agenda l.queue)) running c.self.invariant.6 in
    let begun : HasBegun l.plan l.part l.clock l.passages l.inputs.items = stands.1 in
    let inside = input_within l.plan l.part l.reads c.self.invariant.0.read c.args.number c.get-entry.result c.get-entry.ensures within c.parts-parts.ensures.valid l.inputs.items begun.taken in
    let found : slice_get l.inputs.items c.get-entry.result.received ≡ Some c.index.result.now =
    slice_get_read l.inputs.items (length l.inputs.items) c.get-entry.result.received c.index.result.now (λ i. length l.inputs.items) inside c.index.ensures in
    let place : c.args.place < length l.own = subst (λ (m : Member). c.args.place < length m.course.own) (sym c.self.view_is) c.requires.place in
    let on = subst (λ (m : Member). IfSome (slice_get (read_entries m.plan m.part) c.args.number) (λ entry. place_of m.plan m.part entry.mesh ≡ c.args.place)) (sym c.self.view_is) c.requires.mesh in
    let below = subst (λ (m : Member). All (λ v. v < size_at m.course c.args.place) c.args.vertices.now) (sym c.self.view_is) c.in_ok-may_read.ensures.vertices in
    rows_there l.plan l.part l.reads c.self.invariant.0.read c.args.number c.get-entry.result c.get-entry.ensures within l.own l.clock l.inputs.items c.index.result.now c.args.place
    c.self.invariant.3 found place on c.args.vertices.now below

pub returns-clause-granted : goal.returns-clause-granted
returns-clause-granted c =
    let l = c.self.inside in
    let m : Member = c.args.self.now in
    let within : c.args.number < length (read_entries l.plan l.part) = subst (λ (m : Member). c.args.number < length (read_entries m.plan m.part)) (sym c.self.view_is) c.requires.entry in
    let count : c.get-entry.result.components ≡ components_read m.plan m.part c.args.number =
    of_components l.plan l.part l.reads c.self.invariant.0.read c.args.number c.get-entry.result c.get-entry.ensures within
    ∙ ap (λ (m : Member). components_read m.plan m.part c.args.number) c.self.view_is in
    subst (λ (n : ℕ). first_of (bad_vertex (size_at m.course c.args.place) c.args.vertices.now
    ∷ bad_length (length c.args.vertices.now * n) (length c.args.out.now) ∷ where_holds (nat_lt (most_step m.course) c.args.at) (TooLate (most_step m.course)) ∷ []) ≡ None) count
    c.in_ok-may_read.ensures.granted

pub returns-clause-read : goal.returns-clause-read
returns-clause-read c =
    let l = c.self.inside in
    let within : c.args.number < length (read_entries l.plan l.part) = subst (λ (m : Member). c.args.number < length (read_entries m.plan m.part)) (sym c.self.view_is) c.requires.entry in
    let running : l.phase ≡ Running = ap (λ (m : Member). m.course.phase) c.self.view_is ∙ c.requires.running in
    let stands = subst (λ (p : Phase). StandsIn l.plan l.part l.own l.clock l.passages l.inputs.items l.times.items p (agenda l.queue)) running c.self.invariant.6 in
    let begun : HasBegun l.plan l.part l.clock l.passages l.inputs.items = stands.1 in
    let inside = input_within l.plan l.part l.reads c.self.invariant.0.read c.args.number c.get-entry.result c.get-entry.ensures within c.parts-parts.ensures.valid l.inputs.items begun.taken in
    let found : slice_get l.inputs.items c.get-entry.result.received ≡ Some c.index.result.now =
    slice_get_read l.inputs.items (length l.inputs.items) c.get-entry.result.received c.index.result.now (λ i. length l.inputs.items) inside c.index.ensures in
    subst (λ (m : Member). IfSome (slice_get (read_entries m.plan m.part) c.args.number) (λ entry. c.read_rows.new.out ≡ rows_read m.plan m.part m.course entry c.args.vertices.now c.args.at)) c.self.view_is
    (reads_input l.plan l.part l.reads c.self.invariant.0.read c.args.number c.get-entry.result c.get-entry.ensures within c.parts-parts.ensures.valid l.inputs.items c.index.result.now
    begun.taken found c.args.vertices.now (l.clock.now + c.args.at) c.read_rows.new.out c.read_rows.ensures)
