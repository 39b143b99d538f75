-- The entries of a sound configuration stand in the order of their places.
use Rattle.std.proofs.Common.{◌≡◌, ℕ, ◌+◌, ◌<◌, ◌≤◌, length, List, [], ◌∷◌, ◌++◌, All, Option, Some, None, get_or, refl, arith, length-append}
use Rattle.std.specs.Prelude.{flat_map, map}
use Rattle.std.proofs.lemmas.List.Elements.{All-nil, All-cons}
use Rattle.cpl_tables.specs.declared.places.Place.TheVariants as P
use Rattle.cpl_config.specs.declared.config.Config.{Config}
use Rattle.cpl_config.specs.declared.config.PartTable.{PartTable}
use Rattle.cpl_config.specs.declared.config.SchemeTable.{SchemeTable}
use Rattle.cpl_config.specs.declared.config.AccelEntry.{AccelEntry}
use Rattle.cpl_config.specs.SoundConfig.{IsSoundConfig}
use Rattle.mesh_rules.specs.Entries.{whole, datum, mesh, participant, received, written, read, mapped, watched, acted, scheme, exchanged, measured, accelerated, at, received_entries, written_entries, read_entries, mapped_entries, watched_entries, acted_entries, entries_of_participant, exchanged_entries, measured_entries, accelerated_entries, entries_of_scheme, data_entries, mesh_entries, participant_entries, scheme_entries, entries_of}
use Rattle.cpl_tables.specs.PlaceOrder.{AreRising}
use Rattle.mesh_rules.proofs.PlaceOrders.{Inner, Grown, each_inner, inner_more, single_inner, singles_inner, own_entry, grow, rising_places, grown_inner}

-- a part is no longer than the whole
longer_whole : {X Y : Type 0} (f : X → List Y) (n : ℕ) (xs : List X) → length (flat_map f xs) ≤ n → All (λ x. length (f x) ≤ n) xs
longer_whole {X} f n [] few = All-nil (λ (x : X). length (f x) ≤ n)
longer_whole {X} f n (x ∷ xs) few =
    let parts : length (f x ++ flat_map f xs) ≡ length (f x) + length (flat_map f xs) = length-append (f x) (flat_map f xs) in
    All-cons (λ (y : X). length (f y) ≤ n) x xs (omega (arith, few, parts)) (longer_whole f n xs (omega (arith, few, parts)))

record ShortParticipant (table : PartTable) : Type 0 where
  receives : length table.receives < 1000
  write : length table.write < 1000
  read : length table.read < 1000
  map : length table.map < 1000
  watch : length table.watch < 1000
  action : length table.action < 1000

record ShortScheme (table : SchemeTable) : Type 0 where
  exchange : length table.exchange < 1000
  measure : length table.measure < 1000

of_participant : (p : ℕ) (table : PartTable) → ShortParticipant table → Inner (3 ∷ p ∷ []) (entries_of_participant p table)
of_participant p table short =
    let front : List ℕ = 3 ∷ p ∷ [] in
    let es0 = at (P.Participant p) (participant table) in
    let es1 = es0 ++ received_entries p table in
    let es2 = es1 ++ written_entries p table in
    let es3 = es2 ++ read_entries p table in
    let es4 = es3 ++ mapped_entries p table in
    let es5 = es4 ++ watched_entries p table in
    let g0 : Grown front 0 es0 = own_entry front (P.Participant p) (participant table) refl in
    let g1 : Grown front 1 es1 = grow front 0 es0 (received_entries p table) g0 (singles_inner (3 ∷ p ∷ 1 ∷ []) (λ n. P.Receives p n) (received table) table.receives short.receives (λ n. refl)) in
    let g2 : Grown front 2 es2 = grow front 1 es1 (written_entries p table) g1 (singles_inner (3 ∷ p ∷ 2 ∷ []) (λ n. P.Write p n) (λ before entry. written table entry) table.write short.write (λ n. refl)) in
    let g3 : Grown front 3 es3 = grow front 2 es2 (read_entries p table) g2 (singles_inner (3 ∷ p ∷ 3 ∷ []) (λ n. P.Read p n) (read table) table.read short.read (λ n. refl)) in
    let g4 : Grown front 4 es4 = grow front 3 es3 (mapped_entries p table) g3 (singles_inner (3 ∷ p ∷ 4 ∷ []) (λ n. P.Map p n) (mapped table) table.map short.map (λ n. refl)) in
    let g5 : Grown front 5 es5 = grow front 4 es4 (watched_entries p table) g4 (singles_inner (3 ∷ p ∷ 5 ∷ []) (λ n. P.Watch p n) (λ before entry. watched table entry) table.watch short.watch (λ n. refl)) in
    let g6 : Grown front 6 (es5 ++ acted_entries p table) = grow front 5 es5 (acted_entries p table) g5 (singles_inner (3 ∷ p ∷ 6 ∷ []) (λ n. P.Action p n) (acted table) table.action short.action (λ n. refl)) in
    grown_inner front 6 (entries_of_participant p table) g6

of_acceleration : (s : ℕ) (table : SchemeTable) (acceleration : Option AccelEntry) → Inner (4 ∷ s ∷ 3 ∷ []) (accelerated_entries s table acceleration)
of_acceleration s table None = record { under = λ k d within. absurd (omega (arith, within)); rise = λ i j d less within. absurd (omega (arith, within)) }
of_acceleration s table (Some entry) = inner_more (4 ∷ s ∷ 3 ∷ []) 1 (at (P.Acceleration s) (accelerated table entry)) (single_inner (4 ∷ s ∷ 3 ∷ 1 ∷ []) (P.Acceleration s) (accelerated table entry) refl)

of_scheme : (s : ℕ) (earlier : List SchemeTable) (table : SchemeTable) → ShortScheme table → Inner (4 ∷ s ∷ []) (entries_of_scheme s earlier table)
of_scheme s earlier table short =
    let front : List ℕ = 4 ∷ s ∷ [] in
    let es0 = at (P.Scheme s) (scheme earlier table) in
    let es1 = es0 ++ exchanged_entries s table in
    let es2 = es1 ++ measured_entries s table in
    let last = accelerated_entries s table table.acceleration in
    let g0 : Grown front 0 es0 = own_entry front (P.Scheme s) (scheme earlier table) refl in
    let g1 : Grown front 1 es1 = grow front 0 es0 (exchanged_entries s table) g0 (singles_inner (4 ∷ s ∷ 1 ∷ []) (λ n. P.Exchange s n) (λ before entry. exchanged table entry) table.exchange short.exchange (λ n. refl)) in
    let g2 : Grown front 2 es2 = grow front 1 es1 (measured_entries s table) g1 (singles_inner (4 ∷ s ∷ 2 ∷ []) (λ n. P.Measure s n) (λ before entry. measured table entry) table.measure short.measure (λ n. refl)) in
    let g3 : Grown front 3 (es2 ++ last) = grow front 2 es2 last g2 (of_acceleration s table table.acceleration) in
    grown_inner front 3 (entries_of_scheme s earlier table) g3

short_participants : (config : Config) → IsSoundConfig config → All ShortParticipant config.participant
short_participants config sound k d within =
    let table = sound.participants k d within in
    let watches : length (get_or config.participant k d).watch ≤ 64 = longer_whole (λ (one : PartTable). one.watch) 64 config.participant sound.few_watches k d within in
    record {
      receives = omega (arith, table.few_receives);
      write = omega (arith, table.few_writes);
      read = omega (arith, table.few_reads);
      map = omega (arith, table.few_maps);
      watch = omega (arith, watches);
      action = omega (arith, table.few_actions);
    }

short_schemes : (config : Config) → IsSoundConfig config → All ShortScheme config.scheme
short_schemes config sound k d within =
    let table = sound.schemes k d within in
    let exchanges : length (get_or config.scheme k d).exchange ≤ 256 = longer_whole (λ (one : SchemeTable). one.exchange) 256 config.scheme sound.few_exchanges k d within in
    record { exchange = omega (arith, exchanges); measure = omega (arith, table.few_measures) }

pub rising : (config : Config) → IsSoundConfig config → AreRising (map (λ entry. entry.place) (entries_of config))
rising config sound =
    let es0 = at P.Config whole in
    let es1 = es0 ++ data_entries config in
    let es2 = es1 ++ mesh_entries config in
    let es3 = es2 ++ participant_entries config in
    let parts : Inner (3 ∷ []) (participant_entries config) =
    each_inner (3 ∷ []) (λ n before table. entries_of_participant n table) config.participant (omega (arith, sound.few_participants))
    (λ k d within n before. of_participant n (get_or config.participant k d) (short_participants config sound k d within)) in
    let schemes : Inner (4 ∷ []) (scheme_entries config) =
    each_inner (4 ∷ []) entries_of_scheme config.scheme (omega (arith, sound.few_schemes)) (λ k d within n before. of_scheme n before (get_or config.scheme k d) (short_schemes config sound k d within)) in
    let g0 : Grown [] 0 es0 = own_entry [] P.Config whole refl in
    let g1 : Grown [] 1 es1 = grow [] 0 es0 (data_entries config) g0 (singles_inner (1 ∷ []) (λ n. P.DataTable n) (λ before table. datum table) config.data_list (omega (arith, sound.few_data)) (λ n. refl)) in
    let g2 : Grown [] 2 es2 = grow [] 1 es1 (mesh_entries config) g1 (singles_inner (2 ∷ []) (λ n. P.MeshTable n) (λ before table. mesh table) config.mesh (omega (arith, sound.few_meshes)) (λ n. refl)) in
    let g3 : Grown [] 3 es3 = grow [] 2 es2 (participant_entries config) g2 parts in
    rising_places (entries_of config) (grow [] 3 es3 (scheme_entries config) g3 schemes).rise
