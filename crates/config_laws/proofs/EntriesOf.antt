-- What holds of each entry of a configuration holds of each item of the lists in it, beside those before it, and the other way round.
use Rattle.std.proofs.Common.{ℕ, List, [], ◌++◌, All, Option, Some, None, IfSome}
use Rattle.std.proofs.lemmas.List.Elements.{All-nil, All-cons, All-head, All-append}
use Rattle.cpl_tables.specs.declared.places.Place.{Place}
use Rattle.cpl_tables.specs.declared.places.Place.TheVariants as P
use Rattle.cpl_config.specs.declared.config.Config.{Config}
use Rattle.cpl_config.specs.declared.config.DataTable.{DataTable}
use Rattle.cpl_config.specs.declared.config.MeshTable.{MeshTable}
use Rattle.cpl_config.specs.declared.config.PartTable.{PartTable}
use Rattle.cpl_config.specs.declared.config.DataEntry.{DataEntry}
use Rattle.cpl_config.specs.declared.config.WatchEntry.{WatchEntry}
use Rattle.cpl_config.specs.declared.config.SchemeTable.{SchemeTable}
use Rattle.cpl_config.specs.declared.config.ExchangeEntry.{ExchangeEntry}
use Rattle.cpl_config.specs.declared.config.MeasureEntry.{MeasureEntry}
use Rattle.cpl_config.specs.declared.config.AccelEntry.{AccelEntry}
use Rattle.mesh_rules.specs.Entries.{Held, whole, datum, mesh, participant, received, written, read, mapped, watched, acted, scheme, exchanged, measured, accelerated, Entry, at, each, received_entries, written_entries, read_entries, mapped_entries, watched_entries, acted_entries, entries_of_participant, exchanged_entries, measured_entries, accelerated_entries, entries_of_scheme, data_entries, mesh_entries, participant_entries, scheme_entries, entries_of}
use Rattle.config_laws.specs.Placed.{EachAfter}
use Rattle.config_laws.proofs.Splits.{all_left, all_right, made, make_all, each_weaker, each_all, at_split}

pub record InParticipant (R : Held → Type 0) (table : PartTable) : Type 0 where
  pub own : R (participant table)
  pub receives : EachAfter (λ before entry. R (received table before entry)) table.receives
  pub writes : All (λ entry. R (written table entry)) table.write
  pub reads : EachAfter (λ before entry. R (read table before entry)) table.read
  pub maps : EachAfter (λ before entry. R (mapped table before entry)) table.map
  pub watches : All (λ entry. R (watched table entry)) table.watch
  pub acts : EachAfter (λ before entry. R (acted table before entry)) table.action

pub record InScheme (R : Held → Type 0) (earlier : List SchemeTable) (table : SchemeTable) : Type 0 where
  pub own : R (scheme earlier table)
  pub exchanges : All (λ entry. R (exchanged table entry)) table.exchange
  pub measures : All (λ entry. R (measured table entry)) table.measure
  pub acceleration : IfSome table.acceleration (λ entry. R (accelerated table entry))

pub record InConfig (R : Held → Type 0) (config : Config) : Type 0 where
  pub own : R whole
  pub data_tables : All (λ table. R (datum table)) config.data_list
  pub meshes : All (λ table. R (mesh table)) config.mesh
  pub participants : All (InParticipant R) config.participant
  pub schemes : EachAfter (InScheme R) config.scheme

Holds : (Held → Type 0) → Entry → Type 0
Holds R entry = R entry.held

one_in : (R : Held → Type 0) (place : Place) (held : Held) → All (Holds R) (at place held) → R held
unfolding Holds
one_in R place held all = All-head (λ (entry : Entry). R entry.held) (record { place = place; held = held }) [] all

-- each item of a list whose entries are made in this way
each_in : {X : Type 0} (R : Held → Type 0) (place_of : ℕ → Place) (held_of : List X → X → Held) (items : List X) → All (Holds R) (each (λ n before item. at (place_of n) (held_of before item)) items)
    → EachAfter (λ before item. R (held_of before item)) items
each_in {X} R place_of held_of items all =
    let make : ℕ → List X → X → List Entry = λ n before item. at (place_of n) (held_of before item) in
    each_weaker (λ (before : List X) (item : X). (n : ℕ) × All (Holds R) (make n before item)) (λ (before : List X) (item : X). R (held_of before item)) items
    (λ before item found. one_in R (place_of found.0) (held_of before item) found.1) (made (Holds R) make items all)

in_participant : (R : Held → Type 0) (p : ℕ) (table : PartTable) → All (Holds R) (entries_of_participant p table) → InParticipant R table
in_participant R p table all =
    let Q : Entry → Type 0 = Holds R in
    let es0 : List Entry = at (P.Participant p) (participant table) in
    let es1 : List Entry = es0 ++ received_entries p table in
    let es2 : List Entry = es1 ++ written_entries p table in
    let es3 : List Entry = es2 ++ read_entries p table in
    let es4 : List Entry = es3 ++ mapped_entries p table in
    let es5 : List Entry = es4 ++ watched_entries p table in
    let all5 : All Q es5 = all_left Q es5 (acted_entries p table) all in
    let all4 : All Q es4 = all_left Q es4 (watched_entries p table) all5 in
    let all3 : All Q es3 = all_left Q es3 (mapped_entries p table) all4 in
    let all2 : All Q es2 = all_left Q es2 (read_entries p table) all3 in
    let all1 : All Q es1 = all_left Q es1 (written_entries p table) all2 in
    record {
      own = one_in R (P.Participant p) (participant table) (all_left Q es0 (received_entries p table) all1);
      receives = each_in R (λ n. P.Receives p n) (received table) table.receives (all_right Q es0 (received_entries p table) all1);
      writes = each_all (λ (entry : DataEntry). R (written table entry)) table.write
          (each_in R (λ n. P.Write p n) (λ before entry. written table entry) table.write (all_right Q es1 (written_entries p table) all2));
      reads = each_in R (λ n. P.Read p n) (read table) table.read (all_right Q es2 (read_entries p table) all3);
      maps = each_in R (λ n. P.Map p n) (mapped table) table.map (all_right Q es3 (mapped_entries p table) all4);
      watches = each_all (λ (entry : WatchEntry). R (watched table entry)) table.watch
          (each_in R (λ n. P.Watch p n) (λ before entry. watched table entry) table.watch (all_right Q es4 (watched_entries p table) all5));
      acts = each_in R (λ n. P.Action p n) (acted table) table.action (all_right Q es5 (acted_entries p table) all);
    }

in_acceleration : (R : Held → Type 0) (s : ℕ) (table : SchemeTable) (acceleration : Option AccelEntry) → All (Holds R) (accelerated_entries s table acceleration)
    → IfSome acceleration (λ entry. R (accelerated table entry))
in_acceleration R s table None all = tt
in_acceleration R s table (Some entry) all = one_in R (P.Acceleration s) (accelerated table entry) all

in_scheme : (R : Held → Type 0) (s : ℕ) (earlier : List SchemeTable) (table : SchemeTable) → All (Holds R) (entries_of_scheme s earlier table) → InScheme R earlier table
in_scheme R s earlier table all =
    let Q : Entry → Type 0 = Holds R in
    let es0 : List Entry = at (P.Scheme s) (scheme earlier table) in
    let es1 : List Entry = es0 ++ exchanged_entries s table in
    let es2 : List Entry = es1 ++ measured_entries s table in
    let last : List Entry = accelerated_entries s table table.acceleration in
    let all2 : All Q es2 = all_left Q es2 last all in
    let all1 : All Q es1 = all_left Q es1 (measured_entries s table) all2 in
    record {
      own = one_in R (P.Scheme s) (scheme earlier table) (all_left Q es0 (exchanged_entries s table) all1);
      exchanges = each_all (λ (entry : ExchangeEntry). R (exchanged table entry)) table.exchange
          (each_in R (λ n. P.Exchange s n) (λ before entry. exchanged table entry) table.exchange (all_right Q es0 (exchanged_entries s table) all1));
      measures = each_all (λ (entry : MeasureEntry). R (measured table entry)) table.measure
          (each_in R (λ n. P.Measure s n) (λ before entry. measured table entry) table.measure (all_right Q es1 (measured_entries s table) all2));
      acceleration = in_acceleration R s table table.acceleration (all_right Q es2 last all);
    }

-- from the entries of a configuration to the lists in it
pub parts_of : (R : Held → Type 0) (config : Config) → All (λ (entry : Entry). R entry.held) (entries_of config) → InConfig R config
unfolding Holds
parts_of R config all =
    let Q : Entry → Type 0 = Holds R in
    let es0 : List Entry = at P.Config whole in
    let es1 : List Entry = es0 ++ data_entries config in
    let es2 : List Entry = es1 ++ mesh_entries config in
    let es3 : List Entry = es2 ++ participant_entries config in
    let all3 : All Q es3 = all_left Q es3 (scheme_entries config) all in
    let all2 : All Q es2 = all_left Q es2 (participant_entries config) all3 in
    let all1 : All Q es1 = all_left Q es1 (mesh_entries config) all2 in
    record {
      own = one_in R P.Config whole (all_left Q es0 (data_entries config) all1);
      data_tables = each_all (λ (table : DataTable). R (datum table)) config.data_list
          (each_in R (λ n. P.DataTable n) (λ before table. datum table) config.data_list (all_right Q es0 (data_entries config) all1));
      meshes = each_all (λ (table : MeshTable). R (mesh table)) config.mesh
          (each_in R (λ n. P.MeshTable n) (λ before table. mesh table) config.mesh (all_right Q es1 (mesh_entries config) all2));
      participants = each_all (InParticipant R) config.participant
          (each_weaker (λ (before : List PartTable) (table : PartTable). (n : ℕ) × All Q (entries_of_participant n table)) (λ (before : List PartTable) (table : PartTable). InParticipant R table) config.participant
          (λ before table found. in_participant R found.0 table found.1)
          (made Q (λ n before table. entries_of_participant n table) config.participant (all_right Q es2 (participant_entries config) all3)));
      schemes = each_weaker (λ (before : List SchemeTable) (table : SchemeTable). (n : ℕ) × All Q (entries_of_scheme n before table)) (InScheme R) config.scheme
          (λ before table found. in_scheme R found.0 before table found.1)
          (made Q entries_of_scheme config.scheme (all_right Q es3 (scheme_entries config) all));
    }

-- and back

held_one : (R : Held → Type 0) (place : Place) (held : Held) → R held → All (Holds R) (at place held)
unfolding Holds
held_one R place held is = All-cons (λ (entry : Entry). R entry.held) (record { place = place; held = held }) [] is (All-nil (λ (entry : Entry). R entry.held))

held_each : {X : Type 0} (R : Held → Type 0) (place_of : ℕ → Place) (held_of : List X → X → Held) (items : List X) → EachAfter (λ before item. R (held_of before item)) items
    → All (Holds R) (each (λ n before item. at (place_of n) (held_of before item)) items)
held_each R place_of held_of items each_holds =
    make_all (Holds R) (λ n before item. at (place_of n) (held_of before item)) [] items (λ before item after is n. held_one R (place_of n) (held_of before item) (each_holds before item after is))

held_all : {X : Type 0} (R : Held → Type 0) (place_of : ℕ → Place) (held_of : X → Held) (items : List X) → All (λ item. R (held_of item)) items
    → All (Holds R) (each (λ n before item. at (place_of n) (held_of item)) items)
held_all {X} R place_of held_of items all = held_each R place_of (λ before item. held_of item) items (λ before item after is. at_split (λ (x : X). R (held_of x)) items before item after is all)

held_participant : (R : Held → Type 0) (p : ℕ) (table : PartTable) → InParticipant R table → All (Holds R) (entries_of_participant p table)
held_participant R p table inside =
    let Q : Entry → Type 0 = Holds R in
    let es0 : List Entry = at (P.Participant p) (participant table) in
    let es1 : List Entry = es0 ++ received_entries p table in
    let es2 : List Entry = es1 ++ written_entries p table in
    let es3 : List Entry = es2 ++ read_entries p table in
    let es4 : List Entry = es3 ++ mapped_entries p table in
    let all0 : All Q es0 = held_one R (P.Participant p) (participant table) inside.own in
    let all1 : All Q es1 = All-append Q es0 (received_entries p table) all0 (held_each R (λ n. P.Receives p n) (received table) table.receives inside.receives) in
    let all2 : All Q es2 = All-append Q es1 (written_entries p table) all1 (held_all R (λ n. P.Write p n) (written table) table.write inside.writes) in
    let all3 : All Q es3 = All-append Q es2 (read_entries p table) all2 (held_each R (λ n. P.Read p n) (read table) table.read inside.reads) in
    let all4 : All Q es4 = All-append Q es3 (mapped_entries p table) all3 (held_each R (λ n. P.Map p n) (mapped table) table.map inside.maps) in
    let es5 : List Entry = es4 ++ watched_entries p table in
    let all5 : All Q es5 = All-append Q es4 (watched_entries p table) all4 (held_all R (λ n. P.Watch p n) (watched table) table.watch inside.watches) in
    All-append Q es5 (acted_entries p table) all5 (held_each R (λ n. P.Action p n) (acted table) table.action inside.acts)

held_acceleration : (R : Held → Type 0) (s : ℕ) (table : SchemeTable) (acceleration : Option AccelEntry) → IfSome acceleration (λ entry. R (accelerated table entry))
    → All (Holds R) (accelerated_entries s table acceleration)
held_acceleration R s table None holds = All-nil (Holds R)
held_acceleration R s table (Some entry) holds = held_one R (P.Acceleration s) (accelerated table entry) holds

held_scheme : (R : Held → Type 0) (s : ℕ) (earlier : List SchemeTable) (table : SchemeTable) → InScheme R earlier table → All (Holds R) (entries_of_scheme s earlier table)
held_scheme R s earlier table inside =
    let Q : Entry → Type 0 = Holds R in
    let es0 : List Entry = at (P.Scheme s) (scheme earlier table) in
    let es1 : List Entry = es0 ++ exchanged_entries s table in
    let es2 : List Entry = es1 ++ measured_entries s table in
    let all0 : All Q es0 = held_one R (P.Scheme s) (scheme earlier table) inside.own in
    let all1 : All Q es1 = All-append Q es0 (exchanged_entries s table) all0 (held_all R (λ n. P.Exchange s n) (exchanged table) table.exchange inside.exchanges) in
    let all2 : All Q es2 = All-append Q es1 (measured_entries s table) all1 (held_all R (λ n. P.Measure s n) (measured table) table.measure inside.measures) in
    All-append Q es2 (accelerated_entries s table table.acceleration) all2 (held_acceleration R s table table.acceleration inside.acceleration)

-- from the lists in a configuration to its entries
pub entries_with : (R : Held → Type 0) (config : Config) → InConfig R config → All (λ (entry : Entry). R entry.held) (entries_of config)
unfolding Holds
entries_with R config inside =
    let Q : Entry → Type 0 = Holds R in
    let es0 : List Entry = at P.Config whole in
    let es1 : List Entry = es0 ++ data_entries config in
    let es2 : List Entry = es1 ++ mesh_entries config in
    let es3 : List Entry = es2 ++ participant_entries config in
    let all0 : All Q es0 = held_one R P.Config whole inside.own in
    let all1 : All Q es1 = All-append Q es0 (data_entries config) all0 (held_all R (λ n. P.DataTable n) (λ table. datum table) config.data_list inside.data_tables) in
    let all2 : All Q es2 = All-append Q es1 (mesh_entries config) all1 (held_all R (λ n. P.MeshTable n) (λ table. mesh table) config.mesh inside.meshes) in
    let parts : All Q (participant_entries config) =
    make_all Q (λ n before table. entries_of_participant n table) [] config.participant
    (λ before table after is n. held_participant R n table (at_split (InParticipant R) config.participant before table after is inside.participants)) in
    let all3 : All Q es3 = All-append Q es2 (participant_entries config) all2 parts in
    All-append Q es3 (scheme_entries config) all3
    (make_all Q entries_of_scheme [] config.scheme (λ before table after is n. held_scheme R n before table (inside.schemes before table after is)))
