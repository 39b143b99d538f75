-- Actions that break no rule fit, and those that fit break none.
use Rattle.std.proofs.Common.{◌≡◌, ◌≤◌, Bool, true, false, not, ◌&&◌, ◌||◌, length, List, [], ◌∷◌, Option, Some, None, All, Contains, refl, ap, subst, ◌∙◌, arith}
use Rattle.std.specs.Prelude.{ℕ, ◌==◌, is_some, option_map}
use Rattle.std.specs.List.{list_any}
use Rattle.std.specs.Str.{bytes_eq}
use Rattle.std.proofs.lemmas.Bool.{eqb-true}
use Rattle.std.proofs.lemmas.List.Elements.{All-weaker}
use Rattle.std.proofs.lemmas.List.Folds.{list_any_none}
use Rattle.cpl_config.specs.declared.kind_words.DataKind.{DataKind}
use Rattle.cpl_config.specs.declared.kind_words.DataKind.TheVariants.{Scalar, Vector}
use Rattle.cpl_config.specs.declared.config.Config.{Config}
use Rattle.cpl_config.specs.declared.config.DataTable.{DataTable}
use Rattle.cpl_config.specs.declared.config.PartTable.{PartTable}
use Rattle.cpl_config.specs.declared.config.DataEntry.{DataEntry}
use Rattle.cpl_config.specs.declared.config.ActionEntry.{ActionEntry}
use Rattle.mesh_rules.specs.Entries.{acted}
use Rattle.mesh_rules.specs.Named.{data_called, is_data, is_mesh, is_among}
use Rattle.mesh_rules.specs.MeshRules.{has_undeclared}
use Rattle.mesh_rules.specs.ActionRules.{writes_on, acts_elsewhere, is_target_of, is_source_of, is_same_kind, kind_called, mixes_kinds}
use Rattle.config_rules.specs.declared.rules.ConfigRule.TheVariants.{Undeclared, WrongAction}
use Rattle.config_laws.specs.FitMeshes.{IsWrittenOn, IsFitAction}
use Rattle.config_laws.proofs.CyclesOf.{both_hold}
use Rattle.config_laws.proofs.KeptRules.{Kept}
use Rattle.config_laws.proofs.Members.{any_at, any_found}
use Rattle.config_laws.proofs.MeshRefuted.{Fine, both_there}
use Rattle.config_laws.proofs.NodesOf.{member_is}
use Rattle.config_laws.proofs.Refuted.{either_false, not_false, lacks_none, named_none}
use Rattle.config_laws.proofs.Truths.{neither, both, holds, fails, same_text, text_same, none_passes, none_lacks, none_named, among}

some_sources : (names : List (List ℕ)) → (length names == 0) ≡ false → 1 ≤ length names
some_sources [] h = absurd (cc)
some_sources (name ∷ names) h = omega arith

full_sources : (names : List (List ℕ)) → 1 ≤ length names → (length names == 0) ≡ false
full_sources names some = fails (length names == 0) (λ is. let none : length names ≡ 0 = eqb-true (length names) 0 is in omega (arith, some, none))

-- what is written on a mesh

same_entry : (entry : DataEntry) (mesh data_name : List ℕ) → entry.data_name ≡ data_name → entry.mesh ≡ mesh → entry ≡ record { data_name = data_name; mesh = mesh }
same_entry entry mesh data_name same_data same_mesh =
    let with_data : List ℕ → DataEntry = λ name. record { data_name = name; mesh = entry.mesh } in
    let with_mesh : List ℕ → DataEntry = λ name. record { data_name = data_name; mesh = name } in
    ap with_data same_data ∙ ap with_mesh same_mesh

written_there : (table : PartTable) (mesh data_name : List ℕ) → writes_on table mesh data_name ≡ true → IsWrittenOn table mesh data_name
written_there table mesh data_name writes =
    let found = any_found (λ (entry : DataEntry). bytes_eq entry.data_name data_name && bytes_eq entry.mesh mesh) table.write writes in
    let parts = both (bytes_eq found.0.data_name data_name) (bytes_eq found.0.mesh mesh) found.2 in
    let is : found.0 ≡ record { data_name = data_name; mesh = mesh } = same_entry found.0 mesh data_name (same_text found.0.data_name data_name parts.0) (same_text found.0.mesh mesh parts.1) in
    subst (λ (entry : DataEntry). Contains table.write entry) is found.1

there_written : (table : PartTable) (mesh data_name : List ℕ) → IsWrittenOn table mesh data_name → writes_on table mesh data_name ≡ true
there_written table mesh data_name inside =
    any_at (λ (entry : DataEntry). bytes_eq entry.data_name data_name && bytes_eq entry.mesh mesh) table.write (record { data_name = data_name; mesh = mesh }) inside
    (both_hold (bytes_eq data_name data_name) (bytes_eq mesh mesh) (text_same data_name data_name refl) (text_same mesh mesh refl))

-- what is not in a list of names

not_among : (name : List ℕ) (names : List (List ℕ)) → is_among name names ≡ false → ¬ Contains names name
not_among name names h inside = let is : is_among name names ≡ true = member_is name names inside in cc (h, is)

among_none : (name : List ℕ) (names : List (List ℕ)) → ¬ Contains names name → is_among name names ≡ false
among_none name names h = fails (is_among name names) (λ is. h (among name names is))

-- kinds

same_kinds : (one other : Option DataKind) → is_same_kind one other ≡ true → one ≡ other
same_kinds (Some Scalar) (Some Scalar) h = refl
same_kinds (Some Scalar) (Some Vector) h = absurd (cc)
same_kinds (Some Scalar) None h = absurd (cc)
same_kinds (Some Vector) (Some Scalar) h = absurd (cc)
same_kinds (Some Vector) (Some Vector) h = refl
same_kinds (Some Vector) None h = absurd (cc)
same_kinds None other h = absurd (cc)

itself : (kind : DataKind) → is_same_kind (Some kind) (Some kind) ≡ true
itself Scalar = refl
itself Vector = refl

kinds_same : (one : Option DataKind) (found : Option DataTable) → is_some found ≡ true → one ≡ option_map (λ table. table.kind) found → is_same_kind one (option_map (λ table. table.kind) found) ≡ true
kinds_same one None there same = absurd (cc)
kinds_same one (Some table) there same = ap (λ kind. is_same_kind kind (Some table.kind)) same ∙ itself table.kind

-- from the rules to what fits

pub fit_action : (config : Config) (table : PartTable) (earlier : List ActionEntry) (entry : ActionEntry) → Kept config (acted table earlier entry) → IsFitAction config table earlier entry
fit_action config table earlier entry kept =
    let undeclared : Bool = has_undeclared (is_data config) entry.sources in
    let names = neither (not (is_mesh config entry.mesh)) (undeclared || not (is_data config entry.target)) (kept Undeclared).2 in
    let data_names = neither undeclared (not (is_data config entry.target)) names.1 in
    let empty : Bool = length entry.sources == 0 in
    let own : Bool = is_among entry.target entry.sources in
    let again : Bool = is_target_of entry.target earlier in
    let source : Bool = is_source_of entry.target table.action in
    let rule = neither ((empty || acts_elsewhere table entry) || (own || again)) (source || mixes_kinds config entry) (kept WrongAction).2 in
    let front = neither (empty || acts_elsewhere table entry) (own || again) rule.0 in
    let first = neither empty (acts_elsewhere table entry) front.0 in
    let targets = neither own again front.1 in
    let back = neither source (mixes_kinds config entry) rule.1 in
    let written = neither (not (writes_on table entry.mesh entry.target)) (list_any (λ name. not (writes_on table entry.mesh name)) entry.sources) first.1 in
    record {
      mesh_declared = holds (is_mesh config entry.mesh) names.0;
      target_declared = holds (is_data config entry.target) data_names.1;
      sources_declared = none_lacks (is_data config) entry.sources data_names.0;
      some = some_sources entry.sources first.0;
      target_written = written_there table entry.mesh entry.target (holds (writes_on table entry.mesh entry.target) written.0);
      sources_written = All-weaker (λ (name : List ℕ). writes_on table entry.mesh name ≡ true) (λ (name : List ℕ). IsWrittenOn table entry.mesh name) (written_there table entry.mesh) entry.sources
          (none_lacks (writes_on table entry.mesh) entry.sources written.1);
      no_own_source = not_among entry.target entry.sources targets.0;
      once = none_named (λ (other : ActionEntry). other.target) entry.target earlier targets.1;
      no_source = All-weaker (λ (other : ActionEntry). is_among entry.target other.sources ≡ false) (λ (other : ActionEntry). ¬ Contains other.sources entry.target)
          (λ other. not_among entry.target other.sources) table.action (none_passes (λ (other : ActionEntry). is_among entry.target other.sources) table.action back.0);
      one_kind = All-weaker (λ (name : List ℕ). is_same_kind (kind_called config name) (kind_called config entry.target) ≡ true) (λ (name : List ℕ). kind_called config name ≡ kind_called config entry.target)
          (λ name. same_kinds (kind_called config name) (kind_called config entry.target)) entry.sources
          (none_lacks (λ (name : List ℕ). is_same_kind (kind_called config name) (kind_called config entry.target)) entry.sources back.1);
    }

-- and back

elsewhere_fine : (table : PartTable) (entry : ActionEntry) → IsWrittenOn table entry.mesh entry.target → All (λ name. IsWrittenOn table entry.mesh name) entry.sources → acts_elsewhere table entry ≡ false
elsewhere_fine table entry target sources =
    either_false (not (writes_on table entry.mesh entry.target)) (list_any (λ name. not (writes_on table entry.mesh name)) entry.sources)
    (not_false (writes_on table entry.mesh entry.target) (there_written table entry.mesh entry.target target))
    (lacks_none (writes_on table entry.mesh) entry.sources
    (All-weaker (λ (name : List ℕ). IsWrittenOn table entry.mesh name) (λ (name : List ℕ). writes_on table entry.mesh name ≡ true) (there_written table entry.mesh) entry.sources sources))

kinds_fine : (config : Config) (entry : ActionEntry) → is_data config entry.target ≡ true → All (λ name. kind_called config name ≡ kind_called config entry.target) entry.sources → mixes_kinds config entry ≡ false
kinds_fine config entry declared same =
    lacks_none (λ (name : List ℕ). is_same_kind (kind_called config name) (kind_called config entry.target)) entry.sources
    (All-weaker (λ (name : List ℕ). kind_called config name ≡ kind_called config entry.target) (λ (name : List ℕ). is_same_kind (kind_called config name) (kind_called config entry.target) ≡ true)
    (λ name. kinds_same (kind_called config name) (data_called config entry.target) declared) entry.sources same)

source_fine : (target : List ℕ) (actions : List ActionEntry) → All (λ other. ¬ Contains other.sources target) actions → is_source_of target actions ≡ false
source_fine target actions none =
    list_any_none (λ (other : ActionEntry). is_among target other.sources) actions
    (All-weaker (λ (other : ActionEntry). ¬ Contains other.sources target) (λ (other : ActionEntry). is_among target other.sources ≡ false) (λ other. among_none target other.sources) actions none)

pub action_fine : (config : Config) (table : PartTable) (earlier : List ActionEntry) (entry : ActionEntry) → IsFitAction config table earlier entry → Fine config (acted table earlier entry)
action_fine config table earlier entry fit place Undeclared other before =
    let undeclared : Bool = has_undeclared (is_data config) entry.sources in
    either_false (not (is_mesh config entry.mesh)) (undeclared || not (is_data config entry.target)) (not_false (is_mesh config entry.mesh) fit.mesh_declared)
    (either_false undeclared (not (is_data config entry.target)) (lacks_none (is_data config) entry.sources fit.sources_declared) (not_false (is_data config entry.target) fit.target_declared))
action_fine config table earlier entry fit place WrongAction other before =
    let empty : Bool = length entry.sources == 0 in
    let own : Bool = is_among entry.target entry.sources in
    let again : Bool = is_target_of entry.target earlier in
    let source : Bool = is_source_of entry.target table.action in
    either_false ((empty || acts_elsewhere table entry) || (own || again)) (source || mixes_kinds config entry)
    (either_false (empty || acts_elsewhere table entry) (own || again)
    (either_false empty (acts_elsewhere table entry) (full_sources entry.sources fit.some) (elsewhere_fine table entry fit.target_written fit.sources_written))
    (either_false own again (among_none entry.target entry.sources fit.no_own_source) (named_none (λ (one : ActionEntry). one.target) entry.target earlier fit.once)))
    (either_false source (mixes_kinds config entry) (source_fine entry.target table.action fit.no_source) (kinds_fine config entry fit.target_declared fit.one_kind))
action_fine config table earlier entry fit place rule other before = refl
