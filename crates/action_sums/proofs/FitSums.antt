-- Actions that fit are sums of whole entries of what is written.
use Rattle.std.proofs.Common.{◌≡◌, ◌≢◌, ℕ, ◌+◌, ◌<◌, ◌≤◌, List, [], ◌++◌, length, get_or, map, take, drop, All, Contains, ap, sym, subst, ◌∙◌, arith}
use Rattle.std.specs.Prelude.{AllPairs, sum}
use Rattle.std.proofs.lemmas.List.{take-append-drop, drop_more, length-map, get_or-map}
use Rattle.std.proofs.lemmas.List.Elements.{All-map, Contains-get_or}
use Rattle.std.proofs.lemmas.List.Sums.{sum-map}
use Rattle.cpl_config.specs.declared.kind_words.ActionWord.TheVariants.{Summation}
use Rattle.cpl_config.specs.declared.config.Config.{Config}
use Rattle.cpl_config.specs.declared.config.PartTable.{PartTable}
use Rattle.cpl_config.specs.declared.config.ActionEntry.{ActionEntry}
use Rattle.cpl_config.specs.SoundConfig.{IsSoundConfig, IsSoundParticipant}
use Rattle.case_files.specs.declared.case_file.CaseFile.{CaseFile}
use Rattle.case_files.specs.SoundCase.{IsSoundCaseFile}
use Rattle.mesh_rules.specs.ActionRules.{kind_called}
use Rattle.config_rules.specs.ConfigRules.{IsAccepted}
use Rattle.config_laws.specs.FitMeshes.{IsFitAction, IsWrittenOn}
use Rattle.config_laws.specs.Placed.{EachAfter}
use Rattle.config_laws.proofs.Pairs.{pairs_after}
use Rattle.config_laws.proofs.WholeFacts.{actions}
use Rattle.case_rules.specs.CaseRules.{values_of, written_values}
use Rattle.case_rules.proofs.CaseBounds.{sum_few}
use Rattle.data_actions.specs.SoundSums.{AreSums}
use Rattle.data_actions.specs.EntrySums.{EntrySum, IsEntrySum, AreEntrySums}
use Rattle.data_actions.proofs.Entries.{entry_sums}
use Rattle.action_sums.specs.ActionSums.{entry_of, entry_sum, ActionSums, written_lengths}
use Rattle.action_sums.proofs.WrittenEntries.{IsEntry, entry_found, entries_apart, length_there, same_length}

-- what is written of an action, and where
record Written (config : Config) (part : PartTable) (action : ActionEntry) : Type 0 where
  few : length action.sources ≤ 64
  target : IsWrittenOn part action.mesh action.target
  sources : All (λ name. IsWrittenOn part action.mesh name) action.sources
  no_source : All (λ other. ¬ Contains other.sources action.target) part.action
  one_kind : All (λ name. kind_called config name ≡ kind_called config action.target) action.sources

-- what holds of each after those before it, at a place
at_place : {X : Type 0} (P : List X → X → Type 0) (xs : List X) (k : ℕ) (d : X) → EachAfter P xs → k < length xs → P (take k xs) (get_or xs k d)
at_place {X} P xs k d each within =
    each (take k xs) (get_or xs k d) (drop (k + 1) xs)
    (sym (take-append-drop k xs) ∙ ap (λ (ys : List X). take k xs ++ ys) (drop_more xs k d within))

all_written : (config : Config) (part : PartTable) → IsSoundParticipant part → EachAfter (IsFitAction config part) part.action → All (Written config part) part.action
all_written config part sound fits k d within =
    let fit = at_place (IsFitAction config part) part.action k d fits within in
    record {
      few = (sound.actions k d within).few_sources;
      target = fit.target_written;
      sources = fit.sources_written;
      no_source = fit.no_source;
      one_kind = fit.one_kind;
    }

-- one action is a sum of whole entries
is_entry_sum : (config : Config) (part : PartTable) (case_file : CaseFile) (action : ActionEntry) → Written config part action
    → IsEntrySum (written_lengths config part case_file) (entry_sum part.write action)
is_entry_sum config part case_file action written =
    let lengths = written_lengths config part case_file in
    let number : List ℕ → ℕ = entry_of part.write action.mesh in
    let as_many : length lengths ≡ length part.write = length-map part.write (values_of config case_file) in
    let found : (name : List ℕ) → IsWrittenOn part action.mesh name → IsEntry part.write action.mesh name (number name) = entry_found part action.mesh in
    let target = found action.target written.target in
    record {
      target = omega (arith, as_many, target.inside);
      sources = All-map (λ (n : ℕ). n < length lengths) number action.sources
          (λ k d within. let source = found (get_or action.sources k d) (written.sources k d within) in omega (arith, as_many, source.inside));
      alike = All-map (λ (n : ℕ). get_or lengths n 0 ≡ get_or lengths (number action.target) 0) number action.sources
          (λ k d within.
          let name = get_or action.sources k d in
          length_there config part case_file action.mesh name (number name) (found name (written.sources k d within))
          ∙ same_length config case_file action.mesh name action.target (written.one_kind k d within)
          ∙ sym (length_there config part case_file action.mesh action.target (number action.target) target));
      few = rw length-map written.few;
    }

no_action : ActionEntry
no_action = record { kind = Summation; mesh = []; sources = []; target = [] }

-- no entry is the target of two
targets_once : (config : Config) (part : PartTable) → All (Written config part) part.action → AllPairs (λ (one other : ActionEntry). one.target ≢ other.target) part.action
    → AllPairs (λ (one other : EntrySum). one.target ≢ other.target) (map (entry_sum part.write) part.action)
targets_once config part written once i j d less within =
    let make = entry_sum part.write in
    let acts = part.action in
    let later : j < length acts = omega (arith, within, length-map acts make) in
    let earlier : i < length acts = omega (arith, less, later) in
    let one = get_or acts i no_action in
    let other = get_or acts j no_action in
    let apart : entry_of part.write one.mesh one.target ≢ entry_of part.write other.mesh other.target =
    entries_apart part.write one.mesh other.mesh one.target other.target (entry_of part.write one.mesh one.target) (entry_of part.write other.mesh other.target)
    (entry_found part one.mesh one.target (written i no_action earlier).target)
    (entry_found part other.mesh other.target (written j no_action later).target)
    (once i j no_action less later) in
    λ same.
    apart
    (sym (ap (λ (sum : EntrySum). sum.target) (get_or-map make acts i no_action d earlier))
    ∙ same
    ∙ ap (λ (sum : EntrySum). sum.target) (get_or-map make acts j no_action d later))

-- no target is a source
sources_apart : (config : Config) (part : PartTable) → All (Written config part) part.action
    → All (λ (one : EntrySum). All (λ (other : EntrySum). All (λ source. source ≢ other.target) one.sources) (map (entry_sum part.write) part.action)) (map (entry_sum part.write) part.action)
sources_apart config part written =
    let make = entry_sum part.write in
    let acts = part.action in
    All-map (λ (one : EntrySum). All (λ (other : EntrySum). All (λ source. source ≢ other.target) one.sources) (map make acts)) make acts
    (λ k d within.
    let one = get_or acts k d in
    All-map (λ (other : EntrySum). All (λ source. source ≢ other.target) (make one).sources) make acts
    (λ m e inside.
    let other = get_or acts m e in
    All-map (λ (source : ℕ). source ≢ (make other).target) (entry_of part.write one.mesh) one.sources
    (λ n f there.
    let name = get_or one.sources n f in
    let differ : name ≢ other.target =
    λ same. (written m e inside).no_source k d within (subst (λ (text : List ℕ). Contains one.sources text) same (Contains-get_or one.sources n f there)) in
    entries_apart part.write one.mesh other.mesh name other.target (entry_of part.write one.mesh name) (entry_of part.write other.mesh other.target)
    (entry_found part one.mesh name ((written k d within).sources n f there))
    (entry_found part other.mesh other.target (written m e inside).target)
    differ)))

pub fit_sums : (config : Config) (case_file : CaseFile) → IsSoundConfig config → IsAccepted config
    → All (λ (part : PartTable). AreSums (written_values config part case_file) (ActionSums part (written_lengths config part case_file))) config.participant
fit_sums config case_file sound accepted k d within =
    let part = get_or config.participant k d in
    let fits = actions config accepted k d within in
    let written = all_written config part (sound.participants k d within) fits in
    let lengths = written_lengths config part case_file in
    let once : AllPairs (λ (one other : ActionEntry). one.target ≢ other.target) part.action =
    pairs_after (λ (one other : ActionEntry). one.target ≢ other.target) part.action (λ before entry after is. (fits before entry after is).once) in
    let are : AreEntrySums lengths (map (entry_sum part.write) part.action) =
    record {
      each = All-map (IsEntrySum lengths) (entry_sum part.write) part.action (λ n e there. is_entry_sum config part case_file (get_or part.action n e) (written n e there));
      once = targets_once config part written once;
      apart = sources_apart config part written;
    } in
    subst (λ (n : ℕ). AreSums n (ActionSums part lengths)) (sum-map (values_of config case_file) part.write)
    (entry_sums lengths (map (entry_sum part.write) part.action) are)

pub few_values : (config : Config) (part : PartTable) (case_file : CaseFile) → IsSoundConfig config → IsSoundParticipant part → IsSoundCaseFile case_file
    → sum (written_lengths config part case_file) ≤ 1920000
few_values config part case_file sound sound_part sound_case =
    let total = sum-map (values_of config case_file) part.write in
    rw total (sum_few config case_file part.write sound sound_case sound_part.few_writes)
