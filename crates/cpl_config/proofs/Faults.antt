-- Why a file is refused, and what an accepted one is.
use Rattle.std.proofs.Common.{◌≡◌, ℕ, ◌≤◌, ◌^◌, true, false, nat_le, List, length, Option, Some, None, Result, Ok, Err, refl, inl, inr, cond, IfOk, subst, sym, arith}
use Rattle.std.proofs.lemmas.Bool.Decides.{nat_tests}
use Rattle.toml.specs.Data.{Members}
use Rattle.cpl_rules.specs.declared.rules.Refusal.{Refusal}
use Rattle.cpl_rules.specs.SeenTables.{config_top}
use Rattle.cpl_rules.specs.Refused.{refusal_of, IsRefused, IsInOrder}
use Rattle.cpl_rules.proofs.RuleSteps.{refusal-says}
use Rattle.cpl_config.specs.declared.config.Config.{Config}
use Rattle.cpl_config.specs.declared.error.ConfigErr.{ConfigErr}
use Rattle.cpl_config.specs.ConfigOf.{config_of}
use Rattle.cpl_config.specs.Acceptance.{acceptance, acceptance_of_tree, unless_refused, tree_of, at_config}
use Rattle.cpl_config.specs.Answers.{Answers}
use Rattle.cpl_config.specs.FirstFault.{IsFirstFault}
use Rattle.cpl_config.specs.NoFault.{HasNoFault}
use Rattle.cpl_config.specs.SoundConfig.{IsSoundConfig}
use Rattle.cpl_config.proofs.SoundConfigs.{sound_config}

-- whatever a file means

pub refused_found : {A : Type 0} (o : Option Refusal) (meant : A) (refusal : Refusal) → unless_refused o meant ≡ Err refusal → o ≡ Some refusal
refused_found None meant refusal e = absurd (cc)
refused_found (Some found) meant refusal e = cc

pub none_found : {A : Type 0} (o : Option Refusal) (meant accepted : A) → unless_refused o meant ≡ Ok accepted → o ≡ None
none_found None meant accepted e = refl
none_found (Some refusal) meant accepted e = absurd (cc)

pub accepted_found : {A : Type 0} (o : Option Refusal) (meant accepted : A) → unless_refused o meant ≡ Ok accepted → meant ≡ accepted
accepted_found None meant accepted e = cc
accepted_found (Some refusal) meant accepted e = absurd (cc)

-- what holds of whatever a file is accepted as holds of what is answered
pub answered : {A : Type 0} (P : A → Type 0) (file : Result A Refusal) (answer : Result A ConfigErr) → Answers file answer → ((meant : A) → file ≡ Ok meant → P meant) → IfOk answer P
answered P file (Ok meant) is holds = holds meant is
answered P file (Err e) is holds = tt

-- a configuration

fault_of_tree : (bytes : List ℕ) → length bytes ≤ 2 ^ 20 → (o : Option Members) → tree_of bytes ≡ o → (refusal : Refusal) → acceptance_of_tree o ≡ Err refusal → IsFirstFault bytes refusal
fault_of_tree bytes small None read refusal e = inr (inl (record { size = small; unread = read; told = cc }))
fault_of_tree bytes small (Some members) read refusal e =
    let top = config_top members in
    let told : IsRefused top refusal = (refusal-says top (Some refusal) (sym (refused_found (refusal_of top) (config_of members) refusal e))).0 in
    inr (inr (record { size = small; members = members; read = read; told = told }))

-- a file that is refused is so for its first broken rule
pub first_fault : (bytes : List ℕ) (refusal : Refusal) → acceptance bytes ≡ Err refusal → IsFirstFault bytes refusal
first_fault bytes refusal =
    elim (nat_le (length bytes) (2 ^ 20)) as (λ small. nat_le (length bytes) (2 ^ 20) ≡ small → cond small (acceptance_of_tree (tree_of bytes)) (Err (at_config 1)) ≡ Err refusal → IsFirstFault bytes refusal) [
      | true ↦ λ small e. fault_of_tree bytes (grind (arith, nat_tests)) (tree_of bytes) refl refusal e
      | false ↦ λ small e. inl (record { size = grind (arith, nat_tests); told = cc })
    ] refl

order_of_tree : (bytes : List ℕ) → length bytes ≤ 2 ^ 20 → (o : Option Members) → tree_of bytes ≡ o → (config : Config) → acceptance_of_tree o ≡ Ok config → HasNoFault bytes
order_of_tree bytes small None read config e = absurd (cc)
order_of_tree bytes small (Some members) read config e =
    let top = config_top members in
    let in_order : IsInOrder top = (refusal-says top None (sym (none_found (refusal_of top) (config_of members) config e))).1 in
    record { size = small; members = members; read = read; in_order = in_order }

-- a file that is accepted breaks no rule
pub no_fault : (bytes : List ℕ) (config : Config) → acceptance bytes ≡ Ok config → HasNoFault bytes
no_fault bytes config =
    elim (nat_le (length bytes) (2 ^ 20)) as (λ small. nat_le (length bytes) (2 ^ 20) ≡ small → cond small (acceptance_of_tree (tree_of bytes)) (Err (at_config 1)) ≡ Ok config → HasNoFault bytes) [
      | true ↦ λ small e. order_of_tree bytes (grind (arith, nat_tests)) (tree_of bytes) refl config e
      | false ↦ λ small e. absurd (cc)
    ] refl

sound_of_tree : (o : Option Members) (config : Config) → acceptance_of_tree o ≡ Ok config → IsSoundConfig config
sound_of_tree None config e = absurd (cc)
sound_of_tree (Some members) config e =
    let refusal = refusal_of (config_top members) in
    let P : Config → Type 0 = λ accepted. IsSoundConfig accepted in
    subst P (accepted_found refusal (config_of members) config e) (sound_config members (none_found refusal (config_of members) config e))

-- a file that is accepted means a sound configuration
pub sound_file : (bytes : List ℕ) (config : Config) → acceptance bytes ≡ Ok config → IsSoundConfig config
sound_file bytes config =
    elim (nat_le (length bytes) (2 ^ 20)) as (λ small. cond small (acceptance_of_tree (tree_of bytes)) (Err (at_config 1)) ≡ Ok config → IsSoundConfig config) [
      | true ↦ λ e. sound_of_tree (tree_of bytes) config e
      | false ↦ λ e. absurd (cc)
    ]
