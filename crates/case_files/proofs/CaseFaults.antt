-- Why a case file is refused, and what an accepted one is.
use Rattle.std.proofs.Common.{◌≡◌, ℕ, ◌+◌, ◌≤◌, ◌^◌, true, false, nat_le, List, length, Option, Some, None, Ok, Err, refl, ap, inl, inr, cond, subst, sym, arith}
use Rattle.std.proofs.lemmas.Bool.Decides.{nat_tests}
use Rattle.toml.specs.Data.{Members}
use Rattle.cpl_tables.specs.declared.places.Place.TheVariants.{Case}
use Rattle.cpl_rules.specs.declared.rules.Refusal.{Refusal}
use Rattle.cpl_rules.specs.SeenTables.{case_top}
use Rattle.cpl_rules.specs.Refused.{refusal_of, IsRefused, IsInOrder}
use Rattle.cpl_rules.proofs.RuleSteps.{refusal-says}
use Rattle.cpl_config.specs.Acceptance.{tree_of}
use Rattle.cpl_config.proofs.Faults.{refused_found, none_found, accepted_found}
use Rattle.case_files.specs.declared.case_file.CaseFile.{CaseFile}
use Rattle.case_files.specs.CaseOf.{case_of}
use Rattle.case_files.specs.CaseAcceptance.{at_case, case_acceptance, case_acceptance_of_tree}
use Rattle.case_files.specs.FirstCaseFault.{IsFirstCaseFault}
use Rattle.case_files.specs.NoCaseFault.{HasNoCaseFault}
use Rattle.case_files.specs.SoundCase.{IsSoundCaseFile}
use Rattle.case_files.proofs.SoundCases.{case_in_order}
use Rattle.case_files.proofs.CasePlaces.{refused_at_case}

module _ (part : ℕ) (bytes : List ℕ) where
  fault_of_tree : length bytes ≤ 2 ^ 20 → (o : Option Members) → tree_of bytes ≡ o → (refusal : Refusal) → case_acceptance_of_tree part o ≡ Err refusal → IsFirstCaseFault part bytes refusal
  fault_of_tree small None read refusal e = inr (inl (record { size = small; unread = read; told = cc }))
  fault_of_tree small (Some members) read refusal e =
      let top = case_top (part + 1) members in
      let told : IsRefused top refusal = (refusal-says top (Some refusal) (sym (refused_found (refusal_of top) (case_of members) refusal e))).0 in
      inr (inr (record { size = small; members = members; read = read; told = told }))

  -- a case file that is refused is so for its first broken rule
  pub first_case_fault : (refusal : Refusal) → case_acceptance part bytes ≡ Err refusal → IsFirstCaseFault part bytes refusal
  first_case_fault refusal =
      elim (nat_le (length bytes) (2 ^ 20)) as (λ small. nat_le (length bytes) (2 ^ 20) ≡ small → cond small (case_acceptance_of_tree part (tree_of bytes)) (Err (at_case part 1)) ≡ Err refusal → IsFirstCaseFault part bytes refusal) [
        | true ↦ λ small e. fault_of_tree (grind (arith, nat_tests)) (tree_of bytes) refl refusal e
        | false ↦ λ small e. inl (record { size = grind (arith, nat_tests); told = cc })
      ] refl

  -- and its place is that of the file
  pub fault_at_case : (refusal : Refusal) → IsFirstCaseFault part bytes refusal → refusal.place ≡ Case (part + 1)
  fault_at_case refusal (inl fault) = ap (λ r. r.place) fault.told
  fault_at_case refusal (inr (inl fault)) = ap (λ r. r.place) fault.told
  fault_at_case refusal (inr (inr fault)) = refused_at_case (part + 1) fault.members refusal fault.told

  order_of_tree : length bytes ≤ 2 ^ 20 → (o : Option Members) → tree_of bytes ≡ o → (accepted : CaseFile) → case_acceptance_of_tree part o ≡ Ok accepted → HasNoCaseFault part bytes
  order_of_tree small None read accepted e = absurd (cc)
  order_of_tree small (Some members) read accepted e =
      let top = case_top (part + 1) members in
      let in_order : IsInOrder top = (refusal-says top None (sym (none_found (refusal_of top) (case_of members) accepted e))).1 in
      record { size = small; members = members; read = read; in_order = in_order }

  -- a case file that is accepted breaks no rule
  pub no_case_fault : (accepted : CaseFile) → case_acceptance part bytes ≡ Ok accepted → HasNoCaseFault part bytes
  no_case_fault accepted =
      elim (nat_le (length bytes) (2 ^ 20)) as (λ small. nat_le (length bytes) (2 ^ 20) ≡ small → cond small (case_acceptance_of_tree part (tree_of bytes)) (Err (at_case part 1)) ≡ Ok accepted → HasNoCaseFault part bytes) [
        | true ↦ λ small e. order_of_tree (grind (arith, nat_tests)) (tree_of bytes) refl accepted e
        | false ↦ λ small e. absurd (cc)
      ] refl

  sound_of_tree : (o : Option Members) (accepted : CaseFile) → case_acceptance_of_tree part o ≡ Ok accepted → IsSoundCaseFile accepted
  sound_of_tree None accepted e = absurd (cc)
  sound_of_tree (Some members) accepted e =
      let top = case_top (part + 1) members in
      let in_order : IsInOrder top = (refusal-says top None (sym (none_found (refusal_of top) (case_of members) accepted e))).1 in
      let P : CaseFile → Type 0 = λ other. IsSoundCaseFile other in
      subst P (accepted_found (refusal_of top) (case_of members) accepted e) (case_in_order (part + 1) members in_order)

  -- a case file that is accepted means a sound case
  pub sound_case_file : (accepted : CaseFile) → case_acceptance part bytes ≡ Ok accepted → IsSoundCaseFile accepted
  sound_case_file accepted =
      elim (nat_le (length bytes) (2 ^ 20)) as (λ small. cond small (case_acceptance_of_tree part (tree_of bytes)) (Err (at_case part 1)) ≡ Ok accepted → IsSoundCaseFile accepted) [
        | true ↦ λ e. sound_of_tree (tree_of bytes) accepted e
        | false ↦ λ e. absurd (cc)
      ]
