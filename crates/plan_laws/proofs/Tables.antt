-- The tables of the schemes of a valid plan: who is in them, and which exchanges they have.
use Rattle.std.proofs.Common.{◌≡◌, ℕ, ◌<◌, true, List, [], ◌++◌, length, map, Option, Some, Contains, refl, ap, sym, subst, ◌∙◌, arith}
use Rattle.std.specs.Prelude.{slice_get, option_map, unwrap_or}
use Rattle.std.specs.List.{list_any, enumerate_from}
use Rattle.std.specs.Str.{bytes_eq}
use Rattle.std.proofs.lemmas.Bool.{eqb-true, ltb-true}
use Rattle.std.proofs.lemmas.List.{length-map}
use Rattle.cpl_plan.specs.declared.parts.PlanParts.{PlanParts}
use Rattle.cpl_plan.specs.declared.parts.Part.{Part}
use Rattle.cpl_plan.specs.declared.parts.Scheme.{Scheme}
use Rattle.cpl_plan.specs.declared.parts.SchemeKind.{SchemeKind}
use Rattle.cpl_plan.specs.declared.parts.SchemeKind.TheVariants.{SerialExplicit, ParallelExplicit, SerialImplicit, ParallelImplicit, Multi}
use Rattle.cpl_plan.specs.ExchangeKinds as kinds
use Rattle.cpl_plan.specs.PlanWords.{is_among}
use Rattle.cpl_plan.specs.PlanTests.{part_names, has_members}
use Rattle.cpl_plan.specs.ValidPlan.{IsValidPlan}
use Rattle.cpl_plan.proofs.Readings.{each_at}
use Rattle.cpl_config.specs.declared.config.SchemeTable.{SchemeTable}
use Rattle.config_rules.specs.Members.{name_there, members, is_member, is_implicit, scheme_kind}
use Rattle.plan_laws.specs.PlanNames.{part_name}
use Rattle.plan_laws.specs.PlanSchemes.{kind_word, one_of_two, all_of_many, scheme_table}
use Rattle.plan_laws.specs.ConfigOfPlan.{config_of_plan}
use Rattle.plan_laws.proofs.Lists.{at_mapped, from_mapped, of_option, passes_each, enumerated, two_items}
use Rattle.plan_laws.proofs.Distinct.{among_names}

-- a kind is the kind of its word
pub kind_back : (kind : SchemeKind) → scheme_kind (kind_word kind) ≡ kind
kind_back SerialExplicit = refl
kind_back ParallelExplicit = refl
kind_back SerialImplicit = refl
kind_back ParallelImplicit = refl
kind_back Multi = refl

-- the members are those that are told, whatever the kind

of_two : (names : List (List ℕ)) → length names ≡ 2 → name_there (slice_get names 0) ++ name_there (slice_get names 1) ++ [] ≡ names
of_two names two =
    let items = two_items names two in
    subst (λ (xs : List (List ℕ)). name_there (slice_get xs 0) ++ name_there (slice_get xs 1) ++ [] ≡ xs) (sym items.2) refl

pub all_told : (kind : SchemeKind) (names : List (List ℕ)) → has_members kind (length names) ≡ true
    → name_there (one_of_two kind 0 names) ++ name_there (one_of_two kind 1 names) ++ unwrap_or (all_of_many kind names) [] ≡ names
all_told SerialExplicit names counted = of_two names (eqb-true (length names) 2 counted)
all_told ParallelExplicit names counted = of_two names (eqb-true (length names) 2 counted)
all_told SerialImplicit names counted = of_two names (eqb-true (length names) 2 counted)
all_told ParallelImplicit names counted = of_two names (eqb-true (length names) 2 counted)
all_told Multi names counted = refl

module _ (plan : PlanParts) (valid : IsValidPlan plan) where
  -- a scheme and its table

  pub scheme_at : (s : ℕ) (scheme : Scheme) → slice_get plan.schemes s ≡ Some scheme → slice_get (config_of_plan plan).scheme s ≡ Some (scheme_table plan s scheme)
  scheme_at s scheme is =
      at_mapped (λ (entry : ℕ × Scheme). scheme_table plan entry.0 entry.1) (enumerate_from 0 plan.schemes) s (s, scheme)
      (enumerated plan.schemes s ∙ ap (λ (o : Option Scheme). option_map (λ (x : Scheme). (s, x)) o) is)

  pub scheme_from : (s : ℕ) (table : SchemeTable) → slice_get (config_of_plan plan).scheme s ≡ Some table → (scheme : Scheme) × (slice_get plan.schemes s ≡ Some scheme) × (scheme_table plan s scheme ≡ table)
  scheme_from s table is =
      let entry = from_mapped (λ (entry : ℕ × Scheme). scheme_table plan entry.0 entry.1) (enumerate_from 0 plan.schemes) s table is in
      let of = of_option (λ (x : Scheme). (s, x)) (slice_get plan.schemes s) entry.0 (sym (enumerated plan.schemes s) ∙ entry.1) in
      (of.0, of.1, ap (λ (e : ℕ × Scheme). scheme_table plan e.0 e.1) of.2 ∙ entry.2)

  -- members

  pub member_in : (s : ℕ) (scheme : Scheme) → slice_get plan.schemes s ≡ Some scheme → (p : ℕ) → Contains scheme.members p → p < length plan.parts
  member_in s scheme is p inside = ltb-true p (length plan.parts) (passes_each _ scheme.members (each_at _ plan.schemes valid.schemes.members_declared s scheme is) p inside)

  pub names_counted : (s : ℕ) (scheme : Scheme) → slice_get plan.schemes s ≡ Some scheme → has_members scheme.kind (length (map (part_name plan) scheme.members)) ≡ true
  names_counted s scheme is =
      ap (has_members scheme.kind) (length-map scheme.members (part_name plan)) ∙ each_at _ plan.schemes valid.schemes.members_counted s scheme is

  pub members_are : (s : ℕ) (scheme : Scheme) → slice_get plan.schemes s ≡ Some scheme → members (scheme_table plan s scheme) ≡ map (part_name plan) scheme.members
  members_are s scheme is = all_told scheme.kind (map (part_name plan) scheme.members) (names_counted s scheme is)

  parts_named : (p : ℕ) → p < length plan.parts → p < length (part_names plan)
  parts_named p within = omega (arith, within, length-map plan.parts (λ (part : Part). part.name))

  pub member_is : (s : ℕ) (scheme : Scheme) → slice_get plan.schemes s ≡ Some scheme → (p : ℕ) → p < length plan.parts → is_member (part_name plan p) (scheme_table plan s scheme) ≡ is_among p scheme.members
  member_is s scheme is p within =
      ap (list_any (bytes_eq (part_name plan p))) (members_are s scheme is)
      ∙ among_names (part_names plan) valid.sizes.parts_named_once p scheme.members (parts_named p within) (λ k inside. parts_named k (member_in s scheme is k inside))

  pub implicit_is : (s : ℕ) (scheme : Scheme) → is_implicit (scheme_table plan s scheme) ≡ kinds.is_implicit scheme.kind
  implicit_is s scheme = ap kinds.is_implicit (kind_back scheme.kind)
