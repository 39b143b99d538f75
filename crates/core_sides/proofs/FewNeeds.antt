-- A participant has few needs: one of each partner in each scheme at most.
use Rattle.std.proofs.Common.{◌≡◌, ℕ, suc, ◌*◌, ◌≤◌, Bool, true, false, not, ◌&&◌, nat_eq, cond, List, [], ◌∷◌, length, map, filter, slice_get, None, refl, arith, length-append}
use Rattle.std.proofs.lemmas.List.{length-map}
use Rattle.std.specs.List.{range_with_len}
use Rattle.std.proofs.lemmas.Nat.{mul-le}
use Rattle.std.proofs.lemmas.List.FromFn.{length-range_with_len}
use Rattle.std.proofs.lemmas.Option.{slice_get_past}
use Rattle.cpl_plan.specs.Needs.{needs, needs_of, needs_in, partners, asked, is_second}
use Rattle.cpl_plan.specs.PlanWords.{is_among}
use Rattle.cpl_plan.specs.ValidPlan.{IsValidPlan}
use Rattle.cpl_plan.specs.declared.parts.PlanParts.{PlanParts}
use Rattle.cpl_plan.specs.declared.parts.Scheme.{Scheme}
use Rattle.cpl_plan.specs.declared.words.Need.{Need}

filter_short : {X : Type 0} (test : X → Bool) (xs : List X) → length (filter test xs) ≤ length xs
filter_short test [] = omega arith
filter_short test (x ∷ xs) = by (test x) refl (filter_short test xs) where
  by : (b : Bool) → test x ≡ b → length (filter test xs) ≤ length xs → length (filter test (x ∷ xs)) ≤ suc (length xs)
  by true e rest = rw e (omega (arith, rest))
  by false e rest = rw e (omega (arith, rest))

cond_short : {X : Type 0} (b : Bool) (xs : List X) (most : ℕ) → length xs ≤ most → length (cond b xs []) ≤ most
cond_short true xs most short = short
cond_short false xs most short = omega arith

in_scheme_few : (scheme : Scheme) (parts part w k : ℕ) → length (needs_in scheme parts part w k) ≤ parts
in_scheme_few scheme parts part w k =
    cond_short (is_among part scheme.members)
    (map (λ other. record { owner = other; item = asked scheme.kind (is_second scheme part) w k }) (partners scheme.members parts part)) parts
    (let all = filter_short (λ other. not (nat_eq other part) && is_among other scheme.members) (range_with_len 0 parts) in
    omega (arith, length-map {A = ℕ} {B = Need} (partners scheme.members parts part) (λ other. record { owner = other; item = asked scheme.kind (is_second scheme part) w k }), all, length-range_with_len 0 parts))

few_of : (schemes : List Scheme) (parts part w k : ℕ) → length (needs_of schemes parts part w k) ≤ length schemes * parts
few_of [] parts part w k = omega arith
few_of (scheme ∷ schemes) parts part w k =
    let here = in_scheme_few scheme parts part w k in
    let rest = few_of schemes parts part w k in
    let joined = length-append (needs_in scheme parts part w k) (needs_of schemes parts part w k) in
    omega (arith, here, rest, joined)

few_pairs : (a b : ℕ) → a ≤ 64 → b ≤ 64 → a * b ≤ 64 * 64
few_pairs a b few few' = mul-le a b 64 64 few few'

-- there is none past so many
pub no_need_past : (plan : PlanParts) (part w k i : ℕ) → IsValidPlan plan → 64 * 64 ≤ i → slice_get (needs plan part w k) i ≡ None
no_need_past plan part w k i valid past =
    slice_get_past (needs plan part w k) i
    (let all = few_of plan.schemes (length plan.parts) part w k in
    let few = few_pairs (length plan.schemes) (length plan.parts) valid.sizes.schemes.1 valid.sizes.parts.1 in
    omega (arith, all, few, past))
