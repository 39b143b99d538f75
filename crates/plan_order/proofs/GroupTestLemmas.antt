-- What the tests of groups and pairs tell.
use Rattle.std.proofs.Common.{◌≡◌, ℕ, zero, suc, ◌<◌, length, get_or, true, not, ◌&&◌, List, [], ◌∷◌, refl, ap, sym, ◌∙◌, All, Contains, nat_lt}
use Rattle.std.specs.List.{list_all}
use Rattle.std.proofs.lemmas.Bool.{and_parts, ltb-true, false≢true}
use Rattle.std.proofs.lemmas.List.Elements.{All-weaker, All-contains}
use Rattle.std.proofs.lemmas.List.Sums.{AllPass-from_list_all}
use Rattle.plan_order.specs.Groups.{is_grouped, AreGroups}
use Rattle.plan_order.specs.GroupTests.{are_apart, are_groups, are_pairs}
use Rattle.plan_order.proofs.Orders.{none_in_nil}
use Rattle.plan_order.proofs.NamedGroups.{grouped}

apart_first : (group : List ℕ) (others : List (List ℕ)) (h part : ℕ) → list_all (λ p. not (is_grouped others p)) group ≡ true
    → Contains group part → Contains (get_or others h []) part → ⊥
apart_first group others h part is one two =
    let out = All-contains (λ p. not (is_grouped others p) ≡ true) group part (AllPass-from_list_all (λ p. not (is_grouped others p)) group is) one in
    false≢true (sym (ap not (grouped others h part two)) ∙ out)

apart : (groups : List (List ℕ)) → are_apart groups ≡ true → (g h part : ℕ) → Contains (get_or groups g []) part → Contains (get_or groups h []) part → g ≡ h
apart [] is g h part one two = absurd (none_in_nil part one)
apart (group ∷ others) is zero zero part one two = refl
apart (group ∷ others) is zero (suc h) part one two =
    absurd (apart_first group others h part (and_parts (list_all (λ p. not (is_grouped others p)) group) (are_apart others) is).0 one two)
apart (group ∷ others) is (suc g) zero part one two =
    absurd (apart_first group others g part (and_parts (list_all (λ p. not (is_grouped others p)) group) (are_apart others) is).0 two one)
apart (group ∷ others) is (suc g) (suc h) part one two =
    ap suc (apart others (and_parts (list_all (λ p. not (is_grouped others p)) group) (are_apart others) is).1 g h part one two)

pub groups_from_test : (parts : ℕ) (groups : List (List ℕ)) → are_groups parts groups ≡ true → AreGroups parts groups
groups_from_test parts groups is =
    let has = λ (group : List ℕ). nat_lt 0 (length group) in
    let under = λ (group : List ℕ). list_all (λ (part : ℕ). nat_lt part parts) group in
    let all = and_parts (list_all has groups && list_all under groups) (are_apart groups) is in
    let both = and_parts (list_all has groups) (list_all under groups) all.0 in
    record {
      filled = All-weaker (λ group. has group ≡ true) (λ group. 0 < length group) (λ group t. ltb-true 0 (length group) t) groups (AllPass-from_list_all has groups both.0);
      in_range = All-weaker (λ group. under group ≡ true) (λ group. All (λ part. part < parts) group)
          (λ group t. All-weaker (λ part. nat_lt part parts ≡ true) (λ part. part < parts) (λ part t'. ltb-true part parts t') group
          (AllPass-from_list_all (λ part. nat_lt part parts) group t)) groups (AllPass-from_list_all under groups both.1);
      disjoint = apart groups all.1;
    }

pub pairs_from_test : (parts : ℕ) (pairs : List (ℕ × ℕ)) → are_pairs parts pairs ≡ true → All (λ pair. (pair.0 < parts) × (pair.1 < parts)) pairs
pairs_from_test parts pairs is =
    All-weaker (λ (pair : ℕ × ℕ). (nat_lt pair.0 parts && nat_lt pair.1 parts) ≡ true) (λ pair. (pair.0 < parts) × (pair.1 < parts))
    (λ pair t. let both = and_parts (nat_lt pair.0 parts) (nat_lt pair.1 parts) t in (ltb-true pair.0 parts both.0, ltb-true pair.1 parts both.1))
    pairs (AllPass-from_list_all (λ (pair : ℕ × ℕ). nat_lt pair.0 parts && nat_lt pair.1 parts) pairs is)
