-- What `node_order` asks of its groups and pairs, as tests that compute; only the crate's own tests cite them. The project's own.
use Rattle.std.specs.Prelude.{ℕ, nat_lt, Bool, true, not, ◌&&◌, List, [], ◌∷◌, length}
use Rattle.std.specs.List.{list_all}
use Rattle.plan_order.specs.Groups.{is_grouped}

-- no participant is in two groups
abbrev pub are_apart : List (List ℕ) → Bool
are_apart [] = true
are_apart (group ∷ others) = list_all (λ part. not (is_grouped others part)) group && are_apart others

-- groups are disjoint and have members, each of them a participant
abbrev pub are_groups : ℕ → List (List ℕ) → Bool
are_groups parts groups =
    (list_all (λ group. nat_lt 0 (length group)) groups && list_all (λ group. list_all (λ part. nat_lt part parts) group) groups)
    && are_apart groups

-- both ends of each pair are participants
abbrev pub are_pairs : ℕ → List (ℕ × ℕ) → Bool
are_pairs parts pairs = list_all (λ pair. nat_lt pair.0 parts && nat_lt pair.1 parts) pairs
