-- Steps that go round are never all taken away, and where they are never all taken away they go round.
use Rattle.std.proofs.Common.{◌≡◌, ℕ, zero, suc, ◌≤◌, Bool, true, false, not, inl, inr, length, List, [], ◌∷◌, map, refl, ap, sym, subst, ◌∙◌, arith, Contains}
use Rattle.std.specs.Prelude.{◌==◌}
use Rattle.std.proofs.lemmas.Bool.{eq-eqb, eqb-true}
use Rattle.plan_order.specs.NodeOrder.{StandsBefore}
use Rattle.plan_order.specs.Cycle.{Leads}
use Rattle.plan_order.proofs.Loops.{head_in, in_cons, cycle_among}
use Rattle.plan_order.proofs.Named.{in_map, from_map}
use Rattle.config_rules.specs.declared.circles.Step.{Step}
use Rattle.config_rules.specs.Circles.{is_followed, followed, left_after, is_empty, has_circle}
use Rattle.config_laws.specs.Circling.{pairs_of, GoesRound}
use Rattle.config_laws.proofs.Members.{any_at, any_found, from_filter, in_filter, all_or_fewer}

abbrev pub Before : List Step → ℕ → ℕ → Type 0
Before steps x y = StandsBefore (λ (node : ℕ). node ∷ []) (pairs_of steps) x y

Walk : List Step → ℕ → List ℕ → ℕ → Type 0
Walk steps x between y = Leads (λ (node : ℕ). node ∷ []) (pairs_of steps) x between y

-- some step leads to x
Into : List Step → ℕ → Type 0
Into steps x = (step : Step) × Contains steps step × (step.to ≡ x)

in_one : (x y : ℕ) → Contains (x ∷ []) y → x ≡ y
in_one x y inside =
    elim (in_cons x [] y inside) [
      | inl same ↦ same
      | inr none ↦ absurd (omega (arith, none.1))
    ]

-- where x stands before y a step goes from the one to the other
pub step_between : (steps : List Step) (x y : ℕ) → Before steps x y → (step : Step) × Contains steps step × (step.from ≡ x) × (step.to ≡ y)
step_between steps x y stands =
    let found = from_map (λ (step : Step). (step.from, step.to)) steps stands.pair stands.listed in
    let from : found.0.from ≡ x = ap (λ (pair : ℕ × ℕ). pair.0) found.2 ∙ sym (in_one x stands.pair.0 stands.from) in
    let to : found.0.to ≡ y = ap (λ (pair : ℕ × ℕ). pair.1) found.2 ∙ sym (in_one y stands.pair.1 stands.to) in
    (found.0, found.1, from, to)

stands_by : (steps : List Step) (step : Step) → Contains steps step → Before steps step.from step.to
stands_by steps step inside = record {
  pair = (step.from, step.to);
  listed = in_map (λ (step : Step). (step.from, step.to)) steps step inside;
  from = head_in step.from [];
  to = head_in step.to [];
}

moved : (steps : List Step) (a x b y : ℕ) → a ≡ x → b ≡ y → Before steps a b → Before steps x y
moved steps a x b y from to stands = subst (λ (n : ℕ). Before steps n y) from (subst (λ (n : ℕ). Before steps a n) to stands)

leads_into : (steps : List Step) (x y : ℕ) → Before steps x y → Into steps y
unfolding Into
leads_into steps x y stands = let found = step_between steps x y stands in (found.0, found.1, found.3)

-- a step from a node that some step leads to is kept
kept_step : (steps : List Step) (x y : ℕ) → Into steps x → Before steps x y → Before (followed steps) x y
unfolding Into
kept_step steps x y into stands =
    let found = step_between steps x y stands in
    let same : into.0.to ≡ found.0.from = into.2 ∙ sym found.2 in
    let is : is_followed steps found.0 ≡ true = any_at (λ (other : Step). other.to == found.0.from) steps into.0 into.1 (eq-eqb into.0.to found.0.from same) in
    let kept : Contains (followed steps) found.0 = in_filter (is_followed steps) steps found.0 found.1 is in
    moved (followed steps) found.0.from x found.0.to y found.2 found.3 (stands_by (followed steps) found.0 kept)

kept_walk : (steps : List Step) (x : ℕ) (between : List ℕ) (y : ℕ) → Into steps x → Walk steps x between y → Walk (followed steps) x between y
unfolding Walk
kept_walk steps x [] y into walk = kept_step steps x y into walk
kept_walk steps x (next ∷ rest) y into walk = (kept_step steps x next into walk.0, kept_walk steps next rest y (leads_into steps x next walk.0) walk.1)

last_into : (steps : List Step) (x : ℕ) (between : List ℕ) (y : ℕ) → Walk steps x between y → Into steps y
unfolding Walk
last_into steps x [] y walk = leads_into steps x y walk
last_into steps x (next ∷ rest) y walk = last_into steps next rest y walk.1

kept_round : (steps : List Step) → GoesRound steps → GoesRound (followed steps)
unfolding Walk
kept_round steps round = record {
  start = round.start;
  between = round.between;
  walk = kept_walk steps round.start round.between round.start (last_into steps round.start round.between round.start round.walk) round.walk;
}

kept_rounds : (times : ℕ) (steps : List Step) → GoesRound steps → GoesRound (left_after times steps)
kept_rounds zero steps round = round
kept_rounds (suc times) steps round = kept_rounds times (followed steps) (kept_round steps round)

some_left : (steps : List Step) → GoesRound steps → is_empty steps ≡ false
unfolding Walk Into
some_left [] round = let into = last_into [] round.start round.between round.start round.walk in absurd (omega (arith, into.1.1))
some_left (step ∷ steps) round = refl

pub circle_found : (steps : List Step) → GoesRound steps → has_circle steps ≡ true
circle_found steps round = ap not (some_left (left_after (length steps) steps) (kept_rounds (length steps) steps round))

-- steps that are all among others

loose_step : (steps more : List Step) → ((step : Step) → Contains steps step → Contains more step) → (x y : ℕ) → Before steps x y → Before more x y
loose_step steps more inside x y stands =
    let found = step_between steps x y stands in
    moved more found.0.from x found.0.to y found.2 found.3 (stands_by more found.0 (inside found.0 found.1))

loose_walk : (steps more : List Step) → ((step : Step) → Contains steps step → Contains more step) → (x : ℕ) (between : List ℕ) (y : ℕ) → Walk steps x between y → Walk more x between y
unfolding Walk
loose_walk steps more inside x [] y walk = loose_step steps more inside x y walk
loose_walk steps more inside x (next ∷ rest) y walk = (loose_step steps more inside x next walk.0, loose_walk steps more inside next rest y walk.1)

-- go round as those do
pub loose_round : (steps more : List Step) → ((step : Step) → Contains steps step → Contains more step) → GoesRound steps → GoesRound more
unfolding Walk
loose_round steps more inside round = record {
  start = round.start;
  between = round.between;
  walk = loose_walk steps more inside round.start round.between round.start round.walk;
}

-- a step begins at the node
Leaves : List Step → ℕ → Type 0
Leaves steps node = Contains (map (λ step. step.from) steps) node

-- where each step is followed, before each node from which one goes stands another such
one_before : (steps : List Step) → ((step : Step) → Contains steps step → is_followed steps step ≡ true) → (y : ℕ) → Leaves steps y
    → (x : ℕ) × Before steps x y × Leaves steps x
unfolding Leaves
one_before steps all y leaves =
    let found = from_map (λ (step : Step). step.from) steps y leaves in
    let other = any_found (λ (other : Step). other.to == found.0.from) steps (all found.0 found.1) in
    let same : other.0.to ≡ y = eqb-true other.0.to found.0.from other.2 ∙ found.2 in
    (other.0.from, subst (λ (n : ℕ). Before steps other.0.from n) same (stands_by steps other.0 other.1), in_map (λ (step : Step). step.from) steps other.0 other.1)

all_round : (step : Step) (steps : List Step) → ((other : Step) → Contains (step ∷ steps) other → is_followed (step ∷ steps) other ≡ true) → GoesRound (step ∷ steps)
unfolding Leaves
all_round step steps all =
    cycle_among (λ (node : ℕ). node ∷ []) (pairs_of (step ∷ steps)) (Leaves (step ∷ steps)) (map (λ other. other.from) (step ∷ steps)) (λ y leaves. leaves)
    (one_before (step ∷ steps) all) step.from (head_in step.from (map (λ (other : Step). other.from) steps))

none_left : (times : ℕ) → left_after times [] ≡ []
none_left zero = refl
none_left (suc times) = none_left times

round_left : (times : ℕ) (steps : List Step) → length steps ≤ times → is_empty (left_after times steps) ≡ false → GoesRound steps
round_left zero [] few left = cc
round_left zero (step ∷ steps) few left = absurd (omega (arith, few))
round_left (suc times) [] few left = let none : is_empty (left_after times []) ≡ true = ap is_empty (none_left times) in cc (left, none)
round_left (suc times) (step ∷ steps) few left =
    elim (all_or_fewer (is_followed (step ∷ steps)) (step ∷ steps)) [
      | inl all ↦ all_round step steps all
      | inr fewer ↦ loose_round (followed (step ∷ steps)) (step ∷ steps) (λ other inside. (from_filter (is_followed (step ∷ steps)) (step ∷ steps) other inside).0)
          (round_left times (followed (step ∷ steps)) (omega (arith, few, fewer)) left)
    ]

not_empty : (b : Bool) → not b ≡ true → b ≡ false
not_empty true h = cc
not_empty false h = refl

pub circle_meant : (steps : List Step) → has_circle steps ≡ true → GoesRound steps
circle_meant steps has = round_left (length steps) steps (omega arith) (not_empty (is_empty (left_after (length steps) steps)) has)
