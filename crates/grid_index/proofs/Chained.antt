-- The vertices of a cell, from the last to the first.
use Rattle.std.proofs.Common.{◌≡◌, ℕ, zero, suc, ◌+◌, ◌-◌, ◌<◌, ◌≤◌, Bool, true, false, eqb, List, [], ◌∷◌, ◌++◌, length, get_or, set, take, replicate, subst, refl, inl, inr, sym, ap, ◌∙◌, add-one, add-zero, arith}
use Rattle.std.specs.List.{count_by}
use Rattle.std.proofs.lemmas.Bool.{cases_lt, cases_eq, eq-eqb, ne_eqb}
use Rattle.std.proofs.lemmas.List.{take_all, get_or-set_same, get_or-set_other, length-set, length-replicate, get_or-replicate, length_push, get_or_push, get_or_append_left}
use Rattle.std.proofs.lemmas.List.Sums.{count_by_more_yes, count_by_more_no}
use Rattle.grid_index.specs.Chains.{IsEndBelow, AreChainsOf}

-- how many of the vertices before v are in a cell
abbrev pub count_below : (places : List ℕ) (cell v : ℕ) → ℕ
count_below places cell v = count_by (λ place. eqb place cell) (take v places)

-- vertices of other cells change nothing
same_count : (places : List ℕ) (cell first n : ℕ) → first + n ≤ length places
    → ((u : ℕ) → first ≤ u → u < first + n → get_or places u 0 ≡ cell → ⊥)
    → count_below places cell (first + n) ≡ count_below places cell first
same_count places cell first zero inside none = ap (count_below places cell) (omega arith)
same_count places cell first (suc n) inside none =
    let one : count_below places cell (first + suc n) ≡ count_below places cell (first + n + 1) = ap (count_below places cell) (omega arith) in
    let other = ne_eqb (get_or places (first + n) 0) cell (none (first + n) (omega arith) (omega arith)) in
    one ∙ count_by_more_no (λ place. eqb place cell) places (first + n) 0 (omega arith) other
    ∙ same_count places cell first n (omega arith) (λ u low high. none u low (omega arith))

pub count_below-end : (places : List ℕ) (cell v last : ℕ) → v ≤ length places → IsEndBelow places cell v last
    → count_below places cell v ≡ count_below places cell last
count_below-end places cell v last inside is =
    let within = is.within in
    let gap : last + (v - last) ≡ v = omega arith in
    ap (count_below places cell) (sym gap)
    ∙ same_count places cell last (v - last) (omega arith) (λ u low high. is.none_after u low (omega arith))

pub count_below-more : (places : List ℕ) (cell v : ℕ) → v < length places → get_or places v 0 ≡ cell
    → count_below places cell (v + 1) ≡ count_below places cell v + 1
count_below-more places cell v inside here = count_by_more_yes (λ place. eqb place cell) places v 0 inside (eq-eqb (get_or places v 0) cell here)

pub count_below-all : (places : List ℕ) (cell : ℕ) → count_below places cell (length places) ≡ count_by (λ place. eqb place cell) places
count_below-all places cell = ap (count_by (λ place. eqb place cell)) (take_all (length places) places (omega arith))

-- one vertex more: it is the last of its cell, and nothing changes in the others
pub end_here : (places : List ℕ) (cell v : ℕ) → get_or places v 0 ≡ cell → IsEndBelow places cell (v + 1) (v + 1)
end_here places cell v here = record {
  within = omega arith;
  last = λ u same. let one : u ≡ v = omega arith in ap (λ (k : ℕ). get_or places k 0) one ∙ here;
  none_after = λ u low high _. absurd (omega arith);
}

pub end_elsewhere : (places : List ℕ) (cell v last : ℕ) → (get_or places v 0 ≡ cell → ⊥) → IsEndBelow places cell v last → IsEndBelow places cell (v + 1) last
end_elsewhere places cell v last apart is = record {
  within = let within = is.within in omega arith;
  last = is.last;
  none_after = λ u low high at. elim (cases_lt u v) [
    | inl before ↦ is.none_after u low before at
    | inr here ↦ let same : u ≡ v = omega arith in apart (sym (ap (λ (k : ℕ). get_or places k 0) same) ∙ at)
  ];
}

-- the chains of the vertices before v
pub record AreChainsUpto (places : List ℕ) (cells v : ℕ) (ends before : List ℕ) : Type 0 where
  pub one_for_each_cell : length ends ≡ cells
  pub one_for_each : length before ≡ v
  pub of_cells : (cell : ℕ) → cell < cells → IsEndBelow places cell v (get_or ends cell 0)
  pub of_vertices : (u : ℕ) → u < v → IsEndBelow places (get_or places u 0) u (get_or before u 0)

pub no_chains : (places : List ℕ) (cells : ℕ) (ends before : List ℕ) → ends ≡ replicate cells 0 → before ≡ [] → AreChainsUpto places cells 0 ends before
no_chains places cells ends before zeros none = record {
  one_for_each_cell = ap length zeros ∙ length-replicate cells 0;
  one_for_each = ap length none;
  of_cells = λ cell inside.
      let zero_there : get_or ends cell 0 ≡ 0 = ap (λ (l : List ℕ). get_or l cell 0) zeros ∙ get_or-replicate cells cell 0 0 inside in
      record {
        within = omega (arith, zero_there);
        last = λ u same. absurd (omega (arith, zero_there, same));
        none_after = λ u low high _. absurd (omega arith);
      };
  of_vertices = λ u inside. absurd (omega arith);
}

pub chains_more : (places : List ℕ) (cells v : ℕ) (ends before : List ℕ) → get_or places v 0 < cells → AreChainsUpto places cells v ends before
    → AreChainsUpto places cells (v + 1) (set ends (get_or places v 0) (v + 1)) (before ++ get_or ends (get_or places v 0) 0 ∷ [])
chains_more places cells v ends before inside are =
    let place = get_or places v 0 in
    let there : place < length ends = omega (arith, are.one_for_each_cell, inside) in
    record {
      one_for_each_cell = length-set ends place (v + 1) ∙ are.one_for_each_cell;
      one_for_each = length_push before (get_or ends place 0) ∙ ap (λ (n : ℕ). n + 1) are.one_for_each;
      of_cells = λ cell within. elim (cases_eq place cell) [
        | inl here ↦
            let last : get_or (set ends place (v + 1)) cell 0 ≡ v + 1 = ap (λ (k : ℕ). get_or (set ends place (v + 1)) k 0) (sym here) ∙ get_or-set_same ends place (v + 1) 0 there in
            subst (IsEndBelow places cell (v + 1)) (sym last) (end_here places cell v here)
        | inr apart ↦
            let last : get_or (set ends place (v + 1)) cell 0 ≡ get_or ends cell 0 = get_or-set_other ends place cell (v + 1) 0 (λ same. apart (sym same)) in
            subst (IsEndBelow places cell (v + 1)) (sym last) (end_elsewhere places cell v (get_or ends cell 0) apart (are.of_cells cell within))
      ];
      of_vertices = λ u within. elim (cases_lt u v) [
        | inl before_v ↦
            subst (IsEndBelow places (get_or places u 0) u) (sym (get_or_append_left before (get_or ends place 0 ∷ []) 0 u (omega (arith, are.one_for_each, before_v)))) (are.of_vertices u before_v)
        | inr here ↦
            let same : u ≡ v = omega arith in
            rw same
            (subst (IsEndBelow places place v) (sym (get_or_push before (get_or ends place 0) 0 v are.one_for_each)) (are.of_cells place inside))
      ];
    }

pub all_chains : (places : List ℕ) (cells v : ℕ) (ends before : List ℕ) → v ≡ length places → AreChainsUpto places cells v ends before → AreChainsOf places cells ends before
all_chains places cells v ends before whole are = record {
  one_for_each_cell = are.one_for_each_cell;
  one_for_each = are.one_for_each ∙ whole;
  of_cells = λ cell inside. subst (λ (n : ℕ). IsEndBelow places cell n (get_or ends cell 0)) whole (are.of_cells cell inside);
  of_vertices = λ u inside. are.of_vertices u (omega (arith, whole));
}
