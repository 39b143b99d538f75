-- Windows of one size: where they start and end, and that they fill the time.
use Rattle.std.proofs.Common.{◌≡◌, ℕ, zero, suc, ◌+◌, ◌*◌, ◌-◌, ◌<◌, ◌≤◌, ◌⊎◌, inl, inr, true, false, ◌&&◌, ◌||◌, nat_lt, nat_le, nat_eq, cond, List, refl, ap, sym, subst, ◌∙◌, arith, min}
use Rattle.std.specs.Prelude.{Some, None}
use Rattle.std.specs.Option.{option_map_or}
use Rattle.std.proofs.lemmas.Bool.{and_parts, and_from, or_cases, le-leb, leb-true, lt-ltb, eqb-true, eq-eqb, cases_lt, false≢true}
use Rattle.std.proofs.lemmas.Grind.{div_ceil_times}
use Rattle.std.proofs.Math.Nat.{mul-le-mul_left}
use Rattle.cpl_plan.specs.ValidPlan.{IsValidPlan}
use Rattle.cpl_plan.specs.PlanTests.{reaches_end}
use Rattle.cpl_plan.specs.Windows.{IsLeastToReach, windows_to_reach, window_start, is_window, window_end, is_last_window, latest_end, start_by, end_by}
use Rattle.cpl_plan.specs.declared.parts.PlanParts.{PlanParts}
use Rattle.cpl_plan.specs.declared.parts.WindowMethod.{WindowMethod}
use Rattle.cpl_plan.specs.declared.parts.WindowMethod.TheVariants.{Fixed, FirstParticipant}

pub none_some : {X : Type 0} {x : X} → None ≡ Some x → ⊥
none_some e = cc

pub same_some : {X : Type 0} {x y : X} → Some x ≡ Some y → x ≡ y
same_some e = cc

pub no_start : (method : WindowMethod) (size : ℕ) (ends : List ℕ) → start_by method size ends 0 ≡ None
no_start Fixed size ends = refl
no_start FirstParticipant size ends = refl

pub first_start : (method : WindowMethod) (size : ℕ) (ends : List ℕ) → start_by method size ends 1 ≡ Some 0
first_start Fixed size ends = let none : 0 * size ≡ 0 = omega (arith) in ap Some none
first_start FirstParticipant size ends = refl

-- a window that is there has a number from 1 on, and one that the plan has
pub window_number : (plan : PlanParts) (ends : List ℕ) (w : ℕ) → is_window plan ends w ≡ true → (1 ≤ w) × (w ≤ plan.most_windows)
window_number plan ends zero is =
    let parts = and_parts (nat_le 0 plan.most_windows) (option_map_or (λ start. nat_lt start plan.end_time) (window_start plan ends 0) false) is in
    absurd (false≢true (sym (ap (λ o. option_map_or (λ start. nat_lt start plan.end_time) o false) (no_start plan.method plan.window ends)) ∙ parts.1))
window_number plan ends (suc k) is =
    let parts = and_parts (nat_le (suc k) plan.most_windows) (option_map_or (λ start. nat_lt start plan.end_time) (window_start plan ends (suc k)) false) is in
    (omega (arith), leb-true (suc k) plan.most_windows parts.0)

least_of : (a b : ℕ) → a < b → min a b ≡ a
least_of a b less = omega (arith, less)

most_of : (a b : ℕ) → b ≤ a → min a b ≡ b
most_of a b less = omega (arith, less)

next_product : (k size : ℕ) → suc k * size ≡ k * size + size
next_product k size = omega (arith)

not_less : (v most : ℕ) → v ≤ most → (suc v ≤ most → ⊥) → v ≡ most
not_less v most within none = elim (cases v most within) [ inl same ↦ same | inr more ↦ absurd (none more) ]
  where
    cases : (a b : ℕ) → a ≤ b → (a ≡ b) ⊎ (suc a ≤ b)
    cases zero zero le = inl refl
    cases zero (suc b) le = inr (omega (arith))
    cases (suc a) zero le = absurd (omega (arith, le))
    cases (suc a) (suc b) le = elim (cases a b (omega (arith, le))) [ inl same ↦ inl (ap suc same) | inr more ↦ inr (omega (arith, more)) ]

module _ (plan : PlanParts) (fixed : plan.method ≡ Fixed) (size : 1 ≤ plan.window) (count : plan.most_windows ≡ windows_to_reach plan.window plan.end_time) where
  pub start_at : (ends : List ℕ) (k : ℕ) → window_start plan ends (suc k) ≡ Some (k * plan.window)
  start_at ends k = ap (λ method. start_by method plan.window ends (suc k)) fixed

  -- one window less does not reach the end
  pub early : (k : ℕ) → suc k ≤ plan.most_windows → k * plan.window < plan.end_time
  early k within =
      let reach = (div_ceil_times plan.end_time plan.window size).1 in
      let less : plan.window * suc k ≤ plan.window * windows_to_reach plan.window plan.end_time = mul-le-mul_left plan.window (omega (arith, within, count)) in
      omega (arith, less, reach, next_product k plan.window)

  reaches : plan.end_time ≤ plan.most_windows * plan.window
  reaches = subst (λ (n : ℕ). plan.end_time ≤ n * plan.window) (sym count) (div_ceil_times plan.end_time plan.window size).0

  pub window_at : (ends : List ℕ) (k : ℕ) → suc k ≤ plan.most_windows → is_window plan ends (suc k) ≡ true
  window_at ends k within =
      ap (λ o. nat_le (suc k) plan.most_windows && option_map_or (λ start. nat_lt start plan.end_time) o false) (start_at ends k)
      ∙ and_from (nat_le (suc k) plan.most_windows) (nat_lt (k * plan.window) plan.end_time) (le-leb (suc k) plan.most_windows within)
      (lt-ltb (k * plan.window) plan.end_time (early k within))

  pub end_at : (ends : List ℕ) (k : ℕ) → suc k ≤ plan.most_windows → window_end plan ends (suc k) ≡ Some (min (suc k * plan.window) plan.end_time)
  end_at ends k within =
      ap (λ b. cond b (end_by plan.method plan.window plan.end_time ends (suc k)) None) (window_at ends k within)
      ∙ ap (λ method. end_by method plan.window plan.end_time ends (suc k)) fixed

  pub window_told : (ends : List ℕ) (w : ℕ) → 1 ≤ w → w ≤ plan.most_windows → is_window plan ends w ≡ true
  window_told ends zero one within = absurd (omega (arith, one))
  window_told ends (suc k) one within = window_at ends k within

  pub joins : (ends : List ℕ) (w : ℕ) → 1 ≤ w → w < plan.most_windows → window_start plan ends (w + 1) ≡ window_end plan ends w
  joins ends zero one less = absurd (omega (arith, one))
  joins ends (suc k) one less =
      let up : suc k + 1 ≡ suc (suc k) = omega (arith) in
      let before : suc k * plan.window < plan.end_time = early (suc k) (omega (arith, less)) in
      ap (window_start plan ends) up ∙ start_at ends (suc k) ∙ ap Some (sym (least_of (suc k * plan.window) plan.end_time before))
      ∙ sym (end_at ends k (omega (arith, less)))

  pub fills : (ends : List ℕ) → 1 ≤ plan.most_windows → window_end plan ends plan.most_windows ≡ Some plan.end_time
  fills ends some = of plan.most_windows refl some
    where
      of : (n : ℕ) → n ≡ plan.most_windows → 1 ≤ n → window_end plan ends n ≡ Some plan.end_time
      of zero is one = absurd (omega (arith, one))
      of (suc k) is one =
          end_at ends k (omega (arith, is))
          ∙ ap Some (most_of (suc k * plan.window) plan.end_time (subst (λ (n : ℕ). plan.end_time ≤ n * plan.window) (sym is) reaches))

  -- a window's end is the latest one from its start, and after it
  pub ends_late : (ends : List ℕ) (w start end : ℕ) → window_start plan ends w ≡ Some start → window_end plan ends w ≡ Some end → is_window plan ends w ≡ true
      → (start < end) × (end ≡ latest_end plan start)
  ends_late ends zero start end starts ended there = absurd (omega (arith, (window_number plan ends 0 there).0))
  ends_late ends (suc k) start end starts ended there =
      let within = (window_number plan ends (suc k) there).1 in
      let from : k * plan.window ≡ start = same_some (sym (start_at ends k) ∙ starts) in
      let to : min (suc k * plan.window) plan.end_time ≡ end = same_some (sym (end_at ends k within) ∙ ended) in
      let up : suc k * plan.window ≡ start + plan.window = next_product k plan.window ∙ ap (λ n. n + plan.window) from in
      let is : end ≡ min (start + plan.window) plan.end_time = sym to ∙ ap (λ n. min n plan.end_time) up in
      let less : start < plan.end_time = subst (λ (n : ℕ). n < plan.end_time) from (early k within) in
      (omega (arith, is, less, size), is)

  pub last_is : (ends : List ℕ) (w : ℕ) → is_last_window plan ends w ≡ true → w ≡ plan.most_windows
  last_is ends w is =
      let both = and_parts (is_window plan ends w) (nat_eq w plan.most_windows || option_map_or (nat_eq plan.end_time) (window_end plan ends w) false) is in
      elim (or_cases (nat_eq w plan.most_windows) (option_map_or (nat_eq plan.end_time) (window_end plan ends w) false) both.1) [
        | inl same ↦ eqb-true w plan.most_windows same
        | inr ended ↦ of w (window_number plan ends w both.0) ended
      ]
    where
      of : (v : ℕ) → (1 ≤ v) × (v ≤ plan.most_windows) → option_map_or (nat_eq plan.end_time) (window_end plan ends v) false ≡ true → v ≡ plan.most_windows
      of zero within ended = absurd (omega (arith, within.0))
      of (suc k) within ended =
          let at : nat_eq plan.end_time (min (suc k * plan.window) plan.end_time) ≡ true =
          sym (ap (λ o. option_map_or (nat_eq plan.end_time) o false) (end_at ends k within.1)) ∙ ended in
          let same = eqb-true plan.end_time (min (suc k * plan.window) plan.end_time) at in
          not_less (suc k) plan.most_windows within.1 (λ more. let before = early (suc k) more in omega (arith, same, before))

  pub is_last : (ends : List ℕ) → 1 ≤ plan.most_windows → is_last_window plan ends plan.most_windows ≡ true
  is_last ends some =
      and_from (is_window plan ends plan.most_windows) (nat_eq plan.most_windows plan.most_windows || option_map_or (nat_eq plan.end_time) (window_end plan ends plan.most_windows) false)
      (window_told ends plan.most_windows some (omega (arith)))
      (ap (λ b. b || option_map_or (nat_eq plan.end_time) (window_end plan ends plan.most_windows) false) (eq-eqb plan.most_windows plan.most_windows refl))

-- the number of windows is the least that reaches the end
pub least_to_reach : (size end_time : ℕ) → 1 ≤ size → IsLeastToReach size end_time (windows_to_reach size end_time)
least_to_reach size end_time some = record {
  reach = (div_ceil_times end_time size some).0;
  least = λ m enough. elim (cases_lt m (windows_to_reach size end_time)) [
    | inl less ↦
        let below = (div_ceil_times end_time size some).1 in
        let up : size * suc m ≤ size * windows_to_reach size end_time = mul-le-mul_left size (omega (arith, less)) in
        absurd (omega (arith, up, below, enough, next_product m size))
    | inr fits ↦ fits
  ];
}

-- in a valid plan with windows of one size there are as many as reach the end
pub fixed_count : (plan : PlanParts) → IsValidPlan plan → plan.method ≡ Fixed → plan.most_windows ≡ windows_to_reach plan.window plan.end_time
fixed_count plan valid fixed =
    eqb-true plan.most_windows (windows_to_reach plan.window plan.end_time)
    (sym (ap (λ method. reaches_end method plan.window plan.end_time plan.most_windows) fixed) ∙ valid.sizes.windows_reach)

module _ (plan : PlanParts) (valid : IsValidPlan plan) (fixed : plan.method ≡ Fixed) where
  pub starts_at : (ends : List ℕ) (w : ℕ) → 1 ≤ w → window_start plan ends w ≡ Some ((w - 1) * plan.window)
  starts_at ends zero one = absurd (omega (arith, one))
  starts_at ends (suc k) one =
      let down : k ≡ suc k - 1 = omega (arith) in
      start_at plan fixed valid.sizes.window.0 (fixed_count plan valid fixed) ends k ∙ ap (λ n. Some (n * plan.window)) down

  pub ends_at : (ends : List ℕ) (w : ℕ) → 1 ≤ w → w ≤ plan.most_windows → window_end plan ends w ≡ Some (min (w * plan.window) plan.end_time)
  ends_at ends zero one within = absurd (omega (arith, one))
  ends_at ends (suc k) one within = end_at plan fixed valid.sizes.window.0 (fixed_count plan valid fixed) ends k within
