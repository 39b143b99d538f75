-- Windows of one size: each starts where the one before it has ended.
use Rattle.std.proofs.Common.{◌≡◌, ℕ, ◌+◌, ◌*◌, ◌≤◌, ◌<◌, inl, inr, add-one, Bool, true, false, ◌||◌, nat_eq, if◌then◌else◌, min, [], Option, Some, None, ap, sym, ◌∙◌, arith}
use Rattle.std.specs.Option.{option_map_or}
use Rattle.std.proofs.lemmas.Bool.{eq-eqb, cases_lt, false≢true}
use Rattle.std.proofs.Math.Nat.{min-eq_left, min-eq_right}
use Rattle.cpl_plan.specs.Windows.{window_start, window_end, is_window, start_by, end_by}
use Rattle.cpl_plan.specs.declared.parts.PlanParts.{PlanParts}
use Rattle.cpl_plan.specs.declared.parts.WindowMethod.TheVariants.{Fixed}
use Rattle.participant_words.specs.Course.{Turn}
use Rattle.participant_words.specs.Begun.{is_last, next_window}

lt_le : (a b : ℕ) → a < b → a ≤ b
lt_le a b less = omega (arith, less)

-- the end of a window is a size later, or the end time
end_told : (b : Bool) (o : Option ℕ) (end : ℕ) → (if b then o else None) ≡ Some end → o ≡ Some end
end_told true o end is = is
end_told false o end is = cc

some_is : (a b : ℕ) → Some a ≡ Some b → a ≡ b
some_is a b is = ap (λ o. option_map_or (λ n. n) o 0) is

or_false : (a b : Bool) → (a || b) ≡ false → b ≡ false
or_false true b is = cc
or_false false b is = is

pub follows : (plan : PlanParts) (turn : Turn) → plan.method ≡ Fixed → window_end plan [] turn.window ≡ Some turn.now → is_last plan turn ≡ false
    → window_start plan [] (next_window turn).window ≡ Some (next_window turn).start
follows plan turn fixed end more =
    let told : end_by plan.method plan.window plan.end_time [] turn.window ≡ Some turn.now =
    end_told (is_window plan [] turn.window) (end_by plan.method plan.window plan.end_time [] turn.window) turn.now end in
    let at : min (turn.window * plan.window) plan.end_time ≡ turn.now =
    some_is (min (turn.window * plan.window) plan.end_time) turn.now
    (sym (ap (λ m. end_by m plan.window plan.end_time [] turn.window) fixed) ∙ told) in
    let off : nat_eq plan.end_time turn.now ≡ false = or_false (nat_eq turn.window plan.most_windows) (nat_eq plan.end_time turn.now) more in
    ap (λ m. start_by m plan.window [] (turn.window + 1)) fixed ∙ ap (λ (n : ℕ). start_by Fixed plan.window [] n) (add-one turn.window)
    ∙ ap (λ (n : ℕ). Some n) (reaches (turn.window * plan.window) plan.end_time turn.now at off)
  where
    reaches : (size end now : ℕ) → min size end ≡ now → nat_eq end now ≡ false → size ≡ now
    reaches size end now least off = elim (cases_lt end size) [
      | inl less ↦ absurd (false≢true (sym off ∙ eq-eqb end now (sym (min-eq_right (lt_le end size less)) ∙ least)))
      | inr within ↦ sym (min-eq_left within) ∙ least
    ]
