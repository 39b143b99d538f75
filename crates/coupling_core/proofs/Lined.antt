-- Lines and the iterations that schemes have judged last.
use Rattle.std.proofs.Common.{◌≡◌, ◌⊎◌, ℕ, suc, ◌+◌, ◌<◌, ◌≤◌, inl, inr, Bool, true, false, ◌&&◌, ◌||◌, nat_eq, eq-eqb, if◌then◌else◌, List, [], ◌∷◌, ◌++◌, append-nil, IsTrue, length, set, slice_get, Option, Some, None, refl, sym, ap, subst, ◌∙◌, arith}
use Rattle.std.specs.List.{list_any}
use Rattle.std.proofs.lemmas.Bool.{cases_eq, and_parts, eqb-true}
use Rattle.std.proofs.lemmas.List.Folds.{list_any-append}
use Rattle.std.proofs.lemmas.Option.{same_Some, slice_get_within}
use Rattle.cpl_plan.specs.declared.words.IterLine.{IterLine}
use Rattle.core_sides.proofs.StandingPuts.{set_here, set_apart}
use Rattle.core_schemes.specs.Judging.{IsOfTurn}
use Rattle.core_schemes.specs.declared.schemes.LastJudged.{LastJudged}
use Rattle.core_schemes.specs.declared.schemes.SchemeState.{SchemeState}
use Rattle.coupling_core.specs.JudgedLines.{is_line_on}
use Rattle.coupling_core.specs.LinesStand.{IsUpTo, AreLined}

-- a line is on its own iteration alone
record IsOn (number w k : ℕ) (line : IterLine) : Type 0 where
  scheme : line.scheme ≡ number
  window : line.window ≡ w
  iteration : line.iteration ≡ k

is_on : (number w k : ℕ) (line : IterLine) → is_line_on number w k line ≡ true → IsOn number w k line
is_on number w k line is =
    let both = and_parts (nat_eq line.scheme number && nat_eq line.window w) (nat_eq line.iteration k) is in
    let first = and_parts (nat_eq line.scheme number) (nat_eq line.window w) both.0 in
    record { scheme = eqb-true line.scheme number first.0; window = eqb-true line.window w first.1; iteration = eqb-true line.iteration k both.1 }

pub own_line : (line : IterLine) → is_line_on line.scheme line.window line.iteration line ≡ true
own_line line = rw (eq-eqb line.scheme line.scheme refl, eq-eqb line.window line.window refl, eq-eqb line.iteration line.iteration refl) refl

either : (a b : Bool) → (a || b) ≡ true → (a ≡ true) ⊎ (b ≡ true)
either true b is = inl refl
either false b is = inr is

first_true : (a b : Bool) → a ≡ true → (a || b) ≡ true
first_true true b is = refl
first_true false b is = cc

last_true : (a b : Bool) → b ≡ true → (a || b) ≡ true
last_true true b is = refl
last_true false b is = is

one_any : (test : IterLine → Bool) (line : IterLine) → list_any test (line ∷ []) ≡ test line
one_any test line = by (test line) where
  by : (b : Bool) → (b || false) ≡ b
  by true = refl
  by false = refl

any_more : (test : IterLine → Bool) (lines : List IterLine) (line : IterLine) → list_any test (lines ++ line ∷ []) ≡ (list_any test lines || test line)
any_more test lines line = list_any-append test lines (line ∷ []) ∙ ap (λ (b : Bool). list_any test lines || b) (one_any test line)

-- an iteration after the last one
abbrev pub IsAfter : Option LastJudged → (w k : ℕ) → Type 0
IsAfter None w k = Unit {0}
IsAfter (Some last) w k = (last.window < w) ⊎ ((last.window ≡ w) × (last.iteration < k))

-- has no line yet
not_yet : (last : Option LastJudged) (w k : ℕ) → IsAfter last w k → IsUpTo w k last → ⊥
not_yet None w k after upto = upto
not_yet (Some last) w k (inl later) (inl earlier) = omega (arith, later, earlier)
not_yet (Some last) w k (inl later) (inr same) = omega (arith, later, same.0)
not_yet (Some last) w k (inr same) (inl earlier) = omega (arith, same.0, earlier)
not_yet (Some last) w k (inr same) (inr at) = omega (arith, same.1, at.1)

up_to_later : (v j w k : ℕ) (before : Option LastJudged) (last : LastJudged) → last.window ≡ w → last.iteration ≡ k → IsAfter before w k → IsUpTo v j before → IsUpTo v j (Some last)
up_to_later v j w k None last window iteration after upto = absurd upto
up_to_later v j w k (Some old) last window iteration (inl later) (inl earlier) = inl (omega (arith, later, earlier, window))
up_to_later v j w k (Some old) last window iteration (inl later) (inr same) = inl (omega (arith, later, same.0, window))
up_to_later v j w k (Some old) last window iteration (inr same) (inl earlier) = inl (omega (arith, same.0, earlier, window))
up_to_later v j w k (Some old) last window iteration (inr same) (inr at) = inr (omega (arith, same.0, at.0, window), omega (arith, same.1, at.1, iteration))

no_line : (b : Bool) → (IsTrue b → ⊥) → b ≡ false
no_line true never = absurd (never refl)
no_line false never = refl

module _ (lines : List IterLine) (schemes : List SchemeState) (lined : AreLined lines schemes) (number w k : ℕ) (state : SchemeState) (at : slice_get schemes number ≡ Some state) where
  -- where it was judged it has its line
  pub has_line : IsOfTurn w k state.last → list_any (is_line_on number w k) lines ≡ true
  has_line is = by state.last refl is where
    by : (o : Option LastJudged) → state.last ≡ o → IsOfTurn w k o → list_any (is_line_on number w k) lines ≡ true
    by None e turn = absurd turn
    by (Some last) e turn =
        subst (λ (v : ℕ). list_any (is_line_on number v k) lines ≡ true) turn.0
        (subst (λ (j : ℕ). list_any (is_line_on number last.window j) lines ≡ true) turn.1 (lined.newest number state last at e))

  -- where a later one is judged it has none yet
  pub has_no_line : IsAfter state.last w k → list_any (is_line_on number w k) lines ≡ false
  has_no_line after = no_line (list_any (is_line_on number w k) lines) (λ is. not_yet state.last w k after (lined.earlier number w k state at is))

  -- and gets it
  module _ (now : SchemeState) (last : LastJudged) (line : IterLine) (after : IsAfter state.last w k) (is_last : now.last ≡ Some last) (window : last.window ≡ w) (iteration : last.iteration ≡ k)
      (is_scheme : line.scheme ≡ number) (is_window : line.window ≡ w) (is_iteration : line.iteration ≡ k) where
    below : number < length schemes
    below = slice_get_within schemes number state at

    here : (one : SchemeState) → slice_get (set schemes number now) number ≡ Some one → now ≡ one
    here one is = same_Some now one (sym (set_here schemes number now below) ∙ is)

    earlier_lines : (other v j : ℕ) (one : SchemeState) → slice_get (set schemes number now) other ≡ Some one → IsTrue (list_any (is_line_on other v j) (lines ++ line ∷ [])) → IsUpTo v j one.last
    earlier_lines other v j one is_one has = elim (cases_eq other number) [
      | inl same ↦
          let own : now ≡ one = here one (ap (slice_get (set schemes number now)) (sym same) ∙ is_one) in
          subst (λ (s : SchemeState). IsUpTo v j s.last) own (subst (IsUpTo v j) (sym is_last) (own_up_to same (either _ _ (sym (any_more (is_line_on other v j) lines line) ∙ has))))
      | inr apart ↦
          let there : slice_get schemes other ≡ Some one = sym (set_apart schemes number other now apart) ∙ is_one in
          others there apart (either _ _ (sym (any_more (is_line_on other v j) lines line) ∙ has))
    ] where
      own_up_to : other ≡ number → (list_any (is_line_on other v j) lines ≡ true) ⊎ (is_line_on other v j line ≡ true) → IsUpTo v j (Some last)
      own_up_to same (inl old) = up_to_later v j w k state.last last window iteration after (lined.earlier number v j state at (subst (λ (n : ℕ). list_any (is_line_on n v j) lines ≡ true) same old))
      own_up_to same (inr new) = let on = is_on other v j line new in inr (sym on.window ∙ is_window ∙ sym window, omega (arith, on.iteration, is_iteration, iteration))

      others : slice_get schemes other ≡ Some one → ¬ (other ≡ number) → (list_any (is_line_on other v j) lines ≡ true) ⊎ (is_line_on other v j line ≡ true) → IsUpTo v j one.last
      others there apart (inl old) = lined.earlier other v j one there old
      others there apart (inr new) = absurd (apart (sym (is_on other v j line new).scheme ∙ is_scheme))

    newest_line : (other : ℕ) (one : SchemeState) (its : LastJudged) → slice_get (set schemes number now) other ≡ Some one → one.last ≡ Some its
        → IsTrue (list_any (is_line_on other its.window its.iteration) (lines ++ line ∷ []))
    newest_line other one its is_one e = any_more (is_line_on other its.window its.iteration) lines line ∙ elim (cases_eq other number) [
      | inl same ↦
          let own : now ≡ one = here one (ap (slice_get (set schemes number now)) (sym same) ∙ is_one) in
          let its_own : last ≡ its = same_Some last its (sym is_last ∙ ap (λ (s : SchemeState). s.last) own ∙ e) in
          last_true (list_any (is_line_on other its.window its.iteration) lines) (is_line_on other its.window its.iteration line)
          (ap (λ (n : ℕ). is_line_on n its.window its.iteration line) (same ∙ sym is_scheme)
          ∙ ap (λ (v : ℕ). is_line_on line.scheme v its.iteration line) (ap (λ (l : LastJudged). l.window) (sym its_own) ∙ window ∙ sym is_window)
          ∙ ap (λ (j : ℕ). is_line_on line.scheme line.window j line) (ap (λ (l : LastJudged). l.iteration) (sym its_own) ∙ iteration ∙ sym is_iteration)
          ∙ own_line line)
      | inr apart ↦
          first_true (list_any (is_line_on other its.window its.iteration) lines) (is_line_on other its.window its.iteration line)
          (lined.newest other one its (sym (set_apart schemes number other now apart) ∙ is_one) e)
    ]

    pub lined_more : AreLined (lines ++ line ∷ []) (set schemes number now)
    lined_more = record { earlier = earlier_lines; newest = newest_line }
