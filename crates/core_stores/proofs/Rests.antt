-- What is left of a participant's post, exchange by exchange, is that of the exchanges that are left.
use Rattle.std.proofs.Common.{◌≡◌, ℕ, zero, suc, ◌+◌, ◌-◌, ◌≤◌, Bool, true, false, cond, nat_eq, List, [], ◌∷◌, Option, Some, length, filter, slice_get, refl, sym, ap, ◌∙◌, arith, eq-eqb}
use Rattle.std.specs.List.{find, zip, range_with_len}
use Rattle.std.specs.Option.{option_map_or}
use Rattle.std.proofs.lemmas.Bool.{ne_eqb}
use Rattle.std.proofs.lemmas.Option.{same_Some, none-some, slice_get_within}
use Rattle.cpl_plan.specs.PlanWords.{passes}
use Rattle.cpl_plan.specs.declared.parts.PlanParts.{PlanParts}
use Rattle.cpl_plan.specs.declared.parts.Exchange.{Exchange}
use Rattle.wave_coupling.specs.Posts.{Wave, Post, sent, wave_of}

module _ (plan : PlanParts) (p : ℕ) where
  -- the exchanges that the participant sends, from one number on
  abbrev pub sent_from : (n : ℕ) → List ℕ
  sent_from n = filter (λ x. passes plan.exchanges x (λ e. nat_eq e.from p)) (range_with_len n (length plan.exchanges - n))

  pub sent_all : sent_from 0 ≡ sent plan p
  sent_all = let whole : length plan.exchanges - 0 ≡ length plan.exchanges = omega arith in
      ap (λ (m : ℕ). filter (λ x. passes plan.exchanges x (λ e. nat_eq e.from p)) (range_with_len 0 m)) whole

  module _ (n : ℕ) (e : Exchange) (at : slice_get plan.exchanges n ≡ Some e) where
    first : sent_from n ≡ cond (nat_eq e.from p) (n ∷ sent_from (n + 1)) (sent_from (n + 1))
    first = let below = slice_get_within plan.exchanges n e at in
        let one_less : length plan.exchanges - n ≡ suc (length plan.exchanges - (n + 1)) = omega (arith, below) in
        ap (λ (m : ℕ). filter (λ x. passes plan.exchanges x (λ e. nat_eq e.from p)) (range_with_len n m)) one_less
        ∙ ap (λ (o : Option Exchange). cond (option_map_or (λ e. nat_eq e.from p) o false) (n ∷ sent_from (n + 1)) (sent_from (n + 1))) at

    pub sent_here : e.from ≡ p → sent_from n ≡ n ∷ sent_from (n + 1)
    sent_here own = first ∙ ap (λ (b : Bool). cond b (n ∷ sent_from (n + 1)) (sent_from (n + 1))) (eq-eqb e.from p own)

    pub sent_past : ¬ (e.from ≡ p) → sent_from n ≡ sent_from (n + 1)
    sent_past apart = first ∙ ap (λ (b : Bool). cond b (n ∷ sent_from (n + 1)) (sent_from (n + 1))) (ne_eqb e.from p apart)

module _ {X : Type 0} where
  -- what stands beside a number
  abbrev pub beside : (numbers : List ℕ) → List X → (x : ℕ) → Option (ℕ × X)
  beside numbers xs x = find (λ (pair : ℕ × X). nat_eq pair.0 x) (zip numbers xs)

  module _ (plan : PlanParts) (p : ℕ) where
    -- the rest is that of the exchanges from a number on
    pub record AreLeft (n : ℕ) (all rest : List X) : Type 0 where
      pub count : length rest ≡ length (sent_from plan p n)
      pub found : (x : ℕ) → n ≤ x → beside (sent plan p) all x ≡ beside (sent_from plan p n) rest x

    pub left_all : (all : List X) → length all ≡ length (sent plan p) → AreLeft 0 all all
    left_all all many = record {
      count = many ∙ ap (λ (xs : List ℕ). length xs) (sym (sent_all plan p));
      found = λ x past. ap (λ (numbers : List ℕ). beside numbers all x) (sym (sent_all plan p));
    }

    module _ (n : ℕ) (e : Exchange) (at : slice_get plan.exchanges n ≡ Some e) (all rest : List X) (left : AreLeft n all rest) where
      -- another sender's exchange is passed over
      pub left_other : ¬ (e.from ≡ p) → AreLeft (n + 1) all rest
      left_other apart = record {
        count = left.count ∙ ap (λ (xs : List ℕ). length xs) (sent_past plan p n e at apart);
        found = λ x past. left.found x (omega (arith, past)) ∙ ap (λ (numbers : List ℕ). beside numbers rest x) (sent_past plan p n e at apart);
      }

      module _ (own : e.from ≡ p) where
        -- there is one for the participant's own exchange
        pub some_left : ¬ (length rest ≡ 0)
        some_left none = let many : length rest ≡ suc (length (sent_from plan p (n + 1))) = left.count ∙ ap (λ (xs : List ℕ). length xs) (sent_here plan p n e at own) in
            omega (arith, none, many)

        module _ (one : X) (more : List X) (taken : rest ≡ one ∷ more) where
          found_from : (x : ℕ) → n ≤ x → beside (sent plan p) all x ≡ cond (nat_eq n x) (Some (n, one)) (beside (sent_from plan p (n + 1)) more x)
          found_from x past = left.found x past ∙ ap (λ (numbers : List ℕ). beside numbers rest x) (sent_here plan p n e at own)
              ∙ ap (λ (xs : List X). beside (n ∷ sent_from plan p (n + 1)) xs x) taken

          -- it is the first that is left
          pub found_here : beside (sent plan p) all n ≡ Some (n, one)
          found_here = let same : n ≤ n = omega arith in
              found_from n same ∙ ap (λ (b : Bool). cond b (Some (n, one)) (beside (sent_from plan p (n + 1)) more n)) (eq-eqb n n refl)

          pub left_one : AreLeft (n + 1) all more
          left_one = record {
            count =
                let many : length rest ≡ suc (length (sent_from plan p (n + 1))) = left.count ∙ ap (λ (xs : List ℕ). length xs) (sent_here plan p n e at own) in
                let own_many : length rest ≡ suc (length more) = ap (λ (xs : List X). length xs) taken in
                omega (arith, many, own_many);
            found = λ x past. found_from x (omega (arith, past))
                ∙ ap (λ (b : Bool). cond b (Some (n, one)) (beside (sent_from plan p (n + 1)) more x)) (ne_eqb n x (λ same. omega (arith, past, same)));
          }

-- the wave beside an exchange's number is its own
pub wave_found : (plan : PlanParts) (p : ℕ) (e : Exchange) (x : ℕ) (post : Post) (wave : Wave) → e.from ≡ p → beside (sent plan p) post x ≡ Some (x, wave) → wave_of plan e x post ≡ wave
wave_found plan p e x post wave own found =
    ap (λ (q : ℕ). option_map_or (λ (pair : ℕ × Wave). pair.1) (beside (sent plan q) post x) []) own
    ∙ ap (λ (o : Option (ℕ × Wave)). option_map_or (λ (pair : ℕ × Wave). pair.1) o []) found

-- lists that go along with one another have beside a number what stands at one place
pub beside_both : {X Y : Type 0} (numbers : List ℕ) (xs : List X) (ys : List Y) (x : ℕ) (one : X) → length xs ≡ length ys → beside numbers xs x ≡ Some (x, one)
    → (i : ℕ) × (other : Y) × (slice_get xs i ≡ Some one) × (slice_get ys i ≡ Some other) × (beside numbers ys x ≡ Some (x, other))
beside_both [] xs ys x one many is = absurd (none-some (x, one) is)
beside_both (m ∷ numbers) [] ys x one many is = absurd (none-some (x, one) is)
beside_both (m ∷ numbers) (a ∷ xs) [] x one many is = absurd (omega (arith, many))
beside_both {X} {Y} (m ∷ numbers) (a ∷ xs) (b ∷ ys) x one many is =
    elim (nat_eq m x) as (λ t. nat_eq m x ≡ t → cond t (Some (m, a)) (beside numbers xs x) ≡ Some (x, one)
    → (i : ℕ) × (other : Y) × (slice_get (a ∷ xs) i ≡ Some one) × (slice_get (b ∷ ys) i ≡ Some other) × (beside (m ∷ numbers) (b ∷ ys) x ≡ Some (x, other))) [
      | true ↦ λ same here.
          let pair : (m, a) ≡ (x, one) = same_Some (m, a) (x, one) here in
          let own : m ≡ x = ap (λ (at : ℕ × X). at.0) pair in (
            zero,
            b,
            ap (λ (at : ℕ × X). Some at.1) pair,
            refl,
            ap (λ (t : Bool). cond t (Some (m, b)) (beside numbers ys x)) same ∙ ap (λ (k : ℕ). Some (k, b)) own,
          )
      | false ↦ λ apart there.
          let more = beside_both numbers xs ys x one (omega (arith, many)) there in
          (suc more.0, more.1, more.2, more.3, ap (λ (t : Bool). cond t (Some (m, b)) (beside numbers ys x)) apart ∙ more.4)
    ] refl is
