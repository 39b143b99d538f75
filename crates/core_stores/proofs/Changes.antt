-- The stores of what a participant sends are changed one after another; those of the others stay.
use Rattle.std.proofs.Common.{◌≡◌, ℕ, zero, suc, ◌+◌, ◌<◌, ◌≤◌, inl, inr, List, [], ◌∷◌, Option, Some, length, set, slice_get, refl, sym, ap, subst, ◌∙◌, arith}
use Rattle.std.proofs.lemmas.Bool.{cases_lt, cases_eq}
use Rattle.std.proofs.lemmas.List.{length-set}
use Rattle.std.proofs.lemmas.Option.{same_Some, slice_get_within}
use Rattle.cpl_plan.specs.declared.parts.PlanParts.{PlanParts}
use Rattle.cpl_plan.specs.declared.parts.Exchange.{Exchange}
use Rattle.coupled_loop.specs.Numbered.{put}
use Rattle.core_laws.proofs.Puts.{put_same, put_other}
use Rattle.sample_store.specs.Kept.{Kept as StoreKept}
use Rattle.core_sides.specs.CoreWords.{WaveState, WaveSide}
use Rattle.core_sides.proofs.StandingPuts.{set_here, set_apart}
use Rattle.core_stores.specs.StoresStand.{gifts_of, IsStoreOf, AreStores}
use Rattle.core_stores.specs.StoreMoves.{AreOthersSame}

-- what stands at a place of a list
pub at_place : {X : Type 0} (xs : List X) (n : ℕ) → n < length xs → (x : X) × (slice_get xs n ≡ Some x)
at_place [] n below = absurd (omega (arith, below))
at_place (x ∷ xs) zero below = (x, refl)
at_place (x ∷ xs) (suc n) below = at_place xs n (omega (arith, below))

module _ (exchanges : List Exchange) (p : ℕ) (Moves : (x : ℕ) → Exchange → (before after : Option StoreKept) → Type 0) where
  -- those of the first exchanges, so many, have been changed
  pub record AreChanged (n : ℕ) (before after : List (Option StoreKept)) : Type 0 where
    pub count : length after ≡ length before
    pub sent : (x : ℕ) (e : Exchange) (one next : Option StoreKept) → x < n → slice_get exchanges x ≡ Some e → e.from ≡ p
        → slice_get before x ≡ Some one → slice_get after x ≡ Some next → Moves x e one next
    pub others : AreOthersSame exchanges p before after
    pub left : (x : ℕ) → n ≤ x → slice_get after x ≡ slice_get before x

  pub changed_none : (stores : List (Option StoreKept)) → AreChanged 0 stores stores
  changed_none stores = record {
    count = refl;
    sent = λ x e one next below at from was is. absurd (omega (arith, below));
    others = λ x e at apart. refl;
    left = λ x past. refl;
  }

  module _ (n : ℕ) (before after : List (Option StoreKept)) (e : Exchange) (is : AreChanged n before after) (at : slice_get exchanges n ≡ Some e) where
    at_same : (x : ℕ) (f : Exchange) → x ≡ n → slice_get exchanges x ≡ Some f → e ≡ f
    at_same x f here there = same_Some e f (sym at ∙ ap (slice_get exchanges) (sym here) ∙ there)

    -- that of another sender stays
    pub changed_other : ¬ (e.from ≡ p) → AreChanged (n + 1) before after
    changed_other apart = record {
      count = is.count;
      sent = λ x f one next below there from was now. elim (cases_lt x n) [
        | inl less ↦ is.sent x f one next less there from was now
        | inr past ↦ absurd (apart (ap (λ (g : Exchange). g.from) (at_same x f (omega (arith, below, past)) there) ∙ from))
      ];
      others = is.others;
      left = λ x past. is.left x (omega (arith, past));
    }

    -- the next one is changed
    module _ (own : e.from ≡ p) (one next : Option StoreKept) (was : slice_get before n ≡ Some one) (moves : Moves n e one next) where
      within : n < length after
      within = let there = slice_get_within before n one was in let many = is.count in omega (arith, there, many)

      pub changed_one : AreChanged (n + 1) before (set after n next)
      changed_one = record {
        count = length-set after n next ∙ is.count;
        sent = λ x f other now below there from was_it is_it. elim (cases_eq x n) [
          | inl here ↦
              let same_exchange : e ≡ f = at_same x f here there in
              let same_before : one ≡ other = same_Some one other (sym was ∙ ap (slice_get before) (sym here) ∙ was_it) in
              let same_after : next ≡ now = same_Some next now (sym (set_here after n next within) ∙ ap (slice_get (set after n next)) (sym here) ∙ is_it) in
              subst (λ (m : ℕ). Moves m f other now) (sym here)
              (subst (λ (g : Exchange). Moves n g other now) same_exchange
              (subst (λ (s : Option StoreKept). Moves n e s now) same_before
              (subst (λ (s : Option StoreKept). Moves n e one s) same_after moves)))
          | inr off ↦ is.sent x f other now (omega (arith, below, off)) there from was_it (sym (set_apart after n x next off) ∙ is_it)
        ];
        others = λ x f there apart. elim (cases_eq x n) [
          | inl here ↦ absurd (apart (ap (λ (g : Exchange). g.from) (sym (at_same x f here there)) ∙ own))
          | inr off ↦ set_apart after n x next off ∙ is.others x f there apart
        ];
        left = λ x past. set_apart after n x next (λ here. omega (arith, past, here)) ∙ is.left x (omega (arith, past));
      }

-- where each store that is changed stands for what its sender gives then, all stand
pub stores_changed : (plan : PlanParts) (p : ℕ) (Moves : (x : ℕ) → Exchange → (before after : Option StoreKept) → Type 0)
    (before after : List (Option StoreKept)) (sides : WaveState) (side : WaveSide)
    → AreChanged plan.exchanges p Moves (length plan.exchanges) before after → AreStores plan before sides
    → ((x : ℕ) (e : Exchange) (one next : Option StoreKept) → slice_get plan.exchanges x ≡ Some e → e.from ≡ p → slice_get before x ≡ Some one → Moves x e one next
    → IsStoreOf (gifts_of plan e x (sides p).given) one → IsStoreOf (gifts_of plan e x side.given) next)
    → AreStores plan after (put sides p side)
stores_changed plan p Moves before after sides side changed are stand = record {
  count = changed.count ∙ are.count;
  each = λ x e store at there. elim (cases_eq e.from p) [
    | inl own ↦
        let within : x < length before = let last = slice_get_within after x store there in let many = changed.count in omega (arith, last, many) in
        let was = at_place before x within in
        subst (λ (q : ℕ). IsStoreOf (gifts_of plan e x (put sides p side q).given) store) (sym own)
        (subst (λ (s : WaveSide). IsStoreOf (gifts_of plan e x s.given) store) (sym (put_same sides p side))
        (stand x e was.0 store at own was.1
        (changed.sent x e was.0 store (slice_get_within plan.exchanges x e at) at own was.1 there)
        (subst (λ (q : ℕ). IsStoreOf (gifts_of plan e x (sides q).given) was.0) own (are.each x e was.0 at was.1))))
    | inr apart ↦
        subst (λ (s : WaveSide). IsStoreOf (gifts_of plan e x s.given) store) (sym (put_other sides p side e.from apart))
        (are.each x e store at (sym (changed.others x e at apart) ∙ there))
  ];
}
