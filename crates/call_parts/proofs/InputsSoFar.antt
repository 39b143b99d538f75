-- The inputs of the first exchanges that a participant receives, one exchange more.
use Rattle.std.proofs.Common.{◌≡◌, ◌⊎◌, inl, inr, ℕ, zero, suc, ◌+◌, ◌<◌, ◌≤◌, nat_eq, List, [], ◌∷◌, ◌++◌, length, map, slice_get, Some, refl, ap, sym, subst, ◌∙◌, arith}
use Rattle.std.specs.List.{filter, range_with_len}
use Rattle.std.proofs.lemmas.List.{length-append}
use Rattle.std.proofs.lemmas.Option.{same_Some, slice_get_within}
use Rattle.cpl_plan.specs.PlanWords.{passes}
use Rattle.cpl_plan.specs.declared.parts.PlanParts.{PlanParts}
use Rattle.cpl_plan.specs.declared.parts.Exchange.{Exchange}
use Rattle.core_sides.specs.declared.event.Input.{Input}
use Rattle.wave_coupling.specs.Known.{Known}
use Rattle.wave_coupling.specs.Posts.{received}
use Rattle.participant_waves.proofs.NumbersMore.{of_more, of_others}
use Rattle.call_parts.specs.InputLengths.{IsInputOf, AreAllInputs}

map_itself : (ns : List ℕ) → map (λ n. n) ns ≡ ns
map_itself [] = refl
map_itself (n ∷ ns) = ap (λ ms. n ∷ ms) (map_itself ns)

length_push : (ns : List ℕ) (n : ℕ) → length (ns ++ n ∷ []) ≡ length ns + 1
length_push ns n = length-append ns (n ∷ [])

-- what stands at a place of a list with one more at its end
at_push : (ns : List ℕ) (n j m : ℕ) → slice_get (ns ++ n ∷ []) j ≡ Some m → (slice_get ns j ≡ Some m) ⊎ ((j ≡ length ns) × (n ≡ m))
at_push [] n zero m is = inr (refl, same_Some n m is)
at_push [] n (suc j) m is = let below : suc j < 1 = slice_get_within (n ∷ []) (suc j) m is in absurd (omega (arith, below))
at_push (k ∷ ns) n zero m is = inl is
at_push (k ∷ ns) n (suc j) m is = elim (at_push ns n j m is) [ inl before ↦ inl before | inr last ↦ inr (ap suc last.0, last.1) ]

module _ (plan : PlanParts) (part : ℕ) (known : Known) (window : ℕ × ℕ) (inputs : List Input) where
  -- those of the first exchanges, so many, that the participant receives
  abbrev pub first_received : ℕ → List ℕ
  first_received x = filter (λ y. passes plan.exchanges y (λ e. nat_eq e.to part)) (range_with_len 0 x)

  -- there are inputs for them, in order
  pub record AreSoFar (place x : ℕ) : Type 0 where
    pub many : place ≡ length (first_received x)
    pub each : (j y : ℕ) (e : Exchange) (input : Input) → slice_get (first_received x) j ≡ Some y → slice_get plan.exchanges y ≡ Some e
        → slice_get inputs j ≡ Some input → IsInputOf plan part known window e input.wave

  module _ (place x : ℕ) (e : Exchange) (at : slice_get plan.exchanges x ≡ Some e) (so_far : AreSoFar place x) where
    -- past an exchange of another
    pub so_far_other : ¬ (e.to ≡ part) → AreSoFar place (x + 1)
    so_far_other other =
        let same : first_received x ≡ first_received (x + 1) =
        sym (map_itself (first_received x)) ∙ of_others plan.exchanges (λ (f : Exchange). f.to) part x e at (λ n. n) (first_received x) other (map_itself (first_received x)) in
        record {
          many = so_far.many ∙ ap (λ (ns : List ℕ). length ns) same;
          each = λ j y f input is. so_far.each j y f input (ap (λ (ns : List ℕ). slice_get ns j) same ∙ is);
        }

    -- past one of its own, whose input is there
    pub so_far_own : e.to ≡ part → (own : Input) → slice_get inputs place ≡ Some own → IsInputOf plan part known window e own.wave → AreSoFar (place + 1) (x + 1)
    so_far_own same own there is_input =
        let more : first_received x ++ x ∷ [] ≡ first_received (x + 1) =
        sym (map_itself (first_received x ++ x ∷ []))
        ∙ of_more plan.exchanges (λ (f : Exchange). f.to) part x e at (λ n. n) (first_received x) x same refl (map_itself (first_received x)) in
        record {
          many = ap (λ (n : ℕ). n + 1) so_far.many ∙ sym (length_push (first_received x) x) ∙ ap (λ (ns : List ℕ). length ns) more;
          each = λ j y f input is at_y at_input. elim (at_push (first_received x) x j y (ap (λ (ns : List ℕ). slice_get ns j) more ∙ is)) [
            | inl before ↦ so_far.each j y f input before at_y at_input
            | inr last ↦
                let here : j ≡ place = last.0 ∙ sym so_far.many in
                let exchange : e ≡ f = same_Some e f (sym at ∙ ap (slice_get plan.exchanges) last.1 ∙ at_y) in
                let given : own ≡ input = same_Some own input (sym there ∙ ap (slice_get inputs) (sym here) ∙ at_input) in
                subst (λ (i : Input). IsInputOf plan part known window f i.wave) given
                (subst (λ (g : Exchange). IsInputOf plan part known window g own.wave) exchange is_input)
          ];
        }

  -- past the last exchange there are all of them, where no input is left
  pub so_far_all : (place x : ℕ) → x ≡ length plan.exchanges → place ≡ length inputs → AreSoFar place x → AreAllInputs plan part known window inputs
  so_far_all place x last whole so_far =
      let all : first_received x ≡ received plan part = ap first_received last in
      record {
        count = sym whole ∙ so_far.many ∙ ap (λ (ns : List ℕ). length ns) all;
        each = λ i y e input is at_y at_input. so_far.each i y e input (ap (λ (ns : List ℕ). slice_get ns i) all ∙ is) at_y at_input;
      }
