-- What is done by each of several participants, one after another in the loop.
use Rattle.std.proofs.Common.{◌≡◌, ℕ, ◌⊎◌, inl, inr, List, [], ◌∷◌, refl, sym, ap, subst, ◌∙◌, Contains}
use Rattle.coupled_loop.specs.Numbered.{put}
use Rattle.std.proofs.Math.Path.{fun_ext}
use Rattle.std.proofs.lemmas.Bool.{cases_eq}
use Rattle.plan_order.proofs.Loops.{head_in, tail_in, in_cons}
use Rattle.plan_order.proofs.Orders.{none_in_nil}
use Rattle.coupled_loop.specs.CoupledLoop.{Part, Parts, each_does}
use Rattle.core_laws.proofs.Puts.{put_same, put_other}
use Rattle.core_laws.proofs.Members.{Distinct, is_in_or_not}

module _ {Mesh Post Fault State Note : Type 0} (does : ℕ → Part Mesh Post Fault State Note → Part Mesh Post Fault State Note) where
  -- who is not among them stays as it is
  pub each_does_out : (members : List ℕ) (parts : Parts Mesh Post Fault State Note) (other : ℕ) → ¬ Contains members other → each_does does members parts other ≡ parts other
  each_does_out [] parts other none = refl
  each_does_out (member ∷ rest) parts other none =
      each_does_out rest (put parts member (does member (parts member))) other (λ inside. none (tail_in member rest other inside))
      ∙ put_other parts member (does member (parts member)) other (λ e. none (subst (λ (q : ℕ). Contains (member ∷ rest) q) (sym e) (head_in member rest)))

  pub each_does_in : (members : List ℕ) (parts : Parts Mesh Post Fault State Note) (one : ℕ) → Distinct members → Contains members one
      → each_does does members parts one ≡ does one (parts one)
  each_does_in [] parts one distinct inside = absurd (none_in_nil one inside)
  each_does_in (member ∷ rest) parts one distinct inside = by (cases_eq one member)
      (λ further. each_does_in rest (put parts member (does member (parts member))) one distinct.1 further)
    where
      by : (one ≡ member) ⊎ ¬ (one ≡ member) → (Contains rest one → each_does does rest (put parts member (does member (parts member))) one ≡ does one (put parts member (does member (parts member)) one))
          → each_does does rest (put parts member (does member (parts member))) one ≡ does one (parts one)
      by (inl e) further = subst (λ (q : ℕ). each_does does rest (put parts member (does member (parts member))) q ≡ does q (parts q)) (sym e)
          (each_does_out rest (put parts member (does member (parts member))) member distinct.0 ∙ put_same parts member (does member (parts member)))
      by (inr off) further = elim (in_cons member rest one inside) [
        | inl same ↦ absurd (off (sym same))
        | inr inside' ↦ further inside' ∙ ap (does one) (put_other parts member (does member (parts member)) one off)
      ]

  -- who is so for each is what each has done
  pub each_has_done : (members : List ℕ) (parts after : Parts Mesh Post Fault State Note) → Distinct members
      → ((one : ℕ) → Contains members one → after one ≡ does one (parts one)) → ((other : ℕ) → ¬ Contains members other → after other ≡ parts other)
      → after ≡ each_does does members parts
  each_has_done members parts after distinct inside apart = fun_ext (λ one. elim (is_in_or_not members one) [
    | inl is ↦ inside one is ∙ sym (each_does_in members parts one distinct is)
    | inr none ↦ apart one none ∙ sym (each_does_out members parts one none)
  ])

-- what each does, and then another thing
pub done_twice : {Mesh Post Fault State Note : Type 0} (does then : ℕ → Part Mesh Post Fault State Note → Part Mesh Post Fault State Note)
    (members : List ℕ) (parts after : Parts Mesh Post Fault State Note) → Distinct members
    → ((one : ℕ) → Contains members one → after one ≡ then one (does one (parts one))) → ((other : ℕ) → ¬ Contains members other → after other ≡ parts other)
    → after ≡ each_does then members (each_does does members parts)
done_twice does then members parts after distinct inside apart =
    each_has_done then members (each_does does members parts) after distinct
    (λ one is. inside one is ∙ ap (then one) (sym (each_does_in does members parts one distinct is)))
    (λ other none. apart other none ∙ sym (each_does_out does members parts other none))
