-- A walk over exchanges: the place, among those that a participant receives, of the one that serves an entry.
use Rattle.std.proofs.Common.{◌≡◌, ◌≢◌, ℕ, suc, ◌+◌, ◌-◌, ◌<◌, ◌≤◌, Bool, true, false, nat_eq, cond, List, [], ◌∷◌, length, get_or, Option, Some, None, ap, sym, ◌∙◌, arith}
use Rattle.std.specs.Prelude.{filter}
use Rattle.std.specs.List.{position_from, range_with_len}
use Rattle.std.specs.Option.{option_map_or}
use Rattle.std.proofs.lemmas.Bool.{eq-eqb, ne_eqb}
use Rattle.std.proofs.lemmas.Option.{slice_get-get_or}
use Rattle.cpl_plan.specs.PlanWords.{passes}
use Rattle.cpl_plan.specs.declared.parts.PlanParts.{PlanParts}
use Rattle.cpl_plan.specs.declared.parts.PlanEntry.{PlanEntry}
use Rattle.cpl_plan.specs.declared.parts.Exchange.{Exchange}
use Rattle.wave_coupling.specs.Posts.{received}
use Rattle.wave_coupling.specs.Known.{read_mesh, serves}
use Rattle.field_buffers.proofs.Walks.{position-front}
use Rattle.participant_tables.specs.ReadKept.{served_from}

module _ (plan : PlanParts) (part : ℕ) (entry : PlanEntry) where
  abbrev reads : ℕ → Bool
  reads x = passes plan.exchanges x (λ e. nat_eq e.to part)

  abbrev server : ℕ → Bool
  server x = passes plan.exchanges x (λ e. serves plan part e (read_mesh plan part e) entry)

  -- those of the exchanges from i on that are received
  abbrev later : (i : ℕ) → List ℕ
  later i = filter reads (range_with_len i (length plan.exchanges - i))

  -- what is looked for from exchange i on, with so many received before it, is what is looked for among all
  abbrev pub IsLooking : (place i : ℕ) → Type 0
  IsLooking place i = position_from server place (later i) ≡ served_from plan part entry

  pub looking-first : IsLooking 0 0
  looking-first =
      let whole : length plan.exchanges - 0 ≡ length plan.exchanges = omega (arith) in
      ap (λ n. position_from server 0 (filter reads (range_with_len 0 n))) whole ∙ position-front server (received plan part)

  at : (test : Exchange → Bool) (i : ℕ) (d : Exchange) → i < length plan.exchanges → passes plan.exchanges i test ≡ test (get_or plan.exchanges i d)
  at test i d inside = ap (λ (o : Option Exchange). option_map_or test o false) (slice_get-get_or plan.exchanges i d inside)

  later-next : (i : ℕ) → i < length plan.exchanges → later i ≡ cond (reads i) (i ∷ later (i + 1)) (later (i + 1))
  later-next i inside =
      let more : length plan.exchanges - i ≡ suc (length plan.exchanges - (i + 1)) = omega (arith, inside) in
      ap (λ n. filter reads (range_with_len i n)) more

  later-none : (i : ℕ) → length plan.exchanges ≤ i → later i ≡ []
  later-none i past = let none : length plan.exchanges - i ≡ 0 = omega (arith, past) in ap (λ n. filter reads (range_with_len i n)) none

  module _ (place i : ℕ) (items : List Exchange) (d : Exchange) (are : items ≡ plan.exchanges) (within : i < length items) (so_far : IsLooking place i) where
    abbrev e : Exchange
    e = get_or items i d

    inside : i < length plan.exchanges
    inside = omega (arith, within, ap length are)

    is : e ≡ get_or plan.exchanges i d
    is = ap (λ (xs : List Exchange). get_or xs i d) are

    reads-is : (b : Bool) → nat_eq e.to part ≡ b → reads i ≡ b
    reads-is b own = at (λ (x : Exchange). nat_eq x.to part) i d inside ∙ (ap (λ (x : Exchange). nat_eq x.to part) (sym is) ∙ own)

    server-is : (b : Bool) → serves plan part e (read_mesh plan part e) entry ≡ b → server i ≡ b
    server-is b own =
        at (λ (x : Exchange). serves plan part x (read_mesh plan part x) entry) i d inside
        ∙ (ap (λ (x : Exchange). serves plan part x (read_mesh plan part x) entry) (sym is) ∙ own)

    -- past an exchange of another participant
    pub looking-other : e.to ≢ part → IsLooking place (i + 1)
    looking-other other =
        sym (ap (position_from server place) (later-next i inside ∙ ap (λ b. cond b (i ∷ later (i + 1)) (later (i + 1))) (reads-is false (ne_eqb e.to part other)))) ∙ so_far

    own-next : e.to ≡ part → cond (server i) (Some place) (position_from server (place + 1) (later (i + 1))) ≡ served_from plan part entry
    own-next own =
        sym (ap (position_from server place) (later-next i inside ∙ ap (λ b. cond b (i ∷ later (i + 1)) (later (i + 1))) (reads-is true (eq-eqb e.to part own)))) ∙ so_far

    -- past one that serves another entry, and at the one that serves this
    pub looking-past : e.to ≡ part → serves plan part e (read_mesh plan part e) entry ≡ false → IsLooking (place + 1) (i + 1)
    looking-past own other =
        sym (ap (λ b. cond b (Some place) (position_from server (place + 1) (later (i + 1)))) (server-is false other)) ∙ own-next own

    pub looking-found : e.to ≡ part → serves plan part e (read_mesh plan part e) entry ≡ true → Some place ≡ served_from plan part entry
    looking-found own this =
        sym (ap (λ b. cond b (Some place) (position_from server (place + 1) (later (i + 1)))) (server-is true this)) ∙ own-next own

  pub looking-none : (place i : ℕ) → length plan.exchanges ≤ i → IsLooking place i → None ≡ served_from plan part entry
  looking-none place i past so_far = sym (ap (position_from server place) (later-none i past)) ∙ so_far
