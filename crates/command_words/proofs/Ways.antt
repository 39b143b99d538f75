-- The ways to write a line, one by one.
use Rattle.std.proofs.Common.{arith, ◌≤◌, ◌<◌, map, length, slice_index_or, ◌≡◌, ◌≢◌, ◌==◌, ◌||◌, ◌⊎◌, inl, inr, ℕ, Bool, true, false, true≢false, not, cond, refl, sym, subst, ap, ap₂, List, [], ◌∷◌, ◌∙◌, Option, Some, None, codes}
use Rattle.std.specs.Str.{bytes_eq}
use Rattle.std.proofs.lemmas.Slice.Eq.{bytes_eq-Decides}
use Rattle.command_words.specs.Asking.{Text, is_name, run_of}
use Rattle.command_words.specs.Lines.{joined, writes_rest}
use Rattle.command_words.proofs.Digits.{both}

pub some≢none : {X : Type 0} (x : X) → Some x ≡ None → ⊥
some≢none x e = true≢false (ap (λ o. Rattle.std.specs.Option.is_some o) e)

pub either : (a b : Bool) → (a || b) ≡ true → (a ≡ true) ⊎ (b ≡ true)
either true b h = inl refl
either false b h = inr h

pub same : (xs ys : Text) → bytes_eq xs ys ≡ true → xs ≡ ys
same xs ys h = (bytes_eq-Decides xs ys).0 h

pub itself : (xs : Text) → bytes_eq xs xs ≡ true
itself xs = (bytes_eq-Decides xs xs).1 refl

-- where a choice is something, it is what was chosen
pub chosen : {X : Type 0} (b : Bool) (o : Option X) → cond b o None ≢ None → (b ≡ true) × (o ≢ None)
chosen true o h = (refl, h)
chosen false o h = absurd (h refl)

pub named : (config : Text) (schedule : Option ℕ) → run_of config schedule ≢ None → is_name config ≡ true
named config schedule h = (chosen (is_name config) _ h).0

not_true : (b : Bool) → not b ≡ true → b ≡ false
not_true true h = absurd (true≢false (sym h))
not_true false h = refl

-- a name begins with a byte that is no dash
pub by_name : (P : Text → Type 0) → ((x : ℕ) (xs : Text) → (x == 45) ≡ false → P (x ∷ xs))
    → (config : Text) → is_name config ≡ true → P config
by_name P begin [] h = absurd (true≢false (sym h))
by_name P begin (x ∷ xs) h = begin x xs (not_true (x == 45) h)

-- what holds of each way to write the words behind a command holds of the words
pub by_way : (P : List Text → Option Text → Type 0) (config : Text) → P (config ∷ []) None
    → ((text : Text) → P (config ∷ joined text ∷ []) (Some text))
    → ((text : Text) → P (joined text ∷ config ∷ []) (Some text))
    → ((text : Text) → P (config ∷ codes "--schedule" ∷ text ∷ []) (Some text))
    → ((text : Text) → P (codes "--schedule" ∷ text ∷ config ∷ []) (Some text))
    → (rest : List Text) (schedule : Option Text) → writes_rest rest config schedule ≡ true → P rest schedule
by_way P config alone j_behind j_before a_behind a_before (name ∷ []) None h =
    subst (λ n. P (n ∷ []) None) (sym (same name config h)) alone
by_way P config alone j_behind j_before a_behind a_before (first ∷ second ∷ []) (Some text) h =
    elim (either _ _ h) [
      | inl l ↦
          let p = both _ _ l in
          subst (λ ws. P ws (Some text)) (ap₂ (λ f s. f ∷ s ∷ []) (sym (same first config p.0)) (sym (same second (joined text) p.1))) (j_behind text)
      | inr r ↦
          let p = both _ _ r in
          subst (λ ws. P ws (Some text)) (ap₂ (λ s f. f ∷ s ∷ []) (sym (same second config p.0)) (sym (same first (joined text) p.1))) (j_before text)
    ]
by_way P config alone j_behind j_before a_behind a_before (first ∷ second ∷ third ∷ []) (Some text) h =
    elim (either _ _ h) [
      | inl l ↦
          let p = both _ _ l in
          let q = both _ _ p.1 in
          let last : (config ∷ codes "--schedule" ∷ text ∷ []) ≡ (first ∷ second ∷ third ∷ []) =
          ap₂ (λ f s. f ∷ s ∷ text ∷ []) (sym (same first config p.0)) (sym (same second (codes "--schedule") q.0))
          ∙ ap (λ t. first ∷ second ∷ t ∷ []) (sym (same third text q.1)) in
          subst (λ ws. P ws (Some text)) last (a_behind text)
      | inr r ↦
          let p = both _ _ r in
          let q = both _ _ p.1 in
          let last : (codes "--schedule" ∷ text ∷ config ∷ []) ≡ (first ∷ second ∷ third ∷ []) =
          ap₂ (λ f s. f ∷ s ∷ config ∷ []) (sym (same first (codes "--schedule") q.0)) (sym (same second text q.1))
          ∙ ap (λ t. first ∷ second ∷ t ∷ []) (sym (same third config p.0)) in
          subst (λ ws. P ws (Some text)) last (a_before text)
    ]
by_way P config alone j_behind j_before a_behind a_before [] None h = absurd (true≢false (sym h))
by_way P config alone j_behind j_before a_behind a_before [] (Some text) h = absurd (true≢false (sym h))
by_way P config alone j_behind j_before a_behind a_before (a ∷ []) (Some text) h = absurd (true≢false (sym h))
by_way P config alone j_behind j_before a_behind a_before (a ∷ b ∷ rest) None h = absurd (true≢false (sym h))
by_way P config alone j_behind j_before a_behind a_before (a ∷ b ∷ d ∷ e ∷ rest) (Some text) h = absurd (true≢false (sym h))

-- a list of two is its two items
pub two_items : {X : Type 0} (f : X → Text) (xs : List X) (a b : X) → 2 ≤ length xs → length xs < 3
    → map f xs ≡ f (slice_index_or xs 0 a) ∷ f (slice_index_or xs 1 b) ∷ []
two_items f [] a b low high = absurd (omega arith)
two_items f (x ∷ []) a b low high = absurd (omega arith)
two_items f (x ∷ y ∷ []) a b low high = refl
two_items f (x ∷ y ∷ z ∷ zs) a b low high = absurd (omega arith)
