-- What was grown and then shrunk, and what was sampled and then unsampled, is as before.
use Rattle.std.proofs.Common.{◌≡◌, ℕ, ◌-◌, ◌*◌, Bool, true, false, if◌then◌else◌, nat_eq, pos, List, [], ◌∷◌, ◌++◌, map, take, replicate, length, refl, ap, ◌∙◌, arith}
use Rattle.std.proofs.lemmas.Bool.{eqb-true}
use Rattle.std.proofs.lemmas.List.{take-append-le, take_all, length-append}
use Rattle.std.proofs.lemmas.List.Elements.{All-head, All-tail}
use Rattle.participant_tables.specs.WriteKept.{WriteKept, field_of}
use Rattle.participant_tables.specs.WriteSteps.{HaveVertices, grown, shrunk, sampled, unsampled}

-- the front of a list that has more behind it
front : {X : Type 0} (xs ys : List X) (n : ℕ) → length xs ≡ n → take n (xs ++ ys) ≡ xs
front xs ys n is = take-append-le n xs ys (omega (arith, is)) ∙ take_all n xs (omega (arith, is))

-- one entry
regrown : (place before more : ℕ) (e : WriteKept) → (e.mesh ≡ place → length e.values ≡ before * e.components) → shrunk place before (grown place more e) ≡ e
regrown place before more e fits = of (nat_eq e.mesh place) refl
  where
    taller : WriteKept
    taller = record e { values = e.values ++ replicate (more * e.components) (pos 0) }

    of : (b : Bool) → nat_eq e.mesh place ≡ b → shrunk place before (grown place more e) ≡ e
    of true is =
        ap (λ b. shrunk place before (if b then record e { values = e.values ++ replicate (more * e.components) (pos 0) } else e)) is
        ∙ ap (λ b. if b then record e { values = take (before * e.components) (e.values ++ replicate (more * e.components) (pos 0)) } else record e { values = e.values ++ replicate (more * e.components) (pos 0) }) is
        ∙ ap (λ values. record e { values = values }) (front e.values (replicate (more * e.components) (pos 0)) (before * e.components) (fits (eqb-true e.mesh place is)))
    of false is =
        ap (λ b. shrunk place before (if b then record e { values = e.values ++ replicate (more * e.components) (pos 0) } else e)) is
        ∙ ap (λ b. if b then record e { values = take (before * e.components) e.values } else e) is

pub growth-undone : (place before more : ℕ) (entries : List WriteKept) → HaveVertices place before entries → map (shrunk place before) (map (grown place more) entries) ≡ entries
growth-undone place before more [] fit = refl
growth-undone place before more (e ∷ entries) fit =
    let here = regrown place before more e (All-head (λ (x : WriteKept). x.mesh ≡ place → length x.values ≡ before * x.components) e entries fit) in
    let rest = growth-undone place before more entries (All-tail (λ (x : WriteKept). x.mesh ≡ place → length x.values ≡ before * x.components) e entries fit) in
    cc

-- a list without the item that was pushed last
popped : {X : Type 0} (xs : List X) (x : X) → take (length (xs ++ x ∷ []) - 1) (xs ++ x ∷ []) ≡ xs
popped xs x = front xs (x ∷ []) (length (xs ++ x ∷ []) - 1) (omega (arith, length-append xs (x ∷ [])))

pub samples-undone : (time : ℕ) (entries : List WriteKept) → map unsampled (map (sampled time) entries) ≡ entries
samples-undone time [] = refl
samples-undone time (e ∷ entries) =
    let here : unsampled (sampled time e) ≡ e = ap (λ samples. record e { samples = samples }) (popped e.samples (record { time = time; field = field_of e })) in
    let rest = samples-undone time entries in
    cc
