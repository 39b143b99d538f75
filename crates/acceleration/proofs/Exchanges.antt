-- The exchanges of three lists, one by one.
use Rattle.std.proofs.Common.{◌≡◌, ℕ, ◌+◌, ◌<◌, List, [], ◌∷◌, ◌++◌, length, get_or, take, All, arith, sym, subst, ap, ◌∙◌}
use Rattle.std.specs.List.{zip}
use Rattle.std.proofs.lemmas.List.{length-map, get_or-map, get_or_read, take_more}
use Rattle.std.proofs.lemmas.Slice.Zip.{length-zip, get_or-zip}
use Rattle.waveform.specs.declared.sample.Sample.{Sample}
use Rattle.acceleration.specs.Exchanged.{Exchanged, exchange_of, exchanged, CanRelax}

-- what stands past the end
abbrev pub no_exchange : Exchanged
no_exchange = record { degree = 0; taken = []; posted = [] }

abbrev Triple : Type 0
Triple = ℕ × (List Sample × List Sample)

pub length-exchanged : (degrees : List ℕ) (read posted : List (List Sample)) → length degrees ≡ length posted → length read ≡ length posted
    → length (exchanged degrees read posted) ≡ length posted
length-exchanged degrees read posted one_degree one_read = simp (length-map, length-zip) (omega (arith, one_degree, one_read))

-- exchange i has the degree, the read and the posted wave at i
pub exchange_at : (degrees : List ℕ) (read posted : List (List Sample)) (i degree : ℕ) (taken one : List Sample) → length degrees ≡ length posted → length read ≡ length posted → i < length posted
    → degree ≡ get_or degrees i 0 → taken ≡ get_or read i taken → one ≡ get_or posted i one
    → get_or (exchanged degrees read posted) i no_exchange ≡ exchange_of degree taken one
exchange_at degrees read posted i degree taken one one_degree one_read inside is_degree is_taken is_one =
    let pairs : length (zip read posted) ≡ length posted = simp length-zip (omega (arith, one_read)) in
    let triples : i < length (zip degrees (zip read posted)) = simp length-zip (omega (arith, one_degree, one_read, inside)) in
    let none : Triple = (0, ([], [])) in
    get_or-map (λ (e : Triple). exchange_of e.0 e.1.0 e.1.1) (zip degrees (zip read posted)) i none no_exchange triples
    ∙ ap (λ (e : Triple). exchange_of e.0 e.1.0 e.1.1) (
    get_or-zip degrees (zip read posted) i none (omega (arith, one_degree, inside)) (omega (arith, pairs, inside))
    ∙ ap (λ (pair : List Sample × List Sample). (get_or degrees i 0, pair)) (get_or-zip read posted i ([], []) (omega (arith, one_read, inside)) inside)
    )
    ∙ ap (λ (n : ℕ). exchange_of n (get_or read i []) (get_or posted i [])) (sym is_degree)
    ∙ ap (λ (x : List Sample). exchange_of degree x (get_or posted i [])) (sym (get_or_read read i taken (omega (arith, one_read, inside)) is_taken []))
    ∙ ap (λ (y : List Sample). exchange_of degree taken y) (sym (get_or_read posted i one inside is_one []))

-- it can be relaxed where all can
pub can_relax_at : (exchanges : List Exchanged) (i : ℕ) (e : Exchanged) → All CanRelax exchanges → i < length exchanges → get_or exchanges i no_exchange ≡ e → CanRelax e
can_relax_at exchanges i e all inside is = subst CanRelax is (all i no_exchange inside)

-- one exchange more
pub exchanges_more : (exchanges : List Exchanged) (i : ℕ) (e : Exchanged) → i < length exchanges → get_or exchanges i no_exchange ≡ e → take (i + 1) exchanges ≡ take i exchanges ++ e ∷ []
exchanges_more exchanges i e inside is = take_more exchanges i no_exchange inside ∙ ap (λ (x : Exchanged). take i exchanges ++ x ∷ []) is
