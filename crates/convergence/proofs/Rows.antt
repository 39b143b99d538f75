-- The measures with their norms, as one list.
use Rattle.std.proofs.Common.{◌≡◌, ℕ, ◌<◌, List, length, zip, get_or, slice_get, Some, option_map, arith, ap, sym, ◌∙◌}
use Rattle.std.proofs.lemmas.List.{length-map}
use Rattle.std.proofs.lemmas.Slice.Zip.{length-zip, get_or-zip}
use Rattle.std.proofs.lemmas.Option.{slice_get-map, slice_get-get_or}
use Rattle.cpl_plan.specs.declared.parts.Measure.{Measure}
use Rattle.convergence.specs.declared.measured.Measured.{Measured}
use Rattle.convergence.specs.Holds.{measured, OneForEach}

abbrev pub Numbered : Type 0
Numbered = (Measure × ℕ) × (ℕ × ℕ)

-- a measure with its three norms
abbrev pub with_norms : Numbered → Measured
with_norms at = record { measure = at.0.0; change = at.0.1; size = at.1.0; first = at.1.1 }

abbrev pub numbered : List Measure → (ds ss fs : List ℕ) → List Numbered
numbered ms ds ss fs = zip (zip ms ds) (zip ss fs)

length-numbered : (ms : List Measure) (ds ss fs : List ℕ) → OneForEach ms ds ss fs → length (numbered ms ds ss fs) ≡ length ms
length-numbered ms ds ss fs each =
    omega (arith, length-zip (zip ms ds) (zip ss fs), length-zip ms ds, length-zip ss fs)

-- there are as many as there are measures
pub length-measured : (ms : List Measure) (ds ss fs : List ℕ) → OneForEach ms ds ss fs → length (measured ms ds ss fs) ≡ length ms
length-measured ms ds ss fs each = length-map (numbered ms ds ss fs) with_norms ∙ length-numbered ms ds ss fs each

-- a place among them is one of each list
pub inside : (ms : List Measure) (ds ss fs : List ℕ) (all : List Measured) (i : ℕ) → OneForEach ms ds ss fs → measured ms ds ss fs ≡ all → i < length all → i < length ms
inside ms ds ss fs all i each is within = omega (arith, length-measured ms ds ss fs each, ap length is)

-- the one at a place has what the four lists have there
pub measured_at : (ms : List Measure) (ds ss fs : List ℕ) (all : List Measured) (i : ℕ) (m : Measure) → OneForEach ms ds ss fs → measured ms ds ss fs ≡ all → i < length all
    → m ≡ get_or ms i m
    → slice_get all i ≡ Some (record { measure = m; change = get_or ds i 0; size = get_or ss i 0; first = get_or fs i 0 })
measured_at ms ds ss fs all i m each is within same =
    let within_all = inside ms ds ss fs all i each is within in
    let d : Numbered = ((m, 0), (0, 0)) in
    let left = get_or-zip ms ds i (m, 0) within_all (omega arith) in
    let right = get_or-zip ss fs i (0, 0) (omega arith) (omega arith) in
    let both = get_or-zip (zip ms ds) (zip ss fs) i d (omega (arith, length-zip ms ds)) (omega (arith, length-zip ss fs)) in
    let pairs : get_or (numbered ms ds ss fs) i d ≡ ((m, get_or ds i 0), (get_or ss i 0, get_or fs i 0)) = cc in
    ap (λ (xs : List Measured). slice_get xs i) (sym is)
    ∙ slice_get-map with_norms (numbered ms ds ss fs) i
    ∙ ap (option_map with_norms) (slice_get-get_or (numbered ms ds ss fs) i d (omega (arith, length-numbered ms ds ss fs each)) ∙ ap Some pairs)
