-- The values on the lines between two rows: one of them, some of them.
use Rattle.std.proofs.Common.{◌≡◌, ℕ, zero, suc, ◌<◌, ℤ, pos, List, [], ◌∷◌, length, get_or, map, take, drop, min, arith, refl, sym, ap, ◌∙◌}
use Rattle.std.specs.List.{zip}
use Rattle.std.proofs.lemmas.List.{length-map}
use Rattle.std.proofs.lemmas.Slice.Zip.{length-zip}
use Rattle.waveform.specs.declared.sample.Sample.{Sample}
use Rattle.waveform.specs.WaveValue.{component_between, values_between}
use Rattle.wave_reading.specs.Places.{line_values}

at_both : (f : ℤ × ℤ → ℤ) (xs ys : List ℤ) (i : ℕ) (d : ℤ) → i < length xs → i < length ys → get_or (map f (zip xs ys)) i d ≡ f (get_or xs i d, get_or ys i d)
at_both f [] ys i d h g = absurd (omega arith)
at_both f (x ∷ xs) [] i d h g = absurd (omega arith)
at_both f (x ∷ xs) (y ∷ ys) zero d h g = refl
at_both f (x ∷ xs) (y ∷ ys) (suc i) d h g = at_both f xs ys i d (omega arith) (omega arith)

take_both : (f : ℤ × ℤ → ℤ) (n : ℕ) (xs ys : List ℤ) → map f (zip (take n xs) (take n ys)) ≡ take n (map f (zip xs ys))
take_both f zero xs ys = refl
take_both f (suc n) [] ys = refl
take_both f (suc n) (x ∷ xs) [] = refl
take_both f (suc n) (x ∷ xs) (y ∷ ys) = ap (λ list. f (x, y) ∷ list) (take_both f n xs ys)

none_right : (f : ℤ × ℤ → ℤ) (xs : List ℤ) → map f (zip xs []) ≡ []
none_right f [] = refl
none_right f (x ∷ xs) = refl

drop_both : (f : ℤ × ℤ → ℤ) (n : ℕ) (xs ys : List ℤ) → map f (zip (drop n xs) (drop n ys)) ≡ drop n (map f (zip xs ys))
drop_both f zero xs ys = refl
drop_both f (suc n) [] ys = refl
drop_both f (suc n) (x ∷ xs) [] = none_right f (drop n xs)
drop_both f (suc n) (x ∷ xs) (y ∷ ys) = drop_both f n xs ys

pub line_values-at : (start end t i : ℕ) (first last : List ℤ) → i < length first → i < length last
    → get_or (line_values start end t first last) i (pos 0) ≡ component_between start end t (get_or first i (pos 0)) (get_or last i (pos 0))
unfolding line_values
line_values-at start end t i first last h g = at_both (λ v. component_between start end t v.0 v.1) first last i (pos 0) h g

pub length-line_values : (start end t : ℕ) (first last : List ℤ) → length (line_values start end t first last) ≡ min (length first) (length last)
unfolding line_values
length-line_values start end t first last = simp (length-map, length-zip)

-- some of the values are the values of some
pub line_values-part : (start end t from n : ℕ) (first last : List ℤ)
    → line_values start end t (take n (drop from first)) (take n (drop from last)) ≡ take n (drop from (line_values start end t first last))
unfolding line_values
line_values-part start end t from n first last =
    take_both (λ v. component_between start end t v.0 v.1) n (drop from first) (drop from last)
    ∙ ap (take n) (drop_both (λ v. component_between start end t v.0 v.1) from first last)

pub between_is : (s0 s1 : Sample) (t : ℕ) → values_between s0 s1 t ≡ line_values s0.time s1.time t s0.field.values s1.field.values
unfolding values_between line_values
between_is s0 s1 t = refl

-- what is written between two rows is read between the two samples
pub line_told : (t from n : ℕ) (s0 s1 : Sample) (start end : ℕ) (first last : List ℤ) → s0.time ≡ start → s1.time ≡ end
    → first ≡ take n (drop from s0.field.values) → last ≡ take n (drop from s1.field.values)
    → line_values start end t first last ≡ take n (drop from (values_between s0 s1 t))
line_told t from n s0 s1 start end first last at0 at1 is0 is1 =
    ap (λ xs. line_values start end t xs last) is0 ∙ ap (λ ys. line_values start end t (take n (drop from s0.field.values)) ys) is1
    ∙ line_values-part start end t from n s0.field.values s1.field.values
    ∙ ap (λ a. take n (drop from (line_values a end t s0.field.values s1.field.values))) (sym at0)
    ∙ ap (λ b. take n (drop from (line_values s0.time b t s0.field.values s1.field.values))) (sym at1)
    ∙ ap (λ values. take n (drop from values)) (sym (between_is s0 s1 t))
