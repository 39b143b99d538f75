-- The outlines of relaxed waves are those of the posted ones.
use Rattle.std.proofs.Common.{◌≡◌, ℕ, zero, suc, ◌-◌, ◌≤◌, inl, inr, List, [], ◌∷◌, length, get_or, map, ℤ, All, arith, refl, ap, sym, ◌∙◌}
use Rattle.std.specs.Prelude.{sum_by}
use Rattle.std.specs.List.{zip}
use Rattle.std.proofs.lemmas.List.{length-map}
use Rattle.std.proofs.lemmas.List.Elements.{All-head, All-tail}
use Rattle.std.proofs.lemmas.List.Sums.{sum_by-cons}
use Rattle.std.proofs.lemmas.Slice.Zip.{length-zip}
use Rattle.fixed_num.specs.Relaxation.{relaxed}
use Rattle.waveform.specs.declared.sample.Sample.{Sample}
use Rattle.waveform.specs.IsWave.{value_lists}
use Rattle.waveform.specs.WaveValue.{read}
use Rattle.acceleration.specs.Exchanged.{Exchanged, exchanged, CanRelax}
use Rattle.acceleration.specs.RelaxedWaves.{relaxed_values, relaxed_sample, relaxed_wave, relaxed_waves}
use Rattle.acceleration.specs.Residual.{width}
use Rattle.wave_coupling.specs.Posts.{Wave}
use Rattle.group_course.specs.CourseTells.{outline}
use Rattle.group_course.proofs.ReadLengths.{read-length}

abbrev Line : Type 0
Line = ℕ × (ℕ × ℕ)

relaxed-length : (factor : ℤ) (xs ys : List ℤ) → length xs ≡ length ys → length (relaxed_values factor xs ys) ≡ length ys
unfolding relaxed_values
relaxed-length factor xs ys same = length-map (zip xs ys) (λ v. relaxed v.0 v.1 factor) ∙ length-zip xs ys ∙ omega (arith, same)

lines : (factor : ℤ) (e : Exchanged) (ys : List Sample) → All (λ (y : Sample). length (read e.taken e.degree y.time) ≡ length y.field.values) ys
    → outline (map (relaxed_sample factor e) ys) ≡ outline ys
lines factor e [] same = refl
lines factor e (y ∷ ys) same =
    let P : Sample → Type 0 = λ z. length (read e.taken e.degree z.time) ≡ length z.field.values in
    ap (λ (n : ℕ). (y.time, (y.field.components, n)) ∷ outline (map (relaxed_sample factor e) ys)) (relaxed-length factor (read e.taken e.degree y.time) y.field.values (All-head P y ys same))
    ∙ ap (λ (rest : List Line). (y.time, (y.field.components, length y.field.values)) ∷ rest) (lines factor e ys (All-tail P y ys same))

pub outline-relaxed : (factor : ℤ) (e : Exchanged) → 1 ≤ length e.taken → CanRelax e → outline (relaxed_wave factor e) ≡ outline e.posted
outline-relaxed factor e some can =
    lines factor e e.posted (λ j d inside.
    let y = get_or e.posted j d in
    read-length e.taken e.degree y.time (length y.field.values) some (λ i c within. (can.alike i c within j d inside).len)
    (elim can.covered [ inl one ↦ inl one | inr all ↦ inr (all j d inside) ]))

pub outlines-relaxed : (factor : ℤ) (es : List Exchanged) → All (λ (e : Exchanged). 1 ≤ length e.taken) es → All CanRelax es
    → map outline (relaxed_waves factor es) ≡ map (λ e. outline e.posted) es
outlines-relaxed factor [] some can = refl
outlines-relaxed factor (e ∷ es) some can =
    ap (λ (o : List Line). o ∷ map outline (relaxed_waves factor es))
    (outline-relaxed factor e (All-head (λ (z : Exchanged). 1 ≤ length z.taken) e es some) (All-head CanRelax e es can))
    ∙ ap (λ (os : List (List Line)). outline e.posted ∷ os)
    (outlines-relaxed factor es (All-tail (λ (z : Exchanged). 1 ≤ length z.taken) e es some) (All-tail CanRelax e es can))

-- the posted waves of exchanges that are listed apart
pub outlines-posted : (degrees : List ℕ) (read posted : List Wave) → length degrees ≡ length posted → length read ≡ length posted
    → map (λ e. outline e.posted) (exchanged degrees read posted) ≡ map outline posted
outlines-posted [] [] [] one other = refl
outlines-posted [] [] (p ∷ ps) one other = absurd (omega (arith, one))
outlines-posted [] (r ∷ rs) [] one other = absurd (omega (arith, other))
outlines-posted [] (r ∷ rs) (p ∷ ps) one other = absurd (omega (arith, one))
outlines-posted (n ∷ ns) [] [] one other = absurd (omega (arith, one))
outlines-posted (n ∷ ns) [] (p ∷ ps) one other = absurd (omega (arith, other))
outlines-posted (n ∷ ns) (r ∷ rs) [] one other = absurd (omega (arith, one))
outlines-posted (n ∷ ns) (r ∷ rs) (p ∷ ps) one other = ap (λ (os : List (List Line)). outline p ∷ os) (outlines-posted ns rs ps (omega (arith, one)) (omega (arith, other)))

-- how many values a wave has at its end, by its outline
abbrev end_width : List Line → ℕ
end_width ls = get_or (map (λ l. l.1.1) ls) (length ls - 1) 0

values_at : (wave : Wave) (k : ℕ) → length (get_or (value_lists wave) k []) ≡ get_or (map (λ l. l.1.1) (outline wave)) k 0
values_at [] k = refl
values_at (s ∷ wave) zero = refl
values_at (s ∷ wave) (suc k) = values_at wave k

pub width-outline : (wave : Wave) → width wave ≡ end_width (outline wave)
width-outline wave =
    values_at wave (length wave - 1)
    ∙ ap (λ (n : ℕ). get_or (map (λ l. l.1.1) (outline wave)) (n - 1) 0) (sym (length-map wave (λ (s : Sample). (s.time, (s.field.components, length s.field.values)))))

widths : (waves : List Wave) → sum_by width waves ≡ sum_by end_width (map outline waves)
widths [] = refl
widths (w ∷ ws) =
    sum_by-cons width w ws ∙ omega (arith, width-outline w, widths ws) ∙ sym (sum_by-cons end_width (outline w) (map outline ws))

pub same_widths : (a b : List Wave) → map outline a ≡ map outline b → sum_by width a ≡ sum_by width b
same_widths a b same = widths a ∙ ap (λ (os : List (List Line)). sum_by end_width os) same ∙ sym (widths b)
