-- Rows that are written keep the number of values, and so the shape of what was sampled.
use Rattle.std.proofs.Common.{◌≡◌, ℕ, ◌+◌, ◌*◌, List, [], ◌∷◌, ◌++◌, take, drop, length, ℤ, All, refl, sym, ◌∙◌, arith}
use Rattle.std.proofs.lemmas.List.{length-append, length-take-le, length-drop}
use Rattle.std.proofs.lemmas.List.Elements.{All-head, All-tail}
use Rattle.field_buffers.specs.Rows.{HasRow, with_row, with_rows}
use Rattle.waveform.specs.declared.field.Field.{Field}
use Rattle.waveform.specs.declared.sample.Sample.{Sample}
use Rattle.participant_tables.specs.WriteKept.{AreSamples, kept_of}

length-with_row : (n v : ℕ) (row values : List ℤ) → HasRow n values v → length row ≡ n → length (with_row n v row values) ≡ length values
length-with_row n v row values has is =
    let front : length (take (v * n) values) ≡ v * n = length-take-le (v * n) values (omega (arith, has)) in
    let back = length-drop n (drop (v * n) values) in
    let behind = length-drop (v * n) values in
    let middle = length-append row (drop n (drop (v * n) values)) in
    length-append (take (v * n) values) (row ++ drop n (drop (v * n) values)) ∙ omega (arith, front, back, behind, middle, has, is)

has-still : (n : ℕ) (old new : List ℤ) (vs : List ℕ) → length new ≡ length old → All (HasRow n old) vs → All (HasRow n new) vs
has-still n old new vs same has k d within = let was = has k d within in omega (arith, same, was)

pub length-with_rows : (n : ℕ) (vs : List ℕ) (rows values : List ℤ) → All (HasRow n values) vs → length rows ≡ length vs * n → length (with_rows n vs rows values) ≡ length values
unfolding with_rows
length-with_rows n [] rows values has is = refl
length-with_rows n (v ∷ vs) rows values has is =
    let many : length rows ≡ n + length vs * n = is ∙ omega (arith) in
    let first : length (take n rows) ≡ n = length-take-le n rows (omega (arith, many)) in
    let same : length (with_row n v (take n rows) values) ≡ length values = length-with_row n v (take n rows) values (All-head (HasRow n values) v vs has) first in
    let others : length (drop n rows) ≡ length vs * n = length-drop n rows ∙ omega (arith, many) in
    length-with_rows n vs (drop n rows) (with_row n v (take n rows) values) (has-still n values (with_row n v (take n rows) values) vs same (All-tail (HasRow n values) v vs has)) others
    ∙ same

-- samples fit another field of the same shape
pub still-samples : (data_id mesh : ℕ) (old new : Field) (samples : List Sample) → new.components ≡ old.components → length new.values ≡ length old.values
    → AreSamples (kept_of data_id mesh old samples) → AreSamples (kept_of data_id mesh new samples)
still-samples data_id mesh old new samples components len are = record {
  rising = are.rising;
  alike = λ k d within. let was = are.alike k d within in record { components = was.components ∙ sym components; len = was.len ∙ sym len };
  few = are.few;
}
