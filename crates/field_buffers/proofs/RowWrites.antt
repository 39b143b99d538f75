-- Rows that are written one after another: one more of them.
use Rattle.std.proofs.Common.{◌≡◌, ℕ, ◌+◌, ◌*◌, ◌<◌, ◌≤◌, List, [], ◌∷◌, ◌++◌, take, drop, length, get_or, ℤ, arith, refl, sym, ap, ◌∙◌}
use borrow.Rule.Slice.PartMut.{put_mid}
use Rattle.std.proofs.lemmas.List.{drop_more, drop_all, drop-drop}
use Rattle.field_buffers.specs.Rows.{with_row, with_rows}

-- a write of the row at a vertex
put_row : (n v k : ℕ) (values row : List ℤ) → k ≡ n → put_mid (v * n) k values row ≡ with_row n v row values
put_row n v k values row size = ap (λ m. take (v * n) values ++ (row ++ drop m (drop (v * n) values))) size

rest_of : (n i : ℕ) (rows : List ℤ) → drop n (drop (i * n) rows) ≡ drop ((i + 1) * n) rows
rest_of n i rows = drop-drop n (i * n) rows ∙ ap (λ m. drop m rows) (omega arith)

step : (n v : ℕ) (vs : List ℕ) (rows values : List ℤ) → with_rows n (v ∷ vs) rows values ≡ with_rows n vs (drop n rows) (with_row n v (take n rows) values)
unfolding with_rows
step n v vs rows values = refl

none : (n : ℕ) (rows values : List ℤ) → with_rows n [] rows values ≡ values
unfolding with_rows
none n rows values = refl

-- after one more row, what is left makes of the values what was made before
pub with_rows-next : (n i k m : ℕ) (vs : List ℕ) (rows values row : List ℤ) → i < length vs → k ≡ n → m ≡ n → row ≡ take m (drop (i * n) rows)
    → with_rows n (drop (i + 1) vs) (drop ((i + 1) * n) rows) (put_mid (get_or vs i 0 * n) k values row)
    ≡ with_rows n (drop i vs) (drop (i * n) rows) values
with_rows-next n i k m vs rows values row inside size same is =
    let written : put_mid (get_or vs i 0 * n) k values row ≡ with_row n (get_or vs i 0) (take n (drop (i * n) rows)) values =
    put_row n (get_or vs i 0) k values row size
    ∙ ap (λ r. with_row n (get_or vs i 0) r values) (is ∙ ap (λ l. take l (drop (i * n) rows)) same) in
    ap (λ xs. with_rows n (drop (i + 1) vs) (drop ((i + 1) * n) rows) xs) written
    ∙ ap (λ rest. with_rows n (drop (i + 1) vs) rest (with_row n (get_or vs i 0) (take n (drop (i * n) rows)) values)) (sym (rest_of n i rows))
    ∙ sym (step n (get_or vs i 0) (drop (i + 1) vs) (drop (i * n) rows) values)
    ∙ sym (ap (λ list. with_rows n list (drop (i * n) rows) values) (drop_more vs i 0 inside))

pub with_rows-none : (n i : ℕ) (vs : List ℕ) (rows values : List ℤ) → length vs ≤ i → with_rows n (drop i vs) rows values ≡ values
with_rows-none n i vs rows values past = ap (λ list. with_rows n list rows values) (drop_all i vs past) ∙ none n rows values
