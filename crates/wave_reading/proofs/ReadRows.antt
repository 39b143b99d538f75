-- Rows that are read one after another: one more of them.
use Rattle.std.proofs.Common.{◌≡◌, ℕ, ◌+◌, ◌*◌, ◌<◌, ◌≤◌, List, [], ◌∷◌, ◌++◌, take, drop, length, get_or, ℤ, arith, sym, ap, ◌∙◌}
use borrow.Rule.Slice.PartMut.{put_mid, post_of}
use Rattle.std.proofs.lemmas.List.{take_more, take_at, append_assoc, append-nil, length-append, length-take-le}
use Rattle.std.proofs.lemmas.Grind.{flat_map-append}
use Rattle.std.proofs.lemmas.Nat.{row_fits}
use Rattle.field_buffers.specs.Rows.{row_of, rows_of}

rows_more : (n i : ℕ) (vs : List ℕ) (values : List ℤ) → i < length vs → rows_of n (take (i + 1) vs) values ≡ rows_of n (take i vs) values ++ row_of n (get_or vs i 0) values
rows_more n i vs values inside =
    ap (λ list. rows_of n list values) (take_more vs i 0 inside)
    ∙ flat_map-append (λ v. row_of n v values) (take i vs) (get_or vs i 0 ∷ [])
    ∙ ap (λ row. rows_of n (take i vs) values ++ row) (append-nil (row_of n (get_or vs i 0) values))

-- the rows after one more is read into its place
pub read_more : (n i k m : ℕ) (vs : List ℕ) (values placed out row : List ℤ) → i < length vs → length out ≡ length vs * n → length row ≡ n → m ≡ n → values ≡ placed
    → row ≡ take m (drop (get_or vs i 0 * n) placed) → take (i * n) out ≡ rows_of n (take i vs) values
    → take ((i + 1) * n) (put_mid (i * n) k out row) ≡ rows_of n (take (i + 1) vs) values
read_more n i k m vs values placed out row inside size width same at is before =
    let fits : i * n + n ≤ length vs * n = row_fits i n (length vs) n inside (omega arith) in
    let long : length (take (i * n) out ++ row) ≡ (i + 1) * n =
    length-append (take (i * n) out) row ∙ omega (arith, length-take-le (i * n) out (omega (arith, size, fits)), width) in
    ap (take ((i + 1) * n)) (sym (append_assoc (take (i * n) out) row (post_of (i * n) k out)))
    ∙ take_at (take (i * n) out ++ row) (post_of (i * n) k out) ((i + 1) * n) long
    ∙ ap (λ rows. rows ++ row) before
    ∙ ap (λ one. rows_of n (take i vs) values ++ one) (is ∙ ap (λ l. take l (drop (get_or vs i 0 * n) placed)) same ∙ ap (row_of n (get_or vs i 0)) (sym at))
    ∙ sym (rows_more n i vs values inside)
