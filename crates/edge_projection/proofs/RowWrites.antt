-- A list of rows of as many places each: what the write of one row leaves.
use Rattle.std.proofs.Common.{◌≡◌, ◌≢◌, ℕ, ◌+◌, ◌*◌, ◌<◌, ◌≤◌, List, ◌++◌, All, length, get_or, take, drop, inl, inr, arith, rules, ◌∙◌}
use borrow.Rule.Slice.PartMut.{put_mid, post_of}
use Rattle.std.proofs.lemmas.Bool.{cases_lt}
use Rattle.std.proofs.lemmas.List.{places, get_or-take, get_or-drop}
use Rattle.std.proofs.lemmas.List.Elements.{All-append, All-take, All-drop}
use Rattle.std.proofs.lemmas.Nat.{row_fits}

put_mid_inside : {X : Type 0} (a k i : ℕ) (xs ys : List X) (d : X) → a ≤ length xs → i < length ys → get_or (put_mid a k xs ys) (a + i) d ≡ get_or ys i d
put_mid_inside a k i xs ys d start inside = search (rules, places)

put_mid_before : {X : Type 0} (a k i : ℕ) (xs ys : List X) (d : X) → a ≤ length xs → i < a → get_or (put_mid a k xs ys) i d ≡ get_or xs i d
put_mid_before a k i xs ys d start before = search (rules, places)

put_mid_after : {X : Type 0} (a k i : ℕ) (xs ys : List X) (d : X) → a + k ≤ length xs → length ys ≡ k → a + k ≤ i → get_or (put_mid a k xs ys) i d ≡ get_or xs i d
put_mid_after a k i xs ys d start alike after = search (rules, places)

-- the row that is written
pub row_written : {X : Type 0} (w k row c : ℕ) (xs ys : List X) (d : X) → w * row + row ≤ length xs → length ys ≡ row → c < row
    → get_or (put_mid (w * row) k xs ys) (w * row + c) d ≡ get_or ys c d
row_written w k row c xs ys d inside alike column = put_mid_inside (w * row) k c xs ys d (omega arith) (omega arith)

-- each other row
pub row_kept : {X : Type 0} (v w k row c : ℕ) (xs ys : List X) (d : X) → k ≡ row → w * row + row ≤ length xs → length ys ≡ row → c < row → v ≢ w
    → get_or (put_mid (w * row) k xs ys) (v * row + c) d ≡ get_or xs (v * row + c) d
row_kept v w k row c xs ys d size inside alike column apart =
    elim (cases_lt v w) [
      | inl before ↦ put_mid_before (w * row) k (v * row + c) xs ys d (omega arith) (omega (arith, row_fits v row w row before (omega arith)))
      | inr after ↦ put_mid_after (w * row) k (v * row + c) xs ys d (omega arith) (omega arith) (omega (arith, row_fits w row v row (omega arith) (omega arith)))
    ]

-- a column of the row from a on
pub column_of : {X : Type 0} (a k row c : ℕ) (xs : List X) (d : X) → k ≡ row → c < row → get_or (take k (drop a xs)) c d ≡ get_or xs (a + c) d
column_of a k row c xs d size column = get_or-take k (drop a xs) c d (omega arith) ∙ get_or-drop a xs c d

-- what is true of each element, before the write and in what is written
pub put_mid-All : {X : Type 0} (P : X → Type 0) (a k : ℕ) (xs ys : List X) → All P xs → All P ys → All P (put_mid a k xs ys)
put_mid-All P a k xs ys old new = All-append P (take a xs) (ys ++ post_of a k xs) (All-take P a xs old) (All-append P ys (post_of a k xs) new (All-drop P k (drop a xs) (All-drop P a xs old)))
