-- Rows in the order of their watch-points, and one more that is put among them.
use Rattle.std.proofs.Common.{◌≡◌, ℕ, zero, suc, ◌+◌, ◌<◌, ◌≤◌, Bool, true, false, cond, nat_eq, List, [], ◌∷◌, ◌++◌, length, get_or, take, drop, All, refl, ap, ap₂, sym, ◌∙◌, arith, subst, drop-cons, append_assoc, append-nil, add-one}
use Rattle.std.specs.Prelude.{flat_map}
use Rattle.std.specs.List.{range_with_len}
use Rattle.std.proofs.lemmas.Bool.{eqb-true}
use Rattle.std.proofs.lemmas.Bool.Decides.{nat_tests}
use Rattle.std.proofs.lemmas.List.Elements.{All-cons, All-append, All-nil, All-weaker, filter-append}
use Rattle.cpl_plan.specs.declared.words.WatchRow.{WatchRow}
use Rattle.call_parts.specs.RowsKept.{AreOf, Rising, rows_at}

All_tail : {X : Type 0} (P : X → Type 0) (x : X) (xs : List X) → All P (x ∷ xs) → All P xs
All_tail P x xs all = λ k d inside. all (suc k) d (omega (arith, inside))

All_head : {X : Type 0} (P : X → Type 0) (x : X) (xs : List X) → All P (x ∷ xs) → P x
All_head P x xs all = all 0 x (omega arith)

is_not : (a b : ℕ) → a < b → nat_eq b a ≡ false
is_not a b less = grind (arith, nat_tests)

is_not_above : (a b : ℕ) → a < b → nat_eq a b ≡ false
is_not_above a b less = grind (arith, nat_tests)

-- a row first, by the test of its number
first_if : (b : Bool) (row : WatchRow) (rows : List WatchRow) → List WatchRow
first_if b row rows = cond b (row ∷ rows) rows

-- no row of a watch-point before all of them
none_at : (watch : ℕ) (rows : List WatchRow) → All (λ row. watch < row.watch) rows → rows_at watch rows ≡ []
none_at watch [] later = refl
none_at watch (row ∷ rows) later =
    ap (λ b. cond b (row ∷ rows_at watch rows) (rows_at watch rows)) (is_not watch row.watch (All_head (λ r. watch < r.watch) row rows later))
    ∙ none_at watch rows (All_tail (λ r. watch < r.watch) row rows later)

-- the rows of some watch-points, from one on
abbrev by_watch_from : (from count : ℕ) → List WatchRow → List WatchRow
by_watch_from from count rows = flat_map (λ watch. rows_at watch rows) (range_with_len from count)

-- those from a later one on are without this row
without : (from count : ℕ) (row : WatchRow) (rows : List WatchRow) → row.watch < from → by_watch_from from count (row ∷ rows) ≡ by_watch_from from count rows
without from zero row rows before = refl
without from (suc count) row rows before =
    ap₂ (λ (b : Bool) (later : List WatchRow). cond b (row ∷ rows_at from rows) (rows_at from rows) ++ later)
    (is_not_above row.watch from before) (without (from + 1) count row rows (omega (arith, before)))

-- a row that is not behind any of the others comes first
first : (from count : ℕ) (row : WatchRow) (rows : List WatchRow) → from ≤ row.watch → row.watch < from + count
    → All (λ later. row.watch ≤ later.watch) rows → by_watch_from from count (row ∷ rows) ≡ row ∷ by_watch_from from count rows
first from zero row rows low high least = absurd (omega (arith, low, high))
first from (suc count) row rows low high least =
    by (nat_eq row.watch from) refl (λ apart. first (from + 1) count row rows (omega (arith, apart)) (omega (arith, high)) least)
  where
    by : (b : Bool) → nat_eq row.watch from ≡ b → (from < row.watch → by_watch_from (from + 1) count (row ∷ rows) ≡ row ∷ by_watch_from (from + 1) count rows)
        → by_watch_from from (suc count) (row ∷ rows) ≡ row ∷ by_watch_from from (suc count) rows
    by true is after =
        let same : row.watch ≡ from = eqb-true row.watch from is in
        ap₂ (λ (b : Bool) (later : List WatchRow). cond b (row ∷ rows_at from rows) (rows_at from rows) ++ later)
        is (without (from + 1) count row rows (omega (arith, same)))
    by false off after =
        let apart : from < row.watch = grind (arith, nat_tests) in
        let none : rows_at from rows ≡ [] = none_at from rows (All-weaker (λ later. row.watch ≤ later.watch) (λ later. from < later.watch) (λ later more. omega (arith, more, apart)) rows least) in
        ap₂ (λ (b : Bool) (later : List WatchRow). cond b (row ∷ rows_at from rows) (rows_at from rows) ++ later) off (after apart)
        ∙ ap (λ (none : List WatchRow). none ++ row ∷ by_watch_from (from + 1) count rows) none
        ∙ ap (λ (none : List WatchRow). row ∷ none ++ by_watch_from (from + 1) count rows) (sym none)

no_rows : (from count : ℕ) → by_watch_from from count [] ≡ []
no_rows from zero = refl
no_rows from (suc count) = no_rows (from + 1) count

-- rows in order stand by watch-point
pub in_order : (count : ℕ) (rows : List WatchRow) → Rising rows → AreOf count rows → by_watch_from 0 count rows ≡ rows
in_order count [] rising there = no_rows 0 count
in_order count (row ∷ rows) rising there =
    first 0 count row rows (omega arith) (let high : row.watch < count = All_head (λ r. r.watch < count) row rows there in omega (arith, high)) rising.0
    ∙ ap (λ (later : List WatchRow). row ∷ later) (in_order count rows rising.1 (All_tail (λ r. r.watch < count) row rows there))

-- the same rows of each watch-point, by watch-point
same_from : (from count : ℕ) (one other : List WatchRow) → ((watch : ℕ) → rows_at watch one ≡ rows_at watch other)
    → by_watch_from from count one ≡ by_watch_from from count other
same_from from zero one other same = refl
same_from from (suc count) one other same = ap₂ (λ (now later : List WatchRow). now ++ later) (same from) (same_from (from + 1) count one other same)

pub put_by_watch : (count : ℕ) (rows all : List WatchRow) → Rising rows → AreOf count rows → ((watch : ℕ) → rows_at watch rows ≡ rows_at watch all)
    → rows ≡ by_watch_from 0 count all
put_by_watch count rows all rising there same = sym (in_order count rows rising there) ∙ same_from 0 count rows all same

-- a row between those that are not behind it and those that are
module _ (row : WatchRow) where
  among : (before behind : List WatchRow) (P : WatchRow → Type 0) → All P (before ++ behind) → P row → All P (before ++ row ∷ behind)
  among [] behind P all one = All-cons P row behind one all
  among (x ∷ before) behind P all one = All-cons P x (before ++ row ∷ behind) (All_head P x (before ++ behind) all) (among before behind P (All_tail P x (before ++ behind) all) one)

  pub rising_with : (before behind : List WatchRow) → Rising (before ++ behind) → All (λ r. r.watch ≤ row.watch) before → All (λ r. row.watch < r.watch) behind
      → Rising (before ++ row ∷ behind)
  rising_with [] behind rising least most = (All-weaker (λ r. row.watch < r.watch) (λ r. row.watch ≤ r.watch) (λ r more. omega (arith, more)) behind most, rising)
  rising_with (x ∷ before) behind rising least most = (
    among before behind (λ later. x.watch ≤ later.watch) rising.0 (All_head (λ r. r.watch ≤ row.watch) x before least),
    rising_with before behind rising.1 (All_tail (λ r. r.watch ≤ row.watch) x before least) most,
  )

  last_of : (watch : ℕ) (behind : List WatchRow) → All (λ r. row.watch < r.watch) behind → rows_at watch (row ∷ behind) ≡ rows_at watch (behind ++ row ∷ [])
  last_of watch behind most = by (nat_eq row.watch watch) refl
    where
      by : (b : Bool) → nat_eq row.watch watch ≡ b → rows_at watch (row ∷ behind) ≡ rows_at watch (behind ++ row ∷ [])
      by true is =
          let same : row.watch ≡ watch = eqb-true row.watch watch is in
          let none : rows_at watch behind ≡ [] = none_at watch behind (All-weaker (λ r. row.watch < r.watch) (λ r. watch < r.watch) (λ r more. omega (arith, more, same)) behind most) in
          ap₂ (λ (b : Bool) (later : List WatchRow). cond b (row ∷ later) later) is none
          ∙ sym (filter-append (λ r. nat_eq r.watch watch) behind (row ∷ []) ∙ ap₂ (λ (b : Bool) (later : List WatchRow). later ++ cond b (row ∷ []) []) is none)
      by false off =
          ap (λ (b : Bool). cond b (row ∷ rows_at watch behind) (rows_at watch behind)) off
          ∙ sym (filter-append (λ r. nat_eq r.watch watch) behind (row ∷ []) ∙ ap (λ (b : Bool). rows_at watch behind ++ cond b (row ∷ []) []) off ∙ append-nil (rows_at watch behind))

  pub put_at : (watch : ℕ) (before behind : List WatchRow) → All (λ r. row.watch < r.watch) behind
      → rows_at watch (before ++ row ∷ behind) ≡ rows_at watch ((before ++ behind) ++ row ∷ [])
  put_at watch before behind most =
      filter-append (λ r. nat_eq r.watch watch) before (row ∷ behind)
      ∙ ap (λ (later : List WatchRow). rows_at watch before ++ later) (last_of watch behind most)
      ∙ sym (filter-append (λ r. nat_eq r.watch watch) before (behind ++ row ∷ []))
      ∙ ap (rows_at watch) (sym (append_assoc before behind (row ∷ [])))

  pub there_with : (count : ℕ) (before behind : List WatchRow) → AreOf count (before ++ behind) → row.watch < count → AreOf count (before ++ row ∷ behind)
  there_with count before behind there one = among before behind (λ r. r.watch < count) there one

-- all rows up to a place are of watch-points up to the one there
pub before_place : (rows : List WatchRow) (place : ℕ) (watch : ℕ) (d : WatchRow) → Rising rows → place < length rows → (get_or rows place d).watch ≤ watch
    → All (λ row. row.watch ≤ watch) (take (suc place) rows)
before_place [] place watch d rising inside low = absurd (omega (arith, inside))
before_place (row ∷ rows) zero watch d rising inside low = All-cons (λ r. r.watch ≤ watch) row [] low (All-nil (λ r. r.watch ≤ watch))
before_place (row ∷ rows) (suc place) watch d rising inside low =
    All-cons (λ r. r.watch ≤ watch) row (take (suc place) rows) (omega (arith, low, rising.0 place d (omega (arith, inside))))
    (before_place rows place watch d rising.1 (omega (arith, inside)) low)

-- and all behind it, one more of which is of a later one
pub behind_place : (rows : List WatchRow) (place next : ℕ) (watch : ℕ) (d : WatchRow) → place + 1 ≡ next → place < length rows → watch < (get_or rows place d).watch
    → All (λ row. watch < row.watch) (drop next rows) → All (λ row. watch < row.watch) (drop place rows)
behind_place rows place next watch d is inside high later =
    let after : All (λ row. watch < row.watch) (drop (suc place) rows) = subst (λ n. All (λ row. watch < row.watch) (drop n rows)) (sym is ∙ add-one place) later in
    subst (λ (xs : List WatchRow). All (λ row. watch < row.watch) xs) (sym (drop-cons rows place d inside))
    (All-cons (λ row. watch < row.watch) (get_or rows place d) (drop (suc place) rows) high after)

split_all : {X : Type 0} (P : X → Type 0) (xs ys : List X) → All P (xs ++ ys) → All P xs × All P ys
split_all P [] ys all = (All-nil P, all)
split_all P (x ∷ xs) ys all =
    let rest : All P xs × All P ys = split_all P xs ys (All_tail P x (xs ++ ys) all) in
    (All-cons P x xs (All_head P x (xs ++ ys) all) rest.0, rest.1)

-- some rows are put among others, and the rest are left
pub record AreSoFar (old new now rest : List WatchRow) : Type 0 where
  pub rising : Rising now
  pub rows : (watch : ℕ) → rows_at watch (now ++ rest) ≡ rows_at watch (old ++ new)
  pub there : (count : ℕ) → AreOf count old → AreOf count new → AreOf count (now ++ rest)

pub none_so_far : (old new : List WatchRow) → Rising old → AreSoFar old new old new
none_so_far old new rising = record { rising = rising; rows = λ watch. refl; there = λ count are more. All-append (λ r. r.watch < count) old new are more }

module _ (old new now : List WatchRow) where
  pub one_so_far : (rest : List WatchRow) (row : WatchRow) (more next : List WatchRow) → AreSoFar old new now rest → rest ≡ row ∷ more → Rising next
      → ((watch : ℕ) → rows_at watch next ≡ rows_at watch (now ++ row ∷ []))
      → ((count : ℕ) → AreOf count now → row.watch < count → AreOf count next) → AreSoFar old new next more
  one_so_far rest row more next is left rising put there = record {
    rising = rising;
    rows = λ watch.
        filter-append (λ r. nat_eq r.watch watch) next more
        ∙ ap (λ (rows : List WatchRow). rows ++ rows_at watch more) (put watch)
        ∙ sym (filter-append (λ r. nat_eq r.watch watch) (now ++ row ∷ []) more)
        ∙ ap (rows_at watch) (append_assoc now (row ∷ []) more ∙ ap (λ (xs : List WatchRow). now ++ xs) (sym left))
        ∙ is.rows watch;
    there = λ count are others.
        let all : AreOf count (now ++ row ∷ more) = subst (λ (xs : List WatchRow). AreOf count (now ++ xs)) left (is.there count are others) in
        let parts : AreOf count now × AreOf count (row ∷ more) = split_all (λ r. r.watch < count) now (row ∷ more) all in
        All-append (λ r. r.watch < count) next more
        (there count parts.0 (All_head (λ r. r.watch < count) row more parts.1)) (All_tail (λ r. r.watch < count) row more parts.1);
  }

  pub all_so_far : (rest : List WatchRow) → AreSoFar old new now rest → length rest ≡ 0 → AreSoFar old new now []
  all_so_far [] is none = is
  all_so_far (row ∷ rest) is none = absurd (omega (arith, none))
