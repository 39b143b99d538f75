-- Tables of which no two have one name: what is found by a name, and which table is found.
use Rattle.std.proofs.Common.{◌≡◌, ◌≢◌, ℕ, Bool, true, false, not, ◌&&◌, ◌||◌, cond, List, [], ◌∷◌, map, find, Option, Some, None, IfSome, All, refl, ap, sym, ◌∙◌}
use Rattle.std.proofs.lemmas.List.Elements.{All-nil, All-cons, All-head, All-tail}
use Rattle.std.proofs.lemmas.Slice.Eq.{bytes_eq-Decides}
use Rattle.std.specs.List.{list_any}
use Rattle.std.specs.Str.{bytes_eq}
use Rattle.cpl_tables.specs.Values.{are_distinct_texts}
use Rattle.mesh_rules.specs.OneTable.{IsOnly}

none_and : (a b : Bool) → (not a && b) ≡ true → (a ≡ false) × (b ≡ true)
none_and true b h = absurd (cc)
none_and false b h = (refl, h)

neither : (a b : Bool) → (a || b) ≡ false → (a ≡ false) × (b ≡ false)
neither true b h = absurd (cc)
neither false b h = (refl, h)

equal : (one other : List ℕ) → one ≡ other → bytes_eq one other ≡ true
equal one other h = (bytes_eq-Decides one other).1 h

-- where no text is the first one's, no table has its name
others : {T : Type 0} (name_of : T → List ℕ) (text name : List ℕ) → text ≡ name → (tables : List T) → list_any (bytes_eq text) (map name_of tables) ≡ false
    → All (λ other. name_of other ≢ name) tables
others {T} name_of text name same [] h = All-nil (λ (other : T). name_of other ≢ name)
others {T} name_of text name same (t ∷ ts) h =
    let parts : (bytes_eq text (name_of t) ≡ false) × (list_any (bytes_eq text) (map name_of ts) ≡ false) = neither (bytes_eq text (name_of t)) (list_any (bytes_eq text) (map name_of ts)) h in
    let apart : name_of t ≢ name = λ is. let met : bytes_eq text (name_of t) ≡ true = equal text (name_of t) (same ∙ sym is) in cc (parts.0, met) in
    All-cons (λ (other : T). name_of other ≢ name) t ts apart (others name_of text name same ts parts.1)

later : {T : Type 0} (name_of : T → List ℕ) (name : List ℕ) (t : T) (ts : List T) → bytes_eq (name_of t) name ≡ false → (found : Option T) → IfSome found (IsOnly name_of ts name)
    → IfSome found (IsOnly name_of (t ∷ ts) name)
later name_of name t ts apart None more = tt
later {T} name_of name t ts apart (Some u) more = record {
  before = t ∷ more.before;
  after = more.after;
  stands = ap (λ (us : List T). t ∷ us) more.stands;
  named = more.named;
  none_before = All-cons (λ (other : T). name_of other ≢ name) t more.before (λ is. let met : bytes_eq (name_of t) name ≡ true = equal (name_of t) name is in cc (apart, met)) more.none_before;
  none_after = more.none_after;
}

here_or_later : {T : Type 0} (name_of : T → List ℕ) (name : List ℕ) (t : T) (ts : List T) (b : Bool) → bytes_eq (name_of t) name ≡ b → list_any (bytes_eq (name_of t)) (map name_of ts) ≡ false → (found : Option T)
    → IfSome found (IsOnly name_of ts name) → IfSome (cond b (Some t) found) (IsOnly name_of (t ∷ ts) name)
here_or_later {T} name_of name t ts true is new found more =
    let same : name_of t ≡ name = (bytes_eq-Decides (name_of t) name).0 is in
    record {
      before = [];
      after = ts;
      stands = refl;
      named = same;
      none_before = All-nil (λ (other : T). name_of other ≢ name);
      none_after = others name_of (name_of t) name same ts new;
    }
here_or_later name_of name t ts false is new found more = later name_of name t ts is found more

-- the table that is found by a name is the only one that has it
pub found_is_only : {T : Type 0} (name_of : T → List ℕ) (name : List ℕ) (tables : List T) → are_distinct_texts (map name_of tables) ≡ true
    → IfSome (find (λ table. bytes_eq (name_of table) name) tables) (IsOnly name_of tables name)
found_is_only name_of name [] h = tt
found_is_only {T} name_of name (t ∷ ts) h =
    let parts : (list_any (bytes_eq (name_of t)) (map name_of ts) ≡ false) × (are_distinct_texts (map name_of ts) ≡ true) = none_and (list_any (bytes_eq (name_of t)) (map name_of ts)) (are_distinct_texts (map name_of ts)) h in
    here_or_later name_of name t ts (bytes_eq (name_of t) name) refl parts.0 (find (λ (table : T). bytes_eq (name_of table) name) ts) (found_is_only name_of name ts parts.1)

-- one table more before those that are looked through, of another name than these, changes nothing
still_found : {T : Type 0} (name_of : T → List ℕ) (t : T) (ts us : List T) → list_any (bytes_eq (name_of t)) (map name_of us) ≡ false → All (λ u. find (λ table. bytes_eq (name_of table) (name_of u)) ts ≡ Some u) us
    → All (λ u. find (λ table. bytes_eq (name_of table) (name_of u)) (t ∷ ts) ≡ Some u) us
still_found {T} name_of t ts [] new all = All-nil (λ (u : T). find (λ (table : T). bytes_eq (name_of table) (name_of u)) (t ∷ ts) ≡ Some u)
still_found {T} name_of t ts (u ∷ us) new all =
    let parts : (bytes_eq (name_of t) (name_of u) ≡ false) × (list_any (bytes_eq (name_of t)) (map name_of us) ≡ false) = neither (bytes_eq (name_of t) (name_of u)) (list_any (bytes_eq (name_of t)) (map name_of us)) new in
    let IsFound : T → Type 0 = λ v. find (λ (table : T). bytes_eq (name_of table) (name_of v)) ts ≡ Some v in
    let rest : Option T = find (λ (table : T). bytes_eq (name_of table) (name_of u)) ts in
    let here : cond (bytes_eq (name_of t) (name_of u)) (Some t) rest ≡ Some u = ap (λ b. cond b (Some t) rest) parts.0 ∙ All-head IsFound u us all in
    All-cons (λ (v : T). find (λ (table : T). bytes_eq (name_of table) (name_of v)) (t ∷ ts) ≡ Some v) u us here (still_found name_of t ts us parts.1 (All-tail IsFound u us all))

-- each table is found by its name
pub each_is_found : {T : Type 0} (name_of : T → List ℕ) (tables : List T) → are_distinct_texts (map name_of tables) ≡ true
    → All (λ u. find (λ table. bytes_eq (name_of table) (name_of u)) tables ≡ Some u) tables
each_is_found {T} name_of [] h = All-nil (λ (u : T). find (λ (table : T). bytes_eq (name_of table) (name_of u)) [] ≡ Some u)
each_is_found {T} name_of (t ∷ ts) h =
    let parts : (list_any (bytes_eq (name_of t)) (map name_of ts) ≡ false) × (are_distinct_texts (map name_of ts) ≡ true) = none_and (list_any (bytes_eq (name_of t)) (map name_of ts)) (are_distinct_texts (map name_of ts)) h in
    let rest : Option T = find (λ (table : T). bytes_eq (name_of table) (name_of t)) ts in
    let here : cond (bytes_eq (name_of t) (name_of t)) (Some t) rest ≡ Some t = ap (λ b. cond b (Some t) rest) (equal (name_of t) (name_of t) refl) in
    All-cons (λ (u : T). find (λ (table : T). bytes_eq (name_of table) (name_of u)) (t ∷ ts) ≡ Some u) t ts here (still_found name_of t ts ts parts.0 (each_is_found name_of ts parts.1))
