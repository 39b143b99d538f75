-- What stays of entries that are grown: their samples, and as many values as the mesh has vertices.
use Rattle.std.proofs.Common.{◌≡◌, ℕ, zero, suc, ◌+◌, ◌*◌, Bool, true, false, if◌then◌else◌, nat_eq, pos, List, [], ◌∷◌, ◌++◌, map, take, drop, replicate, length, All, refl, ap, sym, subst, ◌∙◌, arith}
use Rattle.std.proofs.lemmas.Bool.{false≢true, eq-eqb}
use Rattle.std.proofs.lemmas.List.{length-append, length-replicate, take-append-drop}
use Rattle.std.proofs.lemmas.List.Elements.{All-nil, All-cons, All-head, All-tail, All-take, All-append}
use Rattle.participant_tables.specs.WriteKept.{WriteKept}
use Rattle.participant_tables.specs.WriteSteps.{HaveVertices, HaveNoSamples, grown, sampled, shrunk, unsampled}
use Rattle.participant_tables.proofs.InPlace.{changed, changed-front, changed-rest}
use Rattle.participant_tables.proofs.Undone.{growth-undone, samples-undone}

abbrev HasVertices : (place vertices : ℕ) → WriteKept → Type 0
HasVertices place vertices e = e.mesh ≡ place → length e.values ≡ vertices * e.components

taller : (place before more : ℕ) (e : WriteKept) → HasVertices place before e → HasVertices place (before + more) (grown place more e)
taller place before more e has = of (nat_eq e.mesh place) refl
  where
    of : (b : Bool) → nat_eq e.mesh place ≡ b → HasVertices place (before + more) (if nat_eq e.mesh place then record e { values = e.values ++ replicate (more * e.components) (pos 0) } else e)
    of true is =
        subst (λ (b : Bool). HasVertices place (before + more) (if b then record e { values = e.values ++ replicate (more * e.components) (pos 0) } else e)) (sym is)
        (λ on. length-append e.values (replicate (more * e.components) (pos 0)) ∙ omega (arith, length-replicate (more * e.components) (pos 0), has on))
    of false is =
        subst (λ (b : Bool). HasVertices place (before + more) (if b then record e { values = e.values ++ replicate (more * e.components) (pos 0) } else e)) (sym is)
        (λ on. absurd (false≢true (sym is ∙ eq-eqb e.mesh place on)))

pub grown-vertices : (place before more : ℕ) (entries : List WriteKept) → HaveVertices place before entries → HaveVertices place (before + more) (map (grown place more) entries)
grown-vertices place before more [] has = All-nil (HasVertices place (before + more))
grown-vertices place before more (e ∷ entries) has =
    All-cons (HasVertices place (before + more)) (grown place more e) (map (grown place more) entries)
    (taller place before more e (All-head (HasVertices place before) e entries has))
    (grown-vertices place before more entries (All-tail (HasVertices place before) e entries has))

still-none : (place more : ℕ) (e : WriteKept) → (grown place more e).samples ≡ e.samples
still-none place more e = of (nat_eq e.mesh place)
  where
    of : (b : Bool) → (if b then record e { values = e.values ++ replicate (more * e.components) (pos 0) } else e).samples ≡ e.samples
    of true = refl
    of false = refl

grown-fresh : (place more : ℕ) (entries : List WriteKept) → HaveNoSamples entries → HaveNoSamples (map (grown place more) entries)
grown-fresh place more [] fresh = All-nil (λ (e : WriteKept). e.samples ≡ [])
grown-fresh place more (e ∷ entries) fresh =
    All-cons (λ (x : WriteKept). x.samples ≡ []) (grown place more e) (map (grown place more) entries)
    (still-none place more e ∙ All-head (λ (x : WriteKept). x.samples ≡ []) e entries fresh)
    (grown-fresh place more entries (All-tail (λ (x : WriteKept). x.samples ≡ []) e entries fresh))

All-drop : {X : Type 0} (P : X → Type 0) (n : ℕ) (xs : List X) → All P xs → All P (drop n xs)
All-drop P zero xs all = all
All-drop P (suc n) [] all = all
All-drop P (suc n) (x ∷ xs) all = All-drop P n xs (All-tail P x xs all)

module _ (place before more i : ℕ) (old items : List WriteKept) (is : items ≡ changed (grown place more) i old) where
  -- the first entries are grown
  pub front-vertices : HaveVertices place before old → HaveVertices place (before + more) (take i items)
  front-vertices has =
      subst (λ (xs : List WriteKept). HaveVertices place (before + more) xs) (sym (ap (take i) is ∙ changed-front (grown place more) i old))
      (grown-vertices place before more (take i old) (All-take (HasVertices place before) i old has))

  pub still-fresh : HaveNoSamples old → HaveNoSamples items
  still-fresh fresh =
      subst HaveNoSamples (sym is)
      (All-append (λ (e : WriteKept). e.samples ≡ []) (map (grown place more) (take i old)) (drop i old)
      (grown-fresh place more (take i old) (All-take (λ (e : WriteKept). e.samples ≡ []) i old fresh)) (All-drop (λ (e : WriteKept). e.samples ≡ []) i old fresh))

  -- and as before once they are shrunk
  pub shrunk-front : HaveVertices place before old → map (shrunk place before) (take i items) ++ drop i items ≡ old
  shrunk-front has =
      ap (λ (xs : List WriteKept). map (shrunk place before) (take i xs) ++ drop i xs) is
      ∙ (ap (λ (front : List WriteKept). map (shrunk place before) front ++ drop i (changed (grown place more) i old)) (changed-front (grown place more) i old)
      ∙ (ap (λ (rest : List WriteKept). map (shrunk place before) (map (grown place more) (take i old)) ++ rest) (changed-rest (grown place more) i old)
      ∙ (ap (λ (front : List WriteKept). front ++ drop i old) (growth-undone place before more (take i old) (All-take (HasVertices place before) i old has))
      ∙ take-append-drop i old)))

pub unsampled-front : (time i : ℕ) (old items : List WriteKept) → items ≡ changed (sampled time) i old → map unsampled (take i items) ++ drop i items ≡ old
unsampled-front time i old items is =
    ap (λ (xs : List WriteKept). map unsampled (take i xs) ++ drop i xs) is
    ∙ (ap (λ (front : List WriteKept). map unsampled front ++ drop i (changed (sampled time) i old)) (changed-front (sampled time) i old)
    ∙ (ap (λ (rest : List WriteKept). map unsampled (map (sampled time) (take i old)) ++ rest) (changed-rest (sampled time) i old)
    ∙ (ap (λ (front : List WriteKept). front ++ drop i old) (samples-undone time (take i old))
    ∙ take-append-drop i old)))
