-- A wave that is mapped sample by sample keeps its times, and fits with as many values as the mesh has that it is mapped to.
use Rattle.std.proofs.Common.{◌≡◌, inl, inr, ℕ, zero, suc, ◌-◌, ◌*◌, ◌<◌, ◌≤◌, List, [], ◌∷◌, length, get_or, map, Some, Result, Ok, Err, refl, ap, sym, subst, ◌∙◌, arith}
use Rattle.std.proofs.lemmas.List.{get_or-map}
use Rattle.cpl_plan.specs.declared.parts.MapPlan.{MapPlan}
use Rattle.waveform.specs.declared.field.Field.{Field}
use Rattle.waveform.specs.declared.sample.Sample.{Sample}
use Rattle.waveform.specs.IsWave.{first_time, last_time}
use Rattle.waveform.proofs.Places.{no_sample}
use Rattle.wave_coupling.specs.Posts.{Wave}
use Rattle.wave_coupling.specs.Mapped.{OutOfRange, Points, mapped_by, with_field, before_all, all_or_first, mapped_wave}
use Rattle.wave_laws.specs.Fitting.{AreSamplesOf, IsInitialWave, IsPostedWave, IsInputWave, IsFieldOf}
use Rattle.wave_laws.proofs.MappedFits.{field_mapped}

-- each of some results is there
pub record IsEach {X Y E : Type 0} (f : X → Result Y E) (xs : List X) (ys : List Y) : Type 0 where
  pub many : length ys ≡ length xs
  pub each : (k : ℕ) (d : X) (e : Y) → k < length xs → f (get_or xs k d) ≡ Ok (get_or ys k e)

each_more : {X Y E : Type 0} (f : X → Result Y E) (x : X) (xs : List X) (y : Y) (ys : List Y) → f x ≡ Ok y → IsEach f xs ys → IsEach f (x ∷ xs) (y ∷ ys)
each_more {X} {Y} f x xs y ys one is = record { many = omega (arith, is.many); each = at }
  where
    at : (k : ℕ) (d : X) (e : Y) → k < length (x ∷ xs) → f (get_or (x ∷ xs) k d) ≡ Ok (get_or (y ∷ ys) k e)
    at zero d e within = one
    at (suc k) d e within = is.each k d e (omega (arith, within))

-- where all are there each is
pub each_made : {X Y E : Type 0} (f : X → Result Y E) (xs : List X) (ys : List Y) → all_or_first (map f xs) ≡ Ok ys → IsEach f xs ys
each_made f [] ys is = let same : [] ≡ ys = cc in subst (λ zs. IsEach f [] zs) same (record { many = refl; each = λ k d e within. absurd (omega (arith, within)) })
each_made {X} {Y} {E} f (x ∷ xs) ys is = by (f x) refl (all_or_first (map f xs)) refl is (λ zs made. each_made f xs zs made)
  where
    by : (one : Result Y E) → f x ≡ one → (rest : Result (List Y) E) → all_or_first (map f xs) ≡ rest → before_all one rest ≡ Ok ys
        → ((zs : List Y) → all_or_first (map f xs) ≡ Ok zs → IsEach f xs zs) → IsEach f (x ∷ xs) ys
    by (Ok y) one (Ok zs) more e further = let same : y ∷ zs ≡ ys = cc in subst (λ (all : List Y). IsEach f (x ∷ xs) all) same (each_more f x xs y zs one (further zs more))
    by (Ok y) one (Err g) more e further = cc
    by (Err g) one rest more e further = cc

ok_same : (result : Result Sample OutOfRange) (a b : Sample) → result ≡ Ok a → result ≡ Ok b → a ≡ b
ok_same result a b one other = cc

never_ok : (result : Result Sample OutOfRange) (a : OutOfRange) (b : Sample) → result ≡ Err a → result ≡ Ok b → ⊥
never_ok result a b one other = cc

-- a sample with a mapped field
with_made : (time : ℕ) (result : Result Field (ℕ × ℕ)) (out : Sample) → with_field time result ≡ Ok out → (field : Field) × (result ≡ Ok field) × (out.time ≡ time) × (out.field ≡ field)
with_made time (Ok field) out is =
    let same = ok_same (with_field time (Ok field)) (record { time = time; field = field }) out refl is in
    (field, refl, sym (ap (λ (s : Sample). s.time) same), sym (ap (λ (s : Sample). s.field) same))
with_made time (Err place) out is =
    absurd (never_ok (with_field time (Err place)) (record { time = time; vertex = place.0; component = place.1 }) out refl is)

-- a wave has the times of another, and samples of so many values
pub record Follows (components count : ℕ) (wave out : Wave) : Type 0 where
  pub many : length out ≡ length wave
  pub time : (k : ℕ) (d e : Sample) → k < length wave → (get_or out k e).time ≡ (get_or wave k d).time
  pub samples : AreSamplesOf components count out

module _ (components count : ℕ) (wave out : Wave) (follows : Follows components count wave out) where
  same_first : 1 ≤ length wave → first_time out ≡ first_time wave
  same_first least =
      get_or-map (λ (s : Sample). s.time) out 0 no_sample 0 (omega (arith, least, follows.many)) ∙ follows.time 0 no_sample no_sample least
      ∙ sym (get_or-map (λ (s : Sample). s.time) wave 0 no_sample 0 least)

  same_last : 1 ≤ length wave → last_time out ≡ last_time wave
  same_last least =
      let place : length out - 1 ≡ length wave - 1 = omega (arith, follows.many) in
      let within : length wave - 1 < length wave = omega (arith, least) in
      get_or-map (λ (s : Sample). s.time) out (length out - 1) no_sample 0 (omega (arith, least, follows.many))
      ∙ ap (λ (k : ℕ). (get_or out k no_sample).time) place ∙ follows.time (length wave - 1) no_sample no_sample within
      ∙ sym (get_or-map (λ (s : Sample). s.time) wave (length wave - 1) no_sample 0 within)

  pub posted_follows : (start end n : ℕ) → IsPostedWave start end components n wave → IsPostedWave start end components count out
  posted_follows start end n is = record {
    least = omega (arith, is.least, follows.many);
    most = omega (arith, is.most, follows.many);
    rising = λ i j d less within.
        let later : j < length wave = omega (arith, within, follows.many) in
        omega (arith, follows.time i d d (omega (arith, less, later)), follows.time j d d later, is.rising i j d less later);
    after_start = λ k d within. let inside : k < length wave = omega (arith, within, follows.many) in omega (arith, follows.time k d d inside, is.after_start k d inside);
    at_end = same_last is.least ∙ is.at_end;
    samples = follows.samples;
  }

  pub input_follows : (start end n : ℕ) → IsInputWave start end components n wave → IsInputWave start end components count out
  input_follows start end n is = record {
    least = omega (arith, is.least, follows.many);
    most = omega (arith, is.most, follows.many);
    rising = λ i j d less within.
        let later : j < length wave = omega (arith, within, follows.many) in
        omega (arith, follows.time i d d (omega (arith, less, later)), follows.time j d d later, is.rising i j d less later);
    at_start = same_first is.least ∙ is.at_start;
    at_end = elim is.at_end [ inl one ↦ inl (follows.many ∙ one) | inr last ↦ inr (same_last is.least ∙ last) ];
    samples = follows.samples;
  }

  pub initial_follows : (n : ℕ) → IsInitialWave components n wave → IsInitialWave components count out
  initial_follows n is = record { one = follows.many ∙ is.one; at_start = same_first (omega (arith, is.one)) ∙ is.at_start; samples = follows.samples }

-- a mapped wave follows the wave
pub wave_mapped : (m : MapPlan) (from to : Points) (components n : ℕ) (wave out : Wave) → AreSamplesOf components n wave → mapped_wave (Some m) from to wave ≡ Ok out
    → Follows components (components * length to) wave out
wave_mapped m from to components n wave out samples is =
    let all = each_made (λ (s : Sample). with_field s.time (mapped_by m from to s.field)) wave out is in
    record {
      many = all.many;
      time = λ k d e within.
          (with_made (get_or wave k d).time (mapped_by m from to (get_or wave k d).field) (get_or out k e) (all.each k d e within)).2;
      samples = λ k d within.
          let inside : k < length wave = omega (arith, within, all.many) in
          let own = samples k d inside in
          let made = with_made (get_or wave k d).time (mapped_by m from to (get_or wave k d).field) (get_or out k d) (all.each k d d inside) in
          let field : IsFieldOf components (components * length to) (get_or out k d).field =
          subst (λ (f : Field). IsFieldOf components (components * length to) f) (sym made.3)
          (field_mapped m from to components n (get_or wave k d).field made.0 (record { at_vertex = own.at_vertex; in_all = own.in_all; values = own.values }) made.1) in
          record { at_vertex = field.at_vertex; in_all = field.in_all; values = field.values };
    }
