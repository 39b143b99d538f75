-- What was posted in a window can follow what was accepted for the window before.
use Rattle.std.proofs.Common.{◌≡◌, ℕ, zero, suc, ◌-◌, ◌<◌, ◌≤◌, List, [], ◌∷◌, length, get_or, map, Option, Some, None, IsSome, All, option_map, refl, ap, sym, subst, ◌∙◌, arith}
use Rattle.std.specs.Prelude.{slice_get}
use Rattle.std.proofs.lemmas.List.{get_or-map, length-map}
use Rattle.std.specs.Option.{option_and_then}
use Rattle.std.proofs.lemmas.Option.{none-some, same_Some, slice_get_within, get_or_from_slice_get}
use Rattle.waveform.specs.IsWave.{first_time}
use Rattle.waveform.specs.Shape.{IsLike}
use Rattle.waveform.specs.declared.field.Field.{Field}
use Rattle.waveform.specs.declared.sample.Sample.{Sample}
use Rattle.cpl_plan.specs.PlanWords.{components_of}
use Rattle.cpl_plan.specs.declared.parts.PlanParts.{PlanParts}
use Rattle.cpl_plan.specs.declared.parts.Exchange.{Exchange}
use Rattle.cpl_plan.specs.declared.words.Item.TheVariants.{Completed}
use Rattle.coupled_loop.specs.Given.{Gift, Look}
use Rattle.sample_store.specs.Ends.{end_sample}
use Rattle.sample_store.specs.Kept.{Kept}
use Rattle.sample_store.specs.StandsFor.{StandsFor}
use Rattle.wave_coupling.specs.Posts.{Wave, Post, newest_sample}
use Rattle.wave_coupling.specs.InputWave.{sent_as, completed}
use Rattle.wave_laws.specs.Fitting.{IsSampleOf, AreSamplesOf, IsPostedWave, IsFittingLook, count_of}
use Rattle.group_course.specs.CourseTells.{outline}
use Rattle.group_course.specs.StoresTell.{StoreTells, gift_of}
use Rattle.core_takes.specs.Readable.{CanFollow}

sample_at : (components count : ℕ) (wave : Wave) (i : ℕ) (s : Sample) → AreSamplesOf components count wave → slice_get wave i ≡ Some s → IsSampleOf components count s
sample_at components count wave i s all is =
    subst (λ (z : Sample). IsSampleOf components count z) (get_or_from_slice_get wave i s s is) (all i s (slice_get_within wave i s is))

after_first : (start : ℕ) (wave : Wave) → 1 ≤ length wave → All (λ (s : Sample). start < s.time) wave → start < first_time wave
after_first start [] some after = absurd (omega (arith, some))
after_first start (s ∷ wave) some after = after 0 s (omega (arith, some))

-- a wave of the same shape after it
pub posted_follows : (start end components count : ℕ) (before samples : Wave)
    → ((newest : Sample) → newest_sample before ≡ Some newest → IsSampleOf components count newest)
    → IsPostedWave start end components count samples → CanFollow start before samples
posted_follows start end components count before samples shaped fits = record {
  later = after_first start samples fits.least fits.after_start;
  alike = λ newest is. λ j d inside. record {
    components = (shaped newest is).at_vertex ∙ sym (fits.samples j d inside).at_vertex;
    len = (shaped newest is).in_all ∙ sym (fits.samples j d inside).in_all;
  };
  few = omega (arith, fits.most);
}

-- what was accepted for a window has the exchange's shape
pub end_shaped : (plan : PlanParts) (vertices : ℕ → ℕ) (look : Look Post) (x v : ℕ) (e : Exchange) → IsFittingLook plan vertices look → slice_get plan.exchanges x ≡ Some e
    → IsSome (look e.from (Completed v)) → (newest : Sample) → newest_sample (completed plan look e x v).wave ≡ Some newest
    → IsSampleOf (components_of plan e) (count_of plan vertices e) newest
end_shaped plan vertices look x zero e fits at given newest is =
    sample_at (components_of plan e) (count_of plan vertices e) (completed plan look e x zero).wave (length (completed plan look e x zero).wave - 1) newest (fits.initial x e at given).samples is
end_shaped plan vertices look x (suc v) e fits at given newest is =
    sample_at (components_of plan e) (count_of plan vertices e) (completed plan look e x (suc v)).wave (length (completed plan look e x (suc v)).wave - 1) newest
    (fits.accepted x (suc v) e at (omega arith) given).samples is

-- waves of one outline begin at one time, and have as many samples, which are alike
abbrev Line : Type 0
Line = ℕ × (ℕ × ℕ)

abbrev line : Sample → Line
line s = (s.time, (s.field.components, length s.field.values))

first_of_outline : (wave : Wave) → first_time wave ≡ get_or (map (λ (l : Line). l.0) (outline wave)) 0 0
first_of_outline [] = refl
first_of_outline (s ∷ wave) = refl

module _ (a b : Wave) (same : outline b ≡ outline a) where
  lengths_same : length b ≡ length a
  lengths_same = sym (length-map b line) ∙ ap (λ (ls : List Line). length ls) same ∙ length-map a line

  line_same : (j : ℕ) (d : Sample) → j < length b → line (get_or b j d) ≡ line (get_or a j d)
  line_same j d inside =
      sym (get_or-map line b j d (line d) inside) ∙ ap (λ (ls : List Line). get_or ls j (line d)) same
      ∙ get_or-map line a j d (line d) (omega (arith, inside, lengths_same))

  pub follow_as : (start : ℕ) (before : Wave) → CanFollow start before a → CanFollow start before b
  follow_as start before can = record {
    later = let first : first_time b ≡ first_time a = first_of_outline b ∙ ap (λ (ls : List Line). get_or (map (λ (l : Line). l.0) ls) 0 0) same ∙ sym (first_of_outline a) in
        omega (arith, first, can.later);
    alike = λ newest is. λ j d inside.
        let own = can.alike newest is j d (omega (arith, inside, lengths_same)) in record {
          components = own.components ∙ ap (λ (l : Line). l.1.0) (sym (line_same j d inside));
          len = own.len ∙ ap (λ (l : Line). l.1.1) (sym (line_same j d inside));
        };
    few = omega (arith, can.few, lengths_same);
  }

-- the end of the window before is alike, by what the store answers
end_by : (plan : PlanParts) (look : Look Post) (x : ℕ) (e : Exchange) (o : Option (Gift Post)) (field : Field) → option_map (λ s. s.field) (option_and_then (λ g. newest_sample g.post) (option_map (gift_of plan e x) o)) ≡ Some field
    → option_map (λ s. s.field) (newest_sample (sent_as plan look e x o).wave) ≡ Some field
end_by plan look x e None field is = absurd (none-some field is)
end_by plan look x e (Some g) field is = is

alike_with : (o : Option Sample) (field : Field) (samples : Wave) → option_map (λ s. s.field) o ≡ Some field
    → ((newest : Sample) → o ≡ Some newest → All (λ (s : Sample). IsLike newest.field s.field) samples) → All (λ (s : Sample). IsLike field s.field) samples
alike_with None field samples is alike = absurd (none-some field is)
alike_with (Some newest) field samples is alike =
    subst (λ (f : Field). All (λ (s : Sample). IsLike f s.field) samples) (same_Some newest.field field is) (alike newest refl)

pub alike_by : (plan : PlanParts) (look : Look Post) (x : ℕ) (e : Exchange) (store : Kept) → StoreTells plan look x e store → (v start : ℕ) (field : Field)
    → ((given : List (Gift Wave)) → StandsFor given store → option_map (λ s. s.field) (end_sample given v) ≡ Some field)
    → (samples : Wave) → CanFollow start (completed plan look e x v).wave samples → All (λ (s : Sample). IsLike field s.field) samples
alike_by plan look x e store tells v start field answers samples can =
    alike_with (newest_sample (completed plan look e x v).wave) field samples
    (end_by plan look x e (look e.from (Completed v)) field
    (ap (λ (o : Option (Gift Wave)). option_map (λ s. s.field) (option_and_then (λ g. newest_sample g.post) o)) (sym (tells.tells (Completed v)))
    ∙ answers tells.given tells.stands))
    can.alike
