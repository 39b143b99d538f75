-- What a store answers, in the words of a coupling.
use Rattle.std.proofs.Common.{◌≡◌, ℕ, ◌-◌, List, [], ◌∷◌, Option, Some, None, option_map, ap, sym, ◌∙◌}
use Rattle.std.specs.Option.{option_map_or, option_and_then}
use Rattle.std.specs.Prelude.{option_to_list, slice_get}
use Rattle.std.proofs.lemmas.Option.{none-some, same_Some}
use Rattle.cpl_plan.specs.declared.parts.PlanParts.{PlanParts}
use Rattle.cpl_plan.specs.declared.parts.Exchange.{Exchange}
use Rattle.cpl_plan.specs.declared.words.Item.TheVariants.{Completed, Posted}
use Rattle.waveform.specs.declared.field.Field.{Field}
use Rattle.waveform.specs.declared.sample.Sample.{Sample}
use Rattle.coupled_loop.specs.Given.{Gift, Look, found}
use Rattle.sample_store.specs.Kept.{Kept}
use Rattle.sample_store.specs.StandsFor.{StandsFor}
use Rattle.sample_store.specs.Ends.{end_sample}
use Rattle.wave_coupling.specs.Posts.{Wave, Post, newest_sample, newest_values, moved_to}
use Rattle.wave_coupling.specs.InputWave.{Sent, sent_as, posted, completed, accepted_before}
use Rattle.group_course.specs.StoresTell.{StoreTells, StoresTell, gift_of}
use Rattle.group_course.specs.CourseTells.{posted_wave}
use Rattle.group_course.specs.Norms.{IsExchangeOf}

-- of the newest sample only its field is told
pub values_by : (o : Option Sample) (field : Field) → option_map (λ s. s.field) o ≡ Some field → option_map_or (λ s. s.field.values) o [] ≡ field.values
values_by None field is = absurd (none-some field is)
values_by (Some s) field is = ap (λ (f : Field). f.values) (same_Some s.field field is)

moved_by : (time : ℕ) (o : Option Sample) (field : Field) → option_map (λ s. s.field) o ≡ Some field → option_to_list (option_map (moved_to time) o) ≡ record { time = time; field = field } ∷ []
moved_by time None field is = absurd (none-some field is)
moved_by time (Some s) field is = ap (λ (f : Field). record { time = time; field = f } ∷ []) (same_Some s.field field is)

module _ (plan : PlanParts) (look : Look Post) (x : ℕ) (e : Exchange) where
  sent_by : (o : Option (Gift Post)) (gift : Gift Wave) → option_map (gift_of plan e x) o ≡ Some gift → sent_as plan look e x o ≡ record { iteration = gift.iteration; wave = gift.post }
  sent_by None gift is = absurd (none-some gift is)
  sent_by (Some g) gift is = ap (λ (h : Gift Wave). record { iteration = h.iteration; wave = h.post }) (same_Some (gift_of plan e x g) gift is)

  end_by : (o : Option (Gift Post)) (field : Field) → option_map (λ s. s.field) (option_and_then (λ g. newest_sample g.post) (option_map (gift_of plan e x) o)) ≡ Some field
      → option_map (λ s. s.field) (newest_sample (sent_as plan look e x o).wave) ≡ Some field
  end_by None field is = absurd (none-some field is)
  end_by (Some g) field is = is

  module _ (store : Kept) (tells : StoreTells plan look x e store) where
    -- the post of an iteration
    pub posted_is : (w k : ℕ) (wave : Wave)
        → ((given : List (Gift Wave)) → StandsFor given store → found given (Posted w k) ≡ Some (record { item = Posted w k; iteration = k; post = wave }))
        → (posted plan look e x w k).wave ≡ wave
    posted_is w k wave answers =
        ap (λ (s : Sent). s.wave)
        (sent_by (look e.from (Posted w k)) (record { item = Posted w k; iteration = k; post = wave })
        (sym (tells.tells (Posted w k)) ∙ answers tells.given tells.stands))

    completed_is : (v : ℕ) (field : Field) → ((given : List (Gift Wave)) → StandsFor given store → option_map (λ s. s.field) (end_sample given v) ≡ Some field)
        → option_map (λ s. s.field) (newest_sample (completed plan look e x v).wave) ≡ Some field
    completed_is v field answers =
        end_by (look e.from (Completed v)) field
        (ap (λ (o : Option (Gift Wave)). option_map (λ s. s.field) (option_and_then (λ g. newest_sample g.post) o)) (sym (tells.tells (Completed v)))
        ∙ answers tells.given tells.stands)

    -- the values at the end of a window, and as the wave at the start of the next
    pub end_values_are : (v : ℕ) (field : Field) → ((given : List (Gift Wave)) → StandsFor given store → option_map (λ s. s.field) (end_sample given v) ≡ Some field)
        → newest_values (completed plan look e x v).wave ≡ field.values
    end_values_are v field answers = values_by (newest_sample (completed plan look e x v).wave) field (completed_is v field answers)

    pub start_is : (w start : ℕ) (field : Field) → ((given : List (Gift Wave)) → StandsFor given store → option_map (λ s. s.field) (end_sample given (w - 1)) ≡ Some field)
        → accepted_before plan look e x w start ≡ record { time = start; field = field } ∷ []
    start_is w start field answers = moved_by start (newest_sample (completed plan look e x (w - 1)).wave) field (completed_is (w - 1) field answers)

-- the same of a store among those of a scheme
pub posted_wave_is : (plan : PlanParts) (look : Look Post) (s x : ℕ) (stores : List (Option Kept)) (store : Kept) → StoresTell plan look s stores → (own : IsExchangeOf plan s x) → slice_get stores x ≡ Some (Some store)
    → (w k : ℕ) (wave : Wave) → ((given : List (Gift Wave)) → StandsFor given store → found given (Posted w k) ≡ Some (record { item = Posted w k; iteration = k; post = wave }))
    → posted_wave plan look w k x ≡ wave
posted_wave_is plan look s x stores store tell own there w k wave answers =
    ap (λ (o : Option Exchange). option_map_or (λ e. (posted plan look e x w k).wave) o []) own.there
    ∙ posted_is plan look x own.exchange store (tell x own.exchange store own.there own.own there) w k wave answers

pub same_store : (stores : List (Option Kept)) (x : ℕ) (a b : Kept) → slice_get stores x ≡ Some (Some a) → slice_get stores x ≡ Some (Some b) → a ≡ b
same_store stores x a b one other = same_Some a b (same_Some (Some a) (Some b) (sym one ∙ other))
