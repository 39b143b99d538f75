-- A watch-point that is there has its line.
use Rattle.std.proofs.Common.{◌≡◌, ℕ, ◌-◌, List, [], Some, slice_get, slice_index, sym, ap, ◌∙◌}
use Rattle.std.specs.Option.{option_map_or, option_and_then}
use Rattle.cpl_plan.specs.declared.parts.PlanParts.{PlanParts}
use Rattle.cpl_plan.specs.declared.parts.Part.{Part}
use Rattle.cpl_plan.specs.declared.parts.Watch.{Watch}
use Rattle.cpl_plan.specs.declared.words.WatchRow.{WatchRow}
use Rattle.watch_log.specs.ReportText.{shown_text, watch_line}

pub line_of_watch : (plan : PlanParts) (ends : List ℕ) (row : WatchRow) (p : Part) (watch : Watch) → slice_get plan.parts row.part ≡ Some p → slice_get p.watches row.watch ≡ Some watch
    → shown_text plan row.part watch (slice_index ends (row.window - 1)) row.values ≡ watch_line plan ends row
line_of_watch plan ends row p watch part there =
    sym (ap (λ o. option_map_or (λ (w : Watch). shown_text plan row.part w (slice_index ends (row.window - 1)) row.values) (option_and_then (λ (one : Part). slice_get one.watches row.watch) o) []) part
    ∙ ap (λ o. option_map_or (λ (w : Watch). shown_text plan row.part w (slice_index ends (row.window - 1)) row.values) o []) there)
