-- The report of a run: how far it came, a line for each judged iteration, for each watch-point and window, and for each participant. After the coupling documentation's convergence files and watch-points; the lines are the project's own.
use Rattle.std.specs.Prelude.{ℕ, suc, ◌-◌, nat_eq, List, [], ◌∷◌, ◌++◌, ℤ, pos, filter, flat_map, take, drop, length, slice_get, slice_index, codes}
use Rattle.std.specs.Option.{option_map_or, option_and_then}
use Rattle.line_text.specs.Printing.{value_text}
use Rattle.cpl_plan.specs.PlanWords.{components_on}
use Rattle.cpl_plan.specs.declared.parts.PlanParts.{PlanParts}
use Rattle.cpl_plan.specs.declared.parts.PlanEntry.{PlanEntry}
use Rattle.cpl_plan.specs.declared.parts.Watch.{Watch}
use Rattle.cpl_plan.specs.declared.words.IterLine.{IterLine}
use Rattle.cpl_plan.specs.declared.words.WatchRow.{WatchRow}
use Rattle.cpl_plan.specs.declared.words.Verdict.{Verdict}
use Rattle.cpl_plan.specs.declared.words.Verdict.TheVariants.{Again, Converged, AtLimit, NotConverged}
use Rattle.watch_log.specs.Words.{line_feed, numbered, counted, value_part, participant_name}

-- how many windows were completed, and when the last one ended
unfoldable pub coupled_line : (ends : List ℕ) → List ℕ
coupled_line ends =
    numbered (codes "coupled ") (length ends) ++ (numbered (codes " windows to ") (slice_index ends (length ends - 1)) ++ line_feed)

-- a scheme that does not converge has no report
abbrev pub verdict_word : Verdict → List ℕ
verdict_word Again = codes " again"
verdict_word Converged = codes " converged"
verdict_word AtLimit = codes " limit"
verdict_word (NotConverged measure) = codes " not converged"

-- window, scheme, iteration, verdict, the norm of each measure
unfoldable pub iteration_line : IterLine → List ℕ
iteration_line line =
    numbered (codes "iteration ") line.window
    ++ (counted (codes " ") line.scheme
    ++ (numbered (codes " ") line.iteration ++ (verdict_word line.verdict ++ (flat_map (λ norm. value_part (pos norm)) line.norms ++ line_feed))))

-- components, with commas between them
abbrev pub joined : List ℤ → List ℕ
joined [] = []
joined (value ∷ rest) = value_text value ++ flat_map (λ next. 44 ∷ value_text next) rest

-- a watch-point's name, and when the window ended
abbrev pub watch_words : (name : List ℕ) → (end : ℕ) → List ℕ
watch_words name end = codes "watch " ++ (name ++ numbered (codes " ") end)

module _ (plan : PlanParts) where
  abbrev pub data_name : PlanEntry → List ℕ
  data_name entry = option_map_or (λ d. d.name) (slice_get plan.data_list entry.data_id) []

  abbrev pub components_of_entry : PlanEntry → ℕ
  components_of_entry entry = option_map_or (λ n. n) (components_on plan entry.data_id entry.mesh) 0

  -- each entry's data with its components, of values that stand one after another
  abbrev pub entries_text : List PlanEntry → List ℤ → List ℕ
  entries_text [] values = []
  entries_text (entry ∷ rest) values =
      (32 ∷ data_name entry) ++ ((32 ∷ joined (take (components_of_entry entry) values)) ++ entries_text rest (drop (components_of_entry entry) values))

  -- the entries of a participant on a mesh: those that it writes, and then those that it reads
  abbrev pub entries_on : (part mesh : ℕ) → List PlanEntry
  entries_on part mesh =
      option_map_or (λ p. filter (λ entry. nat_eq entry.mesh mesh) p.writes ++ filter (λ entry. nat_eq entry.mesh mesh) p.reads) (slice_get plan.parts part) []

  -- a watch-point at the end of a window, with each entry on its mesh
  abbrev pub shown_text : (part : ℕ) → Watch → (end : ℕ) → (values : List ℤ) → List ℕ
  shown_text part watch end values = watch_words watch.name end ++ (entries_text (entries_on part watch.mesh) values ++ line_feed)

  abbrev pub watch_line : (ends : List ℕ) → WatchRow → List ℕ
  watch_line ends row =
      option_map_or (λ watch. shown_text row.part watch (slice_index ends (row.window - 1)) row.values)
      (option_and_then (λ p. slice_get p.watches row.watch) (slice_get plan.parts row.part)) []

  -- a participant, how many steps it made, and its last state
  abbrev pub participant_line : (part steps : ℕ) → (state : List ℤ) → List ℕ
  participant_line part steps state =
      codes "participant "
      ++ (participant_name plan part ++ (numbered (codes " steps ") steps ++ (codes " state" ++ (flat_map value_part state ++ line_feed))))

  -- the participants' lines, from a number on
  abbrev pub participants_text : (number : ℕ) → (steps : List ℕ) → (states : List (List ℤ)) → List ℕ
  participants_text number (steps ∷ more) (state ∷ others) = participant_line number steps state ++ participants_text (suc number) more others
  participants_text number _ _ = []

  abbrev pub report_text : (ends : List ℕ) → List IterLine → List WatchRow → (steps : List ℕ) → (states : List (List ℤ)) → List ℕ
  report_text ends lines watches steps states =
      coupled_line ends
      ++ (flat_map iteration_line lines
      ++ (flat_map (watch_line ends) watches
      ++ participants_text 0 steps states))
