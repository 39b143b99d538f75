-- Which entry a call writes, and by which cause it is refused.
use Rattle.std.proofs.Common.{◌≡◌, ℕ, List, Option, Some, ℤ, Result, Ok, Err, OnOk, unwrap_or, ap, ap₂, ◌∙◌}
use Rattle.std.specs.Result.{IfErr}
use Rattle.cpl_plan.specs.declared.parts.PlanParts.{PlanParts}
use Rattle.participant_words.specs.Course.{Course}
use Rattle.participant_words.specs.Entries.{components_written, size_at}
use Rattle.participant_words.specs.Named.{data_on, entry_written, place_named}
use Rattle.participant_words.specs.Refusals.{Refusal, needing, on_mesh, or_then, phase_refuses, refusal_of_write_data}
use Rattle.participant_words.specs.declared.api_err.ApiErr.{ApiErr}
use Rattle.participant_words.specs.declared.api_err.ApiErr.TheVariants.{UnknownData, NotWritable}
use Rattle.participant_words.specs.declared.phase.Call.TheVariants.{WriteData}
use Rattle.participant_state.specs.Member.{Member, mesh_called, data_called, written_called}
use Rattle.participant_state.proofs.CallsWriting.{rows_refusal}

module _ (plan : PlanParts) (part : ℕ) (course : Course) (mesh data_name : List ℕ) (vertices : List ℕ) (rows : List ℤ) where
  -- what is refused of an entry that is looked for
  abbrev pub of_entry : (place : ℕ) → Option ℕ → Refusal
  of_entry place entry = needing entry NotWritable (λ e. rows_refusal (size_at course place) (components_written plan part e) vertices rows)

  abbrev of_data : (place : ℕ) → Option ℕ → Refusal
  of_data place data_id = needing data_id UnknownData (λ d. of_entry place (entry_written plan part place d))

  pub write_refused : (place data_id : ℕ) (entry : Option ℕ)
      → ((later : ℕ → Refusal) → or_then (phase_refuses plan part course WriteData) (on_mesh plan part course mesh later) ≡ later place)
      → data_on plan part place data_name ≡ Some data_id → entry_written plan part place data_id ≡ entry
      → refusal_of_write_data plan part course mesh data_name vertices rows ≡ of_entry place entry
  write_refused place data_id entry granted on found =
      granted (λ p. of_data p (data_on plan part p data_name)) ∙ ap (of_data place) on ∙ ap (of_entry place) found

-- the entry that is called
pub called_is : (m : Member) (mesh data_name : List ℕ) (place data_id entry : ℕ) → place_named m.plan m.part mesh ≡ Some place
    → data_on m.plan m.part place data_name ≡ Some data_id → entry_written m.plan m.part place data_id ≡ Some entry
    → written_called m mesh data_name ≡ entry
called_is m mesh data_name place data_id entry named on found =
    let at : mesh_called m mesh ≡ place = ap (λ (o : Option ℕ). unwrap_or o 0) named in
    let data_at : data_called m mesh data_name ≡ data_id =
    ap (λ (p : ℕ). unwrap_or (data_on m.plan m.part p data_name) 0) at ∙ ap (λ (o : Option ℕ). unwrap_or o 0) on in
    ap₂ (λ (p d : ℕ). unwrap_or (entry_written m.plan m.part p d) 0) at data_at ∙ ap (λ (o : Option ℕ). unwrap_or o 0) found

pub err_by : {A : Type 0} (result : Result A ApiErr) (one other : Refusal) → other ≡ one → IfErr result (λ error. one ≡ Some error) → IfErr result (λ error. other ≡ Some error)
err_by (Ok value) one other same told = told
err_by (Err error) one other same told = same ∙ told

pub ok_by : {A : Type 0} (result : Result A ApiErr) (P Q : Type 0) → (P → Q) → OnOk result P → OnOk result Q
ok_by (Ok value) P Q step told = step told
ok_by (Err error) P Q step told = told
