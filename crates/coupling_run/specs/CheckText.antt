-- What `check` answers to the files of a coupling: that they are accepted, or the first broken rule and its place. Each line ends with a line feed. The project's own.
use Rattle.std.specs.Prelude.{ℕ, List, ◌++◌, length, codes, Option, Some, None, Result, Ok, Err}
use Rattle.cpl_tables.specs.PlaceText.{place_text}
use Rattle.accepted_case.specs.declared.parts.AcceptedCase.{AcceptedCase}
use Rattle.accepted_case.specs.declared.parts.RefusedCase.{RefusedCase}
use Rattle.coupling_run.specs.Outcome.{Outcome, unread}
use Rattle.coupling_run.specs.ReportText.{numbered, line_feed}
use Rattle.coupling_run.specs.declared.status.Status.TheVariants as S

-- accepted <participants> participants <schemes> schemes
unfoldable pub accepted_line : (participants schemes : ℕ) → List ℕ
accepted_line participants schemes =
    numbered (codes "accepted ") participants ++ numbered (codes " participants ") schemes ++ (codes " schemes" ++ line_feed)

-- refused C<rule> at <place>
abbrev pub refusal_line : RefusedCase → List ℕ
refusal_line refused =
    numbered (codes "refused C") refused.refusal.rule ++ codes " at " ++ place_text refused.name refused.refusal.place ++ line_feed

abbrev pub check_outcome : Option (Result AcceptedCase RefusedCase) → Outcome
check_outcome None = unread
check_outcome (Some (Err refused)) = record { status = S.Refused; text = refusal_line refused }
check_outcome (Some (Ok accepted)) = record { status = S.Ok; text = accepted_line (length accepted.config.participant) (length accepted.config.scheme) }
