-- What a relaxation leaves, or where it fails. The project's own.
use Rattle.std.specs.Prelude.{◌≡◌, ℕ, ◌==◌, if◌then◌else◌, List, Option, Some, None, Ok, Err}
use Rattle.cpl_plan.specs.declared.parts.Accel.{Accel}
use Rattle.acceleration.specs.Exchanged.{Exchanged}
use Rattle.acceleration.specs.Outside.{Location}
use Rattle.acceleration.specs.RelaxedIterate.{relaxed_iterate}
use Rattle.acceleration.specs.RelaxerState.{RelaxerState, fresh, method_of}
use Rattle.group_course.specs.declared.relaxing.OutOfRange.{OutOfRange}
use Rattle.group_course.specs.CourseKept.{CourseKept}

abbrev pub location_of : OutOfRange → Location
location_of out = record { place = out.place; time = out.time; component = out.component }

-- the relaxer of iteration k, which is a new one in the first
abbrev pub relaxer_at : (k : ℕ) → Accel → CourseKept → RelaxerState
relaxer_at k accel course = if k == 1 then fresh (method_of accel) else course.relaxer

-- the changes of the first iteration, of which these are those of iteration k
abbrev pub firsts_at : (k : ℕ) (changes : List ℕ) → CourseKept → List ℕ
firsts_at k changes course = if k == 1 then changes else course.firsts

-- the course has the relaxed waves, or a value is out of range and it is as before
abbrev pub HasRelaxed : RelaxerState → List Exchanged → (firsts : List ℕ) → (before after : CourseKept) → Option OutOfRange → Type 0
HasRelaxed relaxer exchanges firsts before after None =
    (relaxed_iterate relaxer exchanges ≡ Ok (record { waves = after.waves; next = after.relaxer })) × (after.firsts ≡ firsts)
HasRelaxed relaxer exchanges firsts before after (Some out) = (relaxed_iterate relaxer exchanges ≡ Err (location_of out)) × (after ≡ before)
