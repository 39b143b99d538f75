-- Of which window and iteration an exchange's values are. After the coupling documentation's serial and parallel schemes; the table is the project's own.
use Rattle.std.specs.Prelude.{Bool, true, false}
use Rattle.cpl_plan.specs.declared.parts.Kind.{Kind}
use Rattle.cpl_plan.specs.declared.parts.Kind.TheVariants.{Lag, Fresh, FreshIter, Iterated}
use Rattle.cpl_plan.specs.declared.parts.SchemeKind.{SchemeKind}
use Rattle.cpl_plan.specs.declared.parts.SchemeKind.TheVariants.{SerialExplicit, ParallelExplicit, SerialImplicit, ParallelImplicit, Multi}

-- the kind of an exchange of a scheme, by whether it goes to the second
abbrev pub exchange_kind : SchemeKind → Bool → Kind
exchange_kind SerialExplicit true = Fresh
exchange_kind SerialExplicit false = Lag
exchange_kind ParallelExplicit _ = Lag
exchange_kind SerialImplicit true = FreshIter
exchange_kind SerialImplicit false = Iterated
exchange_kind ParallelImplicit _ = Iterated
exchange_kind Multi _ = Iterated

-- the schemes that repeat windows
abbrev pub is_implicit : SchemeKind → Bool
is_implicit SerialExplicit = false
is_implicit ParallelExplicit = false
is_implicit SerialImplicit = true
is_implicit ParallelImplicit = true
is_implicit Multi = true
