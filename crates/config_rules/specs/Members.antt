-- Who is in a scheme, and of which kind its exchanges are. After the coupling documentation.
use Rattle.std.specs.Prelude.{ℕ, Bool, true, false, List, [], ◌∷◌, ◌++◌, Option, Some, None, unwrap_or}
use Rattle.std.specs.List.{list_any}
use Rattle.std.specs.Option.{option_map_or}
use Rattle.std.specs.Str.{bytes_eq}
use Rattle.cpl_config.specs.declared.kind_words.KindWord.{KindWord}
use Rattle.cpl_config.specs.declared.kind_words.KindWord.TheVariants.{SerialExplicit, ParallelExplicit, SerialImplicit, ParallelImplicit, Multi}
use Rattle.cpl_config.specs.declared.config.SchemeTable.{SchemeTable}
use Rattle.cpl_config.specs.declared.config.ExchangeEntry.{ExchangeEntry}
use Rattle.cpl_plan.specs.declared.parts.Kind.{Kind}
use Rattle.cpl_plan.specs.declared.parts.Kind.TheVariants.{Iterated}
use Rattle.cpl_plan.specs.declared.parts.SchemeKind.{SchemeKind}
use Rattle.cpl_plan.specs.declared.parts.SchemeKind.TheVariants as S
use Rattle.cpl_plan.specs.ExchangeKinds as kinds
use Rattle.mesh_rules.specs.Named.{is_among}

abbrev pub scheme_kind : KindWord → SchemeKind
scheme_kind SerialExplicit = S.SerialExplicit
scheme_kind ParallelExplicit = S.ParallelExplicit
scheme_kind SerialImplicit = S.SerialImplicit
scheme_kind ParallelImplicit = S.ParallelImplicit
scheme_kind Multi = S.Multi

abbrev pub kind_is_multi : KindWord → Bool
kind_is_multi Multi = true
kind_is_multi _ = false

abbrev pub is_multi : SchemeTable → Bool
is_multi table = kind_is_multi table.kind

abbrev pub is_implicit : SchemeTable → Bool
is_implicit table = kinds.is_implicit (scheme_kind table.kind)

-- the names of the participants of a scheme, as they are listed
abbrev pub name_there : Option (List ℕ) → List (List ℕ)
name_there (Some name) = name ∷ []
name_there None = []

abbrev pub members : SchemeTable → List (List ℕ)
members table = name_there table.first ++ name_there table.second ++ unwrap_or table.members []

abbrev pub is_member : List ℕ → SchemeTable → Bool
is_member name table = is_among name (members table)

-- the first of some names, or an empty one
abbrev pub first_name : List (List ℕ) → List ℕ
first_name [] = []
first_name (name ∷ _) = name

abbrev pub exchanges_data : SchemeTable → List ℕ → Bool
exchanges_data table data_name = list_any (λ entry. bytes_eq entry.data_name data_name) table.exchange

-- an exchange of a scheme goes to its second
abbrev pub goes_to_second : SchemeTable → ExchangeEntry → Bool
goes_to_second table entry = option_map_or (bytes_eq entry.to) table.second false

abbrev pub kind_is_iterated : Kind → Bool
kind_is_iterated Iterated = true
kind_is_iterated _ = false

-- what an exchange of a scheme carries is relaxed between iterations
abbrev pub is_iterated : SchemeTable → ExchangeEntry → Bool
is_iterated table entry = kind_is_iterated (kinds.exchange_kind (scheme_kind table.kind) (goes_to_second table entry))
