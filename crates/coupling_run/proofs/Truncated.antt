-- A file that is cut one byte past its limit is answered as the whole file is.
use Rattle.std.proofs.Common.{◌≡◌, ℕ, ◌<◌, Bool, false, List, length, take, Option, Some, None, codes, ℤ, refl, sym, ap, ◌∙◌, arith, length-take, inl, inr, subst}
use Rattle.std.proofs.lemmas.Bool.{cases_lt, lt-leb}
use Rattle.std.proofs.lemmas.List.{take_all}
use Rattle.std.specs.Option.{option_map_or, option_and_then}
use Rattle.io_edge.specs.FileMap.{FileMap}
use Rattle.toml.specs.Data.{Members, as_table}
use Rattle.coupling_run.specs.Form.{◌>>=◌, tree_of, is_tree_of, value_beside, window_count, only_item, number_units, windows_of, add_of, is_second_case}
use Rattle.coupling_run.specs.Answer.{MayAskCases, MayAsk, MayAskBoth}
use Rattle.coupling_run.specs.Outcome.{accepted_outcome, config_outcome, cases_outcome, loaded_outcome}
use Rattle.coupling_run.specs.declared.words.CommandWord.TheVariants.{Solo}
use Rattle.coupling_run.specs.declared.base.TheConstants.{CONFIGURATION, FIRST_CASE, FIRST_ROW, SECOND_CASE}

too_long : (bytes : List ℕ) → 1048576 < length bytes → tree_of bytes ≡ None
too_long bytes long = rw (lt-leb (length bytes) 1048576 long) refl

pub tree_of-take : (file : List ℕ) → tree_of (take 1048577 file) ≡ tree_of file
tree_of-take file =
    elim (cases_lt 1048576 (length file)) [
      | inl long ↦ too_long (take 1048577 file) (simp length-take (omega arith)) ∙ sym (too_long file long)
      | inr short ↦ ap tree_of (take_all 1048577 file (omega arith))
    ]

pub windows_of-take : (file : List ℕ) → windows_of (take 1048577 file) ≡ windows_of file
windows_of-take file = ap (λ (tree : Option Members). tree >>= value_beside (codes "max-windows") CONFIGURATION.now >>= window_count) (tree_of-take file)

pub add_of-take : (file : List ℕ) → add_of (take 1048577 file) ≡ add_of file
add_of-take file = ap (λ (tree : Option Members). tree >>= value_beside (codes "row") FIRST_CASE.now >>= only_item >>= as_table >>= value_beside (codes "add") FIRST_ROW.now >>= number_units) (tree_of-take file)

pub is_second_case-take : (file : List ℕ) → is_second_case (take 1048577 file) ≡ is_second_case file
is_second_case-take file = ap (λ (tree : Option Members). option_map_or (is_tree_of SECOND_CASE.now) tree false) (tree_of-take file)

-- what is answered to the bytes that were loaded is answered to the files
pub config_from : (files : FileMap) (name config bytes : List ℕ) → files name ≡ Some config → bytes ≡ take 1048577 config → accepted_outcome files (windows_of bytes) ≡ config_outcome files (files name)
config_from files name config bytes is same =
    ap (accepted_outcome files) (ap windows_of same ∙ windows_of-take config) ∙ ap (config_outcome files) (sym is)

pub cases_from : (windows : ℕ) (files : FileMap) (name_1 name_2 case_1 case_2 bytes_1 bytes_2 : List ℕ) → files name_1 ≡ Some case_1 → files name_2 ≡ Some case_2 → bytes_1 ≡ take 1048577 case_1 → bytes_2 ≡ take 1048577 case_2 → cases_outcome windows (add_of bytes_1) (is_second_case bytes_2) ≡ loaded_outcome windows (files name_1) (files name_2)
cases_from windows files name_1 name_2 case_1 case_2 bytes_1 bytes_2 is_1 is_2 same_1 same_2 =
    let add = ap add_of same_1 ∙ add_of-take case_1 in
    let second = ap is_second_case same_2 ∙ is_second_case-take case_2 in
    ap (λ (add : Option ℤ). cases_outcome windows add (is_second_case bytes_2)) add ∙ ap (cases_outcome windows (add_of case_1)) second
    ∙ ap (loaded_outcome windows (Some case_1)) (sym is_2) ∙ ap (λ (case : Option (List ℕ)). loaded_outcome windows case (files name_2)) (sym is_1)

pub accepted_from : (files : FileMap) (name config bytes : List ℕ) (windows : Option ℕ) → files name ≡ Some config → bytes ≡ take 1048577 config → windows_of bytes ≡ windows → accepted_outcome files windows ≡ config_outcome files (files name)
accepted_from files name config bytes windows is same given = ap (accepted_outcome files) (sym given) ∙ config_from files name config bytes is same

-- the case files may be asked for once the configuration is accepted
pub may_ask-both : (told : Option FileMap) (may_ask : List ℕ → Bool) (name bytes : List ℕ) (windows : ℕ) → ((files : FileMap) → told ≡ Some files → (file : List ℕ) × (files name ≡ Some file) × (bytes ≡ take 1048577 file)) → windows_of bytes ≡ Some windows → MayAsk told may_ask (Some (record { word = Solo; name = name })) → MayAskBoth told may_ask windows
may_ask-both None may_ask name bytes windows loaded given asks = asks
may_ask-both (Some files) may_ask name bytes windows loaded given asks =
    let (file, is, same) = loaded files refl in
    let accepted : option_and_then windows_of (files name) ≡ Some windows = ap (option_and_then windows_of) is ∙ sym (windows_of-take file) ∙ sym (ap windows_of same) ∙ given in
    subst (λ (windows : Option ℕ). MayAskCases files may_ask windows) accepted asks.1
