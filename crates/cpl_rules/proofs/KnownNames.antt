-- Names that were seen before, and one more.
use Rattle.std.proofs.Common.{◌≡◌, ℕ, Bool, true, false, ◌&&◌, ◌||◌, cond, List, String, Global, refl, ap, sym, ◌∙◌}
use Rattle.std.specs.BTreeSet.{BTreeSet, contains_text}
use Rattle.std.specs.Str.{bytes_eq}
use Rattle.std.proofs.lemmas.Slice.Eq.{bytes_eq-Decides}
use Rattle.std.proofs.lemmas.Bool.Decides.{same_from_decides}
use Rattle.cpl_tables.specs.declared.kinds.TableKind.{TableKind}
use Rattle.cpl_tables.specs.declared.kinds.Format.{Format}
use Rattle.cpl_tables.specs.declared.kinds.TableKind.TheVariants.{Data, Mesh, Participant, Watch, CaseMesh}
use Rattle.cpl_rules.specs.declared.names.Names.{Names}
use Rattle.cpl_rules.specs.BrokenRules.{have_own_names}
use Rattle.cpl_rules.specs.KnownNames.{knows}

bytes_eq-turned : (a b : List ℕ) → bytes_eq a b ≡ bytes_eq b a
bytes_eq-turned a b =
    same_from_decides (bytes_eq a b) (bytes_eq b a) (bytes_eq-Decides a b) ((λ e. sym ((bytes_eq-Decides b a).0 e)), (λ e. (bytes_eq-Decides b a).1 (sym e)))

cond_or : (e h : Bool) → cond e true h ≡ (h || e)
cond_or true true = refl
cond_or true false = refl
cond_or false true = refl
cond_or false false = refl

pub or_false : (b : Bool) → b ≡ (b || false)
or_false true = refl
or_false false = refl

abbrev pub Adds : (name : List ℕ) (old new : BTreeSet (String Global)) → Type 0
Adds name old new = (text : List ℕ) → contains_text new text ≡ cond (bytes_eq name text) true (contains_text old text)

pub added : (name : List ℕ) (old new : BTreeSet (String Global)) → Adds name old new → (text : List ℕ) → contains_text new text ≡ (contains_text old text || bytes_eq text name)
added name old new h text = h text ∙ (cond_or (bytes_eq name text) (contains_text old text) ∙ ap (λ e. contains_text old text || e) (bytes_eq-turned name text))

pub knows-Data : (names : Names) (new : BTreeSet (String Global)) (name : List ℕ) → Adds name names.of_data new → (other : TableKind) (text : List ℕ)
    → knows (record names { of_data = new }) other text ≡ (knows names other text || (have_own_names other Data && bytes_eq text name))
knows-Data names new name h Data text = added name names.of_data new h text
knows-Data names new name h Mesh text = or_false (contains_text names.of_meshes text)
knows-Data names new name h (Participant _) text = or_false (contains_text names.of_participants text)
knows-Data names new name h Watch text = or_false (contains_text names.of_watches text)
knows-Data names new name h CaseMesh text = or_false (contains_text names.of_case_meshes text)
knows-Data names new name h _ text = refl

pub knows-Mesh : (names : Names) (new : BTreeSet (String Global)) (name : List ℕ) → Adds name names.of_meshes new → (other : TableKind) (text : List ℕ)
    → knows (record names { of_meshes = new }) other text ≡ (knows names other text || (have_own_names other Mesh && bytes_eq text name))
knows-Mesh names new name h Data text = or_false (contains_text names.of_data text)
knows-Mesh names new name h Mesh text = added name names.of_meshes new h text
knows-Mesh names new name h (Participant _) text = or_false (contains_text names.of_participants text)
knows-Mesh names new name h Watch text = or_false (contains_text names.of_watches text)
knows-Mesh names new name h CaseMesh text = or_false (contains_text names.of_case_meshes text)
knows-Mesh names new name h _ text = refl

pub knows-Participant : (format : Format) (names : Names) (new : BTreeSet (String Global)) (name : List ℕ) → Adds name names.of_participants new → (other : TableKind) (text : List ℕ)
    → knows (record names { of_participants = new }) other text ≡ (knows names other text || (have_own_names other (Participant format) && bytes_eq text name))
knows-Participant format names new name h Data text = or_false (contains_text names.of_data text)
knows-Participant format names new name h Mesh text = or_false (contains_text names.of_meshes text)
knows-Participant format names new name h (Participant _) text = added name names.of_participants new h text
knows-Participant format names new name h Watch text = or_false (contains_text names.of_watches text)
knows-Participant format names new name h CaseMesh text = or_false (contains_text names.of_case_meshes text)
knows-Participant format names new name h _ text = refl

pub knows-Watch : (names : Names) (new : BTreeSet (String Global)) (name : List ℕ) → Adds name names.of_watches new → (other : TableKind) (text : List ℕ)
    → knows (record names { of_watches = new }) other text ≡ (knows names other text || (have_own_names other Watch && bytes_eq text name))
knows-Watch names new name h Data text = or_false (contains_text names.of_data text)
knows-Watch names new name h Mesh text = or_false (contains_text names.of_meshes text)
knows-Watch names new name h (Participant _) text = or_false (contains_text names.of_participants text)
knows-Watch names new name h Watch text = added name names.of_watches new h text
knows-Watch names new name h CaseMesh text = or_false (contains_text names.of_case_meshes text)
knows-Watch names new name h _ text = refl

pub knows-CaseMesh : (names : Names) (new : BTreeSet (String Global)) (name : List ℕ) → Adds name names.of_case_meshes new → (other : TableKind) (text : List ℕ)
    → knows (record names { of_case_meshes = new }) other text ≡ (knows names other text || (have_own_names other CaseMesh && bytes_eq text name))
knows-CaseMesh names new name h Data text = or_false (contains_text names.of_data text)
knows-CaseMesh names new name h Mesh text = or_false (contains_text names.of_meshes text)
knows-CaseMesh names new name h (Participant _) text = or_false (contains_text names.of_participants text)
knows-CaseMesh names new name h Watch text = or_false (contains_text names.of_watches text)
knows-CaseMesh names new name h CaseMesh text = added name names.of_case_meshes new h text
knows-CaseMesh names new name h _ text = refl
