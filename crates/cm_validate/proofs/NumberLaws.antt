-- The numbers of imports and exports, and the names of the items of those that are instances.
use Rattle.std.proofs.Common.{◌≡◌, ℕ, ◌<◌, List, [], ◌∷◌, map, Option, Some, None, refl, sym, ap, ◌∙◌, subst, slice_get}
use Rattle.std.specs.Option.{option_map}
use Rattle.std.proofs.lemmas.Option.{slice_get-map, slice_get_within}
use Rattle.cm_types.specs.Signatures.{NamedExtern, NamedItem, instance}
use Rattle.cm_types.specs.Types.{FuncTy, Ty}
use Rattle.cm_types_arena.specs.Externs.{extern_of}
use Rattle.cm_types_arena.specs.declared.externs.Extern.{Extern}
use Rattle.cm_types_arena.specs.Listed.{names_of_desc, names_of_named}
use Rattle.cm_types_arena.specs.Numbered.{AreAlike, names_of_extern, number_in}
use Rattle.cm_validate_items.specs.Shared.{AreShared, IsImportOf, exported_instance_in, export_at, import_type_in, item_from}
use Rattle.cm_validate_items.specs.declared.shared.Shared.{Shared}
use Rattle.cm_validate_model.specs.Definitions.{ExportDef, InstanceTy, NamedExport, NamedMember, exported_instance, instance_type}
use Rattle.cm_validate_model.specs.Spaces.{Spaces, items_of_members}
use Rattle.cm_validate.specs.Exports.{exported_extern, exported_type}
use Rattle.cm_validate.specs.Numbers.{AreNumbers}
use Rattle.cm_validate.proofs.ExternLaws.{AreShown}
use Rattle.cm_types_arena.proofs.NumberLaws.{names_there}
use Rattle.cm_lemmas.proofs.Options.{some_is, joined_some}

-- ---- numbers at their places

number_told : (at : ℕ → Option ℕ) (count : ℕ) (numbers : List (Option ℕ)) (place n : ℕ) → AreNumbers at count numbers → number_in numbers place ≡ Some n → at place ≡ Some n
number_told at count numbers place n are told =
    let here : slice_get numbers place ≡ Some (Some n) = joined_some (slice_get numbers place) n told in
    let lt : place < count = subst (λ m. place < m) are.count_is (slice_get_within numbers place (Some n) here) in
    some_is (at place) (Some n) (sym (are.each place lt) ∙ here)

-- ---- names of items

-- what holds of names holds where externs are these
alike_by : (types : List Ty) (funcs : List FuncTy) (es : List Extern) (xs : List NamedExtern) (a b : ℕ) → map (extern_of types funcs) es ≡ xs
    → names_of_named (slice_get xs a) ≡ names_of_named (slice_get xs b) → names_of_extern (slice_get es a) ≡ names_of_extern (slice_get es b)
alike_by types funcs es xs a b are same =
    let there : (k : ℕ) → names_of_named (slice_get xs k) ≡ names_of_extern (slice_get es k) = λ k. sym (ap (λ ys. names_of_named (slice_get ys k)) are) ∙ names_there types funcs es k in
    sym (there a) ∙ same ∙ there b

-- ---- imports

-- an import of an instance type has the names of its items
from_names : (i : InstanceTy) (next : ℕ) (items : List NamedItem) → map (λ x. x.name) (map (item_from i next) items) ≡ map (λ (x : NamedItem). x.name) items
from_names i next [] = refl
from_names i next (x ∷ items) = ap (λ (l : List (List ℕ)). x.name ∷ l) (from_names i next items)

import_names : (s : Spaces) (a : ℕ) (i : InstanceTy) → IsImportOf s a i → names_of_named (slice_get s.imports a) ≡ map (λ (x : NamedItem). x.name) i.items
import_names s a i is = ap names_of_named is.import_is ∙ from_names i is.next i.items

types_are_one : (i j : InstanceTy) → Some (instance_type i) ≡ Some (instance_type j) → i ≡ j
types_are_one i j e = cc

one_import : (s : Spaces) (w : Shared) (a b n : ℕ) → AreShared s w → import_type_in w a ≡ Some n → import_type_in w b ≡ Some n → names_of_named (slice_get s.imports a) ≡ names_of_named (slice_get s.imports b)
one_import s w a b n shared x y =
    let f = shared.imports a n x in
    let g = shared.imports b n y in
    import_names s a f.0 f.2
    ∙ ap (λ (i : InstanceTy). map (λ (x : NamedItem). x.name) i.items) (types_are_one f.0 g.0 (sym f.1 ∙ g.1))
    ∙ sym (import_names s b g.0 g.2)

-- ---- exports

abbrev names_of_def : Option ExportDef → List (List ℕ)
names_of_def None = []
names_of_def (Some d) = names_of_desc (exported_type d)

def_names : (e : Option NamedExport) → names_of_named (option_map exported_extern e) ≡ names_of_def (option_map (λ x. x.def) e)
def_names None = refl
def_names (Some e) = refl

export_names : (s : Spaces) (a : ℕ) (ms : List NamedMember) → export_at s a ≡ Some (exported_instance ms) → names_of_named (slice_get (map exported_extern s.exports) a) ≡ names_of_desc (instance (items_of_members ms))
export_names s a ms is = ap names_of_named (slice_get-map exported_extern s.exports a) ∙ def_names (slice_get s.exports a) ∙ ap names_of_def is

one_export : (s : Spaces) (w : Shared) (a b n : ℕ) → AreShared s w → exported_instance_in w a ≡ Some n → exported_instance_in w b ≡ Some n
    → names_of_named (slice_get (map exported_extern s.exports) a) ≡ names_of_named (slice_get (map exported_extern s.exports) b)
one_export s w a b n shared x y =
    let f = shared.exports a n x in
    let g = shared.exports b n y in
    export_names s a f.0 f.2
    ∙ ap (λ (ms : List NamedMember). names_of_desc (instance (items_of_members ms))) (some_is f.0 g.0 (sym f.1 ∙ g.1))
    ∙ sym (export_names s b g.0 g.2)

-- ---- those of one number

pub imports_alike : (types : List Ty) (funcs : List FuncTy) (s : Spaces) (w : Shared) (es : List Extern) (count : ℕ) (numbers : List (Option ℕ))
    → AreShared s w → s.imports ≡ map (extern_of types funcs) es → AreNumbers (import_type_in w) count numbers → AreAlike es numbers
imports_alike types funcs s w es count numbers shared are told = λ a b n x y.
    alike_by types funcs es s.imports a b (sym are)
    (one_import s w a b n shared (number_told (import_type_in w) count numbers a n told x) (number_told (import_type_in w) count numbers b n told y))

pub exports_alike : (types : List Ty) (funcs : List FuncTy) (s : Spaces) (w : Shared) (es : List Extern) (count : ℕ) (numbers : List (Option ℕ))
    → AreShared s w → AreShown types funcs s es → AreNumbers (exported_instance_in w) count numbers → AreAlike es numbers
exports_alike types funcs s w es count numbers shared shown told = λ a b n x y.
    alike_by types funcs es (map exported_extern s.exports) a b shown.are
    (one_export s w a b n shared (number_told (exported_instance_in w) count numbers a n told x) (number_told (exported_instance_in w) count numbers b n told y))
