-- Exports, one after another.
use Rattle.std.proofs.Common.{◌≡◌, ℕ, ◌+◌, ◌<◌, ◌≤◌, Bool, true, ◌&&◌, List, [], ◌∷◌, ◌++◌, length, map, take, get_or, None, sym, ap, ◌∙◌, subst}
use Rattle.std.proofs.lemmas.List.{map-append, take_all, take_more}
use Rattle.std.proofs.lemmas.List.Folds.{list_all-append}
use Rattle.std.specs.List.{list_all}
use Rattle.std.specs.declared.alloc.Global.{Global}
use Rattle.std.specs.declared.rc.Rc.{Rc}
use Rattle.cm_binary_model.specs.Trees.{SectionTree}
use Rattle.cm_types.specs.Signatures.{NamedExtern, SignatureTy, instance}
use Rattle.cm_types.specs.Types.{Ty, FuncTy}
use Rattle.cm_types_arena.specs.Replaced.{replaced, replaced_func}
use Rattle.cm_types_arena.specs.Instances.{items_of}
use Rattle.cm_types_arena.specs.Placed.{moved_by}
use Rattle.cm_types_arena.specs.declared.instances.InstanceType.{InstanceType}
use Rattle.cm_types_arena.specs.Externs.{extern_of, is_extern_there}
use Rattle.cm_types_arena.specs.declared.externs.Extern.{Extern}
use Rattle.cm_types_arena.specs.declared.externs.ExternDesc.TheVariants as desc
use Rattle.cm_validate_model.specs.Spaces.{Spaces, spaces_of}
use Rattle.cm_validate_model.specs.Valid.{IsValid}
use Rattle.cm_validate_items.specs.Shared.{AreShared}
use Rattle.cm_validate_items.specs.declared.shared.Shared.{Shared}
use Rattle.cm_validate_entries.specs.ComponentSpaces.{export_def, is_exported_there}
use Rattle.cm_validate_entries.specs.Entries.{members_of}
use Rattle.cm_validate_entries.specs.declared.entries.InstanceEntry.{InstanceEntry}
use Rattle.cm_validate_entries.specs.declared.spaces.ExportEntry.{ExportEntry}
use Rattle.cm_validate_entries.specs.declared.spaces.ExportedEntry.TheVariants as export
use Rattle.cm_validate.specs.Exports.{exported_extern}
use Rattle.cm_validate.specs.Made.{AreExportsOf, AreExternsOf, IsDescOf, IsExternOf, IsTypeOf}
use Rattle.cm_validate.proofs.ItemLaws.{items_stay}

-- what an instance is, by its type, which no import moves
pub instance_shown : ((t : Ty) → replaced (moved_by None) t ≡ t) → ((f : FuncTy) → replaced_func (moved_by None) f ≡ f)
    → (types : List Ty) (funcs : List FuncTy) (i : InstanceEntry) (t : Rc InstanceType Global) → IsTypeOf types funcs (members_of types funcs i) t.value → IsDescOf types funcs (export.Instance i) (desc.Instance t None)
instance_shown types_stay funcs_stay types funcs i t h = record {
  is = ap instance (items_stay types_stay funcs_stay (items_of types funcs t.value.items.items) ∙ h.are);
  there = h.there;
}

-- ---- one export more

one_more : (types : List Ty) (funcs : List FuncTy) (xs : List ExportEntry) (es : List Extern) (x : ExportEntry) (e : Extern)
    → IsExternOf types funcs x e → AreExternsOf types funcs xs es → AreExternsOf types funcs (xs ++ x ∷ []) (es ++ e ∷ [])
one_more types funcs xs es x e one all =
    let test : Extern → Bool = λ y. is_extern_there (length types) (length funcs) y.desc in
    record {
      are =
          map-append (extern_of types funcs) es (e ∷ [])
          ∙ ap (λ (ys : List NamedExtern). ys ++ extern_of types funcs e ∷ []) all.are
          ∙ ap (λ (y : NamedExtern). map exported_extern (map (export_def types funcs) xs) ++ y ∷ []) one.is
          ∙ sym (ap (map exported_extern) (map-append (export_def types funcs) xs (x ∷ [])) ∙ map-append exported_extern (map (export_def types funcs) xs) (export_def types funcs x ∷ []));
      there = list_all-append test es (e ∷ []) ∙ ap (λ (b : Bool). b && (test e && true)) all.there ∙ ap (λ (b : Bool). b && true) one.there;
    }

pub next_shown : (types : List Ty) (funcs : List FuncTy) (xs : List ExportEntry) (es fs : List Extern) (i : ℕ) (x : ExportEntry) (e : Extern)
    → i < length xs → x ≡ get_or xs i x → fs ≡ es ++ e ∷ [] → IsExternOf types funcs x e → AreExternsOf types funcs (take i xs) es → AreExternsOf types funcs (take (i + 1) xs) fs
next_shown types funcs xs es fs i x e lt is pushed one all =
    subst (AreExternsOf types funcs (take (i + 1) xs)) (sym pushed)
    (subst (λ (ys : List ExportEntry). AreExternsOf types funcs ys (es ++ e ∷ [])) (sym (take_more xs i x lt ∙ ap (λ (y : ExportEntry). take i xs ++ y ∷ []) (sym is)))
    (one_more types funcs (take i xs) es x e one all))

pub all_shown : (types : List Ty) (funcs : List FuncTy) (xs : List ExportEntry) (es : List Extern) (i : ℕ) → length xs ≤ i → AreExternsOf types funcs (take i xs) es → AreExternsOf types funcs xs es
all_shown types funcs xs es i le all = subst (λ (ys : List ExportEntry). AreExternsOf types funcs ys es) (take_all i xs le) all

-- ---- the places of one arena

-- these externs are what a component with these index spaces exports
pub record AreShown (t : List Ty) (f : List FuncTy) (s : Spaces) (es : List Extern) : Type 0 where
  pub are : map (extern_of t f) es ≡ map exported_extern s.exports
  pub there : list_all (λ (e : Extern). is_extern_there (length t) (length f) e.desc) es ≡ true

pub shared_in : (c d : List SectionTree) (w : Shared) → c ≡ d → (IsValid c → AreShared (spaces_of c) w) → IsValid d → AreShared (spaces_of d) w
shared_in c d w same shared valid = subst (λ (a : List SectionTree). AreShared (spaces_of a) w) same (shared (subst IsValid (sym same) valid))

pub shown_in : (t u : List Ty) (f g : List FuncTy) (s : Spaces) (w : Shared) (xs ys : List ExportEntry) (es : List Extern) → t ≡ u → f ≡ g → xs ≡ ys
    → ((types : List Ty) (funcs : List FuncTy) (s : Spaces) → AreShared s w → AreExportsOf types funcs s xs → AreExternsOf types funcs xs es)
    → AreShared s w → s.exports ≡ map (export_def u g) ys → list_all (λ (x : ExportEntry). is_exported_there (length u) (length g) x.def) ys ≡ true → AreShown t f s es
shown_in t u f g s w xs ys es types funcs exports shown shared are there =
    let same : s.exports ≡ map (export_def u g) xs = are ∙ ap (map (export_def u g)) (sym exports) in
    let h = shown u g s shared (record { are = same; there = ap (list_all (λ (x : ExportEntry). is_exported_there (length u) (length g) x.def)) exports ∙ there }) in
    subst (λ (v : List Ty). AreShown v f s es) (sym types)
    (subst (λ (v : List FuncTy). AreShown u v s es) (sym funcs)
    (record { are = h.are ∙ ap (map exported_extern) (sym same); there = h.there }))

pub imports_there : (t u : List Ty) (f g : List FuncTy) (es : List Extern) → t ≡ u → f ≡ g
    → list_all (λ (e : Extern). is_extern_there (length u) (length g) e.desc) es ≡ true → list_all (λ (e : Extern). is_extern_there (length t) (length f) e.desc) es ≡ true
imports_there t u f g es a b h =
    subst (λ (v : List Ty). list_all (λ (e : Extern). is_extern_there (length v) (length f) e.desc) es ≡ true) (sym a)
    (subst (λ (v : List FuncTy). list_all (λ (e : Extern). is_extern_there (length u) (length v) e.desc) es ≡ true) (sym b) h)

pub imports_are : (t u : List Ty) (f g : List FuncTy) (es : List Extern) → t ≡ u → f ≡ g → map (extern_of t f) es ≡ map (extern_of u g) es
imports_are t u f g es a b = ap (λ (v : List Ty). map (extern_of v f) es) a ∙ ap (λ (v : List FuncTy). map (extern_of u v) es) b

abbrev signature_with : List NamedExtern → List NamedExtern → SignatureTy
signature_with imports exports = record { imports = imports; exports = exports }

pub signature_is : (s u : SignatureTy) → s.imports ≡ u.imports → s.exports ≡ u.exports → s ≡ u
signature_is s u e f = ap (λ (is : List NamedExtern). signature_with is s.exports) e ∙ ap (signature_with u.imports) f
