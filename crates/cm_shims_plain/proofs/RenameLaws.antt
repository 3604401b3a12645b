-- A shim renames, and does nothing else.
use Rattle.std.proofs.Common.{◌≡◌, ℕ, ◌+◌, ◌≤◌, List, [], ◌∷◌, map, slice_get, Option, Some, None, Result, Ok, Err, refl, ap, subst, arith, inl, inr}
use Rattle.std.specs.List.{AllByRecursion}
use Rattle.std.specs.Option.{option_and_then}
use Rattle.cm_binary_grammar.specs.Faults.{and_then}
use Rattle.cm_names.specs.Keys.{first_key}
use Rattle.cm_types.specs.DefTypes.{DefTypeTree}
use Rattle.cm_types.specs.declared.def_types.ExportDesc.{ExportDesc}
use Rattle.cm_types.specs.declared.def_types.ExportDesc.TheVariants as descs
use Rattle.cm_types.specs.declared.def_types.TypeBound.TheVariants as bounds
use Rattle.cm_binary_model.specs.declared.instances.InlineExport.{InlineExport}
use Rattle.cm_binary_model.specs.declared.instances.InstanceExportSort.{InstanceExportSort}
use Rattle.cm_binary_model.specs.declared.instances.InstanceExportSort.TheVariants as sorts
use Rattle.cm_binary_model.specs.Trees as sections
use Rattle.cm_binary_model.specs.Trees.{SectionTree}
use Rattle.cm_shims_plain.specs.declared.parts.ShimExport.{ShimExport}
use Rattle.cm_shims_plain.specs.declared.parts.ShimImport.{ShimImport}
use Rattle.cm_shims_plain.specs.Trees as trees
use Rattle.cm_shims_plain.specs.Trees.{ShimSectionTree}
use Rattle.cm_shims_plain.specs.declared.fault.ShimReason.{ShimReason}
use Rattle.cm_shims_plain.specs.declared.wants.Want.{Want}
use Rattle.cm_shims_plain.specs.Instantiated.{Given, Instantiated, argument, type_at, func_at, type_argument, imported, import_step, type_step, with_ascribed, exported, export_step, shared_step, shim_step, instantiated, instantiating}
use Rattle.cm_shims_plain.specs.Names.{argument_key, sort_key}
use Rattle.cm_shims_plain.specs.Renaming.{IsGiven, IsTypeThere, IsRenamed, RenamesAll}
use Rattle.cm_shims_plain.specs.Renumbered.{copied}
use Rattle.cm_shims_plain.specs.Spaces.{place}
use Rattle.cm_shims_plain.specs.Steps.{each, or_reason}
use Rattle.cm_lemmas.proofs.Equations.{ok_is}
use Rattle.cm_lemmas.proofs.Results.{ok_of}
use Rattle.cm_lemmas.proofs.Lists.{all_push, got_there}

-- ---- what an answer rests on

record Before {A B E : Type 0} (r : Result A E) (k : A → Result B E) (t : B) : Type 0 where
  value : A
  was : r ≡ Ok value
  then : k value ≡ Ok t

before : {A B E : Type 0} (r : Result A E) (k : A → Result B E) (t : B) → and_then r k ≡ Ok t → Before r k t
before (Ok x) k t h = record { value = x; was = refl; then = h }
before (Err e) k t h = absurd cc

some_of : {A : Type 0} (reason : ShimReason) (o : Option A) (x : A) → or_reason reason o ≡ Ok x → o ≡ Some x
some_of reason (Some y) x h = ap Some (ok_is ShimReason y x h)
some_of reason None x h = absurd cc

got : (xs : List ℕ) (o : Option ℕ) (f : ℕ) → option_and_then (slice_get xs) o ≡ Some f → (n : ℕ) × (slice_get xs n ≡ Some f)
got xs (Some n) f h = (n, h)
got xs None f h = absurd cc

given : (g : Given) (sort : InstanceExportSort) (name : List ℕ) (f : ℕ) → argument g.args sort name ≡ Ok f → IsGiven g f
given g sort name f h = got _ (first_key (map argument_key g.args) (sort_key sort) name) f (some_of _ _ f h)

each_so : {A : Type 0} (P Q : A → Type 0) → ((x : A) → P x → Q x) → (xs : List A) → AllByRecursion P xs → AllByRecursion Q xs
each_so P Q f [] h = h
each_so P Q f (x ∷ xs) h = (f x h.0, each_so P Q f xs h.1)

there : (P : ℕ → Type 0) (xs : List ℕ) (n p : ℕ) → AllByRecursion P xs → slice_get xs n ≡ Some p → P p
there P xs n p h s = let at = got_there P xs n h in rw s at at

-- ---- as far as a shim was gone through

record Renames (g : Given) (first : ℕ) (s : Instantiated) : Type 0 where
  from : first ≤ s.types.count
  types : AllByRecursion (IsTypeThere g first s.types.count) s.types.places
  funcs : AllByRecursion (IsGiven g) s.funcs
  exports : RenamesAll g first s.types.count s.exports

type_grows : (g : Given) (first count : ℕ) (p : ℕ) → IsTypeThere g first count p → IsTypeThere g first (count + 1) p
type_grows g first count p (inl h) = inl h
type_grows g first count p (inr h) = inr (h.0, omega (arith, h.1))

renamed_grows : (g : Given) (first count : ℕ) (sort : InstanceExportSort) (i : ℕ) → IsRenamed g first count sort i → IsRenamed g first (count + 1) sort i
renamed_grows g first count sorts.Func i h = h
renamed_grows g first count sorts.Type i h = type_grows g first count i h

type_argument_there : (g : Given) (first count : ℕ) (name : List ℕ) (p : ℕ) → type_argument g name ≡ Ok p → IsTypeThere g first count p
type_argument_there g first count name p h =
    let b = before (argument g.args sorts.Type name) (type_at g.outer) p h in
    inl (b.value, some_of _ _ p b.then)

same : (g : Given) (first : ℕ) (s t : Instantiated) → ok_of ShimReason s ≡ ok_of ShimReason t → Renames g first s → Renames g first t
same g first s t h r = subst (Renames g first) (ok_is ShimReason s t h) r

imports_rename : (g : Given) (first : ℕ) (s t : Instantiated) (name : List ℕ) (d : ExportDesc) → Renames g first s → imported g s name d ≡ Ok t → Renames g first t
imports_rename g first s t name (descs.Func ty) r h =
    let a = before (argument g.args sorts.Func name) _ t h in
    let b = before (type_at s.types.places ty) _ t a.then in
    same g first _ t b.then (record { from = r.from; types = r.types; funcs = all_push (IsGiven g) s.funcs a.value r.funcs (given g sorts.Func name a.value a.was); exports = r.exports })
imports_rename g first s t name (descs.Type (bounds.Equal ty)) r h =
    let a = before (type_argument g name) _ t h in
    let b = before (type_at s.types.places ty) _ t a.then in
    same g first _ t b.then (record { from = r.from; types = all_push (IsTypeThere g first s.types.count) s.types.places a.value r.types (type_argument_there g first s.types.count name a.value a.was); funcs = r.funcs; exports = r.exports })
imports_rename g first s t name (descs.Type bounds.SubResource) r h =
    let a = before (type_argument g name) _ t h in
    same g first _ t a.then (record { from = r.from; types = all_push (IsTypeThere g first s.types.count) s.types.places a.value r.types (type_argument_there g first s.types.count name a.value a.was); funcs = r.funcs; exports = r.exports })

types_rename : (g : Given) (first : ℕ) (s t : Instantiated) (d : DefTypeTree) → Renames g first s → type_step s d ≡ Ok t → Renames g first t
types_rename g first s t d r h =
    let a = before (or_reason _ (copied (place s.types) d)) _ t h in
    let n = s.types.count in
    same g first _ t a.then (record {
      from = omega (arith, r.from);
      types = all_push (IsTypeThere g first (n + 1)) s.types.places n (each_so _ _ (type_grows g first n) s.types.places r.types) (inr (r.from, omega arith));
      funcs = r.funcs;
      exports = each_so _ _ (λ (e : InlineExport) x. renamed_grows g first n e.sort e.index x) s.exports r.exports;
    })

ascribed_renames : (g : Given) (first : ℕ) (s t : Instantiated) (f : ℕ) (ty : Option ℕ) → Renames g first s → with_ascribed f ty s ≡ Ok t → Renames g first t
ascribed_renames g first s t f None r h = same g first s t h r
ascribed_renames g first s t f (Some ty) r h =
    let a = before (type_at s.types.places ty) _ t h in
    same g first _ t a.then (record { from = r.from; types = r.types; funcs = r.funcs; exports = r.exports })

exports_rename : (g : Given) (first : ℕ) (s t : Instantiated) (name : List ℕ) (sort : InstanceExportSort) (i : ℕ) (ty : Option ℕ) → Renames g first s → exported s name sort i ty ≡ Ok t → Renames g first t
exports_rename g first s t name sorts.Func i ty r h =
    let a = before (func_at s.funcs i) _ t h in
    let b = before (with_ascribed a.value ty s) _ t a.then in
    let u = ascribed_renames g first s b.value a.value ty r b.was in
    let known = there (IsGiven g) s.funcs i a.value r.funcs (some_of _ _ a.value a.was) in
    same g first _ t b.then (record { from = u.from; types = u.types; funcs = all_push (IsGiven g) b.value.funcs a.value u.funcs known; exports = all_push _ b.value.exports _ u.exports known })
exports_rename g first s t name sorts.Type i ty r h =
    let a = before (type_at s.types.places i) _ t h in
    let known = there (IsTypeThere g first s.types.count) s.types.places i a.value r.types (some_of _ _ a.value a.was) in
    same g first _ t a.then (record { from = r.from; types = all_push (IsTypeThere g first s.types.count) s.types.places a.value r.types known; funcs = r.funcs; exports = all_push _ s.exports _ r.exports known })

each_renames : {A : Type 0} (g : Given) (first : ℕ) (step : Instantiated → A → Result Instantiated ShimReason) → ((s t : Instantiated) (x : A) → Renames g first s → step s x ≡ Ok t → Renames g first t) → (xs : List A) (s t : Instantiated) → Renames g first s → each step s xs ≡ Ok t → Renames g first t
each_renames g first step keeps [] s t r h = same g first s t h r
each_renames g first step keeps (x ∷ xs) s t r h =
    let a = before (step s x) (λ u. each step u xs) t h in
    each_renames g first step keeps xs a.value t (keeps s a.value x r a.was) a.then

shared_renames : (g : Given) (first : ℕ) (s t : Instantiated) (x : SectionTree) → Renames g first s → shared_step s x ≡ Ok t → Renames g first t
shared_renames g first s t (sections.types ts) r h = each_renames g first type_step (λ s t d r h. types_rename g first s t d r h) ts s t r h
shared_renames g first s t (sections.custom name bytes) r h = same g first s t h r
shared_renames g first s t (sections.core_module bytes) r h = same g first s t h r
shared_renames g first s t (sections.core_instances items) r h = same g first s t h r
shared_renames g first s t (sections.instances items) r h = same g first s t h r
shared_renames g first s t (sections.aliases items) r h = same g first s t h r
shared_renames g first s t (sections.canons items) r h = same g first s t h r
shared_renames g first s t (sections.imports items) r h = same g first s t h r
shared_renames g first s t (sections.exports items) r h = same g first s t h r

section_renames : (g : Given) (first : ℕ) (s t : Instantiated) (x : ShimSectionTree) → Renames g first s → shim_step g s x ≡ Ok t → Renames g first t
section_renames g first s t (trees.shared x) r h = shared_renames g first s t x r h
section_renames g first s t (trees.shim_imports items) r h = each_renames g first (import_step g) (λ s t (i : ShimImport) r h. imports_rename g first s t i.name i.desc r h) items s t r h
section_renames g first s t (trees.shim_exports items) r h = each_renames g first export_step (λ s t (e : ShimExport) r h. exports_rename g first s t e.name e.sort e.index e.ascribed r h) items s t r h

pub shims_rename : (g : Given) (first : ℕ) (made : List DefTypeTree) (wants : List Want) (shim : List ShimSectionTree) (t : Instantiated) → instantiated g (instantiating first made wants) shim ≡ Ok t → RenamesAll g first t.types.count t.exports
shims_rename g first made wants shim t h =
    let start : Renames g first (instantiating first made wants) = record { from = omega arith; types = tt; funcs = tt; exports = tt } in
    let end = each_renames g first (shim_step g) (λ s t x r h. section_renames g first s t x r h) shim (instantiating first made wants) t start h in
    end.exports
