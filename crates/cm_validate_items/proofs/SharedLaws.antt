-- What the numbers of a valid component say.
use Rattle.std.proofs.Common.{◌≡◌, ℕ, List, Option, Some, None, slice_get, refl, sym, ap, subst, ◌∙◌, ◌<◌, length, arith}
use Rattle.std.proofs.lemmas.Option.{slice_get_within}
use Rattle.std.specs.Option.{option_and_then, option_map}
use Rattle.std.specs.Prelude.{IsSome}
use Rattle.cm_binary_model.specs.Trees.{SectionTree}
use Rattle.cm_types.specs.Signatures.{ExternTy, NamedExtern, NamedItem}
use Rattle.cm_types.specs.Signatures as extern
use Rattle.cm_validate_model.specs.Definitions.{InstanceTy, NamedExport, NamedMember, TypeDef, exported_func, exported_instance, instance_type}
use Rattle.cm_validate_model.specs.Items.{Item, all_items}
use Rattle.cm_validate_model.specs.Spaces.{Spaces, after_items, empty_spaces, next_resource, spaces_of}
use Rattle.cm_validate_model.specs.Valid.{IsValid}
use Rattle.cm_validate_model.specs.CountedSpaces.{AreSpacesCounted, IsDefCounted, IsInstanceCounted}
use Rattle.cm_validate_items.specs.Numbers.{Numbers, no_numbers, numbers_of}
use Rattle.cm_validate_items.specs.Shared.{AreShared, IsImportOf, export_at, exported_instance_in, import_at, import_type_in, numbers_in}
use Rattle.cm_validate_items.specs.declared.shared.Shared.{Shared}
use Rattle.cm_validate_items.proofs.FollowLaws.{AreExports, AreImports, Follows, follow_all, none_follow}
use Rattle.cm_lemmas.proofs.Lists.{got_at, item_there}
use Rattle.cm_lemmas.proofs.Options.{joined_some}

mapped : {A B : Type 0} (f : A → B) (o : Option A) (y : B) → option_map f o ≡ Some y → (x : A) × (o ≡ Some x)
mapped f None y e = absurd cc
mapped f (Some x) y e = (x, refl)

-- an import that is an instance has a number
import_told : (s : Spaces) (ns : List (Option ℕ)) (j : ℕ) (items : List NamedItem) (o : Option (Option ℕ)) → AreImports s ns → import_at s j ≡ Some (extern.instance items) → slice_get ns j ≡ o → IsSome (option_and_then (λ q. q) o)
import_told s ns j items None k e h =
    let x = mapped (λ (y : NamedExtern). y.desc) (slice_get s.imports j) (extern.instance items) e in
    let lt : j < length ns = omega (arith, k.long, slice_get_within s.imports j x.0 x.1) in
    let t = item_there ns j lt in
    let u : Some t.0 ≡ None = sym t.1 ∙ h in
    absurd cc
import_told s ns j items (Some None) k e h =
    let f = k.each j None h in
    let u : Some (extern.func f.1) ≡ Some (extern.instance items) = sym (ap (λ (o : Option NamedExtern). option_map (λ x. x.desc) o) f.2) ∙ e in
    absurd cc
import_told s ns j items (Some (Some r)) k e h = refl

-- an export that is an instance has a number
export_told : (s : Spaces) (ns : List (Option ℕ)) (j : ℕ) (ms : List NamedMember) (o : Option (Option ℕ)) → AreExports s ns → export_at s j ≡ Some (exported_instance ms) → slice_get ns j ≡ o → IsSome (option_and_then (λ q. q) o)
export_told s ns j ms None k e h =
    let x = mapped (λ (y : NamedExport). y.def) (slice_get s.exports j) (exported_instance ms) e in
    let lt : j < length ns = omega (arith, k.long, slice_get_within s.exports j x.0 x.1) in
    let t = item_there ns j lt in
    let u : Some t.0 ≡ None = sym t.1 ∙ h in
    absurd cc
export_told s ns j ms (Some None) k e h =
    let f = k.each j None h in
    let u : Some (exported_func f.1) ≡ Some (exported_instance ms) = sym (ap (λ (o : Option NamedExport). option_map (λ x. x.def) o) f.2) ∙ e in
    absurd cc
export_told s ns j ms (Some (Some r)) k e h = refl

shared_of : (s : Spaces) (w : Shared) → Follows s (numbers_in w) → AreShared s w
shared_of s w k = record {
  imports = λ j r e. k.imports.each j (Some r) (joined_some (slice_get w.imports.items j) r e);
  exports = λ j r e. let x = k.exports.each j (Some r) (joined_some (slice_get w.exports.items j) r e) in (x.1, x.2, ap (λ (o : Option NamedExport). option_map (λ y. y.def) o) x.3);
  all_imports = λ j items e. import_told s w.imports.items j items (slice_get w.imports.items j) k.imports e refl;
  all_exports = λ j ms e. export_told s w.exports.items j ms (slice_get w.exports.items j) k.exports e refl;
}

pub valid_shared : (sections : List SectionTree) (w : Shared) → ((front : List Item) → AreSpacesCounted (after_items empty_spaces front)) → numbers_in w ≡ numbers_of sections → IsValid sections → AreShared (spaces_of sections) w
valid_shared sections w c e v = shared_of (spaces_of sections) w (subst (λ (n : Numbers). Follows (spaces_of sections) n) (sym e) (follow_all empty_spaces no_numbers (all_items sections) c none_follow v))

-- ---- equal numbers

one_type : (i j : InstanceTy) (o : Option TypeDef) → o ≡ Some (instance_type i) → o ≡ Some (instance_type j) → i ≡ j
one_type i j o e h = let u : Some (instance_type i) ≡ Some (instance_type j) = sym e ∙ h in cc

one_instance : (ms ns : List NamedMember) (o : Option (List NamedMember)) → o ≡ Some ms → o ≡ Some ns → ms ≡ ns
one_instance ms ns o e h = let u : Some ms ≡ Some ns = sym e ∙ h in cc

pub imports_are_one : (s : Spaces) (w : Shared) (j k r : ℕ) → AreShared s w → import_type_in w j ≡ Some r → import_type_in w k ≡ Some r → (i : InstanceTy) × IsImportOf s j i × IsImportOf s k i
imports_are_one s w j k r a e h =
    let x = a.imports j r e in
    let y = a.imports k r h in
    (x.0, x.2, subst (λ (i : InstanceTy). IsImportOf s k i) (one_type y.0 x.0 (slice_get s.types r) y.1 x.1) y.2)

pub exports_are_one : (s : Spaces) (w : Shared) (j k r : ℕ) → AreShared s w → exported_instance_in w j ≡ Some r → exported_instance_in w k ≡ Some r → export_at s j ≡ export_at s k
exports_are_one s w j k r a e h =
    let x = a.exports j r e in
    let y = a.exports k r h in
    x.2 ∙ (ap (λ (ms : List NamedMember). Some (exported_instance ms)) (one_instance x.0 y.0 (slice_get s.instances r) x.1 y.1) ∙ sym y.2)

pub imports_counted : ((sections : List SectionTree) → AreSpacesCounted (spaces_of sections)) → (sections : List SectionTree) (w : Shared) (j k r : ℕ) → AreShared (spaces_of sections) w
    → import_type_in w j ≡ Some r → import_type_in w k ≡ Some r
    → (i : InstanceTy) × IsInstanceCounted (next_resource (spaces_of sections)) i × IsImportOf (spaces_of sections) j i × IsImportOf (spaces_of sections) k i
imports_counted c sections w j k r a e h =
    let s = spaces_of sections in
    let x = a.imports j r e in
    let y = a.imports k r h in (
      x.0,
      got_at (IsDefCounted (next_resource s)) s.types r (instance_type x.0) (c sections).types x.1,
      x.2,
      subst (λ (i : InstanceTy). IsImportOf s k i) (one_type y.0 x.0 (slice_get s.types r) y.1 x.1) y.2,
    )
