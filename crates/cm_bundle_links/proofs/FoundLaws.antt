-- What is found in tables of exports, by sort and name.
use Rattle.std.proofs.Common.{◌≡◌, ◌∙◌, ℕ, zero, suc, ◌+◌, ◌==◌, Bool, true, false, cond, List, [], ◌∷◌, inl, inr, map, Some, None, refl, slice_get, sym, ap, arith, option_and_then}
use Rattle.std.proofs.lemmas.Bool.{and_from, cases_Bool}
use Rattle.std.specs.List.{position_from}
use Rattle.std.specs.Str.{bytes_eq}
use Rattle.cm_lemmas.proofs.Bools.{both_true, true_not_false}
use Rattle.cm_lemmas.proofs.Lists.{same_text, text_same}
use Rattle.cm_lemmas.proofs.Numbers.{eq_of, eq_true}
use Rattle.cm_lemmas.proofs.Options.{none_number, some_is, some_turned, stepped}
use Rattle.cm_names.specs.Keys.{first_key, is_key}
use Rattle.cm_types.specs.Signatures.{NamedExtern}
use Rattle.cm_validate_model.specs.Definitions.{NamedExport}
use Rattle.cm_validate_model.specs.Spaces.{Spaces}
use Rattle.cm_bundle.specs.declared.form.Sort.{Sort}
use Rattle.cm_bundle.specs.declared.form.Sort.TheVariants as sorts
use Rattle.cm_bundle.specs.Bundled.{export_at, export_sort, import_sort}
use Rattle.cm_bundle.specs.Trees.{ExportTree, SupplyTree}
use Rattle.cm_bundle_links.specs.Links.{IsFor, IsNamed}
use Rattle.cm_bundle_links.specs.Tables.{export_named, is_for, key_of, keys_in, sort_number}

-- ---- sorts

same_sort : (a b : Sort) → sort_number a ≡ sort_number b → a ≡ b
same_sort sorts.Func sorts.Func e = refl
same_sort sorts.Func sorts.Instance e = absurd (cc)
same_sort sorts.Instance sorts.Func e = absurd (cc)
same_sort sorts.Instance sorts.Instance e = refl

-- ---- an argument for an import

pub is_for_it : (i : NamedExtern) (x : SupplyTree) → is_for i x ≡ true → IsFor i x
is_for_it i x e =
    let both = both_true (bytes_eq x.name i.name) (sort_number x.export.sort == sort_number (import_sort i.desc)) e in
    record {
      name = same_text x.name i.name both.0;
      sort = same_sort x.export.sort (import_sort i.desc) (eq_of _ _ both.1);
    }

pub is_for_other : (i : NamedExtern) (x : SupplyTree) → is_for i x ≡ false → IsFor i x → ⊥
is_for_other i x e f =
    let both : is_for i x ≡ true = and_from (bytes_eq x.name i.name) (sort_number x.export.sort == sort_number (import_sort i.desc)) (text_same x.name i.name f.name) (eq_true _ _ (ap sort_number f.sort)) in
    true_not_false (sym both ∙ e)

-- ---- an export that is named

named_key : (x : ExportTree) (e : NamedExport) → is_key (sort_number x.sort) x.name (key_of e) ≡ true → IsNamed x e
named_key x e is =
    let both = both_true (sort_number x.sort == sort_number (export_sort e.def)) (bytes_eq x.name e.name) is in
    record {
      name = sym (same_text x.name e.name both.1);
      sort = same_sort (export_sort e.def) x.sort (sym (eq_of _ _ both.0));
    }

key_named : (x : ExportTree) (e : NamedExport) → IsNamed x e → is_key (sort_number x.sort) x.name (key_of e) ≡ true
key_named x e is =
    and_from (sort_number x.sort == sort_number (export_sort e.def)) (bytes_eq x.name e.name) (eq_true _ _ (ap sort_number (sym is.sort))) (text_same x.name e.name (sym is.name))

-- what is found among these, and passes
abbrev Finds : {A B : Type 0} → (B → Bool) → (A → B) → ℕ → List A → ℕ → Type 0
Finds {A} t f i xs n = (k : ℕ) × (n ≡ i + k) × (x : A) × (slice_get xs k ≡ Some x) × (t (f x) ≡ true)

found : {A B : Type 0} (t : B → Bool) (f : A → B) (i : ℕ) (xs : List A) (n : ℕ) → position_from t i (map f xs) ≡ Some n → Finds t f i xs n
found t f i [] n e = absurd cc
found t f i (x ∷ xs) n e = elim (cases_Bool (t (f x))) [
  | inl y ↦
      let is : n ≡ i = some_turned i n (sym (ap (λ (b : Bool). cond b (Some i) (position_from t (i + 1) (map f xs))) y) ∙ e) in
      (zero, omega (arith, is), x, refl, y)
  | inr fails ↦
      let h = found t f (i + 1) xs n (sym (ap (λ (b : Bool). cond b (Some i) (position_from t (i + 1) (map f xs))) fails) ∙ e) in
      (suc h.0, omega (arith, h.1), h.2, h.3, h.4)
]

none_found : {A B : Type 0} (t : B → Bool) (f : A → B) (i : ℕ) (xs : List A) → position_from t i (map f xs) ≡ None → (k : ℕ) (x : A) → slice_get xs k ≡ Some x → t (f x) ≡ true → ⊥
none_found t f i [] e k x there passes = absurd cc
none_found t f i (y ∷ xs) e zero x there passes =
    let first : t (f y) ≡ true = ap (λ z. t (f z)) (some_is y x there) ∙ passes in
    none_number i (sym e ∙ ap (λ (b : Bool). cond b (Some i) (position_from t (i + 1) (map f xs))) first)
none_found t f i (y ∷ xs) e (suc k) x there passes = elim (cases_Bool (t (f y))) [
  | inl first ↦ absurd (none_number i (sym e ∙ ap (λ (b : Bool). cond b (Some i) (position_from t (i + 1) (map f xs))) first))
  | inr fails ↦ none_found t f (i + 1) xs (sym (ap (λ (b : Bool). cond b (Some i) (position_from t (i + 1) (map f xs))) fails) ∙ e) k x there passes
]

-- the export that is found is there, and named so
pub export_found : (set : List Spaces) (c n : ℕ) (x : ExportTree) → export_named set c x ≡ Some n → (e : NamedExport) × (export_at set c n ≡ Some e) × IsNamed x e
export_found set c n x is =
    let s = stepped (slice_get set c) (λ s. first_key (keys_in s) (sort_number x.sort) x.name) n is in
    let h = found (is_key (sort_number x.sort) x.name) key_of 0 s.0.exports n s.2 in
    let same : h.0 ≡ n = omega (arith, h.1) in (
      h.2,
      ap (option_and_then (λ (s : Spaces). slice_get s.exports n)) s.1 ∙ ap (slice_get s.0.exports) (sym same) ∙ h.3,
      named_key x h.2 h.4,
    )

-- where none is found, none is named so
pub export_missing : (set : List Spaces) (c n : ℕ) (x : ExportTree) (e : NamedExport) → export_named set c x ≡ None → export_at set c n ≡ Some e → IsNamed x e → ⊥
export_missing set c n x e is there named =
    let s = stepped (slice_get set c) (λ (s : Spaces). slice_get s.exports n) e there in
    none_found (is_key (sort_number x.sort) x.name) key_of 0 s.0.exports
    (sym (ap (option_and_then (λ (s : Spaces). first_key (keys_in s) (sort_number x.sort) x.name)) s.1) ∙ is) n e s.2 (key_named x e named)
