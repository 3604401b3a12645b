-- Imports are linked to exports of earlier components.
use Rattle.std.proofs.Common.{◌≡◌, ℕ, zero, suc, ◌+◌, ◌<◌, ◌≤◌, List, [], ◌∷◌, ◌++◌, length, Some, refl, sym, ap, subst, ◌∙◌, arith, take, append_assoc, length-append, ◌&&◌, option_and_then, slice_get}
use Rattle.std.specs.Prelude.{unwrap_or}
use Rattle.std.specs.List.{AllByRecursion}
use Rattle.std.specs.Option.{option_map}
use Rattle.cm_types.specs.Signatures.{NamedExtern}
use Rattle.cm_match_model.specs.Fitting.{NamedExport, fits}
use Rattle.cm_validate_model.specs.Definitions as definitions
use Rattle.cm_validate_model.specs.Spaces.{Spaces}
use Rattle.cm_match_model.specs.Origins.{LeadEarlier}
use Rattle.cm_match_model.specs.declared.component.Link.{Link}
use Rattle.cm_match_model.specs.Imports.{LinkSet, all_exports_from, export_in, exports_before, exports_from, import_at, import_in, link_of, links_of, only_link}
use Rattle.cm_match_model.proofs.ListLemmas.{all_kept}
use Rattle.cm_lemmas.proofs.Lists.{all_both}
use Rattle.cm_lemmas.proofs.Options.{stepped}

abbrev pub IsOf : ℕ → NamedExport → Type 0
IsOf n e = e.component < n

own_exports : (n c k : ℕ) (xs : List definitions.NamedExport) → c < n → AllByRecursion (IsOf n) (exports_from c k xs)
own_exports n c k [] h = tt {0}
own_exports n c k (x ∷ xs) h = (h, own_exports n c (k + 1) xs h)

pub all_exports : (n c : ℕ) (ss : List Spaces) → c + length ss ≤ n → AllByRecursion (IsOf n) (all_exports_from c ss)
all_exports n c [] h = tt {0}
all_exports n c (s ∷ ss) h = all_both (IsOf n) (exports_from c 0 s.exports) (all_exports_from (c + 1) ss) (own_exports n c 0 s.exports (omega (arith, h))) (all_exports n (c + 1) ss (omega (arith, h)))

pub so_many : (n : ℕ) (ss : List Spaces) → length (take n ss) ≤ n
so_many zero ss = omega arith
so_many (suc n) [] = omega arith
so_many (suc n) (s ∷ ss) = omega (arith, so_many n ss)

only_of_these : (n : ℕ) (es : List NamedExport) (l : Link) → AllByRecursion (IsOf n) es → only_link es ≡ Some l → l.component < n
only_of_these n [] l h k = cc k
only_of_these n (e ∷ []) l h k = subst (λ m. m < n) (ap (λ o. (unwrap_or o l).component) k) h.0
only_of_these n (e ∷ f ∷ es) l h k = cc k

pub linked_earlier : (set : LinkSet) (c k : ℕ) (x : NamedExtern) (l : Link) → link_of set (import_at c k x) ≡ Some l → l.component < c
linked_earlier set c k x l h =
    only_of_these c _ l (all_kept (IsOf c) (λ e. set.sees c k e && fits x.name e.name) (exports_before set.spaces c) (all_exports c 0 (take c set.spaces) (omega (arith, so_many c set.spaces)))) h

pub lead_earlier : (set : LinkSet) → LeadEarlier (links_of set)
lead_earlier set c k l h =
    let x = stepped (import_in set.spaces c k) (λ x. link_of set (import_at c k x)) l h in
    linked_earlier set c k x.0 l x.2

-- ---- what an import is linked to is there

seam : {A : Type 0} (front xs : List A) (x : A) (k : ℕ) → length front ≡ k → slice_get (front ++ x ∷ xs) k ≡ Some x
seam [] xs x zero h = refl
seam [] xs x (suc k) h = absurd (omega (arith, h))
seam (y ∷ ys) xs x zero h = absurd (omega (arith, h))
seam (y ∷ ys) xs x (suc k) h = seam ys xs x k (omega (arith, h))

-- an export that is there
IsThere : List Spaces → NamedExport → Type 0
IsThere set e = (d : definitions.ExportDef) × (export_in set e.component e.number ≡ Some d)

own_there : (set : List Spaces) (c : ℕ) (s : Spaces) (k : ℕ) (front xs : List definitions.NamedExport) → slice_get set c ≡ Some s → s.exports ≡ front ++ xs → length front ≡ k → AllByRecursion (IsThere set) (exports_from c k xs)
unfolding IsThere
own_there set c s k front [] there split count = tt {0}
own_there set c s k front (x ∷ xs) there split count = (
  (x.def, ap (option_and_then (λ s. option_map (λ (e : definitions.NamedExport). e.def) (slice_get s.exports k))) there ∙ ap (option_map (λ (e : definitions.NamedExport). e.def)) (ap (λ ys. slice_get ys k) split ∙ seam front xs x k count)),
  own_there set c s (k + 1) (front ++ x ∷ []) xs there (split ∙ sym (append_assoc front (x ∷ []) xs)) (length-append front (x ∷ []) ∙ ap (λ n. n + 1) count),
)

all_there : (set : List Spaces) (c : ℕ) (front ss : List Spaces) (n : ℕ) → set ≡ front ++ ss → length front ≡ c → AllByRecursion (IsThere set) (all_exports_from c (take n ss))
all_there set c front ss zero split count = tt {0}
all_there set c front [] (suc n) split count = tt {0}
all_there set c front (s ∷ ss) (suc n) split count =
    all_both (IsThere set) (exports_from c 0 s.exports) (all_exports_from (c + 1) (take n ss))
    (own_there set c s 0 [] s.exports (ap (λ ys. slice_get ys c) split ∙ seam front ss s c count) refl refl)
    (all_there set (c + 1) (front ++ s ∷ []) ss n (split ∙ sym (append_assoc front (s ∷ []) ss)) (length-append front (s ∷ []) ∙ ap (λ n. n + 1) count))

only_there : (set : List Spaces) (es : List NamedExport) (l : Link) → AllByRecursion (IsThere set) es → only_link es ≡ Some l → (d : definitions.ExportDef) × (export_in set l.component l.export ≡ Some d)
unfolding IsThere
only_there set [] l h k = cc k
only_there set (e ∷ []) l h k = subst (λ (m : Link). (d : definitions.ExportDef) × (export_in set m.component m.export ≡ Some d)) (ap (λ o. unwrap_or o l) k) h.0
only_there set (e ∷ f ∷ es) l h k = cc k

pub name_exports : (set : LinkSet) (c n : ℕ) (l : Link) → links_of set c n ≡ Some l → (e : definitions.ExportDef) × (export_in set.spaces l.component l.export ≡ Some e)
name_exports set c n l h =
    let x = stepped (import_in set.spaces c n) (λ x. link_of set (import_at c n x)) l h in
    only_there set.spaces _ l (all_kept (IsThere set.spaces) (λ e. set.sees c n e && fits x.0.name e.name) (exports_before set.spaces c) (all_there set.spaces 0 [] set.spaces c refl refl)) x.2
