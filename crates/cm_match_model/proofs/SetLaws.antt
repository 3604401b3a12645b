-- The laws of imports that are served alike, of the components of a set.
use Rattle.std.proofs.Common.{◌≡◌, ◌∙◌, ℕ, zero, suc, ◌<◌, List, [], ◌∷◌, length, map, Some, ap, sym, subst, arith, slice_get, option_and_then}
use Rattle.cm_types.specs.declared.resource.ResourceId.{ResourceId}
use Rattle.cm_types.specs.Signatures.{NamedItem, NamedExtern, fresh_resource}
use Rattle.cm_types.specs.Signatures as extern
use Rattle.cm_binary_model.specs.Trees.{SectionTree}
use Rattle.cm_types_arena.specs.Moves.{moved}
use Rattle.cm_types_arena.specs.Instances.{replaced_item}
use Rattle.cm_validate_model.specs.Definitions.{InstanceTy, ExportDef, NamedMember, exported_instance}
use Rattle.cm_validate_model.specs.Spaces.{Spaces, spaces_of}
use Rattle.cm_validate_model.specs.CountedSpaces.{AreSpacesCounted}
use Rattle.cm_match_model.specs.Fitting.{NamedExport}
use Rattle.cm_match_model.specs.declared.fault.LinkReason.{LinkReason}
use Rattle.cm_match_model.specs.declared.fault.LinkReason.TheVariants as reason
use Rattle.cm_match_model.specs.declared.component.Link.{Link}
use Rattle.cm_match_model.specs.Origins.{AreOrigins, LeadEarlier, Links, origin_of}
use Rattle.cm_match_model.specs.Imports.{LinkSet, Sees, seen_by, candidates, export_in, import_at, import_in, link_of, links_of, only_link}
use Rattle.cm_match_model.specs.Links.{IsNotServed, IsNotServedBy, IsServed}
use Rattle.cm_match_model.specs.Serving.{IsExternUnserved, IsItemServed, ServesExtern, standing}
use Rattle.cm_match_model.specs.Alike.{AreAllAlike, FailsAt, IsLinkedTo}
use Rattle.cm_match_model.specs.Brought.{BringsInOrder, OwnsWhatItBrings, items_from}
use Rattle.cm_match_model.proofs.AlikeLaws.{all_alike, same_served}
use Rattle.cm_match_model.proofs.ServingLaws.{AlikeFor, extern_served, extern_unserved, fails_too}
use Rattle.cm_lemmas.proofs.Options.{some_is, stepped}

-- ---- the components of a set

map_back : {A B : Type 0} (f : A → B) (xs : List A) (k : ℕ) (y : B) → slice_get (map f xs) k ≡ Some y → (x : A) × (f x ≡ y)
map_back f [] k y h = cc h
map_back f (x ∷ xs) zero y h = (x, some_is (f x) y h)
map_back f (x ∷ xs) (suc k) y h = map_back f xs k y h

module _ (counted : (sections : List SectionTree) → AreSpacesCounted (spaces_of sections))
    (brings : (sections : List SectionTree) (import : ℕ) (x : NamedExtern) (items : List NamedItem) → slice_get (spaces_of sections).imports import ≡ Some x
    → x.desc ≡ extern.instance items → BringsInOrder (spaces_of sections).resources import items)
    (early : (set : LinkSet) → LeadEarlier (links_of set))
    (one : (set : List Spaces) (links : Links) → LeadEarlier links → AreOrigins set links (origin_of set links))
    (components : List (List SectionTree)) (sees : Sees) where
  abbrev set : LinkSet
  set = seen_by sees (map spaces_of components)

  set_counted : (n : ℕ) (p : Spaces) → slice_get set.spaces n ≡ Some p → AreSpacesCounted p
  set_counted n p e =
      let x = map_back spaces_of components n p e in
      subst AreSpacesCounted x.1 (counted x.0)

  set_brings : (n : ℕ) (p : Spaces) → slice_get set.spaces n ≡ Some p → (import : ℕ) (x : NamedExtern) (items : List NamedItem) → slice_get p.imports import ≡ Some x → x.desc ≡ extern.instance items
      → BringsInOrder p.resources import items
  set_brings n p e =
      let y = map_back spaces_of components n p e in
      subst (λ (q : Spaces). (import : ℕ) (x : NamedExtern) (items : List NamedItem) → slice_get q.imports import ≡ Some x → x.desc ≡ extern.instance items → BringsInOrder q.resources import items)
      y.1 (brings y.0)

  set_origins : AreOrigins set.spaces (links_of set) (origin_of set.spaces (links_of set))
  set_origins = one set.spaces (links_of set) (early set)

  pub resources_same : (c j k d : ℕ) (t : InstanceTy) (a b : ℕ) (ms : List NamedMember) → IsLinkedTo set c j t a d (exported_instance ms) → IsLinkedTo set c k t b d (exported_instance ms)
      → (number : ℕ) (i : NamedItem) (r : ResourceId) → slice_get t.items number ≡ Some i → i.desc ≡ fresh_resource r → IsItemServed set c d ms (replaced_item (moved t.first t.fresh a) i)
      → standing set c (moved t.first t.fresh a r) ≡ standing set c (moved t.first t.fresh b r)
  resources_same c j k d t a b ms v w =
      let s = stepped (slice_get set.spaces c) (λ (q : Spaces). slice_get q.imports j) v.import v.there in
      same_served set set_counted set_origins c s.0 s.1 (set_brings c s.0 s.1) j k d t a b ms v w

  pub items_alike : (c j k d : ℕ) (t : InstanceTy) (a b : ℕ) (ms : List NamedMember) → OwnsWhatItBrings t → IsLinkedTo set c j t a d (exported_instance ms)
      → IsLinkedTo set c k t b d (exported_instance ms) → AreAllAlike set c d ms (items_from t a) (items_from t b)
  items_alike c j k d t a b ms owns v w =
      let s = stepped (slice_get set.spaces c) (λ (q : Spaces). slice_get q.imports j) v.import v.there in
      all_alike set set_counted set_origins c s.0 s.1 (set_brings c s.0 s.1) j k d t a b ms v w owns

  pub items_fail : (c j k d : ℕ) (t : InstanceTy) (a b : ℕ) (ms : List NamedMember) (number : ℕ) (r : LinkReason) → OwnsWhatItBrings t → IsLinkedTo set c j t a d (exported_instance ms)
      → IsLinkedTo set c k t b d (exported_instance ms) → FailsAt set c d ms (items_from t a) number r → FailsAt set c d ms (items_from t b) number r
  items_fail c j k d t a b ms number r owns v w = fails_too set c d ms (items_from t a) (items_from t b) number r (items_alike c j k d t a b ms owns v w)

-- ---- what serves imports

abbrev pub AlikeLaw : Type 0
AlikeLaw = (components : List (List SectionTree)) (sees : Sees) (c j k d : ℕ) (t : InstanceTy) (a b : ℕ) (ms : List NamedMember) → OwnsWhatItBrings t
    → IsLinkedTo (seen_by sees (map spaces_of components)) c j t a d (exported_instance ms) → IsLinkedTo (seen_by sees (map spaces_of components)) c k t b d (exported_instance ms)
    → AreAllAlike (seen_by sees (map spaces_of components)) c d ms (items_from t a) (items_from t b)

alike_for : AlikeLaw → (components : List (List SectionTree)) (sees : Sees) (c j k d : ℕ) (t : InstanceTy) (a b : ℕ) (e : ExportDef) → OwnsWhatItBrings t
    → IsLinkedTo (seen_by sees (map spaces_of components)) c j t a d e → IsLinkedTo (seen_by sees (map spaces_of components)) c k t b d e → AlikeFor (seen_by sees (map spaces_of components)) c d e (items_from t a) (items_from t b)
alike_for law components sees c j k d t a b e owns v w ms is =
    law components sees c j k d t a b ms owns (subst (IsLinkedTo (seen_by sees (map spaces_of components)) c j t a d) is v) (subst (IsLinkedTo (seen_by sees (map spaces_of components)) c k t b d) is w)

pub serves_both : AlikeLaw → (components : List (List SectionTree)) (sees : Sees) (c j k d : ℕ) (t : InstanceTy) (a b : ℕ) (e : ExportDef) → OwnsWhatItBrings t
    → IsLinkedTo (seen_by sees (map spaces_of components)) c j t a d e → IsLinkedTo (seen_by sees (map spaces_of components)) c k t b d e
    → ServesExtern (seen_by sees (map spaces_of components)) c (extern.instance (items_from t a)) d e → ServesExtern (seen_by sees (map spaces_of components)) c (extern.instance (items_from t b)) d e
serves_both law components sees c j k d t a b e owns v w =
    extern_served (seen_by sees (map spaces_of components)) c d e (items_from t a) (items_from t b) (alike_for law components sees c j k d t a b e owns v w)

pub fails_both : AlikeLaw → (components : List (List SectionTree)) (sees : Sees) (c j k d : ℕ) (t : InstanceTy) (a b : ℕ) (e : ExportDef) (r : LinkReason) → OwnsWhatItBrings t
    → IsLinkedTo (seen_by sees (map spaces_of components)) c j t a d e → IsLinkedTo (seen_by sees (map spaces_of components)) c k t b d e
    → IsExternUnserved (seen_by sees (map spaces_of components)) c (extern.instance (items_from t a)) d e r → IsExternUnserved (seen_by sees (map spaces_of components)) c (extern.instance (items_from t b)) d e r
fails_both law components sees c j k d t a b e r owns v w =
    extern_unserved (seen_by sees (map spaces_of components)) c d e (items_from t a) (items_from t b) r (alike_for law components sees c j k d t a b e owns v w)

-- ---- imports

module _ (set : LinkSet) (c : ℕ) (t : InstanceTy) (d : ℕ) (e : ExportDef) where
  import_is : (n next : ℕ) (w : IsLinkedTo set c n t next d e) (x : NamedExtern) → import_in set.spaces c n ≡ Some x → x ≡ w.import
  import_is n next w x h = some_is x w.import (sym h ∙ w.there)

  desc_is : (n next : ℕ) (w : IsLinkedTo set c n t next d e) (x : NamedExtern) → import_in set.spaces c n ≡ Some x → x.desc ≡ extern.instance (items_from t next)
  desc_is n next w x h = ap (λ (y : NamedExtern). y.desc) (import_is n next w x h) ∙ w.items

  link_is : (n next : ℕ) (w : IsLinkedTo set c n t next d e) (x : NamedExtern) → import_in set.spaces c n ≡ Some x → link_of set (import_at c n x) ≡ Some w.link
  link_is n next w x h = sym (ap (option_and_then (λ y. link_of set (import_at c n y))) h) ∙ w.linked

  -- what is said of the link and the export of an import is said of the provider and the definition
  export_is : (n next : ℕ) (w : IsLinkedTo set c n t next d e) (x : NamedExtern) → import_in set.spaces c n ≡ Some x → (l : Link) (f : ExportDef) → link_of set (import_at c n x) ≡ Some l
      → export_in set.spaces l.component l.export ≡ Some f → (l.component ≡ d) × (f ≡ e)
  export_is n next w x h l f linked exported =
      let same : l ≡ w.link = some_is l w.link (sym linked ∙ link_is n next w x h) in (
        ap (λ (y : Link). y.component) same ∙ w.to,
        some_is f e (sym exported ∙ ap (λ (y : Link). export_in set.spaces y.component y.export) same ∙ w.exported),
      )

  -- a fact of the one import, by the link and the export, is one of the other
  module _ (j k a b : ℕ) (v : IsLinkedTo set c j t a d e) (w : IsLinkedTo set c k t b d e) (x y : NamedExtern) (at_j : import_in set.spaces c j ≡ Some x) (at_k : import_in set.spaces c k ≡ Some y) where
    pub served_alike : (ServesExtern set c (extern.instance (items_from t a)) d e → ServesExtern set c (extern.instance (items_from t b)) d e)
        → IsServed set (import_at c j x) → IsServed set (import_at c k y)
    served_alike both s =
        let is = export_is j a v x at_j s.link s.export s.linked s.exported in
        let first : ServesExtern set c (extern.instance (items_from t a)) d e =
        subst (λ z. ServesExtern set c z d e) (desc_is j a v x at_j) (subst (λ f. ServesExtern set c x.desc d f) is.1 (subst (λ l. ServesExtern set c x.desc l s.export) is.0 s.serves)) in
        let second : ServesExtern set c y.desc w.link.component e =
        subst (λ l. ServesExtern set c y.desc l e) (sym w.to) (subst (λ z. ServesExtern set c z d e) (sym (desc_is k b w y at_k)) (both first)) in
        record { link = w.link; linked = link_is k b w y at_k; export = e; exported = w.exported; serves = second }

    fails_alike : (r : LinkReason) → (IsExternUnserved set c (extern.instance (items_from t a)) d e r → IsExternUnserved set c (extern.instance (items_from t b)) d e r)
        → IsNotServedBy set (import_at c j x) r → IsNotServedBy set (import_at c k y) r
    fails_alike r both s =
        let is = export_is j a v x at_j s.link s.export s.linked s.exported in
        let first : IsExternUnserved set c (extern.instance (items_from t a)) d e r =
        subst (λ z. IsExternUnserved set c z d e r) (desc_is j a v x at_j) (subst (λ f. IsExternUnserved set c x.desc d f r) is.1 (subst (λ l. IsExternUnserved set c x.desc l s.export r) is.0 s.fails)) in
        let second : IsExternUnserved set c y.desc w.link.component e r =
        subst (λ l. IsExternUnserved set c y.desc l e r) (sym w.to) (subst (λ z. IsExternUnserved set c z d e r) (sym (desc_is k b w y at_k)) (both first)) in
        record { link = w.link; linked = link_is k b w y at_k; export = e; exported = w.exported; fails = second }

    -- an import with a link has one candidate
    none_linked : (es : List NamedExport) (l : Link) → only_link es ≡ Some l → es ≡ [] → ⊥
    none_linked [] l h e = cc h
    none_linked (x ∷ es) l h e = cc e

    many_linked : (es : List NamedExport) (l : Link) → only_link es ≡ Some l → 1 < length es → ⊥
    many_linked [] l h e = cc h
    many_linked (x ∷ []) l h e = omega (arith, e)
    many_linked (x ∷ y ∷ es) l h e = cc h

    pub not_served_alike : (r : LinkReason) → (IsExternUnserved set c (extern.instance (items_from t a)) d e r → IsExternUnserved set c (extern.instance (items_from t b)) d e r)
        → IsNotServed set (import_at c j x) r → IsNotServed set (import_at c k y) r
    not_served_alike reason.NoProvider both s = absurd (none_linked (candidates set c j x) v.link (link_is j a v x at_j) s)
    not_served_alike reason.TwoProviders both s = absurd (many_linked (candidates set c j x) v.link (link_is j a v x at_j) s)
    not_served_alike reason.Empty both s = fails_alike reason.Empty both s
    not_served_alike reason.TooMany both s = fails_alike reason.TooMany both s
    not_served_alike reason.MissingExport both s = fails_alike reason.MissingExport both s
    not_served_alike reason.DifferentType both s = fails_alike reason.DifferentType both s
    not_served_alike reason.DifferentResource both s = fails_alike reason.DifferentResource both s
    not_served_alike reason.Memory both s = fails_alike reason.Memory both s
