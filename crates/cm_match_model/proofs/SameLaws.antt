-- The resources of a type's own are, in the end, the same for two imports that are served alike.
use Rattle.std.proofs.Common.{◌≡◌, ◌∙◌, ℕ, ◌<◌, List, Option, Some, None, refl, ap, sym, subst, slice_get, option_and_then}
use Rattle.std.specs.Prelude.{IfSome, unwrap_or}
use Rattle.std.specs.Option.{option_map}
use Rattle.cm_types.specs.declared.resource.ResourceId.{ResourceId}
use Rattle.cm_types.specs.Signatures.{ItemTy, NamedItem, func_item, equal_type, equal_resource, fresh_resource, NamedExtern}
use Rattle.cm_types.specs.Types.{Ty, FuncTy, Fields, Cases, bool, signed, unsigned, char, string, list, fixed_list, fields, cases, flags, own, borrow, no_fields, field, no_cases, plain, carrying}
use Rattle.cm_types_arena.specs.Moves.{moved}
use Rattle.cm_types_arena.specs.Replaced.{Standing, replaced, replaced_fields, replaced_cases, replaced_func}
use Rattle.cm_types_arena.specs.Instances.{replaced_item}
use Rattle.cm_validate_model.specs.Definitions.{InstanceTy, value, func_type, resource, instance_type, faulty, ResourceDef, brought, MemberDef, func_member, type_member, NamedMember, ExportDef, exported_instance, NamedExport}
use Rattle.cm_validate_model.specs.Spaces.{Spaces, item_of_member, member_named, next_resource}
use Rattle.cm_validate_model.specs.Counted.{IsAmongFirst, IsCounted, AreCounted, AreCasesCounted, IsFuncCounted}
use Rattle.cm_validate_model.specs.CountedSpaces.{AreMembersCounted, AreSpacesCounted, IsExportCounted, IsMemberCounted}
use Rattle.cm_match_model.specs.declared.component.Link.{Link}
use Rattle.cm_match_model.specs.Origins.{AreOrigins, definition_of, exported_resource, item_name, items_of, members_of, origin_by, origin_of, resource_at, resource_member, resource_of, served}
use Rattle.cm_match_model.specs.Imports.{LinkSet, export_in, links_of}
use Rattle.cm_match_model.specs.Serving.{Serves, item_under, standing}
use Rattle.cm_match_model.specs.Alike.{IsLinkedTo}
use Rattle.cm_match_model.proofs.AlikeLists.{mapped}
use Rattle.cm_lemmas.proofs.Lists.{item_there, get_map, got_at}
use Rattle.cm_validate_model.proofs.SpaceLaws.{named_known}
use Rattle.cm_lemmas.proofs.Options.{stepped}

-- ---- types with resources that are the same in the end

module _ (s p q : Standing) (n : ℕ) (same : (r : ResourceId) → IsAmongFirst n (p r) → s (p r) ≡ s (q r)) where
  mutual
    pub type_same : (t : Ty) → IsCounted n (replaced p t) → replaced s (replaced p t) ≡ replaced s (replaced q t)
    type_same bool h = refl
    type_same (signed w) h = refl
    type_same (unsigned w) h = refl
    type_same char h = refl
    type_same string h = refl
    type_same (list t) h = ap list (type_same t h)
    type_same (fixed_list t k) h = ap (λ u. fixed_list u k) (type_same t h)
    type_same (fields k fs) h = ap (fields k) (fields_same fs h)
    type_same (cases k cs) h = ap (cases k) (cases_same cs h)
    type_same (flags ls) h = refl
    type_same (own r) h = ap own (same r h)
    type_same (borrow r) h = ap borrow (same r h)

    fields_same : (fs : Fields) → AreCounted n (replaced_fields p fs) → replaced_fields s (replaced_fields p fs) ≡ replaced_fields s (replaced_fields q fs)
    fields_same no_fields h = refl
    fields_same (field l t fs) h = ap (λ u. field l u (replaced_fields s (replaced_fields p fs))) (type_same t h.0) ∙ ap (field l (replaced s (replaced q t))) (fields_same fs h.1)

    cases_same : (cs : Cases) → AreCasesCounted n (replaced_cases p cs) → replaced_cases s (replaced_cases p cs) ≡ replaced_cases s (replaced_cases q cs)
    cases_same no_cases h = refl
    cases_same (plain l cs) h = ap (plain l) (cases_same cs h)
    cases_same (carrying l t cs) h = ap (λ u. carrying l u (replaced_cases s (replaced_cases p cs))) (type_same t h.0) ∙ ap (carrying l (replaced s (replaced q t))) (cases_same cs h.1)

  answer_same : (o : Option Ty) → IfSome (option_map (replaced p) o) (IsCounted n) → option_map (replaced s) (option_map (replaced p) o) ≡ option_map (replaced s) (option_map (replaced q) o)
  answer_same None h = refl
  answer_same (Some t) h = ap Some (type_same t h)

  abbrev func_with : Fields → Option Ty → FuncTy
  func_with ps r = record { params = ps; result = r }

  pub func_same : (f : FuncTy) → IsFuncCounted n (replaced_func p f) → replaced_func s (replaced_func p f) ≡ replaced_func s (replaced_func q f)
  func_same f h =
      ap (λ ps. func_with ps (option_map (replaced s) (option_map (replaced p) f.result))) (fields_same f.params h.0)
      ∙ ap (func_with (replaced_fields s (replaced_fields q f.params))) (answer_same f.result h.1)

-- ---- the resource that an instance has under a name

resource_is : (m : MemberDef) (q : ResourceId) → item_of_member m ≡ Some (equal_resource q) → (n : ℕ) × (m ≡ type_member (resource n))
resource_is (func_member f) q e = cc e
resource_is (type_member (value t)) q e = cc e
resource_is (type_member (func_type f)) q e = cc e
resource_is (type_member (resource n)) q e = (n, refl)
resource_is (type_member (instance_type i)) q e = cc e
resource_is (type_member faulty) q e = cc e

-- what serves an item that brings a resource is one
pub resource_under : (set : LinkSet) (c d : ℕ) (ms : List NamedMember) (name : List ℕ) (r : ResourceId) (have : ItemTy) → item_under ms name ≡ Some have
    → Serves set c (fresh_resource r) d have → (n : ℕ) × (member_named ms name ≡ Some (type_member (resource n)))
resource_under set c d ms name r (func_item f) e s = absurd s
resource_under set c d ms name r (equal_type t) e s = absurd s
resource_under set c d ms name r (fresh_resource q) e s = absurd s
resource_under set c d ms name r (equal_resource q) e s =
    let m = stepped (member_named ms name) (λ m. item_of_member m) (equal_resource q) e in
    let n = resource_is m.0 q m.2 in
    (n.0, m.1 ∙ ap Some n.1)

-- ---- where a provider's export is

module _ (set : LinkSet) (counted : (n : ℕ) (p : Spaces) → slice_get set.spaces n ≡ Some p → AreSpacesCounted p)
    (origins : AreOrigins set.spaces (links_of set) (origin_of set.spaces (links_of set))) (c : ℕ) (s : Spaces) (there : slice_get set.spaces c ≡ Some s) where
  -- what is exported is there
  exported_there : (l : Link) (ms : List NamedMember) → export_in set.spaces l.component l.export ≡ Some (exported_instance ms)
      → (p : Spaces) × (slice_get set.spaces l.component ≡ Some p) × (e : NamedExport) × (slice_get p.exports l.export ≡ Some e) × (e.def ≡ exported_instance ms)
  exported_there l ms h =
      let p = stepped (slice_get set.spaces l.component) (λ v. option_map (λ e. e.def) (slice_get v.exports l.export)) (exported_instance ms) h in
      let e = mapped (slice_get p.0.exports l.export) (λ e. e.def) (exported_instance ms) p.2 in
      (p.0, p.1, e.0, e.1, e.2)

  -- a resource that an export has under a name is one of its component
  provided_there : (l : Link) (ms : List NamedMember) (name : List ℕ) (n : ℕ) → export_in set.spaces l.component l.export ≡ Some (exported_instance ms)
      → member_named ms name ≡ Some (type_member (resource n)) → (def : ResourceDef) × (definition_of set.spaces (resource_of l.component n) ≡ Some def)
  provided_there l ms name n h m =
      let x = exported_there l ms h in
      let k : AreSpacesCounted x.0 = counted l.component x.0 x.1 in
      let exported : IsExportCounted (next_resource x.0) x.2.def = got_at (λ (e : NamedExport). IsExportCounted (next_resource x.0) e.def) x.0.exports l.export x.2 k.exports x.3 in
      let members : AreMembersCounted (next_resource x.0) ms = subst (IsExportCounted (next_resource x.0)) x.4 exported in
      let below : n < next_resource x.0 = subst (λ o. IfSome o (IsMemberCounted (next_resource x.0))) m (named_known (next_resource x.0) ms name members) in
      let def = item_there x.0.resources n below in
      (def.0, ap (option_and_then (λ (v : Spaces). slice_get v.resources n)) x.1 ∙ def.1)

  -- it is something in the end
  pub provided_origin : (l : Link) (ms : List NamedMember) (name : List ℕ) (n : ℕ) → export_in set.spaces l.component l.export ≡ Some (exported_instance ms)
      → member_named ms name ≡ Some (type_member (resource n)) → (o : ResourceId) × (origin_of set.spaces (links_of set) (resource_of l.component n) ≡ Some o)
  provided_origin l ms name n h m =
      let def = provided_there l ms name n h m in
      let q = resource_of l.component n in
      (origin_by set.spaces (links_of set) (origin_of set.spaces (links_of set)) q def.0, origins q ∙ ap (option_map (origin_by set.spaces (links_of set) (origin_of set.spaces (links_of set)) q)) def.1)

  provided_at : (l : Link) (ms : List NamedMember) (name : List ℕ) (n : ℕ) → export_in set.spaces l.component l.export ≡ Some (exported_instance ms)
      → member_named ms name ≡ Some (type_member (resource n)) → resource_at set.spaces l name ≡ Some (resource_of l.component n)
  provided_at l ms name n h m =
      let x = exported_there l ms h in
      ap (option_and_then (λ (v : Spaces). option_map (resource_of l.component) (exported_resource v l.export name))) x.1
      ∙ ap (λ o. option_map (resource_of l.component) (option_and_then (λ (e : NamedExport). option_and_then resource_member (member_named (members_of e.def) name)) o)) x.3
      ∙ ap (λ (d : ExportDef). option_map (resource_of l.component) (option_and_then resource_member (member_named (members_of d) name))) x.4
      ∙ ap (λ o. option_map (resource_of l.component) (option_and_then resource_member o)) m

  -- ---- one import

  module _ (t : InstanceTy) (d : ℕ) (ms : List NamedMember) where
    -- an import of this number
    pub import_there : (j a : ℕ) (w : IsLinkedTo set c j t a d (exported_instance ms)) → slice_get s.imports j ≡ Some w.import
    import_there j a w = sym (ap (option_and_then (λ (v : Spaces). slice_get v.imports j)) there) ∙ w.there

    name_there : (j a : ℕ) (w : IsLinkedTo set c j t a d (exported_instance ms)) (n : ℕ) (i : NamedItem) → slice_get t.items n ≡ Some i
        → option_and_then (λ (v : Spaces). item_name v j n) (slice_get set.spaces c) ≡ Some i.name
    name_there j a w n i e =
        ap (option_and_then (λ (v : Spaces). item_name v j n)) there
        ∙ ap (option_and_then (λ (x : NamedExtern). option_map (λ (y : NamedItem). y.name) (slice_get (items_of x.desc) n))) (import_there j a w)
        ∙ ap (λ x. option_map (λ (y : NamedItem). y.name) (slice_get (items_of x) n)) w.items
        ∙ ap (option_map (λ (y : NamedItem). y.name)) (get_map (replaced_item (moved t.first t.fresh a)) t.items n i e)

    -- what serves an item's resource, and what that is in the end
    served_as : (j a : ℕ) (w : IsLinkedTo set c j t a d (exported_instance ms)) (n : ℕ) (i : NamedItem) (q : ℕ) → slice_get t.items n ≡ Some i
        → member_named ms i.name ≡ Some (type_member (resource q)) → served set.spaces (links_of set) c j n ≡ Some (resource_of d q)
    served_as j a w n i q e m =
        ap (option_and_then (λ name. option_and_then (λ l. resource_at set.spaces l name) (links_of set c j))) (name_there j a w n i e)
        ∙ ap (option_and_then (λ l. resource_at set.spaces l i.name)) w.linked
        ∙ provided_at w.link ms i.name q w.exported m
        ∙ ap (λ k. Some (resource_of k q)) w.to

    pub stands_as : (j a : ℕ) (w : IsLinkedTo set c j t a d (exported_instance ms)) (n : ℕ) (i : NamedItem) (r : ResourceId) (q : ℕ) (o : ResourceId) → slice_get t.items n ≡ Some i
        → slice_get s.resources r.number ≡ Some (brought j n) → member_named ms i.name ≡ Some (type_member (resource q))
        → origin_of set.spaces (links_of set) (resource_of d q) ≡ Some o → standing set c r ≡ o
    stands_as j a w n i r q o e b m is =
        let table = origin_of set.spaces (links_of set) in
        let x = resource_of c r.number in
        let defined : definition_of set.spaces x ≡ Some (brought j n) = ap (option_and_then (λ (v : Spaces). slice_get v.resources r.number)) there ∙ b in
        ap (λ z. unwrap_or z r)
        (origins x ∙ ap (option_map (origin_by set.spaces (links_of set) table x)) defined
        ∙ ap (λ z. Some (unwrap_or (option_and_then table z) x)) (served_as j a w n i q e m)
        ∙ ap (λ z. Some (unwrap_or z x)) is)
