-- What calls answer, of parts and of what they are parts of.
use Rattle.std.proofs.Common.{◌≡◌, ◌∙◌, ◌↔◌, ℕ, suc, ◌<◌, Bool, true, false, List, [], ◌∷◌, length, Option, Some, None, IsTrue, refl, sym, ap, subst, arith, option_and_then, slice_get}
use Rattle.std.specs.Prelude.{if◌then◌else◌}
use Rattle.std.specs.Option.{option_map}
use Rattle.std.proofs.lemmas.Option.{slice_get_within}
use Rattle.cm_types.specs.Types.{FuncTy, Ty}
use Rattle.cm_types.specs.declared.resource.ResourceId.{ResourceId}
use Rattle.cm_types.specs.Signatures.{ExternTy, ItemTy, NamedExtern, NamedItem, equal_resource, equal_type, func_item}
use Rattle.cm_types.specs.Signatures as extern
use Rattle.cm_match_model.specs.Fitting.{NamedExport, only}
use Rattle.cm_match_model.specs.declared.candidates.Candidate.{Candidate}
use Rattle.cm_match_model.specs.declared.candidates.Candidate.TheVariants as candidate
use Rattle.cm_validate_model.specs.Definitions.{ExportDef, FuncDef, exported_func, exported_instance, func_type_of}
use Rattle.cm_match_serving.specs.cm_validate_spaces.declared.checked.Checked.{Checked}
use Rattle.cm_match_model.specs.declared.fault.LinkReason.{LinkReason}
use Rattle.cm_match_model.specs.declared.fault.LinkReason.TheVariants as reason
use Rattle.cm_match_model.specs.declared.component.Link.{Link}
use Rattle.cm_match_model.specs.Imports.{ImportAt, LinkSet, candidates, export_in, import_at, import_in, link_of, links_of, only_link}
use Rattle.cm_match_model.specs.Links.{IsNotServed, IsNotServedBy}
use Rattle.cm_match_model.specs.Serving.{IsExternUnserved, IsSameFunc, IsSameType, IsUnserved, standing}
use Rattle.cm_match_serving.specs.Sets.{spaces_of_all}
use Rattle.cm_match_serving.specs.Answers.{Judges, JudgesExtern, JudgesImport, JudgesItem}
use Rattle.cm_lemmas.proofs.Options.{some_is}

pub judged : (b : Bool) (P : Type 0) (r : LinkReason) → IsTrue b ↔ P → Judges P r (if b then None else Some r)
judged true P r h = h.0 refl
judged false P r h = (refl, λ p. absurd (cc (h.1 p)))

pub func_answer : (set : LinkSet) (c : ℕ) (f : FuncTy) (d : ℕ) (g : FuncTy) (r : Option LinkReason) → Judges (IsSameFunc set c f d g) reason.DifferentType r → JudgesItem set c (func_item f) d (Some (func_item g)) r
func_answer set c f d g None h = (func_item g, refl, h)
func_answer set c f d g (Some q) h = subst (λ (q : LinkReason). IsUnserved set c (func_item f) d (Some (func_item g)) q) (sym h.0) (h.1, refl)

pub type_answer : (set : LinkSet) (c : ℕ) (t : Ty) (d : ℕ) (u : Ty) (r : Option LinkReason) → Judges (IsSameType set c t d u) reason.DifferentType r → JudgesItem set c (equal_type t) d (Some (equal_type u)) r
type_answer set c t d u None h = (equal_type u, refl, h)
type_answer set c t d u (Some q) h = subst (λ (q : LinkReason). IsUnserved set c (equal_type t) d (Some (equal_type u)) q) (sym h.0) (h.1, refl)

pub known_answer : (set : LinkSet) (c : ℕ) (t : ResourceId) (d : ℕ) (u : ResourceId) (r : Option LinkReason) → Judges (standing set c t ≡ standing set d u) reason.DifferentResource r
    → JudgesItem set c (equal_resource t) d (Some (equal_resource u)) r
known_answer set c t d u None h = (equal_resource u, refl, h)
known_answer set c t d u (Some q) h = subst (λ (q : LinkReason). IsUnserved set c (equal_resource t) d (Some (equal_resource u)) q) (sym h.0) (h.1, refl)

pub func_extern : (set : LinkSet) (c : ℕ) (f : FuncTy) (d : ℕ) (g : FuncDef) (r : Option LinkReason) → Judges (IsSameFunc set c f d (func_type_of g)) reason.DifferentType r → JudgesExtern set c (extern.func f) d (exported_func g) r
func_extern set c f d g None h = h
func_extern set c f d g (Some r) h = h

-- ---- imports

not_by_name : (set : LinkSet) (c : ℕ) (w : ItemTy) (d : ℕ) (o : Option ItemTy) → (IsUnserved set c w d o reason.NoProvider → ⊥) × (IsUnserved set c w d o reason.TwoProviders → ⊥)
not_by_name set c w d None = (λ h. h, λ h. h)
not_by_name set c w d (Some x) = (λ h. h, λ h. h)

no_name_fault : (set : LinkSet) (c : ℕ) (x : ExternTy) (d : ℕ) (e : ExportDef) → (IsExternUnserved set c x d e reason.NoProvider → ⊥) × (IsExternUnserved set c x d e reason.TwoProviders → ⊥)
no_name_fault set c (extern.func f) d (exported_func g) = (λ h. cc (h.0), λ h. cc (h.0))
no_name_fault set c (extern.func f) d (exported_instance ms) = (λ h. cc h, λ h. cc h)
no_name_fault set c (extern.instance items) d (exported_func g) = (λ h. cc h, λ h. cc h)
no_name_fault set c (extern.instance items) d (exported_instance ms) = (λ h. (not_by_name set c h.0.desc d _).0 h.2, λ h. (not_by_name set c h.0.desc d _).1 h.2)

not_served : (set : LinkSet) (i : ImportAt) (r : LinkReason) → IsNotServedBy set i r → IsNotServed set i r
not_served set i reason.Empty h = h
not_served set i reason.TooMany h = h
not_served set i reason.NoProvider h = absurd ((no_name_fault set i.component i.item.desc h.link.component h.export).0 h.fails)
not_served set i reason.TwoProviders h = absurd ((no_name_fault set i.component i.item.desc h.link.component h.export).1 h.fails)
not_served set i reason.MissingExport h = h
not_served set i reason.DifferentType h = h
not_served set i reason.DifferentResource h = h
not_served set i reason.Memory h = h

pub import_answer : (set : LinkSet) (c n : ℕ) (x : NamedExtern) (l : Link) (d : ExportDef) (r : Option LinkReason) → link_of set (import_at c n x) ≡ Some l → export_in set.spaces l.component l.export ≡ Some d
    → JudgesExtern set c x.desc l.component d r → JudgesImport set (import_at c n x) r
import_answer set c n x l d None linked exported h = record { link = l; linked = linked; export = d; exported = exported; serves = h }
import_answer set c n x l d (Some r) linked exported h = not_served set (import_at c n x) r (record { link = l; linked = linked; export = d; exported = exported; fails = h })

-- the candidates of an import
pub no_candidate : (es : List NamedExport) → candidate.None ≡ only es → es ≡ []
no_candidate [] h = refl
no_candidate (e ∷ []) h = cc h
no_candidate (e ∷ f ∷ es) h = cc h

pub several : (es : List NamedExport) → candidate.Several ≡ only es → 1 < length es
several [] h = cc h
several (e ∷ []) h = cc h
several (e ∷ f ∷ es) h = omega arith

pub one_link : (es : List NamedExport) (a b : ℕ) → candidate.One a b ≡ only es → only_link es ≡ Some (record { component = a; export = b })
one_link [] a b h = cc h
one_link (e ∷ []) a b h = cc h
one_link (e ∷ f ∷ es) a b h = cc h

pub chosen : (set : LinkSet) (c n : ℕ) (x : NamedExtern) (k : Candidate) → Some k ≡ option_map (λ i. only (candidates set c n i)) (import_in set.spaces c n) → import_in set.spaces c n ≡ Some x → k ≡ only (candidates set c n x)
chosen set c n x k h there = some_is k (only (candidates set c n x)) (h ∙ ap (option_map (λ i. only (candidates set c n i))) there)

pub linked : (set : LinkSet) (c n : ℕ) (x : NamedExtern) (l : Link) → import_in set.spaces c n ≡ Some x → link_of set (import_at c n x) ≡ Some l → links_of set c n ≡ Some l
linked set c n x l there is = ap (option_and_then (λ x. link_of set (import_at c n x))) there ∙ is

-- ---- components that are there

pub set_length : (cs : List Checked) → length (spaces_of_all cs) ≡ length cs
set_length [] = refl
set_length (c ∷ cs) = ap suc (set_length cs)

stepped : {A B : Type 0} (o : Option A) (f : A → Option B) (y : B) → option_and_then f o ≡ Some y → (x : A) × (o ≡ Some x)
stepped None f y h = cc h
stepped (Some x) f y h = (x, refl)

pub import_within : (cs : List Checked) (c n : ℕ) (x : NamedExtern) → Some x ≡ import_in (spaces_of_all cs) c n → c < length cs
import_within cs c n x h =
    let s = stepped (slice_get (spaces_of_all cs) c) (λ s. slice_get s.imports n) x (sym h) in
    omega (arith, slice_get_within (spaces_of_all cs) c s.0 s.1, set_length cs)

pub export_within : (cs : List Checked) (c n : ℕ) (x : ExportDef) → Some x ≡ export_in (spaces_of_all cs) c n → c < length cs
export_within cs c n x h =
    let s = stepped (slice_get (spaces_of_all cs) c) (λ s. option_map (λ e. e.def) (slice_get s.exports n)) x (sym h) in
    omega (arith, slice_get_within (spaces_of_all cs) c s.0 s.1, set_length cs)
