-- A set can be linked, or has one fault alone.
use Rattle.std.proofs.Common.{◌≡◌, ℕ, ◌<◌, ◌⊎◌, inl, inr, true, false, List, [], ◌∷◌, length, Option, Some, None, refl, sym, ap, subst, ◌∙◌, arith}
use Rattle.std.specs.List.{AllByRecursion}
use Rattle.cm_types.specs.Signatures.{ItemTy, NamedItem, ExternTy}
use Rattle.cm_types.specs.Signatures as extern
use Rattle.cm_match_model.specs.Fitting.{NamedExport}
use Rattle.cm_validate_model.specs.Definitions.{ExportDef, exported_func, exported_instance, NamedMember}
use Rattle.cm_validate_model.specs.Spaces.{Spaces}
use Rattle.cm_match_model.specs.declared.component.Link.{Link}
use Rattle.cm_match_model.specs.declared.fault.LinkReason.{LinkReason}
use Rattle.cm_match_model.specs.declared.fault.LinkReason.TheVariants as reason
use Rattle.cm_match_model.specs.declared.plan.TheConstants.{MAX_COMPONENTS}
use Rattle.cm_match_model.specs.Imports.{LinkSet, ImportAt, candidates, export_in, imports_of, only_link}
use Rattle.cm_match_model.specs.Serving.{IsExternUnserved, IsFirst, IsItemServed, IsItemUnserved, IsUnserved, Serves, ServesExtern, are_known_resources, item_under}
use Rattle.cm_match_model.specs.Links.{CanBeLinked, IsFirstNotServed, IsLinkFault, IsNotServed, IsNotServedBy, IsServed}
use Rattle.cm_match_model.proofs.ListLemmas.{one_first}
use Rattle.cm_lemmas.proofs.Lists.{all_right}
use Rattle.cm_lemmas.proofs.Options.{some_is}

-- ---- the first that is not so

-- that one is not, where all are
first_is_so : {A : Type 0} (is_so : A → Type 0) (xs : List A) (x : A) → AllByRecursion is_so xs → IsFirst is_so xs x → is_so x
first_is_so is_so xs x h f =
    let split : AllByRecursion is_so _ = subst (AllByRecursion is_so) f.split h in
    (all_right is_so f.front (x ∷ f.rest) split).0

same_first : {A : Type 0} (is_so : A → Type 0) (xs : List A) (x y : A) → IsFirst is_so xs x → IsFirst is_so xs y → (is_so x → ⊥) → (is_so y → ⊥) → x ≡ y
same_first is_so xs x y f g h k = one_first is_so f.front g.front f.rest g.rest x y (sym f.split ∙ g.split) f.before g.before h k

-- ---- items

unserved_by : (set : LinkSet) (c : ℕ) (w : ItemTy) (d : ℕ) (h : ItemTy) (r : LinkReason) → IsUnserved set c w d (Some h) r
    → ((r ≡ reason.DifferentType) × (are_known_resources w h ≡ false)) ⊎ ((r ≡ reason.DifferentResource) × (are_known_resources w h ≡ true))
unserved_by set c w d h reason.Empty u = absurd u
unserved_by set c w d h reason.TooMany u = absurd u
unserved_by set c w d h reason.NoProvider u = absurd u
unserved_by set c w d h reason.TwoProviders u = absurd u
unserved_by set c w d h reason.MissingExport u = absurd u
unserved_by set c w d h reason.DifferentType u = inl (refl, u.1)
unserved_by set c w d h reason.DifferentResource u = inr (refl, u.1)
unserved_by set c w d h reason.Memory u = absurd u

does_not_serve : (set : LinkSet) (c : ℕ) (w : ItemTy) (d : ℕ) (h : ItemTy) (r : LinkReason) → IsUnserved set c w d (Some h) r → Serves set c w d h → ⊥
does_not_serve set c w d h reason.Empty u = absurd u
does_not_serve set c w d h reason.TooMany u = absurd u
does_not_serve set c w d h reason.NoProvider u = absurd u
does_not_serve set c w d h reason.TwoProviders u = absurd u
does_not_serve set c w d h reason.MissingExport u = absurd u
does_not_serve set c w d h reason.DifferentType u = u.0
does_not_serve set c w d h reason.DifferentResource u = u.0
does_not_serve set c w d h reason.Memory u = absurd u

missing : (set : LinkSet) (c : ℕ) (w : ItemTy) (d : ℕ) (r : LinkReason) → IsUnserved set c w d None r → r ≡ reason.MissingExport
missing set c w d reason.Empty u = absurd u
missing set c w d reason.TooMany u = absurd u
missing set c w d reason.NoProvider u = absurd u
missing set c w d reason.TwoProviders u = absurd u
missing set c w d reason.MissingExport u = refl
missing set c w d reason.DifferentType u = absurd u
missing set c w d reason.DifferentResource u = absurd u
missing set c w d reason.Memory u = absurd u

one_item_reason : (set : LinkSet) (c : ℕ) (w : ItemTy) (d : ℕ) (o : Option ItemTy) (q r : LinkReason) → IsUnserved set c w d o q → IsUnserved set c w d o r → q ≡ r
one_item_reason set c w d None q r u v = missing set c w d q u ∙ sym (missing set c w d r v)
one_item_reason set c w d (Some h) q r u v = elim (unserved_by set c w d h q u) [
  | inl a ↦ elim (unserved_by set c w d h r v) [
    | inl b ↦ a.0 ∙ sym b.0
    | inr b ↦ cc (a.1, b.1)
  ]
  | inr a ↦ elim (unserved_by set c w d h r v) [
    | inl b ↦ cc (a.1, b.1)
    | inr b ↦ a.0 ∙ sym b.0
  ]
]

served_or_not : (set : LinkSet) (c d : ℕ) (w : ItemTy) (o : Option ItemTy) (r : LinkReason) → (h : ItemTy) × (o ≡ Some h) × Serves set c w d h → IsUnserved set c w d o r → ⊥
served_or_not set c d w None r s u = cc s.1
served_or_not set c d w (Some h) r s u = does_not_serve set c w d h r u (subst (Serves set c w d) (sym (some_is h s.0 s.1)) s.2)

item_or_not : (set : LinkSet) (c d : ℕ) (ms : List NamedMember) (i : NamedItem) (r : LinkReason) → IsItemServed set c d ms i → IsItemUnserved set c d ms i r → ⊥
item_or_not set c d ms i r s u = served_or_not set c d i.desc (item_under ms i.name) r s u

-- ---- what is imported

extern_or_not : (set : LinkSet) (c : ℕ) (x : ExternTy) (d : ℕ) (e : ExportDef) (r : LinkReason) → ServesExtern set c x d e → IsExternUnserved set c x d e r → ⊥
extern_or_not set c (extern.func f) d (exported_func g) r s u = u.1 s
extern_or_not set c (extern.instance items) d (exported_instance ms) r s u = item_or_not set c d ms u.0 r (first_is_so (IsItemServed set c d ms) items u.0 s u.1) u.2
extern_or_not set c (extern.func f) d (exported_instance ms) r s u = absurd s
extern_or_not set c (extern.instance items) d (exported_func g) r s u = absurd s

one_extern_reason : (set : LinkSet) (c : ℕ) (x : ExternTy) (d : ℕ) (e : ExportDef) (q r : LinkReason) → IsExternUnserved set c x d e q → IsExternUnserved set c x d e r → q ≡ r
one_extern_reason set c (extern.func f) d (exported_func g) q r u v = u.0 ∙ sym v.0
one_extern_reason set c (extern.func f) d (exported_instance ms) q r u v = u ∙ sym v
one_extern_reason set c (extern.instance items) d (exported_func g) q r u v = u ∙ sym v
one_extern_reason set c (extern.instance items) d (exported_instance ms) q r u v =
    let same : u.0 ≡ v.0 = same_first (IsItemServed set c d ms) items u.0 v.0 u.1 v.1 (λ s. item_or_not set c d ms u.0 q s u.2) (λ s. item_or_not set c d ms v.0 r s v.2) in
    let moved : IsItemUnserved set c d ms v.0 q = subst (λ i. IsItemUnserved set c d ms i q) same u.2 in
    one_item_reason set c v.0.desc d (item_under ms v.0.name) q r moved v.2

-- ---- imports

by_or_not : (set : LinkSet) (i : ImportAt) (r : LinkReason) → IsServed set i → IsNotServedBy set i r → ⊥
by_or_not set i r s u =
    let link : s.link ≡ u.link = some_is s.link u.link (sym s.linked ∙ u.linked) in
    let there : export_in set.spaces u.link.component u.link.export ≡ Some s.export = subst (λ (l : Link). export_in set.spaces l.component l.export ≡ Some s.export) link s.exported in
    let serves : ServesExtern set i.component i.item.desc u.link.component s.export = subst (λ (l : Link). ServesExtern set i.component i.item.desc l.component s.export) link s.serves in
    let export : s.export ≡ u.export = some_is s.export u.export (sym there ∙ u.exported) in
    extern_or_not set i.component i.item.desc u.link.component u.export r (subst (ServesExtern set i.component i.item.desc u.link.component) export serves) u.fails

one_by_reason : (set : LinkSet) (i : ImportAt) (q r : LinkReason) → IsNotServedBy set i q → IsNotServedBy set i r → q ≡ r
one_by_reason set i q r u v =
    let link : u.link ≡ v.link = some_is u.link v.link (sym u.linked ∙ v.linked) in
    let there : export_in set.spaces v.link.component v.link.export ≡ Some u.export = subst (λ (l : Link). export_in set.spaces l.component l.export ≡ Some u.export) link u.exported in
    let fails : IsExternUnserved set i.component i.item.desc v.link.component u.export q = subst (λ (l : Link). IsExternUnserved set i.component i.item.desc l.component u.export q) link u.fails in
    let export : u.export ≡ v.export = some_is u.export v.export (sym there ∙ v.exported) in
    one_extern_reason set i.component i.item.desc v.link.component v.export q r
    (subst (λ e. IsExternUnserved set i.component i.item.desc v.link.component e q) export fails) v.fails

-- an import is linked where it has one candidate, and not otherwise
no_link : (es : List NamedExport) (l : Link) → only_link es ≡ Some l → (es ≡ []) ⊎ (1 < length es) → ⊥
no_link [] l h k = cc h
no_link (e ∷ []) l h (inl k) = omega (arith, ap length k)
no_link (e ∷ []) l h (inr k) = omega (arith, k)
no_link (e ∷ f ∷ es) l h k = cc h

-- how an import is not served
Kinds : LinkSet → ImportAt → LinkReason → Type 0
Kinds set i r =
    ((r ≡ reason.NoProvider) × (candidates set i.component i.number i.item ≡ [])) ⊎ (((r ≡ reason.TwoProviders) × (1 < length (candidates set i.component i.number i.item))) ⊎ IsNotServedBy set i r)

kind : (set : LinkSet) (i : ImportAt) (r : LinkReason) → IsNotServed set i r → Kinds set i r
unfolding Kinds
kind set i reason.Empty u = inr (inr u)
kind set i reason.TooMany u = inr (inr u)
kind set i reason.NoProvider u = inl (refl, u)
kind set i reason.TwoProviders u = inr (inl (refl, u))
kind set i reason.MissingExport u = inr (inr u)
kind set i reason.DifferentType u = inr (inr u)
kind set i reason.DifferentResource u = inr (inr u)
kind set i reason.Memory u = inr (inr u)

import_or_not : (set : LinkSet) (i : ImportAt) (r : LinkReason) → IsServed set i → IsNotServed set i r → ⊥
unfolding Kinds
import_or_not set i r s u = elim (kind set i r u) [
  | inl k ↦ no_link (candidates set i.component i.number i.item) s.link s.linked (inl k.1)
  | inr (inl k) ↦ no_link (candidates set i.component i.number i.item) s.link s.linked (inr k.1)
  | inr (inr k) ↦ by_or_not set i r s k
]

none_or_two : {A : Type 0} (es : List A) → es ≡ [] → 1 < length es → ⊥
none_or_two es h k = omega (arith, k, ap length h)

one_kind : (set : LinkSet) (i : ImportAt) (q r : LinkReason) → Kinds set i q → Kinds set i r → q ≡ r
unfolding Kinds
one_kind set i q r (inl a) (inl b) = a.0 ∙ sym b.0
one_kind set i q r (inl a) (inr (inl b)) = absurd (none_or_two (candidates set i.component i.number i.item) a.1 b.1)
one_kind set i q r (inl a) (inr (inr b)) = absurd (no_link (candidates set i.component i.number i.item) b.link b.linked (inl a.1))
one_kind set i q r (inr (inl a)) (inl b) = absurd (none_or_two (candidates set i.component i.number i.item) b.1 a.1)
one_kind set i q r (inr (inl a)) (inr (inl b)) = a.0 ∙ sym b.0
one_kind set i q r (inr (inl a)) (inr (inr b)) = absurd (no_link (candidates set i.component i.number i.item) b.link b.linked (inr a.1))
one_kind set i q r (inr (inr a)) (inl b) = absurd (no_link (candidates set i.component i.number i.item) a.link a.linked (inl b.1))
one_kind set i q r (inr (inr a)) (inr (inl b)) = absurd (no_link (candidates set i.component i.number i.item) a.link a.linked (inr b.1))
one_kind set i q r (inr (inr a)) (inr (inr b)) = one_by_reason set i q r a b

one_first_import : (set : LinkSet) (c d m n : ℕ) (q r : LinkReason) → IsFirstNotServed set c m q → IsFirstNotServed set d n r → (c ≡ d) × (m ≡ n) × (q ≡ r)
one_first_import set c d m n q r f g =
    let same : f.import ≡ g.import = same_first (IsServed set) (imports_of set.spaces) f.import g.import f.first g.first (λ s. import_or_not set f.import q s f.fails) (λ s. import_or_not set g.import r s g.fails) in
    let fails : IsNotServed set g.import q = subst (λ i. IsNotServed set i q) same f.fails in (
      sym f.component_is ∙ ap (λ (i : ImportAt). i.component) same ∙ g.component_is,
      sym f.number_is ∙ ap (λ (i : ImportAt). i.number) same ∙ g.number_is,
      one_kind set g.import q r (kind set g.import q fails) (kind set g.import r g.fails),
    )

-- ---- sets

-- how a set can't be linked
Faults : LinkSet → ℕ → ℕ → LinkReason → Type 0
Faults set c n r =
    ((r ≡ reason.Empty) × (set.spaces ≡ []) × (c ≡ 0) × (n ≡ 0)) ⊎ (((r ≡ reason.TooMany) × (MAX_COMPONENTS < length set.spaces) × (c ≡ 0) × (n ≡ 0)) ⊎ IsFirstNotServed set c n r)

fault : (set : LinkSet) (c n : ℕ) (r : LinkReason) → IsLinkFault set c n r → Faults set c n r
unfolding Faults
fault set c n reason.Empty f = inl (refl, f.0, f.1, f.2)
fault set c n reason.TooMany f = inr (inl (refl, f.0, f.1, f.2))
fault set c n reason.NoProvider f = inr (inr f)
fault set c n reason.TwoProviders f = inr (inr f)
fault set c n reason.MissingExport f = inr (inr f)
fault set c n reason.DifferentType f = inr (inr f)
fault set c n reason.DifferentResource f = inr (inr f)
fault set c n reason.Memory f = absurd f

pub never_both : (set : LinkSet) (c n : ℕ) (r : LinkReason) → CanBeLinked set → IsLinkFault set c n r → ⊥
unfolding Faults
never_both set c n r k f = elim (fault set c n r f) [
  | inl e ↦ omega (arith, k.some, ap length e.1)
  | inr (inl e) ↦ omega (arith, k.few, e.1)
  | inr (inr e) ↦ import_or_not set e.import r (first_is_so (IsServed set) (imports_of set.spaces) e.import k.served e.first) e.fails
]

one_of_two : (set : LinkSet) (c d m n : ℕ) (q r : LinkReason) → Faults set c m q → Faults set d n r → (c ≡ d) × (m ≡ n) × (q ≡ r)
unfolding Faults
one_of_two set c d m n q r (inl a) (inl b) = (a.2 ∙ sym b.2, a.3 ∙ sym b.3, a.0 ∙ sym b.0)
one_of_two set c d m n q r (inl a) (inr (inl b)) = absurd (omega (arith, b.1, ap length a.1))
one_of_two set c d m n q r (inl a) (inr (inr b)) = absurd (omega (arith, b.some, ap length a.1))
one_of_two set c d m n q r (inr (inl a)) (inl b) = absurd (omega (arith, a.1, ap length b.1))
one_of_two set c d m n q r (inr (inl a)) (inr (inl b)) = (a.2 ∙ sym b.2, a.3 ∙ sym b.3, a.0 ∙ sym b.0)
one_of_two set c d m n q r (inr (inl a)) (inr (inr b)) = absurd (omega (arith, a.1, b.few))
one_of_two set c d m n q r (inr (inr a)) (inl b) = absurd (omega (arith, a.some, ap length b.1))
one_of_two set c d m n q r (inr (inr a)) (inr (inl b)) = absurd (omega (arith, b.1, a.few))
one_of_two set c d m n q r (inr (inr a)) (inr (inr b)) = one_first_import set c d m n q r a b

pub one : (set : LinkSet) (c d m n : ℕ) (q r : LinkReason) → IsLinkFault set c m q → IsLinkFault set d n r → (c ≡ d) × (m ≡ n) × (q ≡ r)
one set c d m n q r f g = one_of_two set c d m n q r (fault set c m q f) (fault set d n r g)
