-- An import of a pair that serves is served.
use Rattle.std.proofs.Common.{◌≡◌, ◌∙◌, ℕ, zero, suc, ◌+◌, ◌<◌, Bool, true, false, ◌||◌, List, [], ◌∷◌, ◌++◌, length, map, Option, Some, None, refl, sym, ap, subst, arith, option_and_then, slice_get}
use Rattle.std.specs.BTreeSet.{insert_key}
use Rattle.std.specs.List.{AllByRecursion, list_any}
use Rattle.std.specs.Option.{option_map}
use Rattle.std.specs.Ordering.{match_ordering, nat_cmp, ordering_then}
use Rattle.std.specs.declared.cmp.Ordering.{Ordering}
use Rattle.std.specs.declared.cmp.Ordering.TheVariants.{Less, Equal, Greater}
use Rattle.std.proofs.lemmas.Option.{slice_get_within, slice_get-map}
use Rattle.cm_binary_model.specs.Trees.{SectionTree}
use Rattle.cm_types.specs.Signatures.{NamedExtern, NamedItem}
use Rattle.cm_types.specs.Signatures as extern
use Rattle.cm_validate_model.specs.Definitions.{ExportDef, InstanceTy, NamedMember, exported_instance, instance_type}
use Rattle.cm_validate_model.specs.Spaces.{Spaces, next_resource, spaces_of}
use Rattle.cm_validate_model.specs.CountedSpaces.{AreSpacesCounted, IsDefCounted, IsInstanceCounted}
use Rattle.cm_validate_items.specs.Shared.{AreShared, IsImportOf, exported_instance_in, export_at, import_type_in, item_from}
use Rattle.cm_validate_items.specs.declared.shared.Shared.{Shared}
use Rattle.cm_match_serving.specs.cm_validate_spaces.Checked.{sections_in, spaces_in}
use Rattle.cm_match_serving.specs.cm_validate_spaces.declared.checked.Checked.{Checked}
use Rattle.cm_match_model.specs.declared.component.Link.{Link}
use Rattle.cm_match_model.specs.Imports.{LinkSet, Sees, import_at, import_in, link_of, links_of, seen_by}
use Rattle.cm_match_model.specs.Links.{IsServed}
use Rattle.cm_match_serving.specs.Sets.{sections_of, spaces_of_all}
use Rattle.cm_match_model.specs.Alike.{IsLinkedTo}
use Rattle.cm_match_model.specs.Brought.{OwnsWhatItBrings}
use Rattle.cm_match.specs.Pairs.{AreTables, IsNoted, IsPairOf, IsServedPair, Pair, pair_cmp, pair_eq}
use Rattle.cm_match.specs.declared.judged.Judged.{Judged}
use Rattle.std.specs.Prelude.{IfSome}
use Rattle.std.proofs.Common.{◌⊎◌, inl, inr, ◌≤◌, take, get_or}
use Rattle.std.proofs.lemmas.List.{take_more, take_all, length-append}
use Rattle.cm_match.proofs.MoveLaws.{FuncsMove, TypesMove, items_told}
use Rattle.cm_lemmas.proofs.Orders.{both_tied, number_exact}
use Rattle.cm_lemmas.proofs.Lists.{got_at, item_there}
use Rattle.cm_lemmas.proofs.Options.{some_in, stepped}

-- ---- pairs in a set

pub same_pair : (p q : Pair) → pair_eq p q ≡ true → p ≡ q
same_pair p q e =
    let both = both_tied (ordering_then (nat_cmp p.0.0 q.0.0) (nat_cmp p.0.1 q.0.1)) (ordering_then (nat_cmp p.1.0 q.1.0) (nat_cmp p.1.1 q.1.1)) e in
    let left = both_tied (nat_cmp p.0.0 q.0.0) (nat_cmp p.0.1 q.0.1) both.0 in
    let right = both_tied (nat_cmp p.1.0 q.1.0) (nat_cmp p.1.1 q.1.1) both.1 in
    ap (λ (a : ℕ). ((a, p.0.1), p.1)) (number_exact p.0.0 q.0.0 left.0)
    ∙ ap (λ (b : ℕ). ((q.0.0, b), p.1)) (number_exact p.0.1 q.0.1 left.1)
    ∙ ap (λ (c : ℕ). (q.0, (c, p.1.1))) (number_exact p.1.0 q.1.0 right.0)
    ∙ ap (λ (d : ℕ). (q.0, (q.1.0, d))) (number_exact p.1.1 q.1.1 right.1)

module _ (P : Pair → Type 0) (p : Pair) where
  pub found : (ps : List Pair) → list_any (pair_eq p) ps ≡ true → AllByRecursion P ps → P p
  found [] e all = absurd cc
  found (q ∷ qs) e all = by (pair_eq p q) refl e (λ h. found qs h all.1)
    where
      by : (b : Bool) → pair_eq p q ≡ b → (b || list_any (pair_eq p) qs) ≡ true → (list_any (pair_eq p) qs ≡ true → P p) → P p
      by true is h rest = subst P (sym (same_pair p q is)) all.0
      by false is h rest = rest h

  pub put : (ps : List Pair) → AllByRecursion P ps → P p → AllByRecursion P (insert_key pair_cmp ps p)
  put [] all one = (one, tt)
  put (q ∷ qs) all one = by (pair_cmp p q) (put qs all.1 one)
    where
      by : (o : Ordering) → AllByRecursion P (insert_key pair_cmp qs p) → AllByRecursion P (match_ordering o (p ∷ q ∷ qs) (q ∷ qs) (q ∷ insert_key pair_cmp qs p))
      by Less rest = (one, all)
      by Equal rest = all
      by Greater rest = (all.0, rest)

-- ---- options

-- ---- tables

-- the table of a component that tells something
module _ (cs : List Checked) (tables : List Shared) (t : AreTables cs tables) (c : ℕ) (w : Shared) (at : slice_get tables c ≡ Some w) where
  component : (x : Checked) × (slice_get cs c ≡ Some x)
  component = item_there cs c (omega (arith, slice_get_within tables c w at, t.count))

  pub sections : List SectionTree
  sections = sections_in component.0

  pub spaces_are : slice_get (spaces_of_all cs) c ≡ Some (spaces_of sections)
  unfolding sections
  spaces_are = slice_get-map spaces_of (sections_of cs) c ∙ ap (option_map spaces_of) (slice_get-map sections_in cs c ∙ ap (option_map sections_in) component.1)

  pub shared : AreShared (spaces_of sections) w
  unfolding sections
  shared = t.each c component.0 w component.1 at

-- no table yet, and one more
pub none_yet : (tables : List Shared) → tables ≡ [] → AreTables [] tables
none_yet tables e = record {
  count = ap length e;
  each = λ c x t at to. absurd (nothing c x at);
}
  where
    nothing : (c : ℕ) (x : Checked) → slice_get [] c ≡ Some x → ⊥
    nothing zero x e = absurd cc
    nothing (suc c) x e = absurd cc

last_at : {A : Type 0} (xs : List A) (x y : A) (c : ℕ) → slice_get (xs ++ x ∷ []) c ≡ Some y → ((slice_get xs c ≡ Some y) × (c < length xs)) ⊎ ((c ≡ length xs) × (x ≡ y))
last_at [] x y zero e = inr (refl, some_in e)
last_at [] x y (suc zero) e = absurd cc
last_at [] x y (suc (suc c)) e = absurd cc
last_at (z ∷ zs) x y zero e = inl (e, omega arith)
last_at (z ∷ zs) x y (suc c) e = elim (last_at zs x y c e) [
  | inl h ↦ inl (h.0, omega (arith, h.1))
  | inr h ↦ inr (ap suc h.0, h.1)
]

one_more : (cs : List Checked) (tables : List Shared) (x : Checked) (w : Shared) → AreTables cs tables → AreShared (spaces_in x) w → AreTables (cs ++ x ∷ []) (tables ++ w ∷ [])
one_more cs tables x w all one = record {
  count = length-append tables (w ∷ []) ∙ ap (λ (n : ℕ). n + 1) all.count ∙ sym (length-append cs (x ∷ []));
  each = each;
}
  where
    each : (c : ℕ) (y : Checked) (v : Shared) → slice_get (cs ++ x ∷ []) c ≡ Some y → slice_get (tables ++ w ∷ []) c ≡ Some v → AreShared (spaces_in y) v
    each c y v at to = elim (last_at cs x y c at) [
      | inl h ↦ elim (last_at tables w v c to) [
        | inl g ↦ all.each c y v h.0 g.0
        | inr g ↦ absurd (omega (arith, h.1, g.0, all.count))
      ]
      | inr h ↦ elim (last_at tables w v c to) [
        | inl g ↦ absurd (omega (arith, h.0, g.1, all.count))
        | inr g ↦ subst (λ (z : Checked). AreShared (spaces_in z) v) h.1 (subst (AreShared (spaces_in x)) g.1 one)
      ]
    ]

pub next_table : (cs : List Checked) (tables : List Shared) (i : ℕ) (x : Checked) (w : Shared) → i < length cs → x ≡ get_or cs i x → AreShared (spaces_in x) w → AreTables (take i cs) tables → AreTables (take (i + 1) cs) (tables ++ w ∷ [])
next_table cs tables i x w lt is one all =
    subst (λ (ds : List Checked). AreTables ds (tables ++ w ∷ [])) (sym (take_more cs i x lt ∙ ap (λ (y : Checked). take i cs ++ y ∷ []) (sym is))) (one_more (take i cs) tables x w all one)

pub all_tables : (cs : List Checked) (tables : List Shared) (i : ℕ) → length cs ≤ i → AreTables (take i cs) tables → AreTables cs tables
all_tables cs tables i le all = subst (λ (ds : List Checked). AreTables ds tables) (take_all i cs le) all

-- ---- two imports of one pair

abbrev pub Counted : Type 0
Counted = (ss : List SectionTree) → AreSpacesCounted (spaces_of ss)

abbrev pub Alike : Type 0
Alike =
    (components : List (List SectionTree)) (sees : Sees) (c j k d : ℕ) (t : InstanceTy) (a b : ℕ) (e : ExportDef) (x y : NamedExtern)
    → OwnsWhatItBrings t
    → IsLinkedTo (seen_by sees (map spaces_of components)) c j t a d e
    → IsLinkedTo (seen_by sees (map spaces_of components)) c k t b d e
    → import_in (map spaces_of components) c j ≡ Some x
    → import_in (map spaces_of components) c k ≡ Some y
    → IsServed (seen_by sees (map spaces_of components)) (import_at c j x)
    → IsServed (seen_by sees (map spaces_of components)) (import_at c k y)

module _ (counted : Counted) (types_move : TypesMove) (funcs_move : FuncsMove) (alike : Alike) (cs : List Checked) (sees : Sees) (tables : List Shared) (t : AreTables cs tables) (component : ℕ) (p : Pair) where
  abbrev set : LinkSet
  set = seen_by sees (spaces_of_all cs)

  -- the table of the component, and that of the provider
  table_of : (import : ℕ) → IsPairOf set tables component import p → (w : Shared) × (slice_get tables component ≡ Some w) × (import_type_in w import ≡ Some p.0.1)
  table_of import q = stepped (slice_get tables component) (λ w. import_type_in w import) p.0.1 q.ty

  table_to : (import : ℕ) (q : IsPairOf set tables component import p) → (w : Shared) × (slice_get tables p.1.0 ≡ Some w) × (exported_instance_in w q.link.export ≡ Some p.1.1)
  table_to import q =
      let s = stepped (slice_get tables q.link.component) (λ w. exported_instance_in w q.link.export) p.1.1 q.instance in
      (s.0, ap (slice_get tables) q.provider ∙ s.1, s.2)

  module _ (w : Shared) (at : slice_get tables component ≡ Some w) (v : Shared) (to : slice_get tables p.1.0 ≡ Some v) where
    abbrev own : Spaces
    own = spaces_of (sections cs tables t component w at)

    abbrev its : Spaces
    its = spaces_of (sections cs tables t p.1.0 v to)

    -- the type of an import of the pair
    typed : (import : ℕ) → IsPairOf set tables component import p → (ty : InstanceTy) × (slice_get own.types p.0.1 ≡ Some (instance_type ty)) × IsImportOf own import ty
    typed import q =
        let s = table_of import q in
        (shared cs tables t component w at).imports import p.0.1 (ap (λ (x : Shared). import_type_in x import) (some_in (sym at ∙ s.1)) ∙ s.2)

    -- the instance that it is linked to
    exports_it : (import : ℕ) (q : IsPairOf set tables component import p) → (ms : List NamedMember) × (slice_get its.instances p.1.1 ≡ Some ms) × (export_at its q.link.export ≡ Some (exported_instance ms))
    exports_it import q =
        let s = table_to import q in
        (shared cs tables t p.1.0 v to).exports q.link.export p.1.1 (ap (λ (x : Shared). exported_instance_in x q.link.export) (some_in (sym to ∙ s.1)) ∙ s.2)

    counted_type : (ty : InstanceTy) → slice_get own.types p.0.1 ≡ Some (instance_type ty) → IsInstanceCounted (next_resource own) ty
    counted_type ty is = got_at (IsDefCounted (next_resource own)) own.types p.0.1 (instance_type ty) (counted (sections cs tables t component w at)).types is

    linked_to : (import : ℕ) (q : IsPairOf set tables component import p) (ty : InstanceTy) (ms : List NamedMember) (is : slice_get own.types p.0.1 ≡ Some (instance_type ty)) (of : IsImportOf own import ty)
        → export_at its q.link.export ≡ Some (exported_instance ms) → IsLinkedTo set component import ty of.next p.1.0 (exported_instance ms)
    linked_to import q ty ms is of exported = record {
      import = record { name = of.name; desc = extern.instance (map (item_from ty of.next) ty.items) };
      there = ap (option_and_then (λ (s : Spaces). slice_get s.imports import)) (spaces_are cs tables t component w at) ∙ of.import_is;
      items = ap extern.instance (items_told types_move funcs_move ty of.next ty.items (counted_type ty is).items);
      link = q.link;
      linked = q.linked;
      to = sym q.provider;
      exported = ap (option_and_then (λ (s : Spaces). option_map (λ x. x.def) (slice_get s.exports q.link.export))) (ap (slice_get (spaces_of_all cs)) (sym q.provider) ∙ spaces_are cs tables t p.1.0 v to) ∙ exported;
    }

    both : (j k : ℕ) (x y : NamedExtern) → IsPairOf set tables component j p → IsPairOf set tables component k p → import_in set.spaces component j ≡ Some x → import_in set.spaces component k ≡ Some y
        → IsServed set (import_at component j x) → IsServed set (import_at component k y)
    both j k x y q r there here served =
        let a = typed j q in
        let b = typed k r in
        let e = exports_it j q in
        let f = exports_it k r in
        let one_type : b.0 ≡ a.0 = instance_is (some_in (sym b.1 ∙ a.1)) in
        let one_instance : f.0 ≡ e.0 = some_in (sym f.1 ∙ e.1) in
        let of : IsImportOf own k a.0 = subst (IsImportOf own k) one_type b.2 in
        alike (sections_of cs) sees component j k p.1.0 a.0 a.2.next of.next (exported_instance e.0) x y
        (counted_type a.0 a.1).fresh
        (linked_to j q a.0 e.0 a.1 a.2 e.2)
        (linked_to k r a.0 e.0 a.1 of (f.2 ∙ ap (λ (ms : List NamedMember). Some (exported_instance ms)) one_instance))
        there here served
      where
        instance_is : {s u : InstanceTy} → instance_type s ≡ instance_type u → s ≡ u
        instance_is e = cc

  -- an import of a pair that serves is served
  pub served_again : (import : ℕ) (y : NamedExtern) → IsServedPair set tables p → IsPairOf set tables component import p → import_in set.spaces component import ≡ Some y → IsServed set (import_at component import y)
  served_again import y h q here =
      let from = table_of import q in
      let to = table_to import q in
      let there : import_in set.spaces component h.import ≡ Some h.item = ap (λ (c : ℕ). import_in set.spaces c h.import) (sym q.importer) ∙ h.there in
      let pair : IsPairOf set tables component h.import p = subst (λ (c : ℕ). IsPairOf set tables c h.import p) q.importer h.pair in
      let served : IsServed set (import_at component h.import h.item) = subst (λ (c : ℕ). IsServed set (import_at c h.import h.item)) q.importer h.served in
      both from.0 from.1 to.0 to.1 h.import import h.item y pair q there here served

-- ---- what a pair tells

-- an import that is linked is there
pub linked_import : (set : LinkSet) (c n : ℕ) (l : Link) → links_of set c n ≡ Some l → (x : NamedExtern) × (import_in set.spaces c n ≡ Some x)
linked_import set c n l e = let s = stepped (import_in set.spaces c n) (λ x. link_of set (import_at c n x)) l e in (s.0, s.1)

-- a pair that was just found to serve
pub now_served : (set : LinkSet) (tables : List Shared) (component import : ℕ) (p : Pair) → IsPairOf set tables component import p
    → ((x : NamedExtern) → import_in set.spaces component import ≡ Some x → IsServed set (import_at component import x)) → IsServedPair set tables p
now_served set tables component import p q all =
    let x = linked_import set component import q.link q.linked in
    record {
      import = import;
      item = x.0;
      there = ap (λ (c : ℕ). import_in set.spaces c import) q.importer ∙ x.1;
      pair = subst (λ (c : ℕ). IsPairOf set tables c import p) (sym q.importer) q;
      served = subst (λ (c : ℕ). IsServed set (import_at c import x.0)) (sym q.importer) (all x.0 x.1);
    }

-- a pair that is among those that serve
pub noted : (w : Judged) (o : Option Pair) (Q : Pair → Type 0) → IsNoted w o → IfSome o Q → (p : Pair) × (list_any (pair_eq p) w.served.keys ≡ true) × Q p
noted w None Q h q = absurd h
noted w (Some p) Q h q = (p, h, q)
