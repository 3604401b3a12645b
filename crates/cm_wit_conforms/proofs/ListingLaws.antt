-- Names that are listed one after another.
use Rattle.std.proofs.Common.{◌≡◌, ℕ, ◌+◌, ◌<◌, ◌≤◌, List, [], ◌∷◌, ◌++◌, length, map, take, get_or, inl, inr, ◌⊎◌, refl, sym, ap, subst, ◌∙◌, arith, length-append}
use Rattle.std.specs.List.{AllByRecursion}
use Rattle.std.proofs.Math.ListN.{get_or-append}
use Rattle.std.proofs.Math.Seq.{get_or-append_seam}
use Rattle.std.proofs.lemmas.List.{length-map, map-append, take_more, take_all, get_or-map, get_or_past}
use Rattle.cm_types.specs.ExternNames.{HasLabels, NameTree, name_spelling}
use Rattle.cm_types_arena.specs.SharedNames.{name_with, tree_in}
use Rattle.cm_types_arena.specs.declared.names.Front.{Front}
use Rattle.cm_types_arena.specs.declared.names.Front.TheVariants as front
use Rattle.cm_types_arena.specs.declared.names.SharedName.{SharedName}
use Rattle.cm_wit_conforms.specs.Parts.{FrontKey, back_of, bare_front, front_of, parts_of}
use Rattle.cm_wit_conforms.specs.PartViews.{front_at, front_view, parts_in}
use Rattle.cm_wit_conforms.specs.Listings.{AreNames, fronts_in}
use Rattle.cm_wit_conforms.specs.declared.listing.ListedNames.{ListedNames}
use Rattle.cm_wit_conforms.specs.declared.parts.FrontParts.{FrontParts}
use Rattle.cm_wit_conforms.specs.declared.parts.NameParts.{NameParts}
use Rattle.cm_lemmas.proofs.Lists.{all_push}

all_wider : (m n : ℕ) (ns : List NameParts) → m ≤ n → AllByRecursion (λ x. x.front < m) ns → AllByRecursion (λ x. x.front < n) ns
all_wider m n [] le h = tt
all_wider m n (x ∷ ns) le h = (omega (arith, h.0), all_wider m n ns le h.1)

-- a front more changes none of those before it
parts_kept : (fs : List FrontKey) (f : FrontKey) (n : ℕ) (ns : List NameParts) → n ≡ length fs → AllByRecursion (λ x. x.front < n) ns → map (parts_in (fs ++ f ∷ [])) ns ≡ map (parts_in fs) ns
parts_kept fs f n [] e h = refl
parts_kept fs f n (x ∷ ns) e h =
    let here : front_at (fs ++ f ∷ []) x.front ≡ front_at fs x.front = get_or-append fs (f ∷ []) (bare_front 0) x.front (omega (arith, h.0)) in
    ap (λ (k : FrontKey). (k, x.back.now) ∷ map (parts_in (fs ++ f ∷ [])) ns) here
    ∙ ap (λ (l : List (FrontKey × List ℕ)). parts_in fs x ∷ l) (parts_kept fs f n ns e h.1)

-- a name more, whose front the listing has
pub named_more : (old new : ListedNames) (t : NameTree) (n : NameParts) (texts : List (List ℕ)) → fronts_in new ≡ fronts_in old → length new.fronts.items ≡ length old.fronts.items → new.names.items ≡ old.names.items ++ n ∷ [] → HasLabels t → parts_in (fronts_in old) n ≡ parts_of t → n.front < length old.fronts.items → AreNames old texts → AreNames new (texts ++ name_spelling t ∷ [])
named_more old new t n texts fs len ns labels is lt h = record {
  trees = h.trees ++ t ∷ [];
  labels = all_push HasLabels h.trees t h.labels labels;
  spelled = map-append name_spelling h.trees (t ∷ []) ∙ ap (λ (l : List (List ℕ)). l ++ name_spelling t ∷ []) h.spelled;
  parts =
      ap (λ (l : List NameParts). map (parts_in (fronts_in new)) l) ns
      ∙ (map-append (parts_in (fronts_in new)) old.names.items (n ∷ [])
      ∙ (ap (λ (k : List FrontKey). map (parts_in k) old.names.items ++ parts_in k n ∷ []) fs
      ∙ (ap (λ (l : List (FrontKey × List ℕ)). l ++ parts_in (fronts_in old) n ∷ []) h.parts
      ∙ (ap (λ (p : FrontKey × List ℕ). map parts_of h.trees ++ p ∷ []) is ∙ sym (map-append parts_of h.trees (t ∷ []))))));
  within = subst (λ (l : List NameParts). AllByRecursion (λ x. x.front < length new.fronts.items) l) (sym ns)
      (all_push (λ (x : NameParts). x.front < length new.fronts.items) old.names.items n (all_wider (length old.fronts.items) (length new.fronts.items) old.names.items (omega (arith, len)) h.within) (omega (arith, lt, len)));
}

-- the listing with a front more
fronted : (old new : ListedNames) (f : FrontParts) (texts : List (List ℕ)) → new.fronts.items ≡ old.fronts.items ++ f ∷ [] → new.names.items ≡ old.names.items → AreNames old texts → AreNames new texts
fronted old new f texts fs ns h =
    let view : fronts_in new ≡ fronts_in old ++ front_view f ∷ [] = ap (map front_view) fs ∙ map-append front_view old.fronts.items (f ∷ []) in
    let len : length new.fronts.items ≡ length old.fronts.items + 1 = ap (λ (l : List FrontParts). length l) fs ∙ length-append old.fronts.items (f ∷ []) in
    record {
      trees = h.trees;
      labels = h.labels;
      spelled = h.spelled;
      parts =
          ap (λ (l : List NameParts). map (parts_in (fronts_in new)) l) ns
          ∙ (ap (λ (k : List FrontKey). map (parts_in k) old.names.items) view
          ∙ (parts_kept (fronts_in old) (front_view f) (length old.fronts.items) old.names.items (sym (length-map old.fronts.items front_view)) h.within ∙ h.parts));
      within = subst (λ (l : List NameParts). AllByRecursion (λ x. x.front < length new.fronts.items) l) (sym ns)
          (all_wider (length old.fronts.items) (length new.fronts.items) old.names.items (omega (arith, len)) h.within);
    }

-- a name more, with a front of its own
pub added : (old between new : ListedNames) (t : NameTree) (f : FrontParts) (n : NameParts) (texts : List (List ℕ)) → between.fronts.items ≡ old.fronts.items ++ f ∷ [] → between.names.items ≡ old.names.items → new.fronts.items ≡ between.fronts.items → new.names.items ≡ between.names.items ++ n ∷ [] → HasLabels t → front_view f ≡ front_of t → n.front ≡ length old.fronts.items → n.back.now ≡ back_of t → AreNames old texts → AreNames new (texts ++ name_spelling t ∷ [])
added old between new t f n texts fs same gs ns labels front at back h =
    let view : fronts_in between ≡ fronts_in old ++ front_view f ∷ [] = ap (map front_view) fs ∙ map-append front_view old.fronts.items (f ∷ []) in
    let len : length between.fronts.items ≡ length old.fronts.items + 1 = ap (λ (l : List FrontParts). length l) fs ∙ length-append old.fronts.items (f ∷ []) in
    let place : n.front ≡ length (fronts_in old) = at ∙ sym (length-map old.fronts.items front_view) in
    let found : front_at (fronts_in between) n.front ≡ front_of t =
    ap (λ (k : List FrontKey). front_at k n.front) view
    ∙ (ap (λ (i : ℕ). front_at (fronts_in old ++ front_view f ∷ []) i) place
    ∙ (get_or-append_seam (fronts_in old) (front_view f) [] (bare_front 0) ∙ front)) in
    let is : parts_in (fronts_in between) n ≡ parts_of t =
    ap (λ (k : FrontKey). (k, n.back.now)) found ∙ ap (λ (b : List ℕ). (front_of t, b)) back in
    named_more between new t n texts (ap (map front_view) gs) (ap (λ (l : List FrontParts). length l) gs) ns labels is (omega (arith, at, len)) (fronted old between f texts fs same h)

-- ---- fronts that names share

same_front : (f : Front) (l m : List ℕ) → front_of (name_with f l) ≡ front_of (name_with f m)
same_front front.Plain l m = refl
same_front (front.Method r) l m = refl
same_front (front.Static r) l m = refl
same_front (front.Constructor r) l m = refl
same_front (front.Interface p) l m = refl

abbrev bare_of : Front → FrontKey
bare_of f = front_of (name_with f [])

pub fronts_more : (fronts : List Front) (parts more : List FrontParts) (f : FrontParts) → map front_view parts ≡ map bare_of fronts → more ≡ parts ++ f ∷ [] → front_view f ≡ bare_front 0 → map front_view more ≡ map bare_of fronts ++ bare_front 0 ∷ []
fronts_more fronts parts more f e m g =
    ap (map front_view) m ∙ (map-append front_view parts (f ∷ []) ∙ (ap (λ (l : List FrontKey). l ++ front_view f ∷ []) e ∙ ap (λ (k : FrontKey). map bare_of fronts ++ k ∷ []) g))

-- the front of a shared name is the one of its number, or the plain one
pub shared_at : (fronts : List Front) (x : SharedName) (fs : List FrontKey) (k : ℕ) → fs ≡ map bare_of fronts ++ bare_front 0 ∷ [] → (x.front < length fronts → k ≡ x.front) → (length fronts ≤ x.front → k ≡ length fronts) → (x.front < length fronts) ⊎ (length fronts ≤ x.front) → (front_at fs k ≡ front_of (tree_in fronts x)) × (k < length fs)
shared_at fronts x fs k e inside outside (inl lt) =
    let at : k ≡ x.front = inside lt in
    let len : length (map bare_of fronts) ≡ length fronts = length-map fronts bare_of in
    let all : length fs ≡ length fronts + 1 = ap (λ (l : List FrontKey). length l) e ∙ (length-append (map bare_of fronts) (bare_front 0 ∷ []) ∙ ap (λ (n : ℕ). n + 1) len) in (
      ap (λ (l : List FrontKey). front_at l k) e
          ∙ (ap (λ (i : ℕ). front_at (map bare_of fronts ++ bare_front 0 ∷ []) i) at
          ∙ (get_or-append (map bare_of fronts) (bare_front 0 ∷ []) (bare_front 0) x.front (omega (arith, lt, len))
          ∙ (get_or-map bare_of fronts x.front front.Plain (bare_front 0) lt
          ∙ same_front (get_or fronts x.front front.Plain) [] x.back))),
      omega (arith, at, lt, all),
    )
shared_at fronts x fs k e inside outside (inr le) =
    let at : k ≡ length fronts = outside le in
    let len : length (map bare_of fronts) ≡ length fronts = length-map fronts bare_of in
    let all : length fs ≡ length fronts + 1 = ap (λ (l : List FrontKey). length l) e ∙ (length-append (map bare_of fronts) (bare_front 0 ∷ []) ∙ ap (λ (n : ℕ). n + 1) len) in (
      ap (λ (l : List FrontKey). front_at l k) e
          ∙ (ap (λ (i : ℕ). front_at (map bare_of fronts ++ bare_front 0 ∷ []) i) (at ∙ sym len)
          ∙ (get_or-append_seam (map bare_of fronts) (bare_front 0) [] (bare_front 0)
          ∙ sym (ap (λ (f : Front). front_of (name_with f x.back)) (get_or_past fronts x.front front.Plain le)))),
      omega (arith, at, all),
    )

-- ---- names of a list, one after another

pub names_start : {X : Type 0} (name : X → List ℕ) (xs : List X) (l : ListedNames) → AreNames l [] → AreNames l (map name (take 0 xs))
names_start name [] l h = h
names_start name (x ∷ xs) l h = h

pub names_next : {X : Type 0} (name : X → List ℕ) (xs : List X) (i : ℕ) (x : X) (text : List ℕ) (l : ListedNames) → i < length xs → x ≡ get_or xs i x → text ≡ name x → AreNames l (map name (take i xs) ++ text ∷ []) → AreNames l (map name (take (i + 1) xs))
names_next {X} name xs i x text l lt is e h =
    subst (AreNames l)
    (ap (λ (t : List ℕ). map name (take i xs) ++ t ∷ []) (e ∙ ap name is)
    ∙ sym (ap (map name) (take_more xs i x lt) ∙ map-append name (take i xs) (get_or xs i x ∷ []))) h

pub names_all : {X : Type 0} (name : X → List ℕ) (xs : List X) (i : ℕ) (l : ListedNames) → length xs ≤ i → AreNames l (map name (take i xs)) → AreNames l (map name xs)
names_all {X} name xs i l le h = subst (λ (ys : List X). AreNames l (map name ys)) (take_all i xs le) h

pub at_length : (l : ListedNames) (k : ℕ) → k < length (fronts_in l) → k < length l.fronts.items
at_length l k lt = omega (arith, lt, length-map l.fronts.items front_view)
