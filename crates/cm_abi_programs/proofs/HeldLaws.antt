-- The lists at the places of what a type holds.
use Rattle.std.proofs.Common.{◌≡◌, ℕ, zero, suc, ◌+◌, ◌<◌, ◌≤◌, List, [], ◌∷◌, ◌++◌, append_assoc, append-nil, drop, get_or, length, length-append, map, take, refl, sym, ap, ◌∙◌, arith}
use Rattle.std.specs.Prelude.{Bool, true, false, nat_lt, ◌&&◌, if◌then◌else◌}
use Rattle.std.specs.List.{AllByRecursion}
use Rattle.std.proofs.lemmas.Bool.{le-ltb, ltb-false}
use Rattle.std.specs.declared.alloc.Global.{Global}
use Rattle.std.specs.declared.sync.Arc.{Arc}
use Rattle.std.specs.declared.vec.Vec.{Vec}
use Rattle.std.proofs.lemmas.List.{drop_more, get_or-map, get_or-take, length-map, length-take-le, map-append, take_more}
use Rattle.std.proofs.Math.ListN.{get_or-map as get_or-map_so}
use Rattle.cm_types.specs.Types.{Ty, Fields, Cases, bool, signed, unsigned, char, string, list, fixed_list, fields, cases, flags, own, borrow, no_fields, field, no_cases, plain, carrying, tuple_type}
use Rattle.cm_layout.specs.Shapes.{LayoutTy, Shape, layout_at, layout_of_fields_at, parts_at, parts_from, payloads_from, payloads_of, shape_of_type}
use Rattle.cm_types.specs.Spellable.{is_spellable}
use Rattle.cm_types.specs.declared.core_value.CoreKind.{CoreKind}
use Rattle.cm_types.specs.declared.limits.TheConstants.{MAX_FLAT_PARAMS}
use Rattle.cm_layout.specs.Alignment.{align_to}
use Rattle.cm_layout.specs.Flattening.{copies, flat_of, flat_of_cases, flat_of_fields}
use Rattle.cm_layout.proofs.WidthLaws.{join_long}
use Rattle.cm_layout.specs.Sizes.{align_of, size_of}
use Rattle.cm_types_arena.specs.Arena.{field_types, parts_in, payload_types}
use Rattle.cm_types_arena.specs.Replaced.{Standing, replaced, replaced_cases, replaced_fields}
use Rattle.cm_types_arena.specs.TypeDefs.{type_at}
use Rattle.cm_layout_placed.specs.Placed.{at_place, types_by}
use Rattle.cm_abi_programs.specs.Held.{is_list, items_at, items_of, part_shapes, payload_shapes, shapes_in}
use Rattle.cm_abi_programs.specs.Placed.{has_elements, is_wide, listed_flat}
use Rattle.cm_lemmas.proofs.Lists.{drop_past, take_all}
use Rattle.cm_layout_placed.proofs.ReplacedLaws.{parts_by, type_by, types_at_by, as_many_by}

-- ---- the shapes that a type holds are those of the types that it holds

fields_held : (fs : Fields) (at : ℕ) → part_shapes (parts_from (parts_at fs at)) ≡ map shape_of_type (field_types fs)
fields_held no_fields at = refl
fields_held (field l t fs) at = ap (λ xs. shape_of_type t ∷ xs) (fields_held fs (align_to (align_of t) at + size_of t))

payloads_held : (cs : Cases) → payload_shapes (payloads_from (payloads_of cs)) ≡ map shape_of_type (payload_types cs)
payloads_held no_cases = refl
payloads_held (plain l cs) = payloads_held cs
payloads_held (carrying l t cs) = ap (λ xs. shape_of_type t ∷ xs) (payloads_held cs)

pub shapes_held : (t : Ty) → shapes_in (shape_of_type t) ≡ map shape_of_type (parts_in t)
shapes_held bool = refl
shapes_held (signed w) = refl
shapes_held (unsigned w) = refl
shapes_held char = refl
shapes_held string = refl
shapes_held (list t) = refl
shapes_held (fixed_list t n) = refl
shapes_held (fields k fs) = fields_held fs 0
shapes_held (cases k cs) = payloads_held cs
shapes_held (flags ls) = refl
shapes_held (own r) = refl
shapes_held (borrow r) = refl

-- ---- tests that cannot be

false_true : {A : Type 0} → false ≡ true → A
false_true e = absurd cc

true_false : {A : Type 0} → true ≡ false → A
true_false e = absurd cc

-- ---- the parts of a type that core values may pass

copies_narrow : (n : ℕ) (ks : List CoreKind) (m : ℕ) → nat_lt 0 n ≡ true → length (copies n ks) ≤ m → length ks ≤ m
copies_narrow zero ks m some le = false_true some
copies_narrow (suc n) ks m some le = omega (arith, length-append ks (copies n ks), le)

fields_narrow : (fs : Fields) (m : ℕ) → length (flat_of_fields fs) ≤ m → AllByRecursion (λ p. length (flat_of p) ≤ m) (field_types fs)
fields_narrow no_fields m le = tt
fields_narrow (field l t fs) m le =
    let both = length-append (flat_of t) (flat_of_fields fs) in
    (omega (arith, both, le), fields_narrow fs m (omega (arith, both, le)))

payloads_narrow : (cs : Cases) (m : ℕ) → length (flat_of_cases cs) ≤ m → AllByRecursion (λ p. length (flat_of p) ≤ m) (payload_types cs)
payloads_narrow no_cases m le = tt
payloads_narrow (plain l cs) m le = payloads_narrow cs m le
payloads_narrow (carrying l t cs) m le =
    let both = join_long (flat_of t) (flat_of_cases cs) in
    (omega (arith, both, le), payloads_narrow cs m (omega (arith, both, le)))

-- what a type holds in place is no wider than it
parts_narrow : (t : Ty) (m : ℕ) → has_elements t ≡ true → is_list (shape_of_type t) ≡ false → length (flat_of t) ≤ m → AllByRecursion (λ p. length (flat_of p) ≤ m) (parts_in t)
parts_narrow bool m some place le = tt
parts_narrow (signed w) m some place le = tt
parts_narrow (unsigned w) m some place le = tt
parts_narrow char m some place le = tt
parts_narrow string m some place le = tt
parts_narrow (list t) m some place le = true_false place
parts_narrow (fixed_list t n) m some place le = (copies_narrow n (flat_of t) m some le, tt)
parts_narrow (fields k fs) m some place le = fields_narrow fs m le
parts_narrow (cases k cs) m some place le = payloads_narrow cs m (omega (arith, le))
parts_narrow (flags ls) m some place le = tt
parts_narrow (own r) m some place le = tt
parts_narrow (borrow r) m some place le = tt

-- a type that a file can spell has elements, whatever stands for its resources
spelled_by : (s : Standing) (t : Ty) → is_spellable t ≡ true → has_elements (replaced s t) ≡ true
spelled_by s bool e = refl
spelled_by s (signed w) e = refl
spelled_by s (unsigned w) e = refl
spelled_by s char e = refl
spelled_by s string e = refl
spelled_by s (list t) e = refl
spelled_by s (fixed_list t n) e = both_left (nat_lt 0 n) (is_spellable t) e
  where
    both_left : (a b : Bool) → (a && b) ≡ true → a ≡ true
    both_left true b e = refl
    both_left false b e = false_true e
spelled_by s (fields k fs) e = refl
spelled_by s (cases k cs) e = refl
spelled_by s (flags ls) e = refl
spelled_by s (own r) e = refl
spelled_by s (borrow r) e = refl

-- ---- lists that are gathered

pub all_at : (P : ℕ → Type 0) (ps : List ℕ) (i : ℕ) → i < length ps → AllByRecursion P ps → P (get_or ps i 0)
all_at P [] i lt h = absurd (omega (arith, lt))
all_at P (p ∷ ps) zero lt h = h.0
all_at P (p ∷ ps) (suc i) lt h = all_at P ps i (omega (arith, lt)) h.1

module _ {A : Type 0} where
  items_pushed : (xs : List (Arc (Vec A Global) Global)) (c : Arc (Vec A Global) Global) → items_of (xs ++ c ∷ []) ≡ items_of xs ++ c.value.items ∷ []
  items_pushed [] c = refl
  items_pushed (x ∷ xs) c = ap (λ ls. x.value.items ∷ ls) (items_pushed xs c)

  items_there : (cs : List (Arc (Vec A Global) Global)) (n : ℕ) (c : Arc (Vec A Global) Global) → n < length cs → c ≡ get_or cs n c → c.value.items ≡ items_at (items_of cs) n
  items_there [] n c lt is = absurd (omega (arith, lt))
  items_there (d ∷ cs) zero c lt is = ap (λ (l : Arc (Vec A Global) Global). l.value.items) is
  items_there (d ∷ cs) (suc n) c lt is = items_there cs n c (omega (arith, lt)) is

  pub gather_next : (lists : List (Arc (Vec A Global) Global)) (ps : List ℕ) (i : ℕ) (x y : Arc (Vec A Global) Global) (front all : List (Arc (Vec A Global) Global)) → i < length ps → get_or ps i 0 < length lists
      → x ≡ get_or lists (get_or ps i 0) x → y.value ≡ x.value → all ≡ front ++ y ∷ []
      → items_of all ++ map (items_at (items_of lists)) (drop (i + 1) ps) ≡ items_of front ++ map (items_at (items_of lists)) (drop i ps)
  gather_next lists ps i x y front all lt there is copy grown =
      let rest = map (items_at (items_of lists)) (drop (i + 1) ps) in
      ap (λ xs. items_of xs ++ rest) grown
      ∙ ap (λ xs. xs ++ rest) (items_pushed front y)
      ∙ append_assoc (items_of front) (y.value.items ∷ []) rest
      ∙ ap (λ d. items_of front ++ d ∷ rest) (ap (λ (v : Vec A Global). v.items) copy ∙ items_there lists (get_or ps i 0) x there is)
      ∙ ap (λ qs. items_of front ++ map (items_at (items_of lists)) qs) (sym (drop_more ps i 0 lt))

  pub gather_end : (lists : List (Arc (Vec A Global) Global)) (ps : List ℕ) (i : ℕ) (front : List (Arc (Vec A Global) Global)) → length ps ≤ i
      → items_of front ≡ items_of front ++ map (items_at (items_of lists)) (drop i ps)
  gather_end lists ps i front past = sym (append-nil (items_of front)) ∙ ap (λ qs. items_of front ++ map (items_at (items_of lists)) qs) (sym (drop_past ps i past))

-- ---- what stands at places

module _ {A D : Type 0} (list_in : List A → D) where
  -- what each of these lists is
  abbrev pub lists_in : List (Arc (Vec A Global) Global) → List D
  lists_in cs = map (λ c. list_in c.value.items) cs

  lists_items : (cs : List (Arc (Vec A Global) Global)) → lists_in cs ≡ map list_in (items_of cs)
  lists_items [] = refl
  lists_items (c ∷ cs) = ap (λ ls. list_in c.value.items ∷ ls) (lists_items cs)

  both_are : (a b : D) (xs ys : List D) → a ≡ b → xs ≡ ys → ◌≡◌ {A = List D} (a ∷ xs) (b ∷ ys)
  both_are a b xs ys e f = ap (λ x. x ∷ xs) e ∙ ap (λ zs. b ∷ zs) f

  -- where each type has this
  module _ (of_type : Ty → D) where
    module _ (lists : List (Arc (Vec A Global) Global)) (ts : List Ty) (n : ℕ) (le : n ≤ length ts) (are : lists_in lists ≡ map of_type (take n ts)) where
      one_there : (p : ℕ) → p < n → list_in (items_at (items_of lists) p) ≡ of_type (type_at ts p)
      one_there p lt =
          sym (get_or-map_so list_in (items_of lists) p [])
          ∙ (ap (λ ls. get_or ls p (list_in [])) (sym (lists_items lists) ∙ are)
          ∙ (get_or-map of_type (take n ts) p bool (list_in []) (omega (arith, lt, length-take-le n ts le))
          ∙ ap of_type (get_or-take n ts p bool lt)))

      all_there : (ps : List ℕ) → AllByRecursion (λ p. p < n) ps → map list_in (map (items_at (items_of lists)) ps) ≡ map of_type (map (type_at ts) ps)
      all_there [] h = refl
      all_there (p ∷ ps) h =
          both_are (list_in (items_at (items_of lists) p)) (of_type (type_at ts p)) (map list_in (map (items_at (items_of lists)) ps)) (map of_type (map (type_at ts) ps)) (one_there p h.0) (all_there ps h.1)

      pub as_many : length lists ≡ n
      as_many =
          sym (length-map lists (λ (c : Arc (Vec A Global) Global). list_in c.value.items)) ∙ (ap length are ∙ (length-map (take n ts) of_type ∙ length-take-le n ts le))

      -- that of the parts of a type, which stand at these places
      parts_are : (held : List (Arc (Vec A Global) Global)) (ps : List ℕ) (t : Ty) → AllByRecursion (λ p. p < n) ps → items_of held ≡ map (items_at (items_of lists)) ps
          → parts_in t ≡ map (type_at ts) ps → lists_in held ≡ map of_type (parts_in t)
      parts_are held ps t within gathered parts =
          lists_items held ∙ (ap (λ ls. map list_in ls) gathered ∙ (all_there ps within ∙ ap (λ xs. map of_type xs) (sym parts)))

    -- with one more type
    pub pushed_are : (old new : List (Arc (Vec A Global) Global)) (y : Arc (Vec A Global) Global) (ts : List Ty) (n : ℕ) → n < length ts → new ≡ old ++ y ∷ [] → lists_in old ≡ map of_type (take n ts)
        → list_in y.value.items ≡ of_type (type_at ts n) → lists_in new ≡ map of_type (take (n + 1) ts)
    pushed_are old new y ts n lt grown are is =
        ap lists_in grown
        ∙ (map-append (λ (c : Arc (Vec A Global) Global). list_in c.value.items) old (y ∷ [])
        ∙ (ap (λ xs. xs ++ list_in y.value.items ∷ []) are
        ∙ (ap (λ d. map of_type (take n ts) ++ d ∷ []) is
        ∙ (sym (map-append of_type (take n ts) (type_at ts n ∷ [])) ∙ ap (λ xs. map of_type xs) (sym (take_more ts n bool lt))))))

    pub whole_many : (lists : List (Arc (Vec A Global) Global)) (ts : List Ty) → lists_in lists ≡ map of_type ts → length lists ≡ length ts
    whole_many lists ts are = sym (length-map lists (λ (c : Arc (Vec A Global) Global). list_in c.value.items)) ∙ (ap length are ∙ length-map ts of_type)

  -- where each shape has this
  module _ (K : Shape → D) where
    -- what a type has
    abbrev pub by_shape : Ty → D
    by_shape t = K (shape_of_type t)

    map_twice : (xs : List Ty) → map by_shape xs ≡ map K (map shape_of_type xs)
    map_twice [] = refl
    map_twice (x ∷ xs) = ap (λ ks. K (shape_of_type x) ∷ ks) (map_twice xs)

    shapes_are : (t : Ty) (l : LayoutTy) → l ≡ layout_at t → map by_shape (parts_in t) ≡ map K (shapes_in l.shape)
    shapes_are t l laid = map_twice (parts_in t) ∙ (ap (λ xs. map K xs) (sym (shapes_held t)) ∙ ap (λ (y : LayoutTy). map K (shapes_in y.shape)) (sym laid))

    -- that of what a type holds, of which the parts stand at these places
    pub held_are : (lists : List (Arc (Vec A Global) Global)) (ts : List Ty) (n : ℕ) → n ≤ length ts → lists_in lists ≡ map by_shape (take n ts) → (held : List (Arc (Vec A Global) Global)) (ps : List ℕ) (t : Ty) (l : LayoutTy)
        → AllByRecursion (λ p. p < n) ps → items_of held ≡ map (items_at (items_of lists)) ps → parts_in t ≡ map (type_at ts) ps → l ≡ layout_at t → lists_in held ≡ map K (shapes_in l.shape)
    held_are lists ts n le are held ps t l within gathered parts laid = parts_are by_shape lists ts n le are held ps t within gathered parts ∙ shapes_are t l laid

    module _ (none : D) where
      narrow_flat : (t : Ty) → length (flat_of t) ≤ MAX_FLAT_PARAMS → listed_flat none K t ≡ by_shape t
      narrow_flat t le = rw (le-ltb MAX_FLAT_PARAMS (length (flat_of t)) le) refl

      all_narrow : (xs : List Ty) → AllByRecursion (λ p. length (flat_of p) ≤ MAX_FLAT_PARAMS) xs → map (listed_flat none K) xs ≡ map by_shape xs
      all_narrow [] h = refl
      all_narrow (x ∷ xs) h = both_are (listed_flat none K x) (by_shape x) (map (listed_flat none K) xs) (map by_shape xs) (narrow_flat x h.0) (all_narrow xs h.1)

      -- that of what a type holds that core values may pass
      pub flat_held : (lists : List (Arc (Vec A Global) Global)) (ts : List Ty) (n : ℕ) → n ≤ length ts → lists_in lists ≡ map (listed_flat none K) (take n ts) → (held : List (Arc (Vec A Global) Global)) (ps : List ℕ) (t : Ty) (l : LayoutTy)
          → AllByRecursion (λ p. p < n) ps → items_of held ≡ map (items_at (items_of lists)) ps → parts_in t ≡ map (type_at ts) ps → l ≡ layout_at t → has_elements t ≡ true → is_wide l.head ≡ false → is_list l.shape ≡ false
          → lists_in held ≡ map K (shapes_in l.shape)
      flat_held lists ts n le are held ps t l within gathered parts laid some narrow place =
          let few : length (flat_of t) ≤ MAX_FLAT_PARAMS = ltb-false MAX_FLAT_PARAMS (length (flat_of t)) (ap (λ (y : LayoutTy). is_wide y.head) (sym laid) ∙ narrow) in
          let there : is_list (shape_of_type t) ≡ false = ap (λ (y : LayoutTy). is_list y.shape) (sym laid) ∙ place in
          parts_are (listed_flat none K) lists ts n le are held ps t within gathered parts ∙ (all_narrow (parts_in t) (parts_narrow t MAX_FLAT_PARAMS some there few) ∙ shapes_are t l laid)

      -- and that of the type
      pub flat_is : (t : Ty) (l : LayoutTy) (d : D) → l ≡ layout_at t → d ≡ (if is_wide l.head then none else K l.shape) → d ≡ listed_flat none K t
      flat_is t l d laid is = is ∙ ap (λ (y : LayoutTy). if is_wide y.head then none else K y.shape) laid

  -- that of a tuple of some of a whole list of types
  module _ (K : Shape → D) (lists : List (Arc (Vec A Global) Global)) (ts : List Ty) (are : lists_in lists ≡ map (by_shape K) ts) where
    pub tuple_held : (held : List (Arc (Vec A Global) Global)) (ps : List ℕ) (fs : Fields) (l : LayoutTy) → AllByRecursion (λ p. p < length ts) ps → items_of held ≡ map (items_at (items_of lists)) ps
        → field_types fs ≡ map (type_at ts) ps → l ≡ layout_of_fields_at fs → lists_in held ≡ map K (shapes_in l.shape)
    tuple_held held ps fs l within gathered parts laid =
        let whole : lists_in lists ≡ map (by_shape K) (take (length ts) ts) = are ∙ ap (λ xs. map (by_shape K) xs) (sym (take_all ts (length ts) (omega arith))) in
        held_are K lists ts (length ts) (omega arith) whole held ps (fields tuple_type fs) l within gathered parts laid

-- a choice that was taken
pub wide_none : {D : Type 0} (b : Bool) (none some d : D) → b ≡ true → d ≡ none → d ≡ (if b then none else some)
wide_none true none some d e is = is
wide_none false none some d e is = false_true e

pub narrow_some : {D : Type 0} (b : Bool) (none some d : D) → b ≡ false → d ≡ (if b then none else some) → d ≡ some
narrow_some true none some d e is = true_false e
narrow_some false none some d e is = is

pub some_narrow : {D : Type 0} (b : Bool) (none some d : D) → b ≡ false → d ≡ some → d ≡ (if b then none else some)
some_narrow true none some d e is = true_false e
some_narrow false none some d e is = is

-- all places below a number are below a greater one
pub all_below : (n m : ℕ) (ps : List ℕ) → n ≤ m → AllByRecursion (λ p. p < n) ps → AllByRecursion (λ p. p < m) ps
all_below n m [] le h = tt
all_below n m (p ∷ ps) le h = (omega (arith, le, h.0), all_below n m ps le h.1)

-- ---- types with each resource replaced

pub parts_placed : (s : Standing) (types : List Ty) (n : ℕ) (ps : List ℕ) → parts_in (type_at types n) ≡ map (type_at types) ps → parts_in (type_at (types_by s types) n) ≡ map (type_at (types_by s types)) ps
parts_placed s types n ps parts =
    ap parts_in (type_by s types n) ∙ (parts_by s (type_at types n) ∙ (ap (λ ts. map (replaced s) ts) parts ∙ types_at_by s types ps))

pub elements_placed : (s : Standing) (types : List Ty) (n : ℕ) → is_spellable (type_at types n) ≡ true → has_elements (type_at (types_by s types) n) ≡ true
elements_placed s types n spelled = ap has_elements (type_by s types n) ∙ spelled_by s (type_at types n) spelled

pub layout_placed : (ls : List LayoutTy) (ts : List Ty) (n : ℕ) (l : LayoutTy) → ls ≡ map layout_at ts → l ≡ at_place ls n → l ≡ layout_at (type_at ts n)
layout_placed ls ts n l laid is = is ∙ (ap (λ xs. at_place xs n) laid ∙ get_or-map_so layout_at ts n bool)

pub as_many_laid : (ls : List LayoutTy) (s : Standing) (types : List Ty) → ls ≡ map layout_at (types_by s types) → length ls ≡ length types
as_many_laid ls s types laid = ap length laid ∙ (length-map (types_by s types) layout_at ∙ as_many_by s types)

pub all_types : (ts : List Ty) (n : ℕ) → length ts ≤ n → take n ts ≡ ts
all_types ts n past = take_all ts n past
