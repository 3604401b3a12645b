-- Two types with one number are equal.
use Rattle.std.proofs.Common.{◌≡◌, ℕ, List, [], ◌∷◌, Option, Some, None, refl, sym, ap, subst, ◌∙◌}
use Rattle.std.specs.Prelude.{slice_index}
use Rattle.cm_types_arena.specs.TypeDefs.{func_at, type_at}
use Rattle.cm_types_arena.specs.Replaced.{Standing, replaced, replaced_func}
use Rattle.cm_types.specs.Types.{Ty, FuncTy, Fields, Cases, bool, signed, unsigned, char, string, list, fixed_list, fields, cases, flags, own, borrow, no_fields, field, no_cases, plain, carrying, record_type, tuple_type, variant_type, enum_type, option_type, result_type, bits_8, bits_16, bits_32, bits_64}
use Rattle.cm_types_numbers.specs.declared.key.Key.{Key}
use Rattle.cm_types_numbers.specs.declared.key.Key.TheVariants as key
use Rattle.cm_types_numbers.specs.declared.key.Leaf.TheVariants as leaf
use Rattle.cm_types_numbers.specs.Numbering.{Numbering, over, over_two, over_three, number, number_fields, number_cases, number_labels, number_of_signature, number_func, AreNumbers, AreFuncNumbers, TellsTypes, TellsFuncs, Agree, AgreeFuncs}
use Rattle.cm_types_numbers.proofs.Places.{number_there}

-- each number is that of one label, and of one node
pub record IsDistinct (t : Numbering) : Type 0 where
  pub labels : (l m : List ℕ) (n : ℕ) → t.label l ≡ Some n → t.label m ≡ Some n → l ≡ m
  pub nodes : (j k : Key) (n : ℕ) → t.node j ≡ Some n → t.node k ≡ Some n → j ≡ k

-- ---- the parts of a node that has a number

parts_over : (t : Numbering) (k : ℕ → Key) (a : Option ℕ) (n : ℕ) → over t k a ≡ Some n → (m : ℕ) × (a ≡ Some m) × (t.node (k m) ≡ Some n)
parts_over t k None n h = absurd cc
parts_over t k (Some m) n h = (m, refl, h)

parts_over_two : (t : Numbering) (k : ℕ → ℕ → Key) (a b : Option ℕ) (n : ℕ) → over_two t k a b ≡ Some n → (i j : ℕ) × (a ≡ Some i) × (b ≡ Some j) × (t.node (k i j) ≡ Some n)
parts_over_two t k None b n h = absurd cc
parts_over_two t k (Some i) b n h = let p = parts_over t (k i) b n h in (i, p.0, refl, p.1, p.2)

parts_over_three : (t : Numbering) (k : ℕ → ℕ → ℕ → Key) (a b c : Option ℕ) (n : ℕ) → over_three t k a b c ≡ Some n → (i j l : ℕ) × (a ≡ Some i) × (b ≡ Some j) × (c ≡ Some l) × (t.node (k i j l) ≡ Some n)
parts_over_three t k None b c n h = absurd cc
parts_over_three t k (Some i) b c n h = let p = parts_over_two t (k i) b c n h in (i, p.0, p.1, refl, p.2, p.3, p.4)

-- ---- what a node is

abbrev ShowsLabels : Numbering → Key → List (List ℕ) → Type 0
ShowsLabels t (key.Leaf leaf.NoCases) ls = ls ≡ []
ShowsLabels t (key.Plain i j) ls = (l : List ℕ) × (ms : List (List ℕ)) × (ls ≡ l ∷ ms) × (t.label l ≡ Some i) × (number_labels t ms ≡ Some j)
ShowsLabels t _ ls = ⊥

abbrev ShowsFields : Numbering → Key → Fields → Type 0
ShowsFields t (key.Leaf leaf.NoFields) fs = fs ≡ no_fields
ShowsFields t (key.Field i j k) fs = (l : List ℕ) × (x : Ty) × (gs : Fields) × (fs ≡ field l x gs) × (t.label l ≡ Some i) × (number t x ≡ Some j) × (number_fields t gs ≡ Some k)
ShowsFields t _ fs = ⊥

abbrev ShowsCases : Numbering → Key → Cases → Type 0
ShowsCases t (key.Leaf leaf.NoCases) cs = cs ≡ no_cases
ShowsCases t (key.Plain i j) cs = (l : List ℕ) × (ds : Cases) × (cs ≡ plain l ds) × (t.label l ≡ Some i) × (number_cases t ds ≡ Some j)
ShowsCases t (key.Carrying i j k) cs = (l : List ℕ) × (x : Ty) × (ds : Cases) × (cs ≡ carrying l x ds) × (t.label l ≡ Some i) × (number t x ≡ Some j) × (number_cases t ds ≡ Some k)
ShowsCases t _ cs = ⊥

abbrev Shows : Numbering → Key → Ty → Type 0
Shows t (key.Leaf leaf.Bool) y = y ≡ bool
Shows t (key.Leaf leaf.S8) y = y ≡ signed bits_8
Shows t (key.Leaf leaf.S16) y = y ≡ signed bits_16
Shows t (key.Leaf leaf.S32) y = y ≡ signed bits_32
Shows t (key.Leaf leaf.S64) y = y ≡ signed bits_64
Shows t (key.Leaf leaf.U8) y = y ≡ unsigned bits_8
Shows t (key.Leaf leaf.U16) y = y ≡ unsigned bits_16
Shows t (key.Leaf leaf.U32) y = y ≡ unsigned bits_32
Shows t (key.Leaf leaf.U64) y = y ≡ unsigned bits_64
Shows t (key.Leaf leaf.Char) y = y ≡ char
Shows t (key.Leaf leaf.String) y = y ≡ string
Shows t (key.List i) y = (x : Ty) × (y ≡ list x) × (number t x ≡ Some i)
Shows t (key.FixedList i k) y = (x : Ty) × (y ≡ fixed_list x k) × (number t x ≡ Some i)
Shows t (key.Record i) y = (fs : Fields) × (y ≡ fields record_type fs) × (number_fields t fs ≡ Some i)
Shows t (key.Tuple i) y = (fs : Fields) × (y ≡ fields tuple_type fs) × (number_fields t fs ≡ Some i)
Shows t (key.Variant i) y = (cs : Cases) × (y ≡ cases variant_type cs) × (number_cases t cs ≡ Some i)
Shows t (key.Enum i) y = (cs : Cases) × (y ≡ cases enum_type cs) × (number_cases t cs ≡ Some i)
Shows t (key.Option i) y = (cs : Cases) × (y ≡ cases option_type cs) × (number_cases t cs ≡ Some i)
Shows t (key.Result i) y = (cs : Cases) × (y ≡ cases result_type cs) × (number_cases t cs ≡ Some i)
Shows t (key.Flags i) y = (ls : List (List ℕ)) × (y ≡ flags ls) × (number_labels t ls ≡ Some i)
Shows t (key.Own c k) y = y ≡ own (record { component = c; number = k })
Shows t (key.Borrow c k) y = y ≡ borrow (record { component = c; number = k })
Shows t _ y = ⊥

-- the node of this number shows this
record HasNode (t : Numbering) (n : ℕ) (P : Key → Type 0) : Type 0 where
  k : Key
  node : t.node k ≡ Some n
  shows : P k

labels_node : (t : Numbering) (ls : List (List ℕ)) (n : ℕ) → number_labels t ls ≡ Some n → HasNode t n (λ k. ShowsLabels t k ls)
labels_node t [] n h = record { k = key.Leaf leaf.NoCases; node = h; shows = refl }
labels_node t (l ∷ ls) n h = let p = parts_over_two t key.Plain (t.label l) (number_labels t ls) n h in record { k = key.Plain p.0 p.1; node = p.4; shows = (l, ls, refl, p.2, p.3) }

fields_node : (t : Numbering) (fs : Fields) (n : ℕ) → number_fields t fs ≡ Some n → HasNode t n (λ k. ShowsFields t k fs)
fields_node t no_fields n h = record { k = key.Leaf leaf.NoFields; node = h; shows = refl }
fields_node t (field l x fs) n h = let p = parts_over_three t key.Field (t.label l) (number t x) (number_fields t fs) n h in record { k = key.Field p.0 p.1 p.2; node = p.6; shows = (l, x, fs, refl, p.3, p.4, p.5) }

cases_node : (t : Numbering) (cs : Cases) (n : ℕ) → number_cases t cs ≡ Some n → HasNode t n (λ k. ShowsCases t k cs)
cases_node t no_cases n h = record { k = key.Leaf leaf.NoCases; node = h; shows = refl }
cases_node t (plain l cs) n h = let p = parts_over_two t key.Plain (t.label l) (number_cases t cs) n h in record { k = key.Plain p.0 p.1; node = p.4; shows = (l, cs, refl, p.2, p.3) }
cases_node t (carrying l x cs) n h = let p = parts_over_three t key.Carrying (t.label l) (number t x) (number_cases t cs) n h in record { k = key.Carrying p.0 p.1 p.2; node = p.6; shows = (l, x, cs, refl, p.3, p.4, p.5) }

type_node : (t : Numbering) (y : Ty) (n : ℕ) → number t y ≡ Some n → HasNode t n (λ k. Shows t k y)
type_node t bool n h = record { k = key.Leaf leaf.Bool; node = h; shows = refl }
type_node t (signed bits_8) n h = record { k = key.Leaf leaf.S8; node = h; shows = refl }
type_node t (signed bits_16) n h = record { k = key.Leaf leaf.S16; node = h; shows = refl }
type_node t (signed bits_32) n h = record { k = key.Leaf leaf.S32; node = h; shows = refl }
type_node t (signed bits_64) n h = record { k = key.Leaf leaf.S64; node = h; shows = refl }
type_node t (unsigned bits_8) n h = record { k = key.Leaf leaf.U8; node = h; shows = refl }
type_node t (unsigned bits_16) n h = record { k = key.Leaf leaf.U16; node = h; shows = refl }
type_node t (unsigned bits_32) n h = record { k = key.Leaf leaf.U32; node = h; shows = refl }
type_node t (unsigned bits_64) n h = record { k = key.Leaf leaf.U64; node = h; shows = refl }
type_node t char n h = record { k = key.Leaf leaf.Char; node = h; shows = refl }
type_node t string n h = record { k = key.Leaf leaf.String; node = h; shows = refl }
type_node t (list x) n h = let p = parts_over t key.List (number t x) n h in record { k = key.List p.0; node = p.2; shows = (x, refl, p.1) }
type_node t (fixed_list x k) n h = let p = parts_over t (λ m. key.FixedList m k) (number t x) n h in record { k = key.FixedList p.0 k; node = p.2; shows = (x, refl, p.1) }
type_node t (fields record_type fs) n h = let p = parts_over t key.Record (number_fields t fs) n h in record { k = key.Record p.0; node = p.2; shows = (fs, refl, p.1) }
type_node t (fields tuple_type fs) n h = let p = parts_over t key.Tuple (number_fields t fs) n h in record { k = key.Tuple p.0; node = p.2; shows = (fs, refl, p.1) }
type_node t (cases variant_type cs) n h = let p = parts_over t key.Variant (number_cases t cs) n h in record { k = key.Variant p.0; node = p.2; shows = (cs, refl, p.1) }
type_node t (cases enum_type cs) n h = let p = parts_over t key.Enum (number_cases t cs) n h in record { k = key.Enum p.0; node = p.2; shows = (cs, refl, p.1) }
type_node t (cases option_type cs) n h = let p = parts_over t key.Option (number_cases t cs) n h in record { k = key.Option p.0; node = p.2; shows = (cs, refl, p.1) }
type_node t (cases result_type cs) n h = let p = parts_over t key.Result (number_cases t cs) n h in record { k = key.Result p.0; node = p.2; shows = (cs, refl, p.1) }
type_node t (flags ls) n h = let p = parts_over t key.Flags (number_labels t ls) n h in record { k = key.Flags p.0; node = p.2; shows = (ls, refl, p.1) }
type_node t (own r) n h = record { k = key.Own r.component r.number; node = h; shows = refl }
type_node t (borrow r) n h = record { k = key.Borrow r.component r.number; node = h; shows = refl }

-- ---- one number, one type

module _ (t : Numbering) (one : IsDistinct t) where
  -- what the node of this number shows is what this node shows
  at_node : (n : ℕ) (P : Key → Type 0) (k : Key) → t.node k ≡ Some n → HasNode t n P → P k
  at_node n P k is h = subst P (one.nodes h.k k n h.node is) h.shows

  tell_labels : (ls ms : List (List ℕ)) (n : ℕ) → number_labels t ls ≡ Some n → number_labels t ms ≡ Some n → ls ≡ ms
  tell_labels [] ms n h g = sym (at_node n (λ k. ShowsLabels t k ms) (key.Leaf leaf.NoCases) h (labels_node t ms n g))
  tell_labels (l ∷ ls) ms n h g =
      let p = parts_over_two t key.Plain (t.label l) (number_labels t ls) n h in
      let s = at_node n (λ k. ShowsLabels t k ms) (key.Plain p.0 p.1) p.4 (labels_node t ms n g) in
      let head = one.labels l s.0 p.0 p.2 s.3 in
      let tail = tell_labels ls s.1 p.1 p.3 s.4 in
      ap (λ (x : List ℕ). x ∷ ls) head ∙ ap (λ (xs : List (List ℕ)). s.0 ∷ xs) tail ∙ sym s.2

  mutual
    pub tell : (x y : Ty) (n : ℕ) → number t x ≡ Some n → number t y ≡ Some n → x ≡ y
    tell bool y n h g = sym (at_node n (λ k. Shows t k y) (key.Leaf leaf.Bool) h (type_node t y n g))
    tell (signed bits_8) y n h g = sym (at_node n (λ k. Shows t k y) (key.Leaf leaf.S8) h (type_node t y n g))
    tell (signed bits_16) y n h g = sym (at_node n (λ k. Shows t k y) (key.Leaf leaf.S16) h (type_node t y n g))
    tell (signed bits_32) y n h g = sym (at_node n (λ k. Shows t k y) (key.Leaf leaf.S32) h (type_node t y n g))
    tell (signed bits_64) y n h g = sym (at_node n (λ k. Shows t k y) (key.Leaf leaf.S64) h (type_node t y n g))
    tell (unsigned bits_8) y n h g = sym (at_node n (λ k. Shows t k y) (key.Leaf leaf.U8) h (type_node t y n g))
    tell (unsigned bits_16) y n h g = sym (at_node n (λ k. Shows t k y) (key.Leaf leaf.U16) h (type_node t y n g))
    tell (unsigned bits_32) y n h g = sym (at_node n (λ k. Shows t k y) (key.Leaf leaf.U32) h (type_node t y n g))
    tell (unsigned bits_64) y n h g = sym (at_node n (λ k. Shows t k y) (key.Leaf leaf.U64) h (type_node t y n g))
    tell char y n h g = sym (at_node n (λ k. Shows t k y) (key.Leaf leaf.Char) h (type_node t y n g))
    tell string y n h g = sym (at_node n (λ k. Shows t k y) (key.Leaf leaf.String) h (type_node t y n g))
    tell (list x) y n h g =
        let p = parts_over t key.List (number t x) n h in
        let s = at_node n (λ k. Shows t k y) (key.List p.0) p.2 (type_node t y n g) in
        ap list (tell x s.0 p.0 p.1 s.2) ∙ sym s.1
    tell (fixed_list x c) y n h g =
        let p = parts_over t (λ m. key.FixedList m c) (number t x) n h in
        let s = at_node n (λ k. Shows t k y) (key.FixedList p.0 c) p.2 (type_node t y n g) in
        ap (λ (z : Ty). fixed_list z c) (tell x s.0 p.0 p.1 s.2) ∙ sym s.1
    tell (fields record_type fs) y n h g =
        let p = parts_over t key.Record (number_fields t fs) n h in
        let s = at_node n (λ k. Shows t k y) (key.Record p.0) p.2 (type_node t y n g) in
        ap (fields record_type) (tell_fields fs s.0 p.0 p.1 s.2) ∙ sym s.1
    tell (fields tuple_type fs) y n h g =
        let p = parts_over t key.Tuple (number_fields t fs) n h in
        let s = at_node n (λ k. Shows t k y) (key.Tuple p.0) p.2 (type_node t y n g) in
        ap (fields tuple_type) (tell_fields fs s.0 p.0 p.1 s.2) ∙ sym s.1
    tell (cases variant_type cs) y n h g =
        let p = parts_over t key.Variant (number_cases t cs) n h in
        let s = at_node n (λ k. Shows t k y) (key.Variant p.0) p.2 (type_node t y n g) in
        ap (cases variant_type) (tell_cases cs s.0 p.0 p.1 s.2) ∙ sym s.1
    tell (cases enum_type cs) y n h g =
        let p = parts_over t key.Enum (number_cases t cs) n h in
        let s = at_node n (λ k. Shows t k y) (key.Enum p.0) p.2 (type_node t y n g) in
        ap (cases enum_type) (tell_cases cs s.0 p.0 p.1 s.2) ∙ sym s.1
    tell (cases option_type cs) y n h g =
        let p = parts_over t key.Option (number_cases t cs) n h in
        let s = at_node n (λ k. Shows t k y) (key.Option p.0) p.2 (type_node t y n g) in
        ap (cases option_type) (tell_cases cs s.0 p.0 p.1 s.2) ∙ sym s.1
    tell (cases result_type cs) y n h g =
        let p = parts_over t key.Result (number_cases t cs) n h in
        let s = at_node n (λ k. Shows t k y) (key.Result p.0) p.2 (type_node t y n g) in
        ap (cases result_type) (tell_cases cs s.0 p.0 p.1 s.2) ∙ sym s.1
    tell (flags ls) y n h g =
        let p = parts_over t key.Flags (number_labels t ls) n h in
        let s = at_node n (λ k. Shows t k y) (key.Flags p.0) p.2 (type_node t y n g) in
        ap flags (tell_labels ls s.0 p.0 p.1 s.2) ∙ sym s.1
    tell (own r) y n h g = sym (at_node n (λ k. Shows t k y) (key.Own r.component r.number) h (type_node t y n g))
    tell (borrow r) y n h g = sym (at_node n (λ k. Shows t k y) (key.Borrow r.component r.number) h (type_node t y n g))

    pub tell_fields : (fs gs : Fields) (n : ℕ) → number_fields t fs ≡ Some n → number_fields t gs ≡ Some n → fs ≡ gs
    tell_fields no_fields gs n h g = sym (at_node n (λ k. ShowsFields t k gs) (key.Leaf leaf.NoFields) h (fields_node t gs n g))
    tell_fields (field l x fs) gs n h g =
        let p = parts_over_three t key.Field (t.label l) (number t x) (number_fields t fs) n h in
        let s = at_node n (λ k. ShowsFields t k gs) (key.Field p.0 p.1 p.2) p.6 (fields_node t gs n g) in
        let label = one.labels l s.0 p.0 p.3 s.4 in
        let type_ = tell x s.1 p.1 p.4 s.5 in
        let others = tell_fields fs s.2 p.2 p.5 s.6 in
        ap (λ (a : List ℕ). field a x fs) label ∙ ap (λ (a : Ty). field s.0 a fs) type_ ∙ ap (field s.0 s.1) others ∙ sym s.3

    pub tell_cases : (cs ds : Cases) (n : ℕ) → number_cases t cs ≡ Some n → number_cases t ds ≡ Some n → cs ≡ ds
    tell_cases no_cases ds n h g = sym (at_node n (λ k. ShowsCases t k ds) (key.Leaf leaf.NoCases) h (cases_node t ds n g))
    tell_cases (plain l cs) ds n h g =
        let p = parts_over_two t key.Plain (t.label l) (number_cases t cs) n h in
        let s = at_node n (λ k. ShowsCases t k ds) (key.Plain p.0 p.1) p.4 (cases_node t ds n g) in
        let label = one.labels l s.0 p.0 p.2 s.3 in
        let others = tell_cases cs s.1 p.1 p.3 s.4 in
        ap (λ (a : List ℕ). plain a cs) label ∙ ap (plain s.0) others ∙ sym s.2
    tell_cases (carrying l x cs) ds n h g =
        let p = parts_over_three t key.Carrying (t.label l) (number t x) (number_cases t cs) n h in
        let s = at_node n (λ k. ShowsCases t k ds) (key.Carrying p.0 p.1 p.2) p.6 (cases_node t ds n g) in
        let label = one.labels l s.0 p.0 p.3 s.4 in
        let type_ = tell x s.1 p.1 p.4 s.5 in
        let others = tell_cases cs s.2 p.2 p.5 s.6 in
        ap (λ (a : List ℕ). carrying a x cs) label ∙ ap (λ (a : Ty). carrying s.0 a cs) type_ ∙ ap (carrying s.0 s.1) others ∙ sym s.3

  tell_signature : (ps qs : Fields) (x y : Option Ty) (n : ℕ) → number_of_signature t (number_fields t ps) x ≡ Some n → number_of_signature t (number_fields t qs) y ≡ Some n → (ps ≡ qs) × (x ≡ y)
  tell_signature ps qs None None n h g =
      let p = parts_over t (λ m. key.FuncWithoutResult m) (number_fields t ps) n h in
      let q = parts_over t (λ m. key.FuncWithoutResult m) (number_fields t qs) n g in
      let same : key.FuncWithoutResult p.0 ≡ key.FuncWithoutResult q.0 = one.nodes _ _ n p.2 q.2 in
      let same_params : p.0 ≡ q.0 = cc in
      (tell_fields ps qs p.0 p.1 (q.1 ∙ ap Some (sym same_params)), refl)
  tell_signature ps qs None (Some y) n h g =
      let p = parts_over t (λ m. key.FuncWithoutResult m) (number_fields t ps) n h in
      let q = parts_over_two t key.Func (number_fields t qs) (number t y) n g in
      let same : key.FuncWithoutResult p.0 ≡ key.Func q.0 q.1 = one.nodes _ _ n p.2 q.4 in
      absurd cc
  tell_signature ps qs (Some x) None n h g =
      let p = parts_over_two t key.Func (number_fields t ps) (number t x) n h in
      let q = parts_over t (λ m. key.FuncWithoutResult m) (number_fields t qs) n g in
      let same : key.Func p.0 p.1 ≡ key.FuncWithoutResult q.0 = one.nodes _ _ n p.4 q.2 in
      absurd cc
  tell_signature ps qs (Some x) (Some y) n h g =
      let p = parts_over_two t key.Func (number_fields t ps) (number t x) n h in
      let q = parts_over_two t key.Func (number_fields t qs) (number t y) n g in
      let same : key.Func p.0 p.1 ≡ key.Func q.0 q.1 = one.nodes _ _ n p.4 q.4 in
      let same_params : p.0 ≡ q.0 = cc in
      let same_result : p.1 ≡ q.1 = cc in
      (tell_fields ps qs p.0 p.2 (q.2 ∙ ap Some (sym same_params)), ap Some (tell x y p.1 p.3 (q.3 ∙ ap Some (sym same_result))))

  tell_func : (f g : FuncTy) (n : ℕ) → number_func t f ≡ Some n → number_func t g ≡ Some n → f ≡ g
  tell_func f g n h k =
      let both = tell_signature f.params g.params f.result g.result n h k in
      let params : ◌≡◌ {A = FuncTy} (record { params = f.params; result = f.result }) (record { params = g.params; result = f.result }) = ap (λ (ps : Fields). record { params = ps; result = f.result }) both.0 in
      let answer : ◌≡◌ {A = FuncTy} (record { params = g.params; result = f.result }) (record { params = g.params; result = g.result }) = ap (λ (x : Option Ty). record { params = g.params; result = x }) both.1 in
      params ∙ answer

  one_of_two : (a b : Option ℕ) (m n : ℕ) → a ≡ Some m → b ≡ Some n → a ≡ b → m ≡ n
  one_of_two a b m n p q r = let s : Some m ≡ Some n = sym p ∙ r ∙ q in cc

  pub tells_types : TellsTypes t
  tells_types x y m n h g = (λ same. tell x y m h (g ∙ ap Some (sym same)), λ same. one_of_two (number t x) (number t y) m n h g (ap (number t) same))

  pub tells_funcs : TellsFuncs t
  tells_funcs f g m n h k = (λ same. tell_func f g m h (k ∙ ap Some (sym same)), λ same. one_of_two (number_func t f) (number_func t g) m n h k (ap (number_func t) same))

  pub agrees : (left right : Standing) (xs ys : List Ty) (ms ns : List ℕ) → AreNumbers t left xs ms → AreNumbers t right ys ns → Agree left right xs ys ms ns
  agrees left right xs ys ms ns a b i j p q =
      tells_types (replaced left (type_at xs i)) (replaced right (type_at ys j)) (slice_index ms i) (slice_index ns j)
      (number_there (λ x. number t (replaced left x)) xs ms bool i a p) (number_there (λ x. number t (replaced right x)) ys ns bool j b q)

  pub agree_funcs : (left right : Standing) (xs ys : List FuncTy) (ms ns : List ℕ) → AreFuncNumbers t left xs ms → AreFuncNumbers t right ys ns → AgreeFuncs left right xs ys ms ns
  agree_funcs left right xs ys ms ns a b i j p q =
      tells_funcs (replaced_func left (func_at xs i)) (replaced_func right (func_at ys j)) (slice_index ms i) (slice_index ns j)
      (number_there (λ f. number_func t (replaced_func left f)) xs ms (record { params = no_fields; result = None }) i a p) (number_there (λ f. number_func t (replaced_func right f)) ys ns (record { params = no_fields; result = None }) j b q)
