-- What a definition with other places for its parts is.
use Rattle.std.proofs.Common.{◌≡◌, ℕ, suc, ◌+◌, ◌<◌, ◌++◌, List, [], ◌∷◌, length, map, take, drop, get_or, drop-cons, Option, Some, None, refl, sym, ap, ◌∙◌, arith, append-nil, append_assoc, codes, if◌then◌else◌}
use Rattle.std.specs.Prelude.{is_some, slice_index}
use Rattle.std.specs.List.{AllByRecursion}
use Rattle.std.specs.Option.{option_map}
use Rattle.std.specs.declared.rc.Rc.{Rc}
use Rattle.std.proofs.Common.{Global}
use Rattle.cm_types.specs.Types.{Ty, Cases, field, no_cases, plain, carrying}
use Rattle.cm_types.specs.TypeTrees.{type_of, field_of, case_of, fields_of, cases_of, parts_from, fields_from, cases_from, case_before, shared_payload}
use Rattle.cm_types.specs.declared.type_trees.TypeNode.{TypeNode}
use Rattle.cm_types.specs.declared.type_trees.Field.{Field}
use Rattle.cm_types.specs.declared.type_trees.Case.{Case, out-Case}
use Rattle.cm_types_arena.specs.Arena.{field_types, payload_types}
use Rattle.cm_types_arena.specs.TypeDefs.{type_at, field_def_type, case_def_type, IsBelow, option_list, payload_places}
use Rattle.cm_types_arena.specs.declared.type_defs.FieldDef.{FieldDef}
use Rattle.cm_types_arena.specs.declared.type_defs.CaseDef.{CaseDef}
use Rattle.cm_types_arena.specs.Replaced.{Standing, replaced, replaced_fields, replaced_cases}
use Rattle.std.proofs.lemmas.List.{map-append}
use Rattle.std.proofs.Math.Seq.{take-suc}
use Rattle.cm_lemmas.proofs.Lists.{heads}
use Rattle.cm_types.proofs.Seen.{seen_case}

-- ---- places below a count

pub first_below : (count : ℕ) (ps : List ℕ) → 0 < length ps → AllByRecursion (λ p. p < count) ps → slice_index ps 0 < count
first_below count [] some all = absurd (omega (arith, some))
first_below count (p ∷ ps) some all = all.0

pub fields_below : (count : ℕ) (ds : List FieldDef) → AllByRecursion (λ p. p < count) (map (λ d. d.ty) ds) → AllByRecursion (λ d. d.ty < count) ds
fields_below count [] all = tt
fields_below count (d ∷ ds) all = (all.0, fields_below count ds all.1)

pub cases_below : (count : ℕ) (ds : List CaseDef) → AllByRecursion (λ p. p < count) (payload_places ds) → AllByRecursion (λ d. IsBelow count d.payload) ds
cases_below count [] all = tt
cases_below count (d ∷ ds) all = both d.payload (payload_places ds) (cases_below count ds) all
  where
    both : {A : Type 0} (o : Option ℕ) (ps : List ℕ) → (AllByRecursion (λ p. p < count) ps → A) → AllByRecursion (λ p. p < count) (option_list o ++ ps) → IsBelow count o × A
    both None ps f h = (tt, f h)
    both (Some p) ps f h = (h.0, f h.1)

pub two_below : (count : ℕ) (o e : Option ℕ) → AllByRecursion (λ p. p < count) (option_list o ++ option_list e) → IsBelow count o × IsBelow count e
two_below count None None h = (tt, tt)
two_below count None (Some p) h = (tt, h.0)
two_below count (Some p) None h = (h.0, tt)
two_below count (Some p) (Some q) h = (h.0, h.1.0)

-- ---- the types of what is replaced

module _ (s : Standing) (types : List Ty) where
  pub one_same : (t : Ty) (ps : List ℕ) → map (replaced s) (t ∷ []) ≡ map (type_at types) ps → type_at types (slice_index ps 0) ≡ replaced s t
  one_same t [] e = absurd cc
  one_same t (p ∷ ps) e = sym (heads (replaced s t) (type_at types p) [] (map (type_at types) ps) e).0

  pub fields_same : (ds : List FieldDef) (fs : List Field) → map (λ d. d.label) ds ≡ map (λ f. (field_of f).0) fs → map (replaced s) (field_types (fields_of fs)) ≡ map (type_at types) (map (λ d. d.ty) ds)
      → fields_from (map (field_def_type types) ds) ≡ replaced_fields s (fields_of fs)
  fields_same [] [] l t = refl
  fields_same [] (f ∷ fs) l t = absurd cc
  fields_same (d ∷ ds) [] l t = absurd cc
  fields_same (d ∷ ds) (f ∷ fs) l t =
      let hl = heads d.label (field_of f).0 (map (λ d. d.label) ds) (map (λ f. (field_of f).0) fs) l in
      let ht = heads (replaced s (field_of f).1) (type_at types d.ty) (map (replaced s) (field_types (fields_of fs))) (map (type_at types) (map (λ d. d.ty) ds)) t in
      ap (λ k. field k (type_at types d.ty) (fields_from (map (field_def_type types) ds))) hl.0
      ∙ ap (λ u. field (field_of f).0 u (fields_from (map (field_def_type types) ds))) (sym ht.0)
      ∙ ap (field (field_of f).0 (replaced s (field_of f).1)) (fields_same ds fs hl.1 ht.1)

  pub parts_same : (ts : List Ty) (ps : List ℕ) → map (replaced s) (field_types (parts_from ts)) ≡ map (type_at types) ps → parts_from (map (type_at types) ps) ≡ replaced_fields s (parts_from ts)
  parts_same [] [] e = refl
  parts_same [] (p ∷ ps) e = absurd cc
  parts_same (t ∷ ts) [] e = absurd cc
  parts_same (t ∷ ts) (p ∷ ps) e =
      let h = heads (replaced s t) (type_at types p) (map (replaced s) (field_types (parts_from ts))) (map (type_at types) ps) e in
      ap (λ u. field [] u (parts_from (map (type_at types) ps))) (sym h.0) ∙ ap (field [] (replaced s t)) (parts_same ts ps h.1)

  case_same : (l m : List ℕ) (o : Option ℕ) (x : Option Ty) (C D : Cases) (ps : List ℕ) → l ≡ m → is_some o ≡ is_some x → map (replaced s) (payload_types (case_before m x D)) ≡ map (type_at types) (option_list o ++ ps)
      → (map (replaced s) (payload_types D) ≡ map (type_at types) ps → C ≡ replaced_cases s D) → case_before l (option_map (type_at types) o) C ≡ replaced_cases s (case_before m x D)
  case_same l m None None C D ps e f t h = ap (λ k. plain k C) e ∙ ap (plain m) (h t)
  case_same l m None (Some x) C D ps e f t h = absurd cc
  case_same l m (Some p) None C D ps e f t h = absurd cc
  case_same l m (Some p) (Some x) C D ps e f t h =
      let ht = heads (replaced s x) (type_at types p) (map (replaced s) (payload_types D)) (map (type_at types) ps) t in
      ap (λ k. carrying k (type_at types p) C) e ∙ ap (λ u. carrying m u C) (sym ht.0) ∙ ap (carrying m (replaced s x)) (h ht.1)

  pub cases_same : (ds : List CaseDef) (cs : List Case) → map (λ d. d.label) ds ≡ map (λ c. (case_of c).0) cs → map (λ d. is_some d.payload) ds ≡ map (λ c. is_some (case_of c).1) cs
      → map (replaced s) (payload_types (cases_of cs)) ≡ map (type_at types) (payload_places ds) → cases_from (map (case_def_type types) ds) ≡ replaced_cases s (cases_of cs)
  cases_same [] [] l f t = refl
  cases_same [] (c ∷ cs) l f t = absurd cc
  cases_same (d ∷ ds) [] l f t = absurd cc
  cases_same (d ∷ ds) (c ∷ cs) l f t =
      let hl = heads d.label (case_of c).0 (map (λ d. d.label) ds) (map (λ c. (case_of c).0) cs) l in
      let hf = heads (is_some d.payload) (is_some (case_of c).1) (map (λ d. is_some d.payload) ds) (map (λ c. is_some (case_of c).1) cs) f in
      case_same d.label (case_of c).0 d.payload (case_of c).1 (cases_from (map (case_def_type types) ds)) (cases_of cs) (payload_places ds) hl.0 hf.0 t (cases_same ds cs hl.1 hf.1)

  pub results_same : (o e : Option ℕ) (x y : Option Ty) (ps : List ℕ) → is_some o ≡ is_some x → is_some e ≡ is_some y → option_list o ++ option_list e ≡ ps
      → map (replaced s) (payload_types (case_before (codes "ok") x (case_before (codes "error") y no_cases))) ≡ map (type_at types) ps
      → case_before (codes "ok") (option_map (type_at types) o) (case_before (codes "error") (option_map (type_at types) e) no_cases)
      ≡ replaced_cases s (case_before (codes "ok") x (case_before (codes "error") y no_cases))
  results_same o e x y ps f g h t =
      case_same (codes "ok") (codes "ok") o x (case_before (codes "error") (option_map (type_at types) e) no_cases) (case_before (codes "error") y no_cases) (option_list e) refl f (t ∙ ap (map (type_at types)) (sym h))
      (λ u. case_same (codes "error") (codes "error") e y no_cases no_cases [] refl g (u ∙ ap (map (type_at types)) (sym (append-nil (option_list e)))) (λ _. refl))

-- ---- how many parts there are

pub parts_long : (ts : List Ty) → length (field_types (parts_from ts)) ≡ length ts
parts_long [] = refl
parts_long (t ∷ ts) = ap suc (parts_long ts)

pub payload_seen : (o : Option (Rc TypeNode Global)) → is_some (shared_payload o) ≡ is_some o
payload_seen None = refl
payload_seen (Some b) = refl

pub results_long : (x y : Option Ty) → length (payload_types (case_before (codes "ok") x (case_before (codes "error") y no_cases))) ≡ (if is_some x then 1 else 0) + (if is_some y then 1 else 0)
results_long None None = refl
results_long None (Some y) = refl
results_long (Some x) None = refl
results_long (Some x) (Some y) = refl

-- ---- one more definition

pub take_more : {A : Type 0} (xs : List A) (i : ℕ) (d : A) → i < length xs → take (i + 1) xs ≡ take i xs ++ get_or xs i d ∷ []
take_more xs i d lt = (let e : i + 1 ≡ suc i = omega arith in ap (λ (n : ℕ). take n xs) e) ∙ take-suc xs i d lt

pub one_more : {A X Y : Type 0} (g : A → Y) (f : X → Y) (ds : List A) (d : A) (xs : List X) (i : ℕ) (x : X) → i < length xs → x ≡ get_or xs i x → map g ds ≡ map f (take i xs) → g d ≡ f x
    → map g (ds ++ d ∷ []) ≡ map f (take (i + 1) xs)
one_more g f ds d xs i x lt is so_far same =
    map-append g ds (d ∷ [])
    ∙ ap (λ ys. ys ++ g d ∷ []) so_far
    ∙ ap (λ y. map f (take i xs) ++ y ∷ []) (same ∙ ap f is)
    ∙ sym (map-append f (take i xs) (get_or xs i x ∷ []))
    ∙ ap (map f) (sym (take_more xs i x lt))

pub places_more : (ds : List CaseDef) (d : CaseDef) → payload_places (ds ++ d ∷ []) ≡ payload_places ds ++ option_list d.payload
places_more [] d = append-nil (option_list d.payload)
places_more (c ∷ ds) d = ap (λ ps. option_list c.payload ++ ps) (places_more ds d) ∙ sym (append_assoc (option_list c.payload) (payload_places ds) (option_list d.payload))

cases_here : (cs : List Case) (i : ℕ) (c : Case) → i < length cs → c ≡ get_or cs i c → payload_types (cases_of (drop i cs)) ≡ payload_types (case_before (case_of c).0 (option_map type_of (out-Case c).payload) (cases_of (drop (i + 1) cs)))
cases_here cs i c lt is =
    let n : suc i ≡ i + 1 = omega arith in
    ap (λ (xs : List Case). payload_types (cases_of xs)) (drop-cons cs i c lt ∙ ap (λ x. x ∷ drop (suc i) cs) (sym is) ∙ ap (λ (k : ℕ). c ∷ drop k cs) n)
    ∙ ap (λ (o : Option Ty). payload_types (case_before (case_of c).0 o (cases_of (drop (i + 1) cs)))) (seen_case c)

pub left_none : (cs : List Case) (i : ℕ) (c : Case) → i < length cs → c ≡ get_or cs i c → (out-Case c).payload ≡ None → length (payload_types (cases_of (drop i cs))) ≡ length (payload_types (cases_of (drop (i + 1) cs)))
left_none cs i c lt is none = ap length (cases_here cs i c lt is ∙ ap (λ (o : Option TypeNode). payload_types (case_before (case_of c).0 (option_map type_of o) (cases_of (drop (i + 1) cs)))) none)

pub left_some : (cs : List Case) (i : ℕ) (c : Case) (x : TypeNode) → i < length cs → c ≡ get_or cs i c → (out-Case c).payload ≡ Some x → length (payload_types (cases_of (drop i cs))) ≡ suc (length (payload_types (cases_of (drop (i + 1) cs))))
left_some cs i c x lt is one = ap length (cases_here cs i c lt is ∙ ap (λ (o : Option TypeNode). payload_types (case_before (case_of c).0 (option_map type_of o) (cases_of (drop (i + 1) cs)))) one)

pub carries : (c : Case) (o : Option TypeNode) → (out-Case c).payload ≡ o → is_some o ≡ is_some (case_of c).1
carries c None e = ap is_some (sym (seen_case c ∙ ap (option_map type_of) e))
carries c (Some x) e = ap is_some (sym (seen_case c ∙ ap (option_map type_of) e))
