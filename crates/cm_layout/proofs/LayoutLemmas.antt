-- What layout each form of the code makes.
use Rattle.std.proofs.Common.{◌≡◌, ℕ, Bool, suc, ◌+◌, ◌<◌, ◌++◌, List, [], ◌∷◌, length, map, max, Option, Some, None, Vec, Global, rules, refl, sym, ap, ◌∙◌, arith, append_assoc, append-nil}
use Rattle.std.proofs.lemmas.List.{map-append, length-map}
use Rattle.std.specs.declared.sync.Arc.{Arc}
use Rattle.std.specs.Option.{option_map}
use Rattle.cm_types.specs.Types.{Ty, Fields, Cases, CasesKind, cases, field, no_cases, plain, carrying}
use Rattle.cm_types.specs.TypeTrees.{case_before, plain_from}
use Rattle.cm_layout.specs.declared.heads.Head.{Head}
use Rattle.cm_layout.specs.declared.cases.CasesSoFar.{CasesSoFar}
use Rattle.cm_layout.specs.declared.fields.FieldsSoFar.{FieldsSoFar}
use Rattle.cm_layout.specs.declared.layouts.Form.{Form, the_lemmas}
use Rattle.cm_layout.specs.declared.layouts.Form.TheViews as view
use Rattle.cm_layout.specs.declared.layouts.Form.TheVariants as form
use Rattle.cm_layout.specs.declared.layouts.Payload.{Payload}
use Rattle.cm_layout.specs.declared.layouts.Payload.TheVariants as payload
use Rattle.cm_layout.specs.declared.layouts.Layout.{Layout, out-Layout}
use Rattle.cm_layout.specs.declared.layouts.Part.{Part}
use Rattle.cm_layout.specs.Alignment.{align_to}
use Rattle.cm_layout.specs.Flattening.{flat_of}
use Rattle.cm_layout.specs.PlainBytes.{is_bulk}
use Rattle.cm_layout.specs.Sizes.{size_of, align_of, case_count, discriminant_size}
use Rattle.cm_layout.specs.Shapes.{LayoutTy, Shape, list_shape, fixed_list_shape, fields_shape, cases_shape, parts_from, payloads_from, payloads_of, payload_before, head_of, shape_of_type, layout_at}
use Rattle.cm_layout.specs.Heads.{AreGreatestOf, IsTakenBy, LeavesFields}
use Rattle.cm_layout.specs.Layouts.{layout_of, shape_of, part_of, payload_of, nothings, PlacedLayout}
use Rattle.cm_layout.proofs.AlignLemmas.{count_plain, align_plain}
use Rattle.cm_layout.proofs.HeadLaws.{taken, one_greatest}
use Rattle.cm_layout.proofs.OffsetLaws.{discriminant_place}

-- ---- what is seen of each form

pub seen_form_List : (b : Arc Layout Global) → shape_of (view.List b) ≡ list_shape (layout_of b.value).head (layout_of b.value).shape
seen_form_List b = search (rules, the_lemmas)

pub seen_form_FixedList : (b : Arc Layout Global) (n : ℕ) → shape_of (view.FixedList b n) ≡ fixed_list_shape (layout_of b.value).head (layout_of b.value).shape n
seen_form_FixedList b n = search (rules, the_lemmas)

pub seen_form_Fields : (v : Arc (Vec Part Global) Global) → shape_of (view.Fields v) ≡ fields_shape (parts_from (map part_of v.value.items))
seen_form_Fields v = search (rules, the_lemmas)

pub seen_form_Cases : (d o : ℕ) (v : Arc (Vec Payload Global) Global) → shape_of (view.Cases d o v) ≡ cases_shape d o (payloads_from (map payload_of v.value.items))
seen_form_Cases d o v = search (rules, the_lemmas)

pub seen_form_Enum : (d n : ℕ) → shape_of (form.Enum d n) ≡ cases_shape d d (nothings n)
seen_form_Enum d n = search (rules, the_lemmas)

seen_part : (o : ℕ) (l : Layout) → part_of (view.roll-Part (record { offset = o; layout = l })) ≡ (o, layout_of l)
seen_part o l = search (rules, the_lemmas)

pub seen_Carried : (l : Layout) → payload_of (view.Carried l) ≡ Some (layout_of l)
seen_Carried l = search (rules, the_lemmas)

pub seen_Nothing : payload_of payload.Nothing ≡ None
seen_Nothing = search (rules, the_lemmas)

pub seen_head : (l : Layout) → (layout_of l).head ≡ (out-Layout l).head
seen_head l = search (rules, the_lemmas)

seen_layout : (h : Head) (f : Form) → layout_of (view.roll-Layout (record { head = h; form = f })) ≡ record { head = h; shape = shape_of f }
seen_layout h f = search (rules, the_lemmas)

-- ---- layouts of types

heads_same : (s s' a a' w w' : ℕ) (b b' : Bool) → s ≡ s' → a ≡ a' → w ≡ w' → b ≡ b'
    → let h : Head = record { size = s; align = a; width = w; is_bulk = b } in h ≡ record { size = s'; align = a'; width = w'; is_bulk = b' }
heads_same s s' a a' w w' b b' e f g i = rw (e, f, g, i) refl

same_head : (t : Ty) (h : Head) → IsTakenBy t h → h ≡ head_of t
same_head t h k = heads_same h.size (size_of t) h.align (align_of t) h.width (length (flat_of t)) h.is_bulk (is_bulk t) k.size k.align k.width k.is_bulk

layouts_same : (h i : Head) (s r : Shape) → h ≡ i → s ≡ r → let l : LayoutTy = record { head = h; shape = s } in l ≡ record { head = i; shape = r }
layouts_same h i s r e f = rw (e, f) refl

-- what takes what a type takes, and has its shape, is its layout
pub made : (t : Ty) (h : Head) (f : Form) → IsTakenBy t h → shape_of f ≡ shape_of_type t → layout_of (view.roll-Layout (record { head = h; form = f })) ≡ layout_at t
made t h f k e = seen_layout h f ∙ layouts_same h (head_of t) (shape_of f) (shape_of_type t) (same_head t h k) e

-- a layout takes what its type takes
pub taken_by : (t : Ty) (l : Layout) → layout_of l ≡ layout_at t → IsTakenBy t (out-Layout l).head
taken_by t l e =
    let k : (out-Layout l).head ≡ head_of t = sym (seen_head l) ∙ ap (λ x. x.head) e in
    taken t (out-Layout l).head (ap (λ x. x.size) k) (ap (λ x. x.align) k) (ap (λ x. x.width) k) (ap (λ x. x.is_bulk) k)

-- ---- enums

payloads_plain : (ls : List (List ℕ)) → payloads_from (payloads_of (plain_from ls)) ≡ nothings (length ls)
payloads_plain [] = refl
payloads_plain (l ∷ ls) = ap (payload_before None) (payloads_plain ls)

pub enum_shape : (k : CasesKind) (ls : List (List ℕ)) (d n : ℕ) → d ≡ discriminant_size n → n ≡ length ls → cases_shape d d (nothings n) ≡ shape_of_type (cases k (plain_from ls))
enum_shape k ls d n e f =
    rw (count_plain ls, align_plain ls, payloads_plain ls, e, f)
    (ap (λ o. cases_shape (discriminant_size (length ls)) o (nothings (length ls))) (discriminant_place (length ls)))

-- ---- fields

-- there is room for one more field
pub field_room : (l : List ℕ) (t : Ty) (all rest : Fields) (s : FieldsSoFar) (h : Head) → LeavesFields all (field l t rest) s → IsTakenBy t h → (s.end + h.align + h.size < 4294967296) × (s.width + h.width < 4294967296)
field_room l t all rest s h b k = (omega (arith, b.room, k.small, k.near), omega (arith, b.space, k.narrow))

-- one more part
pub more_parts : (t : Ty) (o at : ℕ) (l : Layout) (xs ys : List Part) (rest : List PlacedLayout) → layout_of l ≡ layout_at t → o ≡ at → ys ≡ xs ++ view.roll-Part (record { offset = o; layout = l }) ∷ []
    → map part_of ys ++ rest ≡ map part_of xs ++ ((at, layout_at t) ∷ rest)
more_parts t o at l xs ys rest k e f =
    let x : Part = view.roll-Part (record { offset = o; layout = l }) in
    ap (λ zs. map part_of zs ++ rest) f ∙ ap (λ zs. zs ++ rest) (map-append part_of xs (x ∷ [])) ∙ append_assoc (map part_of xs) (part_of x ∷ []) rest
    ∙ ap (λ p. map part_of xs ++ (p ∷ rest)) (seen_part o l ∙ rw (e, k) refl)

pub all_parts : (xs : List Part) (ps : List PlacedLayout) → map part_of xs ++ [] ≡ ps → map part_of xs ≡ ps
all_parts xs ps e = sym (append-nil (map part_of xs)) ∙ e

-- ---- cases

payloads_count : (cs : Cases) → length (payloads_of cs) ≡ case_count cs
payloads_count no_cases = refl
payloads_count (plain l cs) = ap suc (payloads_count cs)
payloads_count (carrying l t cs) = ap suc (payloads_count cs)

payloads_before : (l : List ℕ) (p : Option Ty) (cs : Cases) → payloads_of (case_before l p cs) ≡ option_map layout_at p ∷ payloads_of cs
payloads_before l None cs = refl
payloads_before l (Some t) cs = refl

-- one more payload
pub more_payloads : (l : List ℕ) (p : Option Ty) (cs : Cases) (x : Payload) (xs ys : List Payload) → payload_of x ≡ option_map layout_at p → ys ≡ xs ++ x ∷ []
    → map payload_of ys ++ payloads_of cs ≡ map payload_of xs ++ payloads_of (case_before l p cs)
more_payloads l p cs x xs ys e f =
    ap (λ zs. map payload_of zs ++ payloads_of cs) f ∙ ap (λ zs. zs ++ payloads_of cs) (map-append payload_of xs (x ∷ [])) ∙ append_assoc (map payload_of xs) (payload_of x ∷ []) (payloads_of cs)
    ∙ ap (λ q. map payload_of xs ++ (q ∷ payloads_of cs)) e ∙ ap (λ qs. map payload_of xs ++ qs) (sym (payloads_before l p cs))

pub all_payloads : (xs : List Payload) (ps : List (Option LayoutTy)) → map payload_of xs ++ [] ≡ ps → map payload_of xs ≡ ps
all_payloads xs ps e = sym (append-nil (map payload_of xs)) ∙ e

pub count_payloads : (xs : List Payload) (cs : Cases) → map payload_of xs ≡ payloads_of cs → length xs ≡ case_count cs
count_payloads xs cs e = sym (length-map xs payload_of) ∙ ap length e ∙ payloads_count cs

pub cases_shape_is : (k : CasesKind) (cs : Cases) (s : CasesSoFar) (d o : ℕ) (ps : List (Option LayoutTy)) → AreGreatestOf cs s → d ≡ discriminant_size (case_count cs) → o ≡ align_to s.align d
    → ps ≡ payloads_of cs → cases_shape d o (payloads_from ps) ≡ shape_of_type (cases k cs)
cases_shape_is k cs s d o ps g e f h = rw (f, g.align, e, h) refl

-- a payload takes what its type takes
pub carried_greatest : (t : Option Ty) (l : Layout) (n s : CasesSoFar) → Some (layout_of l) ≡ option_map layout_at t → n ≡ record { size = 0; align = 1; width = 0 }
    → s.size ≡ max n.size (out-Layout l).head.size → s.align ≡ max n.align (out-Layout l).head.align → s.width ≡ max n.width (out-Layout l).head.width → AreGreatestOf (case_before [] t no_cases) s
carried_greatest None l n s e o f g h = cc
carried_greatest (Some t) l n s e o f g h = one_case t s (one_greatest [] [] t (out-Layout l).head n s o (taken_by t l (some_is (layout_of l) (layout_at t) e)) f g h)
  where
    some_is : (a b : LayoutTy) → Some a ≡ Some b → a ≡ b
    some_is a b e = cc

    one_case : (t : Ty) (s : CasesSoFar) → AreGreatestOf (plain [] (carrying [] t no_cases)) s → AreGreatestOf (carrying [] t no_cases) s
    one_case t s g = record { size = g.size; align = g.align; width = g.width; small = g.small; narrow = g.narrow; positive = g.positive; near = g.near }
