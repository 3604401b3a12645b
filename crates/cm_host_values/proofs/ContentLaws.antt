-- What the content of parts adds up to.
use Rattle.std.proofs.Common.{◌≡◌, ◌∙◌, ℕ, ◌+◌, ◌-◌, ◌*◌, ◌<◌, ◌≤◌, rules, List, [], ◌∷◌, ◌++◌, map, length, drop, refl, ap, arith, Option, Some, None, true, Vec, Global}
use Rattle.std.specs.Option.{is_some}
use Rattle.std.proofs.Math.Nat.{mul_comm}
use Rattle.cm_types.specs.declared.values.Value.{Value, the_lemmas as value_lemmas}
use Rattle.cm_types.specs.declared.values.Value.TheViews as value
use Rattle.cm_types.specs.Types.{Fields}
use Rattle.cm_types.specs.Values.{HasType, Val, count_of, elements}
use Rattle.cm_types.specs.ValueTrees.{value_of, values_of}
use Rattle.cm_layout.specs.declared.layouts.Part.{Part as LayoutPart}
use Rattle.cm_layout.specs.Layouts.{part_of}
use Rattle.cm_layout.specs.Shapes.{parts_from, LayoutTy, layout_of_fields_at}
use Rattle.cm_abi_requests.proofs.AskingLemmas.{count_values, same_parts}
use Rattle.cm_text.proofs.Utf8Laws.{size_8}
use Rattle.std.specs.Str.{chars, IsUtf8}
use Rattle.cm_abi_model.specs.Parts.{Part, text_part, element_part, parts_each, parts_in}
use Rattle.cm_abi_model.specs.Requests.{tuple_of}
use Rattle.cm_abi_requests.specs.Asking.{parts_by, parts_by_fields, parts_by_list}
use Rattle.cm_host_values.specs.Content.{content_in, Leaves}

pub content_append : (ps qs : List Part) → content_in (ps ++ qs) ≡ content_in ps + content_in qs
content_append [] qs = omega arith
content_append (text_part cs ∷ ps) qs = omega (arith, content_append ps qs)
content_append (element_part n size align ∷ ps) qs = omega (arith, content_append ps qs)

-- the values from one on are that one and those behind it
pub each_content : (P : Val → List Part) (vs : List Value) (i : ℕ) (x : Value) → drop i vs ≡ x ∷ drop (i + 1) vs
    → content_in (parts_each P (values_of (drop i vs))) ≡ content_in (P (value_of x)) + content_in (parts_each P (values_of (drop (i + 1) vs)))
each_content P vs i x e = ap (λ xs. content_in (parts_each P (values_of xs))) e ∙ content_append (P (value_of x)) (parts_each P (values_of (drop (i + 1) vs)))

pub fields_content : (ls : List LayoutPart) (vs : List Value) (i : ℕ) (l : LayoutPart) (x : Value) → drop i ls ≡ l ∷ drop (i + 1) ls → drop i vs ≡ x ∷ drop (i + 1) vs
    → content_in (parts_by_fields (parts_from (map part_of (drop i ls))) (values_of (drop i vs)))
    ≡ content_in (parts_by (part_of l).1.shape (value_of x)) + content_in (parts_by_fields (parts_from (map part_of (drop (i + 1) ls))) (values_of (drop (i + 1) vs)))
fields_content ls vs i l x e f =
    ap (λ ks. content_in (parts_by_fields (parts_from (map part_of ks)) (values_of (drop i vs)))) e
    ∙ ap (λ xs. content_in (parts_by_fields (parts_from (map part_of (l ∷ drop (i + 1) ls))) (values_of xs))) f
    ∙ content_append (parts_by (part_of l).1.shape (value_of x)) (parts_by_fields (parts_from (map part_of (drop (i + 1) ls))) (values_of (drop (i + 1) vs)))

-- where no value is left, nothing is
pub no_values_left : (ls : List LayoutPart) → content_in (parts_by_fields (parts_from (map part_of ls)) (values_of [])) ≡ 0
no_values_left [] = refl
no_values_left (l ∷ ls) = refl

-- whether there is enough
pub small_where_left : (all taken : ℕ) (r : Option ℕ) → Leaves all taken r → (is_some r ≡ true → taken ≤ all) × (taken ≤ all → is_some r ≡ true)
small_where_left all taken None h = ((λ e. absurd cc), (λ e. absurd (omega arith)))
small_where_left all taken (Some rest) h = ((λ e. omega arith), (λ e. refl))

-- a list is its elements, and what they hold
pub list_content : (l : LayoutTy) (vs : List Value) (s n : ℕ) → count_of (values_of vs) ≡ n → l.head.size ≡ s
    → content_in (parts_by_list l (values_of vs)) ≡ s * n + content_in (parts_each (parts_by l.shape) (values_of vs))
list_content l vs s n e f = rw (e, f, mul_comm n s) refl

pub list_too_large : (l : LayoutTy) (vs : List Value) (s left room : ℕ) → l.head.size ≡ s → room ≡ left → room < s * length vs → left < content_in (parts_by_list l (values_of vs))
list_too_large l vs s left room e f lt =
    let more = list_content l vs s (length vs) (count_values vs) e in
    rw more (omega (arith, lt, f))

pub list_left : (l : LayoutTy) (vs : List Value) (s left room : ℕ) (r : Option ℕ) → l.head.size ≡ s → room ≡ left → s * length vs ≤ room
    → Leaves (left - s * length vs) (content_in (parts_each (parts_by l.shape) (values_of vs))) r → Leaves left (content_in (parts_by_list l (values_of vs))) r
list_left l vs s left room None e f le h =
    let more = list_content l vs s (length vs) (count_values vs) e in
    let less : left - s * length vs < content_in (parts_each (parts_by l.shape) (values_of vs)) = h in
    rw more (omega (arith, le, f, less))
list_left l vs s left room (Some rest) e f le h =
    let more = list_content l vs s (length vs) (count_values vs) e in
    let same : rest + content_in (parts_each (parts_by l.shape) (values_of vs)) ≡ left - s * length vs = h in
    rw more (omega (arith, le, f, same))

-- a layout and its type have the same content
pub content_is : (l : LayoutTy) (types : Fields) (v : Val) → l ≡ layout_of_fields_at types → HasType (tuple_of types) v
    → content_in (parts_by l.shape v) ≡ content_in (parts_in (tuple_of types) v)
content_is l types v is h = rw (is, same_parts (tuple_of types) v h) refl

-- what the code's lists are
pub seen_List : (vs : Vec Value Global) → value_of (value.List vs) ≡ elements (values_of vs.items)
seen_List vs = search (rules, value_lemmas)

-- a string takes its own bytes
pub text_content : (bytes : List ℕ) → IsUtf8 bytes → content_in (text_part (chars bytes) ∷ []) ≡ length bytes
text_content bytes h = let e = size_8 bytes h in omega (arith, e)
