-- What shape each form of a layout has.
use Rattle.std.proofs.Common.{◌≡◌, ℕ, map, Vec, Global, ap, ◌∙◌, rules}
use Rattle.std.specs.declared.sync.Arc.{Arc}
use Rattle.cm_layout.specs.declared.layouts.Form.{the_lemmas}
use Rattle.cm_layout.specs.declared.layouts.Form.TheViews as view
use Rattle.cm_layout.specs.declared.layouts.Form.TheVariants as form
use Rattle.cm_layout.specs.declared.layouts.HandleType.{HandleType}
use Rattle.cm_layout.specs.declared.layouts.Layout.{Layout, out-Layout}
use Rattle.cm_layout.specs.declared.layouts.Leaf.{Leaf}
use Rattle.cm_layout.specs.declared.layouts.Part.{Part}
use Rattle.cm_layout.specs.declared.layouts.Payload.{Payload}
use Rattle.cm_layout.specs.Layouts.{layout_of, nothings, part_of, payload_of, shape_of}
use Rattle.cm_layout.specs.Shapes.{cases_shape, fields_shape, fixed_list_shape, handle_shape, leaf_shape, list_shape, parts_from, payloads_from, string_shape}
use Rattle.cm_layout.proofs.LayoutLemmas.{seen_form_Cases, seen_form_Enum, seen_form_Fields, seen_form_FixedList, seen_form_List}
use Rattle.cm_layout.proofs.LayoutsLaws.{seen_shape}

seen_form_Leaf : (k : Leaf) → shape_of (form.Leaf k) ≡ leaf_shape k
seen_form_Leaf k = search (rules, the_lemmas)

seen_form_String : shape_of form.String ≡ string_shape
seen_form_String = search (rules, the_lemmas)

seen_form_Handle : (h : HandleType) → shape_of (form.Handle h) ≡ handle_shape h
seen_form_Handle h = search (rules, the_lemmas)

pub leaf_is : (l : Layout) (k : Leaf) → (out-Layout l).form ≡ form.Leaf k → (layout_of l).shape ≡ leaf_shape k
leaf_is l k is = seen_shape l ∙ (ap shape_of is ∙ seen_form_Leaf k)

pub string_is : (l : Layout) → (out-Layout l).form ≡ form.String → (layout_of l).shape ≡ string_shape
string_is l is = seen_shape l ∙ (ap shape_of is ∙ seen_form_String)

pub handle_is : (l : Layout) (h : HandleType) → (out-Layout l).form ≡ form.Handle h → (layout_of l).shape ≡ handle_shape h
handle_is l h is = seen_shape l ∙ (ap shape_of is ∙ seen_form_Handle h)

pub list_is : (l : Layout) (b : Arc Layout Global) → (out-Layout l).form ≡ view.List b → (layout_of l).shape ≡ list_shape (layout_of b.value).head (layout_of b.value).shape
list_is l b is = seen_shape l ∙ (ap shape_of is ∙ seen_form_List b)

pub fixed_list_is : (l : Layout) (b : Arc Layout Global) (n : ℕ) → (out-Layout l).form ≡ view.FixedList b n → (layout_of l).shape ≡ fixed_list_shape (layout_of b.value).head (layout_of b.value).shape n
fixed_list_is l b n is = seen_shape l ∙ (ap shape_of is ∙ seen_form_FixedList b n)

pub fields_is : (l : Layout) (v : Arc (Vec Part Global) Global) → (out-Layout l).form ≡ view.Fields v → (layout_of l).shape ≡ fields_shape (parts_from (map part_of v.value.items))
fields_is l v is = seen_shape l ∙ (ap shape_of is ∙ seen_form_Fields v)

pub cases_is : (l : Layout) (d o : ℕ) (v : Arc (Vec Payload Global) Global) → (out-Layout l).form ≡ view.Cases d o v → (layout_of l).shape ≡ cases_shape d o (payloads_from (map payload_of v.value.items))
cases_is l d o v is = seen_shape l ∙ (ap shape_of is ∙ seen_form_Cases d o v)

pub enum_is : (l : Layout) (d n : ℕ) → (out-Layout l).form ≡ form.Enum d n → (layout_of l).shape ≡ cases_shape d d (nothings n)
enum_is l d n is = seen_shape l ∙ (ap shape_of is ∙ seen_form_Enum d n)
