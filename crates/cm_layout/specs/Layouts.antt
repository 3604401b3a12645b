-- The layouts that the code's are.
use Rattle.std.specs.Prelude.{◌≡◌, ℕ, zero, suc, ◌++◌, map, Option, Some, None}
use Rattle.cm_types.specs.Types.{Fields, Cases}
use Rattle.cm_layout.specs.Heads.{LeavesCases, LeavesFields}
use Rattle.cm_layout.specs.Shapes.{LayoutTy, Shape, Payloads, leaf_shape, string_shape, list_shape}
use Rattle.cm_layout.specs.Shapes.{fixed_list_shape, fields_shape, cases_shape, handle_shape}
use Rattle.cm_layout.specs.Shapes.{no_payloads, nothing, parts_at, parts_from}
use Rattle.cm_layout.specs.Shapes.{payloads_from, payloads_of}
use Rattle.cm_layout.specs.declared.builders.FieldsBuilder.{FieldsBuilder}
use Rattle.cm_layout.specs.declared.builders.CasesBuilder.{CasesBuilder}
use Rattle.cm_layout.specs.declared.layouts.Form.{Form}
use Rattle.cm_layout.specs.declared.layouts.Form.TheOpen as form
use Rattle.cm_layout.specs.declared.layouts.Form.TheFolds.{fold-Form, fold-Layout, fold-Part}
use Rattle.cm_layout.specs.declared.layouts.Form.TheFolds.{fold-Payload}
use Rattle.cm_layout.specs.declared.layouts.Layout.{Layout}
use Rattle.cm_layout.specs.declared.layouts.Part.{Part}
use Rattle.cm_layout.specs.declared.layouts.Payload.{Payload}

-- a field, with where it stands
abbrev pub PlacedLayout : Type 0
PlacedLayout = ℕ × LayoutTy

-- so many cases that carry nothing
abbrev pub nothings : ℕ → Payloads
nothings zero = no_payloads
nothings (suc n) = nothing (nothings n)

-- a form, given the layouts in it
abbrev pub form_step : form.Form-F Shape (Option LayoutTy) LayoutTy PlacedLayout → Shape
form_step (form.Leaf k) = leaf_shape k
form_step form.String = string_shape
form_step (form.List e) = list_shape e.value.head e.value.shape
form_step (form.FixedList e n) = fixed_list_shape e.value.head e.value.shape n
form_step (form.Fields ps) = fields_shape (parts_from ps.value.items)
form_step (form.Cases d o ps) = cases_shape d o (payloads_from ps.value.items)
form_step (form.Enum d n) = cases_shape d d (nothings n)
form_step (form.Handle h) = handle_shape h

abbrev pub payload_step :
    form.Payload-F Shape (Option LayoutTy) LayoutTy PlacedLayout → Option LayoutTy
payload_step form.Nothing = None
payload_step (form.Carried l) = Some l

abbrev pub layout_step : form.Layout-F Shape (Option LayoutTy) LayoutTy PlacedLayout → LayoutTy
layout_step l = record { head = l.head; shape = l.form }

abbrev pub part_step : form.Part-F Shape (Option LayoutTy) LayoutTy PlacedLayout → PlacedLayout
part_step p = (p.offset, p.layout)

-- the layout that a layout of the code is
abbrev pub layout_of : Layout → LayoutTy
layout_of =
    fold-Layout Shape (Option LayoutTy) LayoutTy PlacedLayout
    form_step payload_step layout_step part_step

-- what a form, what a case carries, and a field of the code
abbrev pub shape_of : Form → Shape
shape_of =
    fold-Form Shape (Option LayoutTy) LayoutTy PlacedLayout
    form_step payload_step layout_step part_step

abbrev pub payload_of : Payload → Option LayoutTy
payload_of =
    fold-Payload Shape (Option LayoutTy) LayoutTy PlacedLayout
    form_step payload_step layout_step part_step

abbrev pub part_of : Part → PlacedLayout
part_of =
    fold-Part Shape (Option LayoutTy) LayoutTy PlacedLayout
    form_step payload_step layout_step part_step

-- of all fields some are laid out: these are left, and there is room for them
pub record IsLayingFields (all rest : Fields) (b : FieldsBuilder) : Type 0 where
  pub numbers : LeavesFields all rest b.so_far
  pub parts : map part_of b.parts.items ++ parts_at rest b.so_far.end ≡ parts_at all 0

-- of all cases some are laid out: these are left, and there is room for them
pub record IsLayingCases (all rest : Cases) (b : CasesBuilder) : Type 0 where
  pub numbers : LeavesCases all rest b.so_far
  pub payloads : map payload_of b.payloads.items ++ payloads_of rest ≡ payloads_of all
