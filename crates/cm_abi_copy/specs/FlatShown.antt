-- The value that core values show, as a function (CanonicalABI.md, "Flattening" and "Lifting"): the
-- one that is lifted where lifting comes to no fault, and else some value. Of a handle it tells
-- nothing, as of one in memory. A slot is known by its place, from 0.
use Rattle.std.specs.Prelude.{ℕ, zero, suc, ◌+◌, List}
use Rattle.cm_types.specs.declared.core_value.CoreValue.{CoreValue}
use Rattle.cm_types.specs.Values.{Val, Vals, no_vals, val, text, elements, parts, bare, bearing}
use Rattle.cm_types.specs.Values.{handle}
use Rattle.cm_layout.specs.Shapes.{Shape, Parts, Payloads, leaf_shape, string_shape}
use Rattle.cm_layout.specs.Shapes.{list_shape, fixed_list_shape, fields_shape, cases_shape}
use Rattle.cm_layout.specs.Shapes.{handle_shape, no_parts, part, no_payloads, nothing, carried}
use Rattle.cm_abi_model.specs.Numbers.{wrapped_at}
use Rattle.cm_abi_load.specs.Sized.{core_size}
use Rattle.cm_abi_running.specs.Copying.{Copying, shown_to}
use Rattle.cm_abi_running.specs.Shown.{leaf_shown, scalars_at, some_handle, values_each}

abbrev mutual
  -- the value of this shape in the slots from this one on; strings and elements are behind pointers
  pub flat_shown : Copying → List CoreValue → Shape → ℕ → Val
  flat_shown c slots (leaf_shape l) s = leaf_shown l (wrapped_at (core_size l) slots s)
  flat_shown c slots string_shape s =
      text (scalars_at c.memory c.encoding (wrapped_at 4 slots s) (wrapped_at 4 slots (s + 1)))
  flat_shown c slots (list_shape e sh) s =
      elements (values_each (shown_to c sh) e.size (wrapped_at 4 slots (s + 1))
      (wrapped_at 4 slots s))
  flat_shown c slots (fixed_list_shape e sh n) s =
      parts (values_each (flat_shown c slots sh) e.width n s)
  flat_shown c slots (fields_shape ps) s = parts (flat_shown_fields c slots ps s)
  flat_shown c slots (cases_shape d o ps) s =
      flat_shown_case c slots ps (wrapped_at 4 slots s) (wrapped_at 4 slots s) (s + 1)
  flat_shown c slots (handle_shape x) s = handle some_handle

  -- fields, each behind the slots of those before it
  pub flat_shown_fields : Copying → List CoreValue → Parts → ℕ → Vals
  flat_shown_fields c slots no_parts s = no_vals
  flat_shown_fields c slots (part o e sh ps) s =
      val (flat_shown c slots sh s) (flat_shown_fields c slots ps (s + e.width))

  -- case i, of which so many cases before it are left out, with its payload in the slots from this
  -- one on
  pub flat_shown_case : Copying → List CoreValue → Payloads → ℕ → ℕ → ℕ → Val
  flat_shown_case c slots no_payloads i n s = bare i
  flat_shown_case c slots (nothing ps) i zero s = bare i
  flat_shown_case c slots (nothing ps) i (suc n) s = flat_shown_case c slots ps i n s
  flat_shown_case c slots (carried e sh ps) i zero s = bearing i (flat_shown c slots sh s)
  flat_shown_case c slots (carried e sh ps) i (suc n) s = flat_shown_case c slots ps i n s
