-- What each core value becomes where values are numbers alone (CanonicalABI.md, "Flat Lifting" and
-- "Flat Lowering"; that it is listed is this project's own choice).
use Rattle.std.specs.Prelude.{◌≡◌, ℕ, zero, suc, ◌==◌, ◌&&◌, Bool, true, false, nat_lt}
use Rattle.std.specs.Prelude.{if◌then◌else◌, List, [], ◌∷◌, ◌++◌, Option, Some, None}
use Rattle.cm_types.specs.Types.{Fields}
use Rattle.cm_layout.specs.Shapes.{LayoutTy, Shape, Parts, leaf_shape, fixed_list_shape}
use Rattle.cm_layout.specs.Shapes.{fields_shape, no_parts, part, layout_of_fields_at}
use Rattle.cm_layout.specs.declared.layouts.Leaf.{Leaf}
use Rattle.cm_layout.specs.declared.layouts.Leaf.TheVariants as leaf
use Rattle.cm_abi_model.specs.Views.{Way, flat_limit}
use Rattle.cm_abi_slots.specs.declared.steps.SlotStep.{SlotStep}
use Rattle.cm_abi_slots.specs.declared.steps.SlotStep.TheVariants as step

-- what the core value of a leaf becomes
abbrev pub step_of : Leaf → SlotStep
step_of leaf.Bool = step.Truth
step_of leaf.Char = step.Char
step_of (leaf.Unsigned w) =
    if w == 1 then step.Low8 else if w == 2 then step.Low16 else step.Keep
step_of (leaf.Signed w) =
    if w == 1 then step.Signed8 else if w == 2 then step.Signed16 else step.Keep
step_of (leaf.Flags labels w) = if nat_lt labels 32 then step.Flags labels else step.Keep

abbrev mutual
  -- whether the values of a type of this shape are numbers alone: there is no string, no list, no
  -- handle and no case in them
  pub is_plain : Shape → Bool
  is_plain (leaf_shape l) = true
  is_plain (fixed_list_shape e x n) = is_plain x
  is_plain (fields_shape ps) = are_plain ps
  is_plain x = false

  pub are_plain : Parts → Bool
  are_plain no_parts = true
  are_plain (part o e x ps) = is_plain x && are_plain ps

-- steps, so many times over
abbrev pub repeated : ℕ → List SlotStep → List SlotStep
repeated zero xs = []
repeated (suc n) xs = xs ++ repeated n xs

abbrev mutual
  -- the steps of the core values of a type of this shape, if its values are numbers alone
  pub steps_of : Shape → List SlotStep
  steps_of (leaf_shape l) = step_of l ∷ []
  steps_of (fixed_list_shape e x n) = repeated n (steps_of x)
  steps_of (fields_shape ps) = steps_of_parts ps
  steps_of x = []

  pub steps_of_parts : Parts → List SlotStep
  steps_of_parts no_parts = []
  steps_of_parts (part o e x ps) = steps_of x ++ steps_of_parts ps

-- the steps of what passes in at most so many core values, if it is numbers alone
abbrev pub steps_for : ℕ → LayoutTy → Option (List SlotStep)
steps_for most l =
    if nat_lt most l.head.width then None
    else if is_plain l.shape then Some (steps_of l.shape) else None

-- these are the steps of a call that passes values of these types that way: they pass in core
-- values and are numbers alone
abbrev pub AreStepsOf : Way → Fields → List SlotStep → Type 0
AreStepsOf way types steps =
    steps_for (flat_limit way) (layout_of_fields_at types) ≡ Some steps
