-- The values that the code's values are.
use Rattle.std.specs.Prelude.{ℕ, List, [], ◌∷◌, map, Option, Some, None}
use Rattle.std.specs.Str.{chars}
use Rattle.std.specs.String.{string_bytes}
use Rattle.std.specs.declared.alloc.Global.{Global}
use Rattle.std.specs.declared.boxed.Box.{Box}
use Rattle.cm_types.specs.Values.{Val, Vals, no_vals, val, truth, signed_number, number, scalar}
use Rattle.cm_types.specs.Values.{text, elements, parts, bare, bearing, flag_set, handle}
use Rattle.cm_types.specs.declared.values.Value.{Value}
use Rattle.cm_types.specs.declared.values.Value.TheOpen as value
use Rattle.cm_types.specs.declared.values.Value.TheFolds.{fold-Value}

-- values from a list
abbrev pub vals_from : List Val → Vals
vals_from [] = no_vals
vals_from (v ∷ vs) = val v (vals_from vs)

-- a case with what it carries
abbrev pub case_value : ℕ → Option (Box Val Global) → Val
case_value i None = bare i
case_value i (Some b) = bearing i b.value

-- a value, given the values in it
abbrev pub value_step : value.Value-F Val → Val
value_step (value.Bool b) = truth b
value_step (value.Signed z) = signed_number z
value_step (value.Unsigned n) = number n
value_step (value.Char c) = scalar c
value_step (value.String s) = text (chars (string_bytes s))
value_step (value.List vs) = elements (vals_from vs.items)
value_step (value.Fields vs) = parts (vals_from vs.items)
value_step (value.Case i payload) = case_value i payload
value_step (value.Flags n) = flag_set n
value_step (value.Handle serial rep resource) =
    handle (record { serial = serial; rep = rep; resource = resource })

-- the value that a value of the code is
abbrev pub value_of : Value → Val
value_of = fold-Value Val value_step

-- the values that several values of the code are
abbrev pub values_of : List Value → Vals
values_of vs = vals_from (map value_of vs)

-- what is behind a box of the code, if there is one
abbrev pub boxed_value : Option (Box Value Global) → Option Val
boxed_value None = None
boxed_value (Some b) = Some (value_of b.value)

-- a case with what it carries, if it carries anything
abbrev pub payload_value : ℕ → Option Val → Val
payload_value i None = bare i
payload_value i (Some v) = bearing i v
