-- What layouts and values the code's are.
use Rattle.std.proofs.Common.{◌≡◌, ℕ, Some, Vec, Global, Box, rules}
use Rattle.cm_types.specs.Values.{bearing, elements, parts}
use Rattle.cm_types.specs.ValueTrees.{value_of, values_of}
use Rattle.cm_types.specs.declared.values.Value.{Value, the_lemmas as value_lemmas}
use Rattle.cm_types.specs.declared.values.Value.TheViews as value

pub seen_bearing : (i : ℕ) (b : Box Value Global) → value_of (value.Case i (Some b)) ≡ bearing i (value_of b.value)
seen_bearing i b = search (rules, value_lemmas)

pub seen_Fields : (vs : Vec Value Global) → value_of (value.Fields vs) ≡ parts (values_of vs.items)
seen_Fields vs = search (rules, value_lemmas)

pub seen_List : (vs : Vec Value Global) → value_of (value.List vs) ≡ elements (values_of vs.items)
seen_List vs = search (rules, value_lemmas)
