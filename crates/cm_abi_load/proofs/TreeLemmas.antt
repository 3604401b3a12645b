-- Trees that are made of values in a row.
use Rattle.std.proofs.Common.{◌≡◌, List, [], ◌∷◌, ◌++◌, map, refl, ap, ◌∙◌}
use Rattle.std.proofs.lemmas.List.{map_push}
use Rattle.cm_types.specs.Values.{Val, Vals, val}
use Rattle.cm_types.specs.ValueTrees.{value_of, values_of, vals_from}
use Rattle.cm_types.specs.declared.values.Value.{Value}
use Rattle.cm_abi_load.specs.Making.{with_last}

vals_push : (xs : List Val) (v : Val) → vals_from (xs ++ v ∷ []) ≡ with_last (vals_from xs) v
vals_push [] v = refl
vals_push (x ∷ xs) v = ap (val x) (vals_push xs v)

pub row_push : (row pushed : List Value) (x : Value) (vs : Vals) (v : Val) → pushed ≡ row ++ x ∷ [] → values_of row ≡ vs → value_of x ≡ v → values_of pushed ≡ with_last vs v
row_push row pushed x vs v push is there = rw (push, map_push value_of row x) (vals_push (map value_of row) (value_of x) ∙ (ap (λ z. with_last z (value_of x)) is ∙ ap (λ z. with_last vs z) there))
