-- Values of the types of trees, one for one.
use Rattle.std.proofs.Common.{◌≡◌, ℕ, suc, ◌+◌, ◌<◌, List, [], ◌∷◌, length, drop, refl, sym, ap, ◌∙◌, arith}
use Rattle.cm_types.specs.declared.type_trees.TypeTree.{TypeTree}
use Rattle.cm_types.specs.declared.values.Value.{Value}
use Rattle.cm_types.specs.Funcs.{tree_type}
use Rattle.cm_types.specs.Values.{HasType, HaveTypes}
use Rattle.cm_types.specs.ValueTrees.{value_of, values_of}
use Rattle.cm_host_values.specs.Rows.{row_of}

-- one value of each type
abbrev pub Typed : List TypeTree → List Value → Type 0
Typed ts vs = HaveTypes (row_of ts) (values_of vs)

pub unequal : (ts : List TypeTree) (vs : List Value) → (length vs ≡ length ts → ⊥) → Typed ts vs → ⊥
unequal [] [] n h = n refl
unequal [] (v ∷ vs) n h = h
unequal (t ∷ ts) [] n h = h
unequal (t ∷ ts) (v ∷ vs) n h = unequal ts vs (λ e. n (ap suc e)) h.1
