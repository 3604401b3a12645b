-- Laws of what ValueTrees defines, for this crate and those above it.
use Rattle.std.proofs.Common.{List, ℕ, ◌<◌, length, ◌≡◌, get_or, drop, ◌+◌, ◌∷◌, add-one, drop-cons, refl}
use Rattle.cm_types.specs.ValueTrees.{values_of, value_of}
use Rattle.cm_types.specs.Values.{val}
use Rattle.cm_types.specs.declared.values.Value.{Value}

pub values_next : (vs : List Value) (i : ℕ) (v : Value) → i < length vs → v ≡ get_or vs i v → values_of (drop i vs) ≡ val (value_of v) (values_of (drop (i + 1) vs))
values_next vs i v lt is =
    let split : drop i vs ≡ v ∷ drop (i + 1) vs = rw (add-one, drop-cons vs i v lt, ← is) refl in
    rw split refl
