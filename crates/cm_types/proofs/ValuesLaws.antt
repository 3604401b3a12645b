-- Laws of what Values defines, for this crate and those above it.
use Rattle.std.proofs.Common.{ℕ, None, ◌≡◌, rules, arith, List, [], ◌∷◌}
use Rattle.std.proofs.lemmas.Bool.Decides.{nat_tests}
use Rattle.std.specs.Char.{IsScalar}
use Rattle.std.specs.List.{AllByRecursion}
use Rattle.cm_types.specs.ValueTrees.{value_of}
use Rattle.cm_types.specs.Values.{bare, IsScalarValue}
use Rattle.cm_types.specs.declared.values.Value.{the_lemmas}
use Rattle.cm_types.specs.declared.values.Value.TheViews as value

pub seen_bare : (i : ℕ) → value_of (value.Case i None) ≡ bare i
seen_bare i = search (rules, the_lemmas)

pub scalar_back : (c : ℕ) → IsScalarValue c → IsScalar c
scalar_back c h = grind (arith, nat_tests)

pub are_scalars : (cs : List ℕ) → AllByRecursion IsScalarValue cs → AllByRecursion IsScalar cs
are_scalars [] all = tt
are_scalars (c ∷ cs) all = (scalar_back c all.0, are_scalars cs all.1)
