-- What is written of a component.
use Rattle.std.proofs.Common.{◌≡◌, ℕ, ◌≤◌, List, length, Result, Ok, Err, sym, ap, subst, arith}
use Rattle.std.specs.Prelude.{IfOk}
use Rattle.cm_binary_model.specs.Trees.{SectionTree}
use Rattle.cm_binary_forms.specs.File.{Spells}
use Rattle.cm_binary_model.specs.Spelling.{spelling}
use Rattle.cm_binary.proofs.File.{file_least}

pub is_spelled : {V : Type 0} (items_of : V → List ℕ) (c : List SectionTree) {E : Type 0} (r : Result V E) → Spells c (spelling c) → IfOk r (λ v. items_of v ≡ spelling c) → IfOk r (λ v. Spells c (items_of v))
is_spelled items_of c (Ok v) s h = subst (Spells c) (sym h) s
is_spelled items_of c (Err e) s h = tt {0}

pub is_shortest : {V : Type 0} (items_of : V → List ℕ) (c : List SectionTree) {E : Type 0} (r : Result V E) → IfOk r (λ v. items_of v ≡ spelling c) → IfOk r (λ v. (bytes : List ℕ) → Spells c bytes → length (items_of v) ≤ length bytes)
is_shortest items_of c (Ok v) h = λ bytes s. omega (arith, ap length h, file_least.bound c bytes s)
is_shortest items_of c (Err e) h = tt {0}
