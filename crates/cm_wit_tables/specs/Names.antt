-- The names in texts, as the code lists them.
use Rattle.std.specs.Prelude.{◌≡◌, ℕ, List, ◌++◌, map}
use Rattle.std.specs.Borrow.{Bor}
use Rattle.cm_wit_tables.specs.declared.names.Names.{Names}

-- the texts of names
abbrev pub texts : List (Bor (List ℕ)) → List (List ℕ)
texts names = map (λ n. n.now) names

-- These names, and these of borrowed resources, were added behind those that stood there.
pub record Adds (names borrows : List (List ℕ)) (old new : Names) : Type 0 where
  pub all : texts new.all.items ≡ texts old.all.items ++ names
  pub borrowed : texts new.borrowed.items ≡ texts old.borrowed.items ++ borrows
