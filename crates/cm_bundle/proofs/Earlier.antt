-- What is passed on, of one of the first parts.
use Rattle.std.proofs.Common.{◌≡◌, ℕ, zero, suc, ◌<◌, List, [], ◌∷◌, length, map, get_or, true, ltb, arith}
use Rattle.std.specs.Prelude.{◌↔◌, IsTrue}
use Rattle.std.specs.List.{AllByRecursion}
use Rattle.std.specs.Str.{is_utf8}
use Rattle.std.proofs.lemmas.Bool.{ltb-true, lt-ltb}
use Rattle.cm_bundle.specs.declared.form.Supply.{Supply}
use Rattle.cm_bundle.specs.Room.{AreEarlier}
use Rattle.cm_bundle.specs.Trees.{SupplyTree, supply_tree}
use Rattle.cm_bundle.specs.Spelled.{IsSupply}

pub earlier_tested : (parts : ℕ) (x : SupplyTree) → is_utf8 x.name ≡ true → is_utf8 x.export.name ≡ true → IsTrue (ltb x.export.part parts) ↔ IsSupply parts x
earlier_tested parts x name export = (
  λ t. record { name = name; export = export; earlier = ltb-true x.export.part parts t },
  λ i. lt-ltb x.export.part parts i.earlier,
)

pub earlier_here : (parts : ℕ) (xs : List Supply) (i : ℕ) (d : Supply) → i < length xs → AreEarlier parts (map supply_tree xs) → (get_or xs i d).export.part < parts
earlier_here parts [] i d lt h = absurd (omega (arith, lt))
earlier_here parts (x ∷ xs) zero d lt h = h.0
earlier_here parts (x ∷ xs) (suc i) d lt h = earlier_here parts xs i d (omega (arith, lt)) h.1

pub earlier_of : (parts : ℕ) (xs : List SupplyTree) → AllByRecursion (IsSupply parts) xs → AreEarlier parts xs
earlier_of parts [] h = tt {0}
earlier_of parts (x ∷ xs) h = (h.0.earlier, earlier_of parts xs h.1)
