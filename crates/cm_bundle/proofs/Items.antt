-- What a loop over a slice looks at next.
use Rattle.std.proofs.Common.{◌≡◌, ℕ, ◌+◌, ◌<◌, List, [], ◌∷◌, length, map, drop, get_or}
use Rattle.cm_lemmas.proofs.Lists.{element_again, next_element}
use Rattle.cm_bundle.specs.declared.form.PartExport.{PartExport}
use Rattle.cm_bundle.specs.declared.form.Sort.TheVariants as sorts
use Rattle.cm_bundle.specs.declared.form.Supply.{Supply}

-- What stands for those that are not there.
abbrev pub no_export : PartExport
no_export = record { part = 0; sort = sorts.Func; name = record { ref_ptr = (0, 0); now = [] } }

abbrev pub no_supply : Supply
no_supply = record { name = record { ref_ptr = (0, 0); now = [] }; export = no_export }

pub next_here : {A B : Type 0} (view : A → B) (xs : List A) (i : ℕ) (d : A) → i < length xs → map view (drop i xs) ≡ view (get_or xs i d) ∷ map view (drop (i + 1) xs)
next_here view xs i d lt = next_element view xs i (get_or xs i d) lt (element_again xs i d (get_or xs i d) lt)
