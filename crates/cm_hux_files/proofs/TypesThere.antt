-- The types of the last of some imports are in the arena.
use Rattle.std.proofs.Common.{◌≡◌, ◌∙◌, ℕ, List, Bool, true, length, take, drop, sym, ap}
use Rattle.std.specs.List.{list_all}
use Rattle.std.proofs.lemmas.Bool.{and_parts}
use Rattle.std.proofs.lemmas.List.{take-append-drop}
use Rattle.std.proofs.lemmas.List.Folds.{list_all-append}
use Rattle.cm_types.specs.Types.{FuncTy, Ty}
use Rattle.cm_types_arena.specs.Externs.{is_extern_there}
use Rattle.cm_types_arena.specs.declared.externs.Extern.{Extern}

pub last_there : {A : Type 0} (test : A → Bool) (n : ℕ) (xs : List A) → list_all test xs ≡ true → list_all test (drop n xs) ≡ true
last_there test n xs h =
    let both = sym (list_all-append test (take n xs) (drop n xs)) ∙ ap (list_all test) (take-append-drop n xs) ∙ h in
    (and_parts (list_all test (take n xs)) (list_all test (drop n xs)) both).1

pub there_in : (types types_ : List Ty) (funcs funcs_ : List FuncTy) (es : List Extern) → types ≡ types_ → funcs ≡ funcs_ → list_all (λ e. is_extern_there (length types_) (length funcs_) e.desc) es ≡ true → list_all (λ e. is_extern_there (length types) (length funcs) e.desc) es ≡ true
there_in types types_ funcs funcs_ es p q h = rw (p, q) h
