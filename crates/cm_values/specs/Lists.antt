-- Lists of things in the text of a value (WAVE, "Encoding"): commas between them, and one more
-- behind the last or none.
use Rattle.std.specs.Prelude.{ℕ, List, [], ◌∷◌, Option, Some, None}
use Rattle.cm_values.specs.Grammar.{Grammar, done, ◌>>=◌, chosen, steps}
use Rattle.cm_values.specs.Words.{is, expect, gap, mark}

-- a comma and one more thing, where they stand; before the mark that closes the list the comma may
-- stand alone
abbrev pub next_item : {A : Type 0} → ℕ → Grammar A → Grammar (Option A)
next_item closing g =
    gap >>= λ _. chosen (is 0x2C)
    (expect 0x2C >>= λ _. gap >>= λ _.
    chosen (is closing) (done None) (g >>= λ x. done (Some x)))
    (done None)

-- nothing, or x {`,` x} [`,`], before the mark that closes the list
abbrev pub some_items : {A : Type 0} → ℕ → Grammar A → Grammar (List A)
some_items closing g = g >>= λ x. steps (next_item closing g) >>= λ xs. done (x ∷ xs)

abbrev pub inner_items : {A : Type 0} → ℕ → Grammar A → Grammar (List A)
inner_items closing g = gap >>= λ _. chosen (is closing) (done []) (some_items closing g)

-- the same between its marks
abbrev pub items : {A : Type 0} → ℕ → ℕ → Grammar A → Grammar (List A)
items opening closing g =
    mark opening >>= λ _. inner_items closing g >>= λ xs. mark closing >>= λ _. done xs
