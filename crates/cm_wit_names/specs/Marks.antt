-- Mentions one after the other. What a mention says may name others by their numbers, counted from
-- 0 in reading order, so the number of its first name stands for a part of a file.
use Rattle.std.specs.Prelude.{ℕ, ◌+◌, List, [], ◌∷◌, ◌++◌, length, Option, Some, None}
use Rattle.cm_wit_names.specs.Mentions.{Mention}

-- the mentions of a part whose first name has this number
abbrev pub Marks : Type 0
Marks = ℕ → List Mention

abbrev pub none : Marks
none n = []

abbrev pub one : Mention → Marks
one m n = m ∷ []

-- a part and what stands behind it
infixr 20 ◌then◌
abbrev pub ◌then◌ : Marks → Marks → Marks
◌then◌ a b n = a n ++ b (n + length (a n))

-- a part that names its first name
abbrev pub here : (ℕ → Marks) → Marks
here part n = part n n

abbrev pub each : {A : Type 0} → (A → Marks) → List A → Marks
each part [] = none
each part (x ∷ xs) = part x then each part xs

abbrev pub optional : {A : Type 0} → (A → Marks) → Option A → Marks
optional part None = none
optional part (Some x) = part x
