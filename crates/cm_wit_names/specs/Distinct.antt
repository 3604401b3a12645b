-- The names that were seen, each with its list.
use Rattle.std.specs.Prelude.{◌≡◌, ◌↔◌, ◌⊎◌, ℕ, List, Some, is_some, true}
use Rattle.cm_wit_names.specs.FirstKeys.{look_up}
use Rattle.cm_wit_names.specs.declared.first_keys.FirstKeys.{FirstKeys}
use Rattle.cm_wit_names.specs.Mentions.{Mention}
use Rattle.cm_wit_names.specs.Rules.{is_self, key_of}

-- a list and a name were seen
abbrev pub Has : FirstKeys → ℕ × List ℕ → Type 0
Has seen key = is_some (look_up seen key.0 key.1) ≡ true

-- the name is that of an implied `self`, or was seen in its list
abbrev pub IsIn : FirstKeys → Mention → Type 0
IsIn seen m =
    (is_self m ≡ true) ⊎ ((key : ℕ × List ℕ) × (key_of m ≡ Some key) × Has seen key)

-- A name was put to the others, and none of them was it.
abbrev pub Adds : ℕ × List ℕ → FirstKeys → FirstKeys → Type 0
Adds key old new =
    ((x : ℕ × List ℕ) → Has new x ↔ (Has old x ⊎ (x ≡ key))) × (Has old key → ⊥)

-- The name of a mention was put to the others, and none of them was it.
abbrev pub Notes : Mention → FirstKeys → FirstKeys → Type 0
Notes m old new =
    ((x : ℕ × List ℕ) → Has new x ↔ (Has old x ⊎ (key_of m ≡ Some x))) × (IsIn old m → ⊥)
