-- Hashes of texts. No law speaks of their values: a text has one, whichever.
use Rattle.std.specs.Prelude.{ℕ, ◌+◌, ◌-◌, ◌*◌, ◌/◌, ◌%◌, ◌^◌, List, [], ◌∷◌, max}

-- the hash after one more byte
abbrev pub next_hash : ℕ → ℕ → ℕ
next_hash hash byte = ((hash + byte) % 2 ^ 64 * 11400714819323198485) % 2 ^ 64

abbrev pub hash_from : ℕ → List ℕ → ℕ
hash_from hash [] = hash
hash_from hash (b ∷ bs) = hash_from (next_hash hash b) bs

abbrev pub hash_of : List ℕ → ℕ
hash_of text = hash_from 0 text

-- the index at which a text is looked for first, among so many marks
unfoldable pub home_of : List ℕ → ℕ → ℕ
home_of text marks = (hash_of text / 2 ^ 32) % max (marks - 16) 1
