-- Labels (WIT.md, "Identifiers").
use Rattle.std.specs.Prelude.{◌≡◌, ℕ, ◌<◌, Bool, false, ◌&&◌, ◌||◌, ◌==◌, List, [], ◌∷◌, length}
use Rattle.std.specs.Prelude.{map, Option, Some, None, IsTrue, if◌then◌else◌}
use Rattle.std.specs.List.{list_all, slice_split, join_with_byte, AllByRecursion}
use Rattle.std.specs.Char.{is_ascii_lowercase, is_ascii_uppercase, is_ascii_digit}
use Rattle.std.specs.Char.{to_ascii_lowercase}
use Rattle.std.specs.Str.{bytes_eq}
use Rattle.cm_types.specs.declared.names.NameFault.{NameFault}
use Rattle.cm_types.specs.declared.names.NameFault.TheVariants as fault

-- a byte that may stand in a word after its first letter
abbrev pub is_in_word : ℕ → Bool
is_in_word b = is_ascii_lowercase b || is_ascii_digit b

-- a byte that may stand in an acronym after its first letter
abbrev pub is_in_acronym : ℕ → Bool
is_in_acronym b = is_ascii_uppercase b || is_ascii_digit b

-- a word is a lower-case letter, and then lower-case letters and digits
abbrev pub is_word : List ℕ → Bool
is_word [] = false
is_word (b ∷ bs) = is_ascii_lowercase b && list_all is_in_word bs

-- an acronym is an upper-case letter, and then upper-case letters and digits
abbrev pub is_acronym : List ℕ → Bool
is_acronym [] = false
is_acronym (b ∷ bs) = is_ascii_uppercase b && list_all is_in_acronym bs

-- a fragment is a word or an acronym
abbrev pub is_fragment : List ℕ → Bool
is_fragment text = is_word text || is_acronym text

-- a label is one or more fragments, joined by hyphens (45)
pub record IsLabel (text : List ℕ) : Type 0 where
  pub fragments : List (List ℕ)
  pub some : 0 < length fragments
  pub each : AllByRecursion (λ f. IsTrue (is_fragment f)) fragments
  pub joined : join_with_byte 45 fragments ≡ text

-- whether a text is a label: each part between two hyphens is a fragment
abbrev pub is_label : List ℕ → Bool
is_label text = list_all is_fragment (slice_split (λ b. b == 45) text)

-- two names are the same where they differ at most in the case of ASCII letters
abbrev pub is_same_name : List ℕ → List ℕ → Bool
is_same_name a b = bytes_eq (map to_ascii_lowercase a) (map to_ascii_lowercase b)

-- why a text is no label, if it is none
abbrev pub label_fault : List ℕ → Option NameFault
label_fault [] = Some fault.Empty
label_fault (b ∷ bs) = if is_label (b ∷ bs) then None else Some fault.BadFragment
