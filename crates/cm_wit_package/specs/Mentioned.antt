-- What the mentions of a file say of the names in its text (WIT.md, "Packages and Worlds").
use Rattle.std.specs.Prelude.{◌≡◌, ◌⊎◌, ℕ, List, [], ◌∷◌, codes, map, MatchOption}
use Rattle.cm_types.specs.ExternNames.{NameTree, plain, method, static, constructor, interface}
use Rattle.cm_wit_tokens.specs.declared.token.Form.{Form}
use Rattle.cm_wit_tokens.specs.declared.token.Form.TheVariants as form
use Rattle.cm_wit_tokens.specs.Keywords.{spelling}
use Rattle.cm_wit_tokens.specs.Tokens.{lexed}
use Rattle.cm_wit_names.specs.Mentions.{Mention, Reference, no_reference, to_interface, to_used}
use Rattle.cm_wit_names.specs.Mentions.{to_type, to_resource}
use Rattle.cm_wit_package.specs.Places.{names_in}

-- what stands at the place of a name: an identifier, or the word `constructor`
abbrev pub name_text : Form → List ℕ
name_text (form.Identifier word) = word
name_text (form.Keyword k) = spelling k
name_text _ = []

-- the names of a text, in order
abbrev pub name_texts : List ℕ → List (List ℕ)
name_texts text = map (λ t. name_text t.form) (names_in (lexed text).tokens)

-- a full name that is declared at this name: an interface's stands at the first name of its path
abbrev pub IsDeclaredAt : List ℕ → NameTree → Type 0
IsDeclaredAt word (plain l) = word ≡ l
IsDeclaredAt word (method r m) = word ≡ m
IsDeclaredAt word (static r m) = word ≡ m
IsDeclaredAt word (constructor r) = word ≡ codes "constructor"
IsDeclaredAt word (interface ns pkg name version) = (word ≡ ns) ⊎ (word ≡ name)

-- a reference that stands at this name
abbrev pub IsReferredAt : List ℕ → Reference → Type 0
IsReferredAt word no_reference = Unit {0}
IsReferredAt word (to_interface name) = word ≡ name
IsReferredAt word (to_used owner name) = word ≡ name
IsReferredAt word (to_type n name) = word ≡ name
IsReferredAt word (to_resource n name) = word ≡ name

-- A mention is of this name: what it declares or refers to is so called.
abbrev pub IsOf : Mention → List ℕ → Type 0
IsOf m word =
    MatchOption m.declares (Unit {0}) (λ d. IsDeclaredAt word d.name) × IsReferredAt word m.refers

-- Mentions are of names, one for one, in order.
abbrev pub AreOf : List Mention → List (List ℕ) → Type 0
AreOf [] [] = Unit {0}
AreOf [] (word ∷ words) = ⊥
AreOf (m ∷ ms) [] = ⊥
AreOf (m ∷ ms) (word ∷ words) = IsOf m word × AreOf ms words
