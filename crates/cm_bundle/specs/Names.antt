-- The names of parts, in custom sections (Binary.md, "Name Section", whose names of the productions
-- stand in brackets).
use Rattle.std.specs.Prelude.{◌≡◌, ℕ, ◌<◌, ◌^◌, List, [], ◌∷◌, ◌++◌, true, Result, Ok, Err}
use Rattle.std.specs.List.{flat_map}
use Rattle.std.specs.Str.{is_utf8}
use Rattle.cm_leb.specs.NumbersWritten.{shortest_unsigned}
use Rattle.cm_binary_grammar.specs.declared.fault.End.TheVariants as end
use Rattle.cm_binary_grammar.specs.declared.fault.Fault.{Fault}
use Rattle.cm_binary_grammar.specs.Grammar.{done, ◌>>=◌, fixed, times}
use Rattle.cm_binary_grammar.specs.Spelling.{vec_spelling, blob_spelling}
use Rattle.cm_binary_grammar.specs.Whole.{Whole, exactly}
use Rattle.cm_bundle.specs.declared.fault.BundleReason.{BundleReason}
use Rattle.cm_bundle.specs.declared.fault.BundleReason.TheVariants as reasons
use Rattle.cm_bundle.specs.declared.form.TheConstants.{NAMES_HEAD}
use Rattle.cm_bundle.specs.Grammar.{Production, short, sized, text}
use Rattle.cm_bundle.specs.Trees.{BundleTree, NameTree}

-- ---- what is read

-- A part, and its name (`nameassoc`).
unfoldable pub part_name : Production NameTree
part_name = do
  part ← short
  name ← text
  done (record { part = part; name = name })

-- The sort of components, a count, and as many names (`sortnames`, `namemap`).
unfoldable pub name_map : Production (List NameTree)
name_map = do
  sort ← fixed (0x04 ∷ []) reasons.UnknownCode
  n ← short
  times part_name n

-- What a custom section of names is called, and its one subsection, of the names of components
-- (`namedata`, `sortnamesubsec`).
unfoldable pub name_section : Production (List NameTree)
name_section = do
  head ← fixed NAMES_HEAD reasons.UnknownCode
  sized name_map

-- The contents of a custom section of names: all of them.
unfoldable pub name_data : Whole BundleReason (List NameTree)
name_data = exactly reasons.Surplus name_section

abbrev pub if_read : Result (List NameTree) (Fault BundleReason) → List NameTree
if_read (Ok names) = names
if_read (Err fault) = []

-- The names that a custom section has. One that is no section of names has none: its validity "is
-- not required".
abbrev pub names_in : List ℕ → List NameTree
names_in contents = if_read (name_data.reads (end.Whole reasons.SizeMismatch) contents)

-- The names that a bundle has for its parts, in the order of its custom sections.
abbrev pub names_of : BundleTree → List NameTree
names_of b = flat_map names_in b.customs

-- ---- what is written

abbrev pub name_spelled : NameTree → List ℕ
name_spelled n = shortest_unsigned n.part ++ blob_spelling n.name

-- The contents of the custom section of these names.
abbrev pub names_spelled : List NameTree → List ℕ
names_spelled names = NAMES_HEAD ++ blob_spelling (0x04 ∷ vec_spelling name_spelled names)

-- The custom sections of a bundle whose parts have these names: none where there are no names.
abbrev pub name_sections : List NameTree → List (List ℕ)
name_sections [] = []
name_sections (name ∷ names) = names_spelled (name ∷ names) ∷ []

-- A number of 32 bits, and a text.
pub record IsName (n : NameTree) : Type 0 where
  pub part : n.part < 2 ^ 32
  pub text : is_utf8 n.name ≡ true
