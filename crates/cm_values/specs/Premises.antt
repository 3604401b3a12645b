-- What a type and a value are like whose text can be read again, as each type of a file and each
-- value of the code is.
use Rattle.std.specs.Prelude.{◌≡◌, ℕ, ◌<◌, ◌≤◌, ◌^◌, ⊤, Bool, true, false, List, [], ◌∷◌, length}
use Rattle.std.specs.List.{list_all, list_any}
use Rattle.std.specs.Str.{bytes_eq}
use Rattle.cm_types.specs.Types.{Ty, Fields, Cases, FieldsKind, list, fixed_list, fields}
use Rattle.cm_types.specs.Types.{cases, flags, no_fields, field, no_cases, plain, carrying}
use Rattle.cm_types.specs.Types.{record_type, tuple_type}
use Rattle.cm_types.specs.Values.{Val, Vals, no_vals, val, elements, parts, bearing, handle}
use Rattle.cm_values.specs.CaseNames.{case_names}
use Rattle.cm_values.specs.declared.kind.Kind.TheVariants as kind
use Rattle.cm_values.specs.Words.{belongs}

-- whether a text is letters, digits and hyphens, as each label is
abbrev pub is_wordy : List ℕ → Bool
is_wordy [] = false
is_wordy (b ∷ bs) = list_all (belongs kind.Word) (b ∷ bs)

-- names that are words, none of them twice
abbrev pub AreNames : List (List ℕ) → Type 0
AreNames [] = ⊤
AreNames (l ∷ ls) = (is_wordy l ≡ true) × (list_any (bytes_eq l) ls ≡ false) × AreNames ls

abbrev pub IsFieldLabel : FieldsKind → List ℕ → Type 0
IsFieldLabel record_type l = is_wordy l ≡ true
IsFieldLabel tuple_type l = ⊤

abbrev mutual
  -- a type whose cases and flags have names of their own
  pub IsReadable : Ty → Type 0
  IsReadable (list t) = IsReadable t
  IsReadable (fixed_list t n) = IsReadable t
  IsReadable (fields k fs) = AreReadable k fs
  IsReadable (cases k cs) =
      AreNames (case_names k cs) × (length (case_names k cs) ≤ 2 ^ 32) × HaveReadable cs
  IsReadable (flags ls) = AreNames ls × (length ls ≤ 32)
  IsReadable _ = ⊤

  pub AreReadable : FieldsKind → Fields → Type 0
  AreReadable k no_fields = ⊤
  AreReadable k (field l t fs) = IsFieldLabel k l × IsReadable t × AreReadable k fs

  pub HaveReadable : Cases → Type 0
  HaveReadable no_cases = ⊤
  HaveReadable (plain l cs) = HaveReadable cs
  HaveReadable (carrying l t cs) = IsReadable t × HaveReadable cs

abbrev mutual
  -- a value whose handles have numbers of 64 and 32 bits
  pub IsHeld : Val → Type 0
  IsHeld (elements vs) = AreHeld vs
  IsHeld (parts vs) = AreHeld vs
  IsHeld (bearing i v) = IsHeld v
  IsHeld (handle h) = (h.serial < 2 ^ 64) × (h.rep < 2 ^ 32)
  IsHeld _ = ⊤

  pub AreHeld : Vals → Type 0
  AreHeld no_vals = ⊤
  AreHeld (val v vs) = IsHeld v × AreHeld vs
