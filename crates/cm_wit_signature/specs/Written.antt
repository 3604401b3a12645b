-- Types and definitions of WIT that hold something (WIT.md, "Item: `ty`" and "Item: `type`").
use Rattle.std.specs.Prelude.{◌≡◌, ℕ, ◌<◌, ◌≤◌, true, List, length, Some}
use Rattle.std.specs.List.{AllByRecursion}
use Rattle.std.specs.Option.{IfSome}
use Rattle.cm_types.specs.declared.spellable.TheConstants.{MAX_FLAGS}
use Rattle.cm_types.specs.Spellable.{is_spellable}
use Rattle.cm_wit_reading.specs.Types.{Ty, Tys, list, fixed_list, option, tuple, ok_result}
use Rattle.cm_wit_reading.specs.Types.{error_result, result, no_types, types}
use Rattle.cm_wit_reading.specs.Trees.{TypeDef, alias, record_of, variant, enum, flags, resource}
use Rattle.cm_wit_meanings.specs.Scopes.{Scope, Meaning, as_type}

abbrev mutual
  -- Each tuple has a type or more, and each list of fixed length an element or more.
  pub IsWritten : Ty → Type 0
  IsWritten (list t) = IsWritten t
  IsWritten (fixed_list t n) = (0 < n) × IsWritten t
  IsWritten (option t) = IsWritten t
  IsWritten (tuple ts) = HasTypes ts × AreWritten ts
  IsWritten (ok_result t) = IsWritten t
  IsWritten (error_result t) = IsWritten t
  IsWritten (result t u) = IsWritten t × IsWritten u
  IsWritten t = Unit {0}

  -- each of these types is written so
  pub AreWritten : Tys → Type 0
  AreWritten no_types = Unit {0}
  AreWritten (types t ts) = IsWritten t × AreWritten ts

  -- there is a type or more
  pub HasTypes : Tys → Type 0
  HasTypes no_types = ⊥
  HasTypes (types t ts) = Unit {0}

-- A definition has a field, a case or a label or more, and at most 32 flags, and its types are
-- written so.
abbrev pub IsWrittenDef : TypeDef → Type 0
IsWrittenDef (alias t) = IsWritten t
IsWrittenDef (record_of fs) = (0 < length fs) × AllByRecursion (λ f. IsWritten f.1) fs
IsWrittenDef (variant cs) = (0 < length cs) × AllByRecursion (λ c. IfSome c.ty IsWritten) cs
IsWrittenDef (enum names) = 0 < length names
IsWrittenDef (flags names) = (0 < length names) × (length names ≤ MAX_FLAGS)
IsWrittenDef (resource fs) = Unit {0}

-- A file can spell the type of what each name stands for.
abbrev pub NamesSpellable : Scope → Type 0
NamesSpellable s =
    (name : List ℕ) (m : Meaning) → s name ≡ Some m → is_spellable (as_type m) ≡ true
