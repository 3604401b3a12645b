-- The exports without a version, by name.
use Rattle.std.specs.Prelude.{◌≡◌, ◌++◌, ◌∷◌, [], ℕ, false, List, Some, slice_get}
use Rattle.std.specs.List.{list_any}
use Rattle.std.specs.Str.{bytes_eq}
use Rattle.cm_names.specs.TextTables.{texts_of}
use Rattle.cm_match_serving.specs.Readings.{only_named}
use Rattle.cm_match_model.specs.Fitting.{NamedExport}
use Rattle.cm_match_model.specs.declared.candidates.Candidate.{Candidate}
use Rattle.cm_match_model.specs.declared.candidates.Candidate.TheVariants as candidate
use Rattle.cm_match_serving.specs.declared.unversioned.NameTable.{NameTable}

-- a table tells of each name without a version which of these exports have it
pub record TellNames (table : NameTable) (exports : List NamedExport) : Type 0 where
  pub there : (name : List ℕ) (n : ℕ) → slice_get (texts_of table.names) n ≡ Some name
      → slice_get table.candidates.items n ≡ Some (only_named name exports)
  pub none : (name : List ℕ) → list_any (bytes_eq name) (texts_of table.names) ≡ false
      → only_named name exports ≡ candidate.None

-- a table gets a name more, with its candidates
pub record PutsName (name : List ℕ) (one : Candidate) (old new : NameTable) : Type 0 where
  pub names : texts_of new.names ≡ texts_of old.names ++ name ∷ []
  pub candidates : new.candidates.items ≡ old.candidates.items ++ one ∷ []

-- a table has what it had
pub record StaysSame (old new : NameTable) : Type 0 where
  pub names : texts_of new.names ≡ texts_of old.names
  pub candidates : new.candidates.items ≡ old.candidates.items
