-- What files of stubs are read as (that a stub is one more component is this project's own choice).
use Rattle.std.specs.Prelude.{◌≡◌, ◌≤◌, ℕ, List, [], ◌∷◌, Ok, map, length}
use Rattle.cm_binary_model.specs.Trees.{SectionTree}
use Rattle.cm_types.specs.Signatures.{SignatureTy}
use Rattle.cm_validate_model.specs.Spaces.{spaces_of}
use Rattle.cm_validate_model.specs.Valid.{IsValid}
use Rattle.cm_match_model.specs.Imports.{seen_by, sees_all}
use Rattle.cm_match_model.specs.Links.{CanBeLinked}
use Rattle.cm_shims_plain.specs.Reading.{IsReadAs}
use Rattle.cm_shims.specs.Files.{IsSound, Reading, component_in}
use Rattle.cm_wit_conforms.specs.Conformance.{Conforms}
use Rattle.cm_stubs_files.specs.Called.{called}

-- The file is read as this plain component, which is valid and has the types that its shims say.
pub record IsSoundFile (file : List ℕ) (component : List SectionTree) : Type 0 where
  pub reading : Reading
  pub read : IsReadAs file (Ok reading)
  pub sound : IsSound reading
  pub held : component_in reading ≡ component

-- The file of a provider: these components link behind the component that it is read as, which has
-- nothing before it to import from.
pub record IsProviderFile (file : List ℕ) (behind : List (List SectionTree)) : Type 0 where
  pub provider : List SectionTree
  pub read : IsSoundFile file provider
  pub linked : CanBeLinked (seen_by sees_all (map spaces_of (provider ∷ behind)))

-- The file of a caller of a signature: the component that it is read as exports nothing, and what
-- its imports call, as many as the signature exports, are those exports, by name and by type.
pub record IsCallerFile (file : List ℕ) (of_ : SignatureTy) : Type 0 where
  pub caller : List SectionTree
  pub read : IsSoundFile file caller
  pub exports : (spaces_of caller).exports ≡ []
  pub calls : Conforms (called (length of_.exports) (spaces_of caller).imports) of_

-- The file of a provider of what a signature imports: a valid component that imports all of that,
-- by name and by type, links behind the component that it is read as, which has no more exports.
pub record IsProviderFileOf (file : List ℕ) (asked : SignatureTy) : Type 0 where
  pub provider : List SectionTree
  pub read : IsSoundFile file provider
  pub few : length (spaces_of provider).exports ≤ length asked.imports
  pub user : List SectionTree
  pub valid : IsValid user
  pub asks : Conforms asked (called 0 (spaces_of user).imports)
  pub linked : CanBeLinked (seen_by sees_all (map spaces_of (provider ∷ user ∷ [])))
