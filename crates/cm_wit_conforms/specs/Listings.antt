-- Names that are listed by their parts.
use Rattle.std.specs.Prelude.{◌≡◌, ℕ, ◌<◌, List, [], ◌∷◌, ◌++◌, length, map}
use Rattle.std.specs.List.{AllByRecursion}
use Rattle.cm_types.specs.ExternNames.{HasLabels, NameTree, name_spelling}
use Rattle.cm_types_arena.specs.SharedNames.{name_with}
use Rattle.cm_types_arena.specs.declared.names.Front.{Front}
use Rattle.cm_wit_conforms.specs.Parts.{FrontKey, bare_front, front_of, parts_of}
use Rattle.cm_wit_conforms.specs.PartViews.{front_view, parts_in}
use Rattle.cm_wit_conforms.specs.declared.listing.ListedNames.{ListedNames}

-- the fronts of a listing
abbrev pub fronts_in : ListedNames → List FrontKey
fronts_in l = map front_view l.fronts.items

-- The listing has names that are spelled as these texts, each by its parts.
pub record AreNames (l : ListedNames) (texts : List (List ℕ)) : Type 0 where
  pub trees : List NameTree
  pub labels : AllByRecursion HasLabels trees
  pub spelled : map name_spelling trees ≡ texts
  pub parts : map (parts_in (fronts_in l)) l.names.items ≡ map parts_of trees
  pub within : AllByRecursion (λ n. n.front < length l.fronts.items) l.names.items

-- The listing's fronts are these and one more that is plain.
abbrev pub HasFrontsOf : List Front → ListedNames → Type 0
HasFrontsOf fronts l =
    fronts_in l ≡ map (λ f. front_of (name_with f [])) fronts ++ bare_front 0 ∷ []
