-- Texts in which resources have numbers (this project's own choice): the resource that appears
-- first has the number 0, the next other one 1, and so on.
use Rattle.std.specs.Prelude.{ℕ, List, [], ◌∷◌, ◌++◌, if◌then◌else◌}
use Rattle.std.specs.Fmt.{decimal}
use Rattle.std.specs.List.{list_any, position_or_len}
use Rattle.cm_types.specs.declared.resource.ResourceId.{ResourceId}
use Rattle.cm_types.specs.Resources.{same_resource}

-- a piece of a text: characters, or the number of a resource
pub data Piece : Type 0 where
  chars : List ℕ → Piece
  number_of : ResourceId → Piece

-- The number of a resource, where these appeared before it, in this order: its place among them, or
-- how many they are.
abbrev pub number_behind : List ResourceId → ResourceId → ℕ
number_behind seen r = position_or_len (same_resource r) seen

-- the resources that appeared, with this one, each once
abbrev pub appeared : List ResourceId → ResourceId → List ResourceId
appeared seen r = if list_any (same_resource r) seen then seen else seen ++ r ∷ []

-- the resources that appeared, with those in pieces, each once
abbrev pub seen_behind : List ResourceId → List Piece → List ResourceId
seen_behind seen [] = seen
seen_behind seen (chars text ∷ ps) = seen_behind seen ps
seen_behind seen (number_of r ∷ ps) = seen_behind (appeared seen r) ps

-- the text of pieces, where these resources appeared before
abbrev pub text_behind : List ResourceId → List Piece → List ℕ
text_behind seen [] = []
text_behind seen (chars text ∷ ps) = text ++ text_behind seen ps
text_behind seen (number_of r ∷ ps) =
    decimal (number_behind seen r) ++ text_behind (appeared seen r) ps

-- the text of pieces
abbrev pub text_of : List Piece → List ℕ
text_of ps = text_behind [] ps

-- the resources in pieces in the order of their first appearance
abbrev pub order_of : List Piece → List ResourceId
order_of ps = seen_behind [] ps

-- the text of pieces, where each resource has the number that it is given
abbrev pub text_with : (ResourceId → ℕ) → List Piece → List ℕ
text_with number [] = []
text_with number (chars text ∷ ps) = text ++ text_with number ps
text_with number (number_of r ∷ ps) = decimal (number r) ++ text_with number ps
