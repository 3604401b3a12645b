-- How the resources of a type are counted where it stands, and its parts as they are shown then.
use Rattle.std.specs.Prelude.{ℕ, List, ◌∷◌, codes, Option, Some, None}
use Rattle.std.specs.Option.{option_map}
use Rattle.cm_types.specs.Types.{Ty}
use Rattle.cm_types.specs.TypeTrees.{type_of}
use Rattle.cm_types.specs.declared.type_trees.Case.{Case}
use Rattle.cm_types_arena.specs.Replaced.{Standing, replaced}
use Rattle.cm_types_arena.specs.Placed.{moved_by}
use Rattle.cm_tool_show.specs.Pieces.{Piece, chars}
use Rattle.cm_tool_show.specs.ShownTypes.{between, label_pieces, type_pieces}
use Rattle.cm_tool_show.specs.declared.counting.Counting.{Counting}

-- what each resource is counted as
abbrev pub counted : Counting → Standing
counted c r = moved_by c.brought (moved_by c.place r)

-- a case, with its payload if it carries one
abbrev pub case_with : Standing → List ℕ → Option Ty → List Piece
case_with s label None = label_pieces label
case_with s label (Some t) =
    chars label ∷ between (codes "(") (codes ")") (type_pieces (replaced s t))

abbrev pub case_piece : Standing → Case → List Piece
case_piece s c = case_with s c.label (option_map type_of c.payload)
