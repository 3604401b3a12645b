-- What is written on a page.
use Rattle.std.specs.Prelude.{ℕ, ◌+◌, ◌<◌, List, map, length}
use Rattle.std.specs.String.{string_bytes}
use Rattle.cm_types.specs.declared.resource.ResourceId.{ResourceId}
use Rattle.cm_tool_show.specs.Pieces.{Piece, text_behind}
use Rattle.cm_tool_show.specs.declared.page.Page.{Page}
use Rattle.cm_tool_show.specs.declared.page.TheConstants.{MAX_SHOWN}

-- the text so far
abbrev pub text_on : Page → List ℕ
text_on page = string_bytes page.text

-- the resource that a key tells
abbrev pub key_resource : ℕ × ℕ → ResourceId
key_resource k = record { component = k.0; number = k.1 }

-- the resources that appeared
abbrev pub seen_on : Page → List ResourceId
seen_on page = map key_resource page.seen.keys

-- With these pieces the text is too long.
abbrev pub IsOver : Page → List Piece → Type 0
IsOver page ps =
    MAX_SHOWN < length (text_on page) + length (text_behind (seen_on page) ps)
