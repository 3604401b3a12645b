-- Comments between `/*` and `*/`, which nest (WIT.md, "Comments").
use Rattle.std.specs.Prelude.{ℕ, suc, ◌+◌, ◌-◌, List, [], ◌∷◌, Option, Some, None, ◌==◌, nat_le}
use Rattle.std.specs.Prelude.{◌&&◌, if◌then◌else◌}
use Rattle.std.specs.Option.{option_map, option_map_or}
use Rattle.cm_wit_tokens.specs.declared.comment.Inside.{Inside}

-- a place inside a comment: how many comments are open, and the byte before (a blank, 0x20, where
-- it was part of a mark)
abbrev pub inside : ℕ → ℕ → Inside
inside depth last = record { depth = depth; last = last }

-- right behind the first `/*`
abbrev pub opened : Inside
opened = inside 1 0x20

-- the place behind one more byte: `*/` ends a comment and `/*` begins one; none where the byte ends
-- the outermost comment
abbrev pub after_byte : Inside → ℕ → Option Inside
after_byte at byte =
    if (at.last == 0x2A) && (byte == 0x2F) then
    if nat_le at.depth 1 then None else Some (inside (at.depth - 1) 0x20)
    else if (at.last == 0x2F) && (byte == 0x2A) then Some (inside (at.depth + 1) 0x20)
    else Some (inside at.depth byte)

-- how many bytes there are up to the end of the outermost comment, if it has one
unfoldable pub comment_length : Inside → List ℕ → Option ℕ
comment_length at [] = None
comment_length at (byte ∷ rest) =
    option_map_or (λ next. option_map suc (comment_length next rest)) (after_byte at byte) (Some 1)
