-- Where names stand.
use Rattle.std.specs.Prelude.{ℕ, List, Option, None, map, slice_index_or, unwrap_or}
use Rattle.std.specs.List.{position_from}
use Rattle.std.specs.Option.{option_and_then}
use Rattle.std.specs.Str.{bytes_eq}
use Rattle.cm_names.specs.Keys.{Key, first_key}
use Rattle.cm_types_arena.specs.declared.types.Types.{Types}
use Rattle.cm_types_arena.specs.Listed.{externs_listed, items_listed}
use Rattle.cm_types_arena.specs.declared.named_externs.Externs.{Externs}
use Rattle.cm_types_arena.specs.declared.named_externs.Items.{Items}
use Rattle.cm_wit_conforms.specs.declared.parts.NameParts.{NameParts}

-- the place of the first of these texts that is this one, if one is
abbrev pub place_in : List (List ℕ) → List ℕ → Option ℕ
place_in texts text = position_from (bytes_eq text) 0 texts

-- ---- by parts, where fronts have these numbers, if they have one

-- what a name is found by
abbrev pub back_key : List (Option ℕ) → NameParts → Key
back_key numbers n = (unwrap_or (slice_index_or numbers n.front None) 0, n.back.now)

-- the first of these keys by which a name is found
abbrev pub found_by : List (Option ℕ) → List Key → NameParts → Option ℕ
found_by numbers keys n =
    option_and_then (λ k. first_key keys k n.back.now) (slice_index_or numbers n.front None)

-- ---- the names of imports or exports, and of items
abbrev pub extern_names : Types → Externs → List (List ℕ)
extern_names t externs = map (λ e. e.name) (externs_listed t externs)

abbrev pub item_names : Types → Items → List (List ℕ)
item_names t items = map (λ i. i.name) (items_listed t items)
