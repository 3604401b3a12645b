-- What an open bundle imports: the sections in front of its parts (Binary.md, whose names of the
-- productions stand in brackets).
use Rattle.std.specs.Prelude.{◌≡◌, ℕ, zero, suc, ◌+◌, ◌≤◌, List, [], ◌∷◌, ◌++◌, length, map, Bool}
use Rattle.std.specs.Prelude.{true, Result, Ok, Err, ◌==◌, if◌then◌else◌, is_ok}
use Rattle.std.specs.List.{AllByRecursion, flat_map}
use Rattle.cm_leb.specs.NumbersWritten.{shortest_unsigned}
use Rattle.cm_binary_grammar.specs.declared.fault.End.TheVariants as end
use Rattle.cm_binary_grammar.specs.declared.fault.Fault.{Fault}
use Rattle.cm_binary_grammar.specs.Grammar.{done, ◌>>=◌, fail, code, check, fixed, times}
use Rattle.cm_binary_grammar.specs.Spelling.{blob_spelling}
use Rattle.cm_binary_grammar.specs.Whole.{Whole, exactly}
use Rattle.cm_bundle.specs.declared.form.Sort.TheVariants as sorts
use Rattle.cm_bundle.specs.declared.form.TheConstants.{MAX_PARTS}
use Rattle.cm_bundle.specs.declared.codes.InFront.{InFront}
use Rattle.cm_bundle.specs.declared.codes.InFront.TheVariants as in_front
use Rattle.cm_bundle.specs.declared.fault.BundleReason.{BundleReason}
use Rattle.cm_bundle.specs.declared.fault.BundleReason.TheVariants as reasons
use Rattle.cm_bundle.specs.declared.spaces.Counts.{Counts}
use Rattle.cm_bundle.specs.Trees.{ImportTree, TypeAliasTree, GroupTree, SupplyTree}
use Rattle.cm_bundle.specs.Spelled.{Spaces, no_spaces, counted, all_counted, exports_of}
use Rattle.cm_bundle.specs.Spelled.{section_spelled, supplies_spelled}
use Rattle.cm_bundle.specs.Grammar.{Production, short, bytes_of, text, sort_of}

-- ---- imports

-- An import of a function or an instance: the byte of a plain name, the name, the sort, the index
-- of the type (`import`, `importname'`, `externdesc`).
unfoldable pub import_ : Production ImportTree
import_ = do
  plain ← fixed (0x00 ∷ []) reasons.UnknownCode
  name ← text
  sort ← code sort_of
  ty ← short
  done (record { name = name; sort = sort; ty = ty })

-- A count, and as many imports.
unfoldable pub import_list : Production (List ImportTree)
import_list = do
  n ← short
  times import_ n

-- The contents of a section of imports: all of them (`section_10`).
unfoldable pub import_data : Whole BundleReason (List ImportTree)
import_data = exactly reasons.Surplus import_list

-- ---- aliases of types

-- An alias of a type that an instance exports: the sort of types, the kind of the target, the
-- instance, the name (`alias`, `aliastarget`).
unfoldable pub type_alias : Production TypeAliasTree
type_alias = do
  kind ← fixed (0x03 ∷ 0x00 ∷ []) reasons.UnknownCode
  instance_ ← short
  name ← text
  done (record { instance_ = instance_; name = name })

-- A count, and as many aliases.
unfoldable pub type_alias_list : Production (List TypeAliasTree)
type_alias_list = do
  n ← short
  times type_alias n

-- The contents of a section of aliases of types: all of them (`section_6`).
unfoldable pub type_alias_data : Whole BundleReason (List TypeAliasTree)
type_alias_data = exactly reasons.Surplus type_alias_list

-- ---- what contents are of

abbrev pub listed : Result (List ImportTree) (Fault BundleReason) → List ImportTree
listed (Ok xs) = xs
listed (Err fault) = []

-- The imports in the contents of a section; none where they are of something else.
abbrev pub imports_in : List ℕ → List ImportTree
imports_in contents = listed (import_data.reads (end.Whole reasons.SizeMismatch) contents)

abbrev pub are_imports : List ℕ → Bool
are_imports contents = is_ok (import_data.reads (end.Whole reasons.SizeMismatch) contents)

abbrev pub are_type_aliases : List ℕ → Bool
are_type_aliases contents =
    is_ok (type_alias_data.reads (end.Whole reasons.SizeMismatch) contents)

-- ---- groups of sections

-- The contents of a section of imports.
unfoldable pub imports_section : Production (List ℕ)
imports_section = check are_imports reasons.BadFront bytes_of

-- The contents of a section of aliases of types.
unfoldable pub aliases_section : Production (List ℕ)
aliases_section = check are_type_aliases reasons.BadFront bytes_of

-- Three sections behind the id of the first: of types, whatever they are, of imports, and of
-- aliases of types.
unfoldable pub group : Production GroupTree
group = do
  types ← bytes_of
  importing ← fixed (0x0a ∷ []) reasons.UnknownCode
  imports ← imports_section
  aliasing ← fixed (0x06 ∷ []) reasons.UnknownCode
  aliases ← aliases_section
  done (record { types = types; imports = imports; aliases = aliases })

-- Whether a group begins here, with its types, or the instance of what is imported (`section`).
abbrev pub in_front_of : ℕ → Result InFront BundleReason
in_front_of b = if b == 0x07 then Ok in_front.Group
    else if b == 0x05 then Ok in_front.Instance else Err reasons.UnknownCode

-- What stands behind the id of a section; more groups may follow a group.
abbrev pub behind_id : Production (List GroupTree) → InFront → Production (List GroupTree)
behind_id more in_front.Instance = done []
behind_id more in_front.Group = do
  g ← group
  gs ← more
  done (g ∷ gs)

-- Groups and the id behind them, which are fewer sections than so many.
unfoldable pub groups : ℕ → Production (List GroupTree)
groups zero = fail reasons.TooManyParts
groups (suc room) = code in_front_of >>= behind_id (groups room)

-- ---- what is imported, as an instance

-- All that is imported, in order.
abbrev pub imports_of : List GroupTree → List ImportTree
imports_of gs = flat_map (λ g. imports_in g.imports) gs

-- An import, passed on under its name.
abbrev pub passed_on : ImportTree → SupplyTree
passed_on i = record {
  name = i.name;
  export = record { part = 0; sort = i.sort; name = i.name };
}

abbrev pub all_passed_on : List GroupTree → List SupplyTree
all_passed_on gs = map passed_on (imports_of gs)

-- The counts before anything is imported: one place will be that of no part.
abbrev pub front_counts : Counts
front_counts = record { functions = 0; instances = 0; fronts = 1 }

-- The instance of what is imported, behind the id of its section: of one instance, the form of
-- exports under names, each import under its own (`instance`, `instanceexpr`, `inlineexport`).
abbrev pub imported_spelled : List SupplyTree → List ℕ
imported_spelled xs = blob_spelling (0x01 ∷ 0x01 ∷ (shortest_unsigned (length xs)
    ++ supplies_spelled (0x00 ∷ []) [] front_counts xs))

-- The front of an open bundle: the groups, and the instance of what they import.
unfoldable pub front : Production (List GroupTree)
front = do
  gs ← groups (MAX_PARTS + 1)
  instance_ ← fixed (imported_spelled (all_passed_on gs)) reasons.UnknownCode
  done gs

-- The index spaces behind that instance, which has the first place.
abbrev pub front_spaces : List SupplyTree → Spaces
front_spaces xs = record {
  counts = counted (all_counted front_counts (exports_of xs)) sorts.Instance;
  places = (all_counted front_counts (exports_of xs)).instances ∷ [];
}

-- The index spaces in front of the parts.
abbrev pub spaces_behind : List GroupTree → Spaces
spaces_behind [] = no_spaces
spaces_behind (g ∷ gs) = front_spaces (all_passed_on (g ∷ gs))

-- ---- spellings

abbrev pub group_spelled : GroupTree → List ℕ
group_spelled g = section_spelled 0x07 g.types
    ++ (section_spelled 0x0a g.imports ++ section_spelled 0x06 g.aliases)

-- The front of a bundle: nothing where it is closed.
abbrev pub front_spelled : List GroupTree → List ℕ
front_spelled [] = []
front_spelled (g ∷ gs) = flat_map group_spelled (g ∷ gs)
    ++ (0x05 ∷ imported_spelled (all_passed_on (g ∷ gs)))

-- A section of imports, and one of aliases of types.
pub record IsGroup (g : GroupTree) : Type 0 where
  pub imports : are_imports g.imports ≡ true
  pub aliases : are_type_aliases g.aliases ≡ true

-- So many groups that a bundle may have.
pub record AreGroups (gs : List GroupTree) : Type 0 where
  pub few : length gs ≤ MAX_PARTS
  pub each : AllByRecursion IsGroup gs
