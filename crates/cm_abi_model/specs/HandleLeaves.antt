-- The handles of a value, as the code has them, and among them those that are owned or borrowed
-- (CanonicalABI.md, "Lifting" and "Storing" of own and borrow).
use Rattle.std.specs.Prelude.{List, [], ◌∷◌, map}
use Rattle.cm_types.specs.Values.{HandleValue}
use Rattle.cm_handles.specs.declared.handle.Handle.{Handle}
use Rattle.cm_layout.specs.declared.layouts.HandleType.{HandleType}
use Rattle.cm_layout.specs.declared.layouts.HandleType.TheVariants as handle_type
use Rattle.cm_abi_model.specs.Receives.{HandleLeaf, owned_leaf, borrowed_leaf}
use Rattle.cm_abi_model.specs.declared.leaf.HandleLeaf.{HandleLeaf as CodedLeaf}
use Rattle.cm_abi_model.specs.declared.leaf.HandleLeaf.TheVariants as coded
use Rattle.cm_abi_model.specs.declared.leaf.HandleValue.{HandleValue as CodedValue}

-- what a handle of the code stands for
abbrev pub value_in : CodedValue → HandleValue
value_in h = record { serial = h.serial; rep = h.rep; resource = h.resource }

-- the handle that a leaf of the code is
abbrev pub leaf_of : CodedLeaf → HandleLeaf
leaf_of (coded.Owned h) = owned_leaf (value_in h)
leaf_of (coded.Borrowed h) = borrowed_leaf (value_in h)

abbrev pub leaves_of : List CodedLeaf → List HandleLeaf
leaves_of leaves = map leaf_of leaves

-- a handle whose type is this
abbrev pub leaf_by : HandleType → HandleValue → HandleLeaf
leaf_by (handle_type.Own r) h = owned_leaf h
leaf_by (handle_type.Borrow r) h = borrowed_leaf h

-- what a handle stands for
abbrev pub stands_for : Handle → HandleValue
stands_for h = record { serial = h.serial; rep = h.rep; resource = h.resource }

-- the handles to be owned among those of a value, in order
abbrev pub owned_in : List HandleLeaf → List HandleValue
owned_in [] = []
owned_in (owned_leaf h ∷ leaves) = h ∷ owned_in leaves
owned_in (borrowed_leaf h ∷ leaves) = owned_in leaves

-- and those to be borrowed
abbrev pub borrowed_in : List HandleLeaf → List HandleValue
borrowed_in [] = []
borrowed_in (owned_leaf h ∷ leaves) = borrowed_in leaves
borrowed_in (borrowed_leaf h ∷ leaves) = h ∷ borrowed_in leaves
