-- What a receiver can tell of a value that it was given (CanonicalABI.md, "Storing" of own and
-- borrow, `lower_borrow`: a borrow of a resource of the receiver's own is its representation).
use Rattle.std.specs.Prelude.{◌<◌, ◌^◌, List, if◌then◌else◌}
use Rattle.std.specs.List.{All}
use Rattle.cm_types.specs.declared.core_value.CoreValue.{CoreValue}
use Rattle.cm_types.specs.Types.{Fields}
use Rattle.cm_types.specs.Values.{Val}
use Rattle.cm_abi_model.specs.Receives.{HandleLeaf, Receives, Serves, borrowed_leaf, owned_leaf}
use Rattle.cm_abi_model.specs.Stores.{Given}
use Rattle.cm_abi_model.specs.Views.{View, Way, implements}

-- A receiver was given a value: it has the value and can read it back, and each number that stands
-- for a handle is one of 32 bits.
pub record WasGiven (w : View) (way : Way) (types : Fields) (slots : List CoreValue) (g : Given)
    (v : Val) : Type 0 where
  pub receives : Receives w way types slots g v
  pub serves : Serves w way types g v
  pub small : All (λ n. n < 2 ^ 32) g.numbers

-- What a receiver can tell of a handle: all but the serial number of a borrow of a resource that
-- the receiver implements.
abbrev pub told_to : View → HandleLeaf → HandleLeaf
told_to w (owned_leaf h) = owned_leaf h
told_to w (borrowed_leaf h) =
    borrowed_leaf (if implements w h.resource then record h { serial = 0 } else h)
