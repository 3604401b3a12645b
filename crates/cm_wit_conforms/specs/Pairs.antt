-- Tables of the pairs of resources.
use Rattle.std.specs.Prelude.{◌≡◌, ℕ, nat_le, Bool, List, Option, Some, None, if◌then◌else◌}
use Rattle.std.specs.BTreeMap.{get}
use Rattle.std.specs.declared.cmp.Ordering.{Ordering}
use Rattle.cm_types.specs.declared.resource.ResourceId.{ResourceId}
use Rattle.cm_wit_conforms.specs.Comparisons.{Comparison, Entry}
use Rattle.cm_wit_conforms.specs.Conformance.{have_pair, meets_have, meets_world, world_pair}
use Rattle.cm_wit_conforms.specs.declared.pairs.BothPairs.{BothPairs}
use Rattle.cm_wit_conforms.specs.declared.pairs.Pairs.{Pairs}
use Rattle.cm_wit_conforms.specs.declared.pairs.ResourceKey.{ResourceKey}
use Rattle.cm_wit_conforms.specs.contracts.pairs.ResourceKeyOrd.TheImpl as key_ord

-- the order of keys in a table
abbrev pub key_order : ResourceKey → ResourceKey → Ordering
key_order = (key_ord.ghosts).cmp

abbrev pub key_of : ResourceId → ResourceKey
key_of r = record { component = r.component; number = r.number }

-- the pair that a table has for a resource
abbrev pub pair_in : Pairs → ResourceId → Option ℕ
pair_in pairs r = get key_order pairs.table (key_of r)

-- the lesser of two numbers, or the one that there is
abbrev pub lesser : Option ℕ → Option ℕ → Option ℕ
lesser None b = b
lesser (Some a) None = Some a
lesser (Some a) (Some b) = Some (if nat_le a b then a else b)

-- The table has these pairs.
abbrev pub HasPairs : (ResourceId → Option ℕ) → Pairs → Type 0
HasPairs pair pairs = (r : ResourceId) → pair_in pairs r ≡ pair r

-- The pair was noted for the resources that pass the test, unless they belong to an earlier one.
abbrev pub Notes : (ResourceId → Bool) → Pairs → Pairs → ℕ → Type 0
Notes test old new place = (r : ResourceId) → pair_in new r
    ≡ lesser (pair_in old r) (if test r then Some place else None)

-- Both tables have the pairs of these entries.
pub record HaveBoth (es : List Entry) (pairs : BothPairs) : Type 0 where
  pub have : HasPairs (have_pair es) pairs.have
  pub world : HasPairs (world_pair es) pairs.world

-- The pair that a comparison of this number makes was noted, if it makes one.
pub record NoteBoth (what : Comparison) (old new : BothPairs) (number : ℕ) : Type 0 where
  pub have : Notes (λ r. meets_world r what) old.have new.have number
  pub world : Notes (λ r. meets_have r what) old.world new.world number
