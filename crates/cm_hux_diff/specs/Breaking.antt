-- What a new version breaks (how components are linked is this project's own choice): for users,
-- who import what the old one exports, and may import from its host too; and for hosts, which
-- export what the old one imports. Resources of one signature are told by their numbers.
use Rattle.std.specs.Prelude.{◌≡◌, ℕ, ◌==◌, List, [], ◌∷◌, map, Option, Some, None, unwrap_or}
use Rattle.std.specs.Prelude.{if◌then◌else◌, ◌⊎◌, Bool, ◌||◌, not, length}
use Rattle.std.specs.Option.{option_or}
use Rattle.cm_types.specs.Signatures.{NamedExtern, SignatureTy}
use Rattle.cm_types.specs.declared.resource.ResourceId.{ResourceId}
use Rattle.cm_types_arena.specs.Replaced.{Standing, replaced, replaced_func}
use Rattle.cm_hux_diff.specs.Facing.{host_face, hosted_from, met_from, names}
use Rattle.cm_hux_diff.specs.Held.{Held, nothing, several, sorts, funcs, types, resources, Entry}
use Rattle.cm_hux_diff.specs.Held.{host_entries, used_face, user_entries}
use Rattle.cm_hux_diff.specs.declared.breaking.Break.{Break}
use Rattle.cm_hux_diff.specs.declared.breaking.BreakReason.{BreakReason}
use Rattle.cm_hux_diff.specs.declared.breaking.BreakReason.TheVariants as reason
use Rattle.cm_hux_diff.specs.declared.replacing.Broken.{Broken}

-- ---- what stands for resources where types are compared

-- a resource of the host (0), of the new one itself (1), or one that nothing is offered for (2)
abbrev pub marked : ℕ → Standing
marked side r = record { component = side; number = r.number }

abbrev pub binds : Standing → Held → ℕ → Option ResourceId
binds offered (resources a b) n = if a.number == n then Some (offered b) else None
binds offered _ n = None

-- What stands for the wanted resource of a number: what the first item that is it is offered. Two
-- may be bound to one.
abbrev pub bound : Standing → List Entry → ℕ → Option ResourceId
bound offered [] n = None
bound offered (e ∷ es) n = option_or (binds offered e.held n) (bound offered es n)

-- what stands for an imported resource at a host that serves these imports of the old one
abbrev pub at_host : List NamedExtern → List NamedExtern → ℕ → Option ResourceId
at_host served imports n = bound (marked 0) (host_entries served imports) n

abbrev pub wanted_of_hosts : SignatureTy → SignatureTy → Standing
wanted_of_hosts old new r = unwrap_or (at_host old.imports new.imports r.number) (marked 2 r)

-- what the new one offers is the host's where it imports it, and else its own
abbrev pub offered_to_users : SignatureTy → SignatureTy → Standing
offered_to_users old new r = unwrap_or (at_host old.imports new.imports r.number) (marked 1 r)

-- what users have of the old one is the host's where the old one imports it, and else what the new
-- one binds it to
abbrev pub wanted_by_users : SignatureTy → SignatureTy → Standing
wanted_by_users old new r =
    unwrap_or (option_or (at_host old.imports old.imports r.number)
    (bound (offered_to_users old new) (user_entries old new) r.number)) (marked 2 r)

-- ---- what fits, and what does not

-- What is offered serves what is wanted: types are equal once what stands for each resource is put
-- in its place.
abbrev pub Serves : Standing → Standing → Held → Type 0
Serves wanted offered nothing = ⊥
Serves wanted offered several = ⊥
Serves wanted offered sorts = ⊥
Serves wanted offered (funcs f g) = replaced_func wanted f ≡ replaced_func offered g
Serves wanted offered (types x y) = replaced wanted x ≡ replaced offered y
Serves wanted offered (resources a b) = wanted a ≡ offered b

abbrev pub reason_of : Held → BreakReason
reason_of nothing = reason.Missing
reason_of several = reason.Several
reason_of sorts = reason.OtherSort
reason_of (funcs f g) = reason.OtherType
reason_of (types x y) = reason.OtherType
reason_of (resources a b) = reason.OtherResource

abbrev pub break_of : Entry → Break
break_of e = record { place = e.place; item = e.item; reason = reason_of e.held }

-- These are all that does not serve, in order.
abbrev pub AreBreaks : Standing → Standing → List Entry → List Break → Type 0
AreBreaks wanted offered [] bs = bs ≡ []
AreBreaks wanted offered (e ∷ es) bs =
    (Serves wanted offered e.held × AreBreaks wanted offered es bs)
    ⊎ ((¬ (Serves wanted offered e.held)) × (rest : List Break) × (bs ≡ break_of e ∷ rest)
    × AreBreaks wanted offered es rest)

-- What the new one in place of the old one breaks, what faces each import and export, and which
-- exports may clash with those of others.
pub record IsBroken (old new : SignatureTy) (b : Broken) : Type 0 where
  pub imports : b.imports.items ≡ map (host_face (names old.imports)) (names new.imports)
  pub exports : b.exports.items ≡ map (used_face old new) (names old.exports)
  pub hosts :
      AreBreaks (wanted_of_hosts old new) (marked 0) (host_entries old.imports new.imports)
      b.hosts.items
  pub users :
      AreBreaks (wanted_by_users old new) (offered_to_users old new) (user_entries old new)
      b.users.items
  pub hosted : b.hosted.items
      ≡ hosted_from (names old.exports) (names new.exports) 0 (names old.imports)
  pub met : b.met.items
      ≡ met_from (names old.exports) (names new.exports) 0 (names new.exports)

-- whether something breaks for hosts or for users
abbrev pub breaks : Broken → Bool
breaks b =
    not (length b.hosts.items == 0) || not (length b.users.items == 0)
    || not (length b.hosted.items == 0)
