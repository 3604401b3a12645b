-- Worlds that reach an interface that uses itself.
use Rattle.std.proofs.Common.{◌≡◌, ◌↔◌, ℕ, Bool, List, map, sym, subst}
use Rattle.std.specs.List.{Contains}
use Rattle.cm_wit_graph.specs.Graphs.{IsMarked}
use Rattle.cm_wit_reading.specs.Trees.{File}
use Rattle.cm_wit_worlds.specs.Interfaces.{PlacedWorld}
use Rattle.cm_wit_graph.specs.Reach.{IsReached}
use Rattle.cm_wit_tables.specs.Worlds.{Instance}
use Rattle.cm_wit_worlds.specs.Worlds.{rows_of, named, HasNoInterface, HasInterfaceCycle}
use Rattle.cm_wit_worlds.specs.declared.fault.WorldFault.{WorldFault}
use Rattle.cm_wit_worlds.specs.declared.fault.WorldFault.TheVariants as fault
use Rattle.cm_wit_signature.specs.Faults.{IsFaultIn}
use Rattle.cm_wit_signature.specs.Named.{AreInstances, AreReached, in_cycle, imported}
use Rattle.cm_wit_signature.specs.Typing.{IsTypingFault}

pub reached_instances : (fs : List File) (w : PlacedWorld) (marks seen : List Bool) (ks : List ℕ) (xs : List Instance) → HasInterfaceCycle fs w → seen ≡ marks → xs ≡ map imported ks → ((k : ℕ) → IsMarked marks k ↔ IsReached (rows_of fs) (named fs w) k) → ((k : ℕ) → Contains ks k ↔ IsMarked seen k) → AreInstances fs w xs
reached_instances fs w marks seen ks xs cyclic v e reach has =
    let are : AreReached fs w ks = λ k.
    let there = subst (λ (m : List Bool). Contains ks k ↔ IsMarked m k) v (has k) in
    ((λ h. (reach k).0 (there.0 h)), (λ h. there.1 ((reach k).1 h))) in
    subst (AreInstances fs w) (sym e) (in_cycle ks cyclic are)

pub typing_fault : (fs : List File) (w : PlacedWorld) (xs : List Instance) (f : WorldFault) → (HasNoInterface fs w → ⊥) → AreInstances fs w xs → IsTypingFault fs w xs f → IsFaultIn fs w f
typing_fault fs w xs fault.NoSuchWorld found are h = absurd h
typing_fault fs w xs fault.NoSuchInterface found are h = absurd h
typing_fault fs w xs fault.NoSuchType found are h = (found, (xs, are, h))
typing_fault fs w xs fault.Cycle found are h = absurd h
typing_fault fs w xs fault.TooLarge found are h = absurd h
typing_fault fs w xs fault.Memory found are h = tt
