-- What a world imports and exports, and what is known of its instances.
use Rattle.std.proofs.Common.{◌≡◌, ℕ, List, Result, Ok, Err, IfOk, IfErr, Some, length, subst}
use Rattle.cm_types_arena.specs.Signatures.{signature_of}
use Rattle.cm_types_arena.specs.declared.signatures.Signature.{Signature}
use Rattle.cm_wit_reading.specs.Trees.{File}
use Rattle.cm_wit_worlds.specs.Interfaces.{PlacedInterface, PlacedWorld, interfaces}
use Rattle.cm_wit_tables.specs.Declarations.{Declaration}
use Rattle.cm_wit_tables.specs.Worlds.{Instance, instances, declarations}
use Rattle.cm_wit_worlds.specs.Worlds.{AreWorldExterns}
use Rattle.cm_wit_worlds.specs.declared.fault.WorldFault.{WorldFault}
use Rattle.cm_wit_signature.specs.Faults.{IsFaultIn, IsWorldSignature, world_of}
use Rattle.cm_wit_signature.specs.Named.{HaveTypes}
use Rattle.cm_wit_signature.specs.Sides.{interfaces_below}
use Rattle.cm_wit_signature.specs.Typed.{IsTyped}

pub instances_same : (xs : List Instance) (n m : ℕ) (i into o out : List ℕ) → n ≡ m → i ≡ into → o ≡ out → xs ≡ instances n i o → xs ≡ instances m into out
instances_same xs n m i into o out en ei eo h =
    subst (λ (k : ℕ). xs ≡ instances k into out) en (subst (λ (l : List ℕ). xs ≡ instances n l out) ei (subst (λ (l : List ℕ). xs ≡ instances n i l) eo h))

pub imported_same : (first n m : ℕ) (i into : List ℕ) → n ≡ m → i ≡ into → first ≡ length (interfaces_below n i) → first ≡ length (interfaces_below m into)
imported_same first n m i into en ei h =
    subst (λ (k : ℕ). first ≡ length (interfaces_below k into)) en (subst (λ (l : List ℕ). first ≡ length (interfaces_below n l)) ei h)

pub is_typed : (fs : List File) (w : PlacedWorld) (all : List PlacedInterface) (into out : List ℕ) (xs : List Instance) (first : ℕ) (ds : List Declaration) → all ≡ interfaces fs → AreWorldExterns fs w into out → xs ≡ instances (length (interfaces fs)) into out → first ≡ length (interfaces_below (length (interfaces fs)) into) → ds ≡ declarations fs (instances (length (interfaces fs)) into out) → HaveTypes fs w (instances (length (interfaces fs)) into out) → IsTyped fs w all into out xs first ds
is_typed fs w all into out xs first ds a e x i d t = record {
  are_interfaces = a;
  externs = e;
  are_instances = x;
  are_imported = i;
  are_declared = d;
  typed = t;
}

module _ (fs : List File) (w : PlacedWorld) (all : List PlacedInterface) (into out : List ℕ) (xs : List Instance) (first : ℕ) (ds : List Declaration) (t : IsTyped fs w all into out xs first ds) where
  pub signed_in : (r : Result Signature WorldFault) → IfOk r (λ s. (gs : List File) (name : List ℕ) → world_of gs name ≡ Some w → IsTyped gs w all into out xs first ds → IsWorldSignature gs name (signature_of s)) → IfOk r (λ s. (name : List ℕ) → world_of fs name ≡ Some w → IsWorldSignature fs name (signature_of s))
  signed_in (Ok s) h = λ name is. h fs name is t
  signed_in (Err f) h = tt

  pub fault_in : (r : Result Signature WorldFault) → IfErr r (λ f. (gs : List File) → IsTyped gs w all into out xs first ds → IsFaultIn gs w f) → IfErr r (IsFaultIn fs w)
  fault_in (Ok s) h = tt
  fault_in (Err f) h = h fs t
