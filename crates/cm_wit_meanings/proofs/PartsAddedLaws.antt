-- What comes of adding parts, one after another.
use Rattle.std.proofs.Common.{◌≡◌, ℕ, List, length, Option, Some, IfOk, IfErr, refl, sym, ap, subst, ◌∙◌, arith, Result, Ok, Err}
use Rattle.std.specs.Option.{option_map}
use Rattle.cm_types.specs.Types.{Ty}
use Rattle.cm_types.specs.Limits.{IsWithinLimits}
use Rattle.cm_types.specs.Spellable.{is_spellable}
use Rattle.cm_types_arena.specs.Places.{types_of, funcs_of}
use Rattle.cm_types_arena.specs.TypeDefs.{type_at}
use Rattle.cm_types_arena.specs.declared.types.Types.{Types}
use Rattle.cm_wit_meanings.specs.declared.fault.MeaningFault.{MeaningFault}
use Rattle.cm_wit_meanings.specs.declared.scope.Meaning as code
use Rattle.cm_wit_meanings.specs.declared.scope.Meaning.TheVariants as meant
use Rattle.cm_wit_meanings.specs.Added.{Added, AddedType, is_place}
use Rattle.cm_wit_meanings.specs.Faults.{IsTypeFault}
use Rattle.cm_wit_meanings.specs.Places.{Extends, IsPlaced, meaning_in}
use Rattle.cm_wit_meanings.specs.Scopes.{as_type, value}
use Rattle.cm_wit_meanings.specs.PartsAdded.{AddedDef, named_place}
use Rattle.cm_wit_meanings.proofs.PartsFaultLaws.{mapped_fault}
use Rattle.cm_wit_meanings.proofs.PartsGrowthLaws.{arena_within}
use Rattle.cm_wit_meanings.proofs.GrowthLaws.{extends_more, extends_same}

-- what is there already
pub stands : {A D : Type 0} (view : List Ty → D → A) (IsThere : ℕ → D → Type 0) (IsFault : Option A → MeaningFault → Type 0) (types : Types) (meant : Option A) (d : D) → IsThere (length (types_of types)) d → meant ≡ Some (view (types_of types) d) → Added view IsThere IsFault types types meant (Ok d)
stands view IsThere IsFault types meant d there means = record { there = there; meaning = means; fault = tt; grown = extends_same (types_of types) (types_of types) refl; funcs = refl }

-- what nothing is added for
pub refused_first : {A D : Type 0} (view : List Ty → D → A) (IsThere : ℕ → D → Type 0) (IsFault : Option A → MeaningFault → Type 0) (types : Types) (meant : Option A) (f : MeaningFault) → IsFault meant f → Added view IsThere IsFault types types meant (Err f)
refused_first view IsThere IsFault types meant f why = record { there = tt; meaning = tt; fault = why; grown = extends_same (types_of types) (types_of types) refl; funcs = refl }

-- what is refused once others are added
pub refusal : {A D : Type 0} (view : List Ty → D → A) (IsThere : ℕ → D → Type 0) (IsFault : Option A → MeaningFault → Type 0) (old new : Types) (meant : Option A) (f : MeaningFault) → IsFault meant f → Extends (types_of old) (types_of new) → funcs_of new ≡ funcs_of old → Added view IsThere IsFault old new meant (Err f)
refusal view IsThere IsFault old new meant f why grown funcs = record { there = tt; meaning = tt; fault = why; grown = grown; funcs = funcs }

module _ {A D : Type 0} {view : List Ty → D → A} {IsThere : ℕ → D → Type 0} {IsFault : Option A → MeaningFault → Type 0} where
  -- from its parts
  pub added : {old new : Types} {meant : Option A} {r : Result D MeaningFault} → IfOk r (IsThere (length (types_of new))) → IfOk r (λ d. meant ≡ Some (view (types_of new) d)) → IfErr r (IsFault meant) → Extends (types_of old) (types_of new) → funcs_of new ≡ funcs_of old → Added view IsThere IsFault old new meant r
  added there meaning fault grown funcs = record { there = there; meaning = meaning; fault = fault; grown = grown; funcs = funcs }

  -- by another name
  pub meant_so : {old new : Types} {whole meant : Option A} {r : Result D MeaningFault} → whole ≡ meant → Added view IsThere IsFault old new meant r → Added view IsThere IsFault old new whole r
  meant_so {old} {new} {whole} {meant} {r} e h = subst (λ (o : Option A). Added view IsThere IsFault old new o r) (sym e) h

  -- the same answer
  pub answers_so : {old new : Types} {meant : Option A} {r q : Result D MeaningFault} → r ≡ q → Added view IsThere IsFault old new meant q → Added view IsThere IsFault old new meant r
  answers_so {old} {new} {meant} {r} {q} e h = subst (λ (x : Result D MeaningFault). Added view IsThere IsFault old new meant x) (sym e) h

  module _ {B E : Type 0} {view_of : List Ty → E → B} {IsIn : ℕ → E → Type 0} {IsFaultOf : Option B → MeaningFault → Type 0} {old mid : Types} {meant : Option A} where
    -- where a part is refused, so is the whole
    pub refused : {whole : Option B} {f : MeaningFault} → Added view IsThere IsFault old mid meant (Err f) → (IsFault meant f → IsFaultOf whole f) → Added view_of IsIn IsFaultOf old mid whole (Err f)
    refused h more = record { there = tt; meaning = tt; fault = more h.fault; grown = h.grown; funcs = h.funcs }

    -- behind a part
    pub behind : {new : Types} {whole : Option B} {first : Result D MeaningFault} {r : Result E MeaningFault} → Added view IsThere IsFault old mid meant first → Added view_of IsIn IsFaultOf mid new whole r → Added view_of IsIn IsFaultOf old new whole r
    behind {new} a b = record { there = b.there; meaning = b.meaning; fault = b.fault; grown = extends_more (types_of old) (types_of mid) (types_of new) a.grown b.grown; funcs = b.funcs ∙ a.funcs }

-- what a part was made into, where nothing more is added
pub made_into : {A B D E : Type 0} {view : List Ty → D → A} {IsThere : ℕ → D → Type 0} {IsFault : Option A → MeaningFault → Type 0} {old new : Types} {meant : Option A} {d : D} (view_of : List Ty → E → B) (IsIn : ℕ → E → Type 0) (IsFaultOf : Option B → MeaningFault → Type 0) (make : A → B) (e : E) → Added view IsThere IsFault old new meant (Ok d) → IsIn (length (types_of new)) e → make (view (types_of new) d) ≡ view_of (types_of new) e → Added view_of IsIn IsFaultOf old new (option_map make meant) (Ok e)
made_into view_of IsIn IsFaultOf make e h there same = record { there = there; meaning = ap (option_map make) h.meaning ∙ ap Some same; fault = tt; grown = h.grown; funcs = h.funcs }

-- ---- types

-- what adding a type of this kind says
pub type_added : (old new : Types) (t : Ty) (r : Result ℕ MeaningFault) → IfOk r (λ p. is_place (length (types_of new)) p) → IfOk r (λ p. type_at (types_of new) p ≡ t) → IfErr r (IsTypeFault (Some t)) → Extends (types_of old) (types_of new) → funcs_of new ≡ funcs_of old → AddedType old new (Some t) r
type_added old new t (Ok p) there ty fault grown funcs = record { there = there; meaning = ap Some (sym ty); fault = fault; grown = grown; funcs = funcs }
type_added old new t (Err f) there ty fault grown funcs = record { there = there; meaning = tt; fault = fault; grown = grown; funcs = funcs }

-- a type that is made of a part
pub made : {A D : Type 0} {view : List Ty → D → A} {IsThere : ℕ → D → Type 0} {IsFault : Option A → MeaningFault → Type 0} {old mid new : Types} {meant : Option A} {d : D} {r : Result ℕ MeaningFault} (make : A → Ty) → Added view IsThere IsFault old mid meant (Ok d) → AddedType mid new (Some (make (view (types_of mid) d))) r → AddedType old new (option_map make meant) r
made make a b = meant_so (ap (option_map make) a.meaning) (behind a b)

-- ---- names of types

pub place_named : {old new : Types} {meant : Option Ty} (r : Result ℕ MeaningFault) → AddedType old new meant r → AddedDef old new (option_map value meant) (named_place r)
place_named (Ok p) h = record { there = h.there; meaning = ap (option_map value) h.meaning; fault = tt; grown = h.grown; funcs = h.funcs }
place_named {meant = meant} (Err f) h = record { there = tt; meaning = tt; fault = mapped_fault value (λ m. IsWithinLimits (as_type m)) (λ m. is_spellable (as_type m)) meant f h.fault; grown = h.grown; funcs = h.funcs }

-- ---- what is added is within the limits

pub def_within : (types : Types) (r : Result code.Meaning MeaningFault) → IfOk r (IsPlaced (length (types_of types))) → IfOk r (λ m. IsWithinLimits (as_type (meaning_in (types_of types) m)))
def_within types (Ok (meant.Value p)) h = arena_within types.entries.items types.arena p h
def_within types (Ok (meant.Resource r)) h = (omega arith, omega arith)
def_within types (Err f) h = tt
