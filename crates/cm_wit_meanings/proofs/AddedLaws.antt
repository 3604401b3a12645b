-- What comes of adding types, one after another.
use Rattle.std.proofs.Common.{◌≡◌, ℕ, List, length, Option, Some, None, IfOk, refl, sym, ap, subst, ◌∙◌, Result, Ok, Err}
use Rattle.std.specs.Option.{option_map}
use Rattle.cm_types.specs.Types.{Ty}
use Rattle.cm_types.specs.Limits.{IsWithinLimits}
use Rattle.cm_types_arena.specs.Places.{types_of}
use Rattle.cm_types_arena.specs.TypeDefs.{IsBelow, type_at}
use Rattle.cm_types_arena.specs.declared.types.Types.{Types}
use Rattle.cm_wit_meanings.specs.declared.fault.MeaningFault.{MeaningFault}
use Rattle.cm_wit_meanings.specs.Added.{Added, AddedPayload, AddedType, is_place, payload_at}
use Rattle.cm_wit_meanings.specs.Meanings.{result_of}
use Rattle.cm_wit_meanings.specs.Places.{Extends}
use Rattle.cm_wit_meanings.proofs.FaultLaws.{both_of}
use Rattle.cm_wit_meanings.proofs.GrowthLaws.{arena_within, extends_length, extends_more, extends_same, place_kept}
use Rattle.cm_types_arena.proofs.PlaceLaws.{option_more}

-- what is there already
pub stands : {A D : Type 0} (view : List Ty → D → A) (IsThere : ℕ → D → Type 0) (IsFault : Option A → MeaningFault → Type 0) (types : Types) (meant : Option A) (d : D) → IsThere (length (types_of types)) d → meant ≡ Some (view (types_of types) d) → Added view IsThere IsFault types types meant (Ok d)
stands view IsThere IsFault types meant d there means = record { there = there; meaning = means; fault = tt; grown = extends_same (types_of types) (types_of types) refl; funcs = refl }

-- what nothing is added for
pub refused_first : {A D : Type 0} (view : List Ty → D → A) (IsThere : ℕ → D → Type 0) (IsFault : Option A → MeaningFault → Type 0) (types : Types) (meant : Option A) (f : MeaningFault) → IsFault meant f → Added view IsThere IsFault types types meant (Err f)
refused_first view IsThere IsFault types meant f why = record { there = tt; meaning = tt; fault = why; grown = extends_same (types_of types) (types_of types) refl; funcs = refl }

module _ {A D : Type 0} {view : List Ty → D → A} {IsThere : ℕ → D → Type 0} {IsFault : Option A → MeaningFault → Type 0} where
  -- by another name
  pub meant_so : {old new : Types} {whole meant : Option A} {r : Result D MeaningFault} → whole ≡ meant → Added view IsThere IsFault old new meant r → Added view IsThere IsFault old new whole r
  meant_so {old} {new} {whole} {meant} {r} e h = subst (λ (o : Option A). Added view IsThere IsFault old new o r) (sym e) h

  -- the same answer
  pub answers_so : {old new : Types} {meant : Option A} {r q : Result D MeaningFault} → r ≡ q → Added view IsThere IsFault old new meant q → Added view IsThere IsFault old new meant r
  answers_so {old} {new} {meant} {r} {q} e h = subst (λ (x : Result D MeaningFault). Added view IsThere IsFault old new meant x) (sym e) h

  module _ {B E : Type 0} {view_of : List Ty → E → B} {IsIn : ℕ → E → Type 0} {IsFaultOf : Option B → MeaningFault → Type 0} {old mid : Types} {meant : Option A} where
    -- where a part is refused, so is the whole
    pub refused : {whole : Option B} {f : MeaningFault} → Added view IsThere IsFault old mid meant (Err f) → (IsFault meant f → IsFaultOf whole f) → Added view_of IsIn IsFaultOf old mid whole (Err f)
    refused h more = record { there = tt; meaning = tt; fault = more h.fault; grown = h.grown; funcs = h.funcs }

    -- behind a part
    pub behind : {new : Types} {whole : Option B} {first : Result D MeaningFault} {r : Result E MeaningFault} → Added view IsThere IsFault old mid meant first → Added view_of IsIn IsFaultOf mid new whole r → Added view_of IsIn IsFaultOf old new whole r
    behind {new} a b = record { there = b.there; meaning = b.meaning; fault = b.fault; grown = extends_more (types_of old) (types_of mid) (types_of new) a.grown b.grown; funcs = b.funcs ∙ a.funcs }

-- a type that is made of a part
pub made : {A D : Type 0} {view : List Ty → D → A} {IsThere : ℕ → D → Type 0} {IsFault : Option A → MeaningFault → Type 0} {old mid new : Types} {meant : Option A} {d : D} {r : Result ℕ MeaningFault} (make : A → Ty) → Added view IsThere IsFault old mid meant (Ok d) → AddedType mid new (Some (make (view (types_of mid) d))) r → AddedType old new (option_map make meant) r
made make a b = meant_so (ap (option_map make) a.meaning) (behind a b)

-- ---- payloads

payload_kept : (old new : List Ty) (p : Option ℕ) → Extends old new → IsBelow (length old) p → payload_at new p ≡ payload_at old p
payload_kept old new None e h = refl
payload_kept old new (Some p) e h = ap Some (place_kept old new p e h)

pub payload_added : {old new : Types} {meant : Option Ty} {p : ℕ} → AddedType old new meant (Ok p) → AddedPayload old new (option_map Some meant) (Ok (Some p))
payload_added a = record { there = a.there; meaning = ap (option_map Some) a.meaning; fault = tt; grown = a.grown; funcs = a.funcs }

pub still_there : {old new : Types} {meant : Option (Option Ty)} {r : Result (Option ℕ) MeaningFault} (p : Option ℕ) → AddedPayload old new meant r → IsBelow (length (types_of old)) p → IsBelow (length (types_of new)) p
still_there {old} {new} p h there = option_more (length (types_of old)) (length (types_of new)) p (extends_length (types_of old) (types_of new) h.grown) there

both_told : (a b : Option (Option Ty)) (x y : Option Ty) → a ≡ Some x → b ≡ Some y → both_of a b ≡ Some (result_of x y)
both_told a b x y e q = rw (e, q) refl

-- a result whose payloads were added
pub both_made : {old mid last new : Types} {ok error : Option (Option Ty)} {x y : Option ℕ} {r : Result ℕ MeaningFault} → AddedPayload old mid ok (Ok x) → AddedPayload mid last error (Ok y) → AddedType last new (Some (result_of (payload_at (types_of last) x) (payload_at (types_of last) y))) r → AddedType old new (both_of ok error) r
both_made {old} {mid} {last} {new} {ok} {error} {x} {y} a b h =
    let kept : payload_at (types_of last) x ≡ payload_at (types_of mid) x = payload_kept (types_of mid) (types_of last) x b.grown a.there in
    meant_so (both_told ok error (payload_at (types_of last) x) (payload_at (types_of last) y) (a.meaning ∙ ap Some (sym kept)) b.meaning) (behind a (behind b h))

-- ---- the types of an arena are within the limits

pub all_within : (types : Types) (r : Result ℕ MeaningFault) → IfOk r (is_place (length (types_of types))) → IfOk r (λ p. IsWithinLimits (type_at (types_of types) p))
all_within types (Ok p) h = arena_within types.entries.items types.arena p h
all_within types (Err f) h = tt

-- ---- what an answer stands for

pub type_told : (t : Ty) (types : List Ty) (r : Result ℕ MeaningFault) → IfOk r (λ p. Some t ≡ Some (type_at types p)) → IfOk r (λ p. type_at types p ≡ t)
type_told t types (Ok p) h = cc
type_told t types (Err f) h = tt
