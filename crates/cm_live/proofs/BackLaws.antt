-- The regions that are told of a result cover those of its parts and the place that the caller gave.
use Rattle.std.proofs.Common.{◌≡◌, ◌*◌, ◌⊎◌, inl, inr, ℕ, Bool, true, false, List, [], ◌∷◌, ◌++◌}
use Rattle.std.proofs.Common.{length, Option, Some, None, refl, sym, ap, subst, ◌∙◌, arith}
use Rattle.std.specs.Prelude.{if◌then◌else◌, slice_index}
use Rattle.cm_types.specs.declared.core_value.CoreValue.{CoreValue}
use Rattle.cm_types.specs.declared.core_value.CoreValue.TheVariants as core_value
use Rattle.cm_types.specs.Types.{Fields}
use Rattle.cm_types.specs.Values.{Val}
use Rattle.cm_layout.specs.Sizes.{align_of, size_of}
use Rattle.cm_abi_model.specs.Answering.{begins_part, regions_of}
use Rattle.cm_abi_model.specs.Overlap.{IsInOne}
use Rattle.cm_abi_model.specs.Parts.{Part, element_part, parts_in}
use Rattle.cm_abi_model.specs.Regions.{IsIn}
use Rattle.cm_abi_model.specs.Requests.{is_spilled, part_requests, tuple_of}
use Rattle.cm_abi_model.specs.Taken.{tags_of}
use Rattle.cm_abi_model.specs.Views.{results}
use Rattle.cm_abi_model.specs.declared.encoding.StringEncoding.{StringEncoding}
use Rattle.cm_abi_model.specs.declared.region.Region.{Region}
use Rattle.cm_abi_model.specs.declared.request.Request.{Request}
use Rattle.cm_machine.specs.cm_machine_model.Memories.{memory_at}
use Rattle.cm_machine.specs.cm_machine_model.Plan.{types_of}
use Rattle.cm_machine.specs.cm_machine_model.State.{State}
use Rattle.cm_machine.specs.cm_machine_laws.Causes.{HaveKinds, one_number}
use Rattle.cm_machine.specs.cm_machine_laws.Doing.{Asked, BodyReturn, LoweredCall, with_answer}
use Rattle.cm_machine.specs.cm_machine_laws.Entries.{answered_by}
use Rattle.cm_machine.specs.cm_machine_laws.MemoryChanges.{HandsResult}
use Rattle.cm_machine.specs.cm_machine_laws.Told.{AsksFor, WasReturned, answered_before}
use Rattle.cm_machine.specs.cm_machine_laws.Told.{answers_back, answers_in, met_at_return}
use Rattle.cm_machine.specs.cm_machine_laws.Told.{result_place_of, returned_requests, returner_view}
use Rattle.cm_live.specs.Rooms.{rooms_of, with_place}
use Rattle.cm_live.specs.Told.{result_of}
use Rattle.cm_live.proofs.CallsLaws.{region_by}
use Rattle.cm_live.proofs.RoomLaws.{AreChained, OneValue, cover_whole, like_behind, like_first}
use Rattle.cm_live.proofs.RoomLaws.{old_at, old_parts}
use Rattle.cm_live.proofs.ShapeLaws.{IsI32, first_kind}
use Rattle.cm_types.specs.declared.core_value.CoreKind.TheVariants as kind

-- ---- requests for a result, and their regions

-- the parts of a result, where it goes by memory or not
abbrev parts_by : Bool → Fields → Val → List Part
parts_by b types v =
    if b then element_part 1 (size_of (tuple_of types)) (align_of (tuple_of types))
    ∷ parts_in (tuple_of types) v else parts_in (tuple_of types) v

-- the answer that came with the call, where it does
abbrev before_by : Bool → ℕ → List ℕ
before_by b at = if b then at ∷ [] else []

-- and the place
abbrev place_where : Bool → ℕ → Fields → Option Region
place_where b at types = if b then Some (region_by at (size_of (tuple_of types))) else None

parts_chained : (source target : StringEncoding) (tags : List Bool) (parts : List Part)
    → AreChained (part_requests source target tags parts)
parts_chained source target tags parts =
    old_at (part_requests source target tags parts) (old_parts source target tags parts)

in_first : (b : Bool) (x : Region) (xs : List Region) (a : ℕ)
    → IsInOne (if b then x ∷ xs else xs) a → IsIn x.at x.size a ⊎ IsInOne xs a
in_first true x xs a i = i
in_first false x xs a i = inr i

none_in : (rs : List Request) (a : ℕ) → IsInOne (regions_of rs []) a → ⊥
none_in [] a i = i
none_in (r ∷ rs) a i = i

one_times : (at size a : ℕ) → IsIn at (1 * size) a → IsIn at size a
one_times at size a i = subst (λ (n : ℕ). IsIn at n a) (omega arith) i

-- ---- where it was asked for

abbrev BackCovered : Bool → StringEncoding → StringEncoding → List Bool → Fields → Val → ℕ
    → List Asked → Type 0
BackCovered b source target tags types v at asked =
    AsksFor (part_requests source target tags (parts_by b types v)) (before_by b at) asked
    → length (before_by b at ++ answers_in asked)
    ≡ length (part_requests source target tags (parts_by b types v))
    → (a : ℕ)
    → IsInOne (regions_of (part_requests source target tags (parts_by b types v))
    (before_by b at ++ answers_in asked)) a
    → IsInOne (with_place (place_where b at types) (rooms_of asked)) a

back_covered : (b : Bool) (source target : StringEncoding) (tags : List Bool) (types : Fields)
    (v : Val) (at : ℕ) (asked : List Asked) → BackCovered b source target tags types v at asked
back_covered false source target tags types v at asked h all a i =
    let parts = parts_in (tuple_of types) v in
    let rs = part_requests source target tags parts in
    cover_whole rs asked (parts_chained source target tags parts) (like_first rs asked h) all a i
back_covered true source target tags types v at asked h all a i =
    let parts = parts_in (tuple_of types) v in
    let rest = part_requests source target tags parts in
    let size = size_of (tuple_of types) in
    let q : Request = record {
      chained = false;
      old_size = 0;
      align = align_of (tuple_of types);
      size = 1 * size;
    } in
    let few : length (answers_in asked) ≡ length rest = omega (arith, all) in
    elim (in_first (begins_part rest) (region_by at (1 * size)) (regions_of rest (answers_in asked))
    a i) [
      | inl w ↦ inl (one_times at size a w)
      | inr w ↦ inr (cover_whole rest asked (parts_chained source target tags parts)
          (like_behind q rest at asked h) few a w)
    ]

-- ---- where no allocator was asked

abbrev BodyCovered : Bool → StringEncoding → StringEncoding → List Bool → Fields → Val → ℕ → Type 0
BodyCovered b source target tags types v at = (a : ℕ)
    → IsInOne (regions_of (part_requests source target tags (parts_by b types v))
    (before_by b at ++ [])) a
    → IsInOne (with_place (place_where b at types) []) a

body_covered : (b : Bool) (source target : StringEncoding) (tags : List Bool) (types : Fields)
    (v : Val) (at : ℕ) → BodyCovered b source target tags types v at
body_covered false source target tags types v at a i =
    none_in (part_requests source target tags (parts_in (tuple_of types) v)) a i
body_covered true source target tags types v at a i =
    let rest = part_requests source target tags (parts_in (tuple_of types) v) in
    let size = size_of (tuple_of types) in
    elim (in_first (begins_part rest) (region_by at (1 * size)) (regions_of rest []) a i) [
      | inl w ↦ inl (one_times at size a w)
      | inr w ↦ absurd (none_in rest a w)
    ]

-- ---- nothing changes outside of them

-- by a return that hands a result over at once
pub body_inside : (x : LoweredCall) (r : BodyReturn) (old new : State) → HandsResult old x r [] new
    → (a : ℕ) → (IsInOne (with_place (result_of x) []) a → ⊥)
    → slice_index (memory_at new.memories x.caller) a
    ≡ slice_index (memory_at old.memories x.caller) a
body_inside x r old new h a out =
    h.inside.outside a
    (λ i. out (body_covered (is_spilled results (types_of x.link results)) x.link.callee.encoding
    x.link.caller.encoding (tags_of (met_at_return x r h.v)) (types_of x.link results) h.v
    (result_place_of x) a i))

-- all was asked for a result, and answered
abbrev pub IsAllAsked : LoweredCall → BodyReturn → List Asked → Type 0
IsAllAsked x r more = (v : Val) × WasReturned x r v
    × AsksFor (returned_requests x r v) (answered_before x) more
    × (length (answers_back x more) ≡ length (returned_requests x r v))

-- by the last answer for a result
pub back_inside : (x : LoweredCall) (r : BodyReturn) (more : List Asked) (old new : State)
    → OneValue → HandsResult old x r more new → IsAllAsked x r more
    → (a : ℕ) → (IsInOne (with_place (result_of x) (rooms_of more)) a → ⊥)
    → slice_index (memory_at new.memories x.caller) a
    ≡ slice_index (memory_at old.memories x.caller) a
back_inside x r more old new one h k a out =
    let v : k.0 ≡ h.v =
    one (returner_view x r) results (types_of x.link results) r.values k.0 h.v k.1.denoted
    h.returned.denoted in
    let asks : AsksFor (returned_requests x r h.v) (answered_before x) more =
    subst (λ (y : Val). AsksFor (returned_requests x r y) (answered_before x) more) v k.2 in
    let all : length (answers_back x more) ≡ length (returned_requests x r h.v) =
    k.3 ∙ ap (λ (y : Val). length (returned_requests x r y)) v in
    h.inside.outside a
    (λ i. out (back_covered (is_spilled results (types_of x.link results)) x.link.callee.encoding
    x.link.caller.encoding (tags_of (met_at_return x r h.v)) (types_of x.link results) h.v
    (result_place_of x) more asks all a i))

-- ---- the last answer

not_I32 : (n : ℕ) (cs : List CoreValue) → HaveKinds one_number (core_value.I64 n ∷ cs) → ⊥
not_I32 n cs h = subst IsI32 (sym (ap (first_kind kind.I32) h)) tt

pub same_answer : (values : List CoreValue) (more : List Asked) → HaveKinds one_number values
    → with_answer values more ≡ answered_by values more
same_answer values [] h = refl
same_answer [] (a ∷ earlier) h = absurd (omega (arith, ap length h))
same_answer (core_value.I32 n ∷ []) (a ∷ earlier) h = refl
same_answer (core_value.I32 n ∷ c ∷ cs) (a ∷ earlier) h = absurd (omega (arith, ap length h))
same_answer (core_value.I64 n ∷ cs) (a ∷ earlier) h = absurd (not_I32 n cs h)

-- what was asked does not change by the last answer
pub asks_answered : (rs : List Request) (before : List ℕ) (values : List CoreValue)
    (more : List Asked) → AsksFor rs before more → AsksFor rs before (answered_by values more)
asks_answered rs before values [] h = h
asks_answered rs before values (a ∷ earlier) h = h
