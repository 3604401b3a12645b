-- A request that comes is one to an allocator.
use Rattle.std.proofs.Common.{◌≡◌, ℕ, suc, ◌-◌, ◌<◌, Bool, true, false, List, [], ◌∷◌, length, Option, Some, None, refl, sym, ap, subst, ◌∙◌, arith}
use Rattle.std.specs.Prelude.{◌↔◌, IfSome, if◌then◌else◌, is_some, option_map, slice_get}
use Rattle.std.proofs.lemmas.Option.{none-some, slice_get_within}
use Rattle.cm_types.specs.declared.core_value.CoreValue.{CoreValue}
use Rattle.cm_types.specs.Types.{Fields}
use Rattle.cm_types.specs.Values.{HasType, Val}
use Rattle.cm_layout.specs.Sizes.{align_of, size_of}
use Rattle.cm_abi_model.specs.Answered.{last_answer, next_of, with_old}
use Rattle.cm_abi_model.specs.Parts.{Part, element_part, parts_in}
use Rattle.cm_abi_model.specs.Requests.{call_parts, is_spilled, part_requests, requests, tuple_of}
use Rattle.cm_abi_model.specs.RecordRequests.{tags_of}
use Rattle.cm_abi_model.specs.Views.{Way, params, results}
use Rattle.cm_abi_model.specs.declared.encoding.StringEncoding.{StringEncoding}
use Rattle.cm_abi_model.specs.declared.request.Request.{Request}
use Rattle.cm_machine_model.specs.Passages.{asked_for}
use Rattle.cm_machine_model.specs.Plan.{Link, Plan, giver_side, receiver_side, types_of}
use Rattle.cm_machine_model.specs.Plans.{IsLink}
use Rattle.cm_machine_model.specs.State.{Passage, State}
use Rattle.cm_machine_model.specs.Step.{Asks}
use Rattle.cm_machine_parts.specs.Rows.{event_of}
use Rattle.cm_machine_parts.specs.declared.outcome.Outcome.{Outcome}
use Rattle.cm_machine_parts.specs.declared.outcome.Outcome.TheVariants as outcome

-- nothing is asked for exactly where a call passes no part
abbrev pub NoneAsked : Type 0
NoneAsked = (way : Way) (types : Fields) (v : Val) (source target : StringEncoding) (tags : List Bool)
    → requests way types v source target tags ≡ [] ↔ call_parts way types v ≡ []

no_request : (rs : List Request) (n : ℕ) (r : Request) → rs ≡ [] → slice_get rs n ≡ Some r → ⊥
no_request rs n r none is = omega (arith, slice_get_within rs n r is, ap (λ (x : List Request). length x) none)

-- a tuple alone asks once
tuple_alone : (source target : StringEncoding) (tags : List Bool) (b : Bool) (ps : List Part) (s a n : ℕ) (r : Request) → b ≡ true → ps ≡ []
    → slice_get (part_requests source target tags (if b then element_part 1 s a ∷ ps else ps)) (suc n) ≡ Some r → ⊥
tuple_alone source target tags false ps s a n r spilled none is = absurd (cc)
tuple_alone source target tags true (p ∷ ps) s a n r spilled none is = absurd (cc)
tuple_alone source target tags true [] s a n r spilled none is =
    let lt : suc n < 1 = slice_get_within (part_requests source target tags (element_part 1 s a ∷ [])) (suc n) r is in
    omega (arith, lt)

more_parts : (b : Bool) (p : Part) (ps : List Part) → b ≡ true → (ps ≡ [] → ⊥) → 1 < length (if b then p ∷ ps else ps)
more_parts false p ps spilled some = absurd (cc)
more_parts true p [] spilled some = absurd (some refl)
more_parts true p (q ∷ ps) spilled some = omega arith

module _ (none : NoneAsked) (plan : Plan) (i : ℕ) (l : Link) (v : Val) (p : Passage) (answers : List ℕ) (r : Request) (link : IsLink plan i l) where
  by_spill : (b : Bool) → is_spilled results (types_of l results) ≡ b → HasType (tuple_of (types_of l results)) v → (is_spilled results (types_of l results) ≡ true → 0 < length answers)
      → slice_get (asked_for l results p v) (length answers) ≡ Some r → is_some l.caller.realloc ≡ true
  by_spill false spilled typed placed next =
      link.allocators.2 v typed spilled (λ nothing. no_request (asked_for l results p v) (length answers) r
      ((none results (types_of l results) v (giver_side l results).encoding (receiver_side l results).encoding (tags_of p.records)).1 nothing) next)
  by_spill true spilled typed placed next =
      let types = types_of l results in
      let at : slice_get (asked_for l results p v) (suc (length answers - 1)) ≡ Some r =
      subst (λ (n : ℕ). slice_get (asked_for l results p v) n ≡ Some r) (omega (arith, placed spilled)) next in
      link.allocators.1 v typed (more_parts (is_spilled results types) (element_part 1 (size_of (tuple_of types)) (align_of (tuple_of types))) (parts_in (tuple_of types) v) spilled
      (λ nothing. tuple_alone (giver_side l results).encoding (receiver_side l results).encoding (tags_of p.records) (is_spilled results types) (parts_in (tuple_of types) v)
      (size_of (tuple_of types)) (align_of (tuple_of types)) (length answers - 1) r spilled nothing at))

  pub allocator_there : (way : Way) → HasType (tuple_of (types_of l way)) v → (way ≡ results → is_spilled results (types_of l results) ≡ true → 0 < length answers)
      → slice_get (asked_for l way p v) (length answers) ≡ Some r → is_some (receiver_side l way).realloc ≡ true
  allocator_there params typed placed next =
      link.allocators.0 v typed (λ nothing. no_request (asked_for l params p v) (length answers) r
      ((none params (types_of l params) v (giver_side l params).encoding (receiver_side l params).encoding (tags_of p.records)).1 nothing) next)
  allocator_there results typed placed next = by_spill (is_spilled results (types_of l results)) refl typed (placed refl) next

-- ---- what is asked

pub record IsNext (rs : List Request) (answers : List ℕ) (x : Request × ℕ) : Type 0 where
  pub there : slice_get rs (length answers) ≡ Some x.0
  pub old : x.1 ≡ (if x.0.chained then last_answer answers else 0)

next_by : (answers : List ℕ) (o : Option Request) (x : Request × ℕ) → Some x ≡ option_map (with_old answers) o → (o ≡ Some x.0) × (x.1 ≡ (if x.0.chained then last_answer answers else 0))
next_by answers None x is = absurd (none-some x (sym is))
next_by answers (Some r) x is =
    let same : x ≡ with_old answers r = cc in
    (ap (λ (y : Request × ℕ). Some y.0) (sym same), ap (λ (y : Request × ℕ). y.1) same ∙ ap (λ (y : Request × ℕ). (if y.0.chained then last_answer answers else 0)) (sym same))

pub next_there : (rs : List Request) (answers : List ℕ) (x : Request × ℕ) → Some x ≡ next_of rs answers → IsNext rs answers x
next_there rs answers x is =
    let both = next_by answers (slice_get rs (length answers)) x is in
    record { there = both.0; old = both.1 }

pub asks_is : (o : Option ℕ) (i : ℕ) (args values : List CoreValue) (s : State) (out : Outcome) → is_some o ≡ true → IfSome o (λ f. out ≡ outcome.Realloc i f) → values ≡ args
    → Asks o i args s (event_of out values) s
asks_is None i args values s out some is same = absurd (cc)
asks_is (Some f) i args values s out some is same = (ap (λ (x : Outcome). event_of x values) is ∙ ap (λ (x : List CoreValue). event_of (outcome.Realloc i f) x) same, refl)

none_by : (answers : List ℕ) (o : Option Request) → None ≡ option_map (with_old answers) o → o ≡ None
none_by answers None is = refl
none_by answers (Some r) is = absurd (none-some (with_old answers r) is)

pub none_there : (rs : List Request) (answers : List ℕ) → None ≡ next_of rs answers → slice_get rs (length answers) ≡ None
none_there rs answers is = none_by answers (slice_get rs (length answers)) is

pub asked_by : (n o : Option ℕ) (i : ℕ) (out : Outcome) → n ≡ o → IfSome n (λ f. out ≡ outcome.Realloc i f) → IfSome o (λ f. out ≡ outcome.Realloc i f)
asked_by n o i out is asked = subst (λ (x : Option ℕ). IfSome x (λ f. out ≡ outcome.Realloc i f)) is asked
