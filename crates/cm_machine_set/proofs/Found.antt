-- What is found among the links of a set that stands for a plan.
use Rattle.std.proofs.Common.{◌≡◌, ℕ, List, [], ◌∷◌, Option, Some, None, refl, sym, ap, subst, ◌∙◌}
use Rattle.std.proofs.lemmas.Option.{none-some, same_Some}
use Rattle.cm_types.specs.declared.resource.ResourceId.{ResourceId}
use Rattle.cm_machine_model.specs.declared.frame.Call.{Call}
use Rattle.cm_machine_model.specs.declared.frame.Frame.{Frame}
use Rattle.cm_machine_model.specs.declared.frame.Purpose.{Purpose}
use Rattle.cm_machine_model.specs.declared.frame.Purpose.TheVariants as purpose
use Rattle.cm_machine_model.specs.Plan.{CoreFunc, Link, Plan, Reaches, drops, guest, lowered, makes, represents}
use Rattle.cm_machine_model.specs.Stack.{top_of}
use Rattle.cm_machine_model.specs.Valid.{IsStack, StandsOn}
use Rattle.cm_machine_links.specs.declared.core_funcs.CoreFunc.{CoreFunc as CodedFunc}
use Rattle.cm_machine_links.specs.declared.core_funcs.CoreFunc.TheVariants as core_func
use Rattle.cm_machine_parts.specs.declared.link.Link.{Link as CodedLink}
use Rattle.cm_machine_links.specs.Planned.{IsFound}
use Rattle.cm_machine_parts.specs.Links.{IsLinkOf}

-- ---- by what was found

pub found_none : (o : Option CoreFunc) → IsFound o None → o ≡ None
found_none None h = refl
found_none (Some c) h = absurd h

pub found_guest : (o : Option CoreFunc) → IsFound o (Some core_func.Guest) → o ≡ Some guest
found_guest None h = absurd h
found_guest (Some guest) h = refl
found_guest (Some (lowered l)) h = absurd h
found_guest (Some (makes r)) h = absurd h
found_guest (Some (drops r d)) h = absurd h
found_guest (Some (represents r)) h = absurd h

pub found_lowered : (o : Option CoreFunc) (k : CodedLink) → IsFound o (Some (core_func.Lowered k)) → (l : Link) × (o ≡ Some (lowered l)) × IsLinkOf l k
found_lowered None k h = absurd h
found_lowered (Some guest) k h = absurd h
found_lowered (Some (lowered l)) k h = (l, refl, h)
found_lowered (Some (makes r)) k h = absurd h
found_lowered (Some (drops r d)) k h = absurd h
found_lowered (Some (represents r)) k h = absurd h

pub found_makes : (o : Option CoreFunc) (q : ResourceId) → IsFound o (Some (core_func.Makes q)) → o ≡ Some (makes q)
found_makes None q h = absurd h
found_makes (Some guest) q h = absurd h
found_makes (Some (lowered l)) q h = absurd h
found_makes (Some (makes r)) q h = ap (λ (x : ResourceId). Some (makes x)) (sym h)
found_makes (Some (drops r d)) q h = absurd h
found_makes (Some (represents r)) q h = absurd h

pub found_drops : (o : Option CoreFunc) (q : ResourceId) (e : Option ℕ) → IsFound o (Some (core_func.Drops q e)) → o ≡ Some (drops q e)
found_drops None q e h = absurd h
found_drops (Some guest) q e h = absurd h
found_drops (Some (lowered l)) q e h = absurd h
found_drops (Some (makes r)) q e h = absurd h
found_drops (Some (drops r d)) q e h = ap (λ (x : ResourceId). Some (drops x d)) (sym h.0) ∙ ap (λ (x : Option ℕ). Some (drops q x)) (sym h.1)
found_drops (Some (represents r)) q e h = absurd h

pub found_represents : (o : Option CoreFunc) (q : ResourceId) → IsFound o (Some (core_func.Represents q)) → o ≡ Some (represents q)
found_represents None q h = absurd h
found_represents (Some guest) q h = absurd h
found_represents (Some (lowered l)) q h = absurd h
found_represents (Some (makes r)) q h = absurd h
found_represents (Some (drops r d)) q h = absurd h
found_represents (Some (represents r)) q h = ap (λ (x : ResourceId). Some (represents x)) (sym h)

-- ---- by what stands in the plan

linked_by : (l : Link) (f : CodedFunc) → IsFound (Some (lowered l)) (Some f) → (k : CodedLink) × (f ≡ core_func.Lowered k) × IsLinkOf l k
linked_by l core_func.Guest h = absurd h
linked_by l (core_func.Lowered k) h = (k, refl, h)
linked_by l (core_func.Makes q) h = absurd h
linked_by l (core_func.Drops q e) h = absurd h
linked_by l (core_func.Represents q) h = absurd h

found_link : (l : Link) (r : Option CodedFunc) → IsFound (Some (lowered l)) r → (k : CodedLink) × (r ≡ Some (core_func.Lowered k)) × IsLinkOf l k
found_link l None h = absurd h
found_link l (Some f) h = let k = linked_by l f h in (k.0, ap Some k.1, k.2)

pub is_linked : (o : Option CoreFunc) (l : Link) (r : Option CodedFunc) → o ≡ Some (lowered l) → IsFound o r → (k : CodedLink) × (r ≡ Some (core_func.Lowered k)) × IsLinkOf l k
is_linked o l r is h = found_link l r (subst (λ (x : Option CoreFunc). IsFound x r) is h)

-- ---- the call on top

stands_call : (plan : Plan) (p : Purpose) (instance : ℕ) (below : List Frame) (call : Call) → p ≡ purpose.Call call → StandsOn plan p instance below → (l : Link) × Reaches plan call.caller call.func l
stands_call plan purpose.Root instance below call e h = absurd (cc (e))
stands_call plan (purpose.Call c) instance below call e h =
    let same : c ≡ call = cc (e) in
    (h.0.0, subst (λ (x : Call). Reaches plan x.caller x.func h.0.0) same h.0.1)
stands_call plan (purpose.Destructor dropper) instance below call e h = absurd (cc (e))

pub call_reaches : (plan : Plan) (fs : List Frame) (top : Frame) (call : Call) → IsStack plan fs → top_of fs ≡ Some top → top.purpose ≡ purpose.Call call → (l : Link) × Reaches plan call.caller call.func l
call_reaches plan [] top call stack is e = absurd (none-some top is)
call_reaches plan (f ∷ fs) top call stack is e =
    stands_call plan f.purpose f.instance fs call (ap (λ (g : Frame). g.purpose) (same_Some f top is) ∙ e) stack.1
