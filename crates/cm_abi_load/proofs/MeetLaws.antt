-- What is met, one after another.
use Rattle.std.proofs.Common.{◌≡◌, ℕ, ◌-◌, ◌≤◌, List, [], ◌∷◌, ◌++◌, map, Some, refl, sym, ap, ◌∙◌, arith}
use Rattle.std.proofs.lemmas.List.{append-nil, append_assoc, map-append}
use Rattle.cm_handles.specs.Handles.{Handles, handle_at}
use Rattle.cm_handles.specs.declared.handle.Handle.{Handle}
use Rattle.cm_handles.specs.declared.handle.HandleKind.TheVariants.{Owned}
use Rattle.cm_types.specs.declared.resource.ResourceId.{ResourceId}
use Rattle.cm_layout.specs.declared.layouts.HandleType.TheVariants as handle_type
use Rattle.cm_abi_model.specs.Taken.{Met, text_content, content, taken, lent, tags_of, met_text}
use Rattle.cm_abi_load.specs.declared.progress.MetHandle.{MetHandle}
use Rattle.cm_abi_load.specs.Meeting.{AreAsWanted, Meets, handles_in, met_as}
use Rattle.cm_abi_load.specs.Outcomes.{State}
use Rattle.cm_abi_load.specs.Reading.{after_meeting, after_text}
use Rattle.cm_abi_model.specs.declared.encoding.StringEncoding.{StringEncoding}
use Rattle.cm_abi_model.specs.Texts.{tag_of, text_size}
use Rattle.cm_abi_model.proofs.TakenLemmas.{content_both, tags_both}

pub handles_both : (xs ys : List Met) → handles_in (xs ++ ys) ≡ handles_in xs ++ handles_in ys
handles_both [] ys = refl
handles_both (text_content tags n ∷ xs) ys = handles_both xs ys
handles_both (content n ∷ xs) ys = handles_both xs ys
handles_both (taken i ∷ xs) ys = ap (λ zs. taken i ∷ zs) (handles_both xs ys)
handles_both (lent i ∷ xs) ys = ap (λ zs. lent i ∷ zs) (handles_both xs ys)

wanted_both : (t : Handles) (xs ys : List MetHandle) → AreAsWanted t xs → AreAsWanted t ys → AreAsWanted t (xs ++ ys)
wanted_both t [] ys a b = b
wanted_both t (x ∷ xs) ys a b = (a.0, wanted_both t xs ys a.1 b)

pub meets_none : (t : Handles) (s : State) → Meets t s s []
meets_none t s = record { counted = omega arith; tagged = sym (append-nil s.tags); found = []; handles = sym (append-nil s.handles); same = refl; wanted = tt }

pub meets_both : (t : Handles) (s a b : State) (xs ys : List Met) → Meets t s a xs → Meets t a b ys → Meets t s b (xs ++ ys)
meets_both t s a b xs ys x y = record {
  counted = omega (arith, content_both xs ys, x.counted, y.counted);
  tagged = y.tagged ∙ (ap (λ ts. ts ++ tags_of ys) x.tagged ∙ (append_assoc s.tags (tags_of xs) (tags_of ys) ∙ ap (λ ts. s.tags ++ ts) (sym (tags_both xs ys))));
  found = x.found ++ y.found;
  handles = y.handles ∙ (ap (λ hs. hs ++ y.found) x.handles ∙ append_assoc s.handles x.found y.found);
  same = map-append met_as x.found y.found ∙ (ap (λ ms. ms ++ map met_as y.found) x.same ∙ (ap (λ ms. handles_in xs ++ ms) y.same ∙ sym (handles_both xs ys)));
  wanted = wanted_both t x.found y.found x.wanted y.wanted;
}

-- bytes, and then more
pub meets_content : (t : Handles) (s b : State) (size : ℕ) (ms : List Met) → size ≤ s.left → Meets t (record s { left = s.left - size }) b ms → Meets t s b (content size ∷ ms)
meets_content t s b size ms room m = record {
  counted = omega (arith, room, m.counted);
  tagged = m.tagged;
  found = m.found;
  handles = m.handles;
  same = m.same;
  wanted = m.wanted;
}

-- a string
pub meets_text : (t : Handles) (s : State) (e : StringEncoding) (n : ℕ) → text_size e n ≤ s.left → Meets t s (after_text e n (record s { left = s.left - text_size e n })) (met_text e n ∷ [])
meets_text t s e n room = record {
  counted = omega (arith, room);
  tagged = ap (λ ts. s.tags ++ ts) (sym (append-nil (tag_of e n)));
  found = [];
  handles = sym (append-nil s.handles);
  same = refl;
  wanted = tt;
}

pub meets_own : (t : Handles) (s : State) (r : ResourceId) (index : ℕ) (h : Handle) → handle_at t index ≡ Some h → h.resource ≡ r → h.kind ≡ Owned
    → Meets t s (after_meeting s (handle_type.Own r) index) (taken index ∷ [])
meets_own t s r index h stands of kind = record {
  counted = omega arith;
  tagged = sym (append-nil s.tags);
  found = record { index = index; wanted = handle_type.Own r } ∷ [];
  handles = refl;
  same = refl;
  wanted = (record { entry = h; stands = stands; of_resource = of; of_kind = kind }, tt);
}

pub meets_borrow : (t : Handles) (s : State) (r : ResourceId) (index : ℕ) (h : Handle) → handle_at t index ≡ Some h → h.resource ≡ r
    → Meets t s (after_meeting s (handle_type.Borrow r) index) (lent index ∷ [])
meets_borrow t s r index h stands of = record {
  counted = omega arith;
  tagged = sym (append-nil s.tags);
  found = record { index = index; wanted = handle_type.Borrow r } ∷ [];
  handles = refl;
  same = refl;
  wanted = (record { entry = h; stands = stands; of_resource = of; of_kind = tt }, tt);
}
