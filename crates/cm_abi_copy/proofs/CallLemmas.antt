-- Values of a call that can be passed on can be copied.
use Rattle.std.proofs.Common.{◌≡◌, ℕ, ◌<◌, ◌≤◌, List, [], length, map, inl, inr, Ok, refl, sym, ap, subst, ◌∙◌, arith}
use Rattle.std.specs.Prelude.{if◌then◌else◌}
use Rattle.std.proofs.lemmas.Bool.{le-ltb, lt-ltb}
use Rattle.cm_types.specs.declared.core_value.CoreValue.{CoreValue}
use Rattle.cm_types.specs.Types.{Fields, Ty}
use Rattle.cm_types.specs.Values.{HasType, Val}
use Rattle.cm_layout.specs.Flattening.{flat_of_fields}
use Rattle.cm_layout.specs.Laid.{IsMarked, Laid}
use Rattle.cm_layout.specs.Layouts.{layout_of}
use Rattle.cm_layout.specs.Shapes.{LayoutTy, Shape, head_of, layout_of_fields_at, shape_of_type}
use Rattle.cm_layout.specs.Sizes.{size_of}
use Rattle.cm_abi_model.specs.declared.encoding.StringEncoding.{StringEncoding}
use Rattle.cm_abi_model.specs.Denotes.{Denotes, FlatDenotes, SpilledDenotes}
use Rattle.cm_abi_model.specs.Numbers.{wrapped_at}
use Rattle.cm_abi_model.specs.Receives.{call_bytes, call_numbers, put}
use Rattle.cm_abi_model.specs.Requests.{call_parts, stored_charset, tuple_of}
use Rattle.cm_abi_model.specs.Shows.{Shows}
use Rattle.cm_abi_model.specs.Stores.{Given, place_of}
use Rattle.cm_abi_model.specs.Taken.{content_of, met_at}
use Rattle.cm_abi_model.specs.Views.{View, Way, flat_limit}
use Rattle.cm_abi_model.specs.Ways.{way_of}
use Rattle.cm_abi_lift.specs.declared.passed.Passed.{Passed}
use Rattle.cm_abi_load.specs.Outcomes.{State}
use Rattle.cm_abi_load.specs.Reading.{read_at, seen_by}
use Rattle.cm_abi_load.specs.Sized.{IsSized}
use Rattle.cm_abi_model.specs.declared.record.PartRecord.{PartRecord}
use Rattle.cm_abi_model.specs.Telling.{TellAll}
use Rattle.cm_abi_store.specs.Calls.{IsFlatTuple, IsProvided, IsSpilledTuple}
use Rattle.cm_abi_store.specs.Fitting.{Fits}
use Rattle.cm_abi_store.specs.FlatLowering.{behind_by, slots_by}
use Rattle.cm_abi_store.specs.Storing.{given_of, stored_by}
use Rattle.cm_abi_running.specs.Copying.{copying_of, size_kept}
use Rattle.cm_abi_running.specs.declared.copier.Copier.{Copier}
use Rattle.cm_abi_running.specs.Known.{HasSizes, first_part}
use Rattle.cm_abi_running.specs.Ready.{IsSound}
use Rattle.cm_abi_running.specs.Shown.{without_handles}
use Rattle.cm_abi_copy.specs.CallCopies.{IsFlatCopy, IsSpilledCopy}
use Rattle.cm_abi_copy.specs.FlatReady.{IsFlatReady}
use Rattle.cm_abi_copy.specs.FlatShown.{flat_shown}
use Rattle.cm_abi_copy.specs.PassingOn.{CanBePassedOn}
use Rattle.cm_abi_copy.proofs.FlatLaws.{PartsBelow, Shown, flat}

-- what the laws of the crates below promise
pub record Below : Type 0 where
  pub parts : PartsBelow
  pub laid : (t : Ty) → Laid (size_of t) (shape_of_type t)
  pub marked : (t : Ty) → IsMarked (head_of t) (shape_of_type t)
  pub sized : (t : Ty) → IsSized (shape_of_type t)
  pub read : (w : View) (t : Ty) (p : ℕ) (s : State) (v : Val) → Shows w t p v → content_of (met_at w t p v) ≤ s.left → (after : State) × (read_at (seen_by w) (shape_of_type t) p s ≡ Ok (v, after))
  pub sizes : (w : View) (target : StringEncoding) (way : Way) (types : Fields) (slots : List CoreValue) (v : Val) (rs : List PartRecord) (places : List ℕ) → Denotes w way types slots v
      → TellAll w target rs (call_parts way types v) places → HasSizes (map size_kept rs) (stored_charset target) v (first_part way types)
  pub slots_stay : (g : Given) (sh : Shape) (v : Val) (s k h : ℕ) → slots_by g sh (without_handles v) s k h ≡ slots_by g sh v s k h
  pub bytes_stay : (g : Given) (sh : Shape) (v : Val) (k h : ℕ) → behind_by g sh (without_handles v) k h ≡ behind_by g sh v k h
  pub spilled_ready : (l : LayoutTy) (way : Way) (types : Fields) (limit : ℕ) (v : Val) (target : StringEncoding) (g : Given) (n slots : ℕ)
      → limit ≡ flat_limit way → l ≡ layout_of_fields_at types → g.charset ≡ stored_charset target → IsProvided way types v target g n slots → limit < l.head.width → IsSpilledTuple l v g n slots
  pub spilled_bytes : (l : LayoutTy) (way : Way) (types : Fields) (limit : ℕ) (v : Val) (g : Given) → limit ≡ flat_limit way → l ≡ layout_of_fields_at types → HasType (tuple_of types) v
      → limit < l.head.width → stored_by g l.shape v (place_of g 0) 1 0 ≡ call_bytes g way types v
  pub spilled_numbers : (l : LayoutTy) (way : Way) (types : Fields) (limit : ℕ) (v : Val) (g : Given) → limit ≡ flat_limit way → l ≡ layout_of_fields_at types → HasType (tuple_of types) v
      → limit < l.head.width → put 0 (place_of g 0) ≡ call_numbers g way types v
  pub flat_ready : (l : LayoutTy) (way : Way) (types : Fields) (limit : ℕ) (v : Val) (target : StringEncoding) (g : Given) (n slots : ℕ)
      → limit ≡ flat_limit way → l ≡ layout_of_fields_at types → g.charset ≡ stored_charset target → IsProvided way types v target g n slots → l.head.width ≤ limit → IsFlatTuple l v g n slots
  pub flat_bytes : (l : LayoutTy) (way : Way) (types : Fields) (limit : ℕ) (v : Val) (g : Given) → limit ≡ flat_limit way → l ≡ layout_of_fields_at types → HasType (tuple_of types) v
      → l.head.width ≤ limit → behind_by g l.shape v 0 0 ≡ call_bytes g way types v
  pub flat_numbers : (l : LayoutTy) (way : Way) (types : Fields) (limit : ℕ) (v : Val) (g : Given) → limit ≡ flat_limit way → l ≡ layout_of_fields_at types → HasType (tuple_of types) v
      → l.head.width ≤ limit → slots_by g l.shape v 0 0 0 ≡ call_numbers g way types v

same_view : (w : View) (m : List ℕ) (e : StringEncoding) → w.memory ≡ m → w.encoding ≡ e → w ≡ record { memory = m; table = w.table; instance = w.instance; encoding = e; call = w.call }
same_view w m e memory_is encoding_is = rw (sym memory_is, sym encoding_is) refl

module _ (below : Below) (n m : ℕ) (from : Copier) (passed : Passed) (types : Fields) (v : Val) (can : CanBePassedOn n m from passed types v) where
  abbrev way : Way
  way = way_of passed.way

  abbrev l : LayoutTy
  l = layout_of passed.layout.now

  abbrev at : ℕ
  at = wrapped_at 4 passed.slots.now 0

  -- the view with the source's own memory
  abbrev w : View
  w = record { memory = from.memory.now; table = can.view.table; instance = can.view.instance; encoding = from.encoding; call = can.view.call }

  denoted : Denotes w way types passed.slots.now v
  denoted = subst (λ x. Denotes x way types passed.slots.now v) (same_view can.view from.memory.now from.encoding can.memory can.encoding) can.denoted

  shape_is : l.shape ≡ shape_of_type (tuple_of types)
  shape_is = ap (λ (x : LayoutTy). x.shape) can.layout

  width_is : l.head.width ≡ length (flat_of_fields types)
  width_is = ap (λ (x : LayoutTy). x.head.width) can.layout

  size_is : l.head.size ≡ size_of (tuple_of types)
  size_is = ap (λ (x : LayoutTy). x.head.size) can.layout

  sizes : HasSizes (map size_kept from.records.now) (stored_charset from.target.encoding) v (first_part way types)
  sizes = below.sizes can.view from.target.encoding way types passed.slots.now v from.records.now can.starts can.denoted can.told

  pub spilled : flat_limit way < l.head.width → IsSpilledCopy n m from passed types v
  spilled over = go denoted
    where
      over_flat : flat_limit way < length (flat_of_fields types)
      over_flat = rw (sym width_is) over

      first_is : first_part way types ≡ 1
      first_is = ap (λ b. if b then 1 else 0) (lt-ltb (flat_limit way) (length (flat_of_fields types)) over_flat)

      there : SpilledDenotes w way types passed.slots.now v → IsSpilledCopy n m from passed types v
      there x =
          let ready = below.spilled_ready l way types (flat_limit way) v from.target.encoding (given_of from.target) n m refl can.layout refl can.provided over in
          let before : State = record { left = content_of (met_at w (tuple_of types) at v); handles = []; tags = [] } in
          let read = below.read w (tuple_of types) at before v x.shown (omega arith) in
          record {
            within = rw size_is x.inside;
            inside = ready.inside;
            copied = record {
              table = can.view.table;
              before = before;
              after = read.0;
              read = subst (λ sh. read_at (seen_by w) sh at before ≡ Ok (v, read.0)) (sym shape_is) read.1;
              fits = ready.fits;
              sizes = subst (λ k. HasSizes (map size_kept from.records.now) (stored_charset from.target.encoding) v k) first_is sizes;
            };
            place = ready.place;
            slot = ready.slot;
            bytes = below.spilled_bytes l way types (flat_limit way) v (given_of from.target) refl can.layout can.provided.typed over;
            numbers = below.spilled_numbers l way types (flat_limit way) v (given_of from.target) refl can.layout can.provided.typed over;
          }

      go : Denotes w way types passed.slots.now v → IsSpilledCopy n m from passed types v
      go (inl x) = absurd (omega (arith, x.fits, over_flat))
      go (inr x) = there x

  pub flat_copy : l.head.width ≤ flat_limit way → IsFlatCopy n m from passed types v
  flat_copy under = go denoted
    where
      under_flat : length (flat_of_fields types) ≤ flat_limit way
      under_flat = rw (sym width_is) under

      first_is : first_part way types ≡ 0
      first_is = ap (λ b. if b then 1 else 0) (le-ltb (flat_limit way) (length (flat_of_fields types)) under_flat)

      sound : IsSound l
      sound = rw can.layout (record { laid = below.laid (tuple_of types); sized = below.sized (tuple_of types); marked = below.marked (tuple_of types) })

      there : FlatDenotes w way types passed.slots.now v → IsFlatCopy n m from passed types v
      there x =
          let ready = below.flat_ready l way types (flat_limit way) v from.target.encoding (given_of from.target) n m refl can.layout refl can.provided under in
          let c = copying_of from in
          let slots = passed.slots.now in
          let shown : Shown below.parts n c can.view.table can.view.instance can.view.call slots (flat_shown c slots l.shape 0) (IsFlatReady n c slots l.shape 0) (Fits n (given_of from.target) l.shape v) v =
          subst (λ sh. Shown below.parts n c can.view.table can.view.instance can.view.call slots (flat_shown c slots sh 0) (IsFlatReady n c slots sh 0) (Fits n (given_of from.target) sh v) v) (sym shape_is)
          (flat below.parts n c can.view.table can.view.instance can.view.call slots (tuple_of types) 0 v x.shown) in
          record {
            lies = record { inside = omega (arith, ready.inside); passed = ready.passed; sound = sound };
            ready = shown.ready 0 0 ready.fits (subst (λ k. HasSizes (map size_kept from.records.now) (stored_charset from.target.encoding) v k) first_is sizes);
            bytes = ap (λ u. behind_by (given_of from.target) l.shape u 0 0) shown.is
                ∙ (below.bytes_stay (given_of from.target) l.shape v 0 0 ∙ below.flat_bytes l way types (flat_limit way) v (given_of from.target) refl can.layout can.provided.typed under);
            numbers = ap (λ u. slots_by (given_of from.target) l.shape u 0 0 0) shown.is
                ∙ (below.slots_stay (given_of from.target) l.shape v 0 0 0 ∙ below.flat_numbers l way types (flat_limit way) v (given_of from.target) refl can.layout can.provided.typed under);
          }

      go : Denotes w way types passed.slots.now v → IsFlatCopy n m from passed types v
      go (inl x) = there x
      go (inr x) = absurd (omega (arith, x.spilled, under_flat))
