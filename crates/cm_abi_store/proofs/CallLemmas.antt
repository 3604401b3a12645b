-- What is required of the values of a call is so of their layout.
use Rattle.std.proofs.Common.{◌≡◌, ℕ, ◌+◌, ◌<◌, ◌≤◌, true, false, ◌∷◌, length, refl, sym, ap, ◌∙◌, arith}
use Rattle.std.specs.Prelude.{nat_lt}
use Rattle.std.proofs.lemmas.Bool.{lt-ltb, le-ltb}
use Rattle.cm_types.specs.Types.{Fields, Ty}
use Rattle.cm_types.specs.Values.{Val, HasType}
use Rattle.cm_layout.specs.Flattening.{flat_of_fields}
use Rattle.cm_layout.specs.Laid.{Laid}
use Rattle.cm_layout.specs.Shapes.{LayoutTy, layout_of_fields_at, shape_of_type}
use Rattle.cm_layout.specs.Sizes.{align_of, size_of}
use Rattle.cm_abi_model.specs.declared.encoding.StringEncoding.{StringEncoding}
use Rattle.cm_abi_model.specs.FlatShows.{width_of}
use Rattle.cm_abi_model.specs.Parts.{element_part, handle_count, part_count, parts_in}
use Rattle.cm_abi_model.specs.Receives.{behind, call_bytes, call_numbers, put, slots_of}
use Rattle.cm_abi_model.specs.Regions.{ArePlaced}
use Rattle.cm_abi_model.specs.Requests.{is_spilled, stored_charset, tuple_of}
use Rattle.cm_abi_model.specs.Stores.{Given, place_of, stored}
use Rattle.cm_abi_model.specs.Views.{Way, flat_limit}
use Rattle.cm_abi_store.specs.Calls.{IsFlatTuple, IsProvided, IsSpilledTuple}
use Rattle.cm_abi_store.specs.Fitting.{Fits}
use Rattle.cm_abi_store.specs.FlatLowering.{IsPassedIn, behind_by, slots_by}
use Rattle.cm_abi_store.specs.Storing.{stored_by}
use Rattle.cm_abi_store.proofs.FittingLaws.{counted}

spilled : (way : Way) (types : Fields) (limit : ℕ) → limit ≡ flat_limit way → limit < width_of (tuple_of types) → is_spilled way types ≡ true
spilled way types limit is over = ap (λ n. nat_lt n (length (flat_of_fields types))) (sym is) ∙ lt-ltb limit (length (flat_of_fields types)) over

flat : (way : Way) (types : Fields) (limit : ℕ) → limit ≡ flat_limit way → width_of (tuple_of types) ≤ limit → is_spilled way types ≡ false
flat way types limit is under = ap (λ n. nat_lt n (length (flat_of_fields types))) (sym is) ∙ le-ltb limit (length (flat_of_fields types)) under

-- a law of placed values, as it is told
abbrev pub PlacedFit : Type 0
PlacedFit = (target : StringEncoding) (n : ℕ) (g : Given) (t : Ty) (v : Val) (k h : ℕ)
    → HasType t v → g.charset ≡ stored_charset target → ArePlaced target n g k (parts_in t v)
    → k + part_count v ≤ length g.places → h + handle_count v ≤ length g.numbers → Fits n g (shape_of_type t) v k h

pub when_spilled : (l : LayoutTy) (way : Way) (types : Fields) (limit : ℕ) (v : Val) (target : StringEncoding) (g : Given) (n slots : ℕ)
    → ((t : Ty) → Laid (size_of t) (shape_of_type t)) → PlacedFit → limit ≡ flat_limit way → l ≡ layout_of_fields_at types → g.charset ≡ stored_charset target
    → IsProvided way types v target g n slots → limit < l.head.width → IsSpilledTuple l v g n slots
when_spilled l way types limit v target g n slots laid fit limit_is l_is charset_is p over =
    let t = tuple_of types in
    let over_type : limit < width_of t = rw (ap (λ (x : LayoutTy). x.head.width) l_is) at over in
    let b = spilled way types limit limit_is over_type in
    let placed : ArePlaced target n g 0 (element_part 1 (size_of t) (align_of t) ∷ parts_in t v) = rw b at p.placed in
    let places : length (element_part 1 (size_of t) (align_of t) ∷ parts_in t v) ≤ length g.places = rw b at p.places in
    let slot : 1 ≤ slots = rw b at p.slots in
    let count = counted t v p.typed in
    rw l_is (record {
      laid = laid t;
      inside = omega (arith, placed.0.inside);
      fits = fit target n g t v 1 0 p.typed charset_is placed.1 (omega (arith, places, count)) (omega (arith, p.numbers));
      place = omega (arith, places);
      slot = slot;
    })

pub when_flat : (l : LayoutTy) (way : Way) (types : Fields) (limit : ℕ) (v : Val) (target : StringEncoding) (g : Given) (n slots : ℕ)
    → ((t : Ty) → IsPassedIn (width_of t) (shape_of_type t)) → PlacedFit → limit ≡ flat_limit way → l ≡ layout_of_fields_at types → g.charset ≡ stored_charset target
    → IsProvided way types v target g n slots → l.head.width ≤ limit → IsFlatTuple l v g n slots
when_flat l way types limit v target g n slots passed fit limit_is l_is charset_is p under =
    let t = tuple_of types in
    let under_type : width_of t ≤ limit = rw (ap (λ (x : LayoutTy). x.head.width) l_is) at under in
    let b = flat way types limit limit_is under_type in
    let placed : ArePlaced target n g 0 (parts_in t v) = rw b at p.placed in
    let places : length (parts_in t v) ≤ length g.places = rw b at p.places in
    let inside : length (flat_of_fields types) ≤ slots = rw b at p.slots in
    let count = counted t v p.typed in
    rw l_is (record {
      passed = passed t;
      inside = inside;
      fits = fit target n g t v 0 0 p.typed charset_is placed (omega (arith, places, count)) (omega (arith, p.numbers));
    })

module _ (l : LayoutTy) (way : Way) (types : Fields) (limit : ℕ) (v : Val) (g : Given) (limit_is : limit ≡ flat_limit way) (l_is : l ≡ layout_of_fields_at types) (typed : HasType (tuple_of types) v) where
  pub bytes_spilled : ((g : Given) (t : Ty) (v : Val) (p k h : ℕ) → HasType t v → stored_by g (shape_of_type t) v p k h ≡ stored g t v p k h)
      → limit < l.head.width → stored_by g l.shape v (place_of g 0) 1 0 ≡ call_bytes g way types v
  bytes_spilled same over =
      let over_type : limit < width_of (tuple_of types) = rw (ap (λ (x : LayoutTy). x.head.width) l_is) at over in
      rw (spilled way types limit limit_is over_type, l_is) (same g (tuple_of types) v (place_of g 0) 1 0 typed)

  pub numbers_spilled : limit < l.head.width → put 0 (place_of g 0) ≡ call_numbers g way types v
  numbers_spilled over =
      let over_type : limit < width_of (tuple_of types) = rw (ap (λ (x : LayoutTy). x.head.width) l_is) at over in
      rw (spilled way types limit limit_is over_type) refl

  pub bytes_flat : ((g : Given) (t : Ty) (v : Val) (k h : ℕ) → HasType t v → behind_by g (shape_of_type t) v k h ≡ behind g t v k h)
      → l.head.width ≤ limit → behind_by g l.shape v 0 0 ≡ call_bytes g way types v
  bytes_flat same under =
      let under_type : width_of (tuple_of types) ≤ limit = rw (ap (λ (x : LayoutTy). x.head.width) l_is) at under in
      rw (flat way types limit limit_is under_type, l_is) (same g (tuple_of types) v 0 0 typed)

  pub numbers_flat : ((g : Given) (t : Ty) (v : Val) (s k h : ℕ) → HasType t v → slots_by g (shape_of_type t) v s k h ≡ slots_of g t v s k h)
      → l.head.width ≤ limit → slots_by g l.shape v 0 0 0 ≡ call_numbers g way types v
  numbers_flat same under =
      let under_type : width_of (tuple_of types) ≤ limit = rw (ap (λ (x : LayoutTy). x.head.width) l_is) at under in
      rw (flat way types limit limit_is under_type, l_is) (same g (tuple_of types) v 0 0 0 typed)
