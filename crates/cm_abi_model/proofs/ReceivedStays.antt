-- What is received stays received while its bytes stand, and handles that are lent to nobody stay.
use Rattle.std.proofs.Common.{◌≡◌, refl, sym, ap, subst, ◌∙◌, ℕ, ◌+◌, ◌*◌, ◌≤◌, ◌==◌, Bool, true, false, List, [], ◌∷◌, Some, arith, length, inl, inr}
use Rattle.cm_types.specs.declared.core_value.CoreValue.{CoreValue}
use Rattle.cm_types.specs.Types.{Fields}
use Rattle.cm_types.specs.Values.{Val, HandleValue}
use Rattle.cm_handles.specs.Handles.{Handles, handle_at}
use Rattle.cm_handles.specs.declared.handle.HandleKind.{HandleKind}
use Rattle.cm_handles.specs.declared.handle.HandleKind.TheVariants.{Owned, Borrowed}
use Rattle.cm_abi_model.specs.declared.encoding.StringEncoding.{StringEncoding}
use Rattle.cm_abi_model.specs.declared.encoding.StringEncoding.TheVariants as encoding
use Rattle.cm_abi_model.specs.Views.{View, Way, implements}
use Rattle.cm_abi_model.specs.Texts.{text_align, IsAligned, utf8, utf16}
use Rattle.cm_abi_model.specs.Parts.{Part, text_part, element_part}
use Rattle.cm_abi_model.specs.Stores.{Given, number_of, place_of}
use Rattle.cm_abi_model.specs.Requests.{call_parts, part_align, stored_charset, text_bytes, tuple_of}
use Rattle.cm_abi_model.specs.Regions.{AreApart, ArePlaced, IsIn, IsInPart, IsPlaced, part_size}
use Rattle.cm_abi_model.specs.Receives.{AllStand, HandleLeaf, Receives, StandsFor, StandsForBorrow}
use Rattle.cm_abi_model.specs.Receives.{HasHandle, call_bytes, leaves_in, owned_leaf, borrowed_leaf}
use Rattle.cm_abi_model.specs.Later.{IsLater, UnlentStay}

-- ---- encodings in which strings are stored alike

pub aligned_alike : (e f : StringEncoding) → stored_charset e ≡ stored_charset f → text_align e ≡ text_align f
aligned_alike encoding.Utf8 encoding.Utf8 same = refl
aligned_alike encoding.Utf8 encoding.Utf16 same = absurd (cc)
aligned_alike encoding.Utf8 encoding.Latin1OrUtf16 same = absurd (cc)
aligned_alike encoding.Utf16 encoding.Utf8 same = absurd (cc)
aligned_alike encoding.Utf16 encoding.Utf16 same = refl
aligned_alike encoding.Utf16 encoding.Latin1OrUtf16 same = refl
aligned_alike encoding.Latin1OrUtf16 encoding.Utf8 same = absurd (cc)
aligned_alike encoding.Latin1OrUtf16 encoding.Utf16 same = refl
aligned_alike encoding.Latin1OrUtf16 encoding.Latin1OrUtf16 same = refl

size_alike : (e f : StringEncoding) → stored_charset e ≡ stored_charset f → (part : Part) → part_size e part ≡ part_size f part
size_alike e f same (text_part cs) = ap (λ s. length (text_bytes s cs)) same
size_alike e f same (element_part count size align) = refl

align_alike : (e f : StringEncoding) → stored_charset e ≡ stored_charset f → (part : Part) → part_align e part ≡ part_align f part
align_alike e f same (text_part cs) = aligned_alike e f same
align_alike e f same (element_part count size align) = refl

pub placed_later : (e f : StringEncoding) (n m : ℕ) (g : Given) (k : ℕ) (parts : List Part) → stored_charset e ≡ stored_charset f → n ≤ m
    → ArePlaced e n g k parts → ArePlaced f m g k parts
placed_later e f n m g k [] same le placed = tt
placed_later e f n m g k (part ∷ parts) same le placed = (
  record {
    aligned = subst (λ a. IsAligned a (place_of g k)) (align_alike e f same part) placed.0.aligned;
    inside = omega (arith, le, placed.0.inside, size_alike e f same part);
    counted = placed.0.counted;
  },
  placed_later e f n m g (k + 1) parts same le placed.1,
)

in_part_alike : (e f : StringEncoding) → stored_charset e ≡ stored_charset f → (g : Given) (k : ℕ) (parts : List Part) (a : ℕ)
    → IsInPart f g k parts a → IsInPart e g k parts a
in_part_alike e f same g k [] a is = is
in_part_alike e f same g k (part ∷ parts) a (inl here) = inl (subst (λ n. IsIn (place_of g k) n a) (sym (size_alike e f same part)) here)
in_part_alike e f same g k (part ∷ parts) a (inr there) = inr (in_part_alike e f same g (k + 1) parts a there)

pub apart_later : (e f : StringEncoding) (g : Given) (k : ℕ) (parts : List Part) → stored_charset e ≡ stored_charset f
    → AreApart e g k parts → AreApart f g k parts
apart_later e f g k [] same apart = tt
apart_later e f g k (part ∷ parts) same apart = (
  (λ a here there. apart.0 a (subst (λ n. IsIn (place_of g k) n a) (sym (size_alike e f same part)) here) (in_part_alike e f same g (k + 1) parts a there)),
  apart_later e f g (k + 1) parts same apart.1,
)

-- ---- handles

has_later : (w u : View) (n : ℕ) (kind : HandleKind) (h : HandleValue) → UnlentStay w.table u.table
    → HasHandle w n kind h → HasHandle u n kind h
has_later w u n kind h stay has = stay n _ has refl

borrow_later : (w u : View) (n : ℕ) (h : HandleValue) (b c : Bool) → b ≡ c → w.call ≡ u.call
    → UnlentStay w.table u.table → StandsForBorrow b w n h → StandsForBorrow c u n h
borrow_later w u n h true true same call stay stands = stands
borrow_later w u n h true false same call stay stands = absurd (cc)
borrow_later w u n h false true same call stay stands = absurd (cc)
borrow_later w u n h false false same call stay stands =
    subst (λ c. HasHandle u n (Borrowed c) h) call (has_later w u n (Borrowed w.call) h stay stands)

one_later : (w u : View) (n : ℕ) (leaf : HandleLeaf) → w.instance ≡ u.instance → w.call ≡ u.call
    → UnlentStay w.table u.table → StandsFor w n leaf → StandsFor u n leaf
one_later w u n (owned_leaf h) same call stay stands = has_later w u n Owned h stay stands
one_later w u n (borrowed_leaf h) same call stay stands =
    borrow_later w u n h (implements w h.resource) (implements u h.resource)
    (ap (λ i. h.resource.component == i) same) call stay stands

all_later : (w u : View) (g : Given) (k : ℕ) (leaves : List HandleLeaf) → w.instance ≡ u.instance
    → w.call ≡ u.call → UnlentStay w.table u.table → AllStand w g k leaves → AllStand u g k leaves
all_later w u g k [] same call stay all = tt
all_later w u g k (leaf ∷ leaves) same call stay all = (
  one_later w u (number_of g k) leaf same call stay all.0,
  all_later w u g (k + 1) leaves same call stay all.1,
)

pub received_stays : (w u : View) (way : Way) (types : Fields) (slots : List CoreValue) (g : Given) (v : Val)
    → Receives w way types slots g v → IsLater w u (call_bytes g way types v)
    → Receives u way types slots g v
received_stays w u way types slots g v has later = record {
  typed = has.typed;
  stored_in = has.stored_in ∙ later.stored_alike;
  numbers = has.numbers;
  placed = placed_later w.encoding u.encoding (length w.memory) (length u.memory) g 0 (call_parts way types v) later.stored_alike later.longer has.placed;
  apart = apart_later w.encoding u.encoding g 0 (call_parts way types v) later.stored_alike has.apart;
  bytes = later.stand;
  handles = all_later w u g 0 (leaves_in (tuple_of types) v) later.instance_is later.call_is later.unlent
      has.handles;
}
