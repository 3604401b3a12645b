-- What core values show (CanonicalABI.md, "Flattening" and "Lifting"). A slot is known by its
-- place, from 0.
use Rattle.std.specs.Prelude.{◌≡◌, ℕ, zero, suc, ◌+◌, ◌%◌, ◌^◌, ◌==◌, not, ⊤, List}
use Rattle.std.specs.Prelude.{length}
use Rattle.cm_types.specs.declared.core_value.CoreValue.{CoreValue}
use Rattle.cm_types.specs.Types.{Ty, Fields, Cases, width_bytes, bool, signed, unsigned, char}
use Rattle.cm_types.specs.Types.{string, list, fixed_list, fields, cases, flags, own, borrow}
use Rattle.cm_types.specs.Types.{no_fields, field, no_cases, plain, carrying}
use Rattle.cm_types.specs.Values.{Val, Vals, no_vals, val, truth, signed_number, number, scalar}
use Rattle.cm_types.specs.Values.{text, elements, parts, bare, bearing, flag_set, handle, count_of}
use Rattle.cm_types.specs.Values.{IsPlainCase, IsScalarValue}
use Rattle.cm_layout.specs.Sizes.{align_of, size_of}
use Rattle.cm_layout.specs.Flattening.{flat_of}
use Rattle.cm_abi_model.specs.Numbers.{as_signed, wrapped_at}
use Rattle.cm_abi_model.specs.Views.{View}
use Rattle.cm_abi_model.specs.Texts.{ShowsText}
use Rattle.cm_abi_model.specs.Shows.{Shows, ShowEach, ShowsElements, ShowsHandle, ShowsOwned}

-- how many slots a type takes
abbrev pub width_of : Ty → ℕ
width_of t = length (flat_of t)

abbrev mutual
  -- in a view, the slots from this place on show a value of a type
  pub FlatShows : View → List CoreValue → Ty → ℕ → Val → Type 0
  -- any number but 0 is true
  FlatShows w s bool k (truth b) = b ≡ not (wrapped_at 4 s k == 0)
  -- what does not fit is left out
  FlatShows w s (signed b) k (signed_number z) =
      z ≡ as_signed (width_bytes b) (wrapped_at (width_bytes b) s k)
  FlatShows w s (unsigned b) k (number n) = n ≡ wrapped_at (width_bytes b) s k
  FlatShows w s char k (scalar c) = (c ≡ wrapped_at 4 s k) × IsScalarValue c
  FlatShows w s string k (text cs) =
      ShowsText w.encoding w.memory (wrapped_at 4 s k) (wrapped_at 4 s (k + 1)) cs
  FlatShows w s (list t) k (elements vs) =
      ShowsElements (Shows w t) w.memory (align_of t) (size_of t)
      (wrapped_at 4 s k) (wrapped_at 4 s (k + 1)) vs
  FlatShows w s (fixed_list t n) k (parts vs) =
      (count_of vs ≡ n) × ShowEach (FlatShows w s t) (width_of t) k vs
  FlatShows w s (fields f fs) k (parts vs) = FlatShowFields w s fs k vs
  -- the number of the case, and in the slots behind it what the case carries; slots that it does
  -- not use may hold anything
  FlatShows w s (cases c cs) k (bare i) = (wrapped_at 4 s k ≡ i) × IsPlainCase cs i
  FlatShows w s (cases c cs) k (bearing i v) =
      (wrapped_at 4 s k ≡ i) × FlatShowsPayload w s cs (k + 1) i v
  FlatShows w s (flags ls) k (flag_set n) = n ≡ wrapped_at 4 s k % 2 ^ length ls
  FlatShows w s (own r) k (handle h) = ShowsOwned w.table (wrapped_at 4 s k) r h
  FlatShows w s (borrow r) k (handle h) = ShowsHandle w.table (wrapped_at 4 s k) r h
  FlatShows w s t k v = ⊥

  -- fields in the slots from this place on, one after another
  pub FlatShowFields : View → List CoreValue → Fields → ℕ → Vals → Type 0
  FlatShowFields w s no_fields k no_vals = ⊤
  FlatShowFields w s no_fields k (val v vs) = ⊥
  FlatShowFields w s (field l t fs) k no_vals = ⊥
  FlatShowFields w s (field l t fs) k (val v vs) =
      FlatShows w s t k v × FlatShowFields w s fs (k + width_of t) vs

  -- what the case of this number carries, in the slots from this place on
  pub FlatShowsPayload : View → List CoreValue → Cases → ℕ → ℕ → Val → Type 0
  FlatShowsPayload w s no_cases k i v = ⊥
  FlatShowsPayload w s (plain l cs) k zero v = ⊥
  FlatShowsPayload w s (plain l cs) k (suc i) v = FlatShowsPayload w s cs k i v
  FlatShowsPayload w s (carrying l t cs) k zero v = FlatShows w s t k v
  FlatShowsPayload w s (carrying l t cs) k (suc i) v = FlatShowsPayload w s cs k i v
