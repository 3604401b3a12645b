-- Whether a value can be copied from an address of its source into a memory of so many bytes
-- (CanonicalABI.md, "Loading" and "Storing").
use Rattle.std.specs.Prelude.{◌≡◌, ℕ, zero, suc, ◌+◌, ◌*◌, ◌<◌, ◌≤◌, ⊤, length}
use Rattle.std.specs.Prelude.{slice_index}
use Rattle.cm_types.specs.Values.{Val}
use Rattle.cm_layout.specs.Laid.{IsMarked, Laid}
use Rattle.cm_layout.specs.Shapes.{LayoutTy, Shape, Parts, Payloads, leaf_shape, string_shape}
use Rattle.cm_layout.specs.Shapes.{list_shape, fixed_list_shape, fields_shape, cases_shape}
use Rattle.cm_layout.specs.Shapes.{handle_shape, no_parts, part, no_payloads, nothing, carried}
use Rattle.cm_text.specs.Text.{IsText}
use Rattle.cm_abi_model.specs.Numbers.{number_at}
use Rattle.cm_abi_model.specs.Parts.{handle_count, part_count}
use Rattle.cm_abi_model.specs.Requests.{text_bytes}
use Rattle.cm_abi_model.specs.Texts.{Has, bytes_from, charset_of, spell, text_size}
use Rattle.cm_abi_load.specs.Sized.{IsSized}
use Rattle.cm_abi_store.specs.Fitting.{HasRoom}
use Rattle.cm_abi_running.specs.Copying.{Copying, shown_to}
use Rattle.cm_abi_running.specs.Shown.{scalars_at}

-- The string at a pointer, of a tagged length, can be copied as the part of this number: its bytes
-- lie in the source and are a text, which has a place with room for it, and takes as many bytes
-- there as are known.
pub record IsTextReady (n : ℕ) (c : Copying) (at tagged k : ℕ) : Type 0 where
  pub inside : at + text_size c.encoding tagged ≤ length c.memory
  pub text : IsText (Has (charset_of c.encoding tagged)) (spell (charset_of c.encoding tagged))
      (scalars_at c.memory c.encoding at tagged)
      (bytes_from c.memory at (text_size c.encoding tagged))
  pub room : HasRoom n c.given k
      (length (text_bytes c.given.charset (scalars_at c.memory c.encoding at tagged)))
  pub known : k < length c.sizes
  pub size : slice_index c.sizes k
      ≡ length (text_bytes c.given.charset (scalars_at c.memory c.encoding at tagged))

-- so many values in a row can be copied
abbrev pub AreReady : (ℕ → ℕ → ℕ → Type 0) → (ℕ → Val) → ℕ → ℕ → ℕ → ℕ → ℕ → Type 0
AreReady R V size zero p k h = ⊤
AreReady R V size (suc count) p k h =
    R p k h
    × AreReady R V size count (p + size) (k + part_count (V p)) (h + handle_count (V p))

-- so many elements at a pointer can be copied as the part of this number
abbrev pub AreElementsReady : ℕ → Copying → (ℕ → ℕ → ℕ → Type 0) → (ℕ → Val) → ℕ → ℕ → ℕ → ℕ → ℕ
    → Type 0
AreElementsReady n c R V size at count k h =
    (at + count * size ≤ length c.memory)
    × HasRoom n c.given k (count * size)
    × AreReady R V size count at (k + 1) h

abbrev mutual
  -- a value of this shape at an address can be copied: what its pointers lead to lies in the
  -- source, and its strings are texts; each of its parts, from the one of this number on, has a
  -- place in a memory of so many bytes, and each of its handles a number
  pub IsReady : ℕ → Copying → Shape → ℕ → ℕ → ℕ → Type 0
  IsReady n c (leaf_shape l) p k h = ⊤
  IsReady n c string_shape p k h =
      IsTextReady n c (number_at 4 c.memory p) (number_at 4 c.memory (p + 4)) k
  IsReady n c (list_shape e sh) p k h =
      AreElementsReady n c (IsReady n c sh) (shown_to c sh) e.size (number_at 4 c.memory p)
      (number_at 4 c.memory (p + 4)) k h
  IsReady n c (fixed_list_shape e sh count) p k h =
      AreReady (IsReady n c sh) (shown_to c sh) e.size count p k h
  IsReady n c (fields_shape ps) p k h = AreFieldsReady n c ps p k h
  IsReady n c (cases_shape d o ps) p k h = IsCaseReady n c ps (number_at d c.memory p) (p + o) k h
  IsReady n c (handle_shape x) p k h = h < length c.given.numbers

  pub AreFieldsReady : ℕ → Copying → Parts → ℕ → ℕ → ℕ → Type 0
  AreFieldsReady n c no_parts p k h = ⊤
  AreFieldsReady n c (part o e sh ps) p k h =
      IsReady n c sh (p + o) k h
      × AreFieldsReady n c ps p (k + part_count (shown_to c sh (p + o)))
      (h + handle_count (shown_to c sh (p + o)))

  pub IsCaseReady : ℕ → Copying → Payloads → ℕ → ℕ → ℕ → ℕ → Type 0
  IsCaseReady n c no_payloads i p k h = ⊤
  IsCaseReady n c (nothing ps) zero p k h = ⊤
  IsCaseReady n c (nothing ps) (suc i) p k h = IsCaseReady n c ps i p k h
  IsCaseReady n c (carried e sh ps) zero p k h = IsReady n c sh p k h
  IsCaseReady n c (carried e sh ps) (suc i) p k h = IsCaseReady n c ps i p k h

-- What a layout is made of is laid out: what it holds lies within it, its numbers have sizes that
-- numbers have, and what is marked as plain bytes is numbers.
pub record IsSound (l : LayoutTy) : Type 0 where
  pub laid : Laid l.head.size l.shape
  pub sized : IsSized l.shape
  pub marked : IsMarked l.head l.shape

-- The bytes of a layout lie in a source of so many bytes from an address on.
pub record LiesIn (length at : ℕ) (l : LayoutTy) : Type 0 where
  pub within : at + l.head.size ≤ length
  pub sound : IsSound l

-- fields, or what cases carry, lie within so many bytes, each at its offset, and are sound
abbrev pub FieldsLieIn : ℕ → ℕ → Parts → Type 0
FieldsLieIn length at no_parts = ⊤
FieldsLieIn length at (part o e sh ps) =
    LiesIn length (at + o) (record { head = e; shape = sh }) × FieldsLieIn length at ps

abbrev pub PayloadsLieIn : ℕ → ℕ → Payloads → Type 0
PayloadsLieIn length at no_payloads = ⊤
PayloadsLieIn length at (nothing ps) = PayloadsLieIn length at ps
PayloadsLieIn length at (carried e sh ps) =
    LiesIn length at (record { head = e; shape = sh }) × PayloadsLieIn length at ps
