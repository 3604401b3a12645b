-- What bytes in memory show (CanonicalABI.md, "Loading").
use Rattle.std.specs.Prelude.{◌≡◌, ℕ, zero, suc, ◌+◌, ◌*◌, ◌%◌, ◌^◌, ◌≤◌, ◌==◌, not, ⊤}
use Rattle.std.specs.Prelude.{List, length, Some}
use Rattle.cm_types.specs.declared.resource.ResourceId.{ResourceId}
use Rattle.cm_types.specs.Types.{Ty, Fields, Cases, width_bytes, bool, signed, unsigned, char}
use Rattle.cm_types.specs.Types.{string, list, fixed_list, fields, cases, flags, own, borrow}
use Rattle.cm_types.specs.Types.{no_fields, field, no_cases, plain, carrying}
use Rattle.cm_types.specs.Values.{Val, Vals, HandleValue, no_vals, val, truth, signed_number}
use Rattle.cm_types.specs.Values.{number, scalar, text, elements, parts, bare, bearing, flag_set}
use Rattle.cm_types.specs.Values.{handle, count_of, IsPlainCase, IsScalarValue}
use Rattle.cm_handles.specs.Handles.{Handles, handle_at}
use Rattle.cm_handles.specs.declared.handle.Handle.{Handle}
use Rattle.cm_handles.specs.declared.handle.HandleKind.TheVariants.{Owned}
use Rattle.cm_layout.specs.Alignment.{align_to}
use Rattle.cm_layout.specs.Sizes.{align_of, size_of, case_count, discriminant_size, flags_size}
use Rattle.cm_layout.specs.Sizes.{payload_offset}
use Rattle.cm_abi_model.specs.Numbers.{number_at, as_signed}
use Rattle.cm_abi_model.specs.Views.{View}
use Rattle.cm_abi_model.specs.Texts.{ShowsText, IsAligned}

-- an index stands for a handle to a resource: one stands there with that serial number and
-- representation
pub record ShowsHandle (table : Handles) (index : ℕ) (resource : ResourceId) (h : HandleValue)
    : Type 0 where
  pub entry : Handle
  pub stands : handle_at table index ≡ Some entry
  pub of_resource : entry.resource ≡ resource
  pub value : h ≡ record { serial = entry.serial; rep = entry.rep; resource = resource }

-- an index stands for a handle that owns its resource
pub record ShowsOwned (table : Handles) (index : ℕ) (resource : ResourceId) (h : HandleValue)
    : Type 0 where
  pub handle : ShowsHandle table index resource h
  pub owned : handle.entry.kind ≡ Owned

-- values one after another, each of this size and shown in this way
abbrev pub ShowEach : (ℕ → Val → Type 0) → ℕ → ℕ → Vals → Type 0
ShowEach S size at no_vals = ⊤
ShowEach S size at (val v vs) = S at v × ShowEach S size (at + size) vs

-- the elements of a list at this pointer: it is aligned, and all of them lie in the memory, of an
-- empty list too
pub record ShowsElements (S : ℕ → Val → Type 0) (memory : List ℕ) (align size at n : ℕ) (vs : Vals)
    : Type 0 where
  pub aligned : IsAligned align at
  pub inside : at + n * size ≤ length memory
  pub count : count_of vs ≡ n
  pub each : ShowEach S size at vs

abbrev mutual
  -- in a view, the bytes at an address show a value of a type
  pub Shows : View → Ty → ℕ → Val → Type 0
  -- any byte but 0 is true
  Shows w bool p (truth b) = b ≡ not (number_at 1 w.memory p == 0)
  Shows w (signed k) p (signed_number z) =
      z ≡ as_signed (width_bytes k) (number_at (width_bytes k) w.memory p)
  Shows w (unsigned k) p (number n) = n ≡ number_at (width_bytes k) w.memory p
  Shows w char p (scalar c) = (c ≡ number_at 4 w.memory p) × IsScalarValue c
  -- a pointer, and behind it a length
  Shows w string p (text cs) =
      ShowsText w.encoding w.memory (number_at 4 w.memory p) (number_at 4 w.memory (p + 4)) cs
  Shows w (list t) p (elements vs) =
      ShowsElements (Shows w t) w.memory (align_of t) (size_of t)
      (number_at 4 w.memory p) (number_at 4 w.memory (p + 4)) vs
  -- in place
  Shows w (fixed_list t n) p (parts vs) =
      (count_of vs ≡ n) × ShowEach (Shows w t) (size_of t) p vs
  Shows w (fields k fs) p (parts vs) = ShowFields w fs p 0 vs
  -- the number of the case, and behind it what the case carries
  Shows w (cases k cs) p (bare i) =
      (number_at (discriminant_size (case_count cs)) w.memory p ≡ i) × IsPlainCase cs i
  Shows w (cases k cs) p (bearing i v) =
      (number_at (discriminant_size (case_count cs)) w.memory p ≡ i)
      × ShowsPayload w cs (p + payload_offset cs) i v
  -- a bit for a label; bits of no label are ignored
  Shows w (flags ls) p (flag_set n) =
      n ≡ number_at (flags_size (length ls)) w.memory p % 2 ^ length ls
  Shows w (own r) p (handle h) = ShowsOwned w.table (number_at 4 w.memory p) r h
  Shows w (borrow r) p (handle h) = ShowsHandle w.table (number_at 4 w.memory p) r h
  Shows w t p v = ⊥

  -- fields from an address on, each at the least multiple of its alignment, where those before them
  -- end so far behind it
  pub ShowFields : View → Fields → ℕ → ℕ → Vals → Type 0
  ShowFields w no_fields p end no_vals = ⊤
  ShowFields w no_fields p end (val v vs) = ⊥
  ShowFields w (field l t fs) p end no_vals = ⊥
  ShowFields w (field l t fs) p end (val v vs) =
      Shows w t (p + align_to (align_of t) end) v
      × ShowFields w fs p (align_to (align_of t) end + size_of t) vs

  -- what the case of this number carries, at an address
  pub ShowsPayload : View → Cases → ℕ → ℕ → Val → Type 0
  ShowsPayload w no_cases p i v = ⊥
  ShowsPayload w (plain l cs) p zero v = ⊥
  ShowsPayload w (plain l cs) p (suc i) v = ShowsPayload w cs p i v
  ShowsPayload w (carrying l t cs) p zero v = Shows w t p v
  ShowsPayload w (carrying l t cs) p (suc i) v = ShowsPayload w cs p i v
