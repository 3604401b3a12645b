-- Values of components, and which types they have (Explainer.md, "Value Types").
use Rattle.std.specs.Prelude.{◌≡◌, ℕ, zero, suc, ℤ, pos, neg_ℤ, ◌+◌, ◌*◌, ◌-◌, ◌<◌, ◌^◌, ◌⊎◌, ◌≤ℤ◌}
use Rattle.std.specs.Prelude.{◌<ℤ◌, Bool, List, length, ⊤}
use Rattle.std.specs.List.{AllByRecursion}
use Rattle.cm_types.specs.declared.resource.ResourceId.{ResourceId}
use Rattle.cm_types.specs.Types.{Ty, Fields, Cases, Width, width_bytes, bool, signed, unsigned}
use Rattle.cm_types.specs.Types.{char, string, list, fixed_list, fields, cases, flags, own, borrow}
use Rattle.cm_types.specs.Types.{no_fields, field, no_cases, plain, carrying}

-- a handle on its way: the serial number of the resource that it stands for, the representation,
-- and the resource type
pub record HandleValue : Type 0 where
  pub serial : ℕ
  pub rep : ℕ
  pub resource : ResourceId

-- Values.
mutual
  -- an interface value: a truth value, a number, a char, a text, the elements of a list, fields, a
  -- case, a set of labels, or a handle
  pub data Val : Type 0 where
    truth : Bool → Val
    signed_number : ℤ → Val
    number : ℕ → Val
    scalar : ℕ → Val
    text : List ℕ → Val
    -- the elements of a list
    elements : Vals → Val
    -- the fields of a record or a tuple, and the elements of a list of fixed length, which is the
    -- tuple of them (CanonicalABI.md, "Despecialization")
    parts : Vals → Val
    -- the case of this number, from 0, without payload and with one
    bare : ℕ → Val
    bearing : ℕ → Val → Val
    -- the set of the labels n with bit n of the number
    flag_set : ℕ → Val
    handle : HandleValue → Val

  -- values one after another
  pub data Vals : Type 0 where
    no_vals : Vals
    val : Val → Vals → Vals

-- how many values there are in a row
abbrev pub count_of : Vals → ℕ
count_of no_vals = 0
count_of (val v vs) = 1 + count_of vs

-- a scalar is a number below 0x110000 that is no surrogate: none from 0xD800 to 0xDFFF
abbrev pub IsScalarValue : ℕ → Type 0
IsScalarValue c = (c < 0x110000) × ((c < 0xD800) ⊎ (0xDFFF < c))

-- a number fits two's complement of this width
abbrev pub FitsSignedWidth : Width → ℤ → Type 0
FitsSignedWidth k z =
    (neg_ℤ (pos (2 ^ (8 * width_bytes k - 1))) ≤ℤ z) × (z <ℤ pos (2 ^ (8 * width_bytes k - 1)))

-- a number without sign fits this width
abbrev pub FitsWidth : Width → ℕ → Type 0
FitsWidth k n = n < 2 ^ (8 * width_bytes k)

-- the case of this number is there, and carries nothing
abbrev pub IsPlainCase : Cases → ℕ → Type 0
IsPlainCase no_cases i = ⊥
IsPlainCase (plain l cs) zero = ⊤
IsPlainCase (plain l cs) (suc i) = IsPlainCase cs i
IsPlainCase (carrying l t cs) zero = ⊥
IsPlainCase (carrying l t cs) (suc i) = IsPlainCase cs i

-- each value passes
abbrev pub AllVals : (Val → Type 0) → Vals → Type 0
AllVals P no_vals = ⊤
AllVals P (val v vs) = P v × AllVals P vs

abbrev mutual
  -- a value has a type, by cases on the type
  pub HasType : Ty → Val → Type 0
  HasType bool (truth b) = ⊤
  HasType (signed k) (signed_number z) = FitsSignedWidth k z
  HasType (unsigned k) (number n) = FitsWidth k n
  HasType char (scalar c) = IsScalarValue c
  HasType string (text cs) = AllByRecursion IsScalarValue cs
  HasType (list t) (elements vs) = AllVals (HasType t) vs
  HasType (fixed_list t n) (parts vs) = (count_of vs ≡ n) × AllVals (HasType t) vs
  HasType (fields k fs) (parts vs) = HaveTypes fs vs
  HasType (cases k cs) (bare i) = IsPlainCase cs i
  HasType (cases k cs) (bearing i v) = IsCarriedCase cs i v
  HasType (flags ls) (flag_set n) = n < 2 ^ length ls
  HasType (own r) (handle h) = h.resource ≡ r
  HasType (borrow r) (handle h) = h.resource ≡ r
  HasType _ _ = ⊥

  -- values have the types of fields, one for one
  pub HaveTypes : Fields → Vals → Type 0
  HaveTypes no_fields no_vals = ⊤
  HaveTypes no_fields (val v vs) = ⊥
  HaveTypes (field l t fs) no_vals = ⊥
  HaveTypes (field l t fs) (val v vs) = HasType t v × HaveTypes fs vs

  -- the case of this number is there, and carries a value of this type
  pub IsCarriedCase : Cases → ℕ → Val → Type 0
  IsCarriedCase no_cases i v = ⊥
  IsCarriedCase (plain l cs) zero v = ⊥
  IsCarriedCase (plain l cs) (suc i) v = IsCarriedCase cs i v
  IsCarriedCase (carrying l t cs) zero v = HasType t v
  IsCarriedCase (carrying l t cs) (suc i) v = IsCarriedCase cs i v
