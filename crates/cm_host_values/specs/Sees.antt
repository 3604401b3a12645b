-- What a host sees of a value: the same value, with the index of a handle in the place of the
-- handle (CanonicalABI.md, "Loading" of own and borrow, `lift_own` and `lift_borrow`).
use Rattle.std.specs.Prelude.{◌≡◌, ℕ, zero, suc, ⊤}
use Rattle.cm_types.specs.Types.{Ty, Fields, Cases, bool, signed, unsigned, char, string, list}
use Rattle.cm_types.specs.Types.{fixed_list, fields, cases, flags, own, borrow, no_fields, field}
use Rattle.cm_types.specs.Types.{no_cases, plain, carrying}
use Rattle.cm_types.specs.Values.{Val, Vals, no_vals, val, number, elements, parts, bare, bearing}
use Rattle.cm_types.specs.Values.{handle}
use Rattle.cm_handles.specs.Handles.{Handles, no_handles}
use Rattle.cm_abi_model.specs.Shows.{ShowsHandle, ShowsOwned}
use Rattle.cm_abi_model.specs.Views.{View}

-- What a host reads an instance's core values by: its memory, and no table. Of which instance they
-- are, and in which call, makes no difference where no handle is met.
abbrev pub host_of : View → View
host_of w =
    record {
      memory = w.memory;
      table = no_handles;
      instance = 0;
      encoding = w.encoding;
      call = 0;
    }

-- values one for one
abbrev pub SeesEach : (Val → Val → Type 0) → Vals → Vals → Type 0
SeesEach S no_vals no_vals = ⊤
SeesEach S (val v vs) (val u us) = S v u × SeesEach S vs us
SeesEach S vs us = ⊥

abbrev mutual
  -- of a value of a type, the first one, a host of this table sees the second one: each handle is a
  -- number, the index of that handle, and everything else is the same
  pub Sees : Handles → Ty → Val → Val → Type 0
  Sees table bool v u = v ≡ u
  Sees table (signed k) v u = v ≡ u
  Sees table (unsigned k) v u = v ≡ u
  Sees table char v u = v ≡ u
  Sees table string v u = v ≡ u
  Sees table (flags ls) v u = v ≡ u
  Sees table (list t) (elements vs) (elements us) = SeesEach (Sees table t) vs us
  Sees table (fixed_list t n) (parts vs) (parts us) = SeesEach (Sees table t) vs us
  Sees table (fields k fs) (parts vs) (parts us) = SeesFields table fs vs us
  Sees table (cases k cs) (bare i) (bare j) = i ≡ j
  Sees table (cases k cs) (bearing i v) (bearing j u) = (i ≡ j) × SeesPayload table cs i v u
  Sees table (own r) (handle h) (number n) = ShowsOwned table n r h
  Sees table (borrow r) (handle h) (number n) = ShowsHandle table n r h
  Sees table t v u = ⊥

  pub SeesFields : Handles → Fields → Vals → Vals → Type 0
  SeesFields table no_fields no_vals no_vals = ⊤
  SeesFields table (field l t fs) (val v vs) (val u us) =
      Sees table t v u × SeesFields table fs vs us
  SeesFields table fs vs us = ⊥

  -- what the case of this number carries
  pub SeesPayload : Handles → Cases → ℕ → Val → Val → Type 0
  SeesPayload table no_cases i v u = ⊥
  SeesPayload table (plain l cs) zero v u = ⊥
  SeesPayload table (plain l cs) (suc i) v u = SeesPayload table cs i v u
  SeesPayload table (carrying l t cs) zero v u = Sees table t v u
  SeesPayload table (carrying l t cs) (suc i) v u = SeesPayload table cs i v u
