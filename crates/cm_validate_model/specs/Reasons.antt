-- The reasons for which an item violates a rule, as a list, and the least of them (this project's
-- own choice).
use Rattle.std.specs.Prelude.{ℕ, Bool, List, [], ◌∷◌, Option, Some, None, nat_le}
use Rattle.std.specs.Prelude.{if◌then◌else◌, true, false, slice_get}
use Rattle.cm_validate_model.specs.declared.fault.ValidReason.{ValidReason}
use Rattle.cm_validate_model.specs.declared.fault.ValidReason.TheVariants as reason
use Rattle.cm_validate_model.specs.ReasonWords.{reason_number}

-- ---- lists of reasons: an item breaks a list of them, and is valid where it breaks none

-- a rule is violated, for this reason, unless this holds
abbrev pub unless : Bool → ValidReason → List ValidReason
unless true r = []
unless false r = r ∷ []

-- the rules that an index, or a name, violates: it names nothing, or what it names violates these
abbrev pub found : {A : Type 0} → (A → List ValidReason) → Option A → List ValidReason
found broken None = reason.NoSuchIndex ∷ []
found broken (Some d) = broken d

-- the rules that an index violates where another rule covers that it names nothing
abbrev pub if_found : {A : Type 0} → (A → List ValidReason) → Option A → List ValidReason
if_found broken None = []
if_found broken (Some d) = broken d

-- an index of a definition that has to be of a sort
abbrev pub index_broken : {A : Type 0} → (A → Bool) → List A → ℕ → List ValidReason
index_broken sort defs index = found (λ d. unless (sort d) reason.WrongSort) (slice_get defs index)

-- an index of a definition of whatever sort
abbrev pub bare_index_broken : {A : Type 0} → List A → ℕ → List ValidReason
bare_index_broken defs index = found (λ d. []) (slice_get defs index)

-- of two reasons the one with the smaller number, if there is any
abbrev pub lesser : Option ValidReason → Option ValidReason → Option ValidReason
lesser None r = r
lesser (Some q) None = Some q
lesser (Some q) (Some r) = if nat_le (reason_number q) (reason_number r) then Some q else Some r

-- the least of several reasons, if there is any
abbrev pub least : List ValidReason → Option ValidReason
least [] = None
least (r ∷ rs) = lesser (Some r) (least rs)
