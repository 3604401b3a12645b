-- The requests for a part, by its record (CanonicalABI.md, "Storing" of lists and strings; the
-- sizes are this project's own choice).
use Rattle.std.specs.Prelude.{ℕ, ◌*◌, ◌^◌, ◌<◌, ⊤, Bool, true, false, List, [], ◌∷◌, ◌++◌}
use Rattle.cm_abi_model.specs.declared.encoding.StringEncoding.{StringEncoding}
use Rattle.cm_abi_model.specs.declared.request.Request.{Request}
use Rattle.cm_abi_model.specs.Requests.{chain, read_charset, stored_charset, text_sizes}
use Rattle.cm_abi_model.specs.declared.record.PartKind.{PartKind}
use Rattle.cm_abi_model.specs.declared.record.PartKind.TheVariants as kind
use Rattle.cm_abi_model.specs.declared.record.PartRecord.{PartRecord}

-- a request that hands nothing back, and one in the place of the one before it
abbrev pub first_request : ℕ → ℕ → Request
first_request align size =
    record { chained = false; old_size = 0; align = align; size = size }

abbrev pub further_request : ℕ → ℕ → ℕ → Request
further_request align old size =
    record { chained = true; old_size = old; align = align; size = size }

-- those for a part of this kind, which has so many units in its source and takes so many bytes
abbrev pub kind_sizes : StringEncoding → StringEncoding → PartKind → ℕ → ℕ → List ℕ
kind_sizes source target (kind.Text tag) count size =
    text_sizes (read_charset source tag) (stored_charset target) count size
kind_sizes source target kind.Elements count size = size ∷ []

-- the requests for the part of a record, one after another
abbrev pub record_requests : StringEncoding → StringEncoding → PartRecord → List Request
record_requests source target r = chain r.align (kind_sizes source target r.kind r.count r.size)

-- those for the parts of records, one part after another
abbrev pub requests_for : StringEncoding → StringEncoding → List PartRecord → List Request
requests_for source target [] = []
requests_for source target (r ∷ rs) =
    record_requests source target r ++ requests_for source target rs

-- the tags of strings: a string's before those of the strings behind it
abbrev pub tag_before : PartKind → List Bool → List Bool
tag_before (kind.Text tag) tags = tag ∷ tags
tag_before kind.Elements tags = tags

-- those of the strings that records tell, in order
abbrev pub tags_of : List PartRecord → List Bool
tags_of [] = []
tags_of (r ∷ rs) = tag_before r.kind (tags_of rs)

-- the most that is asked for a part of this kind with so many units fits 32 bits
abbrev pub IsCounted : PartKind → ℕ → Type 0
IsCounted (kind.Text tag) units = 3 * units < 2 ^ 32
IsCounted kind.Elements count = ⊤

-- the part of a record can be asked for: each size that is asked for it fits 32 bits, and it has an
-- alignment
pub record IsAskable (r : PartRecord) : Type 0 where
  pub counted : IsCounted r.kind r.count
  pub small : r.size < 2 ^ 32
  pub aligned : 0 < r.align

-- the requests for the parts of records
abbrev pub AreAskable : List PartRecord → Type 0
AreAskable [] = ⊤
AreAskable (r ∷ rs) = IsAskable r × AreAskable rs
