-- Laws of what State defines, for this crate and those above it.
use Rattle.std.proofs.Common.{List, ℕ, length, ◌≤◌, ◌≡◌, [], refl, ◌∷◌, zero, arith, suc, get_or, ap, ◌∙◌, ◌≢◌, ◌<◌, length-set, Bool, true}
use Rattle.std.proofs.lemmas.List.{set-get_or}
use Rattle.std.proofs.lemmas.Option.{unwrap_or-slice_get}
use Rattle.std.specs.Prelude.{slice_set, unwrap_or, replicate}
use Rattle.cm_handles.specs.Handles.{Handles, no_handles}
use Rattle.cm_lemmas.proofs.Lists.{get_set_other, get_set_same}
use Rattle.cm_machine_model.specs.State.{table_at, with_places, closed_after_trap}
use Rattle.cm_machine_model.specs.declared.frame.Frame.{Frame}
use Rattle.cm_machine_model.specs.declared.frame.Place.{Place}
use Rattle.cm_types.specs.Values.{HandleValue}

pub table_past : (tables : List Handles) (i : ℕ) → length tables ≤ i → table_at tables i ≡ no_handles
table_past [] i le = refl
table_past (t ∷ ts) zero le = absurd (omega (arith, le))
table_past (t ∷ ts) (suc i) le = table_past ts i (omega (arith, le))

pub table_is : (tables : List Handles) (i : ℕ) → table_at tables i ≡ get_or tables i no_handles
table_is tables i = unwrap_or-slice_get tables i no_handles

pub set_same : (tables : List Handles) (i : ℕ) → slice_set tables i (table_at tables i) ≡ tables
set_same tables i = ap (λ t. slice_set tables i t) (table_is tables i) ∙ set-get_or tables i no_handles

pub table_other : (tables : List Handles) (i j : ℕ) (t : Handles) → j ≢ i → table_at (slice_set tables i t) j ≡ table_at tables j
table_other tables i j t ne = ap (λ o. unwrap_or o no_handles) (get_set_other tables i j t ne)

pub table_same : (tables : List Handles) (i : ℕ) (t : Handles) → i < length tables → table_at (slice_set tables i t) i ≡ t
table_same tables i t lt = ap (λ o. unwrap_or o no_handles) (get_set_same tables i t lt)

pub length_places : (p : Place) (hs : List HandleValue) (owners : List Place) → length (with_places p hs owners) ≡ length owners
length_places p [] owners = refl
length_places p (h ∷ hs) owners = length_places p hs (slice_set owners h.serial p) ∙ length-set owners h.serial p

pub flags_length : (fs : List Frame) (cs : List Bool) → length (closed_after_trap fs cs) ≡ length cs
flags_length [] cs = refl
flags_length (f ∷ fs) cs = flags_length fs (slice_set cs f.instance true) ∙ length-set cs f.instance true

pub table_none : (n i : ℕ) → table_at (replicate n no_handles) i ≡ no_handles
table_none zero i = refl
table_none (suc n) zero = refl
table_none (suc n) (suc i) = table_none n i
