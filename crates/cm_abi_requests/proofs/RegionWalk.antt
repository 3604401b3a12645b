-- The regions of parts, one request after another.
use Rattle.std.proofs.Common.{◌≡◌, ℕ, ◌+◌, ◌<◌, true, false, List, [], ◌∷◌, ◌++◌, length, drop, arith, refl, sym, ap, ◌∙◌, get_or, add-one, drop-cons, append_assoc}
use Rattle.std.specs.Prelude.{if◌then◌else◌}
use Rattle.cm_abi_model.specs.declared.request.Request.{Request}
use Rattle.cm_abi_model.specs.Answering.{begins_part, regions_of}
use Rattle.cm_abi_model.specs.declared.region.Region.{Region}

next_answer : (requests : List Request) (answers : List ℕ) (i : ℕ) (d : Request) → i < length requests → length answers ≡ length requests
    → regions_of (drop i requests) (drop i answers)
    ≡ (if begins_part (drop (i + 1) requests) then record { at = get_or answers i 0; size = (get_or requests i d).size } ∷ regions_of (drop (i + 1) requests) (drop (i + 1) answers)
    else regions_of (drop (i + 1) requests) (drop (i + 1) answers))
next_answer requests answers i d lt len =
    let within : i < length answers = omega (arith, lt, len) in
    rw (add-one, drop-cons requests i d lt, drop-cons answers i 0 within) refl

pub last_one : (requests : List Request) (answers : List ℕ) (i : ℕ) (d : Request) (done behind total : List Region) → i < length requests → length answers ≡ length requests
    → begins_part (drop (i + 1) requests) ≡ true
    → behind ≡ done ++ record { at = get_or answers i 0; size = (get_or requests i d).size } ∷ []
    → done ++ regions_of (drop i requests) (drop i answers) ≡ total
    → behind ++ regions_of (drop (i + 1) requests) (drop (i + 1) answers) ≡ total
last_one requests answers i d done behind total lt len last is so =
    let next = next_answer requests answers i d lt len in
    let here : regions_of (drop i requests) (drop i answers) ≡ record { at = get_or answers i 0; size = (get_or requests i d).size } ∷ regions_of (drop (i + 1) requests) (drop (i + 1) answers) =
    next ∙ (rw last refl) in
    rw is (append_assoc done (record { at = get_or answers i 0; size = (get_or requests i d).size } ∷ []) (regions_of (drop (i + 1) requests) (drop (i + 1) answers))
    ∙ (ap (λ rs. done ++ rs) (sym here) ∙ so))

pub not_last : (requests : List Request) (answers : List ℕ) (i : ℕ) (d : Request) (done behind total : List Region) → i < length requests → length answers ≡ length requests
    → begins_part (drop (i + 1) requests) ≡ false → behind ≡ done
    → done ++ regions_of (drop i requests) (drop i answers) ≡ total
    → behind ++ regions_of (drop (i + 1) requests) (drop (i + 1) answers) ≡ total
not_last requests answers i d done behind total lt len other is so =
    let next = next_answer requests answers i d lt len in
    let here : regions_of (drop i requests) (drop i answers) ≡ regions_of (drop (i + 1) requests) (drop (i + 1) answers) = next ∙ (rw other refl) in
    rw is (ap (λ rs. done ++ rs) (sym here) ∙ so)
