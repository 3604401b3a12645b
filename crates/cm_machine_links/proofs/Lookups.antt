-- Look-ups in lists.
use Rattle.std.proofs.Common.{◌≡◌, ◌∙◌, ℕ, List, map, Some, None, slice_get, ap, option_and_then, Vec, Global}
use Rattle.std.proofs.lemmas.Option.{slice_get-map}
use Rattle.std.specs.Option.{option_map}
use Rattle.cm_machine_links.specs.declared.core_funcs.CoreFunc.{CoreFunc}

-- in a row that is there, and in none
pub row_found : (rows : List (Vec CoreFunc Global)) (i f : ℕ) (row : Vec CoreFunc Global) → slice_get rows i ≡ Some row
    → option_and_then (λ fs. slice_get fs f) (slice_get (map (λ v. v.items) rows) i) ≡ slice_get row.items f
row_found rows i f row e = ap (option_and_then (λ fs. slice_get fs f)) (slice_get-map (λ v. v.items) rows i ∙ ap (option_map (λ v. v.items)) e)

pub row_missing : (rows : List (Vec CoreFunc Global)) (i f : ℕ) → slice_get rows i ≡ None
    → option_and_then (λ fs. slice_get fs f) (slice_get (map (λ v. v.items) rows) i) ≡ None
row_missing rows i f e = ap (option_and_then (λ fs. slice_get fs f)) (slice_get-map (λ v. v.items) rows i ∙ ap (option_map (λ v. v.items)) e)
