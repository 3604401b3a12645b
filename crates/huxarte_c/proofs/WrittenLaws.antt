-- Regions in the front of a buffer.
use Rattle.std.proofs.Common.{◌≡◌, ◌∙◌, ◌++◌, ◌≤◌, ℕ, List, ap, arith, drop, inl, inr, length, map, min, sym, take}
use Rattle.std.proofs.lemmas.Bool.Decides.{leb_tells}
use Rattle.cm_lemmas.proofs.Lists.{drop_past, take_all}
use Rattle.std.proofs.lemmas.List.{length-map, take-map}
use Rattle.cm_abi_model.specs.declared.region.Region.{Region}
use Rattle.huxarte_c_calls.specs.Texts.{written}
use Rattle.huxarte_c.specs.Written.{region_in}
use Rattle.huxarte_c.specs.declared.telling.HuxRegion.{HuxRegion}

fits : {A : Type 0} (room items : List A) → length items ≤ length room → take (length items) items ++ drop (length items) room ≡ written room items
fits {A} room items few = ap (λ (xs : List A). xs ++ drop (length items) room) (take_all items (length items) (omega arith) ∙ sym (take_all items (length room) few))

spills : {A : Type 0} (room items : List A) → length room ≤ length items → take (length room) items ++ drop (length room) room ≡ written room items
spills {A} room items many = ap (λ (xs : List A). take (length room) items ++ xs) (drop_past room (length room) (omega arith) ∙ sym (drop_past room (length items) many))

written_front : {A : Type 0} (room items : List A) (count : ℕ) → count ≡ min (length items) (length room)
    → take count items ++ drop count room ≡ written room items
written_front room items count is = elim (leb_tells (length items) (length room)) [
  | inl w ↦ let n : count ≡ length items = omega (arith, w.1) in ap (λ (k : ℕ). take k items ++ drop k room) n ∙ fits room items w.1
  | inr w ↦ let n : count ≡ length room = omega (arith, w.1) in ap (λ (k : ℕ). take k items ++ drop k room) n ∙ spills room items (omega (arith, w.1))
]

-- as many regions are put there as there is room for
pub regions_written : (room after : List HuxRegion) (regions : List Region) (count : ℕ) → count ≡ min (length regions) (length room)
    → after ≡ map region_in (take count regions) ++ drop count room → after ≡ written room (map region_in regions)
regions_written room after regions count is h =
    h ∙ ap (λ (xs : List HuxRegion). xs ++ drop count room) (sym (take-map region_in count regions))
    ∙ written_front room (map region_in regions) count (is ∙ ap (λ (n : ℕ). min n (length room)) (sym (length-map regions region_in)))
