-- Steps that are listed one after another.
use Rattle.std.proofs.Common.{◌≡◌, ℕ, suc, ◌+◌, ◌-◌, ◌<◌, ◌≤◌, List, ◌++◌, drop, length, map, get_or, append_assoc, append-nil, sym, ap, ◌∙◌, arith}
use Rattle.std.specs.Prelude.{true, ◌&&◌}
use Rattle.cm_layout.specs.Layouts.{part_of}
use Rattle.cm_layout.specs.Shapes.{parts_from}
use Rattle.cm_layout.specs.declared.layouts.Part.{Part}
use Rattle.cm_lemmas.proofs.Lists.{drop_past, next_element}
use Rattle.cm_abi_slots.specs.declared.steps.SlotStep.{SlotStep}
use Rattle.cm_abi_slots.specs.Steps.{are_plain, is_plain, repeated, steps_of, steps_of_parts}

pub plain_next : (ps : List Part) (i : ℕ) (x : Part) → i < length ps → x ≡ get_or ps i x
    → are_plain (parts_from (map part_of (drop i ps))) ≡ (is_plain (part_of x).1.shape && are_plain (parts_from (map part_of (drop (i + 1) ps))))
plain_next ps i x lt is = ap (λ qs. are_plain (parts_from qs)) (next_element part_of ps i x lt is)

pub plain_end : (ps : List Part) (i : ℕ) → length ps ≤ i → are_plain (parts_from (map part_of (drop i ps))) ≡ true
plain_end ps i past = ap (λ qs. are_plain (parts_from (map part_of qs))) (drop_past ps i past)

pub steps_next : (ps : List Part) (i : ℕ) (x : Part) (front pushed : List SlotStep) → i < length ps → x ≡ get_or ps i x
    → pushed ≡ front ++ steps_of (part_of x).1.shape
    → pushed ++ steps_of_parts (parts_from (map part_of (drop (i + 1) ps))) ≡ front ++ steps_of_parts (parts_from (map part_of (drop i ps)))
steps_next ps i x front pushed lt is e =
    ap (λ ys. ys ++ steps_of_parts (parts_from (map part_of (drop (i + 1) ps)))) e
    ∙ append_assoc front (steps_of (part_of x).1.shape) (steps_of_parts (parts_from (map part_of (drop (i + 1) ps))))
    ∙ ap (λ qs. front ++ steps_of_parts (parts_from qs)) (sym (next_element part_of ps i x lt is))

pub steps_end : (ps : List Part) (i : ℕ) (front : List SlotStep) → length ps ≤ i → front ≡ front ++ steps_of_parts (parts_from (map part_of (drop i ps)))
steps_end ps i front past = sym (append-nil front) ∙ ap (λ qs. front ++ steps_of_parts (parts_from (map part_of qs))) (sym (drop_past ps i past))

pub repeats_next : (one front pushed : List SlotStep) (count i : ℕ) → i < count → pushed ≡ front ++ one
    → pushed ++ repeated (count - (i + 1)) one ≡ front ++ repeated (count - i) one
repeats_next one front pushed count i lt e =
    ap (λ ys. ys ++ repeated (count - (i + 1)) one) e
    ∙ append_assoc front one (repeated (count - (i + 1)) one)
    ∙ ap (λ n. front ++ repeated n one) {x = suc (count - (i + 1))} {y = count - i} (omega (arith, lt))

pub repeats_end : (one front : List SlotStep) (count i : ℕ) → count ≤ i → front ≡ front ++ repeated (count - i) one
repeats_end one front count i past =
    sym (append-nil front) ∙ ap (λ n. front ++ repeated n one) {x = 0} {y = count - i} (omega (arith, past))
