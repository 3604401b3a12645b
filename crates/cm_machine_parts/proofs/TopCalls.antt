-- The topmost call among the frames from the bottom up.
use Rattle.std.proofs.Common.{◌≡◌, ℕ, suc, ◌+◌, ◌<◌, ◌≤◌, List, [], ◌∷◌, ◌++◌, length, Option, Some, None, refl, sym, ap, subst, ◌∙◌, arith, get_or}
use Rattle.std.specs.Prelude.{◌-◌, reverse, take, slice_set}
use Rattle.std.proofs.Math.Seq.{take-suc}
use Rattle.std.proofs.lemmas.List.{reverse-append, length-reverse, length-take-le, set-get_or, set_split, drop_all}
use Rattle.cm_machine_model.specs.declared.frame.Frame.{Frame}
use Rattle.cm_machine_model.specs.Stack.{below_top}
use Rattle.cm_machine_model.specs.Work.{place_if_call, top_call}

one_more : (fs : List Frame) (k : ℕ) (f : Frame) → k < length fs → f ≡ get_or fs k f → reverse (take (suc k) fs) ≡ f ∷ reverse (take k fs)
one_more fs k f lt is = ap reverse (take-suc fs k f lt ∙ ap (λ (x : Frame). take k fs ++ (x ∷ [])) (sym is)) ∙ reverse-append (take k fs) (f ∷ [])

counted : (fs : List Frame) (k : ℕ) → k < length fs → length (reverse (take k fs)) ≡ k
counted fs k lt = length-reverse (take k fs) ∙ length-take-le k fs (omega arith)

-- the topmost call of one frame more
pub top_one : (fs : List Frame) (k : ℕ) (f : Frame) → k < length fs → f ≡ get_or fs k f → top_call (reverse (take (suc k) fs)) ≡ place_if_call f.purpose k (top_call (reverse (take k fs)))
top_one fs k f lt is = ap top_call (one_more fs k f lt is) ∙ ap (λ (n : ℕ). place_if_call f.purpose n (top_call (reverse (take k fs)))) (counted fs k lt)

set_last : (fs : List Frame) (k : ℕ) (f : Frame) → suc k ≡ length fs → reverse (slice_set fs k f) ≡ f ∷ reverse (take k fs)
set_last fs k f is =
    ap reverse (set_split fs k f (omega (arith, is)) ∙ ap (λ (rest : List Frame). take k fs ++ (f ∷ rest)) (drop_all (suc k) fs (omega (arith, is)))) ∙ reverse-append (take k fs) (f ∷ [])

-- a frame in the place of the last one stands on top of those below it
pub put_last : (fs : List Frame) (f : Frame) → 0 < length fs → reverse (slice_set fs (length fs - 1) f) ≡ f ∷ below_top (reverse fs)
put_last fs f some =
    let k = length fs - 1 in
    let is : suc k ≡ length fs = omega (arith, some) in
    set_last fs k f is ∙ ap (λ (below : List Frame). f ∷ below) (sym (ap below_top (ap reverse (sym (set-get_or fs k f)) ∙ set_last fs k (get_or fs k f) is)))
