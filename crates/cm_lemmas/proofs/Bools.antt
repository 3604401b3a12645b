-- Bools: what `&&`, `||` and `not` say of each other, and tests that tell equal things.
use Rattle.std.proofs.Common.{Bool, ◌≡◌, true, false, ◌<◌, arith, refl, ◌||◌, not, cond, sym}
use Rattle.std.specs.Prelude.{if◌then◌else◌, ◌&&◌}

pub not_both : (b : Bool) → b ≡ true → b ≡ false → ⊥
not_both b t f = cc

pub picked_pos : (a b : Bool) → 0 < (if a then 1 else if b then 2 else 4)
picked_pos true b = omega arith
picked_pos false true = omega arith
picked_pos false false = omega arith

pub hit_by : (a b : Bool) → 0 < (if a && b then 1 else 0) → (a ≡ true) × (b ≡ true)
hit_by true true lt = (refl, refl)
hit_by true false lt = absurd (omega (arith, lt))
hit_by false b lt = absurd (omega (arith, lt))

pub true_not_false : true ≡ false → ⊥
true_not_false e = cc

pub false_not_true : false ≡ true → ⊥
false_not_true e = cc

pub and_true : (b : Bool) → (b && true) ≡ b
and_true true = refl
and_true false = refl

pub or_false : (b : Bool) → (b || false) ≡ b
or_false true = refl
or_false false = refl

pub or_left : (a b : Bool) → (a || b) ≡ false → a ≡ false
or_left true b e = e
or_left false b e = refl

pub or_right : (a b : Bool) → (a || b) ≡ false → b ≡ false
or_right true b e = absurd cc
or_right false b e = e

pub was_new : (b new : Bool) → new ≡ not b → new ≡ true → b ≡ false
was_new true new e f = absurd cc
was_new false new e f = refl

-- whether a text is new
pub was_seen : (b new : Bool) → new ≡ not b → new ≡ false → b ≡ true
was_seen true new e f = refl
was_seen false new e f = absurd cc

pub both_left : (a b : Bool) → (a && b) ≡ true → a ≡ true
both_left true b h = refl
both_left false b h = absurd cc

pub both_right : (a b : Bool) → (a && b) ≡ true → b ≡ true
both_right true b h = h
both_right false b h = absurd cc

pub or_false_turned : (b : Bool) → b ≡ (b || false)
or_false_turned true = refl
or_false_turned false = refl

pub one_more : (b f a n : Bool) → (not (cond b true f) && (a && not n)) ≡ ((not f && a) && not (b || n))
one_more true true a n = refl
one_more true false true n = refl
one_more true false false n = refl
one_more false true a n = refl
one_more false false true n = refl
one_more false false false n = refl

pub and_assoc : (a b c : Bool) → ((a && b) && c) ≡ (a && (b && c))
and_assoc true b c = refl
and_assoc false b c = refl

pub both_true : (a b : Bool) → (a && b) ≡ true → (a ≡ true) × (b ≡ true)
both_true true b e = (refl, e)
both_true false b e = absurd cc

pub true_is_not_false : (b : Bool) → b ≡ false → b ≡ true → ⊥
true_is_not_false b p q = cc

pub and_false_by : (b c d : Bool) → (c ≡ false → d ≡ false) → (b && c) ≡ false → (b && d) ≡ false
and_false_by true c d h e = h e
and_false_by false c d h e = refl

pub bools : (a b : Bool) → (a ≡ true → b ≡ true) → (b ≡ true → a ≡ true) → a ≡ b
bools true b f g = sym (f refl)
bools false true f g = g refl
bools false false f g = refl
