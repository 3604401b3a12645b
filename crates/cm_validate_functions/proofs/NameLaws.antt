-- What texts name.
use Rattle.std.proofs.Common.{◌≡◌, ◌<◌, ◌+◌, ◌||◌, not, ℕ, suc, Bool, true, false, cond, if◌then◌else◌, List, [], ◌∷◌, length, Option, Some, None, refl, sym, ap, ◌∙◌, arith}
use Rattle.std.specs.List.{after_first, before_first, list_any, position_or_len}
use Rattle.cm_validate_functions.specs.FuncNames.{NameParts, is_hash, parts_of}

there : (p : ℕ → Bool) (xs : List ℕ) → position_or_len p xs < length xs → list_any p xs ≡ true
there p [] lt = absurd (omega (arith, lt))
there p (x ∷ xs) lt = by (p x) (there p xs) lt
  where
    by : (b : Bool) → (position_or_len p xs < length xs → list_any p xs ≡ true) → cond (not b) (1 + position_or_len p xs) 0 < suc (length xs) → (b || list_any p xs) ≡ true
    by true rest lt = refl
    by false rest lt = rest (omega (arith, lt))

nowhere : (p : ℕ → Bool) (xs : List ℕ) → position_or_len p xs ≡ length xs → list_any p xs ≡ false
nowhere p [] e = refl
nowhere p (x ∷ xs) e = by (p x) (nowhere p xs) e
  where
    by : (b : Bool) → (position_or_len p xs ≡ length xs → list_any p xs ≡ false) → cond (not b) (1 + position_or_len p xs) 0 ≡ suc (length xs) → (b || list_any p xs) ≡ false
    by true rest e = absurd (omega (arith, e))
    by false rest e = rest (omega (arith, e))

abbrev pub named : Option (List ℕ) → List ℕ → NameParts
named interface name = record { interface = interface; name = name }

pub parts_split : (text a b : List ℕ) → a ≡ before_first is_hash text → b ≡ after_first is_hash text → position_or_len is_hash text < length text → named (Some a) b ≡ parts_of text
parts_split text a b front behind lt =
    ap (λ (x : List ℕ). named (Some x) b) front
    ∙ ap (named (Some (before_first is_hash text))) behind
    ∙ sym (ap (λ (t : Bool). if t then named (Some (before_first is_hash text)) (after_first is_hash text) else named None text) (there is_hash text lt))

pub parts_whole : (text : List ℕ) → position_or_len is_hash text ≡ length text → named None text ≡ parts_of text
parts_whole text e =
    sym (ap (λ (t : Bool). if t then named (Some (before_first is_hash text)) (after_first is_hash text) else named None text) (nowhere is_hash text e))
