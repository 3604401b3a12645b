-- What a write and a growth leave of a memory, and of the memories of a set.
use Rattle.std.proofs.Common.{◌≡◌, ℕ, zero, suc, ◌+◌, ◌-◌, ◌*◌, ◌/◌, ◌<◌, ◌≤◌, inl, inr, List, [], ◌∷◌}
use Rattle.std.proofs.Common.{◌++◌, length, take, drop, Option, refl, ap, ◌∙◌, arith}
use Rattle.std.specs.Prelude.{replicate, slice_get, slice_index, slice_set, unwrap_or}
use Rattle.std.proofs.Math.Nat.{div-mul-le_self, lt-div-mul-add}
use Rattle.std.proofs.lemmas.Bool.{cases_lt}
use Rattle.std.proofs.lemmas.List.{get_or-append_right, get_or-drop}
use Rattle.std.proofs.lemmas.List.{get_or-take, get_or_append_left}
use Rattle.std.proofs.lemmas.List.{length-append, length-drop, length-replicate, length-take}
use Rattle.cm_machine_model.specs.declared.limits.TheConstants.{MAX_PAGES, PAGE_SIZE}
use Rattle.cm_machine_model.specs.Memories.{after_growth, after_write, memory_at, pages_of}
use Rattle.cm_machine_model.specs.State.{State}
use Rattle.cm_machine_model.specs.Step.{Fits}
use Rattle.cm_machine_laws.specs.MemoryChanges.{GrowsExactly, HasPages, OthersStay, WritesExactly}
use Rattle.cm_machine_model.proofs.MemoriesLaws.{memory_set}
use Rattle.cm_lemmas.proofs.Numbers.{zero_at}

-- ---- one memory

pub writes_exactly : (memory : List ℕ) (at : ℕ) (bytes : List ℕ) → at + length bytes ≤ length memory
    → WritesExactly memory at bytes (after_write memory at bytes)
writes_exactly memory at bytes inside = record {
  same_length = long ∙ size;
  inside = inside;
  stands = λ k lt.
      get_or_append_left (front ++ bytes) behind 0 (at + k) (omega (arith, lt, front_size, length-append front bytes))
      ∙ (get_or-append_right front bytes at (at + k) 0 front_size (omega arith)
      ∙ ap (λ (n : ℕ). slice_index bytes n) (back k));
  before = λ a lt.
      get_or_append_left (front ++ bytes) behind 0 a (omega (arith, lt, front_size, length-append front bytes))
      ∙ (get_or_append_left front bytes 0 a (omega (arith, lt, front_size)) ∙ get_or-take at memory a 0 lt);
  behind = λ a le.
      get_or-append_right (front ++ bytes) behind (at + length bytes) a 0 both le
      ∙ (get_or-drop (at + length bytes) memory (a - (at + length bytes)) 0
      ∙ ap (λ (n : ℕ). slice_index memory n) (there a le));
} where
  front : List ℕ
  front = take at memory

  behind : List ℕ
  behind = drop (at + length bytes) memory

  front_size : length front ≡ at
  front_size = omega (arith, inside, length-take at memory)

  both : length (front ++ bytes) ≡ at + length bytes
  both = length-append front bytes ∙ ap (λ (n : ℕ). n + length bytes) front_size

  long : length (after_write memory at bytes) ≡ length (front ++ bytes) + length behind
  long = length-append (front ++ bytes) behind

  size : length (front ++ bytes) + length behind ≡ length memory
  size = omega (arith, inside, both, length-drop (at + length bytes) memory)

  back : (k : ℕ) → at + k - at ≡ k
  back k = omega arith

  there : (a : ℕ) → at + length bytes ≤ a → at + length bytes + (a - (at + length bytes)) ≡ a
  there a le = omega (arith, le)

pub grows_exactly : (memory : List ℕ) (pages : ℕ)
    → length memory + pages * PAGE_SIZE ≤ MAX_PAGES * PAGE_SIZE
    → GrowsExactly memory pages (after_growth memory pages)
grows_exactly memory pages fits = record {
  longer = length-append memory (replicate (pages * PAGE_SIZE) 0)
      ∙ ap (λ (n : ℕ). length memory + n) (length-replicate (pages * PAGE_SIZE) 0);
  most = fits;
  kept = λ a lt. get_or_append_left memory (replicate (pages * PAGE_SIZE) 0) 0 a lt;
  fresh_zeros = λ a le.
      get_or-append_right memory (replicate (pages * PAGE_SIZE) 0) (length memory) a 0 refl le
      ∙ zero_at (pages * PAGE_SIZE) (a - length memory);
}

pub has_pages : (memory : List ℕ) → HasPages memory (pages_of memory)
has_pages memory = (div-mul-le_self (length memory) PAGE_SIZE, omega (arith, more)) where
  more : length memory < length memory / PAGE_SIZE * PAGE_SIZE + PAGE_SIZE
  more = lt-div-mul-add {a = length memory} {b = PAGE_SIZE} (omega arith)

-- ---- one of the memories

set_length : (ms : List (List ℕ)) (i : ℕ) (m : List ℕ) → length (slice_set ms i m) ≡ length ms
set_length [] i m = refl
set_length (x ∷ ms) zero m = refl
set_length (x ∷ ms) (suc i) m = ap suc (set_length ms i m)

other_kept : (ms : List (List ℕ)) (i j : ℕ) (m : List ℕ) → (j ≡ i → ⊥)
    → slice_get (slice_set ms i m) j ≡ slice_get ms j
other_kept [] i j m ne = refl
other_kept (x ∷ ms) zero zero m ne = absurd (ne refl)
other_kept (x ∷ ms) zero (suc j) m ne = refl
other_kept (x ∷ ms) (suc i) zero m ne = refl
other_kept (x ∷ ms) (suc i) (suc j) m ne = other_kept ms i j m (λ e. ne (ap suc e))

pub memory_other : (ms : List (List ℕ)) (i j : ℕ) (m : List ℕ) → (j ≡ i → ⊥)
    → memory_at (slice_set ms i m) j ≡ memory_at ms j
memory_other ms i j m ne =
    ap (λ (o : Option (List ℕ)). unwrap_or o []) (other_kept ms i j m ne)

pub others_stay : (s new : State) (i : ℕ) (m : List ℕ) → new.memories ≡ slice_set s.memories i m
    → OthersStay s i new
others_stay s new i m is = (
  ap (λ (ms : List (List ℕ)). length ms) is ∙ set_length s.memories i m,
  λ j ne. ap (λ (ms : List (List ℕ)). memory_at ms j) is ∙ memory_other s.memories i j m ne,
)

pub memory_is : (s new : State) (i : ℕ) (m : List ℕ) → new.memories ≡ slice_set s.memories i m
    → i < length s.memories → memory_at new.memories i ≡ m
memory_is s new i m is lt =
    ap (λ (ms : List (List ℕ)). memory_at ms i) is ∙ memory_set s.memories i m lt

-- a growth that does not fit is one past the most pages
pub past_most : (s : State) (i pages : ℕ) → (Fits s i pages → ⊥)
    → MAX_PAGES * PAGE_SIZE < length (memory_at s.memories i) + pages * PAGE_SIZE
past_most s i pages not = elim (cases_lt (MAX_PAGES * PAGE_SIZE) (length (memory_at s.memories i) + pages * PAGE_SIZE)) [
  | inl lt ↦ lt
  | inr le ↦ absurd (not (omega (arith, le)))
]
