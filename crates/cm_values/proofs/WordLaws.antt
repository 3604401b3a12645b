-- The laws of marks, words and things behind commas.
use Rattle.std.proofs.Common.{◌≡◌, ℕ, suc, ◌<◌, ◌≤◌, List, [], ◌∷◌, length, Option, Some, None, Result, Ok, ap, inl, inr, arith}
use Rattle.cm_values.specs.declared.value_fault.Fault.{Fault}
use Rattle.cm_values.specs.declared.value_fault.ValueReason.{ValueReason}
use Rattle.cm_values.specs.declared.value_fault.ValueReason.TheVariants as reason
use Rattle.cm_values.specs.declared.kind.Kind.TheVariants as kind
use Rattle.cm_values.specs.Grammar.{first, Grammar, done, ◌>>=◌, byte, byte_reads, passes, chosen}
use Rattle.cm_values.specs.Exact.{Lawful, Moves}
use Rattle.cm_values.specs.Words.{belongs, expect, gap, is, known, magnitude, mark, mark_gap, name, number_below, place_in, separator, some_word, this_byte, word}
use Rattle.cm_values.specs.Lists.{inner_items, items, next_item, some_items}
use Rattle.cm_values.proofs.Tools.{if_ok, length_behind, then_ok}
use Rattle.cm_values.proofs.GrammarLaws.{bind_lawful, byte_lawful, checked_lawful, chosen_lawful, done_lawful, fail_lawful, run_lawful}
use Rattle.cm_values.proofs.StepLaws.{steps_lawful}
use Rattle.cm_lemmas.proofs.Equations.{ok_is}
use Rattle.cm_lemmas.proofs.Results.{ok_of}

pub expect_lawful : (b : ℕ) → Lawful (expect b)
expect_lawful b = byte_lawful (this_byte b)

pub gap_lawful : Lawful gap
gap_lawful = bind_lawful _ _ (run_lawful (belongs kind.Blank)) (λ _. done_lawful tt)

pub mark_lawful : (b : ℕ) → Lawful (mark b)
mark_lawful b = bind_lawful _ _ gap_lawful (λ _. expect_lawful b)

pub mark_gap_lawful : (b : ℕ) → Lawful (mark_gap b)
mark_gap_lawful b = bind_lawful _ _ (expect_lawful b) (λ _. gap_lawful)

pub separator_lawful : (closing : ℕ) → Lawful (separator closing)
separator_lawful closing = bind_lawful _ _ gap_lawful (λ _. chosen_lawful _ _ _ (mark_gap_lawful 0x2C) (chosen_lawful _ _ _ (done_lawful tt) (fail_lawful reason.Unexpected)))

pub word_lawful : Lawful word
word_lawful = checked_lawful _ some_word (run_lawful (belongs kind.Word))

pub name_lawful : Lawful name
name_lawful = chosen_lawful _ _ _ (bind_lawful _ _ (expect_lawful 0x25) (λ _. word_lawful)) word_lawful

pub known_lawful : (names : List (List ℕ)) → Lawful (known names)
known_lawful names = bind_lawful _ _ gap_lawful (λ _. checked_lawful _ (place_in names) name_lawful)

pub magnitude_lawful : (limit : ℕ) → Lawful (magnitude limit)
magnitude_lawful limit = checked_lawful _ (number_below limit) (run_lawful (belongs kind.Digits))

-- ---- reading shortens the text

pub no_longer : {A : Type 0} (g : Grammar A) → Lawful g → (bytes : List ℕ) (x : A) (rest : List ℕ) → g.reads bytes ≡ Ok (x, rest) → length rest ≤ length bytes
no_longer g l bytes x rest e = let t = l.takes bytes x rest e in omega (arith, length_behind bytes t.front rest t.parts)

byte_shortens : {K : Type 0} (table : ℕ → Result K ValueReason) (bytes : List ℕ) (k : K) (rest : List ℕ) → byte_reads table bytes ≡ Ok (k, rest) → length bytes ≡ suc (length rest)
byte_shortens table bytes k rest e =
    let t = (byte_lawful table).takes bytes k rest e in
    omega (arith, length_behind bytes t.front rest t.parts, ap length t.spells.1)

-- what is read behind a byte leaves fewer bytes
pub behind_byte : {K A : Type 0} (table : ℕ → Result K ValueReason) (h : K → Grammar A) → ((k : K) → Lawful (h k)) → (bytes : List ℕ) (x : A) (rest : List ℕ) → (byte table >>= h).reads bytes ≡ Ok (x, rest) → length rest < length bytes
behind_byte {K} table h l bytes x rest e =
    let q = then_ok (byte_reads table bytes) (λ (p : K × List ℕ). (h p.0).reads p.1) (x, rest) e in
    omega (arith, byte_shortens table bytes q.0.0 q.0.1 q.1, no_longer (h q.0.0) (l q.0.0) q.0.1 x rest q.2)

abbrev none_of : (A : Type 0) → Option A
none_of A = None

abbrev some_of : {A : Type 0} → A → Option A
some_of x = Some x

pub none_is_no_some : (A : Type 0) (bytes rest : List ℕ) (x : A) → ok_of {A = Option A × List ℕ} Fault (none_of A, bytes) ≡ Ok (Some x, rest) → ⊥
none_is_no_some A bytes rest x e =
    let q = ok_is {A = Option A × List ℕ} Fault (none_of A, bytes) (Some x, rest) e in
    let h : none_of A ≡ Some x = ap (λ (z : Option A × List ℕ). z.0) q in
    absurd cc

-- Reading takes a byte at least.
abbrev pub Shortens : {A : Type 0} → Grammar A → Type 0
Shortens {A} g = (bytes : List ℕ) (x : A) (rest : List ℕ) → g.reads bytes ≡ Ok (x, rest) → length rest < length bytes

pub some_moves : {A : Type 0} (g : Grammar A) → Shortens g → (bytes : List ℕ) (x : A) (rest : List ℕ) → (g >>= λ y. done (Some y)).reads bytes ≡ Ok (Some x, rest) → length rest < length bytes
some_moves {A} g l bytes x rest e =
    let q = then_ok (g.reads bytes) (λ (p : A × List ℕ). ok_of Fault (some_of p.0, p.1)) (Some x, rest) e in
    let k = ok_is {A = Option A × List ℕ} Fault (Some q.0.0, q.0.1) (Some x, rest) q.2 in
    omega (arith, l bytes q.0.0 q.0.1 q.1, ap (λ (z : Option A × List ℕ). length z.1) k)

-- ---- things behind commas

some_lawful : {A : Type 0} (g : Grammar A) → Lawful g → Lawful (g >>= λ x. done (Some x))
some_lawful g l = bind_lawful g (λ x. done (Some x)) l (λ x. done_lawful (Some x))

-- behind the comma
abbrev behind_comma : {A : Type 0} → ℕ → Grammar A → Grammar (Option A)
behind_comma closing g = gap >>= λ _. chosen (is closing) (done None) (g >>= λ x. done (Some x))

behind_comma_lawful : {A : Type 0} (closing : ℕ) (g : Grammar A) → Lawful g → Lawful (behind_comma closing g)
behind_comma_lawful closing g l = bind_lawful _ _ gap_lawful (λ _. chosen_lawful _ _ _ (done_lawful None) (some_lawful g l))

pub next_item_lawful : {A : Type 0} (closing : ℕ) (g : Grammar A) → Lawful g → Lawful (next_item closing g)
next_item_lawful closing g l = bind_lawful _ _ gap_lawful (λ _. chosen_lawful _ _ _ (bind_lawful _ _ (expect_lawful 0x2C) (λ _. behind_comma_lawful closing g l)) (done_lawful None))

pub next_item_moves : {A : Type 0} (closing : ℕ) (g : Grammar A) → Lawful g → Moves (next_item closing g)
next_item_moves {A} closing g l bytes x rest e =
    let q = then_ok (gap.reads bytes) (λ (p : Unit {0} × List ℕ). (chosen (is 0x2C) (expect 0x2C >>= λ _. behind_comma closing g) (done None)).reads p.1) (Some x, rest) e in
    let less = no_longer gap gap_lawful bytes q.0.0 q.0.1 q.1 in
    elim (if_ok (passes (is 0x2C) (first q.0.1)) ((expect 0x2C >>= λ _. behind_comma closing g).reads q.0.1) (Ok (None, q.0.1)) (Ok (Some x, rest)) q.2) [
      | inl p ↦ omega (arith, less, behind_byte (this_byte 0x2C) (λ _. behind_comma closing g) (λ _. behind_comma_lawful closing g l) q.0.1 (Some x) rest p.1)
      | inr p ↦ absurd (none_is_no_some A q.0.1 rest x p.1)
    ]

pub some_items_lawful : {A : Type 0} (closing : ℕ) (g : Grammar A) → Lawful g → Lawful (some_items closing g)
some_items_lawful closing g l = bind_lawful _ _ l (λ x. bind_lawful _ _ (steps_lawful (next_item closing g) (next_item_lawful closing g l) (next_item_moves closing g l)) (λ xs. done_lawful (x ∷ xs)))

pub inner_items_lawful : {A : Type 0} (closing : ℕ) (g : Grammar A) → Lawful g → Lawful (inner_items closing g)
inner_items_lawful closing g l = bind_lawful _ _ gap_lawful (λ _. chosen_lawful _ _ _ (done_lawful []) (some_items_lawful closing g l))

pub items_lawful : {A : Type 0} (opening closing : ℕ) (g : Grammar A) → Lawful g → Lawful (items opening closing g)
items_lawful opening closing g l = bind_lawful _ _ (mark_lawful opening) (λ _. bind_lawful _ _ (inner_items_lawful closing g l) (λ xs. bind_lawful _ _ (mark_lawful closing) (λ _. done_lawful xs)))
