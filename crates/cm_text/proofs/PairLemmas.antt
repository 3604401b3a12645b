-- A run of ASCII midway from one encoding into another.
use Rattle.std.proofs.Common.{◌≡◌, ℕ, ◌+◌, ◌*◌, ◌/◌, ◌<◌, ◌≤◌, List, [], ◌∷◌, ◌++◌, length, take, drop, get_or, refl, sym, ap, subst, ◌∙◌, arith, zero, suc, length-append, length-drop, Fits, w8, true, cond, take_all}
use Rattle.std.proofs.lemmas.List.{take-append-drop, length-take-le, drop_more}
use Rattle.std.proofs.lemmas.Bool.Decides.{nat_tests}
use Rattle.std.proofs.lemmas.List.Sums.{prefix_len-le-length}
use Rattle.std.specs.Char.{IsScalar, is_ascii}
use Rattle.std.specs.List.{AllByRecursion, flat_map, prefix_len}
use Rattle.cm_text.specs.Ascii.{wide}
use Rattle.cm_text.specs.Latin1.{HasLatin1, spell_latin1}
use Rattle.cm_text.specs.Text.{IsTextOfSize, BeginsWith, BeginsWithSome}
use Rattle.cm_text.specs.Utf16.{unit, units, first_bytes, spell_utf16}
use Rattle.cm_text.specs.Utf16Laws.{length_of_units, some_unit}
use Rattle.std.specs.Char.Escape.{encode_utf16}
use Rattle.cm_text.proofs.RunLemmas.{units_one}
use Rattle.cm_text.specs.Utf8.{spell_utf8}
use Rattle.cm_text.proofs.AsciiLemmas.{AreAscii, run_of, ascii_in_run, ascii_scalars, ascii_utf8, ascii_utf16, ascii_latin1, utf8_laws, utf16_laws, latin1_laws}
use Rattle.cm_text.proofs.MidwayLemmas.{Midway, room_for, further}
use Rattle.cm_text.proofs.UnitLemmas.{wide-first_bytes, length-units_half}

-- ---- from UTF-8 to UTF-16
module _ (bytes out : List ℕ) (at to n : ℕ) (is : n ≡ prefix_len is_ascii (drop at bytes)) (m : Midway IsScalar spell_utf8 spell_utf16 bytes at out to) where
  pub widen_room : IsTextOfSize IsScalar spell_utf8 spell_utf16 bytes (length out) → to + 2 * n ≤ length out
  widen_room whole =
      let ys = drop at bytes in
      let run = run_of ys n is in
      let room = room_for IsScalar spell_utf8 spell_utf16 utf8_laws bytes out at to (take n ys) (drop n ys) whole m run.all run.split in
      omega (arith, room, run.size_wide)

  pub widen_further : (new : List ℕ) → to + 2 * n ≤ length new → take (to + 2 * n) new ≡ take to out ++ flat_map wide (take n (drop at bytes))
      → Midway IsScalar spell_utf8 spell_utf16 bytes (at + n) new (to + 2 * n)
  widen_further new room written =
      let ys = drop at bytes in
      let run = run_of ys n is in
      further IsScalar spell_utf8 spell_utf16 utf8_laws bytes out new at to n (2 * n) (take n ys) (drop n ys) m run.all run.split run.size room
      (written ∙ ap (λ zs. take to out ++ zs) (sym run.as_wide))

-- ---- from UTF-16 to UTF-8
take-units : (k : ℕ) (xs : List ℕ) → take k (units xs) ≡ units (take (2 * k) xs)
take-units zero xs = refl
take-units (suc k) [] = ap (λ n. units (take n [])) {x = suc (suc (2 * k))} {y = 2 * suc k} (omega arith)
take-units (suc k) (x ∷ []) = ap (λ n. units (take n (x ∷ []))) {x = suc (suc (2 * k))} {y = 2 * suc k} (omega arith)
take-units (suc k) (x ∷ y ∷ xs) =
    ap (λ us. unit x y ∷ us) (take-units k xs) ∙ ap (λ n. units (take n (x ∷ y ∷ xs))) {x = suc (suc (2 * k))} {y = 2 * suc k} (omega arith)

first_of_ascii : (zs : List ℕ) → AreAscii (units zs) → AreAscii (first_bytes zs)
first_of_ascii [] all = tt
first_of_ascii (x ∷ []) all = tt
first_of_ascii (x ∷ y ∷ zs) all = (omega (arith, all.0), first_of_ascii zs all.1)

-- a run of ASCII units at the front of bytes
pub record UnitRun (ys : List ℕ) (n : ℕ) : Type 0 where
  pub all : AreAscii (first_bytes (take (2 * n) ys))
  pub whole : flat_map wide (first_bytes (take (2 * n) ys)) ≡ take (2 * n) ys
  pub within : 2 * n ≤ length ys
  pub count : length (first_bytes (take (2 * n) ys)) ≡ n

length-first_bytes : (xs : List ℕ) → length (first_bytes xs) ≡ length xs / 2
length-first_bytes [] = refl
length-first_bytes (x ∷ []) = omega arith
length-first_bytes (x ∷ y ∷ xs) = omega (arith, length-first_bytes xs)

pub unit_run_of : (ys : List ℕ) (n : ℕ) → n ≡ prefix_len is_ascii (units ys) → UnitRun ys n
unit_run_of ys n is =
    let within : 2 * n ≤ length ys = omega (arith, prefix_len-le-length is_ascii (units ys), length-units_half ys) in
    let long : length (take (2 * n) ys) ≡ 2 * n = length-take-le (2 * n) ys within in
    let all : AreAscii (units (take (2 * n) ys)) =
    subst AreAscii (take-units n ys) (subst (λ k. AreAscii (take k (units ys))) (sym is) (ascii_in_run (units ys))) in
    record {
      all = first_of_ascii (take (2 * n) ys) all;
      whole = wide-first_bytes n (take (2 * n) ys) long all;
      within = within;
      count = length-first_bytes (take (2 * n) ys) ∙ ap (λ k. k / 2) long ∙ omega arith;
    }

module _ (bytes out : List ℕ) (at to n : ℕ) (is : n ≡ prefix_len is_ascii (units (drop at bytes))) (m : Midway IsScalar spell_utf16 spell_utf8 bytes at out to) where
  narrow_split : (ys : List ℕ) (n : ℕ) → UnitRun ys n → ys ≡ flat_map spell_utf16 (first_bytes (take (2 * n) ys)) ++ drop (2 * n) ys
  narrow_split ys n run =
      sym (take-append-drop (2 * n) ys) ∙ ap (λ zs. zs ++ drop (2 * n) ys) (sym (ascii_utf16 (first_bytes (take (2 * n) ys)) run.all ∙ run.whole))

  pub narrow_room : IsTextOfSize IsScalar spell_utf16 spell_utf8 bytes (length out) → to + n ≤ length out
  narrow_room whole =
      let ys = drop at bytes in
      let run = unit_run_of ys n is in
      let xs = first_bytes (take (2 * n) ys) in
      let room = room_for IsScalar spell_utf16 spell_utf8 utf16_laws bytes out at to xs (drop (2 * n) ys) whole m (ascii_scalars xs run.all) (narrow_split ys n run) in
      omega (arith, room, ap length (ascii_utf8 xs run.all), run.count)

  pub narrow_further : (new : List ℕ) → to + n ≤ length new → take (to + n) new ≡ take to out ++ first_bytes (take (2 * n) (drop at bytes))
      → Midway IsScalar spell_utf16 spell_utf8 bytes (at + 2 * n) new (to + n)
  narrow_further new room written =
      let ys = drop at bytes in
      let run = unit_run_of ys n is in
      let xs = first_bytes (take (2 * n) ys) in
      further IsScalar spell_utf16 spell_utf8 utf16_laws bytes out new at to (2 * n) n xs (drop (2 * n) ys) m (ascii_scalars xs run.all) (narrow_split ys n run)
      (ap length (ascii_utf16 xs run.all ∙ run.whole) ∙ length-take-le (2 * n) ys run.within) room
      (written ∙ ap (λ zs. take to out ++ zs) (sym (ascii_utf8 xs run.all)))

  pub narrow_count : UnitRun (drop at bytes) n
  narrow_count = unit_run_of (drop at bytes) n is

-- ---- from Latin-1
pub latin1_spelled : (xs : List ℕ) → flat_map spell_latin1 xs ≡ xs
latin1_spelled [] = refl
latin1_spelled (x ∷ xs) = ap (λ ys. x ∷ ys) (latin1_spelled xs)

-- any bytes are a text
pub fits_latin1 : (xs : List ℕ) → ((i : ℕ) → Fits w8 (get_or xs i 0)) → AllByRecursion HasLatin1 xs
fits_latin1 [] fits = tt
fits_latin1 (x ∷ xs) fits = ((fits 0).fits, fits_latin1 xs (λ i. fits (suc i)))

module _ (bytes out : List ℕ) (at to n : ℕ) (is : n ≡ prefix_len is_ascii (drop at bytes)) (m : Midway HasLatin1 spell_latin1 spell_utf8 bytes at out to) where
  copy_split : (ys : List ℕ) (n : ℕ) → ys ≡ flat_map spell_latin1 (take n ys) ++ drop n ys
  copy_split ys n = sym (take-append-drop n ys) ∙ ap (λ zs. zs ++ drop n ys) (sym (latin1_spelled (take n ys)))

  copy_ascii : (ys : List ℕ) (n : ℕ) → n ≡ prefix_len is_ascii ys → AreAscii (take n ys)
  copy_ascii ys n is = subst (λ k. AreAscii (take k ys)) (sym is) (ascii_in_run ys)

  pub copy_room : IsTextOfSize HasLatin1 spell_latin1 spell_utf8 bytes (length out) → to + n ≤ length out
  copy_room whole =
      let ys = drop at bytes in
      let xs = take n ys in
      let all : AreAscii xs = copy_ascii ys n is in
      let room = room_for HasLatin1 spell_latin1 spell_utf8 latin1_laws bytes out at to xs (drop n ys) whole m (ascii_latin1 xs all) (copy_split ys n) in
      let long : length xs ≡ n = length-take-le n ys (omega (arith, prefix_len-le-length is_ascii ys)) in
      omega (arith, room, ap length (ascii_utf8 xs all))

  pub copy_further : (new : List ℕ) → to + n ≤ length new → take (to + n) new ≡ take to out ++ take n (drop at bytes)
      → Midway HasLatin1 spell_latin1 spell_utf8 bytes (at + n) new (to + n)
  copy_further new room written =
      let ys = drop at bytes in
      let xs = take n ys in
      let all : AreAscii xs = copy_ascii ys n is in
      let long : length xs ≡ n = length-take-le n ys (omega (arith, prefix_len-le-length is_ascii ys)) in
      further HasLatin1 spell_latin1 spell_utf8 latin1_laws bytes out new at to n n xs (drop n ys) m (ascii_latin1 xs all) (copy_split ys n)
      (ap length (latin1_spelled xs) ∙ long) room
      (written ∙ ap (λ zs. take to out ++ zs) (sym (ascii_utf8 xs all)))

pub latin1_begins : (bytes : List ℕ) (at : ℕ) → at < length bytes → get_or bytes at 0 < 256 → BeginsWith HasLatin1 spell_latin1 (drop at bytes) (get_or bytes at 0) 1
latin1_begins bytes at within below = record { spelled = below; rest = drop (at + 1) bytes; is = drop_more bytes at 0 within; size_is = refl }

-- ---- the first unit of a text in UTF-16
two_bytes : (c : ℕ) → 2 ≤ length (spell_utf16 c)
two_bytes c = omega (arith, length_of_units (encode_utf16 c), some_unit c)

pub two_left : (bytes : List ℕ) (at : ℕ) → at < length bytes → BeginsWithSome IsScalar spell_utf16 (drop at bytes) → at + 2 ≤ length bytes
two_left bytes at within b =
    omega (arith, two_bytes b.0, ap length b.1.1.is, length-append (spell_utf16 b.0) b.1.1.rest, length-drop at bytes)

pub unit_run_some : (bytes : List ℕ) (at : ℕ) → at + 2 ≤ length bytes → get_or bytes at 0 < 128 → get_or bytes (at + 1) 0 ≡ 0 → 0 < prefix_len is_ascii (units (drop at bytes))
unit_run_some bytes at within low high =
    omega (arith, units_one at 0 (prefix_len is_ascii (units (drop at bytes))) bytes within low high (omega arith))

-- units that are ASCII as a whole
pub all_ascii_units : (bytes : List ℕ) (n : ℕ) → prefix_len is_ascii (units bytes) ≡ n → length bytes ≡ 2 * n → AreAscii (units bytes)
all_ascii_units bytes n whole half =
    subst AreAscii (take_all (prefix_len is_ascii (units bytes)) (units bytes) (omega (arith, length-units_half bytes))) (ascii_in_run (units bytes))

ascii_one : (x : ℕ) → x < 128 → is_ascii x ≡ true
ascii_one x low = grind (arith, nat_tests)

pub run_of_ascii : (xs : List ℕ) → AreAscii xs → prefix_len is_ascii xs ≡ length xs
run_of_ascii [] all = refl
run_of_ascii (x ∷ xs) all =
    ap (λ b. cond b (1 + prefix_len is_ascii xs) 0) (ascii_one x all.0) ∙ ap (λ n. 1 + n) (run_of_ascii xs all.1) ∙ omega arith
