-- A text midway into another encoding: some of its scalars were read and written.
use Rattle.std.proofs.Common.{◌≡◌, ℕ, ◌+◌, ◌<◌, ◌≤◌, List, [], ◌∷◌, ◌++◌, length, take, drop, refl, sym, ap, subst, ◌∙◌, arith, append_assoc, length-append, length-drop}
use Rattle.std.proofs.lemmas.List.{append-nil, take_all, drop_all, drop_at, length-take-le, drop-drop}
use Rattle.std.proofs.lemmas.List.Concat.{flat_map-append}
use Rattle.std.specs.List.{AllByRecursion, flat_map}
use Rattle.cm_text.specs.Text.{IsText, IsTextOfSize, IsSameText, BeginsWith, BeginsWithSome}
use Rattle.cm_text.proofs.TextLemmas.{Laws, Left, goes_on, one_text, no_scalar}
use Rattle.cm_lemmas.proofs.Lists.{all_numbers_joined}

pub record Midway (has : ℕ → Type 0) (spell spell_to : ℕ → List ℕ) (bytes : List ℕ) (at : ℕ) (out : List ℕ) (to : ℕ) : Type 0 where
  pub done : List ℕ
  pub all : AllByRecursion has done
  pub at_le : at ≤ length bytes
  pub to_le : to ≤ length out
  pub read : bytes ≡ flat_map spell done ++ drop at bytes
  pub wrote : take to out ≡ flat_map spell_to done

module _ (has : ℕ → Type 0) (spell spell_to : ℕ → List ℕ) (laws : Laws has spell) where
  pub begin : (bytes out : List ℕ) → Midway has spell spell_to bytes 0 out 0
  begin bytes out = record { done = []; all = tt; at_le = omega arith; to_le = omega arith; read = refl; wrote = refl }

  -- what is left of the scalars of a text, and the room for them
  pub left_of : (bytes out : List ℕ) (at to total : ℕ) → (whole : IsTextOfSize has spell spell_to bytes total) → (m : Midway has spell spell_to bytes at out to)
      → Left has spell whole.scalars m.done (drop at bytes)
  left_of bytes out at to total whole m = goes_on has spell laws m.done whole.scalars (drop at bytes) m.all whole.text.all (sym m.read ∙ sym whole.text.is)

  -- the scalars that are read next have room
  pub room_for : (bytes out : List ℕ) (at to : ℕ) (xs rest : List ℕ) → IsTextOfSize has spell spell_to bytes (length out) → Midway has spell spell_to bytes at out to
      → AllByRecursion has xs → drop at bytes ≡ flat_map spell xs ++ rest → to + length (flat_map spell_to xs) ≤ length out
  room_for bytes out at to xs rest whole m all split =
      let left = left_of bytes out at to (length out) whole m in
      let after = goes_on has spell laws xs left.rest rest all left.text.all (sym split ∙ sym left.text.is) in
      let parts : length (flat_map spell_to whole.scalars) ≡ length (flat_map spell_to m.done) + (length (flat_map spell_to xs) + length (flat_map spell_to after.rest)) =
      ap (λ cs. length (flat_map spell_to cs)) left.split
      ∙ ap length (flat_map-append spell_to m.done left.rest)
      ∙ length-append (flat_map spell_to m.done) (flat_map spell_to left.rest)
      ∙ ap (λ cs. length (flat_map spell_to m.done) + length (flat_map spell_to cs)) after.split
      ∙ ap (λ ys. length (flat_map spell_to m.done) + length ys) (flat_map-append spell_to xs after.rest)
      ∙ ap (λ n. length (flat_map spell_to m.done) + n) (length-append (flat_map spell_to xs) (flat_map spell_to after.rest)) in
      let written : length (flat_map spell_to m.done) ≡ to = sym (ap length m.wrote) ∙ length-take-le to out m.to_le in
      omega (arith, whole.size_is)

  -- some scalars further
  pub further : (bytes out new : List ℕ) (at to size n : ℕ) (xs rest : List ℕ) → Midway has spell spell_to bytes at out to
      → AllByRecursion has xs → drop at bytes ≡ flat_map spell xs ++ rest → length (flat_map spell xs) ≡ size → to + n ≤ length new
      → take (to + n) new ≡ take to out ++ flat_map spell_to xs → Midway has spell spell_to bytes (at + size) new (to + n)
  further bytes out new at to size n xs rest m all split size_is room is =
      let after : drop (at + size) bytes ≡ rest =
      sym (drop-drop size at bytes) ∙ ap (drop size) split ∙ drop_at (flat_map spell xs) rest size size_is in
      record {
        done = m.done ++ xs;
        all = all_numbers_joined has m.done xs m.all all;
        at_le = omega (arith, m.at_le, length-drop at bytes, ap length split, length-append (flat_map spell xs) rest);
        to_le = room;
        read = m.read ∙ ap (λ ys. flat_map spell m.done ++ ys) split ∙ sym (append_assoc (flat_map spell m.done) (flat_map spell xs) rest)
            ∙ ap (λ ys. ys ++ rest) (sym (flat_map-append spell m.done xs)) ∙ ap (λ ys. flat_map spell (m.done ++ xs) ++ ys) (sym after);
        wrote = is ∙ ap (λ ys. ys ++ flat_map spell_to xs) m.wrote ∙ sym (flat_map-append spell_to m.done xs);
      }

  -- before the end a scalar begins
  pub begins : (bytes out : List ℕ) (at to total : ℕ) → IsTextOfSize has spell spell_to bytes total → Midway has spell spell_to bytes at out to → at < length bytes
      → BeginsWithSome has spell (drop at bytes)
  begins bytes out at to total whole m within =
      let left = left_of bytes out at to total whole m in
      let more : 0 < length (drop at bytes) = omega (arith, length-drop at bytes) in
      first left.rest (drop at bytes) left.text more
    where
      first : (cs xs : List ℕ) → IsText has spell cs xs → 0 < length xs → BeginsWithSome has spell xs
      first [] xs text more = absurd (omega (arith, ap length text.is))
      first (c ∷ cs) xs text more =
          (c, (length (spell c), record { spelled = text.all.0; rest = flat_map spell cs; is = sym text.is; size_is = refl }))

  -- one scalar has room, and one scalar further
  pub room_for_one : (bytes out : List ℕ) (at to c size : ℕ) → IsTextOfSize has spell spell_to bytes (length out) → Midway has spell spell_to bytes at out to
      → BeginsWith has spell (drop at bytes) c size → to + length (spell_to c) ≤ length out
  room_for_one bytes out at to c size whole m b =
      let room = room_for bytes out at to (c ∷ []) b.rest whole m (b.spelled, tt) (b.is ∙ ap (λ ys. ys ++ b.rest) (sym (append-nil (spell c)))) in
      subst (λ ys. to + length ys ≤ length out) (append-nil (spell_to c)) room

  pub one_further : (bytes out new : List ℕ) (at to c size n : ℕ) → Midway has spell spell_to bytes at out to
      → BeginsWith has spell (drop at bytes) c size → to + n ≤ length new
      → take (to + n) new ≡ take to out ++ spell_to c → Midway has spell spell_to bytes (at + size) new (to + n)
  one_further bytes out new at to c size n m b room is =
      further bytes out new at to size n (c ∷ []) b.rest m (b.spelled, tt) (b.is ∙ ap (λ ys. ys ++ b.rest) (sym (append-nil (spell c))))
      (ap length (append-nil (spell c)) ∙ b.size_is) room (is ∙ ap (λ ys. take to out ++ ys) (sym (append-nil (spell_to c))))

  -- at the end all is written
  pub finish : (bytes out : List ℕ) (at to : ℕ) → IsTextOfSize has spell spell_to bytes (length out) → Midway has spell spell_to bytes at out to → length bytes ≤ at
      → IsSameText has spell spell_to bytes out
  finish bytes out at to whole m past scalars text =
      let none : drop at bytes ≡ [] = drop_all at bytes past in
      let left = left_of bytes out at to (length out) whole m in
      let empty : left.rest ≡ [] = no_scalar has spell laws left.rest left.text.all (ap length (left.text.is ∙ none)) in
      let done_is : whole.scalars ≡ m.done = left.split ∙ ap (λ cs. m.done ++ cs) empty ∙ append-nil m.done in
      let same : whole.scalars ≡ scalars = one_text has spell laws whole.scalars scalars bytes whole.text text in
      let written : length (flat_map spell_to m.done) ≡ to = sym (ap length m.wrote) ∙ length-take-le to out m.to_le in
      let full : length out ≤ to = omega (arith, whole.size_is, ap (λ cs. length (flat_map spell_to cs)) done_is) in
      sym (take_all to out full) ∙ m.wrote ∙ ap (flat_map spell_to) (sym done_is ∙ same)
