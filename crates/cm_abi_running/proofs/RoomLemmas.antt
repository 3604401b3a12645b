-- Where what a check looks at lies.
use Rattle.std.proofs.Common.{◌≡◌, ℕ, zero, suc, ◌+◌, ◌*◌, ◌^◌, ◌<◌, ◌≤◌, ◌⊎◌, inl, inr, List, [], ◌∷◌, length, get_or, map, Vec, Global, refl, sym, ap, subst, ◌∙◌, arith}
use Rattle.std.proofs.lemmas.Nat.{mul-le}
use Rattle.std.specs.declared.sync.Arc.{Arc}
use Rattle.cm_layout.specs.declared.heads.Head.{Head}
use Rattle.cm_layout.specs.declared.layouts.HandleType.{HandleType}
use Rattle.cm_abi_load.specs.Sized.{IsNumberSize}
use Rattle.cm_abi_programs.specs.Checks.{Check, Checks, CaseChecks, case, char_check, below_check, text_check, list_check, each_check, cases_check, handle_check, part_check}
use Rattle.cm_abi_programs.specs.Coded.{case_of, cases_from, check_of, checks_in}
use Rattle.cm_abi_programs.specs.declared.checks.CaseChecks.{CaseChecks as CodedCase, out-CaseChecks}
use Rattle.cm_abi_programs.specs.declared.checks.Check.{Check as CodedCheck}
use Rattle.cm_abi_programs.specs.declared.checks.Check.TheViews as view
use Rattle.cm_abi_programs.specs.declared.checks.Check.TheVariants as variant
use Rattle.cm_abi_programs.proofs.CheckForms.{case_is, seen_Char, seen_Below, seen_Text, seen_List, seen_Each, seen_Cases, seen_Handle, seen_Part}
use Rattle.cm_abi_running.specs.Within.{AreBehind, AreCasesBehind, AreCasesWithin, AreWithin, IsBehind, IsWithin, LieWithin, LiesWithin}

-- a number of at most four bytes fits 32 bits
fits_32 : (n b : ℕ) → IsNumberSize b → b ≤ 4 → n < 2 ^ (8 * b) → n < 2 ^ 32
fits_32 n b sized small fits = go sized
  where
    sized_so : (k : ℕ) → b ≡ k → n < 2 ^ (8 * k)
    sized_so k is = subst (λ z. n < 2 ^ (8 * z)) is fits

    go : IsNumberSize b → n < 2 ^ 32
    go (inl is) = omega (arith, sized_so 1 is)
    go (inr (inl is)) = omega (arith, sized_so 2 is)
    go (inr (inr (inl is))) = omega (arith, sized_so 4 is)
    go (inr (inr (inr is))) = absurd (omega (arith, is, small))

seen_as : (c : CodedCheck) (x : Check) (p len : ℕ) → check_of c ≡ x → LiesWithin (check_of c) p len → LiesWithin x p len
seen_as c x p len is lies = subst (λ y. LiesWithin y p len) is lies

module _ (c : CodedCheck) (p len : ℕ) where
  pub room_Char : (at : ℕ) → c ≡ variant.Char at → LiesWithin (check_of c) p len → p + at + 4 ≤ len
  room_Char at is lies =
      let h : LiesWithin (char_check at) p len = seen_as c (char_check at) p len (ap check_of is ∙ seen_Char at) lies in
      omega (arith, h.within, h.room)

  below_lies : (at b n : ℕ) → c ≡ variant.Below at b n → LiesWithin (check_of c) p len → LiesWithin (below_check at b n) p len
  below_lies at b n is lies = seen_as c (below_check at b n) p len (ap check_of is ∙ seen_Below at b n) lies

  pub room_Below : (at b n : ℕ) → c ≡ variant.Below at b n → LiesWithin (check_of c) p len → p + at + b ≤ len
  room_Below at b n is lies = let h = below_lies at b n is lies in omega (arith, h.within.0, h.room)

  pub size_Below : (at b n : ℕ) → c ≡ variant.Below at b n → LiesWithin (check_of c) p len → IsNumberSize b
  size_Below at b n is lies = (below_lies at b n is lies).within.1

  pub fits_Below : (at b n m : ℕ) → c ≡ variant.Below at b n → LiesWithin (check_of c) p len → m < 2 ^ (8 * b) → m < 2 ^ 32
  fits_Below at b n m is lies fits = let h = below_lies at b n is lies in fits_32 m b h.within.1 h.within.2 fits

  pub room_Text : (at : ℕ) → c ≡ variant.Text at → LiesWithin (check_of c) p len → p + at + 8 ≤ len
  room_Text at is lies =
      let h : LiesWithin (text_check at) p len = seen_as c (text_check at) p len (ap check_of is ∙ seen_Text at) lies in
      omega (arith, h.within, h.room)

  list_lies : (at : ℕ) (e : Head) (cs : Arc (Vec CodedCheck Global) Global) → c ≡ view.List at e cs → LiesWithin (check_of c) p len → LiesWithin (list_check at e (checks_in cs.value.items)) p len
  list_lies at e cs is lies = seen_as c (list_check at e (checks_in cs.value.items)) p len (ap check_of is ∙ seen_List at e cs) lies

  pub room_List : (at : ℕ) (e : Head) (cs : Arc (Vec CodedCheck Global) Global) → c ≡ view.List at e cs → LiesWithin (check_of c) p len → p + at + 8 ≤ len
  room_List at e cs is lies = let h = list_lies at e cs is lies in omega (arith, h.within.0, h.room)

  pub aligned_List : (at : ℕ) (e : Head) (cs : Arc (Vec CodedCheck Global) Global) → c ≡ view.List at e cs → LiesWithin (check_of c) p len → 0 < e.align
  aligned_List at e cs is lies = (list_lies at e cs is lies).within.1

  pub each_List : (at : ℕ) (e : Head) (cs : Arc (Vec CodedCheck Global) Global) (items : List CodedCheck) → c ≡ view.List at e cs → LiesWithin (check_of c) p len → items ≡ cs.value.items → AreWithin e.size (checks_in items)
  each_List at e cs items is lies same = subst (λ xs. AreWithin e.size (checks_in xs)) (sym same) (list_lies at e cs is lies).within.2

  each_lies : (at d n : ℕ) (cs : Arc (Vec CodedCheck Global) Global) → c ≡ view.Each at d n cs → LiesWithin (check_of c) p len → LiesWithin (each_check at d n (checks_in cs.value.items)) p len
  each_lies at d n cs is lies = seen_as c (each_check at d n (checks_in cs.value.items)) p len (ap check_of is ∙ seen_Each at d n cs) lies

  pub room_Each : (at d n : ℕ) (cs : Arc (Vec CodedCheck Global) Global) → c ≡ view.Each at d n cs → LiesWithin (check_of c) p len → p + at + n * d ≤ len
  room_Each at d n cs is lies = let h = each_lies at d n cs is lies in omega (arith, h.within.0, h.room)

  pub each_Each : (at d n : ℕ) (cs : Arc (Vec CodedCheck Global) Global) (items : List CodedCheck) → c ≡ view.Each at d n cs → LiesWithin (check_of c) p len → items ≡ cs.value.items → AreWithin d (checks_in items)
  each_Each at d n cs items is lies same = subst (λ xs. AreWithin d (checks_in xs)) (sym same) (each_lies at d n cs is lies).within.1

  cases_lie : (at b d : ℕ) (cs : Arc (Vec CodedCase Global) Global) → c ≡ view.Cases at b d cs → LiesWithin (check_of c) p len → LiesWithin (cases_check at b d (cases_from (map case_of cs.value.items))) p len
  cases_lie at b d cs is lies = seen_as c (cases_check at b d (cases_from (map case_of cs.value.items))) p len (ap check_of is ∙ seen_Cases at b d cs) lies

  pub room_Cases : (at b d : ℕ) (cs : Arc (Vec CodedCase Global) Global) → c ≡ view.Cases at b d cs → LiesWithin (check_of c) p len → p + at + b ≤ len
  room_Cases at b d cs is lies = let h = cases_lie at b d cs is lies in omega (arith, h.within.0, h.room)

  pub size_Cases : (at b d : ℕ) (cs : Arc (Vec CodedCase Global) Global) → c ≡ view.Cases at b d cs → LiesWithin (check_of c) p len → IsNumberSize b
  size_Cases at b d cs is lies = (cases_lie at b d cs is lies).within.1

  pub fits_Cases : (at b d m : ℕ) (cs : Arc (Vec CodedCase Global) Global) → c ≡ view.Cases at b d cs → LiesWithin (check_of c) p len → m < 2 ^ (8 * b) → m < 2 ^ 32
  fits_Cases at b d m cs is lies fits = let h = cases_lie at b d cs is lies in fits_32 m b h.within.1 h.within.2 fits

  pub room_payload : (at b d : ℕ) (cs : Arc (Vec CodedCase Global) Global) → c ≡ view.Cases at b d cs → LiesWithin (check_of c) p len → p + at + d ≤ len
  room_payload at b d cs is lies = let h = cases_lie at b d cs is lies in omega (arith, h.within.3.1, h.room)

  case_lies : (m : ℕ) (cs : List CodedCase) (i : ℕ) (x : CodedCase) → i < length cs → x ≡ get_or cs i x → AreCasesWithin m (cases_from (map case_of cs)) → AreWithin m (case_of x)
  case_lies m [] i x lt is h = absurd (omega (arith, lt))
  case_lies m (y ∷ cs) zero x lt is h = subst (λ r. AreWithin m (case_of r)) (sym is) h.0
  case_lies m (y ∷ cs) (suc i) x lt is h = case_lies m cs i x (omega (arith, lt)) is h.1

  pub case_Cases : (at b d : ℕ) (cs : Arc (Vec CodedCase Global) Global) (i : ℕ) (x : CodedCase) (items : List CodedCheck) → c ≡ view.Cases at b d cs → LiesWithin (check_of c) p len
      → i < length cs.value.items → x ≡ get_or cs.value.items i x → items ≡ (out-CaseChecks x).checks.value.items → LieWithin (checks_in items) (p + at + d) len
  case_Cases at b d cs i x items is lies lt there same =
      let h = cases_lie at b d cs is lies in
      record {
        size = h.within.3.0;
        within = subst (AreWithin h.within.3.0) (case_is x ∙ ap checks_in (sym same)) (case_lies h.within.3.0 cs.value.items i x lt there h.within.3.2);
        room = omega (arith, h.within.3.1, h.room);
      }

  pub room_Handle : (at : ℕ) (t : HandleType) → c ≡ variant.Handle at t → LiesWithin (check_of c) p len → p + at + 4 ≤ len
  room_Handle at t is lies =
      let h : LiesWithin (handle_check at t) p len = seen_as c (handle_check at t) p len (ap check_of is ∙ seen_Handle at t) lies in
      omega (arith, h.within, h.room)

  part_lies : (at : ℕ) (cs : Arc (Vec CodedCheck Global) Global) → c ≡ view.Part at cs → LiesWithin (check_of c) p len → LiesWithin (part_check at (checks_in cs.value.items)) p len
  part_lies at cs is lies = seen_as c (part_check at (checks_in cs.value.items)) p len (ap check_of is ∙ seen_Part at cs) lies

  pub room_Part : (at : ℕ) (cs : Arc (Vec CodedCheck Global) Global) → c ≡ view.Part at cs → LiesWithin (check_of c) p len → p + at ≤ len
  room_Part at cs is lies = let h = part_lies at cs is lies in omega (arith, h.within.1, h.room)

  pub part_Part : (at : ℕ) (cs : Arc (Vec CodedCheck Global) Global) (items : List CodedCheck) → c ≡ view.Part at cs → LiesWithin (check_of c) p len → items ≡ cs.value.items → LieWithin (checks_in items) (p + at) len
  part_Part at cs items is lies same =
      let h = part_lies at cs is lies in
      record {
        size = h.within.0;
        within = subst (λ xs. AreWithin h.within.0 (checks_in xs)) (sym same) h.within.2;
        room = omega (arith, h.within.1, h.room);
      }

-- one of the checks in order
pub one_lies : (cs : List CodedCheck) (p len i : ℕ) (x : CodedCheck) → i < length cs → x ≡ get_or cs i x → LieWithin (checks_in cs) p len → LiesWithin (check_of x) p len
one_lies cs p len i x lt is lie = record { size = lie.size; within = go cs i lt is lie.within; room = lie.room }
  where
    go : (cs : List CodedCheck) (i : ℕ) → i < length cs → x ≡ get_or cs i x → AreWithin lie.size (checks_in cs) → IsWithin lie.size (check_of x)
    go [] i lt is h = absurd (omega (arith, lt))
    go (y ∷ cs) zero lt is h = subst (λ r. IsWithin lie.size (check_of r)) (sym is) h.0
    go (y ∷ cs) (suc i) lt is h = go cs i (omega (arith, lt)) is h.1

-- values in a row
pub row_room : (p len d n i q : ℕ) → p + n * d ≤ len → i < n → q ≡ p + i * d → q + d ≤ len
row_room p len d n i q room lt is = omega (arith, mul-le (i + 1) d n d (omega (arith, lt)) (omega arith), add_row i d, room, is)
  where
    add_row : (i d : ℕ) → (i + 1) * d ≡ i * d + d
    add_row i d = grind arith

pub next_row : (q p i d : ℕ) → q ≡ p + i * d → q + d ≡ p + (i + 1) * d
next_row q p i d is = rw is (grind arith)

pub row_lies : (cs : List CodedCheck) (p len d n i q : ℕ) → AreWithin d (checks_in cs) → p + n * d ≤ len → i < n → q ≡ p + i * d → LieWithin (checks_in cs) q len
row_lies cs p len d n i q within room lt is = record { size = d; within = within; room = row_room p len d n i q room lt is }

-- ---- behind core values

module _ (c : CodedCheck) where
  seen_behind : (x : Check) → check_of c ≡ x → IsBehind (check_of c) → IsBehind x
  seen_behind x is lies = subst (λ y. IsBehind y) is lies

  list_behind : (at : ℕ) (e : Head) (cs : Arc (Vec CodedCheck Global) Global) → c ≡ view.List at e cs → IsBehind (check_of c) → IsBehind (list_check at e (checks_in cs.value.items))
  list_behind at e cs is lies = seen_behind (list_check at e (checks_in cs.value.items)) (ap check_of is ∙ seen_List at e cs) lies

  pub aligned_behind : (at : ℕ) (e : Head) (cs : Arc (Vec CodedCheck Global) Global) → c ≡ view.List at e cs → IsBehind (check_of c) → 0 < e.align
  aligned_behind at e cs is lies = (list_behind at e cs is lies).0

  pub elements_behind : (at : ℕ) (e : Head) (cs : Arc (Vec CodedCheck Global) Global) (items : List CodedCheck) → c ≡ view.List at e cs → IsBehind (check_of c) → items ≡ cs.value.items → AreWithin e.size (checks_in items)
  elements_behind at e cs items is lies same = subst (λ xs. AreWithin e.size (checks_in xs)) (sym same) (list_behind at e cs is lies).1

  pub row_behind : (at d n : ℕ) (cs : Arc (Vec CodedCheck Global) Global) (items : List CodedCheck) → c ≡ view.Each at d n cs → IsBehind (check_of c) → items ≡ cs.value.items → AreBehind (checks_in items)
  row_behind at d n cs items is lies same =
      subst (λ xs. AreBehind (checks_in xs)) (sym same) (seen_behind (each_check at d n (checks_in cs.value.items)) (ap check_of is ∙ seen_Each at d n cs) lies)

  case_behind : (cs : List CodedCase) (i : ℕ) (x : CodedCase) → i < length cs → x ≡ get_or cs i x → AreCasesBehind (cases_from (map case_of cs)) → AreBehind (case_of x)
  case_behind [] i x lt is h = absurd (omega (arith, lt))
  case_behind (y ∷ cs) zero x lt is h = subst (λ r. AreBehind (case_of r)) (sym is) h.0
  case_behind (y ∷ cs) (suc i) x lt is h = case_behind cs i x (omega (arith, lt)) is h.1

  pub payload_behind : (at b d : ℕ) (cs : Arc (Vec CodedCase Global) Global) (i : ℕ) (x : CodedCase) (items : List CodedCheck) → c ≡ view.Cases at b d cs → IsBehind (check_of c)
      → i < length cs.value.items → x ≡ get_or cs.value.items i x → items ≡ (out-CaseChecks x).checks.value.items → AreBehind (checks_in items)
  payload_behind at b d cs i x items is lies lt there same =
      subst AreBehind (case_is x ∙ ap checks_in (sym same))
      (case_behind cs.value.items i x lt there (seen_behind (cases_check at b d (cases_from (map case_of cs.value.items))) (ap check_of is ∙ seen_Cases at b d cs) lies))

  pub part_behind : (at : ℕ) (cs : Arc (Vec CodedCheck Global) Global) (items : List CodedCheck) → c ≡ view.Part at cs → IsBehind (check_of c) → items ≡ cs.value.items → AreBehind (checks_in items)
  part_behind at cs items is lies same =
      subst (λ xs. AreBehind (checks_in xs)) (sym same) (seen_behind (part_check at (checks_in cs.value.items)) (ap check_of is ∙ seen_Part at cs) lies)

pub one_behind : (cs : List CodedCheck) (i : ℕ) (x : CodedCheck) → i < length cs → x ≡ get_or cs i x → AreBehind (checks_in cs) → IsBehind (check_of x)
one_behind [] i x lt is h = absurd (omega (arith, lt))
one_behind (y ∷ cs) zero x lt is h = subst (λ r. IsBehind (check_of r)) (sym is) h.0
one_behind (y ∷ cs) (suc i) x lt is h = one_behind cs i x (omega (arith, lt)) is h.1
