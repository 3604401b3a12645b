-- Where the checks of a type lie in its values.
use Rattle.std.proofs.Common.{◌≡◌, ℕ, zero, suc, ◌+◌, ◌-◌, ◌*◌, ◌<◌, ◌≤◌, List, [], ◌∷◌, refl, sym, ap, subst, ◌∙◌, arith}
use Rattle.std.specs.Prelude.{Bool, true, false, nat_lt, if◌then◌else◌, ⊤}
use Rattle.cm_layout.specs.Laid.{Laid, PartsLaid, PayloadsLaid}
use Rattle.cm_layout.specs.Shapes.{Shape, Parts, Payloads, leaf_shape, string_shape, list_shape, fixed_list_shape, fields_shape, cases_shape, handle_shape, no_parts, part, no_payloads, nothing, carried}
use Rattle.cm_layout.specs.declared.layouts.Leaf.TheVariants as leaf
use Rattle.cm_abi_load.specs.Sized.{ArePartsSized, ArePayloadsSized, IsNumberSize, IsSized}
use Rattle.cm_abi_lift.specs.FlatReading.{ArePartsFlatReadable, ArePayloadsFlatReadable, IsFlatReadable}
use Rattle.cm_abi_programs.specs.declared.limits.TheConstants.{FEW}
use Rattle.cm_abi_programs.specs.Checks.{Check, Checks, CaseChecks, no_checks, check, no_cases, case, char_check, below_check, text_check, list_check, each_check, cases_check, handle_check, part_check}
use Rattle.cm_abi_programs.specs.Checks.{are_unchecked, both_checks, case_count, cases_checks, check_count, checks_of, field_checks, flat_checks_of, flat_field_checks, flat_payload_checks, is_unchecked, moved_check, moved_checks, one_check, payload_checks, placed_checks, row_checks}
use Rattle.cm_abi_running.specs.Within.{AreBehind, AreCasesBehind, AreCasesWithin, AreWithin, IsBehind, IsWithin}

-- ---- in memory

-- within more bytes
more_one : (n m : ℕ) → n ≤ m → (c : Check) → IsWithin n c → IsWithin m c
more_one n m le (char_check at) h = omega (arith, le, h)
more_one n m le (below_check at b c) h = (omega (arith, le, h.0), h.1, h.2)
more_one n m le (text_check at) h = omega (arith, le, h)
more_one n m le (list_check at e cs) h = (omega (arith, le, h.0), h.1, h.2)
more_one n m le (each_check at d c cs) h = (omega (arith, le, h.0), h.1)
more_one n m le (cases_check at b d cs) h = (omega (arith, le, h.0), h.1, h.2, (h.3.0, omega (arith, le, h.3.1), h.3.2))
more_one n m le (handle_check at t) h = omega (arith, le, h)
more_one n m le (part_check at cs) h = (h.0, omega (arith, le, h.1), h.2)

more_all : (n m : ℕ) → n ≤ m → (cs : Checks) → AreWithin n cs → AreWithin m cs
more_all n m le no_checks h = tt
more_all n m le (check c cs) h = (more_one n m le c h.0, more_all n m le cs h.1)

-- of a value that begins so far behind
moved_one : (m n o : ℕ) → o + m ≤ n → (c : Check) → IsWithin m c → IsWithin n (moved_check o c)
moved_one m n o le (char_check at) h = omega (arith, le, h)
moved_one m n o le (below_check at b c) h = (omega (arith, le, h.0), h.1, h.2)
moved_one m n o le (text_check at) h = omega (arith, le, h)
moved_one m n o le (list_check at e cs) h = (omega (arith, le, h.0), h.1, h.2)
moved_one m n o le (each_check at d c cs) h = (omega (arith, le, h.0), h.1)
moved_one m n o le (cases_check at b d cs) h = (omega (arith, le, h.0), h.1, h.2, (h.3.0, omega (arith, le, h.3.1), h.3.2))
moved_one m n o le (handle_check at t) h = omega (arith, le, h)
moved_one m n o le (part_check at cs) h = (h.0, omega (arith, le, h.1), h.2)

moved_all : (m n o : ℕ) → o + m ≤ n → (cs : Checks) → AreWithin m cs → AreWithin n (moved_checks o cs)
moved_all m n o le no_checks h = tt
moved_all m n o le (check c cs) h = (moved_one m n o le c h.0, moved_all m n o le cs h.1)

placed : (m n o : ℕ) → o + m ≤ n → (cs : Checks) → AreWithin m cs → AreWithin n (placed_checks o cs)
placed m n o le cs h = pick (nat_lt FEW (check_count cs))
  where
    pick : (b : Bool) → AreWithin n (if b then one_check (part_check o cs) else moved_checks o cs)
    pick true = ((m, le, h), tt)
    pick false = moved_all m n o le cs h

both : (n : ℕ) (es bs : Checks) → AreWithin n es → AreWithin n bs → AreWithin n (both_checks es bs)
both n no_checks bs a b = b
both n (check c es) bs a b = (a.0, both n es bs a.1 b)

row : (n d c : ℕ) (cs : Checks) → n ≡ c * d → AreWithin d cs → AreWithin n (row_checks d c cs)
row n d c no_checks is h = tt
row n d c (check x cs) is h = ((omega (arith, is), h), tt)

cases_within : (n m b d : ℕ) → b ≤ n → IsNumberSize b → b ≤ 4 → d + m ≤ n → (cs : CaseChecks) → AreCasesWithin m cs → AreWithin n (cases_checks b d cs)
cases_within n m b d within sized small behind cs h = pick (are_unchecked cs)
  where
    pick : (u : Bool) → AreWithin n (if u then one_check (below_check 0 b (case_count cs)) else one_check (cases_check 0 b d cs))
    pick true = ((omega (arith, within), sized, small), tt)
    pick false = ((omega (arith, within), sized, small, (m, omega (arith, behind), h)), tt)

mutual
  pub checks_within : (n : ℕ) (x : Shape) → Laid n x → IsSized x → AreWithin n (checks_of x)
  checks_within n (leaf_shape leaf.Bool) laid sized = tt
  checks_within n (leaf_shape (leaf.Signed w)) laid sized = tt
  checks_within n (leaf_shape (leaf.Unsigned w)) laid sized = tt
  checks_within n (leaf_shape leaf.Char) laid sized = (omega (arith, laid), tt)
  checks_within n (leaf_shape (leaf.Flags labels w)) laid sized = tt
  checks_within n string_shape laid sized = (omega (arith, laid), tt)
  checks_within n (list_shape e x) laid sized = ((omega (arith, laid.0), sized.0, checks_within e.size x laid.1 sized.1), tt)
  checks_within n (fixed_list_shape e x c) laid sized = row n e.size c (checks_of x) laid.0 (checks_within e.size x laid.1 sized)
  checks_within n (fields_shape ps) laid sized = fields_within n 0 ps laid sized
  checks_within n (cases_shape b d ps) laid sized =
      cases_within n (n - d) b d (omega (arith, laid.0, laid.1)) sized.0 sized.1 (omega (arith, laid.1)) (payload_checks ps) (payloads_within n d ps laid.1 laid.2 sized.2)
  checks_within n (handle_shape h) laid sized = (omega (arith, laid), tt)

  fields_within : (n end : ℕ) (ps : Parts) → PartsLaid n end ps → ArePartsSized ps → AreWithin n (field_checks ps)
  fields_within n end no_parts laid sized = tt
  fields_within n end (part o e x ps) laid sized =
      both n (placed_checks o (checks_of x)) (field_checks ps) (placed e.size n o laid.1 (checks_of x) (checks_within e.size x laid.2 sized.0)) (fields_within n (o + e.size) ps laid.3 sized.1)

  payloads_within : (n d : ℕ) (ps : Payloads) → d ≤ n → PayloadsLaid n d ps → ArePayloadsSized ps → AreCasesWithin (n - d) (payload_checks ps)
  payloads_within n d no_payloads le laid sized = tt
  payloads_within n d (nothing ps) le laid sized = (tt, payloads_within n d ps le laid sized)
  payloads_within n d (carried e x ps) le laid sized =
      (more_all e.size (n - d) (omega (arith, le, laid.0)) (checks_of x) (checks_within e.size x laid.1 sized.0), payloads_within n d ps le laid.2 sized.1)

-- ---- behind core values

behind_moved_one : (o : ℕ) (c : Check) → IsBehind c → IsBehind (moved_check o c)
behind_moved_one o (char_check at) h = tt
behind_moved_one o (below_check at b c) h = tt
behind_moved_one o (text_check at) h = tt
behind_moved_one o (list_check at e cs) h = h
behind_moved_one o (each_check at d c cs) h = h
behind_moved_one o (cases_check at b d cs) h = h
behind_moved_one o (handle_check at t) h = tt
behind_moved_one o (part_check at cs) h = h

behind_moved : (o : ℕ) (cs : Checks) → AreBehind cs → AreBehind (moved_checks o cs)
behind_moved o no_checks h = tt
behind_moved o (check c cs) h = (behind_moved_one o c h.0, behind_moved o cs h.1)

behind_placed : (o : ℕ) (cs : Checks) → AreBehind cs → AreBehind (placed_checks o cs)
behind_placed o cs h = pick (nat_lt FEW (check_count cs))
  where
    pick : (b : Bool) → AreBehind (if b then one_check (part_check o cs) else moved_checks o cs)
    pick true = (h, tt)
    pick false = behind_moved o cs h

behind_both : (es bs : Checks) → AreBehind es → AreBehind bs → AreBehind (both_checks es bs)
behind_both no_checks bs a b = b
behind_both (check c es) bs a b = (a.0, behind_both es bs a.1 b)

behind_row : (d c : ℕ) (cs : Checks) → AreBehind cs → AreBehind (row_checks d c cs)
behind_row d c no_checks h = tt
behind_row d c (check x cs) h = (h, tt)

behind_cases : (b d : ℕ) (cs : CaseChecks) → AreCasesBehind cs → AreBehind (cases_checks b d cs)
behind_cases b d cs h = pick (are_unchecked cs)
  where
    pick : (u : Bool) → AreBehind (if u then one_check (below_check 0 b (case_count cs)) else one_check (cases_check 0 b d cs))
    pick true = (tt, tt)
    pick false = (h, tt)

mutual
  pub flat_behind : (x : Shape) → IsFlatReadable x → AreBehind (flat_checks_of x)
  flat_behind (leaf_shape leaf.Bool) ready = tt
  flat_behind (leaf_shape (leaf.Signed w)) ready = tt
  flat_behind (leaf_shape (leaf.Unsigned w)) ready = tt
  flat_behind (leaf_shape leaf.Char) ready = (tt, tt)
  flat_behind (leaf_shape (leaf.Flags labels w)) ready = tt
  flat_behind string_shape ready = (tt, tt)
  flat_behind (list_shape e x) ready = ((ready.1, checks_within e.size x ready.0 ready.2), tt)
  flat_behind (fixed_list_shape e x c) ready = behind_row e.width c (flat_checks_of x) (flat_behind x ready)
  flat_behind (fields_shape ps) ready = fields_behind ps 0 ready
  flat_behind (cases_shape b d ps) ready = behind_cases 4 1 (flat_payload_checks ps) (payloads_behind ps ready)
  flat_behind (handle_shape h) ready = (tt, tt)

  fields_behind : (ps : Parts) (at : ℕ) → ArePartsFlatReadable ps → AreBehind (flat_field_checks ps at)
  fields_behind no_parts at ready = tt
  fields_behind (part o e x ps) at ready =
      behind_both (placed_checks at (flat_checks_of x)) (flat_field_checks ps (at + e.width)) (behind_placed at (flat_checks_of x) (flat_behind x ready.0)) (fields_behind ps (at + e.width) ready.1)

  payloads_behind : (ps : Payloads) → ArePayloadsFlatReadable ps → AreCasesBehind (flat_payload_checks ps)
  payloads_behind no_payloads ready = tt
  payloads_behind (nothing ps) ready = (tt, payloads_behind ps ready)
  payloads_behind (carried e x ps) ready = (flat_behind x ready.0, payloads_behind ps ready.1)
