-- Parts that are laid out are read: fields and cases.
use Rattle.std.proofs.Common.{◌≡◌, ℕ, zero, suc, ◌+◌, ◌*◌, ◌<◌, ◌≤◌, List, [], ◌∷◌, length, map, drop, get_or, Option, Some, None, Ok, Err, refl, sym, ap, ◌∙◌, arith, IfSome, subst}
use Rattle.cm_types.specs.Values.{Val, bare}
use Rattle.cm_layout.specs.Laid.{Laid, PartsLaid, PayloadsLaid}
use Rattle.cm_layout.specs.Layouts.{part_of, nothings}
use Rattle.cm_layout.specs.Shapes.{LayoutTy, Parts, Payloads, no_parts, part, cases_shape, no_payloads, nothing, carried, parts_from, payloads_from, payload_before}
use Rattle.cm_layout.specs.declared.layouts.Part.{Part}
use Rattle.cm_abi_model.specs.declared.encoding.StringEncoding.{StringEncoding}
use Rattle.cm_abi_model.specs.declared.fault.AbiFault.TheVariants as fault
use Rattle.cm_abi_load.specs.Outcomes.{State}
use Rattle.cm_abi_load.specs.Reading.{Source, read_case, read_payload}
use Rattle.cm_abi_load.specs.Records.{records_of_case, records_of_payload}
use Rattle.cm_abi_load.specs.Sized.{ArePartsReadable, ArePartsSized, ArePayloadsReadable, ArePayloadsSized, IsReadable, IsSized}
use Rattle.cm_layout.proofs.LayoutsLaws.{parts_next}

pub readable_next : (limit at : ℕ) (ps : List Part) (i : ℕ) (p : Part) → i < length ps → p ≡ get_or ps i p
    → ArePartsReadable limit at (parts_from (map part_of (drop i ps)))
    → IsReadable limit (at + (part_of p).0) (part_of p).1 × ArePartsReadable limit at (parts_from (map part_of (drop (i + 1) ps)))
readable_next limit at ps i p lt there all = rw (parts_next ps i p lt there) at all

-- what is laid out within the bytes that are there can be read
pub parts_readable : (limit at n end : ℕ) (ps : Parts) → at + n ≤ limit → PartsLaid n end ps → ArePartsSized ps → ArePartsReadable limit at ps
parts_readable limit at n end no_parts inside laid sized = tt
parts_readable limit at n end (part o e sh ps) inside laid sized =
    (record { inside = omega arith; laid = laid.2; sized = sized.0 }, parts_readable limit at n (o + e.size) ps inside laid.3 sized.1)

pub payloads_readable : (limit start n o : ℕ) (ps : Payloads) → start + n ≤ limit → PayloadsLaid n o ps → ArePayloadsSized ps → ArePayloadsReadable limit (start + o) ps
payloads_readable limit start n o no_payloads inside laid sized = tt
payloads_readable limit start n o (nothing ps) inside laid sized = payloads_readable limit start n o ps inside laid sized
payloads_readable limit start n o (carried e sh ps) inside laid sized =
    (record { inside = omega arith; laid = laid.1; sized = sized.0 }, payloads_readable limit start n o ps inside laid.2 sized.1)

pub cases_readable : (limit at d o : ℕ) (l : LayoutTy) (ps : Payloads) → l.shape ≡ cases_shape d o ps → at + l.head.size ≤ limit → Laid l.head.size l.shape → IsSized l.shape → ArePayloadsReadable limit (at + o) ps
cases_readable limit at d o l ps is inside laid sized =
    let placed : Laid l.head.size (cases_shape d o ps) = subst (λ sh. Laid l.head.size sh) is laid in
    let numbers : IsSized (cases_shape d o ps) = subst (λ sh. IsSized sh) is sized in
    payloads_readable limit at l.head.size o ps inside placed.2 numbers.2

-- ---- cases

before_zero : (w : Source) (o : Option LayoutTy) (ps : Payloads) (i p : ℕ) (s : State) → read_case w (payload_before o ps) i zero p s ≡ read_payload w o i p s
before_zero w None ps i p s = refl
before_zero w (Some l) ps i p s = refl

before_suc : (w : Source) (o : Option LayoutTy) (ps : Payloads) (i n p : ℕ) (s : State) → read_case w (payload_before o ps) i (suc n) p s ≡ read_case w ps i n p s
before_suc w None ps i n p s = refl
before_suc w (Some l) ps i n p s = refl

pub case_there : {X : Type 0} (f : X → Option LayoutTy) (w : Source) (xs : List X) (i n p : ℕ) (s : State) (x : X) → n < length xs → x ≡ get_or xs n x
    → read_case w (payloads_from (map f xs)) i n p s ≡ read_payload w (f x) i p s
case_there f w [] i n p s x lt is = absurd (omega arith)
case_there f w (y ∷ xs) i zero p s x lt is = before_zero w (f y) (payloads_from (map f xs)) i p s ∙ ap (λ z. read_payload w (f z) i p s) (sym is)
case_there f w (y ∷ xs) i (suc n) p s x lt is = before_suc w (f y) (payloads_from (map f xs)) i n p s ∙ case_there f w xs i n p s x (omega arith) is

pub case_past : {X : Type 0} (f : X → Option LayoutTy) (w : Source) (xs : List X) (i n p : ℕ) (s : State) → length xs ≤ n
    → read_case w (payloads_from (map f xs)) i n p s ≡ Err (fault.BadCase, s)
case_past f w [] i n p s past = refl
case_past f w (y ∷ xs) i zero p s past = absurd (omega arith)
case_past f w (y ∷ xs) i (suc n) p s past = before_suc w (f y) (payloads_from (map f xs)) i n p s ∙ case_past f w xs i n p s (omega arith)

readable_before : (limit at : ℕ) (o : Option LayoutTy) (ps : Payloads) → ArePayloadsReadable limit at (payload_before o ps) → IfSome o (IsReadable limit at) × ArePayloadsReadable limit at ps
readable_before limit at None ps all = (tt, all)
readable_before limit at (Some l) ps all = all

pub case_readable : {X : Type 0} (f : X → Option LayoutTy) (limit at : ℕ) (xs : List X) (n : ℕ) (x : X) → n < length xs → x ≡ get_or xs n x
    → ArePayloadsReadable limit at (payloads_from (map f xs)) → IfSome (f x) (IsReadable limit at)
case_readable f limit at [] n x lt is all = absurd (omega arith)
case_readable f limit at (y ∷ xs) zero x lt is all = subst (λ z. IfSome (f z) (IsReadable limit at)) (sym is) (readable_before limit at (f y) (payloads_from (map f xs)) all).0
case_readable f limit at (y ∷ xs) (suc n) x lt is all = case_readable f limit at xs n x (omega arith) is (readable_before limit at (f y) (payloads_from (map f xs)) all).1

-- enums
pub enum_there : (w : Source) (count i n p : ℕ) (s : State) → n < count → read_case w (nothings count) i n p s ≡ Ok (bare i, s)
enum_there w zero i n p s lt = absurd (omega arith)
enum_there w (suc count) i zero p s lt = refl
enum_there w (suc count) i (suc n) p s lt = enum_there w count i n p s (omega arith)

pub enum_past : (w : Source) (count i n p : ℕ) (s : State) → count ≤ n → read_case w (nothings count) i n p s ≡ Err (fault.BadCase, s)
enum_past w zero i n p s past = refl
enum_past w (suc count) i zero p s past = absurd (omega arith)
enum_past w (suc count) i (suc n) p s past = enum_past w count i n p s (omega arith)

-- ---- places

pub step_on : (next at i size step : ℕ) → step ≡ size → next ≡ at + i * size → next + step ≡ at + (i + 1) * size
step_on next at i size step e f = rw (e, f) (grind arith)

-- ---- their records

kept_zero : (w : Source) (t : StringEncoding) (o : Option LayoutTy) (ps : Payloads) (p : ℕ) (v : Option Val) → records_of_case w t (payload_before o ps) zero p v ≡ records_of_payload w t o p v
kept_zero w t None ps p v = refl
kept_zero w t (Some l) ps p None = refl
kept_zero w t (Some l) ps p (Some v) = refl

kept_suc : (w : Source) (t : StringEncoding) (o : Option LayoutTy) (ps : Payloads) (n p : ℕ) (v : Option Val) → records_of_case w t (payload_before o ps) (suc n) p v ≡ records_of_case w t ps n p v
kept_suc w t None ps n p v = refl
kept_suc w t (Some l) ps n p v = refl

pub case_kept : {X : Type 0} (f : X → Option LayoutTy) (w : Source) (t : StringEncoding) (xs : List X) (n p : ℕ) (v : Option Val) (x : X) → n < length xs → x ≡ get_or xs n x
    → records_of_case w t (payloads_from (map f xs)) n p v ≡ records_of_payload w t (f x) p v
case_kept f w t [] n p v x lt is = absurd (omega arith)
case_kept f w t (y ∷ xs) zero p v x lt is = kept_zero w t (f y) (payloads_from (map f xs)) p v ∙ ap (λ z. records_of_payload w t (f z) p v) (sym is)
case_kept f w t (y ∷ xs) (suc n) p v x lt is = kept_suc w t (f y) (payloads_from (map f xs)) n p v ∙ case_kept f w t xs n p v x (omega arith) is

pub none_kept : (w : Source) (t : StringEncoding) (count i p : ℕ) (v : Option Val) → records_of_case w t (nothings count) i p v ≡ []
none_kept w t zero i p v = refl
none_kept w t (suc count) zero p v = refl
none_kept w t (suc count) (suc i) p v = none_kept w t count i p v
