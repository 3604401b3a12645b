-- The texts of values of each type (WAVE, "Encoding"). A handle is written as its serial number and
-- its representation, and none and some, ok and err, are written out (both are this project's own
-- choice).
use Rattle.std.specs.Prelude.{ℕ, zero, suc, pos, neg_ℤ, ◌-◌, ◌*◌, ◌^◌, Bool, true, false}
use Rattle.std.specs.Prelude.{if◌then◌else◌, nat_le, nat_eq, List, [], ◌∷◌, length, Result, Ok, Err}
use Rattle.std.specs.Prelude.{codes, Option, Some, None}
use Rattle.std.specs.Str.{chars, bytes_eq}
use Rattle.std.specs.Int.RustNames.{bit_or}
use Rattle.cm_types.specs.declared.resource.ResourceId.{ResourceId}
use Rattle.cm_types.specs.Types.{Ty, Fields, Cases, FieldsKind, width_bytes, bool}
use Rattle.cm_types.specs.Types.{signed, unsigned, char, string, list, fixed_list, fields, cases}
use Rattle.cm_types.specs.Types.{flags, own, borrow, no_fields, field, no_cases, plain, carrying}
use Rattle.cm_types.specs.Types.{record_type, tuple_type}
use Rattle.cm_types.specs.Values.{Val, truth, signed_number, number, scalar, text, elements, parts}
use Rattle.cm_types.specs.Values.{bare, bearing, flag_set, handle}
use Rattle.cm_types.specs.ValueTrees.{vals_from}
use Rattle.cm_values.specs.CaseNames.{case_names}
use Rattle.cm_values.specs.declared.value_fault.ValueReason.{ValueReason}
use Rattle.cm_values.specs.declared.value_fault.ValueReason.TheVariants as reason
use Rattle.cm_values.specs.Grammar.{Grammar, done, fail, ◌>>=◌, chosen, checked}
use Rattle.cm_values.specs.Words.{expect, gap, is, known, magnitude, mark}
use Rattle.cm_values.specs.Words.{mark_gap, separator, word}
use Rattle.cm_values.specs.Lists.{items, some_items}
use Rattle.cm_values.specs.Quoted.{one_char, quoted_text}

-- g where the test says yes, which it does for each type of a file; else nothing
abbrev pub where_so : {A : Type 0} → Bool → Grammar A → Grammar A
where_so true g = g
where_so false g = fail reason.Unexpected

-- `true` or `false`
abbrev pub truth_of : List ℕ → Result Val ValueReason
truth_of w =
    if bytes_eq w (codes "true") then Ok (truth true)
    else if bytes_eq w (codes "false") then Ok (truth false)
    else Err reason.Unexpected

abbrev pub truth_value : Grammar Val
truth_value = gap >>= λ _. checked word truth_of

abbrev pub unsigned_value : ℕ → Grammar Val
unsigned_value limit = gap >>= λ _. magnitude limit >>= λ n. done (number n)

-- a number that is below the limit, or behind a `-` (0x2D) at most the limit
abbrev pub signed_value : ℕ → Grammar Val
signed_value limit =
    gap >>= λ _. chosen (is 0x2D)
    (expect 0x2D >>= λ _. magnitude (suc limit) >>= λ n. done (signed_number (neg_ℤ (pos n))))
    (magnitude limit >>= λ n. done (signed_number (pos n)))

abbrev pub char_value : Grammar Val
char_value = gap >>= λ _. checked (quoted_text 0x27) one_char >>= λ c. done (scalar c)

abbrev pub string_value : Grammar Val
string_value = gap >>= λ _. quoted_text 0x22 >>= λ bytes. done (text (chars bytes))

abbrev pub list_value : Grammar Val → Grammar Val
list_value g = items 0x5B 0x5D g >>= λ vs. done (elements (vals_from vs))

-- exactly so many
abbrev pub so_many : ℕ → List Val → Result (List Val) ValueReason
so_many n vs = if nat_eq (length vs) n then Ok vs else Err reason.WrongLength

abbrev pub fixed_list_value : Grammar Val → ℕ → Grammar Val
fixed_list_value g n =
    gap >>= λ _. checked (items 0x5B 0x5D g) (so_many n) >>= λ vs. done (parts (vals_from vs))

-- the marks around fields
abbrev pub opening : FieldsKind → ℕ
opening record_type = 0x7B
opening tuple_type = 0x28

abbrev pub closing : FieldsKind → ℕ
closing record_type = 0x7D
closing tuple_type = 0x29

-- the label of a field, and `:` (0x3A)
abbrev pub label_of : FieldsKind → List ℕ → Grammar (Unit {0})
label_of record_type l = known (l ∷ []) >>= λ _. gap >>= λ _. mark_gap 0x3A
label_of tuple_type l = done tt

-- a field, and the comma behind it
abbrev pub member : FieldsKind → List ℕ → Grammar Val → Grammar Val
member k l g = label_of k l >>= λ _. g >>= λ v. separator (closing k) >>= λ _. done v

abbrev pub fields_value : FieldsKind → Grammar (List Val) → Grammar Val
fields_value k g =
    mark (opening k) >>= λ _. g >>= λ vs. mark (closing k) >>= λ _. done (parts (vals_from vs))

-- a name of these, of which there are at most as many as a file can spell
abbrev pub known_case : List (List ℕ) → Grammar ℕ
known_case names = where_so (nat_le (length names) (2 ^ 32)) (known names)

abbrev pub payload_value : Grammar Val → ℕ → Grammar Val
payload_value g n = mark 0x28 >>= λ _. g >>= λ v. mark 0x29 >>= λ _. done (bearing n v)

-- the labels at these places are set, beside those that are set in n
abbrev pub flags_on : ℕ → List ℕ → ℕ
flags_on n [] = n
flags_on n (i ∷ places) = flags_on (bit_or n (2 ^ i)) places

-- labels, with commas between them: the set of those that stand there
abbrev pub some_flags : List (List ℕ) → Grammar ℕ
some_flags ls = some_items 0x7D (known ls) >>= λ places. done (flags_on 0 places)

abbrev pub inner_flags : List (List ℕ) → Grammar ℕ
inner_flags ls = gap >>= λ _. chosen (is 0x7D) (done 0) (some_flags ls)

-- 32 labels at most
abbrev pub flags_value : List (List ℕ) → Grammar Val
flags_value ls = where_so (nat_le (length ls) 32)
    (mark 0x7B >>= λ _. inner_flags ls >>= λ n. mark 0x7D >>= λ _. done (flag_set n))

-- `#` (0x23), the serial number, `:` (0x3A), the representation
abbrev pub handle_value : ResourceId → Grammar Val
handle_value r =
    mark 0x23 >>= λ _. magnitude (2 ^ 64) >>= λ serial.
    expect 0x3A >>= λ _. magnitude (2 ^ 32) >>= λ rep.
    done (handle (record { serial = serial; rep = rep; resource = r }))

abbrev mutual
  -- a value of a type
  pub value : Ty → Grammar Val
  value bool = truth_value
  value (signed k) = signed_value (2 ^ (8 * width_bytes k - 1))
  value (unsigned k) = unsigned_value (2 ^ (8 * width_bytes k))
  value char = char_value
  value string = string_value
  value (list t) = list_value (value t)
  value (fixed_list t n) = fixed_list_value (value t) n
  value (fields k fs) = fields_value k (members k fs)
  value (cases k cs) = known_case (case_names k cs) >>= λ i. case_rest cs i i
  value (flags ls) = flags_value ls
  value (own r) = handle_value r
  value (borrow r) = handle_value r

  -- the fields, in order, with a comma behind each that is not the last
  pub members : FieldsKind → Fields → Grammar (List Val)
  members k no_fields = done []
  members k (field l t fs) =
      member k l (value t) >>= λ v. members k fs >>= λ vs. done (v ∷ vs)

  -- what stands behind the name of the case at i: its payload, if it carries one. The case is known
  -- by its place n among all of them
  pub case_rest : Cases → ℕ → ℕ → Grammar Val
  case_rest no_cases i n = fail reason.UnknownName
  case_rest (plain l cs) zero n = done (bare n)
  case_rest (plain l cs) (suc i) n = case_rest cs i n
  case_rest (carrying l t cs) zero n = payload_value (value t) n
  case_rest (carrying l t cs) (suc i) n = case_rest cs i n

-- the case of this number, behind its name
abbrev pub case_value : ℕ → Option Ty → Grammar Val
case_value n None = done (bare n)
case_value n (Some t) = payload_value (value t) n
