-- Reading values is exact.
use Rattle.std.proofs.Common.{ℕ, zero, suc, ◌-◌, ◌*◌, ◌^◌, Bool, true, false, List, [], ◌∷◌, Some, None, Ok, inl, inr}
use Rattle.cm_types.specs.declared.resource.ResourceId.{ResourceId}
use Rattle.cm_types.specs.Types.{Ty, Fields, Cases, FieldsKind, bool, signed, unsigned, char, string, list, fixed_list, fields, cases, flags, own, borrow, no_fields, field, no_cases, plain, carrying, record_type, tuple_type, width_bytes}
use Rattle.cm_types.specs.Values.{Val}
use Rattle.cm_values.specs.CaseNames.{case_names}
use Rattle.cm_values.specs.declared.value_fault.ValueReason.TheVariants as reason
use Rattle.cm_values.specs.declared.kind.Kind.TheVariants as kind
use Rattle.cm_values.specs.declared.piece.Piece.{Piece}
use Rattle.cm_values.specs.Grammar.{first, Grammar, done, ◌>>=◌, passes, chosen}
use Rattle.cm_values.specs.Exact.{Lawful, Moves}
use Rattle.cm_values.specs.Words.{belongs, is, this_byte}
use Rattle.cm_values.specs.Quoted.{any_byte, escape, escaped, letter, next_piece, pieces, plain_piece, quoted, quoted_text, scalar_of, unicode, utf8_bytes, one_char}
use Rattle.cm_values.specs.Values.{case_rest, char_value, closing, fields_value, fixed_list_value, flags_value, handle_value, known_case, label_of, list_value, member, members, opening, payload_value, signed_value, so_many, string_value, truth_of, truth_value, unsigned_value, value, where_so, some_flags, inner_flags}
use Rattle.cm_values.specs.Whole.{spaced}
use Rattle.cm_values.proofs.Tools.{if_ok}
use Rattle.cm_values.proofs.GrammarLaws.{bind_lawful, byte_lawful, checked_lawful, chosen_lawful, done_lawful, fail_lawful, run_lawful}
use Rattle.cm_values.proofs.StepLaws.{steps_lawful}
use Rattle.cm_values.proofs.WordLaws.{behind_byte, expect_lawful, gap_lawful, items_lawful, known_lawful, magnitude_lawful, mark_gap_lawful, mark_lawful, none_is_no_some, separator_lawful, Shortens, some_items_lawful, some_moves, word_lawful}

-- ---- quotes

unicode_lawful : Lawful unicode
unicode_lawful = bind_lawful _ _ (expect_lawful 0x75) (λ _. bind_lawful _ _ (expect_lawful 0x7B) (λ _. bind_lawful _ _ (checked_lawful _ scalar_of (run_lawful (belongs kind.HexDigits))) (λ c. bind_lawful _ _ (expect_lawful 0x7D) (λ _. done_lawful _))))

letter_lawful : Lawful letter
letter_lawful = bind_lawful _ _ (byte_lawful escaped) (λ b. done_lawful _)

escape_lawful : Lawful escape
escape_lawful = bind_lawful _ _ (expect_lawful 0x5C) (λ _. chosen_lawful _ _ _ unicode_lawful letter_lawful)

plain_piece_lawful : Lawful plain_piece
plain_piece_lawful = bind_lawful _ _ (byte_lawful any_byte) (λ b. done_lawful _)

some_piece_lawful : (g : Grammar Piece) → Lawful g → Lawful (g >>= λ p. done (Some p))
some_piece_lawful g l = bind_lawful _ _ l (λ p. done_lawful (Some p))

pub next_piece_lawful : (quote : ℕ) → Lawful (next_piece quote)
next_piece_lawful quote = chosen_lawful _ _ _ (done_lawful None) (chosen_lawful _ _ _ (some_piece_lawful escape escape_lawful) (some_piece_lawful plain_piece plain_piece_lawful))

escape_shortens : Shortens escape
escape_shortens bytes p rest e = behind_byte (this_byte 0x5C) (λ _. chosen (is 0x75) unicode letter) (λ _. chosen_lawful _ _ _ unicode_lawful letter_lawful) bytes p rest e

plain_piece_shortens : Shortens plain_piece
plain_piece_shortens bytes p rest e = behind_byte any_byte _ (λ b. done_lawful _) bytes p rest e

pub next_piece_moves : (quote : ℕ) → Moves (next_piece quote)
next_piece_moves quote bytes p rest e =
    elim (if_ok (passes (is quote) (first bytes)) (Ok (None, bytes)) ((chosen (is 0x5C) (escape >>= λ p. done (Some p)) (plain_piece >>= λ p. done (Some p))).reads bytes) (Ok (Some p, rest)) e) [
      | inl q ↦ absurd (none_is_no_some Piece bytes rest p q.1)
      | inr q ↦
          elim (if_ok (passes (is 0x5C) (first bytes)) ((escape >>= λ p. done (Some p)).reads bytes) ((plain_piece >>= λ p. done (Some p)).reads bytes) (Ok (Some p, rest)) q.1) [
            | inl r ↦ some_moves escape escape_shortens bytes p rest r.1
            | inr r ↦ some_moves plain_piece plain_piece_shortens bytes p rest r.1
          ]
    ]

pieces_lawful : (quote : ℕ) → Lawful (pieces quote)
pieces_lawful quote = bind_lawful _ _ (steps_lawful (next_piece quote) (next_piece_lawful quote) (next_piece_moves quote)) (λ ps. done_lawful _)

quoted_lawful : (quote : ℕ) → Lawful (quoted quote)
quoted_lawful quote = bind_lawful _ _ (expect_lawful quote) (λ _. bind_lawful _ _ (pieces_lawful quote) (λ bytes. bind_lawful _ _ (expect_lawful quote) (λ _. done_lawful bytes)))

quoted_text_lawful : (quote : ℕ) → Lawful (quoted_text quote)
quoted_text_lawful quote = checked_lawful _ utf8_bytes (quoted_lawful quote)

-- ---- values that hold no others

truth_lawful : Lawful truth_value
truth_lawful = bind_lawful _ _ gap_lawful (λ _. checked_lawful _ truth_of word_lawful)

unsigned_lawful : (limit : ℕ) → Lawful (unsigned_value limit)
unsigned_lawful limit = bind_lawful _ _ gap_lawful (λ _. bind_lawful _ _ (magnitude_lawful limit) (λ n. done_lawful _))

signed_lawful : (limit : ℕ) → Lawful (signed_value limit)
signed_lawful limit = bind_lawful _ _ gap_lawful (λ _. chosen_lawful _ _ _
    (bind_lawful _ _ (expect_lawful 0x2D) (λ _. bind_lawful _ _ (magnitude_lawful (suc limit)) (λ n. done_lawful _)))
    (bind_lawful _ _ (magnitude_lawful limit) (λ n. done_lawful _)))

char_lawful : Lawful char_value
char_lawful = bind_lawful _ _ gap_lawful (λ _. bind_lawful _ _ (checked_lawful _ one_char (quoted_text_lawful 0x27)) (λ c. done_lawful _))

string_lawful : Lawful string_value
string_lawful = bind_lawful _ _ gap_lawful (λ _. bind_lawful _ _ (quoted_text_lawful 0x22) (λ bytes. done_lawful _))

where_lawful : {A : Type 0} (b : Bool) (g : Grammar A) → Lawful g → Lawful (where_so b g)
where_lawful true g l = l
where_lawful false g l = fail_lawful reason.Unexpected

some_flags_lawful : (ls : List (List ℕ)) → Lawful (some_flags ls)
some_flags_lawful ls = bind_lawful _ _ (some_items_lawful 0x7D _ (known_lawful ls)) (λ places. done_lawful _)

inner_flags_lawful : (ls : List (List ℕ)) → Lawful (inner_flags ls)
inner_flags_lawful ls = bind_lawful _ _ gap_lawful (λ _. chosen_lawful _ _ _ (done_lawful 0) (some_flags_lawful ls))

flags_lawful : (ls : List (List ℕ)) → Lawful (flags_value ls)
flags_lawful ls = where_lawful _ _ (bind_lawful _ _ (mark_lawful 0x7B) (λ _. bind_lawful _ _ (inner_flags_lawful ls) (λ n. bind_lawful _ _ (mark_lawful 0x7D) (λ _. done_lawful _))))

handle_lawful : (r : ResourceId) → Lawful (handle_value r)
handle_lawful r = bind_lawful _ _ (mark_lawful 0x23) (λ _. bind_lawful _ _ (magnitude_lawful (2 ^ 64)) (λ serial. bind_lawful _ _ (expect_lawful 0x3A) (λ _. bind_lawful _ _ (magnitude_lawful (2 ^ 32)) (λ rep. done_lawful _))))

-- ---- values that hold others

list_lawful : (g : Grammar Val) → Lawful g → Lawful (list_value g)
list_lawful g l = bind_lawful _ _ (items_lawful 0x5B 0x5D g l) (λ vs. done_lawful _)

fixed_lawful : (g : Grammar Val) (n : ℕ) → Lawful g → Lawful (fixed_list_value g n)
fixed_lawful g n l = bind_lawful _ _ gap_lawful (λ _. bind_lawful _ _ (checked_lawful _ (so_many n) (items_lawful 0x5B 0x5D g l)) (λ vs. done_lawful _))

label_lawful : (k : FieldsKind) (text : List ℕ) → Lawful (label_of k text)
label_lawful record_type text = bind_lawful _ _ (known_lawful (text ∷ [])) (λ _. bind_lawful _ _ gap_lawful (λ _. mark_gap_lawful 0x3A))
label_lawful tuple_type text = done_lawful tt

member_lawful : (k : FieldsKind) (text : List ℕ) (g : Grammar Val) → Lawful g → Lawful (member k text g)
member_lawful k text g l = bind_lawful _ _ (label_lawful k text) (λ _. bind_lawful _ _ l (λ v. bind_lawful _ _ (separator_lawful (closing k)) (λ _. done_lawful v)))

fields_lawful : (k : FieldsKind) (g : Grammar (List Val)) → Lawful g → Lawful (fields_value k g)
fields_lawful k g l = bind_lawful _ _ (mark_lawful (opening k)) (λ _. bind_lawful _ _ l (λ vs. bind_lawful _ _ (mark_lawful (closing k)) (λ _. done_lawful _)))

known_case_lawful : (names : List (List ℕ)) → Lawful (known_case names)
known_case_lawful names = where_lawful _ _ (known_lawful names)

payload_lawful : (g : Grammar Val) (n : ℕ) → Lawful g → Lawful (payload_value g n)
payload_lawful g n l = bind_lawful _ _ (mark_lawful 0x28) (λ _. bind_lawful _ _ l (λ v. bind_lawful _ _ (mark_lawful 0x29) (λ _. done_lawful _)))

mutual
  pub value_lawful : (t : Ty) → Lawful (value t)
  value_lawful bool = truth_lawful
  value_lawful (signed k) = signed_lawful (2 ^ (8 * width_bytes k - 1))
  value_lawful (unsigned k) = unsigned_lawful (2 ^ (8 * width_bytes k))
  value_lawful char = char_lawful
  value_lawful string = string_lawful
  value_lawful (list t) = list_lawful (value t) (value_lawful t)
  value_lawful (fixed_list t n) = fixed_lawful (value t) n (value_lawful t)
  value_lawful (fields k fs) = fields_lawful k (members k fs) (members_lawful k fs)
  value_lawful (cases k cs) = bind_lawful _ _ (known_case_lawful (case_names k cs)) (λ i. case_rest_lawful cs i i)
  value_lawful (flags ls) = flags_lawful ls
  value_lawful (own r) = handle_lawful r
  value_lawful (borrow r) = handle_lawful r

  pub members_lawful : (k : FieldsKind) (fs : Fields) → Lawful (members k fs)
  members_lawful k no_fields = done_lawful []
  members_lawful k (field l t fs) = bind_lawful _ _ (member_lawful k l (value t) (value_lawful t)) (λ v. bind_lawful _ _ (members_lawful k fs) (λ vs. done_lawful (v ∷ vs)))

  pub case_rest_lawful : (cs : Cases) (i n : ℕ) → Lawful (case_rest cs i n)
  case_rest_lawful no_cases i n = fail_lawful reason.UnknownName
  case_rest_lawful (plain l cs) zero n = done_lawful _
  case_rest_lawful (plain l cs) (suc i) n = case_rest_lawful cs i n
  case_rest_lawful (carrying l t cs) zero n = payload_lawful (value t) n (value_lawful t)
  case_rest_lawful (carrying l t cs) (suc i) n = case_rest_lawful cs i n

pub spaced_lawful : (t : Ty) → Lawful (spaced (value t))
spaced_lawful t = bind_lawful _ _ (value_lawful t) (λ v. bind_lawful _ _ gap_lawful (λ _. done_lawful v))
