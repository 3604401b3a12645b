-- The text of a value is read back as the value.
use Rattle.std.proofs.Common.{◌≡◌, ℕ, zero, suc, ℤ, pos, negsuc, neg_ℤ, ◌*◌, ◌-◌, ◌^◌, ◌<◌, ◌≤◌, Bool, true, false, List, [], ◌∷◌, ◌++◌, length, Option, Some, None, Ok, refl, sym, ap, subst, ◌∙◌, append_assoc, append-nil, arith, inl, inr}
use Rattle.std.specs.Prelude.{codes, ◌≤ℤ◌, ◌<ℤ◌}
use Rattle.std.proofs.lemmas.Int.{ints}
use Rattle.std.specs.Fmt.{decimal, signed_decimal}
use Rattle.std.specs.List.{AllByRecursion, flat_map}
use Rattle.std.specs.Str.{encode_utf8_all, is_utf8}
use Rattle.std.proofs.lemmas.Bool.{and_from, eq-eqb, le-leb}
use Rattle.std.proofs.lemmas.Str.{chars-encodes, is_utf8-from_IsUtf8}
use lib.Utf8.{scalars}
use Rattle.cm_types.specs.declared.resource.ResourceId.{ResourceId}
use Rattle.cm_types.specs.Types.{Ty, Fields, Cases, FieldsKind, CasesKind, Width, bool, signed, unsigned, char, string, list, fixed_list, fields, cases, flags, own, borrow, no_fields, field, no_cases, plain, carrying, record_type, tuple_type, variant_type, enum_type, option_type, result_type, width_bytes, bits_8, bits_16, bits_32, bits_64}
use Rattle.cm_types.specs.Values.{Val, Vals, no_vals, val, truth, signed_number, number, scalar, text, elements, parts, bare, bearing, flag_set, handle, HandleValue, HasType, HaveTypes, IsCarriedCase, IsPlainCase, IsScalarValue, AllVals, count_of}
use Rattle.cm_types.specs.ValueTrees.{vals_from}
use Rattle.cm_values.specs.Quotes as Quotes
use Rattle.cm_types.proofs.ValuesLaws.{scalar_back}
use Rattle.cm_values.specs.SpelledNames.{case_word, name_spelling}
use Rattle.cm_values.specs.Spelling.{bare_spelling, bearing_spelling, each, field_spellings, label_spelling, spelling, with_commas}
use Rattle.cm_values.specs.Grammar.{first_or}
use Rattle.cm_values.specs.CaseNames.{case_name, case_names}
use Rattle.cm_values.specs.Quoted.{one_char, quoted_text}
use Rattle.cm_values.specs.Values.{case_rest, char_value, closing, handle_value, known_case, member, members, signed_value, so_many, string_value, unsigned_value, value, where_so}
use Rattle.cm_values.specs.Whole.{Spells}
use Rattle.cm_values.specs.Words.{known, name, place_in, separator, word}
use Rattle.cm_values.specs.Premises.{AreNames, AreHeld, AreReadable, HaveReadable, IsFieldLabel, IsHeld, IsReadable, is_wordy}
use Rattle.cm_values.proofs.SpellLists.{AllBack, IsClosing, ReadsBack, brace, bracket, comma_spelled, end_spelled, items_spelled, marked_spelled, opens_more, parenthesis}
use Rattle.cm_values.proofs.SpellFlags.{flags_back}
use Rattle.cm_values.proofs.SpellNames.{At, label_back, label_opens, place_at, same_bytes, wordy_at}
use Rattle.cm_values.proofs.SpellQuotes.{IsQuote, quoted_spelled}
use Rattle.cm_values.proofs.SpellWords.{Ends, Opens, decimal_opens, gap_none, known_spelled, magnitude_spelled, mark_blank, mark_spelled, no_blank, no_sign, plain_name, word_spelled, wordy_opens}

-- ---- truth values, numbers

truth_back : (b : Bool) (next : Option ℕ) → Ends next → (value bool).Spells (truth b) (spelling bool (truth b)) next
truth_back true next ends = (tt, [], codes "true", gap_none (Some 0x74) refl, (codes "true", word_spelled (codes "true") next refl ends, refl), refl)
truth_back false next ends = (tt, [], codes "false", gap_none (Some 0x66) refl, (codes "false", word_spelled (codes "false") next refl ends, refl), refl)

number_back : (limit n : ℕ) (next : Option ℕ) → n < limit → n < 2 ^ 64 → Ends next → (unsigned_value limit).Spells (number n) (decimal n) next
number_back limit n next lt small ends = (
  tt,
  [],
  decimal n,
  gap_none (first_or (decimal n) next) (no_blank (decimal n) next (decimal_opens n small)),
  (n, decimal n, [], magnitude_spelled limit n next lt small ends, (refl, refl), sym (append-nil (decimal n))),
  refl,
)

width_small : (k : Width) (n : ℕ) → n < 2 ^ (8 * width_bytes k) → n < 2 ^ 64
width_small bits_8 n h = omega arith
width_small bits_16 n h = omega arith
width_small bits_32 n h = omega arith
width_small bits_64 n h = h

half_small : (k : Width) → 2 ^ (8 * width_bytes k - 1) ≤ 2 ^ 63
half_small bits_8 = omega arith
half_small bits_16 = omega arith
half_small bits_32 = omega arith
half_small bits_64 = omega arith

fits_pos : (n limit : ℕ) → pos n <ℤ pos limit → n < limit
fits_pos n limit h = omega (arith, ints)

fits_neg : (n limit : ℕ) → neg_ℤ (pos limit) ≤ℤ negsuc n → suc n ≤ limit
fits_neg n zero h = absurd (omega (arith, ints))
fits_neg n (suc limit) h = omega (arith, ints)

signed_back : (limit : ℕ) (z : ℤ) (next : Option ℕ) → limit ≤ 2 ^ 63 → neg_ℤ (pos limit) ≤ℤ z → z <ℤ pos limit → Ends next → (signed_value limit).Spells (signed_number z) (signed_decimal z) next
signed_back limit (pos n) next small low high ends =
    let lt : n < limit = fits_pos n limit high in
    let wide : n < 2 ^ 64 = omega arith in (
      tt,
      [],
      decimal n,
      gap_none (first_or (decimal n) next) (no_blank (decimal n) next (decimal_opens n wide)),
      inr (no_sign n next wide, (n, decimal n, [], magnitude_spelled limit n next lt wide ends, (refl, refl), sym (append-nil (decimal n)))),
      refl,
    )
signed_back limit (negsuc n) next small low high ends =
    let le : suc n ≤ limit = fits_neg n limit low in
    let lt : suc n < suc limit = omega arith in
    let wide : suc n < 2 ^ 64 = omega arith in (
      tt,
      [],
      0x2D ∷ decimal (suc n),
      gap_none (Some 0x2D) refl,
      inl (
        refl,
        (
          tt,
          0x2D ∷ [],
          decimal (suc n),
          (0x2D, refl, refl),
          (suc n, decimal (suc n), [], magnitude_spelled (suc limit) (suc n) next lt wide ends, (refl, refl), sym (append-nil (decimal (suc n)))),
          refl,
        ),
      ),
      refl,
    )

-- ---- texts

apostrophe : IsQuote 0x27
apostrophe = record { other = refl; self = refl; no_u = refl; small = omega arith; this = refl; same = refl }

double_quote : IsQuote 0x22
double_quote = record { other = refl; self = refl; no_u = refl; small = omega arith; this = refl; same = refl }

all_scalars : (cs : List ℕ) → AllByRecursion IsScalarValue cs → scalars cs ≡ true
all_scalars [] h = refl
all_scalars (c ∷ cs) h = and_from _ _ (scalar_back c h.0) (all_scalars cs h.1)

text_spelled : (q : ℕ) (cs : List ℕ) (next : Option ℕ) → IsQuote q → scalars cs ≡ true → (quoted_text q).Spells (encode_utf8_all cs) (Quotes.quoted q cs) next
text_spelled q cs next k ok =
    let utf8 : is_utf8 (encode_utf8_all cs) ≡ true = is_utf8-from_IsUtf8 (encode_utf8_all cs) (cs, (ok, refl)) in
    (encode_utf8_all cs, quoted_spelled q cs next k, rw utf8 refl)

string_back : (cs : List ℕ) (next : Option ℕ) → AllByRecursion IsScalarValue cs → string_value.Spells (text cs) (Quotes.quoted 0x22 cs) next
string_back cs next h =
    let ok = all_scalars cs h in (
      tt,
      [],
      Quotes.quoted 0x22 cs,
      gap_none (Some 0x22) refl,
      (
        encode_utf8_all cs,
        Quotes.quoted 0x22 cs,
        [],
        text_spelled 0x22 cs next double_quote ok,
        (ap (λ (z : List ℕ). text z) (sym (chars-encodes cs ok)), refl),
        sym (append-nil (Quotes.quoted 0x22 cs)),
      ),
      refl,
    )

char_back : (c : ℕ) (next : Option ℕ) → IsScalarValue c → char_value.Spells (scalar c) (Quotes.quoted 0x27 (c ∷ [])) next
char_back c next h =
    let ok = all_scalars (c ∷ []) (h, tt) in
    let one : one_char (encode_utf8_all (c ∷ [])) ≡ Ok c = rw (chars-encodes (c ∷ []) ok) refl in (
      tt,
      [],
      Quotes.quoted 0x27 (c ∷ []),
      gap_none (Some 0x27) refl,
      (
        c,
        Quotes.quoted 0x27 (c ∷ []),
        [],
        (encode_utf8_all (c ∷ []), text_spelled 0x27 (c ∷ []) next apostrophe ok, one),
        (refl, refl),
        sym (append-nil (Quotes.quoted 0x27 (c ∷ []))),
      ),
      refl,
    )

-- ---- handles

handle_back : (r : ResourceId) (h : HandleValue) (next : Option ℕ) → h.resource ≡ r → h.serial < 2 ^ 64 → h.rep < 2 ^ 32 → Ends next → (handle_value r).Spells (handle h) (spelling (own r) (handle h)) next
handle_back r h next same wide narrow ends =
    let rep_wide : h.rep < 2 ^ 64 = omega arith in
    let rest = decimal h.rep in (
      tt,
      0x23 ∷ [],
      decimal h.serial ++ (0x3A ∷ rest),
      mark_spelled 0x23 (first_or (decimal h.serial ++ (0x3A ∷ rest)) next) refl refl,
      (
        h.serial,
        decimal h.serial,
        0x3A ∷ rest,
        magnitude_spelled (2 ^ 64) h.serial (Some 0x3A) wide wide refl,
        (
          tt,
          0x3A ∷ [],
          rest,
          (0x3A, refl, refl),
          (
            h.rep,
            rest,
            [],
            magnitude_spelled (2 ^ 32) h.rep next narrow rep_wide ends,
            (ap (λ (z : ResourceId). handle (record { serial = h.serial; rep = h.rep; resource = z })) same, refl),
            sym (append-nil rest),
          ),
          refl,
        ),
        refl,
      ),
      refl,
    )

-- ---- the names of cases

word_back : (k : CasesKind) (l : List ℕ) (next : Option ℕ) → is_wordy (case_name k l) ≡ true → Ends next → name.Spells (case_name k l) (case_word k l) next
word_back variant_type l next ok ends = label_back l next ok ends
word_back enum_type l next ok ends = label_back l next ok ends
word_back option_type l next ok ends = plain_name l next ok ends
word_back result_type l next ok ends = plain_name (case_name result_type l) next ok ends

word_opens : (k : CasesKind) (l : List ℕ) → is_wordy (case_name k l) ≡ true → Opens (case_word k l)
word_opens variant_type l ok = label_opens l ok
word_opens enum_type l ok = label_opens l ok
word_opens option_type l ok = wordy_opens l ok
word_opens result_type l ok = wordy_opens (case_name result_type l) ok

-- ---- cases

module _ (k : CasesKind) where
  -- the case without a payload: its label, and what it spells
  bare_at : (cs : Cases) (i : ℕ) → IsPlainCase cs i → (l : List ℕ) × (bare_spelling k cs i ≡ case_word k l) × At (case_names k cs) i (case_name k l) × ((n : ℕ) (next : Option ℕ) → (case_rest cs i n).Spells (bare n) [] next)
  bare_at no_cases i h = absurd h
  bare_at (plain l cs) zero h = (l, refl, refl, λ n next. (refl, refl))
  bare_at (plain l cs) (suc i) h = bare_at cs i h
  bare_at (carrying l t cs) zero h = absurd h
  bare_at (carrying l t cs) (suc i) h = bare_at cs i h

-- a name among those of a type with cases
case_known : (names : List (List ℕ)) (i : ℕ) (l word : List ℕ) (next : Option ℕ) → AreNames names → length names ≤ 2 ^ 32 → At names i l → Opens word → name.Spells l word next → (known_case names).Spells i word next
case_known names i l word next are few at o s =
    subst (λ (b : Bool). (where_so b (known names)).Spells i word next) (sym (le-leb (length names) (2 ^ 32) few)) (known_spelled names l word i next o s (place_at names i l are at))

abbrev parens : List ℕ → List ℕ
parens inner = 0x28 ∷ (inner ++ 0x29 ∷ [])

-- ---- values of one type, fields and cases

abbrev list_of : Vals → List Val
list_of no_vals = []
list_of (val v vs) = v ∷ list_of vs

vals_again : (vs : Vals) → vals_from (list_of vs) ≡ vs
vals_again no_vals = refl
vals_again (val v vs) = ap (λ (ws : Vals). val v ws) (vals_again vs)

as_many : (vs : Vals) → length (list_of vs) ≡ count_of vs
as_many no_vals = refl
as_many (val v vs) = omega (arith, as_many vs)

all_back : (t : Ty) → ((v : Val) → HasType t v → IsHeld v → ReadsBack (value t) v (spelling t v)) → (vs : Vals) → AllVals (HasType t) vs → AreHeld vs → AllBack (value t) (list_of vs) (each (spelling t) vs)
all_back t back no_vals h k = tt
all_back t back (val v vs) h k = (back v h.0 k.0, all_back t back vs h.1 k.1)

-- a field with what separates it from the next
member_back : (k : FieldsKind) (l : List ℕ) (t : Ty) (v : Val) (sep : List ℕ) (next : Option ℕ) → IsFieldLabel k l → ReadsBack (value t) v (spelling t v) → Ends (first_or sep next) → (separator (closing k)).Spells tt sep next → (member k l (value t)).Spells v ((label_spelling k l ++ spelling t v) ++ sep) next
member_back record_type l t v sep next ok back ends s =
    let place : place_in (l ∷ []) l ≡ Ok 0 = rw (same_bytes l) refl in
    let rest = spelling t v ++ sep in
    let no = no_blank rest next (opens_more (spelling t v) sep back.opens) in (
      tt,
      name_spelling l ++ codes ": ",
      rest,
      (
        0,
        name_spelling l,
        codes ": ",
        known_spelled (l ∷ []) l (name_spelling l) 0 (Some 0x3A) (label_opens l ok) (label_back l (Some 0x3A) ok refl) place,
        (tt, [], codes ": ", gap_none (Some 0x3A) refl, mark_blank 0x3A (first_or rest next) refl no, refl),
        refl,
      ),
      (v, spelling t v, sep, back.spells (first_or sep next) ends, (tt, sep, [], s, (refl, refl), sym (append-nil sep)), refl),
      append_assoc (name_spelling l ++ codes ": ") (spelling t v) sep,
    )
member_back tuple_type l t v sep next ok back ends s = (
  tt,
  [],
  spelling t v ++ sep,
  (refl, refl),
  (v, spelling t v, sep, back.spells (first_or sep next) ends, (tt, sep, [], s, (refl, refl), sym (append-nil sep)), refl),
  refl,
)

member_opens : (k : FieldsKind) (l : List ℕ) (t : Ty) (v : Val) → IsFieldLabel k l → ReadsBack (value t) v (spelling t v) → Opens (label_spelling k l ++ spelling t v)
member_opens record_type l t v ok back = opens_more (name_spelling l ++ codes ": ") (spelling t v) (opens_more (name_spelling l) (codes ": ") (label_opens l ok))
member_opens tuple_type l t v ok back = back.opens

closes : (k : FieldsKind) → IsClosing (closing k)
closes record_type = brace
closes tuple_type = parenthesis

mutual
  value_back : (t : Ty) (v : Val) → HasType t v → IsHeld v → IsReadable t → ReadsBack (value t) v (spelling t v)
  value_back bool (truth true) h k r = record { opens = record { byte = 0x74; rest = codes "rue"; is = refl; test = refl }; spells = truth_back true }
  value_back bool (truth false) h k r = record { opens = record { byte = 0x66; rest = codes "alse"; is = refl; test = refl }; spells = truth_back false }
  value_back (signed w) (signed_number (pos n)) h k r =
      let lt : n < 2 ^ (8 * width_bytes w - 1) = fits_pos n (2 ^ (8 * width_bytes w - 1)) h.1 in
      let wide : n < 2 ^ 64 = omega (arith, half_small w) in
      record { opens = decimal_opens n wide; spells = λ next ends. signed_back (2 ^ (8 * width_bytes w - 1)) (pos n) next (half_small w) h.0 h.1 ends }
  value_back (signed w) (signed_number (negsuc n)) h k r =
      record { opens = record { byte = 0x2D; rest = decimal (suc n); is = refl; test = refl }; spells = λ next ends. signed_back (2 ^ (8 * width_bytes w - 1)) (negsuc n) next (half_small w) h.0 h.1 ends }
  value_back (unsigned w) (number n) h k r =
      let wide = width_small w n h in
      record { opens = decimal_opens n wide; spells = λ next ends. number_back (2 ^ (8 * width_bytes w)) n next h wide ends }
  value_back char (scalar c) h k r = record { opens = record { byte = 0x27; rest = _; is = refl; test = refl }; spells = λ next ends. char_back c next h }
  value_back string (text cs) h k r = record { opens = record { byte = 0x22; rest = _; is = refl; test = refl }; spells = λ next ends. string_back cs next h }
  value_back (list t) (elements vs) h k r =
      let all = all_back t (λ v a b. value_back t v a b r) vs h k in
      record {
        opens = record { byte = 0x5B; rest = with_commas (each (spelling t) vs) ++ codes "]"; is = refl; test = refl };
        spells = λ next ends. (
          list_of vs,
          spelling (list t) (elements vs),
          [],
          items_spelled 0x5B 0x5D (value t) (list_of vs) (each (spelling t) vs) next refl refl bracket all,
          (ap (λ (ws : Vals). elements ws) (sym (vals_again vs)), refl),
          sym (append-nil (spelling (list t) (elements vs))),
        );
      }
  value_back (fixed_list t n) (parts vs) h k r =
      let all = all_back t (λ v a b. value_back t v a b r) vs h.1 k in
      let many : so_many n (list_of vs) ≡ Ok (list_of vs) = rw (eq-eqb (length (list_of vs)) n (as_many vs ∙ h.0)) refl in
      record {
        opens = record { byte = 0x5B; rest = with_commas (each (spelling t) vs) ++ codes "]"; is = refl; test = refl };
        spells = λ next ends. (
          tt,
          [],
          spelling (fixed_list t n) (parts vs),
          gap_none (Some 0x5B) refl,
          (
            list_of vs,
            spelling (fixed_list t n) (parts vs),
            [],
            (list_of vs, items_spelled 0x5B 0x5D (value t) (list_of vs) (each (spelling t) vs) next refl refl bracket all, many),
            (ap (λ (ws : Vals). parts ws) (sym (vals_again vs)), refl),
            sym (append-nil (spelling (fixed_list t n) (parts vs))),
          ),
          refl,
        );
      }
  value_back (fields record_type fs) (parts vs) h k r =
      record {
        opens = record { byte = 0x7B; rest = with_commas (field_spellings record_type fs vs) ++ codes "}"; is = refl; test = refl };
        spells = λ next ends. subst (λ (ws : Vals). (value (fields record_type fs)).Spells (parts ws) (spelling (fields record_type fs) (parts vs)) next) (vals_again vs)
            (marked_spelled 0x7B 0x7D (members record_type fs) (λ (ws : List Val). parts (vals_from ws)) (list_of vs) (with_commas (field_spellings record_type fs vs)) next refl refl brace (members_back record_type fs vs h k r));
      }
  value_back (fields tuple_type fs) (parts vs) h k r =
      record {
        opens = record { byte = 0x28; rest = with_commas (field_spellings tuple_type fs vs) ++ codes ")"; is = refl; test = refl };
        spells = λ next ends. subst (λ (ws : Vals). (value (fields tuple_type fs)).Spells (parts ws) (spelling (fields tuple_type fs) (parts vs)) next) (vals_again vs)
            (marked_spelled 0x28 0x29 (members tuple_type fs) (λ (ws : List Val). parts (vals_from ws)) (list_of vs) (with_commas (field_spellings tuple_type fs vs)) next refl refl parenthesis (members_back tuple_type fs vs h k r));
      }
  value_back (cases k cs) (bare i) h held r =
      let p = bare_at k cs i h in
      let ok = wordy_at (case_names k cs) i (case_name k p.0) r.0 p.2 in
      rw p.1 (record {
        opens = word_opens k p.0 ok;
        spells = λ next ends. (i, case_word k p.0, [], case_known (case_names k cs) i (case_name k p.0) (case_word k p.0) next r.0 r.1 p.2 (word_opens k p.0 ok) (word_back k p.0 next ok ends), p.3 i next, sym (append-nil (case_word k p.0)));
      })
  value_back (cases k cs) (bearing i v) h held r =
      let p = bearing_back k cs i v h held r.2 in
      let ok = wordy_at (case_names k cs) i (case_name k p.0) r.0 p.3 in
      rw p.2 (record {
        opens = opens_more (case_word k p.0) (parens p.1) (word_opens k p.0 ok);
        spells = λ next ends. (i, case_word k p.0, parens p.1, case_known (case_names k cs) i (case_name k p.0) (case_word k p.0) (Some 0x28) r.0 r.1 p.3 (word_opens k p.0 ok) (word_back k p.0 (Some 0x28) ok refl), p.4 i next, refl);
      })
  value_back (flags ls) (flag_set n) h k r = flags_back ls n h r.0 r.1
  value_back (own x) (handle y) h k r = record { opens = record { byte = 0x23; rest = _; is = refl; test = refl }; spells = λ next ends. handle_back x y next h k.0 k.1 ends }
  value_back (borrow x) (handle y) h k r = record { opens = record { byte = 0x23; rest = _; is = refl; test = refl }; spells = λ next ends. handle_back x y next h k.0 k.1 ends }
  value_back _ _ h k r = absurd h

  members_back : (k : FieldsKind) (fs : Fields) (vs : Vals) → HaveTypes fs vs → AreHeld vs → AreReadable k fs → (members k fs).Spells (list_of vs) (with_commas (field_spellings k fs vs)) (Some (closing k))
  members_back k no_fields no_vals h held r = (refl, refl)
  members_back k no_fields (val v vs) h held r = absurd h
  members_back k (field l t fs) no_vals h held r = absurd h
  members_back k (field l t no_fields) (val v no_vals) h held r =
      let back = value_back t v h.0 held.0 r.1 in
      let p = label_spelling k l ++ spelling t v in (
        v,
        p ++ [],
        [],
        member_back k l t v [] (Some (closing k)) r.0 back (closes k).word (end_spelled (closing k) (closes k)),
        ([], [], [], (refl, refl), (refl, refl), refl),
        sym (append-nil (p ++ [])),
      )
  members_back k (field l t no_fields) (val v (val w vs)) h held r = absurd h.1
  members_back k (field l t (field m u fs)) (val v no_vals) h held r = absurd h.1
  members_back k (field l t (field m u fs)) (val v (val w vs)) h held r =
      let back = value_back t v h.0 held.0 r.1 in
      let more = value_back u w h.1.0 held.1.0 r.2.1 in
      let p = label_spelling k l ++ spelling t v in
      let q = label_spelling k m ++ spelling u w in
      let tail = flat_map (λ (x : List ℕ). codes ", " ++ x) (field_spellings k fs vs) in
      let rest = q ++ tail in
      let o = opens_more q tail (member_opens k m u w r.2.0 more) in (
        v,
        p ++ codes ", ",
        rest,
        member_back k l t v (codes ", ") (first_or rest (Some (closing k))) r.0 back refl (comma_spelled (closing k) (first_or rest (Some (closing k))) (no_blank rest (Some (closing k)) o)),
        (list_of (val w vs), rest, [], members_back k (field m u fs) (val w vs) h.1 held.1 r.2, (refl, refl), sym (append-nil rest)),
        sym (append_assoc p (codes ", ") rest),
      )

  -- the case with its payload: its label, the payload's text, and what they spell
  bearing_back : (k : CasesKind) (cs : Cases) (i : ℕ) (v : Val) → IsCarriedCase cs i v → IsHeld v → HaveReadable cs → (l inner : List ℕ) × (bearing_spelling k cs i v ≡ case_word k l ++ parens inner) × At (case_names k cs) i (case_name k l) × ((n : ℕ) (next : Option ℕ) → (case_rest cs i n).Spells (bearing n v) (parens inner) next)
  bearing_back k no_cases i v h held r = absurd h
  bearing_back k (plain l cs) zero v h held r = absurd h
  bearing_back k (plain l cs) (suc i) v h held r = bearing_back k cs i v h held r
  bearing_back k (carrying l t cs) zero v h held r =
      let back = value_back t v h held r.0 in
      (l, spelling t v, refl, refl, λ n next. marked_spelled 0x28 0x29 (value t) (λ (w : Val). bearing n w) v (spelling t v) next refl refl parenthesis (back.spells (Some 0x29) refl))
  bearing_back k (carrying l t cs) (suc i) v h held r = bearing_back k cs i v h held r.1

-- The text of a value is a spelling of it.
pub text_back : (t : Ty) (v : Val) → HasType t v → IsHeld v → IsReadable t → Spells t (spelling t v) v
text_back t v h held r =
    let back = value_back t v h held r in
    (v, spelling t v, [], back.spells None refl, (tt, [], [], gap_none None refl, (refl, refl), refl), sym (append-nil (spelling t v)))
