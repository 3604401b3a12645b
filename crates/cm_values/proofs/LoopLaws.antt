-- What the loops of readers come to.
use Rattle.std.proofs.Math.Pow.{pow_mono}
use Rattle.std.proofs.Common.{◌≡◌, ℕ, suc, ◌%◌, ◌*◌, arith, ◌+◌, ◌<◌, ◌≤◌, ◌^◌, List, [], ◌∷◌, ◌++◌, length, drop, get_or, Option, None, Result, Ok, Err, refl, sym, ap, subst, ◌∙◌, append_assoc, append-nil}
use Rattle.std.specs.Int.RustNames.{bit_or}
use Rattle.cm_types.specs.Types.{Ty, Fields, FieldsKind, field, tuple_type}
use Rattle.cm_types.specs.TypeTrees.{field_of, fields_of, parts_of, type_of}
use Rattle.cm_types.specs.Values.{Val}
use Rattle.cm_types.specs.declared.type_trees.Field.{Field}
use Rattle.cm_types.specs.declared.type_trees.TypeNode.{TypeNode}
use Rattle.cm_lemmas.proofs.Lists.{drop_past, rest_from}
use Rattle.cm_values.specs.declared.value_fault.Fault.{Fault}
use Rattle.cm_values.specs.declared.value_fault.ReadError.{ReadError}
use Rattle.cm_values.specs.declared.value_fault.ReadError.TheVariants as errors
use Rattle.cm_values.specs.declared.piece.Piece.{Piece}
use Rattle.cm_values.specs.ReadFaults.{and_then, Fails}
use Rattle.cm_values.specs.Grammar.{Grammar, steps, with_front}
use Rattle.cm_values.specs.Lists.{next_item}
use Rattle.cm_values.specs.Quoted.{next_piece, piece_bytes, pieces, pieces_bytes}
use Rattle.cm_values.specs.Values.{flags_on, member, members, some_flags, value}
use Rattle.cm_values.specs.Words.{known}
use Rattle.cm_values.proofs.StepLaws.{StepsGo, steps_begin, steps_end, steps_fail}
use Rattle.cm_lemmas.proofs.Results.{ok_of}

pub front_none : {A : Type 0} (r : Result (List A × List ℕ) Fault) → with_front [] r ≡ r
front_none (Ok p) = refl
front_none (Err f) = refl

pub steps_start : {A : Type 0} (g : Grammar (Option A)) (bytes : List ℕ) → StepsGo g [] bytes ((steps g).reads bytes)
steps_start g bytes = subst (λ r. StepsGo g [] bytes r) (front_none ((steps g).reads bytes)) (steps_begin g [] bytes)

then_fail : {A B : Type 0} (r : Result A Fault) (next : A → Result B Fault) (f : Fault) → r ≡ Err f → and_then r next ≡ Err f
then_fail r next f e = rw e refl

-- ---- pieces of what stands in quotes

pub pieces_fail : (quote : ℕ) (ps : List Piece) (rest start : List ℕ) (e : ReadError) → StepsGo (next_piece quote) ps rest ((steps (next_piece quote)).reads start) → Fails e ((next_piece quote).reads rest) → Fails e ((pieces quote).reads start)
pieces_fail quote ps rest start errors.Memory s h = tt
pieces_fail quote ps rest start (errors.Fault f) s h = then_fail ((steps (next_piece quote)).reads start) _ f (steps_fail (next_piece quote) ps rest f ((steps (next_piece quote)).reads start) s h)

pub pieces_end : (quote : ℕ) (ps : List Piece) (rest start after : List ℕ) → StepsGo (next_piece quote) ps rest ((steps (next_piece quote)).reads start) → (next_piece quote).reads rest ≡ Ok (None, after) → (pieces quote).reads start ≡ Ok (pieces_bytes ps, after)
pieces_end quote ps rest start after s h = rw (steps_end (next_piece quote) ps rest after ((steps (next_piece quote)).reads start) s h) refl

pub pieces_more : (ps : List Piece) (p : Piece) → pieces_bytes (ps ++ p ∷ []) ≡ pieces_bytes ps ++ piece_bytes p
pieces_more [] p = append-nil (piece_bytes p)
pieces_more (q ∷ ps) p = ap (λ (z : List ℕ). piece_bytes q ++ z) (pieces_more ps p) ∙ sym (append_assoc (piece_bytes q) (pieces_bytes ps) (piece_bytes p))

-- ---- places of flags

pub flags_more : (n : ℕ) (places : List ℕ) (i : ℕ) → flags_on n (places ++ i ∷ []) ≡ bit_or (flags_on n places) (2 ^ i)
flags_more n [] i = refl
flags_more n (p ∷ places) i = flags_more (bit_or n (2 ^ p)) places i

pub flags_go_on : (first bits one : ℕ) (places : List ℕ) (i : ℕ) → bits ≡ flags_on first places → one ≡ 2 ^ i → bit_or bits one ≡ flags_on first (places ++ i ∷ [])
flags_go_on first bits one places i e f = cc (flags_more first places i, e, f)

pub flags_whole : (first bits place : ℕ) (places : List ℕ) → bits ≡ flags_on first places → first ≡ bit_or 0 (2 ^ place) → flags_on 0 (place ∷ places) ≡ bits
flags_whole first bits place places e f = sym (e ∙ ap (λ (n : ℕ). flags_on n places) f)

pub flags_fail : (ls : List (List ℕ)) (place : ℕ) (places : List ℕ) (rest start old : List ℕ) (e : ReadError) → (known ls).reads old ≡ Ok (place, start) → StepsGo (next_item 0x7D (known ls)) places rest ((steps (next_item 0x7D (known ls))).reads start) → Fails e ((next_item 0x7D (known ls)).reads rest) → Fails e ((some_flags ls).reads old)
flags_fail ls place places rest start old errors.Memory k s h = tt
flags_fail ls place places rest start old (errors.Fault f) k s h =
    rw (k, steps_fail (next_item 0x7D (known ls)) places rest f ((steps (next_item 0x7D (known ls))).reads start) s h) refl

pub flags_end : (ls : List (List ℕ)) (place : ℕ) (places : List ℕ) (rest start old after : List ℕ) → (known ls).reads old ≡ Ok (place, start) → StepsGo (next_item 0x7D (known ls)) places rest ((steps (next_item 0x7D (known ls))).reads start) → (next_item 0x7D (known ls)).reads rest ≡ Ok (None, after) → (some_flags ls).reads old ≡ Ok (flags_on 0 (place ∷ places), after)
flags_end ls place places rest start old after k s h =
    rw (k, steps_end (next_item 0x7D (known ls)) places rest after ((steps (next_item 0x7D (known ls))).reads start) s h) refl

-- ---- fields: these were read, and the rest makes all

front_cons : {A : Type 0} (xs : List A) (x : A) (r : Result (List A × List ℕ) Fault) → with_front xs (and_then r (λ y. Ok (x ∷ y.0, y.1))) ≡ with_front (xs ++ x ∷ []) r
front_cons {A} xs x (Ok p) = ap (λ (ys : List A). ok_of Fault (ys, p.1)) (sym (append_assoc xs (x ∷ []) p.0))
front_cons xs x (Err f) = refl

member_next : (k : FieldsKind) (l : List ℕ) (t : Ty) (fs : Fields) (xs : List Val) (x : Val) (rest after : List ℕ) (all : Result (List Val × List ℕ) Fault) → with_front xs ((members k (field l t fs)).reads rest) ≡ all → (member k l (value t)).reads rest ≡ Ok (x, after) → with_front (xs ++ x ∷ []) ((members k fs).reads after) ≡ all
member_next k l t fs xs x rest after all s e =
    sym (front_cons xs x ((members k fs).reads after))
    ∙ (sym (ap (λ (r : Result (Val × List ℕ) Fault). with_front xs (and_then r (λ p. and_then ((members k fs).reads p.1) (λ y. Ok (p.0 ∷ y.0, y.1))))) e) ∙ s)

member_fail : (k : FieldsKind) (l : List ℕ) (t : Ty) (fs : Fields) (xs : List Val) (rest : List ℕ) (e : ReadError) (all : Result (List Val × List ℕ) Fault) → with_front xs ((members k (field l t fs)).reads rest) ≡ all → Fails e ((member k l (value t)).reads rest) → Fails e all
member_fail k l t fs xs rest errors.Memory all s h = tt
member_fail k l t fs xs rest (errors.Fault f) all s h =
    sym s ∙ ap (λ (r : Result (Val × List ℕ) Fault). with_front xs (and_then r (λ p. and_then ((members k fs).reads p.1) (λ y. Ok (p.0 ∷ y.0, y.1))))) h

abbrev pub FieldsGo : FieldsKind → Fields → List Val → List ℕ → Result (List Val × List ℕ) Fault → Type 0
FieldsGo k fs xs rest all = with_front xs ((members k fs).reads rest) ≡ all

pub fields_next : (k : FieldsKind) (fs : List Field) (i : ℕ) (f : Field) (xs : List Val) (x : Val) (rest after : List ℕ) (all : Result (List Val × List ℕ) Fault) → i < length fs → f ≡ get_or fs i f → FieldsGo k (fields_of (drop i fs)) xs rest all → (member k (field_of f).0 (value (field_of f).1)).reads rest ≡ Ok (x, after) → FieldsGo k (fields_of (drop (i + 1) fs)) (xs ++ x ∷ []) after all
fields_next k fs i f xs x rest after all lt is s e =
    member_next k (field_of f).0 (field_of f).1 (fields_of (drop (i + 1) fs)) xs x rest after all (subst (λ (z : List Field). FieldsGo k (fields_of z) xs rest all) (rest_from fs i f lt is) s) e

pub fields_fail : (k : FieldsKind) (fs : List Field) (i : ℕ) (f : Field) (xs : List Val) (rest : List ℕ) (e : ReadError) (all : Result (List Val × List ℕ) Fault) → i < length fs → f ≡ get_or fs i f → FieldsGo k (fields_of (drop i fs)) xs rest all → Fails e ((member k (field_of f).0 (value (field_of f).1)).reads rest) → Fails e all
fields_fail k fs i f xs rest e all lt is s h =
    member_fail k (field_of f).0 (field_of f).1 (fields_of (drop (i + 1) fs)) xs rest e all (subst (λ (z : List Field). FieldsGo k (fields_of z) xs rest all) (rest_from fs i f lt is) s) h

pub fields_end : (k : FieldsKind) (fs : List Field) (i : ℕ) (xs : List Val) (rest : List ℕ) (all : Result (List Val × List ℕ) Fault) → length fs ≤ i → FieldsGo k (fields_of (drop i fs)) xs rest all → all ≡ Ok (xs, rest)
fields_end k fs i xs rest all le s =
    sym (subst (λ (z : List Field). FieldsGo k (fields_of z) xs rest all) (drop_past fs i le) s) ∙ ap (λ (ys : List Val). ok_of Fault (ys, rest)) (append-nil xs)

pub parts_next : (ts : List TypeNode) (i : ℕ) (t : TypeNode) (xs : List Val) (x : Val) (rest after : List ℕ) (all : Result (List Val × List ℕ) Fault) → i < length ts → t ≡ get_or ts i t → FieldsGo tuple_type (parts_of (drop i ts)) xs rest all → (member tuple_type [] (value (type_of t))).reads rest ≡ Ok (x, after) → FieldsGo tuple_type (parts_of (drop (i + 1) ts)) (xs ++ x ∷ []) after all
parts_next ts i t xs x rest after all lt is s e =
    member_next tuple_type [] (type_of t) (parts_of (drop (i + 1) ts)) xs x rest after all (subst (λ (z : List TypeNode). FieldsGo tuple_type (parts_of z) xs rest all) (rest_from ts i t lt is) s) e

pub parts_fail : (ts : List TypeNode) (i : ℕ) (t : TypeNode) (xs : List Val) (rest : List ℕ) (e : ReadError) (all : Result (List Val × List ℕ) Fault) → i < length ts → t ≡ get_or ts i t → FieldsGo tuple_type (parts_of (drop i ts)) xs rest all → Fails e ((member tuple_type [] (value (type_of t))).reads rest) → Fails e all
parts_fail ts i t xs rest e all lt is s h =
    member_fail tuple_type [] (type_of t) (parts_of (drop (i + 1) ts)) xs rest e all (subst (λ (z : List TypeNode). FieldsGo tuple_type (parts_of z) xs rest all) (rest_from ts i t lt is) s) h

pub parts_end : (ts : List TypeNode) (i : ℕ) (xs : List Val) (rest : List ℕ) (all : Result (List Val × List ℕ) Fault) → length ts ≤ i → FieldsGo tuple_type (parts_of (drop i ts)) xs rest all → all ≡ Ok (xs, rest)
parts_end ts i xs rest all le s =
    sym (subst (λ (z : List TypeNode). FieldsGo tuple_type (parts_of z) xs rest all) (drop_past ts i le) s) ∙ ap (λ (ys : List Val). ok_of Fault (ys, rest)) (append-nil xs)

-- ---- one bit

pub one_shifted : (place : ℕ) → place < 32 → 1 * 2 ^ place % 2 ^ 32 ≡ 2 ^ place
one_shifted place small =
    let some : 2 ^ 0 ≤ 2 ^ place = pow_mono {i = 0} {j = place} (omega arith) in
    let twice : 2 ^ suc place ≤ 2 ^ 32 = pow_mono {i = suc place} {j = 32} (omega arith) in
    let fits : 2 ^ place < 2 ^ 32 = omega arith in
    omega arith
