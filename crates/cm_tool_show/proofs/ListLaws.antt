-- Members of lists, as what they are shown as.
use Rattle.std.proofs.Common.{◌≡◌, ℕ, suc, ◌+◌, ◌<◌, ◌≤◌, List, [], ◌∷◌, ◌++◌, length, map, get_or, refl, sym, ap, subst, ◌∙◌, append_assoc, append-nil, add-one, Option, Some, None, Vec, Global, Ok, Err}
use Rattle.std.specs.Prelude.{codes}
use Rattle.std.specs.Fmt.{decimal}
use Rattle.std.specs.List.{flat_map}
use Rattle.std.specs.Option.{option_map}
use Rattle.std.specs.declared.rc.Rc.{Rc}
use Rattle.cm_types.specs.declared.names.Label.{Label}
use Rattle.cm_types.specs.Types.{Ty, Cases, cases, plain, carrying, no_cases, option_type, result_type}
use Rattle.cm_types.specs.TypeTrees.{case_before, case_of, cases_of, field_of, fields_of, parts_of, plain_from, type_of}
use Rattle.cm_types.specs.declared.type_trees.TypeNode.{TypeNode}
use Rattle.cm_types.specs.declared.type_trees.TypeNode.TheVariants as leaf
use Rattle.cm_types.specs.declared.type_trees.Field.{Field, out-Field}
use Rattle.cm_types.specs.declared.type_trees.Case.{Case, out-Case}
use Rattle.cm_types_arena.specs.Replaced.{Standing, replaced, replaced_cases, replaced_fields}
use Rattle.cm_tool_show.specs.Counted.{case_piece, case_with}
use Rattle.cm_tool_show.specs.Pages.{IsOver, seen_on, text_on}
use Rattle.cm_tool_show.specs.Pieces.{Piece, chars, seen_behind, text_behind}
use Rattle.cm_tool_show.specs.Lists.{comma_before, with_commas}
use Rattle.cm_tool_show.specs.ShownTypes.{between, case_pieces, field_pieces, label_pieces, part_pieces, type_pieces}
use Rattle.cm_tool_show.specs.declared.fault.ShowFault.{ShowFault}
use Rattle.cm_tool_show.specs.declared.page.Page.{Page}
use Rattle.cm_tool_show.specs.Written.{Shows}
use Rattle.cm_tool_show.proofs.PageLaws.{Adds, members, adds_next, all_text, all_seen, all_over}
use Rattle.cm_types.proofs.Seen.{seen_Enum, seen_case, seen_field}
use Rattle.cm_types.proofs.TypeTreesLaws.{seen_case_label, seen_label}

-- a member behind its comma
abbrev pub member : {A : Type 0} → (A → List Piece) → ℕ → A → List Piece
member g n x = comma_before n ++ g x

further : {A : Type 0} (g : A → List Piece) (n : ℕ) (xs : List A) → members (member g) (suc n) xs ≡ flat_map (λ q. chars (codes ", ") ∷ q) (map g xs)
further g n [] = refl
further g n (x ∷ xs) = ap (λ (ps : List Piece). chars (codes ", ") ∷ (g x ++ ps)) (subst (λ (k : ℕ). members (member g) k xs ≡ flat_map (λ q. chars (codes ", ") ∷ q) (map g xs)) (sym (add-one (suc n))) (further g (suc n) xs))

commas : {A : Type 0} (g : A → List Piece) (xs : List A) → members (member g) 0 xs ≡ with_commas (map g xs)
commas g [] = refl
commas g (x ∷ xs) = ap (λ (ps : List Piece). g x ++ ps) (further g 0 xs)

-- All members were added.
listed_text : {A : Type 0} (g : A → List Piece) (xs : List A) (pss : List (List Piece)) (i : ℕ) (start now : Page) → map g xs ≡ pss → length xs ≤ i → Adds (member g) xs i start now → text_on now ≡ text_on start ++ text_behind (seen_on start) (with_commas pss)
listed_text g xs pss i start now e le s = subst (λ (ps : List Piece). text_on now ≡ text_on start ++ text_behind (seen_on start) ps) (commas g xs ∙ ap with_commas e) (all_text (member g) xs i start now le s)

listed_seen : {A : Type 0} (g : A → List Piece) (xs : List A) (pss : List (List Piece)) (i : ℕ) (start now : Page) → map g xs ≡ pss → length xs ≤ i → Adds (member g) xs i start now → seen_on now ≡ seen_behind (seen_on start) (with_commas pss)
listed_seen g xs pss i start now e le s = subst (λ (ps : List Piece). seen_on now ≡ seen_behind (seen_on start) ps) (commas g xs ∙ ap with_commas e) (all_seen (member g) xs i start now le s)

listed_over : {A : Type 0} (g : A → List Piece) (xs : List A) (pss : List (List Piece)) (i : ℕ) (x : A) (start now : Page) → map g xs ≡ pss → i < length xs → x ≡ get_or xs i x → IsOver now (member g i x) → Adds (member g) xs i start now → IsOver start (with_commas pss)
listed_over g xs pss i x start now e lt at o s = subst (λ (ps : List Piece). IsOver start ps) (commas g xs ∙ ap with_commas e) (all_over (member g) xs i x start now lt at o s)

-- The next member was added.
pub member_shown : {A : Type 0} (g : A → List Piece) (xs : List A) (i : ℕ) (x : A) (start now new : Page) (u : Unit {0}) → i < length xs → x ≡ get_or xs i x → Shows (member g i x) now new (Ok u) → Adds (member g) xs i start now → Adds (member g) xs (i + 1) start new
member_shown g xs i x start now new u lt at h s = adds_next (member g) xs i x start now new lt at h.wrote.text h.wrote.seen s

list_shown : {A : Type 0} (g : A → List Piece) (xs : List A) (pss : List (List Piece)) (i : ℕ) (start now : Page) (u : Unit {0}) → map g xs ≡ pss → length xs ≤ i → Adds (member g) xs i start now → Shows (with_commas pss) start now (Ok u)
list_shown g xs pss i start now u e le s = record { wrote = record { text = listed_text g xs pss i start now e le s; seen = listed_seen g xs pss i start now e le s }; over = λ q. absurd cc }

-- One failed.
list_stops : {A : Type 0} (g : A → List Piece) (xs : List A) (pss : List (List Piece)) (i : ℕ) (x : A) (start now new : Page) (f : ShowFault) → map g xs ≡ pss → i < length xs → x ≡ get_or xs i x → Shows (member g i x) now new (Err f) → Adds (member g) xs i start now → Shows (with_commas pss) start new (Err f)
list_stops g xs pss i x start now new f e lt at h s = record { wrote = tt; over = λ q. listed_over g xs pss i x start now e lt at (h.over q) s }

-- ---- labels

pub labels_shown : (xs : List (List ℕ)) (i : ℕ) (start now : Page) (u : Unit {0}) → length xs ≤ i → Adds (member label_pieces) xs i start now → Shows (with_commas (map label_pieces xs)) start now (Ok u)
labels_shown xs i start now u le a = list_shown label_pieces xs (map label_pieces xs) i start now u refl le a

pub labels_stop : (xs : List (List ℕ)) (i : ℕ) (x : (List ℕ)) (start now new : Page) (f : ShowFault) → i < length xs → x ≡ get_or xs i x → Shows (member label_pieces i x) now new (Err f) → Adds (member label_pieces) xs i start now → Shows (with_commas (map label_pieces xs)) start new (Err f)
labels_stop xs i x start now new f lt at h a = list_stops label_pieces xs (map label_pieces xs) i x start now new f refl lt at h a

pub plain_pieces : (s : Standing) (ls : List (List ℕ)) → case_pieces (replaced_cases s (plain_from ls)) ≡ map label_pieces ls
plain_pieces s [] = refl
plain_pieces s (l ∷ ls) = ap (λ (pss : List (List Piece)). label_pieces l ∷ pss) (plain_pieces s ls)

-- ---- fields

abbrev pub field_piece : Standing → Field → List Piece
field_piece s f = chars (out-Field f).label ∷ chars (codes ": ") ∷ type_pieces (replaced s (type_of (out-Field f).ty))

fields_are : (s : Standing) (xs : List Field) → map (field_piece s) xs ≡ field_pieces (replaced_fields s (fields_of xs))
fields_are s [] = refl
fields_are s (x ∷ xs) =
    ap (λ (pss : List (List Piece)). field_piece s x ∷ pss) (fields_are s xs)
    ∙ (ap (λ (l : List ℕ). (chars l ∷ chars (codes ": ") ∷ type_pieces (replaced s (type_of (out-Field x).ty))) ∷ field_pieces (replaced_fields s (fields_of xs))) (sym (seen_label x))
    ∙ ap (λ (t : Ty). (chars (field_of x).0 ∷ chars (codes ": ") ∷ type_pieces (replaced s t)) ∷ field_pieces (replaced_fields s (fields_of xs))) (sym (seen_field x)))

pub fields_shown : (s : Standing) (xs : List Field) (i : ℕ) (start now : Page) (u : Unit {0}) → length xs ≤ i → Adds (member (field_piece s)) xs i start now → Shows (with_commas (field_pieces (replaced_fields s (fields_of xs)))) start now (Ok u)
fields_shown s xs i start now u le a = list_shown (field_piece s) xs (field_pieces (replaced_fields s (fields_of xs))) i start now u (fields_are s xs) le a

pub fields_stop : (s : Standing) (xs : List Field) (i : ℕ) (x : Field) (start now new : Page) (f : ShowFault) → i < length xs → x ≡ get_or xs i x → Shows (member (field_piece s) i x) now new (Err f) → Adds (member (field_piece s)) xs i start now → Shows (with_commas (field_pieces (replaced_fields s (fields_of xs)))) start new (Err f)
fields_stop s xs i x start now new f lt at h a = list_stops (field_piece s) xs (field_pieces (replaced_fields s (fields_of xs))) i x start now new f (fields_are s xs) lt at h a

-- ---- types without labels

abbrev pub part_piece : Standing → TypeNode → List Piece
part_piece s t = type_pieces (replaced s (type_of t))

parts_are : (s : Standing) (xs : List TypeNode) → map (part_piece s) xs ≡ part_pieces (replaced_fields s (parts_of xs))
parts_are s [] = refl
parts_are s (x ∷ xs) = ap (λ (pss : List (List Piece)). part_piece s x ∷ pss) (parts_are s xs)

pub parts_shown : (s : Standing) (xs : List TypeNode) (i : ℕ) (start now : Page) (u : Unit {0}) → length xs ≤ i → Adds (member (part_piece s)) xs i start now → Shows (with_commas (part_pieces (replaced_fields s (parts_of xs)))) start now (Ok u)
parts_shown s xs i start now u le a = list_shown (part_piece s) xs (part_pieces (replaced_fields s (parts_of xs))) i start now u (parts_are s xs) le a

pub parts_stop : (s : Standing) (xs : List TypeNode) (i : ℕ) (x : TypeNode) (start now new : Page) (f : ShowFault) → i < length xs → x ≡ get_or xs i x → Shows (member (part_piece s) i x) now new (Err f) → Adds (member (part_piece s)) xs i start now → Shows (with_commas (part_pieces (replaced_fields s (parts_of xs)))) start new (Err f)
parts_stop s xs i x start now new f lt at h a = list_stops (part_piece s) xs (part_pieces (replaced_fields s (parts_of xs))) i x start now new f (parts_are s xs) lt at h a

-- ---- cases

case_is : (s : Standing) (label : List ℕ) (payload : Option Ty) (cs : Cases) → case_with s label payload ∷ case_pieces (replaced_cases s cs) ≡ case_pieces (replaced_cases s (case_before label payload cs))
case_is s label None cs = refl
case_is s label (Some t) cs = refl

cases_are : (s : Standing) (xs : List Case) → map (case_piece s) xs ≡ case_pieces (replaced_cases s (cases_of xs))
cases_are s [] = refl
cases_are s (x ∷ xs) =
    ap (λ (pss : List (List Piece)). case_piece s x ∷ pss) (cases_are s xs)
    ∙ (ap (λ (l : List ℕ). case_with s l (option_map type_of (out-Case x).payload) ∷ case_pieces (replaced_cases s (cases_of xs))) (sym (seen_case_label x))
    ∙ (ap (λ (t : Option Ty). case_with s (case_of x).0 t ∷ case_pieces (replaced_cases s (cases_of xs))) (sym (seen_case x))
    ∙ case_is s (case_of x).0 (case_of x).1 (cases_of xs)))

pub cases_shown : (s : Standing) (xs : List Case) (i : ℕ) (start now : Page) (u : Unit {0}) → length xs ≤ i → Adds (member (case_piece s)) xs i start now → Shows (with_commas (case_pieces (replaced_cases s (cases_of xs)))) start now (Ok u)
cases_shown s xs i start now u le a = list_shown (case_piece s) xs (case_pieces (replaced_cases s (cases_of xs))) i start now u (cases_are s xs) le a

pub cases_stop : (s : Standing) (xs : List Case) (i : ℕ) (x : Case) (start now new : Page) (f : ShowFault) → i < length xs → x ≡ get_or xs i x → Shows (member (case_piece s) i x) now new (Err f) → Adds (member (case_piece s)) xs i start now → Shows (with_commas (case_pieces (replaced_cases s (cases_of xs)))) start new (Err f)
cases_stop s xs i x start now new f lt at h a = list_stops (case_piece s) xs (case_pieces (replaced_cases s (cases_of xs))) i x start now new f (cases_are s xs) lt at h a

-- ---- types of each kind

pub kind_is : (s : Standing) (t u : TypeNode) (x : Ty) → t ≡ u → type_of u ≡ x → type_pieces (replaced s (type_of t)) ≡ type_pieces (replaced s x)
kind_is s t u x e q = ap (λ (y : TypeNode). type_pieces (replaced s (type_of y))) e ∙ ap (λ (y : Ty). type_pieces (replaced s y)) q

pub enum_is : (s : Standing) (t : TypeNode) (v : Rc (Vec Label Global) Global) (ls : List (List ℕ)) → t ≡ leaf.Enum v → ls ≡ v.value.items → type_pieces (replaced s (type_of t)) ≡ between (codes "enum{") (codes "}") (with_commas (map label_pieces ls))
enum_is s t v ls e is =
    ap (λ (x : Ty). type_pieces (replaced s x)) (ap type_of e ∙ seen_Enum v)
    ∙ (ap (λ (pss : List (List Piece)). between (codes "enum{") (codes "}") (with_commas pss)) (plain_pieces s v.value.items)
    ∙ ap (λ (xs : List (List ℕ)). between (codes "enum{") (codes "}") (with_commas (map label_pieces xs))) (sym is))

pub two_is : (s : Standing) (ok error : Ty) → type_pieces (replaced s (cases result_type (carrying (codes "ok") ok (carrying (codes "error") error no_cases)))) ≡ (chars (codes "result<") ∷ type_pieces (replaced s ok)) ++ between (codes ", ") (codes ">") (type_pieces (replaced s error))
two_is s ok error = ap (λ (ps : List Piece). chars (codes "result<") ∷ ps) (append_assoc (type_pieces (replaced s ok)) (chars (codes ", ") ∷ type_pieces (replaced s error)) (chars (codes ">") ∷ []))

pub option_is : (s : Standing) (t : Ty) → type_pieces (replaced s (cases option_type (plain (codes "none") (carrying (codes "some") t no_cases)))) ≡ between (codes "option<") (codes ">") (type_pieces (replaced s t))
option_is s t = ap (λ (ps : List Piece). between (codes "option<") (codes ">") ps) (append-nil (type_pieces (replaced s t)))

pub result_parts : (o p x y : Option (Rc TypeNode Global)) → o ≡ x → p ≡ y → leaf.Result o p ≡ leaf.Result x y
result_parts o p x y e q = rw (e, q) refl

-- a list of fixed length, from its front to its end
pub fixed_pieces : (ps : List Piece) (n : ℕ) → between (codes "list<") (codes ">") (ps ++ chars (codes ", ") ∷ chars (decimal n) ∷ []) ≡ chars (codes "list<") ∷ (ps ++ chars (codes ", ") ∷ chars (decimal n) ∷ chars (codes ">") ∷ [])
fixed_pieces ps n = ap (λ (qs : List Piece). chars (codes "list<") ∷ qs) (append_assoc ps (chars (codes ", ") ∷ chars (decimal n) ∷ []) (chars (codes ">") ∷ []))

-- what stands behind the label of a case
abbrev pub case_rest : Standing → Option Ty → List Piece
case_rest s None = []
case_rest s (Some t) = between (codes "(") (codes ")") (type_pieces (replaced s t))

case_split : (s : Standing) (label : List ℕ) (payload : Option Ty) → case_with s label payload ≡ chars label ∷ case_rest s payload
case_split s label None = refl
case_split s label (Some t) = refl

pub case_shown : (s : Standing) (label : List ℕ) (payload : Option TypeNode) (given : Option TypeNode) (front : List Piece) → payload ≡ given → front ++ case_with s label (option_map type_of payload) ≡ front ++ chars label ∷ case_rest s (option_map type_of given)
case_shown s label payload given front e = ap (λ (ps : List Piece). front ++ ps) (case_split s label (option_map type_of payload)) ∙ ap (λ (o : Option TypeNode). front ++ chars label ∷ case_rest s (option_map type_of o)) e
