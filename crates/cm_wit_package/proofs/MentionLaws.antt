-- The n-th mention of a file is of the n-th name of its text.
use Rattle.std.proofs.Common.{◌≡◌, ℕ, ◌+◌, Bool, true, false, cond, if◌then◌else◌, List, [], ◌∷◌, ◌++◌, length, map, Option, Some, None, refl, sym, ap, subst, ◌∙◌, append-nil, inl, inr}
use Rattle.std.specs.List.{flat_map}
use Rattle.cm_wit_tokens.specs.declared.operator.Operator.TheVariants as operator
use Rattle.cm_wit_tokens.specs.declared.token.Form.{Form}
use Rattle.cm_wit_tokens.specs.declared.token.Form.TheVariants as form
use Rattle.cm_wit_tokens.specs.declared.token.Token.{Token}
use Rattle.cm_wit_tokens.specs.Tokens.{lexed}
use Rattle.cm_wit_reading.specs.declared.types.Primitive.{Primitive}
use Rattle.cm_wit_reading.specs.declared.types.Primitive.TheVariants as primitive_is
use Rattle.cm_wit_reading.specs.Types.{Ty, Tys, primitive, named, borrow, list, fixed_list, option, tuple, plain_result, ok_result, error_result, result, no_types, types}
use Rattle.cm_wit_reading.specs.Signatures.{Typed, Func, Path, local, foreign}
use Rattle.cm_wit_reading.specs.Trees.{UsedName, Use, Case, ResourceFunc, method, static, constructor, TypeDef, alias, record_of, variant, enum, flags, resource, InterfaceItem, uses, defines, has_func, Interface, WorldExtern, interface_at, named_func, WorldItem, imports, exports, World, FileItem, interface, world, File}
use Rattle.cm_wit_names.specs.declared.mention.Place.{Place}
use Rattle.cm_wit_names.specs.Mentions.{Mention, list_of, exports_of}
use Rattle.cm_wit_names.specs.Marks.{Marks, one, ◌then◌, each, optional}
use Rattle.cm_wit_names.specs.FileMentions as marks
use Rattle.cm_wit_package.specs.TreeTokens as tokens
use Rattle.cm_wit_package.specs.Words.{words}
use Rattle.cm_wit_package.specs.Places.{is_name, names_in}
use Rattle.cm_wit_package.specs.Mentioned.{name_text, name_texts, IsReferredAt, AreOf}

-- ---- the names among forms

abbrev names : List Form → List (List ℕ)
names [] = []
names (f ∷ fs) = if is_name f then name_text f ∷ names fs else names fs

names_by : (is : Bool) (w : List ℕ) (xs ys : List (List ℕ)) → (if is then w ∷ (xs ++ ys) else xs ++ ys) ≡ (if is then w ∷ xs else xs) ++ ys
names_by true w xs ys = refl
names_by false w xs ys = refl

names_append : (a b : List Form) → names (a ++ b) ≡ names a ++ names b
names_append [] b = refl
names_append (f ∷ a) b = ap (λ (z : List (List ℕ)). if is_name f then name_text f ∷ z else z) (names_append a b) ∙ names_by (is_name f) (name_text f) (names a) (names b)

names_words : (fs : List Form) → names (words fs) ≡ names fs
names_words [] = refl
names_words (form.Operator o ∷ fs) = names_words fs
names_words (form.Keyword k ∷ fs) = ap (λ (z : List (List ℕ)). if is_name (form.Keyword k) then name_text (form.Keyword k) ∷ z else z) (names_words fs)
names_words (form.Identifier w ∷ fs) = ap (λ (z : List (List ℕ)). w ∷ z) (names_words fs)
names_words (form.Version v ∷ fs) = names_words fs
names_words (form.Integer n ∷ fs) = names_words fs

texts_by : (is : Bool) (t : Token) (rest : List Token) (ws : List (List ℕ)) → map (λ (u : Token). name_text u.form) rest ≡ ws → map (λ (u : Token). name_text u.form) (cond is (t ∷ rest) rest) ≡ (if is then name_text t.form ∷ ws else ws)
texts_by true t rest ws e = ap (λ (z : List (List ℕ)). name_text t.form ∷ z) e
texts_by false t rest ws e = e

texts_are : (ts : List Token) → map (λ (t : Token). name_text t.form) (names_in ts) ≡ names (map (λ t. t.form) ts)
texts_are [] = refl
texts_are (t ∷ ts) = texts_by (is_name t.form) t (names_in ts) _ (texts_are ts)

-- ---- marks of parts

-- The marks of a part are of its names, from whichever number on.
abbrev Fits : Marks → List Form → Type 0
Fits m fs = (n : ℕ) → AreOf (m n) (names fs)

are_append : (ms ns : List Mention) (ws vs : List (List ℕ)) → AreOf ms ws → AreOf ns vs → AreOf (ms ++ ns) (ws ++ vs)
are_append [] ns [] vs h k = k
are_append [] ns (w ∷ ws) vs h k = absurd h
are_append (m ∷ ms) ns [] vs h k = absurd h
are_append (m ∷ ms) ns (w ∷ ws) vs h k = (h.0, are_append ms ns ws vs h.1 k)

both : (a b : Marks) (fs gs : List Form) → Fits a fs → Fits b gs → Fits (a then b) (fs ++ gs)
both a b fs gs h k n = subst (λ (ws : List (List ℕ)). AreOf ((a then b) n) ws) (sym (names_append fs gs)) (are_append (a n) (b (n + length (a n))) (names fs) (names gs) (h n) (k (n + length (a n))))

-- what has no names may stand behind
before : (a : Marks) (fs gs : List Form) → names gs ≡ [] → Fits a fs → Fits a (fs ++ gs)
before a fs gs e h n = subst (λ (ws : List (List ℕ)). AreOf (a n) ws) (sym (names_append fs gs ∙ (ap (λ (z : List (List ℕ)). names fs ++ z) e ∙ append-nil (names fs)))) (h n)

repeated : {A : Type 0} (part : A → Marks) (k : A → List Form) → ((x : A) → Fits (part x) (k x)) → (xs : List A) → Fits (each part xs) (flat_map k xs)
repeated part k h [] n = tt
repeated part k h (x ∷ xs) n = both (part x) (each part xs) (k x) (flat_map k xs) (h x) (repeated part k h xs) n

commas : {A : Type 0} (part : A → Marks) (k : A → List Form) → ((x : A) → Fits (part x) (k x)) → (xs : List A) → Fits (each part xs) (tokens.with_commas k xs)
commas part k h [] n = tt
commas part k h (x ∷ xs) n = both (part x) (each part xs) (k x) (tokens.behind_commas k xs) (h x) (repeated part (λ y. tokens.mark operator.Comma ++ k y) h xs) n

-- ---- types

primitive_names : (p : Primitive) → names (tokens.keyword (tokens.primitive_keyword p)) ≡ []
primitive_names primitive_is.Bool = refl
primitive_names primitive_is.S8 = refl
primitive_names primitive_is.S16 = refl
primitive_names primitive_is.S32 = refl
primitive_names primitive_is.S64 = refl
primitive_names primitive_is.U8 = refl
primitive_names primitive_is.U16 = refl
primitive_names primitive_is.U32 = refl
primitive_names primitive_is.U64 = refl
primitive_names primitive_is.Char = refl
primitive_names primitive_is.String = refl

mutual
  type_fits : (p : Place) (t : Ty) → Fits (marks.type_marks p t) (tokens.type_tokens t)
  type_fits p (primitive k) = λ n. rw (primitive_names k) tt
  type_fits p (named t) = λ n. ((tt, refl), tt)
  type_fits p (borrow r) = λ n. ((tt, refl), tt)
  type_fits p (list t) = before (marks.type_marks p t) (tokens.type_tokens t) _ refl (type_fits p t)
  type_fits p (fixed_list t k) = before (marks.type_marks p t) (tokens.type_tokens t) _ refl (type_fits p t)
  type_fits p (option t) = before (marks.type_marks p t) (tokens.type_tokens t) _ refl (type_fits p t)
  type_fits p (tuple ts) = before (marks.types_marks p ts) (tokens.types_tokens ts) _ refl (types_fits p ts)
  type_fits p plain_result = λ n. tt
  type_fits p (ok_result t) = before (marks.type_marks p t) (tokens.type_tokens t) _ refl (type_fits p t)
  type_fits p (error_result t) = before (marks.type_marks p t) (tokens.type_tokens t) _ refl (type_fits p t)
  type_fits p (result t u) = both (marks.type_marks p t) (marks.type_marks p u) (tokens.type_tokens t) (tokens.mark operator.Comma ++ (tokens.type_tokens u ++ tokens.mark operator.GreaterThan)) (type_fits p t) (before (marks.type_marks p u) (tokens.type_tokens u) _ refl (type_fits p u))

  types_fits : (p : Place) (ts : Tys) → Fits (marks.types_marks p ts) (tokens.types_tokens ts)
  types_fits p no_types = λ n. tt
  types_fits p (types t ts) = both (marks.type_marks p t) (marks.types_marks p ts) (tokens.type_tokens t) (tokens.further_types_tokens ts) (type_fits p t) (further_fits p ts)

  further_fits : (p : Place) (ts : Tys) → Fits (marks.types_marks p ts) (tokens.further_types_tokens ts)
  further_fits p no_types = λ n. tt
  further_fits p (types t ts) = both (marks.type_marks p t) (marks.types_marks p ts) (tokens.type_tokens t) (tokens.further_types_tokens ts) (type_fits p t) (further_fits p ts)

-- ---- functions and paths

typed_part : (after_self : Bool) (p : Place) (k : ℕ) (x : Typed) → Fits (one (marks.label after_self k x.0) then marks.type_marks p x.1) (tokens.typed_tokens x)
typed_part after_self p k x n = ((refl, tt), type_fits p x.1 _)

typed_fits : (after_self : Bool) (p : Place) (xs : List Typed) → Fits (marks.typed_marks after_self p xs) (tokens.with_commas tokens.typed_tokens xs)
typed_fits after_self p xs n = commas (λ x. one (marks.label after_self (list_of n) x.0) then marks.type_marks p x.1) tokens.typed_tokens (typed_part after_self p (list_of n)) xs n

params_fits : (after_self : Bool) (p : Place) (xs : List Typed) → Fits (marks.typed_marks after_self p xs) (tokens.params_tokens xs)
params_fits after_self p xs = before (marks.typed_marks after_self p xs) (tokens.with_commas tokens.typed_tokens xs) (tokens.mark operator.RightParenthesis) refl (typed_fits after_self p xs)

result_fits : (p : Place) (o : Option Ty) → Fits (optional (marks.type_marks p) o) (tokens.result_tokens o)
result_fits p None n = tt
result_fits p (Some t) n = type_fits p t n

func_fits : (after_self : Bool) (i : ℕ) (f : Func) → Fits (marks.func_marks after_self i f) (tokens.func_tokens f)
func_fits after_self i f = both (marks.typed_marks after_self (marks.as_param i) f.params) (optional (marks.type_marks (marks.as_result i)) f.result) (tokens.params_tokens f.params) (tokens.result_tokens f.result) (params_fits after_self (marks.as_param i) f.params) (result_fits (marks.as_result i) f.result)

func_line : (after_self : Bool) (i : ℕ) (f : Func) → Fits (marks.func_marks after_self i f) (tokens.func_tokens f ++ tokens.mark operator.Semicolon)
func_line after_self i f = before (marks.func_marks after_self i f) (tokens.func_tokens f) (tokens.mark operator.Semicolon) refl (func_fits after_self i f)

-- ---- types of interfaces

case_type_fits : (p : Place) (o : Option Ty) → Fits (optional (marks.type_marks p) o) (tokens.case_type_tokens o)
case_type_fits p None n = tt
case_type_fits p (Some t) n = before (marks.type_marks p t) (tokens.type_tokens t) (tokens.mark operator.RightParenthesis) refl (type_fits p t) n

case_part : (p : Place) (k : ℕ) (c : Case) → Fits (one (marks.label false k c.name) then optional (marks.type_marks p) c.ty) (tokens.case_tokens c)
case_part p k c n = ((refl, tt), case_type_fits p c.ty _)

case_fits : (p : Place) (cs : List Case) → Fits (marks.case_marks p cs) (tokens.with_commas tokens.case_tokens cs)
case_fits p cs n = commas (λ c. one (marks.label false (list_of n) c.name) then optional (marks.type_marks p) c.ty) tokens.case_tokens (case_part p (list_of n)) cs n

label_part : (k : ℕ) (text : List ℕ) → Fits (one (marks.label false k text)) (tokens.name_tokens text)
label_part k text n = ((refl, tt), tt)

label_fits : (labels : List (List ℕ)) → Fits (marks.label_marks labels) (tokens.with_commas tokens.name_tokens labels)
label_fits labels n = commas (λ text. one (marks.label false (list_of n) text)) tokens.name_tokens (label_part (list_of n)) labels n

resource_func_fits : (i : ℕ) (r : ℕ) (f : ResourceFunc) → Fits (marks.resource_func_marks i r f) (tokens.resource_func_tokens f)
resource_func_fits i r (method m f) n = ((refl, tt), func_line true i f _)
resource_func_fits i r (static m f) n = ((refl, tt), func_line false i f _)
resource_func_fits i r (constructor ps) n = ((refl, tt), before (marks.typed_marks false (marks.as_param i) ps) (tokens.params_tokens ps) (tokens.mark operator.Semicolon) refl (params_fits false (marks.as_param i) ps) _)

resource_fits : (i : ℕ) (r : ℕ) (fs : List ResourceFunc) → Fits (each (marks.resource_func_marks i r) fs) (tokens.resource_rest fs)
resource_fits i r [] n = tt
resource_fits i r (f ∷ fs) n = before (each (marks.resource_func_marks i r) (f ∷ fs)) (flat_map tokens.resource_func_tokens (f ∷ fs)) (tokens.mark operator.RightBrace) refl (repeated (marks.resource_func_marks i r) tokens.resource_func_tokens (resource_func_fits i r) (f ∷ fs)) n

def_fits : (i k : ℕ) (t : TypeDef) → Fits (marks.def_marks i k t) (tokens.def_tokens t)
def_fits i k (alias t) n = before (marks.type_marks (marks.in_text_of i k) t) (tokens.type_tokens t) (tokens.mark operator.Semicolon) refl (type_fits (marks.in_text_of i k) t) n
def_fits i k (record_of fs) n = before (marks.typed_marks false (marks.in_text_of i k) fs) (tokens.with_commas tokens.typed_tokens fs) (tokens.mark operator.RightBrace) refl (typed_fits false (marks.in_text_of i k) fs) n
def_fits i k (variant cs) n = before (marks.case_marks (marks.in_text_of i k) cs) (tokens.with_commas tokens.case_tokens cs) (tokens.mark operator.RightBrace) refl (case_fits (marks.in_text_of i k) cs) n
def_fits i k (enum labels) n = before (marks.label_marks labels) (tokens.with_commas tokens.name_tokens labels) (tokens.mark operator.RightBrace) refl (label_fits labels) n
def_fits i k (flags labels) n = before (marks.label_marks labels) (tokens.with_commas tokens.name_tokens labels) (tokens.mark operator.RightBrace) refl (label_fits labels) n
def_fits i k (resource fs) n = resource_fits i k fs n

-- ---- items of interfaces

path_fits : (i : ℕ) (p : Path) → Fits (marks.path_marks i p) (tokens.path_tokens p)
path_fits i (local text) n = ((tt, refl), tt)
path_fits i (foreign ns pkg text None) n = ((tt, tt), ((tt, tt), ((tt, tt), tt)))
path_fits i (foreign ns pkg text (Some v)) n = ((tt, tt), ((tt, tt), ((tt, tt), tt)))

used_refers : (p : Path) (old : List ℕ) → IsReferredAt old (marks.used_from p old)
used_refers (local text) old = refl
used_refers (foreign ns pkg text version) old = tt

used_by : (i : ℕ) (p : Path) (old : List ℕ) (new : Option (List ℕ)) → Fits (marks.used_marks i p old new) (tokens.name_tokens old ++ tokens.new_name_tokens new)
used_by i p old None n = ((refl, used_refers p old), tt)
used_by i p old (Some new) n = ((tt, used_refers p old), ((refl, tt), tt))

uses_fits : (i : ℕ) (u : Use) → Fits (each (λ (x : UsedName). marks.used_marks i u.path x.name x.new_name) u.names) (tokens.with_commas tokens.used_tokens u.names)
uses_fits i u = commas (λ (x : UsedName). marks.used_marks i u.path x.name x.new_name) tokens.used_tokens (λ x. used_by i u.path x.name x.new_name) u.names

type_keyword_names : (t : TypeDef) (fs : List Form) → names (tokens.keyword (tokens.type_keyword t) ++ fs) ≡ names fs
type_keyword_names (alias t) fs = refl
type_keyword_names (record_of parts) fs = refl
type_keyword_names (variant cs) fs = refl
type_keyword_names (enum labels) fs = refl
type_keyword_names (flags labels) fs = refl
type_keyword_names (resource parts) fs = refl

item_fits : (i : ℕ) (x : InterfaceItem) → Fits (marks.interface_item_marks i x) (tokens.interface_item_tokens x)
item_fits i (uses u) n = both (marks.path_marks i u.path) (each (λ (x : UsedName). marks.used_marks i u.path x.name x.new_name) u.names) (tokens.path_tokens u.path) (tokens.mark operator.Period ++ (tokens.mark operator.LeftBrace ++ (tokens.with_commas tokens.used_tokens u.names ++ (tokens.mark operator.RightBrace ++ tokens.mark operator.Semicolon)))) (path_fits i u.path) (before (each (λ (x : UsedName). marks.used_marks i u.path x.name x.new_name) u.names) (tokens.with_commas tokens.used_tokens u.names) (tokens.mark operator.RightBrace ++ tokens.mark operator.Semicolon) refl (uses_fits i u)) n
item_fits i (defines text t) n = subst (λ (ws : List (List ℕ)). AreOf (marks.interface_item_marks i (defines text t) n) ws) (sym (type_keyword_names t (tokens.name_tokens text ++ tokens.def_tokens t))) ((refl, tt), def_fits i n t _)
item_fits i (has_func text f) n = ((refl, tt), func_line false i f _)

interface_fits : (x : Interface) → Fits (marks.interface_marks x) (tokens.interface_tokens x)
interface_fits x n = ((refl, tt), before (each (marks.interface_item_marks n) x.items) (flat_map tokens.interface_item_tokens x.items) (tokens.mark operator.RightBrace) refl (repeated (marks.interface_item_marks n) tokens.interface_item_tokens (item_fits n) x.items) _)

-- ---- worlds and files

extern_fits : (f : File) (k w : ℕ) (e : WorldExtern) → Fits (marks.extern_marks f k w e) (tokens.extern_tokens e)
extern_fits f k w (interface_at (local text)) n = ((inr refl, refl), tt)
extern_fits f k w (interface_at (foreign ns pkg text None)) n = ((inl refl, tt), ((tt, tt), ((tt, tt), tt)))
extern_fits f k w (interface_at (foreign ns pkg text (Some v))) n = ((inl refl, tt), ((tt, tt), ((tt, tt), tt)))
extern_fits f k w (named_func text g) n = ((refl, tt), func_fits false w g _)

world_item_fits : (f : File) (w : ℕ) (x : WorldItem) → Fits (marks.world_item_marks f w x) (tokens.world_item_tokens x)
world_item_fits f w (imports e) n = before (marks.extern_marks f (list_of w) w e) (tokens.extern_tokens e) (tokens.mark operator.Semicolon) refl (extern_fits f (list_of w) w e) n
world_item_fits f w (exports e) n = before (marks.extern_marks f (exports_of w) w e) (tokens.extern_tokens e) (tokens.mark operator.Semicolon) refl (extern_fits f (exports_of w) w e) n

world_fits : (f : File) (x : World) → Fits (marks.world_marks f x) (tokens.world_tokens x)
world_fits f x n = ((refl, tt), before (each (marks.world_item_marks f n) x.items) (flat_map tokens.world_item_tokens x.items) (tokens.mark operator.RightBrace) refl (repeated (marks.world_item_marks f n) tokens.world_item_tokens (world_item_fits f n) x.items) _)

file_item_fits : (f : File) (x : FileItem) → Fits (marks.file_item_marks f x) (tokens.file_item_tokens x)
file_item_fits f (interface x) n = interface_fits x n
file_item_fits f (world x) n = world_fits f x n

version_names : (v : Option (List ℕ)) (fs : List Form) → names (tokens.version_tokens v ++ fs) ≡ names fs
version_names None fs = refl
version_names (Some v) fs = refl

items_fit : (f : File) → Fits (each (marks.file_item_marks f) f.items) (tokens.version_tokens f.version ++ (tokens.mark operator.Semicolon ++ flat_map tokens.file_item_tokens f.items))
items_fit f n = subst (λ (ws : List (List ℕ)). AreOf (each (marks.file_item_marks f) f.items n) ws) (sym (version_names f.version (tokens.mark operator.Semicolon ++ flat_map tokens.file_item_tokens f.items))) (repeated (marks.file_item_marks f) tokens.file_item_tokens (file_item_fits f) f.items n)

file_fits : (f : File) → Fits (marks.file_marks f) (tokens.file_tokens f)
file_fits f n = ((tt, tt), ((tt, tt), items_fit f _))

pub mentions_fit : (f : File) (text : List ℕ) → words (map (λ t. t.form) (lexed text).tokens) ≡ words (tokens.file_tokens f) → AreOf (marks.mentions f) (name_texts text)
mentions_fit f text e = subst (λ (ws : List (List ℕ)). AreOf (marks.mentions f) ws) (sym (texts_are (lexed text).tokens ∙ (sym (names_words (map (λ t. t.form) (lexed text).tokens)) ∙ (ap names e ∙ names_words (tokens.file_tokens f))))) (file_fits f 0)
