-- The tokens of printed trees, a line a production.
use Rattle.std.proofs.Common.{◌≡◌, ℕ, suc, true, false, ◌==◌, List, [], ◌∷◌, ◌++◌, length, Option, Some, None, refl, subst, append-nil, arith}
use Rattle.std.specs.Option.{option_map_or}
use Rattle.std.proofs.lemmas.Bool.Decides.{nat_tests}
use Rattle.cm_types.specs.Names.{is_label}
use Rattle.std.specs.List.{flat_map}
use Rattle.std.specs.Prelude.{codes}
use Rattle.cm_wit_tokens.specs.declared.keyword.Keyword.TheVariants as word
use Rattle.cm_wit_tokens.specs.declared.operator.Operator.TheVariants as operator
use Rattle.cm_wit_tokens.specs.declared.token.Form.{Form}
use Rattle.cm_wit_tokens.specs.declared.token.Form.TheVariants as form
use Rattle.cm_wit_tokens.specs.Tokens.{front, lexed}
use Rattle.cm_wit_tokens.specs.Keywords.{keyword_of}
use Rattle.cm_wit_tokens.specs.declared.keyword.Keyword.{Keyword}
use Rattle.cm_wit_tokens.specs.declared.front.Front.TheVariants as front_is
use Rattle.cm_wit_reading.specs.declared.types.Primitive.{Primitive}
use Rattle.cm_wit_reading.specs.declared.types.Primitive.TheVariants as primitive_is
use Rattle.cm_wit_reading.specs.Types.{Ty, Tys, primitive, named, borrow, list, fixed_list, option, tuple, plain_result, ok_result, error_result, result, no_types, types}
use Rattle.cm_wit_reading.specs.Signatures.{Typed, Func, Path, local, foreign}
use Rattle.cm_wit_reading.specs.Trees.{UsedName, Case, ResourceFunc, method, static, constructor, TypeDef, alias, record_of, variant, enum, flags, resource, InterfaceItem, uses, defines, has_func, Interface, WorldExtern, interface_at, named_func, WorldItem, imports, exports, World, FileItem, interface, world, File}
use Rattle.cm_wit_package.specs.Printed as text
use Rattle.cm_wit_package.specs.TreeTokens as tokens
use Rattle.cm_wit_package.proofs.Lexing.{IsLexed, shown, nothing, Lexes, Stops, token_first, join, after, no_text, bare}
use Rattle.cm_wit_package.proofs.Goods.{AreGood, good_front, good_behind}
use Rattle.cm_wit_package.proofs.WordLaws.{begins_letter, name_lexes, version_lexes, label_begins}
use Rattle.cm_wit_package.proofs.NumberLaws.{number_lexes}
use Rattle.cm_wit_package.proofs.Marks as marks

-- a name by itself, and as the one good token
name : (n : List ℕ) → AreGood (tokens.name_tokens n) → Lexes (text.name_text n) (tokens.name_tokens n) true
name n g = name_lexes n g.0

-- ---- lists

commas_follow : {A : Type 0} (t : A → List ℕ) (xs : List A) (rest : List ℕ) → Stops rest → Stops (text.behind_commas t xs ++ rest)
commas_follow t [] rest s = s
commas_follow t (x ∷ xs) rest s = (refl, refl, refl)

behind_commas : {A : Type 0} (t : A → List ℕ) (k : A → List Form) → ((x : A) → AreGood (k x) → Lexes (t x) (k x) true) → (xs : List A) → AreGood (tokens.behind_commas k xs) → Lexes (text.behind_commas t xs) (tokens.behind_commas k xs) true
behind_commas t k l [] g = no_text
behind_commas t k l (x ∷ xs) g =
    join (after marks.comma (l x (good_front (k x) _ g.1))) (commas_follow t xs) (behind_commas t k l xs (good_behind (k x) _ g.1))

with_commas : {A : Type 0} (t : A → List ℕ) (k : A → List Form) → ((x : A) → AreGood (k x) → Lexes (t x) (k x) true) → (xs : List A) → AreGood (tokens.with_commas k xs) → Lexes (text.with_commas t xs) (tokens.with_commas k xs) true
with_commas t k l [] g = no_text
with_commas t k l (x ∷ xs) g =
    join (l x (good_front (k x) _ g)) (commas_follow t xs) (behind_commas t k l xs (good_behind (k x) _ g))

lines : {A : Type 0} (t : A → List ℕ) (k : A → List Form) → ((x : A) → AreGood (k x) → Lexes (t x) (k x) false) → (xs : List A) → AreGood (flat_map k xs) → Lexes (flat_map t xs) (flat_map k xs) false
lines t k l [] g = record { at = λ rest gs f h. h }
lines t k l (x ∷ xs) g = after (l x (good_front (k x) _ g)) (lines t k l xs (good_behind (k x) _ g))

-- ---- types

primitive_lexes : (p : Primitive) → Lexes (text.primitive_text p) (tokens.keyword (tokens.primitive_keyword p)) true
primitive_lexes primitive_is.Bool = marks.bool_keyword
primitive_lexes primitive_is.S8 = marks.s8_keyword
primitive_lexes primitive_is.S16 = marks.s16_keyword
primitive_lexes primitive_is.S32 = marks.s32_keyword
primitive_lexes primitive_is.S64 = marks.s64_keyword
primitive_lexes primitive_is.U8 = marks.u8_keyword
primitive_lexes primitive_is.U16 = marks.u16_keyword
primitive_lexes primitive_is.U32 = marks.u32_keyword
primitive_lexes primitive_is.U64 = marks.u64_keyword
primitive_lexes primitive_is.Char = marks.char_keyword
primitive_lexes primitive_is.String = marks.string_keyword

further_follow : (ts : Tys) (rest : List ℕ) → Stops rest → Stops (text.further_types_text ts ++ rest)
further_follow no_types rest s = s
further_follow (types t ts) rest s = (refl, refl, refl)

mutual
  type_lexes : (t : Ty) → AreGood (tokens.type_tokens t) → Lexes (text.type_text t) (tokens.type_tokens t) true
  type_lexes (primitive p) g = primitive_lexes p
  type_lexes (named t) g = name t g
  type_lexes (borrow r) g = after marks.borrow_of (join (name r (g.1.1.0, tt)) (λ rest f. (refl, refl, refl)) (bare marks.angle))
  type_lexes (list t) g = after marks.list_of (join (type_lexes t (good_front (tokens.type_tokens t) _ g.1.1)) (λ rest f. (refl, refl, refl)) (bare marks.angle))
  type_lexes (fixed_list t n) g = after marks.list_of (join (type_lexes t (good_front (tokens.type_tokens t) _ g.1.1)) (λ rest f. (refl, refl, refl)) (after marks.comma (join (number_lexes n (good_behind (tokens.type_tokens t) _ g.1.1).1.0) (λ rest f. (refl, refl, refl)) (bare marks.angle))))
  type_lexes (option t) g = after marks.option_of (join (type_lexes t (good_front (tokens.type_tokens t) _ g.1.1)) (λ rest f. (refl, refl, refl)) (bare marks.angle))
  type_lexes (tuple ts) g = after marks.tuple_of (join (types_lexes ts (good_front (tokens.types_tokens ts) _ g.1.1)) (λ rest f. (refl, refl, refl)) (bare marks.angle))
  type_lexes plain_result g = marks.result_keyword
  type_lexes (ok_result t) g = after marks.result_of (join (type_lexes t (good_front (tokens.type_tokens t) _ g.1.1)) (λ rest f. (refl, refl, refl)) (bare marks.angle))
  type_lexes (error_result t) g = after marks.error_of (join (type_lexes t (good_front (tokens.type_tokens t) _ g.1.1.1.1)) (λ rest f. (refl, refl, refl)) (bare marks.angle))
  type_lexes (result t u) g = after marks.result_of (join (type_lexes t (good_front (tokens.type_tokens t) _ g.1.1)) (λ rest f. (refl, refl, refl)) (after marks.comma (join (type_lexes u (good_front (tokens.type_tokens u) _ (good_behind (tokens.type_tokens t) _ g.1.1).1)) (λ rest f. (refl, refl, refl)) (bare marks.angle))))

  types_lexes : (ts : Tys) → AreGood (tokens.types_tokens ts) → Lexes (text.types_text ts) (tokens.types_tokens ts) true
  types_lexes no_types g = no_text
  types_lexes (types t ts) g = join (type_lexes t (good_front (tokens.type_tokens t) _ g)) (further_follow ts) (further_lexes ts (good_behind (tokens.type_tokens t) _ g))

  further_lexes : (ts : Tys) → AreGood (tokens.further_types_tokens ts) → Lexes (text.further_types_text ts) (tokens.further_types_tokens ts) true
  further_lexes no_types g = no_text
  further_lexes (types t ts) g = after marks.comma (join (type_lexes t (good_front (tokens.type_tokens t) _ g.1)) (further_follow ts) (further_lexes ts (good_behind (tokens.type_tokens t) _ g.1)))

-- ---- functions and paths

typed_lexes : (x : Typed) → AreGood (tokens.typed_tokens x) → Lexes (text.typed_text x) (tokens.typed_tokens x) true
typed_lexes x g = join (name x.0 (g.0, tt)) (λ rest f. (refl, refl, refl)) (after marks.colon (type_lexes x.1 g.1.1))

params_lexes : (xs : List Typed) → AreGood (tokens.params_tokens xs) → Lexes (text.params_text xs) (tokens.params_tokens xs) false
params_lexes xs g = after marks.opening (join (with_commas text.typed_text tokens.typed_tokens typed_lexes xs (good_front (tokens.with_commas tokens.typed_tokens xs) _ g.1)) (λ rest f. (refl, refl, refl)) marks.closing)

result_lexes : (o : Option Ty) → AreGood (tokens.result_tokens o) → Lexes (text.result_text o) (tokens.result_tokens o) true
result_lexes None g = no_text
result_lexes (Some t) g = after marks.arrow (type_lexes t g.1)

func_lexes : (f : Func) → AreGood (tokens.func_tokens f) → Lexes (text.func_text f) (tokens.func_tokens f) true
func_lexes f g = join marks.func_keyword (λ rest s. (refl, refl, refl)) (after (params_lexes f.params (good_front (tokens.params_tokens f.params) _ g.1)) (result_lexes f.result (good_behind (tokens.params_tokens f.params) _ g.1)))

version_lexed : (o : Option (List ℕ)) → AreGood (tokens.version_tokens o) → Lexes (text.version_text o) (tokens.version_tokens o) true
version_lexed None g = no_text
version_lexed (Some v) g = version_lexes v g.1.0

version_follows : (o : Option (List ℕ)) (rest : List ℕ) → Stops rest → Stops (text.version_text o ++ rest)
version_follows None rest s = s
version_follows (Some v) rest s = (refl, refl, refl)

-- no comment begins between a `/` and what stands behind it
abbrev NotSlashed : List ℕ → Type 0
NotSlashed [] = ⊥
NotSlashed (b ∷ rest) = ((b == 0x2F) ≡ false) × ((b == 0x2A) ≡ false)

letter_starts : (n : List ℕ) → begins_letter n ≡ true → NotSlashed n
letter_starts [] h = absurd cc
letter_starts (b ∷ rest) h = (grind (arith, nat_tests), grind (arith, nat_tests))

name_by : (n : List ℕ) (o : Option Keyword) → is_label n ≡ true → NotSlashed (option_map_or (λ k. codes "%" ++ n) o n)
name_by n (Some k) h = (refl, refl)
name_by n None h = letter_starts n (label_begins n h)

starts_more : (a b : List ℕ) → NotSlashed a → NotSlashed (a ++ b)
starts_more [] b h = absurd h
starts_more (c ∷ a) b h = h

slash_front_is : (a rest : List ℕ) → NotSlashed a → front (0x2F ∷ (a ++ rest)) ≡ front_is.Token (form.Operator operator.Slash) 1
slash_front_is [] rest h = absurd h
slash_front_is (b ∷ a) rest h = rw (h.0, h.1) refl

slash : (a : List ℕ) (fs : List Form) → NotSlashed a → Lexes a fs true → Lexes (codes "/" ++ a) (form.Operator operator.Slash ∷ fs) true
slash a fs h x = record {
  at = λ rest gs f l. token_first false (0x2F ∷ (a ++ rest)) (a ++ rest) (form.Operator operator.Slash) 1 (fs ++ gs) (slash_front_is a rest h) refl (omega arith) (x.at rest gs f l);
}

path_lexes : (p : Path) → AreGood (tokens.path_tokens p) → Lexes (text.path_text p) (tokens.path_tokens p) true
path_lexes (local n) g = name n g
path_lexes (foreign ns pkg n v) g =
    join (name ns (g.0, tt)) (λ rest f. (refl, refl, refl)) (after marks.tight_colon
    (join (name pkg (g.1.1.0, tt)) (λ rest f. (refl, refl, refl))
    (slash (text.name_text n ++ text.version_text v) (tokens.name_tokens n ++ tokens.version_tokens v) (starts_more (text.name_text n) _ (name_by n (keyword_of n) g.1.1.1.1.0.0))
    (join (name n (g.1.1.1.1.0, tt)) (version_follows v) (version_lexed v g.1.1.1.1.1)))))

-- ---- interfaces

new_name_follows : (o : Option (List ℕ)) (rest : List ℕ) → Stops rest → Stops (option_map_or (λ new. codes " as " ++ text.name_text new) o [] ++ rest)
new_name_follows None rest s = s
new_name_follows (Some n) rest s = (refl, refl, refl)

new_name : (o : Option (List ℕ)) → AreGood (tokens.new_name_tokens o) → Lexes (option_map_or (λ new. codes " as " ++ text.name_text new) o []) (tokens.new_name_tokens o) true
new_name None g = no_text
new_name (Some n) g = after marks.as_word (name n (g.1.0, tt))

used_lexes : (u : UsedName) → AreGood (tokens.used_tokens u) → Lexes (text.used_text u) (tokens.used_tokens u) true
used_lexes u g = join (name u.name (g.0, tt)) (new_name_follows u.new_name) (new_name u.new_name g.1)

case_follows : (o : Option Ty) (rest : List ℕ) → Stops rest → Stops (option_map_or (λ t. codes "(" ++ (text.type_text t ++ codes ")")) o [] ++ rest)
case_follows None rest s = s
case_follows (Some t) rest s = (refl, refl, refl)

case_type : (o : Option Ty) → AreGood (tokens.case_type_tokens o) → Lexes (option_map_or (λ t. codes "(" ++ (text.type_text t ++ codes ")")) o []) (tokens.case_type_tokens o) true
case_type None g = no_text
case_type (Some t) g = after marks.opening (join (type_lexes t (good_front (tokens.type_tokens t) _ g.1)) (λ rest f. (refl, refl, refl)) (bare marks.closing))

case_lexes : (c : Case) → AreGood (tokens.case_tokens c) → Lexes (text.case_text c) (tokens.case_tokens c) true
case_lexes c g = join (name c.name (g.0, tt)) (case_follows c.ty) (case_type c.ty g.1)

func_line : (f : Func) → AreGood (tokens.func_tokens f ++ tokens.mark operator.Semicolon) → Lexes (text.func_text f ++ codes ";\n") (tokens.func_tokens f ++ tokens.mark operator.Semicolon) false
func_line f g = join (func_lexes f (good_front (tokens.func_tokens f) _ g)) (λ rest s. (refl, refl, refl)) marks.line

resource_func_lexes : (f : ResourceFunc) → AreGood (tokens.resource_func_tokens f) → Lexes (text.resource_func_line f) (tokens.resource_func_tokens f) false
resource_func_lexes (method n f) g = after marks.wide_indent (join (name n (g.0, tt)) (λ rest s. (refl, refl, refl)) (after marks.colon (func_line f g.1.1)))
resource_func_lexes (static n f) g = after marks.wide_indent (join (name n (g.0, tt)) (λ rest s. (refl, refl, refl)) (after marks.static_word (func_line f g.1.1.1)))
resource_func_lexes (constructor ps) g = join marks.constructor_word (λ rest s. (refl, refl, refl)) (after (params_lexes ps (good_front (tokens.params_tokens ps) _ g.1)) marks.line)

-- names and parts between braces, behind a keyword
braced : {A : Type 0} (head : List ℕ) (k : List Form) (n : List ℕ) (t : A → List ℕ) (ks : A → List Form) (xs : List A) → Lexes head k false → ((x : A) → AreGood (ks x) → Lexes (t x) (ks x) true) → AreGood (tokens.name_tokens n ++ tokens.braced (tokens.with_commas ks xs)) → Lexes (text.braced head n t xs) (k ++ (tokens.name_tokens n ++ tokens.braced (tokens.with_commas ks xs))) false
braced head k n t ks xs h l g =
    after h (join (name n (g.0, tt)) (λ rest s. (refl, refl, refl)) (after marks.brace
    (join (with_commas t ks l xs (good_front (tokens.with_commas ks xs) _ g.1.1)) (λ rest s. (refl, refl, refl)) marks.brace_end)))

resource_rest : (fs : List ResourceFunc) → AreGood (tokens.resource_rest fs) → Lexes (text.resource_rest fs) (tokens.resource_rest fs) false
resource_rest [] g = marks.line
resource_rest (f ∷ fs) g = after marks.brace_line (after (lines text.resource_func_line tokens.resource_func_tokens resource_func_lexes (f ∷ fs) (good_front (flat_map tokens.resource_func_tokens (f ∷ fs)) _ g.1)) marks.inner_end)

rest_follows : (fs : List ResourceFunc) (rest : List ℕ) → Stops (text.resource_rest fs ++ rest)
rest_follows [] rest = (refl, refl, refl)
rest_follows (f ∷ fs) rest = (refl, refl, refl)

def_lexes : (n : List ℕ) (t : TypeDef) → AreGood (tokens.name_tokens n ++ tokens.def_tokens t) → Lexes (text.type_def_lines n t) (tokens.keyword (tokens.type_keyword t) ++ (tokens.name_tokens n ++ tokens.def_tokens t)) false
def_lexes n (alias t) g = after marks.type_word (join (name n (g.0, tt)) (λ rest s. (refl, refl, refl)) (after marks.equals (join (type_lexes t (good_front (tokens.type_tokens t) _ g.1.1)) (λ rest s. (refl, refl, refl)) marks.line)))
def_lexes n (record_of fs) g = braced _ _ n text.typed_text tokens.typed_tokens fs marks.record_word typed_lexes g
def_lexes n (variant cs) g = braced _ _ n text.case_text tokens.case_tokens cs marks.variant_word case_lexes g
def_lexes n (enum names) g = braced _ _ n text.name_text tokens.name_tokens names marks.enum_word name g
def_lexes n (flags names) g = braced _ _ n text.name_text tokens.name_tokens names marks.flags_word name g
def_lexes n (resource fs) g = after marks.resource_word (join (name n (g.0, tt)) (λ rest s. rest_follows fs rest) (resource_rest fs g.1))

interface_item_lexes : (x : InterfaceItem) → AreGood (tokens.interface_item_tokens x) → Lexes (text.interface_item_lines x) (tokens.interface_item_tokens x) false
interface_item_lexes (uses u) g =
    after marks.use_word (join (path_lexes u.path (good_front (tokens.path_tokens u.path) _ g.1)) (λ rest s. (refl, refl, refl)) (after marks.dot_brace
    (join (with_commas text.used_text tokens.used_tokens used_lexes u.names (good_front (tokens.with_commas tokens.used_tokens u.names) _ (good_behind (tokens.path_tokens u.path) _ g.1).1.1)) (λ rest s. (refl, refl, refl)) marks.use_end)))
interface_item_lexes (defines n t) g = def_lexes n t g.1
interface_item_lexes (has_func n f) g = after marks.indent (join (name n (g.0, tt)) (λ rest s. (refl, refl, refl)) (after marks.colon (func_line f g.1.1)))

interface_lexes : (x : Interface) → AreGood (tokens.interface_tokens x) → Lexes (text.interface_lines x) (tokens.keyword word.Interface ++ tokens.interface_tokens x) false
interface_lexes x g = after marks.interface_word (join (name x.name (g.0, tt)) (λ rest s. (refl, refl, refl)) (after marks.brace_line (after (lines text.interface_item_lines tokens.interface_item_tokens interface_item_lexes x.items (good_front (flat_map tokens.interface_item_tokens x.items) _ g.1.1)) marks.outer_end)))

-- ---- worlds and files

extern_lexes : (e : WorldExtern) → AreGood (tokens.extern_tokens e) → Lexes (text.extern_text e) (tokens.extern_tokens e) true
extern_lexes (interface_at p) g = path_lexes p g
extern_lexes (named_func n f) g = join (name n (g.0, tt)) (λ rest s. (refl, refl, refl)) (after marks.colon (func_lexes f g.1.1))

world_item_lexes : (x : WorldItem) → AreGood (tokens.world_item_tokens x) → Lexes (text.world_item_line x) (tokens.world_item_tokens x) false
world_item_lexes (imports e) g = after marks.import_word (join (extern_lexes e (good_front (tokens.extern_tokens e) _ g.1)) (λ rest s. (refl, refl, refl)) marks.line)
world_item_lexes (exports e) g = after marks.export_word (join (extern_lexes e (good_front (tokens.extern_tokens e) _ g.1)) (λ rest s. (refl, refl, refl)) marks.line)

world_lexes : (x : World) → AreGood (tokens.world_tokens x) → Lexes (text.world_lines x) (tokens.keyword word.World ++ tokens.world_tokens x) false
world_lexes x g = after marks.world_word (join (name x.name (g.0, tt)) (λ rest s. (refl, refl, refl)) (after marks.brace_line (after (lines text.world_item_line tokens.world_item_tokens world_item_lexes x.items (good_front (flat_map tokens.world_item_tokens x.items) _ g.1.1)) marks.outer_end)))

file_item_lexes : (x : FileItem) → AreGood (tokens.file_item_tokens x) → Lexes (text.file_item_lines x) (tokens.file_item_tokens x) false
file_item_lexes (interface x) g = interface_lexes x g.1
file_item_lexes (world x) g = world_lexes x g.1

version_then : (o : Option (List ℕ)) (b rest : List ℕ) → Stops (b ++ rest) → Stops ((text.version_text o ++ b) ++ rest)
version_then None b rest s = s
version_then (Some v) b rest s = (refl, refl, refl)

pub file_lexes : (f : File) → AreGood (tokens.file_tokens f) → Lexes (text.file_text f) (tokens.file_tokens f) false
file_lexes f g =
    let behind = good_behind (tokens.version_tokens f.version) _ g.1.1.1.1 in
    after marks.package_word (join (name f.namespace (g.1.0, tt)) (λ rest s. (refl, refl, refl)) (after marks.tight_colon
    (join (name f.pkg (g.1.1.1.0, tt)) (λ rest s. version_then f.version _ rest (refl, refl, refl))
    (join (version_lexed f.version (good_front (tokens.version_tokens f.version) _ g.1.1.1.1)) (λ rest s. (refl, refl, refl))
    (after marks.line (lines text.file_item_lines tokens.file_item_tokens file_item_lexes f.items behind.1))))))

-- the tokens of a file's text, to its end
pub file_text_tokens : (f : File) → AreGood (tokens.file_tokens f) → shown (lexed (text.file_text f)) ≡ (tokens.file_tokens f, None)
file_text_tokens f g =
    let l = (file_lexes f g).at [] [] tt nothing in
    let whole : IsLexed false (text.file_text f) (tokens.file_tokens f) = subst (λ (fs : List Form). IsLexed false (text.file_text f) fs) (append-nil (tokens.file_tokens f)) (subst (λ (t : List ℕ). IsLexed false t (tokens.file_tokens f ++ [])) (append-nil (text.file_text f)) l) in
    whole.at (suc (length (text.file_text f))) (omega arith)
