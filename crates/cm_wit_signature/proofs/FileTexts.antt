-- Each file that a text writes holds something wherever a file has to.
use Rattle.std.proofs.Common.{◌≡◌, ℕ, ◌<◌, Bool, true, false, if◌then◌else◌, List, [], ◌∷◌, length, Option, Some, None, Result, Ok, Err, refl, subst}
use Rattle.std.specs.List.{AllByRecursion}
use Rattle.std.specs.Option.{IfSome}
use Rattle.cm_types.specs.declared.spellable.TheConstants.{MAX_FLAGS}
use Rattle.cm_wit_tokens.specs.declared.operator.Operator.TheVariants as operator
use Rattle.cm_wit_tokens.specs.declared.keyword.Keyword.TheVariants as word
use Rattle.cm_wit_tokens.specs.declared.token.Token.{Token}
use Rattle.cm_wit_tokens.specs.Tokens.{lexed}
use Rattle.cm_wit_tokens.specs.Faults.{Fault, and_then}
use Rattle.cm_wit_tokens.specs.Grammar.{Grammar, token}
use Rattle.cm_wit_tokens.specs.Lists.{items, items_and, members}
use Rattle.cm_wit_tokens.specs.Parts.{expect, expect_word, identifier}
use Rattle.cm_wit_tokens.specs.Whole.{text_reads, whole, to_end}
use Rattle.cm_wit_reading.specs.Types.{Ty, most_depth}
use Rattle.cm_wit_reading.specs.Signatures.{Func, any_type, typed, params, func, local, foreign_rest, optional_version}
use Rattle.cm_wit_reading.specs.declared.heads.TypeHead.{TypeHead}
use Rattle.cm_wit_reading.specs.declared.heads.TypeHead.TheVariants as type_is
use Rattle.cm_wit_reading.specs.declared.heads.ItemHead.{ItemHead}
use Rattle.cm_wit_reading.specs.declared.heads.ItemHead.TheVariants as item_is
use Rattle.cm_wit_reading.specs.declared.heads.MethodHead.{MethodHead}
use Rattle.cm_wit_reading.specs.declared.heads.MethodHead.TheVariants as method_is
use Rattle.cm_wit_reading.specs.declared.heads.WorldHead.{WorldHead}
use Rattle.cm_wit_reading.specs.declared.heads.WorldHead.TheVariants as world_is
use Rattle.cm_wit_reading.specs.declared.heads.FileHead.{FileHead}
use Rattle.cm_wit_reading.specs.declared.heads.FileHead.TheVariants as file_is
use Rattle.cm_wit_reading.specs.Heads.{item_head, method_head, world_head, file_head, package_head}
use Rattle.cm_wit_reading.specs.Interfaces.{braced, ended, use_rest, case_type, case, is_static, func_rest, method_rest, resource_func, resource_rest, more_flags, def_rest, item_rest, interface_item, interface_rest}
use Rattle.cm_wit_reading.specs.Worlds.{behind_colon, extern, with_direction, world_item, world_rest}
use Rattle.cm_wit_reading.specs.Files.{file_item_rest, file_item, file}
use Rattle.cm_wit_reading.specs.Trees.{Case, ResourceFunc, method, static, constructor, TypeDef, alias, record_of, variant, enum, flags, resource, InterfaceItem, uses, defines, has_func, Interface, WorldExtern, interface_at, named_func, WorldItem, World, FileItem, interface, world, File}
use Rattle.cm_wit_signature.specs.Written.{IsWritten, IsWrittenDef}
use Rattle.cm_wit_signature.specs.Files.{AreWrittenParams, IsWrittenFunc, IsWrittenResourceFunc, AreWrittenFuncsOf, IsWrittenItem, IsWrittenExtern, IsWrittenWorldItem, IsWrittenFileItem, IsWrittenFile}
use Rattle.cm_wit_signature.proofs.ReadLaws.{Only, anything, done_only, bind_only, next_only, chosen_only, SomeAll, items_only, SomeFew, few_only, members_only}
use Rattle.cm_wit_signature.proofs.TypeTexts.{ty_only, IsWrittenTyped, typed_only, params_only, func_only}
use Rattle.cm_wit_reading.proofs.TreesLaws.{placed_ok}

braced_only : {A : Type 0} (P : A → Type 0) (g : Grammar A) → Only P g → Only P (braced g)
braced_only {A} P g l = next_only P (expect operator.LeftBrace) _ (λ _. bind_only P P g _ l (λ x p. next_only P (expect operator.RightBrace) _ (λ _. done_only P x p)))

ended_only : {A : Type 0} (P : A → Type 0) (g : Grammar A) → Only P g → Only P (ended g)
ended_only {A} P g l = bind_only P P g _ l (λ x p. next_only P (expect operator.Semicolon) _ (λ _. done_only P x p))

-- ---- definitions

abbrev IsWrittenPayload : Option Ty → Type 0
IsWrittenPayload t = IfSome t IsWritten

case_type_only : Only IsWrittenPayload case_type
case_type_only = chosen_only IsWrittenPayload _ _ _
    (next_only IsWrittenPayload (expect operator.LeftParenthesis) _ (λ _. bind_only IsWritten IsWrittenPayload any_type _ (ty_only true most_depth) (λ t w. next_only IsWrittenPayload (expect operator.RightParenthesis) _ (λ _. done_only IsWrittenPayload (Some t) w))))
    (done_only IsWrittenPayload None (tt {0}))

abbrev IsWrittenCase : Case → Type 0
IsWrittenCase c = IfSome c.ty IsWritten

case_only : Only IsWrittenCase case
case_only = next_only IsWrittenCase identifier _ (λ name. bind_only IsWrittenPayload IsWrittenCase case_type _ case_type_only (λ t w. done_only IsWrittenCase (record { name = name; ty = t }) w))

func_rest_only : Only IsWrittenFunc func_rest
func_rest_only = next_only IsWrittenFunc (expect_word word.Func) _ (λ _. ended_only IsWrittenFunc func func_only)

method_written : (s : Bool) (name : List ℕ) (f : Func) → IsWrittenFunc f → IsWrittenResourceFunc (if s then static name f else method name f)
method_written true name f w = w
method_written false name f w = w

method_only : (h : MethodHead) → Only IsWrittenResourceFunc (method_rest h)
method_only method_is.Constructor = bind_only AreWrittenParams IsWrittenResourceFunc (ended params) _ (ended_only AreWrittenParams params params_only) (λ ps w. done_only IsWrittenResourceFunc (constructor ps) w)
method_only (method_is.Named name) = next_only IsWrittenResourceFunc (expect operator.Colon) _ (λ _. next_only IsWrittenResourceFunc is_static _ (λ s. bind_only IsWrittenFunc IsWrittenResourceFunc func_rest _ func_rest_only (λ f w. done_only IsWrittenResourceFunc _ (method_written s name f w))))

resource_func_only : Only IsWrittenResourceFunc resource_func
resource_func_only = next_only IsWrittenResourceFunc (token method_head) _ (λ h. method_only h)

abbrev AreFuncs : List ResourceFunc → Type 0
AreFuncs fs = AllByRecursion IsWrittenResourceFunc fs

resource_only : Only AreFuncs resource_rest
resource_only = chosen_only AreFuncs _ _ _
    (next_only AreFuncs (expect operator.Semicolon) _ (λ _. done_only AreFuncs [] (tt {0})))
    (braced_only AreFuncs (members resource_func) (members_only IsWrittenResourceFunc resource_func resource_func_only))

abbrev IsWhole : TypeDef → Type 0
IsWhole t = IsWrittenDef t × AreWrittenFuncsOf t

abbrev HasLabels : List (List ℕ) → Type 0
HasLabels ls = 0 < length ls

labels_only : (g : Grammar (List (List ℕ))) → Only (SomeAll (λ (l : List ℕ). Unit {0})) g → Only HasLabels g
labels_only g l = record { read = λ ts x rest e. (l.read ts x rest e).0 }

def_only : (h : TypeHead) → Only IsWhole (def_rest h)
def_only type_is.Type = next_only IsWhole (expect operator.Equals) _ (λ _. bind_only IsWritten IsWhole (ended any_type) _ (ended_only IsWritten any_type (ty_only true most_depth)) (λ t w. done_only IsWhole (alias t) (w, tt {0})))
def_only type_is.Record = bind_only (SomeAll IsWrittenTyped) IsWhole (braced (items operator.RightBrace typed)) _ (braced_only (SomeAll IsWrittenTyped) _ (items_only IsWrittenTyped operator.RightBrace typed typed_only)) (λ fs w. done_only IsWhole (record_of fs) (w, tt {0}))
def_only type_is.Variant = bind_only (SomeAll IsWrittenCase) IsWhole (braced (items operator.RightBrace case)) _ (braced_only (SomeAll IsWrittenCase) _ (items_only IsWrittenCase operator.RightBrace case case_only)) (λ cs w. done_only IsWhole (variant cs) (w, tt {0}))
def_only type_is.Enum = bind_only HasLabels IsWhole (braced (items operator.RightBrace identifier)) _ (braced_only HasLabels _ (labels_only _ (items_only (λ (l : List ℕ). Unit {0}) operator.RightBrace identifier (anything identifier)))) (λ ls w. done_only IsWhole (enum ls) (w, tt {0}))
def_only type_is.Flags = bind_only (SomeFew MAX_FLAGS) IsWhole (braced (items_and more_flags operator.RightBrace identifier)) _ (braced_only (SomeFew MAX_FLAGS) _ (few_only more_flags operator.RightBrace identifier)) (λ ls w. done_only IsWhole (flags ls) (w, tt {0}))
def_only type_is.Resource = bind_only AreFuncs IsWhole resource_rest _ resource_only (λ fs w. done_only IsWhole (resource fs) (tt {0}, w))

-- ---- interfaces

item_only : (h : ItemHead) → Only IsWrittenItem (item_rest h)
item_only item_is.Use = next_only IsWrittenItem use_rest _ (λ u. done_only IsWrittenItem (uses u) (tt {0}))
item_only (item_is.Type h) = next_only IsWrittenItem identifier _ (λ name. bind_only IsWhole IsWrittenItem (def_rest h) _ (def_only h) (λ t w. done_only IsWrittenItem (defines name t) w))
item_only (item_is.Func name) = next_only IsWrittenItem (expect operator.Colon) _ (λ _. bind_only IsWrittenFunc IsWrittenItem func_rest _ func_rest_only (λ f w. done_only IsWrittenItem (has_func name f) w))

interface_item_only : Only IsWrittenItem interface_item
interface_item_only = next_only IsWrittenItem (token item_head) _ (λ h. item_only h)

abbrev AreItems : List InterfaceItem → Type 0
AreItems xs = AllByRecursion IsWrittenItem xs

abbrev IsWrittenInterface : Interface → Type 0
IsWrittenInterface i = AllByRecursion IsWrittenItem i.items

interface_only : Only IsWrittenInterface interface_rest
interface_only = next_only IsWrittenInterface identifier _ (λ name. bind_only AreItems IsWrittenInterface (braced (members interface_item)) _ (braced_only AreItems _ (members_only IsWrittenItem interface_item interface_item_only)) (λ xs w. done_only IsWrittenInterface (record { name = name; items = xs }) w))

-- ---- worlds

behind_colon_only : (name : List ℕ) → Only IsWrittenExtern (behind_colon name)
behind_colon_only name = chosen_only IsWrittenExtern _ _ _
    (next_only IsWrittenExtern (expect_word word.Func) _ (λ _. bind_only IsWrittenFunc IsWrittenExtern func _ func_only (λ f w. done_only IsWrittenExtern (named_func name f) w)))
    (next_only IsWrittenExtern (foreign_rest name) _ (λ p. done_only IsWrittenExtern (interface_at p) (tt {0})))

extern_only : Only IsWrittenExtern extern
extern_only = next_only IsWrittenExtern identifier _ (λ name. chosen_only IsWrittenExtern _ _ _
    (next_only IsWrittenExtern (expect operator.Colon) _ (λ _. behind_colon_only name))
    (done_only IsWrittenExtern (interface_at (local name)) (tt {0})))

directed : (h : WorldHead) (e : WorldExtern) → IsWrittenExtern e → IsWrittenWorldItem (with_direction h e)
directed world_is.Import e w = w
directed world_is.Export e w = w

world_item_only : Only IsWrittenWorldItem world_item
world_item_only = next_only IsWrittenWorldItem (token world_head) _ (λ h. bind_only IsWrittenExtern IsWrittenWorldItem (ended extern) _ (ended_only IsWrittenExtern extern extern_only) (λ e w. done_only IsWrittenWorldItem (with_direction h e) (directed h e w)))

abbrev AreWorldItems : List WorldItem → Type 0
AreWorldItems xs = AllByRecursion IsWrittenWorldItem xs

abbrev IsWrittenWorld : World → Type 0
IsWrittenWorld i = AllByRecursion IsWrittenWorldItem i.items

world_only : Only IsWrittenWorld world_rest
world_only = next_only IsWrittenWorld identifier _ (λ name. bind_only AreWorldItems IsWrittenWorld (braced (members world_item)) _ (braced_only AreWorldItems _ (members_only IsWrittenWorldItem world_item world_item_only)) (λ xs w. done_only IsWrittenWorld (record { name = name; items = xs }) w))

-- ---- files

file_item_rest_only : (h : FileHead) → Only IsWrittenFileItem (file_item_rest h)
file_item_rest_only file_is.Interface = bind_only IsWrittenInterface IsWrittenFileItem interface_rest _ interface_only (λ i w. done_only IsWrittenFileItem (interface i) w)
file_item_rest_only file_is.World = bind_only IsWrittenWorld IsWrittenFileItem world_rest _ world_only (λ i w. done_only IsWrittenFileItem (world i) w)

file_item_only : Only IsWrittenFileItem file_item
file_item_only = next_only IsWrittenFileItem (token file_head) _ (λ h. file_item_rest_only h)

abbrev AreFileItems : List FileItem → Type 0
AreFileItems xs = AllByRecursion IsWrittenFileItem xs

file_only : Only IsWrittenFile file
file_only = next_only IsWrittenFile (token package_head) _ (λ _. next_only IsWrittenFile identifier _ (λ ns. next_only IsWrittenFile (expect operator.Colon) _ (λ _.
    next_only IsWrittenFile identifier _ (λ pkg. next_only IsWrittenFile optional_version _ (λ v. next_only IsWrittenFile (expect operator.Semicolon) _ (λ _.
    bind_only AreFileItems IsWrittenFile (members file_item) _ (members_only IsWrittenFileItem file_item file_item_only)
    (λ xs w. done_only IsWrittenFile (record { namespace = ns; pkg = pkg; version = v; items = xs }) w)))))))

-- ---- whole texts

end_only : (x : File) (ts : List Token) → IsWrittenFile x → (f : File) → to_end x ts ≡ Ok f → IsWrittenFile f
end_only x [] w f e = let same : x ≡ f = cc in subst IsWrittenFile same w
end_only x (t ∷ ts) w f e = absurd cc

read_only : (r : Result (File × List Token) Fault) → ((x : File) (rest : List Token) → r ≡ Ok (x, rest) → IsWrittenFile x) → (f : File) → and_then r (λ p. to_end p.0 p.1) ≡ Ok f → IsWrittenFile f
read_only (Ok p) h f e = end_only p.0 p.1 (h p.0 p.1 refl) f e
read_only (Err d) h f e = absurd cc

pub texts_write : (text : List ℕ) (f : File) → text_reads file text ≡ Ok f → IsWrittenFile f
texts_write text f e = read_only (file.reads (lexed text).tokens) (file_only.read (lexed text).tokens) f (placed_ok (length text) (lexed text).stop (whole file (lexed text).tokens) f e)
