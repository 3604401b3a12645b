-- Interfaces, worlds and files are read again.
use Rattle.std.proofs.Common.{◌≡◌, ℕ, Bool, true, false, if◌then◌else◌, List, [], ◌∷◌, ◌++◌, Option, Some, None, Result, Ok, refl, sym, ap, ◌∙◌, append-nil, append_assoc}
use Rattle.std.specs.List.{flat_map}
use Rattle.cm_wit_tokens.specs.declared.keyword.Keyword.{Keyword}
use Rattle.cm_wit_tokens.specs.declared.keyword.Keyword.TheVariants as word
use Rattle.cm_wit_tokens.specs.declared.operator.Operator.TheVariants as operator
use Rattle.cm_wit_tokens.specs.declared.token.Form.{Form}
use Rattle.cm_wit_tokens.specs.declared.token.Form.TheVariants as form
use Rattle.cm_wit_tokens.specs.declared.token.Token.{Token}
use Rattle.cm_wit_tokens.specs.Forms.{is_operator, is_keyword}
use Rattle.cm_wit_tokens.specs.declared.fault.WitReason.{WitReason}
use Rattle.cm_wit_tokens.specs.Grammar.{first, Grammar, done, ◌>>=◌, passes}
use Rattle.cm_wit_tokens.specs.Lists.{is_member, members}
use Rattle.cm_wit_tokens.specs.Parts.{expect}
use Rattle.cm_wit_reading.specs.Signatures.{Func, local, typed}
use Rattle.cm_wit_reading.specs.declared.heads.TypeHead.{TypeHead}
use Rattle.cm_wit_reading.specs.declared.heads.TypeHead.TheVariants as type_is
use Rattle.cm_wit_reading.specs.declared.heads.ItemHead.{ItemHead}
use Rattle.cm_wit_reading.specs.declared.heads.ItemHead.TheVariants as item_is
use Rattle.cm_wit_reading.specs.declared.heads.MethodHead.{MethodHead}
use Rattle.cm_wit_reading.specs.declared.heads.MethodHead.TheVariants as method_is
use Rattle.cm_wit_reading.specs.declared.heads.WorldHead.{WorldHead}
use Rattle.cm_wit_reading.specs.declared.heads.WorldHead.TheVariants as world_is
use Rattle.cm_wit_reading.specs.declared.heads.FileHead.{FileHead}
use Rattle.cm_wit_reading.specs.declared.heads.FileHead.TheVariants as file_is
use Rattle.cm_wit_reading.specs.Heads.{item_head, method_head, world_head, file_head, package_head}
use Rattle.cm_wit_reading.specs.Interfaces.{braced, ended, new_name, used_name, use_rest, case_type, case, is_static, func_rest, method_rest, resource_func, resource_rest, more_flags, def_rest, item_rest, interface_item, interface_rest}
use Rattle.cm_wit_reading.specs.Worlds.{behind_colon, extern, with_direction, world_item, world_rest}
use Rattle.cm_wit_reading.specs.Files.{file_item_rest, file_item, file}
use Rattle.cm_wit_reading.specs.Trees.{Use, ResourceFunc, method, static, constructor, alias, record_of, variant, enum, flags, resource, uses, defines, has_func, WorldExtern, interface_at, named_func, interface, world}
use Rattle.cm_wit_package.specs.TreeTokens as tokens
use Rattle.cm_wit_package.specs.TreeTokens.{mark, keyword, name_tokens, with_commas, type_tokens, typed_tokens, params_tokens, signature_tokens, func_tokens, version_tokens, path_tokens, new_name_tokens, used_tokens, case_type_tokens, case_tokens, resource_func_tokens, def_tokens, interface_item_tokens, interface_tokens, extern_tokens, world_item_tokens, world_tokens, file_item_tokens, file_tokens}
use Rattle.cm_wit_package.proofs.Chains.{pair_of, Canon, Law, Chain, law, tail, mapped, bind, end, at, passing, failing, pick, then_canon, else_canon, table_law}
use Rattle.cm_wit_package.proofs.ListLaws.{expect_law, word_law, any, begins_word, name_law, any_name, anyhow}
use Rattle.cm_wit_package.proofs.ItemLaws.{calm, closed, ends, items_law, items_and_law, members_law}
use Rattle.cm_wit_package.proofs.TypeLaws.{head_is, no_parenthesis, no_as, no_colon, word_apart, closes_brace, any_type_law, typed_law, params_law, func_law, version_part, foreign_chain, path_law}

-- ---- between braces, before a semicolon

braced_law : {A : Type 0} {g : Grammar A} {q : A → List Form} {S : Option Form → Bool} (M : Option Form → Bool) → M (Some (form.Operator operator.RightBrace)) ≡ true → Law g q S M → Law (braced g) (λ x. tokens.braced (q x)) any any
braced_law M m l = law (bind any (expect_law operator.LeftBrace any any refl) (λ _. bind M (anyhow l) (λ x. bind any (expect_law operator.RightBrace M any m) (λ _. end x (λ n h. refl) refl))))

ended_law : {A : Type 0} {g : Grammar A} {q : A → List Form} {S : Option Form → Bool} (M : Option Form → Bool) → M (Some (form.Operator operator.Semicolon)) ≡ true → Law g q S M → Law (ended g) (λ x. q x ++ mark operator.Semicolon) any any
ended_law M m l = law (bind M (anyhow l) (λ x. bind any (expect_law operator.Semicolon M any m) (λ _. end x (λ n h. refl) refl)))

-- ---- used names

new_name_law : Law new_name new_name_tokens any calm
new_name_law = law (pick (is_keyword word.As)
    (bind any (word_law word.As (passing (is_keyword word.As) any) any refl) (λ _. bind any (any_name any) (λ name. end (Some name) (λ n h. refl) refl)))
    (end None no_as refl))

used_name_law : Law used_name used_tokens begins_word calm
used_name_law = law (bind any (name_law begins_word any (λ w. refl)) (λ name. bind calm new_name_law (λ new. end (record { name = name; new_name = new }) (λ n h. h) (rw (append-nil (new_name_tokens new)) refl))))

abbrev use_tokens : Use → List Form
use_tokens u = path_tokens u.path ++ (mark operator.Period ++ (mark operator.LeftBrace ++ (with_commas used_tokens u.names ++ (mark operator.RightBrace ++ mark operator.Semicolon))))

use_law : Law use_rest use_tokens any any
use_law = law (bind calm path_law (λ p. bind any (expect_law operator.Period calm any refl) (λ _. bind any (ended_law any refl (braced_law (closed operator.RightBrace) refl (items_law operator.RightBrace used_name used_tokens begins_word closes_brace used_name_law (word_apart operator.RightBrace)))) (λ names. end (record { path = p; names = names }) (λ n h. refl)
    (ap (λ (z : List Form). path_tokens p ++ (mark operator.Period ++ (mark operator.LeftBrace ++ z))) (sym (append-nil ((with_commas used_tokens names ++ mark operator.RightBrace) ++ mark operator.Semicolon) ∙ append_assoc (with_commas used_tokens names) (mark operator.RightBrace) (mark operator.Semicolon))))))))

-- ---- cases and functions

case_type_law : Law case_type case_type_tokens any calm
case_type_law = law (pick (is_operator operator.LeftParenthesis)
    (bind any (expect_law operator.LeftParenthesis (passing (is_operator operator.LeftParenthesis) any) any refl) (λ _. bind calm (anyhow any_type_law) (λ t. bind any (expect_law operator.RightParenthesis calm any refl) (λ _. end (Some t) (λ n h. refl) refl))))
    (end None no_parenthesis refl))

case_law : Law case case_tokens begins_word calm
case_law = law (bind any (name_law begins_word any (λ w. refl)) (λ name. bind calm case_type_law (λ t. end (record { name = name; ty = t }) (λ n h. h) (rw (append-nil (case_type_tokens t)) refl))))

abbrev static_tokens : Bool → List Form
static_tokens true = keyword word.Static
static_tokens false = []

abbrev not_static : Option Form → Bool
not_static n = failing (is_keyword word.Static) any n

static_law : Law is_static static_tokens any not_static
static_law = law (pick (is_keyword word.Static)
    (bind any (word_law word.Static (passing (is_keyword word.Static) any) any refl) (λ _. end true (λ n h. refl) refl))
    (end false (λ n h. h) refl))

func_rest_law : (S : Option Form → Bool) → S (Some (form.Keyword word.Func)) ≡ true → Law func_rest (λ f. func_tokens f ++ mark operator.Semicolon) S any
func_rest_law S s = law (bind any (word_law word.Func S any s) (λ _. tail (ended_law calm refl func_law) (λ f. refl)))

-- ---- functions of resources

-- whether a token is none but a word
abbrev Heads : {K : Type 0} → (Form → Result K WitReason) → (K → List Form) → Type 0
Heads {K} table q = (f : Form) (k : K) → table f ≡ Ok k → (q k ≡ f ∷ []) × (at is_member (Some f) ≡ true)

abbrev method_tokens : MethodHead → List Form
method_tokens method_is.Constructor = keyword word.Constructor
method_tokens (method_is.Named name) = name_tokens name

method_is_head : Heads method_head method_tokens
method_is_head (form.Identifier w) h e = (ap method_tokens (sym (head_is _ h e)), refl)
method_is_head (form.Keyword word.Constructor) h e = (ap method_tokens (sym (head_is _ h e)), refl)
method_is_head f h e = absurd cc

static_is : (s : Bool) (name : List ℕ) (f : Func) → resource_func_tokens (if s then static name f else method name f) ≡ name_tokens name ++ (mark operator.Colon ++ (static_tokens s ++ ((func_tokens f ++ mark operator.Semicolon) ++ [])))
static_is true name f = rw (append-nil (func_tokens f ++ mark operator.Semicolon)) refl
static_is false name f = rw (append-nil (func_tokens f ++ mark operator.Semicolon)) refl

method_chain : (h : MethodHead) → Chain (method_rest h) (λ z. method_tokens h ++ z) resource_func_tokens any any
method_chain method_is.Constructor = bind any (ended_law any refl params_law) (λ ps. end (constructor ps) (λ n h. refl) (ap (λ (z : List Form). keyword word.Constructor ++ z) (sym (append-nil (params_tokens ps ++ mark operator.Semicolon)))))
method_chain (method_is.Named name) = bind any (expect_law operator.Colon any any refl) (λ _. bind not_static static_law (λ s. bind any (func_rest_law not_static refl) (λ f. end (if s then static name f else method name f) (λ n h. refl) (static_is s name f))))

resource_func_law : Law resource_func resource_func_tokens (at is_member) any
resource_func_law = law (bind any (table_law method_head method_tokens (at is_member) any method_is_head) method_chain)

abbrev braced_funcs : List ResourceFunc → List Form
braced_funcs fs = tokens.braced (flat_map resource_func_tokens fs)

resource_funcs : Law (braced (members resource_func)) braced_funcs (failing (is_operator operator.Semicolon) any) any
resource_funcs = law (bind any (expect_law operator.LeftBrace (failing (is_operator operator.Semicolon) any) any refl) (λ _. bind ends (anyhow (members_law resource_func resource_func_tokens resource_func_law)) (λ x. bind any (expect_law operator.RightBrace ends any refl) (λ _. end x (λ n h. refl) refl))))

no_funcs : Chain (expect operator.Semicolon >>= λ _. done {A = List ResourceFunc} []) (λ z. z) tokens.resource_rest (passing (is_operator operator.Semicolon) any) any
no_funcs = bind any (expect_law operator.Semicolon (passing (is_operator operator.Semicolon) any) any refl) (λ _. end [] (λ n h. refl) refl)

some_funcs : (fs : List ResourceFunc) (ts rest : List Token) → Canon (braced (members resource_func)) fs ts rest (braced_funcs fs) (failing (is_operator operator.Semicolon) any) any → Canon resource_rest fs ts rest (tokens.resource_rest fs) any any
some_funcs [] ts rest c = record {
  again = λ all after b r. ap resource_rest.reads b.2 ∙ pair_of [] [] b.1 after refl b.3;
  same = c.same;
  starts = λ n h. refl;
}
some_funcs (f ∷ fs) ts rest c = else_canon (is_operator operator.Semicolon) c

resource_by : (b : Bool) (fs : List ResourceFunc) (ts rest : List Token) → (if b then (expect operator.Semicolon >>= λ _. done []).reads ts else (braced (members resource_func)).reads ts) ≡ Ok (fs, rest) → Canon resource_rest fs ts rest (tokens.resource_rest fs) any any
resource_by true fs ts rest e = then_canon (is_operator operator.Semicolon) ((law no_funcs).at fs ts rest e)
resource_by false fs ts rest e = some_funcs fs ts rest (resource_funcs.at fs ts rest e)

resource_law : Law resource_rest tokens.resource_rest any any
resource_law = record { at = λ fs ts rest e. resource_by (passes (is_operator operator.Semicolon) (first ts)) fs ts rest e }

-- ---- items of interfaces

abbrev type_word : TypeHead → Keyword
type_word type_is.Type = word.Type
type_word type_is.Record = word.Record
type_word type_is.Variant = word.Variant
type_word type_is.Enum = word.Enum
type_word type_is.Flags = word.Flags
type_word type_is.Resource = word.Resource

abbrev item_tokens : ItemHead → List Form
item_tokens item_is.Use = keyword word.Use
item_tokens (item_is.Type h) = keyword (type_word h)
item_tokens (item_is.Func name) = name_tokens name

item_is_head : Heads item_head item_tokens
item_is_head (form.Identifier w) h e = (ap item_tokens (sym (head_is _ h e)), refl)
item_is_head (form.Keyword word.Use) h e = (ap item_tokens (sym (head_is _ h e)), refl)
item_is_head (form.Keyword word.Type) h e = (ap item_tokens (sym (head_is _ h e)), refl)
item_is_head (form.Keyword word.Record) h e = (ap item_tokens (sym (head_is _ h e)), refl)
item_is_head (form.Keyword word.Variant) h e = (ap item_tokens (sym (head_is _ h e)), refl)
item_is_head (form.Keyword word.Enum) h e = (ap item_tokens (sym (head_is _ h e)), refl)
item_is_head (form.Keyword word.Flags) h e = (ap item_tokens (sym (head_is _ h e)), refl)
item_is_head (form.Keyword word.Resource) h e = (ap item_tokens (sym (head_is _ h e)), refl)
item_is_head f h e = absurd cc

-- what is left to say of a type whose parts stand behind its name
nothing_more : (k : Keyword) (name : List ℕ) (fs : List Form) → keyword k ++ (name_tokens name ++ fs) ≡ keyword k ++ (name_tokens name ++ (fs ++ []))
nothing_more k name fs = rw (append-nil fs) refl

def_chain : (name : List ℕ) (h : TypeHead) → Chain (def_rest h) (λ z. keyword (type_word h) ++ (name_tokens name ++ z)) (λ t. interface_item_tokens (defines name t)) any any
def_chain name type_is.Type = bind any (expect_law operator.Equals any any refl) (λ _. bind any (ended_law calm refl any_type_law) (λ t. end (alias t) (λ n h. refl) (nothing_more word.Type name (def_tokens (alias t)))))
def_chain name type_is.Record = bind any (braced_law (closed operator.RightBrace) refl (items_law operator.RightBrace typed typed_tokens begins_word closes_brace typed_law (word_apart operator.RightBrace))) (λ fs. end (record_of fs) (λ n h. refl) (nothing_more word.Record name (def_tokens (record_of fs))))
def_chain name type_is.Variant = bind any (braced_law (closed operator.RightBrace) refl (items_law operator.RightBrace case case_tokens begins_word closes_brace case_law (word_apart operator.RightBrace))) (λ cs. end (variant cs) (λ n h. refl) (nothing_more word.Variant name (def_tokens (variant cs))))
def_chain name type_is.Enum = bind any (braced_law (closed operator.RightBrace) refl (items_law operator.RightBrace _ name_tokens begins_word closes_brace (name_law begins_word calm (λ w. refl)) (word_apart operator.RightBrace))) (λ names. end (enum names) (λ n h. refl) (nothing_more word.Enum name (def_tokens (enum names))))
def_chain name type_is.Flags = bind any (braced_law (closed operator.RightBrace) refl (items_and_law operator.RightBrace _ name_tokens begins_word closes_brace (name_law begins_word calm (λ w. refl)) (word_apart operator.RightBrace) more_flags)) (λ names. end (flags names) (λ n h. refl) (nothing_more word.Flags name (def_tokens (flags names))))
def_chain name type_is.Resource = bind any resource_law (λ fs. end (resource fs) (λ n h. refl) (nothing_more word.Resource name (def_tokens (resource fs))))

item_chain : (h : ItemHead) → Chain (item_rest h) (λ z. item_tokens h ++ z) interface_item_tokens any any
item_chain item_is.Use = bind any use_law (λ u. end (uses u) (λ n h. refl) (ap (λ (z : List Form). keyword word.Use ++ z) (sym (append-nil (use_tokens u)))))
item_chain (item_is.Type h) = bind any (any_name any) (λ name. mapped (λ t. defines name t) (def_chain name h) (λ t. refl))
item_chain (item_is.Func name) = bind any (expect_law operator.Colon any any refl) (λ _. bind any (func_rest_law any refl) (λ f. end (has_func name f) (λ n h. refl) (ap (λ (z : List Form). name_tokens name ++ (mark operator.Colon ++ z)) (sym (append-nil (func_tokens f ++ mark operator.Semicolon))))))

interface_item_law : Law interface_item interface_item_tokens (at is_member) any
interface_item_law = law (bind any (table_law item_head item_tokens (at is_member) any item_is_head) item_chain)

interface_law : Law interface_rest interface_tokens any any
interface_law = law (bind any (any_name any) (λ name. bind any (braced_law ends refl (members_law interface_item interface_item_tokens interface_item_law)) (λ xs. end (record { name = name; items = xs }) (λ n h. refl) (ap (λ (z : List Form). name_tokens name ++ z) (sym (append-nil (tokens.braced (flat_map interface_item_tokens xs))))))))

-- ---- worlds

colon_chain : (name : List ℕ) → Chain (behind_colon name) (λ z. name_tokens name ++ (mark operator.Colon ++ z)) extern_tokens any calm
colon_chain name =
    pick (is_keyword word.Func)
    (bind any (word_law word.Func (passing (is_keyword word.Func) any) any refl) (λ _. bind calm func_law (λ f. end (named_func name f) (λ n h. h) (ap (λ (z : List Form). name_tokens name ++ (mark operator.Colon ++ (keyword word.Func ++ z))) (sym (append-nil (signature_tokens f)))))))
    (mapped (λ p. interface_at p) (foreign_chain (failing (is_keyword word.Func) any) (λ w. refl) name) (λ p. refl))

extern_law : Law extern extern_tokens any calm
extern_law = law (bind any (any_name any) (λ name. pick (is_operator operator.Colon)
    (bind any (expect_law operator.Colon (passing (is_operator operator.Colon) any) any refl) (λ _. colon_chain name))
    (end (interface_at (local name)) no_colon refl)))

abbrev direction_tokens : WorldHead → List Form
direction_tokens world_is.Import = keyword word.Import
direction_tokens world_is.Export = keyword word.Export

world_is_head : Heads world_head direction_tokens
world_is_head (form.Keyword word.Import) h e = (ap direction_tokens (sym (head_is _ h e)), refl)
world_is_head (form.Keyword word.Export) h e = (ap direction_tokens (sym (head_is _ h e)), refl)
world_is_head f h e = absurd cc

direction_is : (h : WorldHead) (e : WorldExtern) → world_item_tokens (with_direction h e) ≡ direction_tokens h ++ ((extern_tokens e ++ mark operator.Semicolon) ++ [])
direction_is world_is.Import e = rw (append-nil (extern_tokens e ++ mark operator.Semicolon)) refl
direction_is world_is.Export e = rw (append-nil (extern_tokens e ++ mark operator.Semicolon)) refl

world_item_law : Law world_item world_item_tokens (at is_member) any
world_item_law = law (bind any (table_law world_head direction_tokens (at is_member) any world_is_head) (λ h. bind any (ended_law calm refl extern_law) (λ e. end (with_direction h e) (λ n g. refl) (direction_is h e))))

world_law : Law world_rest world_tokens any any
world_law = law (bind any (any_name any) (λ name. bind any (braced_law ends refl (members_law world_item world_item_tokens world_item_law)) (λ xs. end (record { name = name; items = xs }) (λ n h. refl) (ap (λ (z : List Form). name_tokens name ++ z) (sym (append-nil (tokens.braced (flat_map world_item_tokens xs))))))))

-- ---- files

abbrev file_head_tokens : FileHead → List Form
file_head_tokens file_is.Interface = keyword word.Interface
file_head_tokens file_is.World = keyword word.World

file_is_head : Heads file_head file_head_tokens
file_is_head (form.Keyword word.Interface) h e = (ap file_head_tokens (sym (head_is _ h e)), refl)
file_is_head (form.Keyword word.World) h e = (ap file_head_tokens (sym (head_is _ h e)), refl)
file_is_head f h e = absurd cc

file_item_chain : (h : FileHead) → Chain (file_item_rest h) (λ z. file_head_tokens h ++ z) file_item_tokens any any
file_item_chain file_is.Interface = bind any interface_law (λ i. end (interface i) (λ n h. refl) (ap (λ (z : List Form). keyword word.Interface ++ z) (sym (append-nil (interface_tokens i)))))
file_item_chain file_is.World = bind any world_law (λ w. end (world w) (λ n h. refl) (ap (λ (z : List Form). keyword word.World ++ z) (sym (append-nil (world_tokens w)))))

file_item_law : Law file_item file_item_tokens (at is_member) any
file_item_law = law (bind any (table_law file_head file_head_tokens (at is_member) any file_is_head) file_item_chain)

package_is_head : Heads package_head (λ u. keyword word.Package)
package_is_head (form.Keyword word.Package) h e = (refl, refl)
package_is_head f h e = absurd cc

pub file_law : Law file file_tokens (at is_member) ends
file_law = law (bind any (table_law package_head (λ u. keyword word.Package) (at is_member) any package_is_head) (λ _. bind any (any_name any) (λ ns. bind any (expect_law operator.Colon any any refl) (λ _. bind any (any_name any) (λ pkg. bind calm version_part (λ v. bind any (expect_law operator.Semicolon calm any refl) (λ _. bind ends (members_law file_item file_item_tokens file_item_law) (λ xs. end (record { namespace = ns; pkg = pkg; version = v; items = xs }) (λ n h. h) (rw (append-nil (flat_map file_item_tokens xs)) refl)))))))))
