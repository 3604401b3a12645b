-- The tokens of marks, blanks and keywords between marks and blanks.
use Rattle.std.proofs.Common.{[], ◌∷◌, false, true, refl, arith}
use Rattle.std.specs.Prelude.{codes}
use Rattle.cm_wit_tokens.specs.declared.keyword.Keyword.TheVariants as word
use Rattle.cm_wit_tokens.specs.declared.operator.Operator.TheVariants as operator
use Rattle.cm_wit_tokens.specs.declared.token.Form.TheVariants as form
use Rattle.cm_wit_tokens.specs.Keywords.{keyword_of}
use Rattle.cm_wit_tokens.specs.Runs.{run_length}
use Rattle.cm_wit_tokens.specs.Tokens.{lexed_in}
use Rattle.cm_wit_package.proofs.Lexing.{Lexes, marks, after}
use Rattle.cm_wit_package.proofs.WordLaws.{word_lexes}

pub comma : Lexes (codes ", ") (form.Operator operator.Comma ∷ []) false
unfolding lexed_in run_length keyword_of
comma = marks 2 _ _ (omega arith) (λ turns rest. refl)

pub colon : Lexes (codes ": ") (form.Operator operator.Colon ∷ []) false
unfolding lexed_in run_length keyword_of
colon = marks 2 _ _ (omega arith) (λ turns rest. refl)

pub tight_colon : Lexes (codes ":") (form.Operator operator.Colon ∷ []) false
unfolding lexed_in run_length keyword_of
tight_colon = marks 1 _ _ (omega arith) (λ turns rest. refl)

pub opening : Lexes (codes "(") (form.Operator operator.LeftParenthesis ∷ []) false
unfolding lexed_in run_length keyword_of
opening = marks 1 _ _ (omega arith) (λ turns rest. refl)

pub closing : Lexes (codes ")") (form.Operator operator.RightParenthesis ∷ []) false
unfolding lexed_in run_length keyword_of
closing = marks 1 _ _ (omega arith) (λ turns rest. refl)

pub arrow : Lexes (codes " -> ") (form.Operator operator.Arrow ∷ []) false
unfolding lexed_in run_length keyword_of
arrow = marks 3 _ _ (omega arith) (λ turns rest. refl)

pub as_word : Lexes (codes " as ") (form.Keyword word.As ∷ []) false
unfolding lexed_in run_length keyword_of
as_word = marks 3 _ _ (omega arith) (λ turns rest. refl)

pub line : Lexes (codes ";\n") (form.Operator operator.Semicolon ∷ []) false
unfolding lexed_in run_length keyword_of
line = marks 2 _ _ (omega arith) (λ turns rest. refl)

pub static_word : Lexes (codes ": static ") (form.Operator operator.Colon ∷ form.Keyword word.Static ∷ []) false
unfolding lexed_in run_length keyword_of
static_word = marks 4 _ _ (omega arith) (λ turns rest. refl)

pub indent : Lexes (codes "  ") [] false
unfolding lexed_in run_length keyword_of
indent = marks 2 _ _ (omega arith) (λ turns rest. refl)

pub wide_indent : Lexes (codes "    ") [] false
unfolding lexed_in run_length keyword_of
wide_indent = marks 4 _ _ (omega arith) (λ turns rest. refl)

pub brace_line : Lexes (codes " {\n") (form.Operator operator.LeftBrace ∷ []) false
unfolding lexed_in run_length keyword_of
brace_line = marks 3 _ _ (omega arith) (λ turns rest. refl)

pub inner_end : Lexes (codes "  }\n") (form.Operator operator.RightBrace ∷ []) false
unfolding lexed_in run_length keyword_of
inner_end = marks 4 _ _ (omega arith) (λ turns rest. refl)

pub type_word : Lexes (codes "  type ") (form.Keyword word.Type ∷ []) false
unfolding lexed_in run_length keyword_of
type_word = marks 4 _ _ (omega arith) (λ turns rest. refl)

pub equals : Lexes (codes " = ") (form.Operator operator.Equals ∷ []) false
unfolding lexed_in run_length keyword_of
equals = marks 3 _ _ (omega arith) (λ turns rest. refl)

pub record_word : Lexes (codes "  record ") (form.Keyword word.Record ∷ []) false
unfolding lexed_in run_length keyword_of
record_word = marks 4 _ _ (omega arith) (λ turns rest. refl)

pub variant_word : Lexes (codes "  variant ") (form.Keyword word.Variant ∷ []) false
unfolding lexed_in run_length keyword_of
variant_word = marks 4 _ _ (omega arith) (λ turns rest. refl)

pub enum_word : Lexes (codes "  enum ") (form.Keyword word.Enum ∷ []) false
unfolding lexed_in run_length keyword_of
enum_word = marks 4 _ _ (omega arith) (λ turns rest. refl)

pub flags_word : Lexes (codes "  flags ") (form.Keyword word.Flags ∷ []) false
unfolding lexed_in run_length keyword_of
flags_word = marks 4 _ _ (omega arith) (λ turns rest. refl)

pub resource_word : Lexes (codes "  resource ") (form.Keyword word.Resource ∷ []) false
unfolding lexed_in run_length keyword_of
resource_word = marks 4 _ _ (omega arith) (λ turns rest. refl)

pub brace : Lexes (codes " { ") (form.Operator operator.LeftBrace ∷ []) false
unfolding lexed_in run_length keyword_of
brace = marks 3 _ _ (omega arith) (λ turns rest. refl)

pub brace_end : Lexes (codes " }\n") (form.Operator operator.RightBrace ∷ []) false
unfolding lexed_in run_length keyword_of
brace_end = marks 3 _ _ (omega arith) (λ turns rest. refl)

pub use_word : Lexes (codes "  use ") (form.Keyword word.Use ∷ []) false
unfolding lexed_in run_length keyword_of
use_word = marks 4 _ _ (omega arith) (λ turns rest. refl)

pub dot_brace : Lexes (codes ".{") (form.Operator operator.Period ∷ form.Operator operator.LeftBrace ∷ []) false
unfolding lexed_in run_length keyword_of
dot_brace = marks 2 _ _ (omega arith) (λ turns rest. refl)

pub use_end : Lexes (codes "};\n") (form.Operator operator.RightBrace ∷ form.Operator operator.Semicolon ∷ []) false
unfolding lexed_in run_length keyword_of
use_end = marks 3 _ _ (omega arith) (λ turns rest. refl)

pub interface_word : Lexes (codes "interface ") (form.Keyword word.Interface ∷ []) false
unfolding lexed_in run_length keyword_of
interface_word = marks 2 _ _ (omega arith) (λ turns rest. refl)

pub outer_end : Lexes (codes "}\n") (form.Operator operator.RightBrace ∷ []) false
unfolding lexed_in run_length keyword_of
outer_end = marks 2 _ _ (omega arith) (λ turns rest. refl)

pub world_word : Lexes (codes "world ") (form.Keyword word.World ∷ []) false
unfolding lexed_in run_length keyword_of
world_word = marks 2 _ _ (omega arith) (λ turns rest. refl)

pub import_word : Lexes (codes "  import ") (form.Keyword word.Import ∷ []) false
unfolding lexed_in run_length keyword_of
import_word = marks 4 _ _ (omega arith) (λ turns rest. refl)

pub export_word : Lexes (codes "  export ") (form.Keyword word.Export ∷ []) false
unfolding lexed_in run_length keyword_of
export_word = marks 4 _ _ (omega arith) (λ turns rest. refl)

pub package_word : Lexes (codes "package ") (form.Keyword word.Package ∷ []) false
unfolding lexed_in run_length keyword_of
package_word = marks 2 _ _ (omega arith) (λ turns rest. refl)

pub borrow_of : Lexes (codes "borrow<") (form.Keyword word.Borrow ∷ form.Operator operator.LessThan ∷ []) false
unfolding lexed_in run_length keyword_of
borrow_of = marks 2 _ _ (omega arith) (λ turns rest. refl)

pub angle : Lexes (codes ">") (form.Operator operator.GreaterThan ∷ []) false
unfolding lexed_in run_length keyword_of
angle = marks 1 _ _ (omega arith) (λ turns rest. refl)

pub list_of : Lexes (codes "list<") (form.Keyword word.List ∷ form.Operator operator.LessThan ∷ []) false
unfolding lexed_in run_length keyword_of
list_of = marks 2 _ _ (omega arith) (λ turns rest. refl)

pub option_of : Lexes (codes "option<") (form.Keyword word.Option ∷ form.Operator operator.LessThan ∷ []) false
unfolding lexed_in run_length keyword_of
option_of = marks 2 _ _ (omega arith) (λ turns rest. refl)

pub tuple_of : Lexes (codes "tuple<") (form.Keyword word.Tuple ∷ form.Operator operator.LessThan ∷ []) false
unfolding lexed_in run_length keyword_of
tuple_of = marks 2 _ _ (omega arith) (λ turns rest. refl)

pub result_of : Lexes (codes "result<") (form.Keyword word.Result ∷ form.Operator operator.LessThan ∷ []) false
unfolding lexed_in run_length keyword_of
result_of = marks 2 _ _ (omega arith) (λ turns rest. refl)

pub error_of : Lexes (codes "result<_, ") (form.Keyword word.Result ∷ form.Operator operator.LessThan ∷ form.Operator operator.Underscore ∷ form.Operator operator.Comma ∷ []) false
unfolding lexed_in run_length keyword_of
error_of = marks 5 _ _ (omega arith) (λ turns rest. refl)

-- ---- keywords that other text follows

pub bool_keyword : Lexes (codes "bool") (form.Keyword word.Bool ∷ []) true
unfolding run_length keyword_of
bool_keyword = word_lexes _ _ refl refl refl refl

pub s8_keyword : Lexes (codes "s8") (form.Keyword word.S8 ∷ []) true
unfolding run_length keyword_of
s8_keyword = word_lexes _ _ refl refl refl refl

pub s16_keyword : Lexes (codes "s16") (form.Keyword word.S16 ∷ []) true
unfolding run_length keyword_of
s16_keyword = word_lexes _ _ refl refl refl refl

pub s32_keyword : Lexes (codes "s32") (form.Keyword word.S32 ∷ []) true
unfolding run_length keyword_of
s32_keyword = word_lexes _ _ refl refl refl refl

pub s64_keyword : Lexes (codes "s64") (form.Keyword word.S64 ∷ []) true
unfolding run_length keyword_of
s64_keyword = word_lexes _ _ refl refl refl refl

pub u8_keyword : Lexes (codes "u8") (form.Keyword word.U8 ∷ []) true
unfolding run_length keyword_of
u8_keyword = word_lexes _ _ refl refl refl refl

pub u16_keyword : Lexes (codes "u16") (form.Keyword word.U16 ∷ []) true
unfolding run_length keyword_of
u16_keyword = word_lexes _ _ refl refl refl refl

pub u32_keyword : Lexes (codes "u32") (form.Keyword word.U32 ∷ []) true
unfolding run_length keyword_of
u32_keyword = word_lexes _ _ refl refl refl refl

pub u64_keyword : Lexes (codes "u64") (form.Keyword word.U64 ∷ []) true
unfolding run_length keyword_of
u64_keyword = word_lexes _ _ refl refl refl refl

pub char_keyword : Lexes (codes "char") (form.Keyword word.Char ∷ []) true
unfolding run_length keyword_of
char_keyword = word_lexes _ _ refl refl refl refl

pub string_keyword : Lexes (codes "string") (form.Keyword word.String ∷ []) true
unfolding run_length keyword_of
string_keyword = word_lexes _ _ refl refl refl refl

pub result_keyword : Lexes (codes "result") (form.Keyword word.Result ∷ []) true
unfolding run_length keyword_of
result_keyword = word_lexes _ _ refl refl refl refl

pub func_keyword : Lexes (codes "func") (form.Keyword word.Func ∷ []) true
unfolding run_length keyword_of
func_keyword = word_lexes _ _ refl refl refl refl

pub constructor_keyword : Lexes (codes "constructor") (form.Keyword word.Constructor ∷ []) true
unfolding run_length keyword_of
constructor_keyword = word_lexes _ _ refl refl refl refl

pub constructor_word : Lexes (codes "    constructor") (form.Keyword word.Constructor ∷ []) true
constructor_word = after wide_indent constructor_keyword
