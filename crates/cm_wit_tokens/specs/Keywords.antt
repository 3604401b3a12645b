-- The keywords of WIT texts (WIT.md, "Keywords").
use Rattle.std.specs.Prelude.{ℕ, ◌==◌, ◌&&◌, Bool, List, [], ◌∷◌, Option, codes, filter, find}
use Rattle.std.specs.Prelude.{get_or, length}
use Rattle.std.specs.Str.{bytes_eq}
use Rattle.cm_wit_tokens.specs.declared.keyword.Keyword.{Keyword}
use Rattle.cm_wit_tokens.specs.declared.keyword.Keyword.TheVariants as word

-- how a keyword is spelled
abbrev pub spelling : Keyword → List ℕ
spelling word.Package = codes "package"
spelling word.Interface = codes "interface"
spelling word.World = codes "world"
spelling word.Use = codes "use"
spelling word.As = codes "as"
spelling word.Type = codes "type"
spelling word.Record = codes "record"
spelling word.Variant = codes "variant"
spelling word.Enum = codes "enum"
spelling word.Flags = codes "flags"
spelling word.Resource = codes "resource"
spelling word.Func = codes "func"
spelling word.Static = codes "static"
spelling word.Constructor = codes "constructor"
spelling word.Import = codes "import"
spelling word.Export = codes "export"
spelling word.Include = codes "include"
spelling word.List = codes "list"
spelling word.Option = codes "option"
spelling word.Result = codes "result"
spelling word.Tuple = codes "tuple"
spelling word.Own = codes "own"
spelling word.Borrow = codes "borrow"
spelling word.Bool = codes "bool"
spelling word.S8 = codes "s8"
spelling word.S16 = codes "s16"
spelling word.S32 = codes "s32"
spelling word.S64 = codes "s64"
spelling word.U8 = codes "u8"
spelling word.U16 = codes "u16"
spelling word.U32 = codes "u32"
spelling word.U64 = codes "u64"
spelling word.F32 = codes "f32"
spelling word.F64 = codes "f64"
spelling word.Char = codes "char"
spelling word.String = codes "string"
spelling word.Stream = codes "stream"
spelling word.Future = codes "future"
spelling word.Async = codes "async"
spelling word.From = codes "from"

-- every keyword (those of forms that this project does not read included: its own choice)
abbrev pub keywords : List Keyword
keywords =
    word.Package ∷ word.Interface ∷ word.World ∷ word.Use ∷ word.As ∷ word.Type ∷ word.Record ∷
    word.Variant ∷ word.Enum ∷ word.Flags ∷ word.Resource ∷ word.Func ∷ word.Static ∷
    word.Constructor ∷ word.Import ∷ word.Export ∷ word.Include ∷ word.List ∷ word.Option ∷
    word.Result ∷ word.Tuple ∷ word.Own ∷ word.Borrow ∷ word.Bool ∷ word.S8 ∷ word.S16 ∷
    word.S32 ∷ word.S64 ∷ word.U8 ∷ word.U16 ∷ word.U32 ∷ word.U64 ∷ word.F32 ∷ word.F64 ∷
    word.Char ∷ word.String ∷ word.Stream ∷ word.Future ∷ word.Async ∷ word.From ∷ []

-- whether a keyword has so many letters, and begins with this one
abbrev pub begins : ℕ → ℕ → Keyword → Bool
begins n b k = (length (spelling k) == n) && (get_or (spelling k) 0 0 == b)

-- those with so many letters that begin with this one
abbrev pub keywords_that_begin : ℕ → ℕ → List Keyword
keywords_that_begin n b = filter (begins n b) keywords

-- the keyword that a word is, if it is one
unfoldable pub keyword_of : List ℕ → Option Keyword
keyword_of text = find (λ k. bytes_eq (spelling k) text) keywords
