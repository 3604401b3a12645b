-- The bytes of strings and lists in values of a host, whose strings are in UTF-8 (the limit on them
-- is this project's own choice).
use Rattle.std.specs.Prelude.{◌≡◌, ℕ, ◌+◌, ◌<◌, List, [], Option, Some, None}
use Rattle.cm_abi_model.specs.declared.encoding.StringEncoding.TheVariants.{Utf8}
use Rattle.cm_abi_model.specs.Parts.{Part}
use Rattle.cm_abi_requests.specs.Asking.{content_of_parts}

-- how many bytes the strings and lists are that parts are
abbrev pub content_in : List Part → ℕ
content_in parts = content_of_parts Utf8 [] parts

-- What is left of so many bytes once another so many are taken: none where that is too little.
abbrev pub Leaves : ℕ → ℕ → Option ℕ → Type 0
Leaves all taken None = all < taken
Leaves all taken (Some rest) = rest + taken ≡ all
