-- Files (WIT.md, `wit-file`). The line of a package stands before all else.
use Rattle.std.specs.Prelude.{Bool, List, [], ◌∷◌, Some, None}
use Rattle.cm_wit_tokens.specs.declared.keyword.Keyword.TheVariants as word
use Rattle.cm_wit_tokens.specs.declared.operator.Operator.TheVariants as operator
use Rattle.cm_wit_tokens.specs.Forms.{is_keyword, is_operator}
use Rattle.cm_wit_tokens.specs.Grammar.{Grammar, done, ◌>>=◌, token, chosen}
use Rattle.cm_wit_tokens.specs.Lists.{members}
use Rattle.cm_wit_tokens.specs.Parts.{expect, expect_word, identifier}
use Rattle.cm_wit_reading.specs.Signatures.{optional_version, path}
use Rattle.cm_wit_reading.specs.Interfaces.{braced, ended, new_name}
use Rattle.cm_wit_projects_reading.specs.declared.heads.FileHead.{FileHead}
use Rattle.cm_wit_projects_reading.specs.declared.heads.FileHead.TheVariants as file_is
use Rattle.cm_wit_projects_reading.specs.declared.heads.PackageHead.{PackageHead}
use Rattle.cm_wit_projects_reading.specs.declared.heads.PackageHead.TheVariants as package_is
use Rattle.cm_wit_projects_reading.specs.Gates.{gated}
use Rattle.cm_wit_projects_reading.specs.Heads.{file_head, package_head}
use Rattle.cm_wit_projects_reading.specs.Interfaces.{interface_rest}
use Rattle.cm_wit_projects_reading.specs.LeftOut.{placed}
use Rattle.cm_wit_projects_reading.specs.Trees.{Gated, PackageName, TopUse, PackageItem, top_use}
use Rattle.cm_wit_projects_reading.specs.Trees.{interface, world, NestedPackage, FileItem, item}
use Rattle.cm_wit_projects_reading.specs.Trees.{nested, File, Placed, First, line, body}
use Rattle.cm_wit_projects_reading.specs.Worlds.{world_rest}

-- id `:` id [`@` version]
abbrev pub package_name : Grammar PackageName
package_name =
    identifier >>= λ ns. expect operator.Colon >>= λ _. identifier >>= λ name.
    optional_version >>= λ v. done (record { namespace = ns; name = name; version = v })

-- path [`as` id] `;`
abbrev pub top_use_rest : Grammar TopUse
top_use_rest =
    path >>= λ p. ended new_name >>= λ new. done (record { path = p; new_name = new })

-- an item of a package, by its first token
abbrev pub package_item_rest : PackageHead → Grammar PackageItem
package_item_rest package_is.Use = top_use_rest >>= λ u. done (top_use u)
package_item_rest package_is.Interface = interface_rest >>= λ i. done (interface i)
package_item_rest package_is.World = world_rest >>= λ w. done (world w)

abbrev pub package_item : Bool → Grammar PackageItem
package_item has_gates = token (package_head has_gates) >>= λ h. package_item_rest h

-- `{` {gates item} `}`
abbrev pub package_items : Grammar (List (Gated PackageItem))
package_items = braced (members (gated package_item))

abbrev pub nested_rest : Grammar NestedPackage
nested_rest =
    package_name >>= λ name. package_items >>= λ xs. done (record { name = name; items = xs })

-- an item of a file, by its first token
abbrev pub file_item_rest : FileHead → Grammar FileItem
file_item_rest (file_is.Item h) = package_item_rest h >>= λ x. done (item x)
file_item_rest file_is.Package = nested_rest >>= λ p. done (nested p)

abbrev pub file_item : Bool → Grammar FileItem
file_item has_gates = token (file_head has_gates) >>= λ h. file_item_rest h

abbrev pub file_items : Grammar (List (Gated FileItem))
file_items = members (gated file_item)

-- what stands first in a file that begins with `package`: the line of its package, or a package in
-- braces
abbrev pub first_rest : PackageName → Grammar First
first_rest name =
    chosen (is_operator operator.LeftBrace)
    (package_items >>= λ xs. done (body (record { name = name; items = xs })))
    (expect operator.Semicolon >>= λ _. done (line name))

abbrev pub first : Grammar First
first = expect_word word.Package >>= λ _. package_name >>= λ name. first_rest name

abbrev pub file_from : Placed First → List (Gated FileItem) → File
file_from (place, line name) xs = record { pkg = Some name; items = xs }
file_from (place, body p) xs =
    record { pkg = None; items = record { gates = []; item = (place, nested p) } ∷ xs }

abbrev pub file_behind : Placed First → Grammar File
file_behind x = file_items >>= λ xs. done (file_from x xs)

-- [`package` package-name `;`] {gates item}
abbrev pub file : Grammar File
file =
    chosen (is_keyword word.Package)
    (placed first >>= λ x. file_behind x)
    (file_items >>= λ xs. done (record { pkg = None; items = xs }))
