-- Files (WIT.md, `wit-file`). That a file begins with the name of its package is this project's own
-- choice.
use Rattle.cm_wit_tokens.specs.declared.operator.Operator.TheVariants as operator
use Rattle.cm_wit_tokens.specs.Grammar.{Grammar, done, ◌>>=◌, token}
use Rattle.cm_wit_tokens.specs.Lists.{members}
use Rattle.cm_wit_tokens.specs.Parts.{expect, identifier}
use Rattle.cm_wit_reading.specs.Signatures.{optional_version}
use Rattle.cm_wit_reading.specs.declared.heads.FileHead.{FileHead}
use Rattle.cm_wit_reading.specs.declared.heads.FileHead.TheVariants as file_is
use Rattle.cm_wit_reading.specs.Heads.{file_head, package_head}
use Rattle.cm_wit_reading.specs.Interfaces.{interface_rest}
use Rattle.cm_wit_reading.specs.Worlds.{world_rest}
use Rattle.cm_wit_reading.specs.Trees.{FileItem, interface, world, File}

-- an interface or a world, by its first token
abbrev pub file_item_rest : FileHead → Grammar FileItem
file_item_rest file_is.Interface = interface_rest >>= λ i. done (interface i)
file_item_rest file_is.World = world_rest >>= λ w. done (world w)

abbrev pub file_item : Grammar FileItem
file_item = token file_head >>= λ h. file_item_rest h

-- `package` id `:` id [`@` version] `;` {item}
abbrev pub file : Grammar File
file =
    token package_head >>= λ _. identifier >>= λ ns. expect operator.Colon >>= λ _.
    identifier >>= λ pkg. optional_version >>= λ v. expect operator.Semicolon >>= λ _.
    members file_item >>= λ xs.
    done (record { namespace = ns; pkg = pkg; version = v; items = xs })
