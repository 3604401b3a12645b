-- The declarations and instances that the code's are.
use Rattle.std.specs.Option.{option_map}
use Rattle.cm_names.specs.Keys.{key_view}
use Rattle.cm_wit_reading.specs.Views.{type_def_tree}
use Rattle.cm_wit_tables.specs.Declarations.{Declared, Declaration, brought, defined}
use Rattle.cm_wit_tables.specs.Worlds.{Instance}
use Rattle.cm_wit_tables.specs.declared.declarations.Declared as code_declared
use Rattle.cm_wit_tables.specs.declared.declarations.Declared.TheVariants as is
use Rattle.cm_wit_tables.specs.declared.declarations.Declaration as code_declaration
use Rattle.cm_wit_tables.specs.declared.declarations.Instance as code_instance

abbrev pub declared_view : code_declared.Declared → Declared
declared_view (is.Brought key) = brought (option_map key_view key)
declared_view (is.Defined t) = defined (type_def_tree t.now)

abbrev pub declaration_view : code_declaration.Declaration → Declaration
declaration_view d = record { in_list = d.in_list; name = d.name.now; is = declared_view d.is }

abbrev pub instance_view : code_instance.Instance → Instance
instance_view x = record { exported = x.exported; interface = x.interface }
