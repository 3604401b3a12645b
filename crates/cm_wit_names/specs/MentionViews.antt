-- The mentions that the code's are.
use Rattle.std.specs.Prelude.{◌≡◌, ◌++◌, [], length, map}
use Rattle.std.specs.Option.{option_map}
use Rattle.std.specs.Global.{Vec}
use Rattle.cm_types.specs.ExternNames as name
use Rattle.cm_types.specs.ExternNames.{NameTree}
use Rattle.cm_wit_reading.specs.SignatureViews.{path_tree}
use Rattle.cm_wit_reading.specs.Views.{file_tree}
use Rattle.cm_wit_names.specs.declared.mention.ListedName as declared
use Rattle.cm_wit_names.specs.declared.mention.FullName as mention_name
use Rattle.cm_wit_names.specs.declared.mention.FullName.TheVariants as full
use Rattle.cm_wit_names.specs.declared.mention.Mention as mention
use Rattle.cm_wit_names.specs.declared.mention.Reference as reference
use Rattle.cm_wit_names.specs.declared.mention.Reference.TheVariants as refers
use Rattle.cm_wit_names.specs.Mentions as spec
use Rattle.cm_wit_names.specs.FileMentions.{path_name}
use Rattle.cm_wit_names.specs.Marks.{Marks}

-- the full name that one of the code is
abbrev pub full_name : mention_name.FullName → NameTree
full_name (full.Label l) = name.plain l.now
full_name (full.Method m) = name.method [] m.now
full_name (full.Static m) = name.static [] m.now
full_name full.Constructor = name.constructor []
full_name (full.Interface file path) = path_name (file_tree file.now) (path_tree path.now)

abbrev pub declared_view : declared.ListedName → spec.ListedName
declared_view d =
    record {
      in_list = d.in_list;
      name = full_name d.name;
      is_own = d.is_own;
      after_self = d.after_self;
    }

-- the references and mentions that the code's are
abbrev pub reference_view : reference.Reference → spec.Reference
reference_view refers.Nothing = spec.no_reference
reference_view (refers.Interface text) = spec.to_interface text.now
reference_view (refers.Used interface text) = spec.to_used interface.now text.now
reference_view (refers.Type scope text) = spec.to_type scope text.now
reference_view (refers.Resource scope text) = spec.to_resource scope text.now

abbrev pub mention_view : mention.Mention → spec.Mention
mention_view m = record {
  declares = option_map declared_view m.declares;
  known = option_map (λ k. (k.0, k.1.now)) m.known;
  refers = reference_view m.refers;
  owner = m.owner;
  in_result = m.in_result;
  may_be_resource = m.may_be_resource;
}

-- The mentions of a part were added behind those that stood there.
abbrev pub Adds : Marks → Vec mention.Mention → Vec mention.Mention → Type 0
Adds marks old new =
    map mention_view new.items ≡ map mention_view old.items ++ marks (length old.items)
