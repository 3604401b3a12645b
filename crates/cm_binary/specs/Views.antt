-- What the code's types say, as plain records.
use Rattle.std.specs.Prelude.{map}
use Rattle.cm_binary_model.specs.Trees.{section_tree}
use Rattle.cm_binary.specs.declared.front.Front.{Front}
use Rattle.cm_binary.specs.Progress.{Progress}

abbrev pub progress : Front → Progress
progress f = record {
  next = f.next;
  sections = map section_tree f.sections.items;
  offset = f.offset;
  room = f.room;
}
