use Rattle.cm_binary_forms.proofs.sections.read_contents.Goals as goal

pub returns-in-Custom : goal.returns-in-Custom
returns-in-Custom c = rw c.in-Custom.is (c.read_custom_section.ensures c.args.room)

pub returns-in-CoreModule : goal.returns-in-CoreModule
returns-in-CoreModule c = rw c.in-CoreModule.is (c.read_core_module_section.ensures c.args.room)
