pub use Rattle.cm_tool_commands.specs as cm_tool_commands
