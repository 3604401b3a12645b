pub use Rattle.cm_tool_files.specs as cm_tool_files
pub mod Statuses
