use Rattle.cm_tool_help_types.proofs.counted.+count_type.Given as goal

abbrev pub decreases-count_type : goal.decreases-count_type
decreases-count_type l = l.place
