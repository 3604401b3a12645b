use Rattle.cm_machine_parts.proofs.Tables.{handles_set, length_handles}
use Rattle.cm_machine_parts.proofs.Standing.{table_read}
use Rattle.cm_machine_parts.proofs.laws.tables_are_handles.Goals as goal
use Rattle.cm_machine_model.proofs.StateLaws.{table_other, table_same}

pub returns : goal.returns
returns c = record { changed = handles_set; read = table_read; same = table_same; other = table_other; count = length_handles }
