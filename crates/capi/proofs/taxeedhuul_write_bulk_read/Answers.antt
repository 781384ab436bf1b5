use Rattle.capi.proofs.Short.{bulk-read-short}
use Rattle.capi.proofs.taxeedhuul_write_bulk_read.Goals as goal

pub of_written-requires : goal.of_written-requires
of_written-requires c = bulk-read-short _ _ _ _ _ c.write_bulk_read.ensures
