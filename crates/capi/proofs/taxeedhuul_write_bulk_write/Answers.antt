use Rattle.capi.proofs.Short.{bulk-write-short}
use Rattle.capi.proofs.taxeedhuul_write_bulk_write.Goals as goal

pub of_written-requires : goal.of_written-requires
of_written-requires c = bulk-write-short _ _ _ _ _ _ _ _ c.write_bulk_write.ensures
