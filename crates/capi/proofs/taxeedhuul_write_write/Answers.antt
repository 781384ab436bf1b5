use Rattle.capi.proofs.Short.{request-short}
use Rattle.capi.proofs.taxeedhuul_write_write.Goals as goal

pub of_written-requires : goal.of_written-requires
of_written-requires c = request-short _ _ c.write_write.ensures
