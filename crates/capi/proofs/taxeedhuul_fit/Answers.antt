use Rattle.std.proofs.Common.{w32}
use Rattle.std.proofs.Math.Facts.{to_z-of_z}
use Rattle.capi.proofs.taxeedhuul_fit.Goals as goal

pub returns : goal.returns
returns c = rw (to_z-of_z {w = w32} {z = c.told.result} (record { sfits = c.told.type_inv }), c.told.ensures) c.fit.ensures
