use Prim.Native.Nat.{◌-◌}
use native.Mathlib.Omega.{arith}
use borrow.Author.Rules.{rules}
use mathlib.Core.Path.{refl}
use lib.ListN.{length}
use Rattle.gatelog.proofs.Buffers.{front-held, none_read}
use Rattle.gatelog.proofs.read_more.Goals as goal

-- the octets at hand go to the front, and stay there while more is read behind them
pub returns : goal.returns
returns g c =
    let p = c.args.place in
    let n = p.end - p.start in
    let k = length c.copy_within.new.self - n in (
      refl,
      record {
        answered = refl;
        start = refl;
        held = front-held c.args.input.now c.copy_within.new.self c.read.new.buf p.start p.end k (omega arith) (omega arith) c.copy_within.ensures.after;
        end = (omega arith, search rules);
        filled = refl;
        handed = refl;
        last = none_read n c.match-read.more;
        going = refl;
      },
    )
