use Rattle.octets.specs.Frame.{sent, encode, writable}
use Rattle.requests.specs.Command.{known}
use Rattle.requests.specs.Request.{request_body}
use Rattle.requests.proofs.write_write.Goals as goal

pub returns-in-Plain : goal.returns-in-Plain
unfolding sent encode writable request_body known
returns-in-Plain c =
    rw c.in-Plain.is (rw c.in-Plain.is at c.write_memory.ensures)

pub returns-in-Password : goal.returns-in-Password
unfolding sent encode writable request_body known
returns-in-Password c =
    rw c.in-Password.is (rw c.in-Password.is at c.write_memory-in-Password.ensures)
