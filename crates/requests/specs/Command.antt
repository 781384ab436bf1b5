-- The table of operations (document 01, 'Messages'): seven, of which six are plain or with a password; with a password the number is 64 more.
use Rattle.std.specs.Prelude.{ℕ, ◌+◌, ◌-◌, Bool, ◌&&◌, ◌||◌, cond, List, [], ◌∷◌, get_or, leb}
use Rattle.octets.specs.declared.Form.{Form}
use Rattle.octets.specs.declared.Form.TheVariants as f

-- "Such a request is one of seven operations, six of them plain or with a password"
pub data Command : Type 0 where
  resource_information : Command
  allocate : Command
  free : Command
  read : Command
  write : Command
  bulk_read : Command
  bulk_write : Command

-- the table's column 'Plain'
abbrev pub command_number : Command → ℕ
command_number resource_information = 0
command_number allocate = 1
command_number free = 2
command_number read = 3
command_number write = 4
command_number bulk_read = 5
command_number bulk_write = 6

-- with a password 64 more: the column 'With password', from 65 to 70
abbrev pub form_number : Form → ℕ
form_number f.Plain = 0
form_number f.Password = 64

-- the operation type
abbrev pub kind_of : Command → Form → ℕ
kind_of c w = command_number c + form_number w

-- the operation type stands in the table: not "7 to 64 and 71 to 255", nor more than an octet holds
unfoldable pub known : ℕ → Bool
known kind = leb kind 6 || (leb 65 kind && leb kind 70)

-- the column of an operation type
abbrev pub form_at : ℕ → Form
form_at kind = cond (leb 65 kind) f.Password f.Plain

-- the table's lines, from 0 on
abbrev pub commands : List Command
commands = resource_information ∷ allocate ∷ free ∷ read ∷ write ∷ bulk_read ∷ bulk_write ∷ []

-- the line of an operation type
abbrev pub command_at : ℕ → Command
command_at kind = get_or commands (cond (leb 65 kind) (kind - 64) kind) resource_information
