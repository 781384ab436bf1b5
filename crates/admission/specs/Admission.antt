-- Who may do what with a tag. Document 01, 'Denials and their order': the first line that applies decides. One order of the tests, 6, 12, 11, 10, 8, 9, 5,
-- is that of every operation. They look at what is fixed of the tag, at port, password and sizes; there are no stored octets to look at.
use Rattle.std.specs.Prelude.{ℕ, ◌+◌, ◌/◌, ◌%◌, ◌^◌, Bool, true, false, not, cond, eqb, leb, ltb}
use Rattle.octets.specs.declared.Access.{Access}
use Rattle.octets.specs.declared.Access.TheVariants.{Plain, Password}
use Rattle.octets.specs.declared.Port.{Port}
use Rattle.octets.specs.declared.Port.TheVariants.{Normal, Secure}
use Rattle.admission.specs.Want.{Known, Tag, Nothing, Want, Allocate, Fit, Free, Read, Write}
use Rattle.admission.specs.declared.Head.{Head}
use Rattle.admission.specs.declared.Mode.{Mode}
use Rattle.admission.specs.declared.Mode.TheVariants.{Both, ReadOnly, WriteOnly}
use Rattle.admission.specs.Denial.{Verdict, Allowed, Denied}

-- "bit 6 clear is gate-allocated, set is unit-managed", of the first of eight octets
unfoldable pub unit_managed : ℕ → Bool
unit_managed x = eqb (x / 2 ^ 62 % 2) 1

-- 6. Allocate: "if the tag is unit-managed or registered". Fitting: "if the tag is not unit-managed or is registered". Free: "if not registered or unit-managed".
-- Read and write: if not registered
abbrev pub tag_bars : Known → Want → Bool
tag_bars Nothing (Allocate new) = unit_managed new.tag
tag_bars Nothing (Fit new n) = not (unit_managed new.tag)
tag_bars Nothing Free = true
tag_bars Nothing Read = true
tag_bars Nothing (Write n) = true
tag_bars (Tag t) (Allocate new) = true
tag_bars (Tag t) (Fit new n) = true
tag_bars (Tag t) Free = unit_managed t.tag
tag_bars (Tag t) Read = false
tag_bars (Tag t) (Write n) = false

-- 12. Fitting: "if it has a password and passwords are not fitted"
abbrev pub lock_unfitted : Bool → Access → Bool
lock_unfitted passwords Plain = false
lock_unfitted passwords (Password p) = not passwords

-- of every want: what a command needs is told by its operation type, before it comes here
abbrev pub option_bars : Bool → Want → Bool
option_bars passwords (Allocate new) = false
option_bars passwords (Fit new n) = lock_unfitted passwords new.lock
option_bars passwords Free = false
option_bars passwords Read = false
option_bars passwords (Write n) = false

-- 11: "if SPF is required and the port is normal"
abbrev pub port_bars : Known → Port → Bool
port_bars Nothing p = false
port_bars (Tag t) Normal = t.spf
port_bars (Tag t) Secure = false

-- 10: "given if the tag has a password and the command has none or another, and also if the tag has none and the command carries one"
abbrev pub lock_bars : Access → Access → Bool
lock_bars Plain Plain = false
lock_bars Plain (Password b) = true
lock_bars (Password a) Plain = true
lock_bars (Password a) (Password b) = not (eqb a b)

-- the same of what is known of a tag; where it is not registered there is nothing to compare
abbrev pub password_bars : Known → Access → Bool
password_bars Nothing a = false
password_bars (Tag t) a = lock_bars t.lock a

-- 8. Read: "if write only". Write: "if read only". A tag of any mode may be freed
abbrev pub use_bars : Mode → Want → Bool
use_bars Both w = false
use_bars ReadOnly (Allocate new) = false
use_bars ReadOnly (Fit new n) = false
use_bars ReadOnly Free = false
use_bars ReadOnly Read = false
use_bars ReadOnly (Write n) = true
use_bars WriteOnly (Allocate new) = false
use_bars WriteOnly (Fit new n) = false
use_bars WriteOnly Free = false
use_bars WriteOnly Read = true
use_bars WriteOnly (Write n) = false

-- the same of what is known of a tag
abbrev pub mode_bars : Known → Want → Bool
mode_bars Nothing w = false
mode_bars (Tag t) w = use_bars t.mode w

-- "the size is not 1 to 1,024": below 1, or above the greatest area of the kind
abbrev pub bad_size : ℕ → ℕ → Bool
bad_size area size = cond (ltb size 1) true (ltb area size)

-- 9. Allocate: "if the size is not 1 to 1,024". Fitting: "for a bad size or data longer than it". Write: "if the data is longer than the area"
abbrev pub size_bars : ℕ → Known → Want → Bool
size_bars area k (Allocate new) = bad_size area new.size
size_bars area k (Fit new n) = cond (bad_size area new.size) true (ltb new.size n)
size_bars area k Free = false
size_bars area k Read = false
size_bars area Nothing (Write n) = false
size_bars area (Tag t) (Write n) = ltb t.size n

-- 5. Allocate: "if 32 tags exist or the sizes of all areas plus the new one exceed 8,192". Fitting: "5 as above"
abbrev pub no_room : Head → ℕ → Bool
no_room h size = cond (leb h.limits.tags h.count) true (ltb h.limits.memory (h.used + size))

-- of every want: "5 is given in no other case"
abbrev pub room_bars : Head → Want → Bool
room_bars h (Allocate new) = no_room h new.size
room_bars h (Fit new n) = no_room h new.size
room_bars h Free = false
room_bars h Read = false
room_bars h (Write n) = false

-- "The first line that applies decides." What becomes of a want, by what the unit knows of the tag, the port by which the command came, and how it shows its right
unfoldable pub admission : Head → Known → Want → Port → Access → Verdict
admission h k w p a =
    cond (tag_bars k w) (Denied 6)
    (cond (option_bars h.passwords w) (Denied 12)
    (cond (port_bars k p) (Denied 11)
    (cond (password_bars k a) (Denied 10)
    (cond (mode_bars k w) (Denied 8)
    (cond (size_bars h.limits.area k w) (Denied 9)
    (cond (room_bars h w) (Denied 5) Allowed))))))
