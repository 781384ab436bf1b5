-- The entries that name a tag (document 01, 'Messages'): a tag with password is tag, then password; memory data is tag, length, data, with password tag, password,
-- length, data. Plain and with password are one definition over the form.
use Rattle.std.specs.Prelude.{ℕ, ◌^◌, Bool, true, false, List, [], ltb}
use Rattle.octets.specs.Reading.{ok, and_then}
use Rattle.octets.specs.Number.{octets, decode_number}
use Rattle.octets.specs.Layout.{Layout, numeral, data', seq}
use Rattle.octets.specs.declared.Access.{Access}
use Rattle.octets.specs.declared.Access.TheVariants as a
use Rattle.octets.specs.declared.Form.{Form}
use Rattle.octets.specs.declared.Form.TheVariants as f

-- the form of an access
abbrev pub form_of : Access → Form
form_of a.Plain = f.Plain
form_of (a.Password p) = f.Password

-- no password
abbrev pub is_plain : Access → Bool
is_plain a.Plain = true
is_plain (a.Password p) = false

-- the password; none is written for a plain access
abbrev pub secret : Access → ℕ
secret a.Plain = 0
secret (a.Password p) = p

-- a password of eight octets: "Any 8 octets may be a password, all zeros too."
abbrev pub is_password : Access → Bool
is_password a.Plain = false
is_password (a.Password p) = ltb p (256 ^ 8)

-- how many octets the password of each form takes
abbrev pub lock_size : Form → ℕ
lock_size f.Plain = 0
lock_size f.Password = 8

-- the password, of eight octets, where the form has one
abbrev pub lock : Form → Layout Access
lock f.Plain = record { put = λ x. []; get = λ l. ok a.Plain l; fits = is_plain }
lock f.Password = record { put = λ x. octets 8 (secret x); get = λ l. and_then (decode_number 8 l) (λ p r. ok (a.Password p) r); fits = is_password }

-- a tag, and how the right to it is shown
abbrev pub Keyed : Type 0
Keyed = ℕ × Access

-- such a tag, and data
abbrev pub Held : Type 0
Held = Keyed × List ℕ

-- "A tag with password is tag, then password." (3.2-28); plain it is the tag
abbrev pub key : Form → Layout Keyed
key w = seq (numeral 8) (lock w)

-- "Memory data is tag, length, data; with password it is tag, password, length, data." (3.2-15, 3.2-33)
abbrev pub memory : Form → Layout Held
memory w = seq (key w) data'
