-- A slot, and the eight words of its row: the tag, where its area starts, the area's size, the held length, mode and SPF, whether there is a password, the password,
-- and a word that is zero. A row that is not used has the words of the empty slot, which are zero.
use Rattle.std.specs.Prelude.{ℕ, zero, suc, ◌+◌, ◌-◌, ◌*◌, ◌/◌, min, false, cond, List, [], ◌∷◌, length, get_or, set, eqb, leb, ltb, Option, Some, None}
use Rattle.octets.specs.declared.Access.{Access}
use Rattle.octets.specs.declared.Access.TheVariants.{Plain, Password}
use Rattle.admission.specs.Mode.{mode_code, code_spf, code_mode}
use Rattle.admission.specs.declared.Mode.TheVariants.{Both}
use Rattle.rows.specs.declared.Slot.{Slot}
use Rattle.rows.specs.Image.{closed}

-- the number by which a slot is found: its tag
abbrev pub slot_tag : Slot → ℕ
slot_tag s = s.about.tag

-- the slot of a row that is not used
abbrev pub empty : Slot
empty = record { about = record { tag = 0; size = 0; mode = Both; spf = false; lock = Plain }; at = 0; held = 0 }

-- ---- from slots to words

-- "Any 8 octets may be a password, all zeros too": whether there is one is a word of its own
abbrev pub lock_word : Access → ℕ
lock_word Plain = 0
lock_word (Password p) = 1

-- and the password is the next; none is zero there
abbrev pub password_word : Access → ℕ
password_word Plain = 0
password_word (Password p) = p

-- the words of a slot, in the order above
unfoldable pub words : Slot → List ℕ
words s =
    s.about.tag
    ∷ s.at
    ∷ s.about.size
    ∷ s.held
    ∷ mode_code s.about.mode s.about.spf
    ∷ lock_word s.about.lock
    ∷ password_word s.about.lock
    ∷ 0
    ∷ []

-- ---- and back

-- the lock that the two words of it stand for
abbrev pub lock_of : ℕ → ℕ → Access
lock_of l p = cond (eqb l 0) Plain (Password p)

-- the slot that the eight words from j on stand for
unfoldable pub slot_in : List ℕ → ℕ → Slot
slot_in t j = record {
  about = record {
    tag = get_or t j 0;
    size = get_or t (j + 2) 0;
    mode = code_mode (get_or t (j + 4) 0);
    spf = code_spf (get_or t (j + 4) 0);
    lock = lock_of (get_or t (j + 5) 0) (get_or t (j + 6) 0);
  };
  at = get_or t (j + 1) 0;
  held = get_or t (j + 3) 0;
}

-- the slot in row i; past the table, the empty one
unfoldable pub slot_at : List ℕ → ℕ → Slot
slot_at t i = cond (leb (i * 8 + 8) (length t)) (slot_in t (i * 8)) empty

-- the table with another held length in row i; past the table, as it was
unfoldable pub with_held : List ℕ → ℕ → ℕ → List ℕ
with_held t i n = cond (leb (i * 8 + 8) (length t)) (set t (i * 8 + 3) n) t

-- ---- finding a row

-- how many of `count` rows the table has
abbrev pub rows_in : List ℕ → ℕ → ℕ
rows_in t count = min count (length t / 8)

-- the first of the n rows from k on whose tag is x
unfoldable pub scan : List ℕ → ℕ → ℕ → ℕ → Option ℕ
scan t x k zero = None
scan t x k (suc n) = cond (eqb (get_or t (k * 8) 0) x) (Some k) (scan t x (suc k) n)

-- ---- a row goes

-- a place behind `at` comes down by n; any other stays
abbrev pub low : ℕ → ℕ → ℕ → ℕ
low at n a = cond (ltb at a) (a - n) a

-- so do the places in the words of the first k rows
unfoldable pub sunk : ℕ → ℕ → List ℕ → ℕ → List ℕ
sunk at n t zero = t
sunk at n t (suc k) = set (sunk at n t k) (k * 8 + 1) (low at n (get_or (sunk at n t k) (k * 8 + 1) 0))

-- row i of `count` goes: the rows behind it move up, the last is zero, and the areas behind its area start earlier by its size
unfoldable pub removed : List ℕ → ℕ → ℕ → List ℕ
removed t count i =
    cond (ltb i count)
    (cond (leb (count * 8) (length t))
    (sunk (slot_in t (i * 8)).at (slot_in t (i * 8)).about.size (closed t (i * 8) 8 (count * 8)) (count - 1))
    t)
    t
