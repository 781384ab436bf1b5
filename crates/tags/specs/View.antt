-- What the answers of this crate's readers say of the octets s, and where their positions lie. Together they leave one answer (proofs/Unique).
use Rattle.std.specs.Prelude.{ℕ, ◌+◌, ◌≤◌, ◌≡◌, List, length, drop}
use Rattle.octets.specs.View.{Reading, Reads, within}
use Rattle.octets.specs.declared.Access.{Access}
use Rattle.octets.specs.declared.Form.{Form}
use Rattle.tags.specs.Entry.{Keyed, Held, lock, key, memory}
use Rattle.tags.specs.declared.Key.{Key}
use Rattle.tags.specs.declared.Memory.{Memory}

-- what reading a password at a place answers, or none in a plain message: the next place lies within s
abbrev pub LockAt : List ℕ → ℕ → Form → Reading Access → Type 0
LockAt s at w = Reads ((lock w).get (drop at s)) (λ a. a) (λ t. t.next ≤ length s) s

-- a tag, and how the right to it is shown
abbrev pub keyed : Key → Keyed
keyed k = (k.tag, k.access)

-- what reading a tag at a place answers: the next place lies within s
abbrev pub KeyAt : List ℕ → ℕ → Form → Reading Key → Type 0
KeyAt s at w = Reads ((key w).get (drop at s)) keyed (λ t. t.next ≤ length s) s

-- such a tag, and its data, which stands in s
abbrev pub held : List ℕ → Memory → Held
held s m = ((m.tag, m.access), within s m.span)

-- what reading memory data at a place answers: the next place is the data's end, and lies within s
abbrev pub MemoryAt : List ℕ → ℕ → Form → Reading Memory → Type 0
MemoryAt s at w = Reads ((memory w).get (drop at s)) (held s) (λ t. (t.value.span.start + t.value.span.len ≡ t.next) × (t.next ≤ length s)) s
