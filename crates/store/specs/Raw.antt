-- What the private functions do, by the words of the table and the octets of the memory: where a tag is found, what a write leaves, and the head of a new tag.
use Rattle.std.specs.Prelude.{ℕ, ◌+◌, ◌-◌, List, length, replicate, Option, Some, None}
use Rattle.std.proofs.lemmas.List.Edits.{sets}
use Rattle.octets.specs.Number.{bare}
use Rattle.admission.specs.Want.{Known}
use Rattle.admission.specs.Want as k
use Rattle.admission.specs.declared.Head.{Head}
use Rattle.rows.specs.Row.{slot_at, rows_in, scan}

-- the row of a tag, its six ignored bits as zero
abbrev pub row_of : Head → List ℕ → ℕ → Option ℕ
row_of h t x = scan t (bare x) 0 (rows_in t h.count)

-- what is fixed of the tag in a row
abbrev pub known_at : List ℕ → Option ℕ → Known
known_at t (Some i) = k.Tag (slot_at t i).about
known_at t None = k.Nothing

-- the memory with the data at the start of an area, and zeros up to the end of what was held there
unfoldable pub overwritten : List ℕ → ℕ → ℕ → List ℕ → List ℕ
overwritten pool at held xs = sets (sets pool at xs) (at + length xs) (replicate (held - length xs) 0)

-- the head with one tag more
abbrev pub head_with : Head → ℕ → Head
head_with h n = record {
  limits = h.limits;
  version = h.version;
  allocation = h.allocation;
  passwords = h.passwords;
  count = h.count + 1;
  used = h.used + n;
}
