-- What the slices that were found to belong together describe.
use Rattle.std.specs.Prelude.{ℕ, List, length, Option}
use Rattle.tags.specs.Entry.{Keyed, Held}
use Rattle.lists.specs.Handed.{keys_of, held_of, Measured}
use Rattle.lists.specs.declared.slices.Keys.{Keys}
use Rattle.lists.specs.declared.slices.Memories.{Memories}

-- the tags, each with how the right to it is shown
abbrev pub keys_in : Keys → List Keyed
keys_in k = keys_of k.form k.tags.now k.passwords.now

-- the memory data
abbrev pub memories_in : Memories → List Held
memories_in m = held_of m.keys.form m.keys.tags.now m.keys.passwords.now m.starts.now m.lengths.now m.src.now

-- what a list of it will take
abbrev pub MeasuredIn : Memories → Option ℕ → Type 0
MeasuredIn m =
    Measured m.keys.form m.keys.tags.now m.keys.passwords.now m.starts.now m.lengths.now m.src.now (length m.keys.tags.now)
