-- Slices side by side and the lists that they describe, on both sides of every boundary: tables, each proved by computation.
use Prim.Native.Nat.{ℕ}
use mathlib.Core.Path.{◌≡◌, refl}
use mathlib.Core.Bool.{Bool, true, false}
use mathlib.Core.List.{List, [], ◌∷◌, map}
use Rattle.octets.specs.Length.{encode_length}
use Rattle.octets.specs.Number.{octets}
use Rattle.octets.specs.Area.{Outcome, done, refused, written}
use Rattle.octets.specs.Frame.{opening, openable, sent}
use Rattle.octets.specs.declared.Access.TheVariants as a
use Rattle.octets.specs.declared.Form.TheVariants as f
use Rattle.tags.specs.Entry.{Keyed, Held}
use Rattle.lists.specs.Handed.{agrees, keys_of, held_of, belong, keys_sent, memories_sent}

-- ---- slices that belong together

-- two tags whose data are parts of three octets
abbrev parts : List ℕ → List ℕ → Bool
parts starts lengths = belong f.Plain (5 ∷ 6 ∷ []) [] starts lengths (1 ∷ 2 ∷ 3 ∷ [])

abbrev tests : List (Bool × Bool)
tests =
    -- passwords for none, and for every tag
    (agrees f.Plain 2 0, true)
    ∷ (agrees f.Plain 2 1, false)
    ∷ (agrees f.Plain 2 2, false)
    ∷ (agrees f.Password 2 2, true)
    ∷ (agrees f.Password 2 1, false)
    ∷ (agrees f.Password 2 3, false)
    ∷ (agrees f.Password 2 0, false)
    ∷ (agrees f.Password 0 0, true)
    -- a start and a length for every tag
    ∷ (parts (0 ∷ 1 ∷ []) (1 ∷ 2 ∷ []), true)
    ∷ (parts (0 ∷ []) (1 ∷ 2 ∷ []), false)
    ∷ (parts (0 ∷ 1 ∷ 2 ∷ []) (1 ∷ 2 ∷ []), false)
    ∷ (parts (0 ∷ 1 ∷ []) (1 ∷ []), false)
    ∷ (parts (0 ∷ 1 ∷ []) (1 ∷ 2 ∷ 0 ∷ []), false)
    -- a part that ends behind the octets, the first, the last; an empty one at their end, and behind it
    ∷ (parts (1 ∷ 0 ∷ []) (3 ∷ 1 ∷ []), false)
    ∷ (parts (0 ∷ 1 ∷ []) (1 ∷ 3 ∷ []), false)
    ∷ (parts (0 ∷ 3 ∷ []) (3 ∷ 0 ∷ []), true)
    ∷ (parts (0 ∷ 4 ∷ []) (3 ∷ 0 ∷ []), false)
    -- passwords, of memory data
    ∷ (belong f.Plain (5 ∷ []) (7 ∷ []) (0 ∷ []) (0 ∷ []) [], false)
    ∷ (belong f.Password (5 ∷ []) (7 ∷ []) (0 ∷ []) (0 ∷ []) [], true)
    ∷ (belong f.Password (5 ∷ []) [] (0 ∷ []) (0 ∷ []) [], false)
    ∷ []

pub tests-hold : map (λ (x : Bool × Bool). x.0) tests ≡ map (λ (x : Bool × Bool). x.1) tests
unfolding agrees belong
tests-hold = refl

-- ---- the entries, in their order: a password with its tag, the parts in any order of the octets

abbrev keys : List (List Keyed × List Keyed)
keys =
    (keys_of f.Plain (5 ∷ 6 ∷ []) [], (5, a.Plain) ∷ (6, a.Plain) ∷ [])
    ∷ (keys_of f.Password (5 ∷ 6 ∷ []) (7 ∷ 8 ∷ []), (5, a.Password 7) ∷ (6, a.Password 8) ∷ [])
    ∷ (keys_of f.Password [] [], [])
    ∷ []

pub keys-hold : map (λ (x : List Keyed × List Keyed). x.0) keys ≡ map (λ (x : List Keyed × List Keyed). x.1) keys
keys-hold = refl

abbrev held : List (List Held × List Held)
held =
    (held_of f.Plain (5 ∷ 6 ∷ []) [] (1 ∷ 0 ∷ []) (2 ∷ 1 ∷ []) (1 ∷ 2 ∷ 3 ∷ []), ((5, a.Plain), 2 ∷ 3 ∷ []) ∷ ((6, a.Plain), 1 ∷ []) ∷ [])
    ∷ (held_of f.Password (5 ∷ []) (7 ∷ []) (0 ∷ []) (0 ∷ []) (1 ∷ []), ((5, a.Password 7), []) ∷ [])
    ∷ []

pub held-hold : map (λ (x : List Held × List Held). x.0) held ≡ map (λ (x : List Held × List Held). x.1) held
held-hold = refl

-- ---- what the writers leave: 16 for slices that describe nothing, also in an area that is too short; then 300; then the list

abbrev leaves : List ((Outcome × List ℕ) × (Outcome × List ℕ))
leaves =
    (keys_sent f.Plain 1 5 [] [] (7 ∷ 7 ∷ 7 ∷ 7 ∷ 7 ∷ 7 ∷ 7 ∷ []), (done 6, 0x10 ∷ 1 ∷ 5 ∷ 0 ∷ 1 ∷ 0 ∷ 7 ∷ []))
    ∷ (keys_sent f.Plain 1 5 [] [] (7 ∷ 7 ∷ 7 ∷ 7 ∷ 7 ∷ []), (refused 300, 7 ∷ 7 ∷ 7 ∷ 7 ∷ 7 ∷ []))
    ∷ (keys_sent f.Plain 1 5 [] (1 ∷ []) (7 ∷ []), (refused 16, 7 ∷ []))
    ∷ (memories_sent f.Plain 1 6 [] [] [] [] [] (7 ∷ 7 ∷ 7 ∷ 7 ∷ 7 ∷ 7 ∷ 7 ∷ []), (done 6, 0x10 ∷ 1 ∷ 6 ∷ 0 ∷ 1 ∷ 0 ∷ 7 ∷ []))
    ∷ (memories_sent f.Plain 1 6 [] [] [] [] [] (7 ∷ 7 ∷ 7 ∷ 7 ∷ 7 ∷ []), (refused 300, 7 ∷ 7 ∷ 7 ∷ 7 ∷ 7 ∷ []))
    ∷ (memories_sent f.Plain 1 6 [] [] (0 ∷ []) [] [] (7 ∷ []), (refused 16, 7 ∷ []))
    ∷ []

pub leaves-hold : map (λ (x : (Outcome × List ℕ) × (Outcome × List ℕ)). x.0) leaves ≡ map (λ (x : (Outcome × List ℕ) × (Outcome × List ℕ)). x.1) leaves
unfolding keys_sent memories_sent agrees belong sent written openable opening encode_length octets
leaves-hold = refl
