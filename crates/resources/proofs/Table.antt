-- Mode codes, and slices side by side with what they tell of tags, on both sides of every boundary: tables, each proved by computation.
use mathlib.Core.Path.{◌≡◌, refl}
use mathlib.Core.Bool.{Bool, true, false}
use mathlib.Core.List.{List, [], ◌∷◌, map}
use Rattle.resources.specs.Resource.{mode_known, every_mode, alongside, resources_of}

abbrev tests : List (Bool × Bool)
tests =
    -- three bits: reading prohibited, writing prohibited, SPF required; both prohibited is no mode
    (mode_known 0, true)
    ∷ (mode_known 1, true)
    ∷ (mode_known 2, true)
    ∷ (mode_known 3, false)
    ∷ (mode_known 4, true)
    ∷ (mode_known 5, true)
    ∷ (mode_known 6, true)
    ∷ (mode_known 7, false)
    -- a bit that the tables reserve
    ∷ (mode_known 8, false)
    ∷ (mode_known 128, false)
    -- no code, the first is none, the last
    ∷ (every_mode [], true)
    ∷ (every_mode (6 ∷ 0 ∷ []), true)
    ∷ (every_mode (3 ∷ 0 ∷ []), false)
    ∷ (every_mode (0 ∷ 3 ∷ []), false)
    -- a mode, a data size and an area size for every tag
    ∷ (alongside (5 ∷ []) (0 ∷ []) (0 ∷ []) (0 ∷ []), true)
    ∷ (alongside (5 ∷ []) [] (0 ∷ []) (0 ∷ []), false)
    ∷ (alongside (5 ∷ []) (0 ∷ 0 ∷ []) (0 ∷ []) (0 ∷ []), false)
    ∷ (alongside (5 ∷ []) (0 ∷ []) [] (0 ∷ []), false)
    ∷ (alongside (5 ∷ []) (0 ∷ []) (0 ∷ 0 ∷ []) (0 ∷ []), false)
    ∷ (alongside (5 ∷ []) (0 ∷ []) (0 ∷ []) [], false)
    ∷ (alongside (5 ∷ []) (0 ∷ []) (0 ∷ []) (0 ∷ 0 ∷ []), false)
    ∷ (alongside [] [] [] [], true)
    ∷ []

pub tests-hold : map (λ (x : Bool × Bool). x.0) tests ≡ map (λ (x : Bool × Bool). x.1) tests
unfolding mode_known alongside
tests-hold = refl

-- the entries, in their order
pub entries-hold : resources_of (5 ∷ 6 ∷ []) (0 ∷ 1 ∷ []) (2 ∷ 3 ∷ []) (8 ∷ 9 ∷ [])
    ≡ record { tag = 5; mode = 0; held = 2; size = 8 } ∷ record { tag = 6; mode = 1; held = 3; size = 9 } ∷ []
entries-hold = refl
