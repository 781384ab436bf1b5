-- The password of an entry at its boundaries, by computation. Document 01, 'Tags': "Any 8 octets may be a password, all zeros too."
use mathlib.Core.Path.{◌≡◌, refl}
use mathlib.Core.Bool.{Bool, true, false}
use mathlib.Core.List.{List, [], ◌∷◌, map}
use Rattle.octets.specs.declared.Access.TheVariants as a
use Rattle.octets.specs.declared.Form.TheVariants as f
use Rattle.tags.specs.Entry.{form_of, lock_size, lock}

-- ---- which accesses each form can hold

abbrev locks : List (Bool × Bool)
locks =
    ((lock f.Plain).fits a.Plain, true)
    ∷ ((lock f.Plain).fits (a.Password 0), false)
    ∷ ((lock f.Password).fits a.Plain, false)
    ∷ ((lock f.Password).fits (a.Password 0), true)
    ∷ ((lock f.Password).fits (a.Password 0xFFFFFFFFFFFFFFFF), true)
    ∷ ((lock f.Password).fits (a.Password 0x10000000000000000), false)
    -- an access has the one form that can hold it, the password of all zeros too
    ∷ ((lock (form_of a.Plain)).fits a.Plain, true)
    ∷ ((lock (form_of (a.Password 0))).fits (a.Password 0), true)
    ∷ []

pub locks-hold : map (λ (x : Bool × Bool). x.0) locks ≡ map (λ (x : Bool × Bool). x.1) locks
locks-hold = refl

-- ---- how many octets a password takes

pub lock-sizes : map lock_size (f.Plain ∷ f.Password ∷ []) ≡ 0 ∷ 8 ∷ []
lock-sizes = refl
