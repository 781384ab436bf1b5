-- Verdicts on both sides of every boundary of document 01, 'Denials and their order', and where more than one number applies; and the six codes of modes. Two tables,
-- each proved by computation.
use Prim.Native.Nat.{ℕ}
use mathlib.Core.Bool.{Bool, true, false}
use mathlib.Core.List.{List, [], ◌∷◌, map}
use mathlib.Core.Path.{◌≡◌, refl}
use Rattle.octets.specs.declared.Access.{Access}
use Rattle.octets.specs.declared.Access.TheVariants.{Plain, Password}
use Rattle.octets.specs.declared.Port.{Port}
use Rattle.octets.specs.declared.Port.TheVariants.{Normal, Secure}
use Rattle.admission.specs.Admission.{unit_managed, admission}
use Rattle.admission.specs.Mode.{mode_code, code_spf, code_mode}
use Rattle.admission.specs.Want.{Tag, Nothing, Want, Allocate, Fit, Free, Read, Write}
use Rattle.admission.specs.declared.Attributes.{Attributes}
use Rattle.admission.specs.declared.Head.{Head}
use Rattle.admission.specs.declared.Mode.{Mode}
use Rattle.admission.specs.declared.Mode.TheVariants.{Both, ReadOnly, WriteOnly}
use Rattle.admission.specs.Denial.{Verdict, Allowed, Denied}

-- a unit of the first kind, with passwords fitted or not, so far filled
abbrev unit : Bool → ℕ → ℕ → Head
unit passwords count used = record {
  limits = record { tags = 32; memory = 8192; area = 1024; message = 2048; list = 16 };
  version = 1;
  allocation = true;
  passwords = passwords;
  count = count;
  used = used;
}

-- document 01's tag K and password P, and a tag that the unit manages
abbrev K : ℕ
K = 0x0011223344556677

abbrev P : ℕ
P = 0x0102030405060708

abbrev U : ℕ
U = 0x4011223344556677

-- a tag with an area of 8 octets, a plain one with an area of some size, and a locked one
abbrev area8 : ℕ → Mode → Bool → Access → Attributes
area8 x mode spf lock = record { tag = x; size = 8; mode = mode; spf = spf; lock = lock }

abbrev sized : ℕ → ℕ → Attributes
sized x size = record { tag = x; size = size; mode = Both; spf = false; lock = Plain }

abbrev locked : ℕ → ℕ → Attributes
locked x size = record { tag = x; size = size; mode = Both; spf = false; lock = Password P }

-- a want of a registered tag; of a tag that is not registered, in a unit so filled
abbrev of : Attributes → Want → Port → Access → Verdict
of t w p a = admission (unit true 1 8) (Tag t) w p a

abbrev new : Head → Want → Verdict
new h w = admission h Nothing w Normal Plain

abbrev allocated : ℕ → ℕ → ℕ → Verdict
allocated count used size = new (unit true count used) (Allocate (sized K size))

abbrev fitted : ℕ → ℕ → ℕ → ℕ → Verdict
fitted count used size n = new (unit true count used) (Fit (sized U size) n)

abbrev rows : List (Verdict × Verdict)
rows =
    -- 6: what is not registered
    (new (unit true 1 8) Free, Denied 6)
    ∷ (new (unit true 1 8) Read, Denied 6)
    ∷ (new (unit true 1 8) (Write 0), Denied 6)
    -- 6: what is, and the bit that says who allocates
    ∷ (allocated 1 8 8, Allowed)
    ∷ (new (unit true 1 8) (Allocate (sized U 8)), Denied 6)
    ∷ (of (area8 K Both false Plain) (Allocate (sized K 8)) Normal Plain, Denied 6)
    ∷ (new (unit true 1 8) (Allocate (sized 0xBF11223344556677 8)), Allowed)
    ∷ (new (unit true 1 8) (Allocate (sized 0xC011223344556677 8)), Denied 6)
    ∷ (fitted 1 8 8 8, Allowed)
    ∷ (new (unit true 1 8) (Fit (sized K 8) 8), Denied 6)
    ∷ (of (area8 U Both false Plain) (Fit (sized U 8) 8) Normal Plain, Denied 6)
    ∷ (of (area8 K Both false Plain) Free Normal Plain, Allowed)
    ∷ (of (area8 U Both false Plain) Free Normal Plain, Denied 6)
    ∷ (of (area8 U Both false Plain) Read Normal Plain, Allowed)
    ∷ (of (area8 U Both false Plain) (Write 8) Normal Plain, Allowed)
    -- 12: a password where none are fitted; 6 before it
    ∷ (new (unit false 1 8) (Fit (locked U 8) 8), Denied 12)
    ∷ (new (unit true 1 8) (Fit (locked U 8) 8), Allowed)
    ∷ (new (unit false 1 8) (Fit (sized U 8) 8), Allowed)
    ∷ (new (unit false 1 8) (Fit (locked K 8) 8), Denied 6)
    -- of a command its operation type is asked, not this
    ∷ (new (unit false 1 8) (Allocate (locked K 8)), Allowed)
    ∷ (admission (unit false 1 8) (Tag (locked K 8)) Read Normal (Password P), Allowed)
    -- 11: SPF on the normal port; 6 before it
    ∷ (of (area8 K Both true Plain) Free Normal Plain, Denied 11)
    ∷ (of (area8 K Both true Plain) Free Secure Plain, Allowed)
    ∷ (of (area8 K Both true Plain) Read Normal Plain, Denied 11)
    ∷ (of (area8 K Both true Plain) Read Secure Plain, Allowed)
    ∷ (of (area8 K Both true Plain) (Write 8) Normal Plain, Denied 11)
    ∷ (of (area8 K Both true Plain) (Write 8) Secure Plain, Allowed)
    ∷ (of (area8 K Both false Plain) Read Secure Plain, Allowed)
    ∷ (of (area8 U Both true Plain) Free Normal Plain, Denied 6)
    -- 10: none for a password, another, one for none, all zeros too; 6 and 11 before it
    ∷ (of (area8 K Both false (Password P)) Free Normal (Password P), Allowed)
    ∷ (of (area8 K Both false (Password P)) Free Normal Plain, Denied 10)
    ∷ (of (area8 K Both false (Password P)) Free Normal (Password 0), Denied 10)
    ∷ (of (area8 K Both false Plain) Free Normal (Password P), Denied 10)
    ∷ (of (area8 K Both false (Password P)) Read Normal (Password P), Allowed)
    ∷ (of (area8 K Both false (Password P)) Read Normal Plain, Denied 10)
    ∷ (of (area8 K Both false (Password P)) Read Normal (Password 0), Denied 10)
    ∷ (of (area8 K Both false Plain) Read Normal (Password P), Denied 10)
    ∷ (of (area8 K Both false (Password P)) (Write 8) Normal (Password P), Allowed)
    ∷ (of (area8 K Both false (Password P)) (Write 8) Normal Plain, Denied 10)
    ∷ (of (area8 K Both false (Password P)) (Write 8) Normal (Password 0), Denied 10)
    ∷ (of (area8 K Both false Plain) (Write 8) Normal (Password P), Denied 10)
    ∷ (of (area8 K Both false (Password 0)) Read Normal Plain, Denied 10)
    ∷ (of (area8 K Both false (Password 0)) Read Normal (Password 0), Allowed)
    ∷ (of (area8 K Both false Plain) Read Normal (Password 0), Denied 10)
    ∷ (of (area8 K Both false (Password 0xFFFFFFFFFFFFFFFF)) Read Normal (Password 0xFFFFFFFFFFFFFFFE), Denied 10)
    ∷ (of (area8 K Both false (Password 0xFFFFFFFFFFFFFFFF)) Read Normal (Password 0x7FFFFFFFFFFFFFFF), Denied 10)
    -- the tag's six bits are ignored, a password's are not
    ∷ (of (area8 K Both false (Password P)) Read Normal (Password 0x3F02030405060708), Denied 10)
    ∷ (of (area8 U Both false (Password P)) Free Normal Plain, Denied 6)
    ∷ (of (area8 K Both true (Password P)) Read Normal Plain, Denied 11)
    ∷ (of (area8 K Both true (Password P)) Read Secure Plain, Denied 10)
    ∷ (of (area8 K Both true (Password P)) Read Secure (Password P), Allowed)
    -- 8: the mode; 11 and 10 before it
    ∷ (of (area8 K WriteOnly false Plain) Read Normal Plain, Denied 8)
    ∷ (of (area8 K WriteOnly false Plain) (Write 8) Normal Plain, Allowed)
    ∷ (of (area8 K WriteOnly false Plain) Free Normal Plain, Allowed)
    ∷ (of (area8 K ReadOnly false Plain) Read Normal Plain, Allowed)
    ∷ (of (area8 K ReadOnly false Plain) (Write 8) Normal Plain, Denied 8)
    ∷ (of (area8 K ReadOnly false Plain) Free Normal Plain, Allowed)
    ∷ (of (area8 K WriteOnly true Plain) Read Normal Plain, Denied 11)
    ∷ (of (area8 K WriteOnly false (Password P)) Read Normal Plain, Denied 10)
    -- 9: data longer than the area; 11, 10 and 8 before it
    ∷ (of (area8 K Both false Plain) (Write 0) Normal Plain, Allowed)
    ∷ (of (area8 K Both false Plain) (Write 9) Normal Plain, Denied 9)
    ∷ (of (area8 K ReadOnly false (Password P)) (Write 9) Normal (Password P), Denied 8)
    ∷ (of (area8 K ReadOnly false (Password P)) (Write 9) Normal Plain, Denied 10)
    ∷ (of (area8 K Both false (Password P)) (Write 9) Normal Plain, Denied 10)
    ∷ (of (area8 K ReadOnly true (Password P)) (Write 9) Normal Plain, Denied 11)
    -- 9: a size that is not 1 to 1,024, and first data longer than it; 6 and 12 before it
    ∷ (allocated 1 8 0, Denied 9)
    ∷ (allocated 1 8 1, Allowed)
    ∷ (allocated 1 8 1024, Allowed)
    ∷ (allocated 1 8 1025, Denied 9)
    ∷ (allocated 1 8 4294967295, Denied 9)
    ∷ (fitted 1 8 0 0, Denied 9)
    ∷ (fitted 1 8 1 0, Allowed)
    ∷ (fitted 1 8 1024 1024, Allowed)
    ∷ (fitted 1 8 1024 1025, Denied 9)
    ∷ (fitted 1 8 1025 0, Denied 9)
    ∷ (fitted 1 8 8 9, Denied 9)
    ∷ (new (unit true 1 8) (Allocate (sized U 0)), Denied 6)
    ∷ (new (unit false 1 8) (Fit (locked U 0) 1), Denied 12)
    ∷ (new (unit true 1 8) (Fit (sized K 0) 1), Denied 6)
    -- 5: 32 tags, and 8,192 octets; 6, 12 and 9 before it
    ∷ (allocated 31 8182 10, Allowed)
    ∷ (allocated 32 8182 10, Denied 5)
    ∷ (allocated 31 8182 11, Denied 5)
    ∷ (allocated 32 8192 1, Denied 5)
    ∷ (allocated 32 8192 0, Denied 9)
    ∷ (allocated 32 8192 1025, Denied 9)
    ∷ (fitted 31 8182 10 10, Allowed)
    ∷ (fitted 32 8182 10 10, Denied 5)
    ∷ (fitted 31 8182 11 10, Denied 5)
    ∷ (fitted 32 8192 1 0, Denied 5)
    ∷ (fitted 32 8192 1 2, Denied 9)
    ∷ (new (unit true 32 8192) (Allocate (sized U 1)), Denied 6)
    ∷ (new (unit true 32 8192) (Fit (sized K 1) 0), Denied 6)
    ∷ (new (unit false 32 8192) (Fit (locked U 1) 0), Denied 12)
    -- a full unit still frees, reads and writes
    ∷ (admission (unit true 32 8192) (Tag (sized K 8)) Free Normal Plain, Allowed)
    ∷ (admission (unit true 32 8192) (Tag (sized K 8)) Read Normal Plain, Allowed)
    ∷ (admission (unit true 32 8192) (Tag (sized K 8)) (Write 8) Normal Plain, Allowed)
    ∷ []

pub admission-table : map (λ (x : Verdict × Verdict). x.0) rows ≡ map (λ (x : Verdict × Verdict). x.1) rows
unfolding admission unit_managed
admission-table = refl

-- ---- the codes of modes

-- a mode, whether SPF is required, and the code: the six that the tables have
abbrev codes : List ((Mode × Bool) × ℕ)
codes =
    ((Both, false), 0)
    ∷ ((WriteOnly, false), 1)
    ∷ ((ReadOnly, false), 2)
    ∷ ((Both, true), 4)
    ∷ ((WriteOnly, true), 5)
    ∷ ((ReadOnly, true), 6)
    ∷ []

-- the code of each, and each from its code
pub codes-hold :
    (map (λ (x : (Mode × Bool) × ℕ). mode_code x.0.0 x.0.1) codes ≡ map (λ (x : (Mode × Bool) × ℕ). x.1) codes)
    × (map (λ (x : (Mode × Bool) × ℕ). (code_mode x.1, code_spf x.1)) codes ≡ map (λ (x : (Mode × Bool) × ℕ). x.0) codes)
codes-hold = (refl, refl)
