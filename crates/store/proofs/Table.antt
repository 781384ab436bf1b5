-- The definitions at their boundaries: what calls one after another on a new unit are answered, and the words and octets that stand for a small unit. Tables, each
-- proved by computation. Document 01, 'Tags', 'Denials and their order', 'Lists' and 'Known exchanges'.
use Rattle.std.specs.Prelude.{Option, Some, None}
use Prim.Native.Nat.{ℕ, zero, suc}
use mathlib.Core.Bool.{Bool, true, false}
use mathlib.Core.List.{List, [], ◌∷◌, ◌++◌, flat_map}
use mathlib.Core.Path.{◌≡◌, refl}
use Rattle.octets.specs.Number.{bare}
use Rattle.octets.specs.declared.Access.{Access}
use Rattle.octets.specs.declared.Access.TheVariants.{Plain, Password}
use Rattle.octets.specs.declared.Port.TheVariants.{Normal, Secure}
use Rattle.admission.specs.Admission.{unit_managed, admission}
use Rattle.admission.specs.declared.Head.{Head}
use Rattle.admission.specs.declared.Mode.TheVariants.{Both, ReadOnly, WriteOnly}
use Rattle.admission.specs.Denial.{Verdict, Allowed, Denied}
use Rattle.rows.specs.Image.{image}
use Rattle.rows.specs.Keyed.{look, change, without}
use Rattle.rows.specs.Row.{words}
use Rattle.rows.proofs.Table.{is, should}
use Rattle.store.specs.Answers.{Begun, made, refused, started, found}
use Rattle.store.specs.History.{Call, allocate, fit, free, write, ask, step, after_all, all_granted, all_freed}
use Rattle.store.specs.Model.{State, new_unit, first_kind, head_of, total, area, located, arranged}
use Rattle.store.specs.Raw.{overwritten}
use Rattle.store.specs.Steps.{Content, content, denied, registered, write_step, free_step, allocate_step, fit_step, read_step, remainder}
use Rattle.store.specs.declared.Found.{Found}
use Rattle.store.specs.declared.Remaining.{Remaining}

-- ---- tags and calls

-- document 01's tag K and password P
abbrev K : ℕ
K = 0x0011223344556677

abbrev P : ℕ
P = 0x0102030405060708

-- K with the six bits that are ignored set; with bit 7 set, volatile; with bit 6 set, unit-managed
abbrev K3F : ℕ
K3F = 0x3F11223344556677

abbrev K80 : ℕ
K80 = 0x8011223344556677

abbrev U : ℕ
U = 0x4011223344556677

-- a gate's plain calls by the normal port; the vehicle's, without a password
abbrev new : ℕ → ℕ → Call
new x size = allocate x size Both false Normal Plain

abbrev put : ℕ → List ℕ → Call
put x xs = write x xs Normal Plain

abbrev gone : ℕ → Call
gone x = free x Normal Plain

abbrev own : ℕ → ℕ → List ℕ → Call
own x size xs = fit x size Both false Plain xs

-- K with an area of 1 and a password
abbrev locked : ℕ → Call
locked p = allocate K 1 Both false Normal (Password p)

-- K with an area of 1 that the secure port alone reaches
abbrev secured : Call
secured = allocate K 1 Both true Normal Plain

-- n new tags, n - 1 to 0, each with an area of a size
abbrev many : ℕ → ℕ → List Call
many zero size = []
many (suc n) size = new n size ∷ many n size

-- 10 octets over: a tag with an area of 1,014, and 7 with 1,024
abbrev over10 : List Call
over10 = new 100 1014 ∷ many 7 1024

-- ---- a new unit of the first kind

abbrev head15 : Head
head15 = record {
  limits = record { tags = 32; memory = 8192; area = 1024; message = 2048; list = 16 };
  version = 15;
  allocation = true;
  passwords = false;
  count = 0;
  used = 0;
}

abbrev starts : List (Begun × Begun)
starts =
    (started first_kind 15 true false, made head15)
    ∷ (started first_kind 16 true false, refused 301)
    ∷ []

pub starts-hold : is starts ≡ should starts
unfolding started total
starts-hold = refl

-- the unit after calls on a new one with both options
abbrev unit : List Call → State
unit cs = after_all (new_unit first_kind 1 true true) cs

-- ---- what a call is answered after other calls

abbrev answer : State → Call → Verdict
answer u c = (step u c).answer

abbrev then : List Call → Call → Verdict
then cs c = answer (unit cs) c

abbrev verdicts : List (Verdict × Verdict)
verdicts =
    -- "Area 1,024: accepted; 0 and 1,025: 9"
    (then [] (new K 1024), Allowed)
    ∷ (then [] (new K 0), Denied 9)
    ∷ (then [] (new K 1025), Denied 9)
    ∷ (then [] (new K 4294967295), Denied 9)
    -- "Memory with 10 octets over: 10 accepted, 11 gives 5"; a bad size gives 9 there too
    ∷ (then over10 (new K 10), Allowed)
    ∷ (then over10 (new K 11), Denied 5)
    ∷ (then over10 (new K 1025), Denied 9)
    ∷ (then over10 (own U 10 []), Allowed)
    ∷ (then over10 (own U 11 []), Denied 5)
    ∷ (then (over10 ++ new K 10 ∷ []) (new K80 1), Denied 5)
    -- the 33rd tag, though there is memory
    ∷ (then (many 31 1) (new K 1), Allowed)
    ∷ (then (many 32 1) (new K 1), Denied 5)
    ∷ (then (many 32 1) (own U 1 []), Denied 5)
    -- "freed room is used again", the first, a middle and the last tag's
    ∷ (then (over10 ++ gone 100 ∷ []) (new K 1024), Allowed)
    ∷ (then (over10 ++ gone 3 ∷ new K 1024 ∷ []) (new K80 10), Allowed)
    ∷ (then (over10 ++ gone 0 ∷ new K 1024 ∷ []) (new K80 11), Denied 5)
    -- and among 32 tags
    ∷ (then (many 32 1 ++ gone 31 ∷ []) (new K 1), Allowed)
    ∷ (then (many 32 1 ++ gone 16 ∷ new K 1 ∷ []) (new K80 1), Denied 5)
    ∷ (then (many 32 256 ++ gone 0 ∷ []) (new K 257), Denied 5)
    ∷ (then (many 32 256 ++ gone 0 ∷ []) (new K 256), Allowed)
    -- a tag twice, or in the ignored bits only; bit 7 and bit 6 make another
    ∷ (then (new K 1 ∷ []) (new K 1), Denied 6)
    ∷ (then (new K 1 ∷ []) (new K3F 1), Denied 6)
    ∷ (then (new K3F 1 ∷ []) (new K 1), Denied 6)
    ∷ (then (new K 1 ∷ []) (new K80 1), Allowed)
    ∷ (then (new K 1 ∷ []) (own U 1 []), Allowed)
    ∷ (then (own U 1 [] ∷ []) (own U 1 []), Denied 6)
    ∷ (then (new K 1 ∷ []) (gone K3F), Allowed)
    ∷ (then (new K 1 ∷ []) (gone K80), Denied 6)
    ∷ (then (new K 1 ∷ gone K3F ∷ []) (gone K), Denied 6)
    ∷ (then (own U 1 [] ∷ []) (gone U), Denied 6)
    -- data that fills the area, longer, and none
    ∷ (then (new K 1 ∷ []) (put K3F (0xAA ∷ [])), Allowed)
    ∷ (then (new K 1 ∷ []) (put K (0xAA ∷ 0xBB ∷ [])), Denied 9)
    ∷ (then (new K 1 ∷ []) (put K []), Allowed)
    ∷ (then [] (put K []), Denied 6)
    ∷ (then [] (own U 1 (0xAA ∷ [])), Allowed)
    ∷ (then [] (own U 1 (0xAA ∷ 0xBB ∷ [])), Denied 9)
    ∷ (then [] (own K 1 []), Denied 6)
    -- "Any 8 octets may be a password, all zeros too"
    ∷ (then (locked 0 ∷ []) (gone K), Denied 10)
    ∷ (then (locked 0 ∷ []) (free K Normal (Password P)), Denied 10)
    ∷ (then (locked 0 ∷ []) (free K Normal (Password 0)), Allowed)
    ∷ (then (new K 1 ∷ []) (free K Normal (Password 0)), Denied 10)
    ∷ (then (locked P ∷ []) (put K (0xAA ∷ 0xBB ∷ [])), Denied 10)
    ∷ (then (locked P ∷ []) (write K (0xAA ∷ 0xBB ∷ []) Normal (Password P)), Denied 9)
    -- the port and the mode
    ∷ (then (secured ∷ []) (gone K), Denied 11)
    ∷ (then (secured ∷ []) (free K Secure Plain), Allowed)
    ∷ (then (secured ∷ []) (put K []), Denied 11)
    ∷ (then (secured ∷ []) (write K [] Secure Plain), Allowed)
    ∷ (then (allocate K 1 ReadOnly false Normal Plain ∷ []) (put K []), Denied 8)
    ∷ (then (allocate K 1 WriteOnly false Normal Plain ∷ []) (put K []), Allowed)
    -- the vehicle's password where none are fitted
    ∷ (answer (new_unit first_kind 1 true false) (fit U 1 Both false (Password P) []), Denied 12)
    ∷ (answer (new_unit first_kind 1 true false) (own U 1 []), Allowed)
    ∷ []

pub verdicts-hold : is verdicts ≡ should verdicts
unfolding admission after_all allocate_step bare change fit_step free_step look registered total unit_managed without write_step
verdicts-hold = refl

-- ---- what is read after calls

abbrev read : List Call → ℕ → Access → Content
read cs x a = read_step (unit cs) x Normal a

-- two tags of 3 and 2 octets, written
abbrev two : List Call
two = new K 3 ∷ new K80 2 ∷ put K (1 ∷ 2 ∷ 3 ∷ []) ∷ put K80 (8 ∷ 9 ∷ []) ∷ []

abbrev contents : List (Content × Content)
contents =
    -- nothing after an allocation, the data after a write; K's bits
    (read [] K Plain, denied 6)
    ∷ (read (new K 3 ∷ []) K Plain, content [])
    ∷ (read two K Plain, content (1 ∷ 2 ∷ 3 ∷ []))
    ∷ (read two K3F Plain, content (1 ∷ 2 ∷ 3 ∷ []))
    ∷ (read two K80 Plain, content (8 ∷ 9 ∷ []))
    ∷ (read two U Plain, denied 6)
    -- a shorter write, one of length 0, one that is refused
    ∷ (read (two ++ put K (7 ∷ []) ∷ []) K Plain, content (7 ∷ []))
    ∷ (read (two ++ put K [] ∷ []) K Plain, content [])
    ∷ (read (two ++ put K (4 ∷ 5 ∷ 6 ∷ 7 ∷ []) ∷ []) K Plain, content (1 ∷ 2 ∷ 3 ∷ []))
    ∷ (read (two ++ put K (7 ∷ []) ∷ []) K80 Plain, content (8 ∷ 9 ∷ []))
    -- a free, and the same tag again
    ∷ (read (two ++ gone K ∷ []) K Plain, denied 6)
    ∷ (read (two ++ gone K ∷ []) K80 Plain, content (8 ∷ 9 ∷ []))
    ∷ (read (two ++ gone K ∷ new K 3 ∷ []) K Plain, content [])
    -- first data
    ∷ (read (own U 2 (8 ∷ []) ∷ []) U Plain, content (8 ∷ []))
    -- the password of an allocation is the tag's
    ∷ (read (locked P ∷ write K (0xAA ∷ []) Normal (Password P) ∷ []) K (Password P), content (0xAA ∷ []))
    ∷ (read (locked P ∷ []) K3F Plain, denied 10)
    -- the port and the mode
    ∷ (read (secured ∷ []) K Plain, denied 11)
    ∷ (read_step (unit (secured ∷ [])) K Secure Plain, content [])
    ∷ (read (allocate K 1 WriteOnly false Normal Plain ∷ []) K Plain, denied 8)
    ∷ (read (allocate K 1 ReadOnly false Normal Plain ∷ []) K Plain, content [])
    ∷ []

pub contents-hold : is contents ≡ should contents
unfolding admission after_all allocate_step bare change fit_step free_step look read_step registered total unit_managed without write_step
contents-hold = refl

-- ---- what is found after calls: the ignored bits are zero

abbrev find : List Call → ℕ → Option Found
find cs x = found (registered (unit cs) x)

-- K with an area of 3, plain, for both modes, so many octets held
abbrev K3 : ℕ → Option Found
K3 n = Some (record { about = record { tag = K; size = 3; mode = Both; spf = false; lock = Plain }; held = n })

abbrev finds : List (Option Found × Option Found)
finds =
    (find [] K, None)
    ∷ (find two K3F, K3 3)
    ∷ (find (two ++ put K (7 ∷ []) ∷ []) K, K3 1)
    ∷ (find (two ++ gone K ∷ []) K, None)
    ∷ (find (two ++ gone K ∷ new K3F 3 ∷ []) K, K3 0)
    -- all that an allocation or a fitting asks for
    ∷ (find (allocate K3F 3 ReadOnly true Normal (Password 0) ∷ []) K, Some (record { about = record { tag = K; size = 3; mode = ReadOnly; spf = true; lock = Password 0 }; held = 0 }))
    ∷ (find (fit U 4 WriteOnly false (Password P) (8 ∷ 9 ∷ []) ∷ []) U, Some (record { about = record { tag = U; size = 4; mode = WriteOnly; spf = false; lock = Password P }; held = 2 }))
    ∷ []

pub finds-hold : is finds ≡ should finds
unfolding admission after_all allocate_step bare change fit_step free_step look registered total unit_managed without write_step
finds-hold = refl

-- ---- what remains after calls, with allocation fitted or not

abbrev remains : Bool → List Call → Remaining
remains allocation cs = remainder (head_of (after_all (new_unit first_kind 1 allocation true) cs))

abbrev remainders : List (Remaining × Remaining)
remainders =
    (remains true [], record { tags = 32; octets = 8192 })
    ∷ (remains true two, record { tags = 30; octets = 8187 })
    ∷ (remains true (two ++ gone K ∷ own U 1024 [] ∷ []), record { tags = 30; octets = 7166 })
    ∷ (remains true over10, record { tags = 24; octets = 10 })
    ∷ (remains true (many 32 256), record { tags = 0; octets = 0 })
    ∷ (remains false [], record { tags = 0; octets = 0 })
    ∷ (remains false (own U 1024 [] ∷ []), record { tags = 0; octets = 0 })
    ∷ []

pub remainders-hold : is remainders ≡ should remainders
unfolding admission after_all allocate_step bare change fit_step free_step look registered total unit_managed without write_step
remainders-hold = refl

-- ---- what calls granted and freed, of a new unit

abbrev history : List Call → ℕ × ℕ
history cs = (all_granted (new_unit first_kind 1 true true) cs, all_freed (new_unit first_kind 1 true true) cs)

abbrev histories : List ((ℕ × ℕ) × (ℕ × ℕ))
histories =
    (history [], (0, 0))
    -- sizes count, not what is held
    ∷ (history two, (5, 0))
    ∷ (history (two ++ gone K3F ∷ []), (5, 3))
    ∷ (history (two ++ gone K ∷ new K 4 ∷ gone K80 ∷ []), (9, 5))
    -- "a fitted tag counting as granted"; it is not freed
    ∷ (history (own U 7 (1 ∷ []) ∷ gone U ∷ []), (7, 0))
    -- what is refused neither grants nor frees
    ∷ (history (new K 3 ∷ new K 4 ∷ own U 8 [] ∷ own U 9 [] ∷ new K80 0 ∷ []), (11, 0))
    ∷ (history (new K 3 ∷ gone K80 ∷ locked P ∷ []), (3, 0))
    ∷ (history (locked P ∷ gone K ∷ free K Normal (Password P) ∷ gone K ∷ []), (1, 1))
    -- nor do a write and what changes nothing
    ∷ (history (new K 3 ∷ put K (1 ∷ 2 ∷ []) ∷ ask ∷ put K [] ∷ []), (3, 0))
    ∷ []

pub histories-hold : is histories ≡ should histories
unfolding admission after_all all_freed all_granted allocate_step bare change fit_step free_step look registered total unit_managed without write_step
histories-hold = refl

-- ---- what a write leaves in the memory

-- an area at 1: "the rest of the area is zero", which was zero but for what was held
abbrev nines : List ℕ
nines = 9 ∷ 9 ∷ 9 ∷ 9 ∷ 9 ∷ 9 ∷ []

abbrev overwritings : List (List ℕ × List ℕ)
overwritings =
    -- less than was held, as much, more, nothing; where nothing was held
    (overwritten nines 1 3 (7 ∷ []), 9 ∷ 7 ∷ 0 ∷ 0 ∷ 9 ∷ 9 ∷ [])
    ∷ (overwritten nines 1 2 (7 ∷ 8 ∷ []), 9 ∷ 7 ∷ 8 ∷ 9 ∷ 9 ∷ 9 ∷ [])
    ∷ (overwritten nines 1 1 (7 ∷ 8 ∷ []), 9 ∷ 7 ∷ 8 ∷ 9 ∷ 9 ∷ 9 ∷ [])
    ∷ (overwritten nines 1 2 [], 9 ∷ 0 ∷ 0 ∷ 9 ∷ 9 ∷ 9 ∷ [])
    ∷ (overwritten nines 4 0 (7 ∷ 8 ∷ []), 9 ∷ 9 ∷ 9 ∷ 9 ∷ 7 ∷ 8 ∷ [])
    ∷ []

pub overwritings-hold : is overwritings ≡ should overwritings
unfolding overwritten
overwritings-hold = refl

-- ---- a small unit: 2 tags, 12 octets, areas of up to 8

abbrev tiny : List Call → State
tiny cs = after_all (new_unit (record { tags = 2; memory = 12; area = 8; message = 2048; list = 16 }) 1 true true) cs

-- the limits are the unit's own
abbrev limits : List (Verdict × Verdict)
limits =
    (answer (tiny []) (new K 8), Allowed)
    ∷ (answer (tiny []) (new K 9), Denied 9)
    ∷ (answer (tiny (new K 8 ∷ [])) (new K80 4), Allowed)
    ∷ (answer (tiny (new K 8 ∷ [])) (new K80 5), Denied 5)
    ∷ (answer (tiny (new K 1 ∷ new K80 1 ∷ [])) (own U 1 []), Denied 5)
    ∷ (answer (tiny (new K 1 ∷ new K80 1 ∷ gone K ∷ [])) (own U 1 []), Allowed)
    ∷ (answer (tiny (new K 1 ∷ new K80 1 ∷ gone K ∷ own U 1 [] ∷ [])) (new K 1), Denied 5)
    ∷ []

pub limits-hold : is limits ≡ should limits
unfolding admission after_all allocate_step bare fit_step free_step look registered total unit_managed without
limits-hold = refl

-- its table and its memory: every word and every octet
abbrev table : List Call → List ℕ
table cs = image words (arranged (tiny cs).tags) 16

abbrev memory : List Call → List ℕ
memory cs = image area (tiny cs).tags 12

-- K with 5 octets, and K80 with 7, write only, SPF and P
abbrev given : List Call
given = new K 5 ∷ allocate K80 7 WriteOnly true Normal (Password P) ∷ []

abbrev filled : List Call
filled = given ++ put K (1 ∷ 2 ∷ 3 ∷ []) ∷ write K80 (8 ∷ 9 ∷ []) Secure (Password P) ∷ []

abbrev images : List (List ℕ × List ℕ)
images =
    (table [], 0 ∷ 0 ∷ 0 ∷ 0 ∷ 0 ∷ 0 ∷ 0 ∷ 0 ∷ 0 ∷ 0 ∷ 0 ∷ 0 ∷ 0 ∷ 0 ∷ 0 ∷ 0 ∷ [])
    ∷ (memory [], 0 ∷ 0 ∷ 0 ∷ 0 ∷ 0 ∷ 0 ∷ 0 ∷ 0 ∷ 0 ∷ 0 ∷ 0 ∷ 0 ∷ [])
    -- two allocations
    ∷ (table given, K ∷ 0 ∷ 5 ∷ 0 ∷ 0 ∷ 0 ∷ 0 ∷ 0 ∷ K80 ∷ 5 ∷ 7 ∷ 0 ∷ 5 ∷ 1 ∷ P ∷ 0 ∷ [])
    ∷ (memory given, 0 ∷ 0 ∷ 0 ∷ 0 ∷ 0 ∷ 0 ∷ 0 ∷ 0 ∷ 0 ∷ 0 ∷ 0 ∷ 0 ∷ [])
    -- both written
    ∷ (table filled, K ∷ 0 ∷ 5 ∷ 3 ∷ 0 ∷ 0 ∷ 0 ∷ 0 ∷ K80 ∷ 5 ∷ 7 ∷ 2 ∷ 5 ∷ 1 ∷ P ∷ 0 ∷ [])
    ∷ (memory filled, 1 ∷ 2 ∷ 3 ∷ 0 ∷ 0 ∷ 8 ∷ 9 ∷ 0 ∷ 0 ∷ 0 ∷ 0 ∷ 0 ∷ [])
    -- a shorter write
    ∷ (memory (filled ++ put K (7 ∷ []) ∷ []), 7 ∷ 0 ∷ 0 ∷ 0 ∷ 0 ∷ 8 ∷ 9 ∷ 0 ∷ 0 ∷ 0 ∷ 0 ∷ 0 ∷ [])
    -- the first freed
    ∷ (table (filled ++ gone K ∷ []), K80 ∷ 0 ∷ 7 ∷ 2 ∷ 5 ∷ 1 ∷ P ∷ 0 ∷ 0 ∷ 0 ∷ 0 ∷ 0 ∷ 0 ∷ 0 ∷ 0 ∷ 0 ∷ [])
    ∷ (memory (filled ++ gone K ∷ []), 8 ∷ 9 ∷ 0 ∷ 0 ∷ 0 ∷ 0 ∷ 0 ∷ 0 ∷ 0 ∷ 0 ∷ 0 ∷ 0 ∷ [])
    -- and its room used again, by a tag that the unit manages and that is read only
    ∷ (table (filled ++ gone K ∷ fit U 4 ReadOnly false Plain (6 ∷ []) ∷ []), K80 ∷ 0 ∷ 7 ∷ 2 ∷ 5 ∷ 1 ∷ P ∷ 0 ∷ U ∷ 7 ∷ 4 ∷ 1 ∷ 2 ∷ 0 ∷ 0 ∷ 0 ∷ [])
    ∷ (memory (filled ++ gone K ∷ fit U 4 ReadOnly false Plain (6 ∷ []) ∷ []), 8 ∷ 9 ∷ 0 ∷ 0 ∷ 0 ∷ 0 ∷ 0 ∷ 6 ∷ 0 ∷ 0 ∷ 0 ∷ 0 ∷ [])
    ∷ []

pub images-hold : is images ≡ should images
unfolding admission after_all allocate_step area arranged bare change fit_step flat_map free_step image located look registered total unit_managed without words write_step
images-hold = refl
