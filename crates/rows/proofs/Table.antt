-- The definitions at their boundaries, by computation: a table of three rows, what is found, changed and removed in it, and lists by number. Tables, each with one proof.
use Prim.Native.Nat.{ℕ}
use mathlib.Core.Bool.{Bool, true, false}
use mathlib.Core.List.{List, [], ◌∷◌, ◌++◌, map, flat_map}
use mathlib.Core.Path.{◌≡◌, refl}
use lib.ListN.{take}
use Rattle.std.specs.Prelude.{Option, Some, None}
use Rattle.octets.specs.declared.Access.{Access}
use Rattle.octets.specs.declared.Access.TheVariants.{Plain, Password}
use Rattle.admission.specs.declared.Mode.{Mode}
use Rattle.admission.specs.declared.Mode.TheVariants.{Both, ReadOnly, WriteOnly}
use Rattle.rows.specs.Image.{image, closed}
use Rattle.rows.specs.Keyed.{Maybe, nowhere, here, look, change, without}
use Rattle.rows.specs.Row.{empty, words, lock_of, slot_in, slot_at, with_held, rows_in, scan, low, sunk, removed}
use Rattle.rows.specs.declared.Slot.{Slot}

-- what is computed, and what it has to be
module _ {A : Type 0} where
  abbrev pub is : List (A × A) → List A
  is rows = map (λ (x : A × A). x.0) rows

  abbrev pub should : List (A × A) → List A
  should rows = map (λ (x : A × A). x.1) rows

-- ---- three slots and their words

abbrev slot : ℕ → ℕ → Mode → Bool → Access → ℕ → ℕ → Slot
slot x size mode spf lock at held = record { about = record { tag = x; size = size; mode = mode; spf = spf; lock = lock }; at = at; held = held }

-- without a password; with the password that is all zeros; with another
abbrev first : Slot
first = slot 7 5 Both false Plain 0 3

abbrev second : Slot
second = slot 9 2 ReadOnly true (Password 0) 5 1

abbrev third : Slot
third = slot 8 4 WriteOnly false (Password 11) 7 4

abbrev w1 : List ℕ
w1 = 7 ∷ 0 ∷ 5 ∷ 3 ∷ 0 ∷ 0 ∷ 0 ∷ 0 ∷ []

abbrev w2 : List ℕ
w2 = 9 ∷ 5 ∷ 2 ∷ 1 ∷ 6 ∷ 1 ∷ 0 ∷ 0 ∷ []

abbrev w3 : List ℕ
w3 = 8 ∷ 7 ∷ 4 ∷ 4 ∷ 1 ∷ 1 ∷ 11 ∷ 0 ∷ []

abbrev none : List ℕ
none = 0 ∷ 0 ∷ 0 ∷ 0 ∷ 0 ∷ 0 ∷ 0 ∷ 0 ∷ []

abbrev table : List ℕ
table = w1 ++ w2 ++ w3

-- one word short of three rows
abbrev short : List ℕ
short = take 23 table

-- ---- slots and words, both ways

abbrev wordings : List (List ℕ × List ℕ)
wordings = (words first, w1) ∷ (words second, w2) ∷ (words third, w3) ∷ (words empty, none) ∷ []

abbrev slots : List (Slot × Slot)
slots =
    (slot_at table 0, first)
    ∷ (slot_at table 1, second)
    ∷ (slot_at table 2, third)
    -- past the table, and a row that is cut
    ∷ (slot_at table 3, empty)
    ∷ (slot_at short 1, second)
    ∷ (slot_at short 2, empty)
    ∷ (slot_at [] 0, empty)
    ∷ (slot_at none 0, empty)
    ∷ []

-- whether there is a password is not told by the password
abbrev locks : List (Access × Access)
locks = (lock_of 0 11, Plain) ∷ (lock_of 1 0, Password 0) ∷ (lock_of 1 11, Password 11) ∷ []

pub slots-hold : (is wordings ≡ should wordings) × (is slots ≡ should slots) × (is locks ≡ should locks)
unfolding words slot_at slot_in
slots-hold = (refl, refl, refl)

-- ---- finding a row

abbrev counts : List (ℕ × ℕ)
counts =
    -- fewer than the table has, as many, more
    (rows_in table 2, 2)
    ∷ (rows_in table 3, 3)
    ∷ (rows_in table 4, 3)
    ∷ (rows_in short 3, 2)
    ∷ (rows_in [] 1, 0)
    ∷ []

abbrev scans : List (Option ℕ × Option ℕ)
scans =
    (scan table 7 0 3, Some 0)
    ∷ (scan table 8 0 3, Some 2)
    -- a row past those that are looked at, and one before them
    ∷ (scan table 8 0 2, None)
    ∷ (scan table 7 1 2, None)
    ∷ (scan table 9 1 1, Some 1)
    -- another word of a row is no tag
    ∷ (scan table 5 0 3, None)
    -- the first of two
    ∷ (scan (w2 ++ w1 ++ w1) 7 0 3, Some 1)
    -- no row
    ∷ (scan none 0 0 0, None)
    ∷ []

pub found-hold : (is counts ≡ should counts) × (is scans ≡ should scans)
unfolding scan
found-hold = (refl, refl)

-- ---- changes

-- a place at, behind and before `at`; one that lies too low to come down so far
abbrev places : List (ℕ × ℕ)
places = (low 5 2 5, 5) ∷ (low 5 2 6, 4) ∷ (low 5 2 7, 5) ∷ (low 5 2 4, 4) ∷ (low 1 8 3, 0) ∷ []

abbrev changes : List (List ℕ × List ℕ)
changes =
    -- another held length, in the last row, past the table, and in a row that is cut
    (with_held table 2 1, w1 ++ w2 ++ 8 ∷ 7 ∷ 4 ∷ 1 ∷ 1 ∷ 1 ∷ 11 ∷ 0 ∷ [])
    ∷ (with_held table 3 1, table)
    ∷ (with_held short 2 1, short)
    -- two numbers go from the front, from the middle, and from the end of what is in use; none; the rest stays
    ∷ (closed (1 ∷ 2 ∷ 3 ∷ 4 ∷ 5 ∷ 6 ∷ []) 0 2 5, 3 ∷ 4 ∷ 5 ∷ 0 ∷ 0 ∷ 6 ∷ [])
    ∷ (closed (1 ∷ 2 ∷ 3 ∷ 4 ∷ 5 ∷ 6 ∷ []) 1 2 5, 1 ∷ 4 ∷ 5 ∷ 0 ∷ 0 ∷ 6 ∷ [])
    ∷ (closed (1 ∷ 2 ∷ 3 ∷ 4 ∷ 5 ∷ 6 ∷ []) 3 2 5, 1 ∷ 2 ∷ 3 ∷ 0 ∷ 0 ∷ 6 ∷ [])
    ∷ (closed (1 ∷ 2 ∷ 3 ∷ 4 ∷ 5 ∷ 6 ∷ []) 3 0 5, 1 ∷ 2 ∷ 3 ∷ 4 ∷ 5 ∷ 6 ∷ [])
    -- the places of two rows come down, the third row is not looked at
    ∷ (sunk 0 5 table 2, w1 ++ (9 ∷ 0 ∷ 2 ∷ 1 ∷ 6 ∷ 1 ∷ 0 ∷ 0 ∷ []) ++ w3)
    ∷ (sunk 0 5 table 0, table)
    -- the first row goes, a middle one, the last
    ∷ (removed table 3 0, (9 ∷ 0 ∷ 2 ∷ 1 ∷ 6 ∷ 1 ∷ 0 ∷ 0 ∷ []) ++ (8 ∷ 2 ∷ 4 ∷ 4 ∷ 1 ∷ 1 ∷ 11 ∷ 0 ∷ []) ++ none)
    ∷ (removed table 3 1, w1 ++ (8 ∷ 5 ∷ 4 ∷ 4 ∷ 1 ∷ 1 ∷ 11 ∷ 0 ∷ []) ++ none)
    ∷ (removed table 3 2, w1 ++ w2 ++ none)
    -- the first of two; what stands behind them is not touched
    ∷ (removed table 2 0, (9 ∷ 0 ∷ 2 ∷ 1 ∷ 6 ∷ 1 ∷ 0 ∷ 0 ∷ []) ++ none ++ w3)
    -- an area that starts before the one that goes stays where it is
    ∷ (removed (w2 ++ w1) 2 0, w1 ++ none)
    -- no such row, and more rows than the table has
    ∷ (removed table 3 3, table)
    ∷ (removed table 4 0, table)
    ∷ (removed short 3 0, short)
    ∷ []

pub changes-hold : (is places ≡ should places) × (is changes ≡ should changes)
unfolding with_held closed sunk removed slot_in
changes-hold = (refl, refl)

-- ---- lists by number, and what a list stands for

-- a number, and something else
abbrev Pair : Type 0
Pair = ℕ × ℕ

abbrev key : Pair → ℕ
key p = p.0

abbrev pairs : List Pair
pairs = (1, 10) ∷ (2, 20) ∷ (2, 21) ∷ []

abbrev looks : List (Maybe Pair × Maybe Pair)
looks =
    (look key 1 pairs, here (1, 10))
    -- the first of two
    ∷ (look key 2 pairs, here (2, 20))
    ∷ (look key 3 pairs, nowhere)
    ∷ (look key 10 pairs, nowhere)
    ∷ []

-- all that have the number, and those only
abbrev others : List (List Pair × List Pair)
others =
    (change key 2 (λ p. (p.0, 0)) pairs, (1, 10) ∷ (2, 0) ∷ (2, 0) ∷ [])
    ∷ (change key 3 (λ p. (p.0, 0)) pairs, pairs)
    ∷ (without key 2 pairs, (1, 10) ∷ [])
    ∷ (without key 1 pairs, (2, 20) ∷ (2, 21) ∷ [])
    ∷ (without key 3 pairs, pairs)
    ∷ []

-- zeros up to the length, none if there is no room for them
abbrev images : List (List ℕ × List ℕ)
images =
    (image (λ (p : Pair). p.0 ∷ p.1 ∷ []) pairs 8, 1 ∷ 10 ∷ 2 ∷ 20 ∷ 2 ∷ 21 ∷ 0 ∷ 0 ∷ [])
    ∷ (image (λ (p : Pair). p.0 ∷ p.1 ∷ []) pairs 6, 1 ∷ 10 ∷ 2 ∷ 20 ∷ 2 ∷ 21 ∷ [])
    ∷ (image (λ (p : Pair). p.0 ∷ p.1 ∷ []) [] 3, 0 ∷ 0 ∷ 0 ∷ [])
    ∷ []

pub lists-hold : (is looks ≡ should looks) × (is others ≡ should others) × (is images ≡ should images)
unfolding look change without image flat_map
lists-hold = (refl, refl, refl)
