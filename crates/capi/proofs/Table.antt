-- What is refused before a unit is looked at, the number of each outcome, and the words that the readers put, at their boundaries: tables, each proved by computation.
use Prim.Native.Nat.{ℕ}
use mathlib.Core.Path.{◌≡◌, refl}
use mathlib.Core.Bool.{true, false}
use mathlib.Core.List.{List, [], ◌∷◌, map}
use lib.IntN.{ℤ, pos, negsuc}
use lib.ListN.{replicate}
use Rattle.octets.specs.Area.{Outcome, done, refused}
use Rattle.octets.specs.declared.Access.TheVariants.{Plain, Password}
use Rattle.octets.specs.declared.Entries.{Entries}
use Rattle.octets.specs.declared.Fault.TheVariants.{Other}
use Rattle.octets.specs.declared.Form.TheVariants as f
use Rattle.octets.specs.declared.Port.TheVariants.{Normal, Secure}
use Rattle.octets.specs.declared.Span.{Span}
use Rattle.answers.specs.declared.Given.TheVariants as g
use Rattle.answers.specs.declared.Reply.{Reply}
use Rattle.octets.specs.declared.Fault.{Fault}
use Rattle.std.specs.Prelude.{Result, Ok, Err}
use Rattle.answers.specs.declared.Reply.TheVariants as r
use Rattle.admission.specs.Denial.{Allowed, Denied}
use Rattle.store.specs.Model.{first_kind}
use Rattle.responder.specs.Entry.{length-is, refusal}
use Rattle.responder.specs.Respond.{Line, number, none}
use Rattle.capi.specs.Result.{number_of, judged, worded}
use Rattle.capi.specs.Slices.{Slices, slices, head_words}
use Rattle.capi.specs.Calls.{port_of, access_of, form_for, start_line, port_line, mode_line}
use Rattle.capi.specs.Gate.{filled, reply_filled, short, key_filled, memory_filled, resource_filled}

-- what is computed, and what it has to be
module _ {A : Type 0} where
  abbrev is : List (A × A) → List A
  is rows = map (λ (x : A × A). x.0) rows

  abbrev should : List (A × A) → List A
  should rows = map (λ (x : A × A). x.1) rows

-- ---- what is refused before a unit is looked at

-- slices of so many words, words and octets; a unit's
abbrev of : ℕ → ℕ → ℕ → Slices
of head table memory = slices (replicate head 0) (replicate table 0) (replicate memory 0)

abbrev unit : Slices
unit = of 5 256 8192

abbrev lines : List (Line × Line)
lines =
    -- "301 for a version above 15", a port above 1, a mode above 2
    (start_line 15 unit, none)
    ∷ (start_line 16 unit, number 301)
    ∷ (port_line 1 unit, none)
    ∷ (port_line 2 unit, number 16)
    ∷ (mode_line 2 unit, none)
    ∷ (mode_line 3 unit, number 16)
    -- slices that are shorter than a unit's, and longer
    ∷ (port_line 0 (of 4 256 8192), number 300)
    ∷ (port_line 0 (of 6 256 8192), number 300)
    ∷ (port_line 0 (of 5 255 8192), number 300)
    ∷ (port_line 0 (of 5 257 8192), number 300)
    ∷ (port_line 0 (of 5 256 8191), number 300)
    ∷ (port_line 0 (of 5 256 8193), number 300)
    -- the number that is too great comes first
    ∷ (start_line 16 (of 0 0 0), number 301)
    ∷ (port_line 2 (of 0 0 0), number 16)
    ∷ (mode_line 3 (of 0 0 0), number 16)
    ∷ []

pub lines-hold : is lines ≡ should lines
lines-hold = refl

-- ---- what numbers stand for

pub ports-hold : map port_of (0 ∷ 1 ∷ []) ≡ Normal ∷ Secure ∷ []
ports-hold = refl

-- a password of all zeros is one
pub accesses-hold : access_of false 7 ∷ access_of true 7 ∷ access_of true 0 ∷ [] ≡ Plain ∷ Password 7 ∷ Password 0 ∷ []
accesses-hold = refl

pub forms-hold : map form_for (false ∷ true ∷ []) ≡ f.Plain ∷ f.Password ∷ []
forms-hold = refl

-- ---- the number of each outcome

abbrev results : List (ℤ × ℤ)
results =
    (number_of (done 0), pos 0)
    ∷ (number_of (done 2048), pos 2048)
    ∷ (number_of (refused 16), negsuc 15)
    ∷ (number_of (refused 300), negsuc 299)
    ∷ (number_of (judged Allowed), pos 0)
    ∷ (number_of (judged (Denied 6)), negsuc 5)
    ∷ (number_of (worded (length-is 5)), pos 5)
    ∷ (number_of (worded (refusal 300)), negsuc 299)
    ∷ []

pub results-hold : is results ≡ should results
results-hold = refl

-- ---- the words of a head

pub words-hold : head_words (record { limits = first_kind; version = 15; allocation = true; passwords = false; count = 3; used = 9 }) ≡ 15 ∷ 1 ∷ 0 ∷ 3 ∷ 9 ∷ []
words-hold = refl

-- ---- the words that the readers put

abbrev list : Entries
list = record { start = 7; count = 2 }

abbrev part : Span
part = record { start = 7; len = 2 }

-- a slice of twelve words and one more
abbrev old : List ℕ
old = replicate 13 99

-- an answer as it is read, with the twelve words that tell it
abbrev read : Result Reply Fault → Outcome × List ℕ
read x = reply_filled x old

abbrev fills : List ((Outcome × List ℕ) × (Outcome × List ℕ))
fills =
    -- as many words as there is room for, fewer, more
    (filled 4 (1 ∷ 2 ∷ []) (8 ∷ 9 ∷ []), (done 4, 1 ∷ 2 ∷ []))
    ∷ (filled 4 (1 ∷ 2 ∷ []) (8 ∷ 9 ∷ 9 ∷ []), (done 4, 1 ∷ 2 ∷ 9 ∷ []))
    ∷ (filled 4 (1 ∷ 2 ∷ []) (8 ∷ []), (refused 300, 8 ∷ []))
    -- type, version, status, tag, first place, length or count, and what a unit can take
    ∷ (
      read (Ok (r.Accepted 1 (g.Resources (record { largest = 11; tags = 12; octets = 13; volatile_tags = 14; volatile_octets = 15; entries = 16 }) list))),
      (done 128, 128 ∷ 1 ∷ 0 ∷ 0 ∷ 7 ∷ 2 ∷ 11 ∷ 12 ∷ 13 ∷ 14 ∷ 15 ∷ 16 ∷ 99 ∷ []),
    )
    ∷ (read (Ok (r.Accepted 1 (g.Allocate f.Plain 5))), (done 129, 129 ∷ 1 ∷ 0 ∷ 5 ∷ 0 ∷ 0 ∷ 0 ∷ 0 ∷ 0 ∷ 0 ∷ 0 ∷ 0 ∷ 99 ∷ []))
    ∷ (read (Ok (r.Accepted 1 (g.Free f.Password 5))), (done 194, 194 ∷ 1 ∷ 0 ∷ 5 ∷ 0 ∷ 0 ∷ 0 ∷ 0 ∷ 0 ∷ 0 ∷ 0 ∷ 0 ∷ 99 ∷ []))
    ∷ (read (Ok (r.Accepted 1 (g.Read f.Plain 5 part))), (done 131, 131 ∷ 1 ∷ 0 ∷ 5 ∷ 7 ∷ 2 ∷ 0 ∷ 0 ∷ 0 ∷ 0 ∷ 0 ∷ 0 ∷ 99 ∷ []))
    ∷ (read (Ok (r.Accepted 1 (g.Write f.Password 5))), (done 196, 196 ∷ 1 ∷ 0 ∷ 5 ∷ 0 ∷ 0 ∷ 0 ∷ 0 ∷ 0 ∷ 0 ∷ 0 ∷ 0 ∷ 99 ∷ []))
    ∷ (read (Ok (r.Accepted 1 (g.BulkRead f.Plain list))), (done 133, 133 ∷ 1 ∷ 0 ∷ 0 ∷ 7 ∷ 2 ∷ 0 ∷ 0 ∷ 0 ∷ 0 ∷ 0 ∷ 0 ∷ 99 ∷ []))
    ∷ (read (Ok (r.Accepted 1 (g.BulkWrite f.Password list))), (done 198, 198 ∷ 1 ∷ 0 ∷ 0 ∷ 7 ∷ 2 ∷ 0 ∷ 0 ∷ 0 ∷ 0 ∷ 0 ∷ 0 ∷ 99 ∷ []))
    ∷ (read (Ok (r.Denied 1 4 part)), (done 255, 255 ∷ 1 ∷ 4 ∷ 0 ∷ 7 ∷ 2 ∷ 0 ∷ 0 ∷ 0 ∷ 0 ∷ 0 ∷ 0 ∷ 99 ∷ []))
    ∷ (read (Err Other), (refused 16, old))
    -- eleven words are too few
    ∷ (reply_filled (Ok (r.Denied 1 4 part)) (replicate 11 99), (refused 300, replicate 11 99))
    -- an entry: its words, and the next place
    ∷ (key_filled (Ok (record { value = record { access = Plain; tag = 5 }; next = 8 })) (9 ∷ 9 ∷ []), (done 8, 5 ∷ 9 ∷ []))
    ∷ (key_filled (Err Other) (9 ∷ []), (refused 16, 9 ∷ []))
    ∷ (memory_filled (Ok (record { value = record { access = Plain; tag = 5; span = part }; next = 8 })) (9 ∷ 9 ∷ 9 ∷ []), (done 8, 5 ∷ 7 ∷ 2 ∷ []))
    ∷ (memory_filled (Ok (record { value = record { access = Plain; tag = 5; span = part }; next = 8 })) (9 ∷ 9 ∷ []), (refused 300, 9 ∷ 9 ∷ []))
    ∷ (memory_filled (Err Other) (9 ∷ []), (refused 16, 9 ∷ []))
    ∷ (resource_filled (Ok (record { value = record { tag = 5; mode = 6; held = 7; size = 8 }; next = 17 })) (9 ∷ 9 ∷ 9 ∷ 9 ∷ []), (done 17, 5 ∷ 6 ∷ 7 ∷ 8 ∷ []))
    ∷ (resource_filled (Err Other) (9 ∷ []), (refused 16, 9 ∷ []))
    -- "if the octets are over 2,048", 16 before 300
    ∷ (short (replicate 2048 0) (done 8, 5 ∷ []) (9 ∷ []), (done 8, 5 ∷ []))
    ∷ (short (replicate 2049 0) (done 8, 5 ∷ []) (9 ∷ []), (refused 16, 9 ∷ []))
    ∷ (short (replicate 2049 0) (refused 300, 9 ∷ []) (9 ∷ []), (refused 16, 9 ∷ []))
    ∷ []

pub fills-hold : is fills ≡ should fills
unfolding filled
fills-hold = refl
