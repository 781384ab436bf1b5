-- The frame around a body (document 01, 'Messages'): version in the high four bits with four zero fill bits; command type 1; operation type;
-- security profile 0; length of the body; body. Over any table that gives an operation type its body's layout.
use Rattle.std.specs.Prelude.{ℕ, ◌+◌, ◌*◌, Bool, ◌&&◌, cond, List, [], ◌∷◌, ◌++◌, length, ltb, leb, eqb}
use Rattle.std.proofs.lemmas.List.Edits.{sets}
use Rattle.octets.specs.Reading.{Read, bad, ok, and_then, at_end}
use Rattle.octets.specs.Length.{encode_length, decode_length}
use Rattle.octets.specs.Number.{version_part, fill_part}
use Rattle.octets.specs.Layout.{Layout}
use Rattle.octets.specs.Area.{Outcome, done, refused, written}
use Rattle.octets.specs.declared.Fault.TheVariants.{Other}

-- ---- writing

-- "version in the high four bits with four zero fill bits; command type 1; operation type; security profile 0; length of the body":
-- what stands before a body of n octets
unfoldable pub opening : ℕ → ℕ → ℕ → List ℕ
opening version kind n = (version * 16) ∷ 1 ∷ kind ∷ 0 ∷ encode_length n

-- and the body behind it
abbrev pub framed : ℕ → ℕ → List ℕ → List ℕ
framed version kind body = opening version kind (length body) ++ body

-- a message of that version, with a body of n octets, may be written: not "if the version is above 15", nor if "the message would exceed 2,048 octets"
unfoldable pub openable : ℕ → ℕ → ℕ → Bool
openable version kind n = ltb version 16 && leb (length (opening version kind n) + n) 2048

-- what opening a message gives, and the area with the octets before its body
unfoldable pub opened : ℕ → ℕ → ℕ → List ℕ → Outcome × List ℕ
opened version kind n old =
    cond (openable version kind n)
    (cond (ltb (length old) (length (opening version kind n) + n)) (refused 300, old) (done (length (opening version kind n)), sets old 0 (opening version kind n)))
    (refused 16, old)

-- a body of the layout L in its frame, written into an area
unfoldable pub sent : {A : Type 0} → Layout A → ℕ → ℕ → A → List ℕ → Outcome × List ℕ
sent L version kind a old = written (openable version kind (length (L.put a)) && L.fits a) (framed version kind (L.put a)) old

-- ---- reading

-- the operation type: "operation type absent" is a fault
abbrev pub typed : ℕ → List ℕ → Read (ℕ × ℕ)
typed version [] = bad Other
typed version (kind ∷ l) = ok (version, kind) l

-- the command type before it: "command type absent or not 1" is a fault
abbrev pub commanded : ℕ → List ℕ → Read (ℕ × ℕ)
commanded version [] = bad Other
commanded version (c ∷ l) = cond (eqb c 1) (typed version l) (bad Other)

-- version and operation type: "request empty" and "fill bits not zero" are faults
unfoldable pub heading : List ℕ → Read (ℕ × ℕ)
heading [] = bad Other
heading (v ∷ l) = cond (eqb (fill_part v) 0) (commanded (version_part v) l) (bad Other)

-- what stands between operation type and body: "security profile absent or not 0; a length in another form; the body is not exactly the rest" are faults
unfoldable pub enclosed : List ℕ → Read (Unit {0})
enclosed [] = bad Other
enclosed (p ∷ l) = cond (eqb p 0) (and_then (decode_length l) (λ n r. cond (eqb n (length r)) (ok tt r) (bad Other))) (bad Other)

-- a message: its version, its operation type, its body
pub record Message (A : Type 0) : Type 0 where
  pub version : ℕ
  pub kind : ℕ
  pub body : A

module _ {A : Type 0} where
  -- the body, by its operation type, to the last octet
  abbrev pub bodied : (ℕ → Layout A) → ℕ × ℕ → List ℕ → Read (Message A)
  bodied kinds h l = and_then (at_end ((kinds h.1).get l)) (λ b r. ok (record { version = h.0; kind = h.1; body = b }) r)

  -- the message that octets are, by a table of bodies
  unfoldable pub decode : (ℕ → Layout A) → List ℕ → Read (Message A)
  decode kinds s = and_then (heading s) (λ h l. and_then (enclosed l) (λ u r. bodied kinds h r))

  -- the octets of a message
  unfoldable pub encode : (ℕ → Layout A) → Message A → List ℕ
  encode kinds m = framed m.version m.kind ((kinds m.kind).put m.body)

  -- a message that may be written: version at most 15, each value in its field, at most 2,048 octets
  unfoldable pub writable : (ℕ → Layout A) → Message A → Bool
  writable kinds m = openable m.version m.kind (length ((kinds m.kind).put m.body)) && (kinds m.kind).fits m.body

  -- what octets are read as; a fault "if the octets are over 2,048"
  unfoldable pub receive : (ℕ → Layout A) → List ℕ → Read (Message A)
  receive kinds s = cond (ltb 2048 (length s)) (bad Other) (decode kinds s)
