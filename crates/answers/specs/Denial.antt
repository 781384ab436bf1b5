-- The denial (document 01, 'Messages', and table 3.2-41): version octet, 255, status, length of supplement, supplement of at most 127 octets.
use Rattle.std.specs.Prelude.{ℕ, ◌*◌, List, length, ltb, eqb}
use Rattle.octets.specs.Number.{version_part, fill_part}
use Rattle.octets.specs.Layout.{Layout, numeral, data', seq, via, only}
use Rattle.octets.specs.Area.{Outcome, written}

-- version in the high four bits, four zero fill bits
abbrev pub version_octet : Layout ℕ
version_octet = via version_part (λ v. v * 16) (only (λ x. eqb (fill_part x) 0) (numeral 1))

-- one octet that is always the same
abbrev pub exactly : ℕ → Layout (Unit {0})
exactly n = via (λ x. tt) (λ u. n) (only (eqb n) (numeral 1))

-- "supplement up to 127 octets"
abbrev pub supplement : Layout (List ℕ)
supplement = only (λ d. ltb (length d) 128) data'

-- a denial: whose version, its status, its supplement
pub record Denial : Type 0 where
  pub version : ℕ
  pub status : ℕ
  pub supplement : List ℕ

-- its parts in the order of their octets
abbrev pub denial_parts : Denial → ℕ × (Unit {0} × (ℕ × List ℕ))
denial_parts d = (d.version, (tt, (d.status, d.supplement)))

-- and the denial of such parts
abbrev pub denial_of : ℕ × (Unit {0} × (ℕ × List ℕ)) → Denial
denial_of p = record { version = p.0; status = p.1.1.0; supplement = p.1.1.1 }

-- "the unit's own version octet, 255, status, length of supplement, supplement" (3.2-41)
abbrev pub denial : Layout Denial
denial = via denial_of denial_parts (seq version_octet (seq (exactly 255) (seq (numeral 1) supplement)))

-- a denial written into an area
abbrev pub denial_sent : Denial → List ℕ → Outcome × List ℕ
denial_sent d old = written (denial.fits d) (denial.put d) old
