-- A field's layout: how a value is written, how it is read from the front of the octets, and which values can be written. And the ways to join layouts.
-- Every message of document 01 is made of these; proofs/Lawful shows once for each that what is written reads back, and that only that is read.
use Rattle.std.specs.Prelude.{ℕ, zero, suc, ◌^◌, Bool, true, ◌&&◌, cond, List, [], ◌∷◌, ◌++◌, length, take, drop, leb, ltb}
use Rattle.octets.specs.Reading.{Read, bad, ok, and_then}
use Rattle.octets.specs.Length.{encode_length, decode_length}
use Rattle.octets.specs.Number.{octets, decode_number}
use Rattle.octets.specs.declared.Fault.TheVariants.{Other}

-- a field: how a value is written, how one is read from the front of the octets, and which values it can hold
pub record Layout (A : Type 0) : Type 1 where
  pub put : A → List ℕ
  pub get : List ℕ → Read A
  pub fits : A → Bool

-- a number of n octets, high part first; from 256 ^ n on it "is too great for its field"
abbrev pub numeral : ℕ → Layout ℕ
numeral n = record { put = octets n; get = decode_number n; fits = λ x. ltb x (256 ^ n) }

-- "Lengths and list counts: 0 to 127 in one octet; 128 to 16,383 in two"
abbrev pub size : Layout ℕ
size = record { put = encode_length; get = decode_length; fits = λ n. ltb n 16384 }

-- n octets as they stand
abbrev pub take_raw : ℕ → List ℕ → Read (List ℕ)
take_raw n l = cond (leb n (length l)) (ok (take n l) (drop n l)) (bad Other)

-- a length, and as many octets: the end of "tag, length, data"
abbrev pub data' : Layout (List ℕ)
data' = record { put = λ d. encode_length (length d) ++ d; get = λ l. and_then (decode_length l) take_raw; fits = λ d. ltb (length d) 16384 }

module _ {A : Type 0} where
  -- the octets of a value that its field can hold; another value has none
  abbrev pub field_octets : Layout A → A → List ℕ
  field_octets L a = cond (L.fits a) (L.put a) []

  -- a layout that a table has or lacks
  abbrev pub allowed : Bool → Layout A → Layout A
  allowed b L = record { put = L.put; get = λ l. cond b (L.get l) (bad Other); fits = λ a. b && L.fits a }

  -- only values that pass a test: "any other value there does not decode"
  abbrev pub only : (A → Bool) → Layout A → Layout A
  only p L = record {
    put = L.put;
    get = λ l. and_then (L.get l) (λ a r. cond (p a) (ok a r) (bad Other));
    fits = λ a. L.fits a && p a;
  }

  -- n entries, one after the other
  abbrev pub entries : Layout A → ℕ → List ℕ → Read (List A)
  entries L zero l = ok [] l
  entries L (suc n) l = and_then (L.get l) (λ a r. and_then (entries L n r) (λ es t. ok (a ∷ es) t))

  -- the octets of entries, one after the other
  abbrev pub put_all : Layout A → List A → List ℕ
  put_all L [] = []
  put_all L (a ∷ es) = L.put a ++ put_all L es

  -- the field can hold every entry
  abbrev pub fit_all : Layout A → List A → Bool
  fit_all L [] = true
  fit_all L (a ∷ es) = L.fits a && fit_all L es

  -- "A list is its count and then its entries."
  abbrev pub list_of : Layout A → Layout (List A)
  list_of L = record {
    put = λ es. encode_length (length es) ++ put_all L es;
    get = λ l. and_then (decode_length l) (entries L);
    fits = λ es. ltb (length es) 16384 && fit_all L es;
  }

  -- a list of n entries, by the entry at each place
  abbrev pub listed : (ℕ → A) → ℕ → List A
  listed f zero = []
  listed f (suc n) = listed f n ++ (f n ∷ [])

  -- the values of a list that was read, or none
  abbrev pub taken : Read (List A) → List A
  taken (bad f) = []
  taken (ok es r) = es

module _ {A B : Type 0} where
  -- one after the other
  abbrev pub seq : Layout A → Layout B → Layout (A × B)
  seq L M = record {
    put = λ p. L.put p.0 ++ M.put p.1;
    get = λ l. and_then (L.get l) (λ a r. and_then (M.get r) (λ b t. ok (a, b) t));
    fits = λ p. L.fits p.0 && M.fits p.1;
  }

  -- the same octets, for values of another type
  abbrev pub via : (A → B) → (B → A) → Layout A → Layout B
  via f g L = record {
    put = λ b. L.put (g b);
    get = λ l. and_then (L.get l) (λ a r. ok (f a) r);
    fits = λ b. L.fits (g b);
  }

-- a test holds at each place below n
abbrev pub every : (ℕ → Bool) → ℕ → Bool
every p zero = true
every p (suc n) = every p n && p n
