-- What the octets from the start of a record on are. Document 01, 'The gate log program': "records, each with the two-octet mark 4D 41, port (0 normal, 1 secure),
-- request length in two octets (high first), request." What is wrong is told as soon as an octet that is there shows it.
use Rattle.std.specs.Prelude.{cond, ℕ, ◌+◌, ◌*◌, List, [], ◌∷◌, length, take, drop, eqb, leb, ltb}
use Rattle.octets.specs.declared.Port.{Port}
use Rattle.octets.specs.declared.Port.TheVariants.{Normal, Secure}

-- what stands at the front of octets
pub data Front : Type 0 where
  -- no octet at all
  nothing : Front
  -- "A wrong mark, a port above 1, a length above 2,048", or one record too many
  wrong : Front
  -- the beginning of a record whose rest is missing
  cut : Front
  -- a record: its port, its request, and the octets behind it
  whole : Port → List ℕ → List ℕ → Front

-- "port (0 normal, 1 secure)"
abbrev pub port_of : ℕ → Port
port_of n = cond (eqb n 0) Normal Secure

-- the request, behind its length: "a length above 2,048" is wrong, and a request that is not all there is cut
abbrev pub request : Port → ℕ → List ℕ → Front
request p n s = cond (ltb 2048 n) wrong (cond (ltb (length s) n) cut (whole p (take n s) (drop n s)))

-- "request length in two octets (high first)"
abbrev pub request_length : Port → List ℕ → Front
request_length p [] = cut
request_length p (a ∷ []) = cut
request_length p (a ∷ b ∷ s) = request p (a * 256 + b) s

-- the port and what is behind it: "a port above 1" is wrong
abbrev pub port : List ℕ → Front
port [] = cut
port (a ∷ s) = cond (ltb 1 a) wrong (request_length (port_of a) s)

-- the second octet of the mark, and what is behind it
abbrev pub second_mark : List ℕ → Front
second_mark [] = cut
second_mark (a ∷ s) = cond (eqb a 0x41) (port s) wrong

-- "the two-octet mark 4D 41", and what is behind it: "A wrong mark" is wrong, whatever follows
unfoldable pub front : List ℕ → Front
front [] = nothing
front (a ∷ s) = cond (eqb a 0x4d) (second_mark s) wrong

-- "or one after the 4,294,967,295th": with so many answered before, one octet is a record too many
unfoldable pub front_after : ℕ → List ℕ → Front
front_after n [] = nothing
front_after n (a ∷ s) = cond (leb 4294967295 n) wrong (front (a ∷ s))
