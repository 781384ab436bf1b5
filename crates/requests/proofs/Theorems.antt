-- The theorems about requests that docs/PROOFS.md names.
use Prim.Native.Nat.{ℕ}
use mathlib.Core.Path.{◌≡◌, sym, ap, ◌∙◌}
use mathlib.Core.Bool.{Bool, true, false}
use mathlib.Core.List.{List, []}
use native.Mathlib.Omega.{arith}
use lib.ListN.{take}
use Rattle.std.specs.Prelude.{Result, Ok}
use Rattle.octets.specs.Reading.{ok, told, message, Octets}
use Rattle.octets.specs.Area.{Does, described}
use Rattle.octets.specs.Frame.{Message}
use Rattle.octets.specs.declared.Fault.{Fault}
use Rattle.octets.proofs.Places.{told-ok}
use Rattle.octets.proofs.Areas.{written-front}
use Rattle.octets.proofs.Frames.{written-reads, read-written, read_whole}
use Rattle.requests.specs.Request.{Body, request_body, request_read, request_octets, request_writable, request_sent}
use Rattle.requests.specs.View.{request_in, Understood}
use Rattle.requests.specs.declared.Request.{Request}
use Rattle.requests.proofs.Requests.{request-lawful}

-- what is written reads back as the request that it was written from
pub request-written-reads : (m : Message Body) → request_writable m ≡ true → request_read (request_octets m) ≡ ok m []
request-written-reads = written-reads request_body request-lawful

-- whatever is read is exactly what would be written from the request that it was read as
pub request-read-written : (s : List ℕ) (m : Message Body) → Octets s → told (request_read s) ≡ message m → (s ≡ request_octets m) × (request_writable m ≡ true)
request-read-written s m o e =
    let x = told-ok (request_read s) m e in
    read-written request_body request-lawful s m o (x.1 ∙ ap (λ (r : List ℕ). ok m r) (read_whole request_body request-lawful s m x.0 x.1))

-- the same of the code: what a writer of requests wrote, from slices that describe a request or directly, the reader tells as that request
pub request-trip : (b : Bool) (m : Message Body) (old new : List ℕ) (n : ℕ) (r : Result Request Fault)
    → Does (described b (request_sent m old) old) (Ok n) new → Understood (take n new) r
    → request_in (take n new) r ≡ message m
request-trip true m old new n r d u =
    let x = written-front (request_writable m) (request_octets m) old new n d in
    u.says ∙ ap (λ (l : List ℕ). told (request_read l)) x.1 ∙ ap told (request-written-reads m x.0)
request-trip false m old new n r d u = let x = d.says in let z : ◌≡◌ {A = ℕ} 0 1 = cc in absurd (omega arith)

-- and what the reader tells as a request is written again as those octets
pub request-again : (s : List ℕ) (m : Message Body) (r : Result Request Fault) → Octets s → Understood s r
    → request_in s r ≡ message m → (s ≡ request_octets m) × (request_writable m ≡ true)
request-again s m r o u e = request-read-written s m o (sym u.says ∙ e)
