-- What a bulk read chooses, entry by entry: an entry is passed over where a single command would be denied, or where the body would have more than 2,042 octets.
use Prim.Native.Nat.{ℕ, ◌+◌, ◌<◌, ◌≤◌}
use mathlib.Core.Path.{◌≡◌, refl, sym, ap, ◌∙◌}
use mathlib.Core.Bool.{true}
use mathlib.Core.List.{List, [], ◌∷◌, ◌++◌}
use native.Mathlib.Omega.{arith}
use lib.ListN.{length, set, take, length-append}
use lib.Seq.{length-take-le}
use borrow.Author.Tests.{eq-eqb, le-leb, lt-leb}
use Rattle.octets.specs.Area.{Written, Does}
use Rattle.octets.specs.Length.{encode_length}
use Rattle.octets.specs.Layout.{put_all}
use Rattle.octets.specs.Number.{bare}
use Rattle.octets.specs.View.{within}
use Rattle.octets.specs.declared.Access.{Access}
use Rattle.octets.specs.declared.Form.{Form}
use Rattle.octets.specs.declared.Form.TheVariants as f
use Rattle.octets.specs.declared.Port.{Port}
use Rattle.octets.specs.declared.Span.{Span}
use Rattle.octets.proofs.Lengths.{encode-short}
use Rattle.octets.proofs.Lists.{length-listed, put-snoc}
use Rattle.octets.proofs.Spans.{span-length}
use Rattle.tags.specs.Entry.{Keyed, Held, memory}
use Rattle.tags.proofs.Entries.{length-memory}
use Rattle.lists.specs.Handed.{agrees, held_at, belong}
use Rattle.answers.specs.Answer.{body_put, answer_writable, bulk_read_sent}
use Rattle.answers.specs.Answer as b
use Rattle.admission.specs.declared.Head.{Head}
use Rattle.store.specs.Model.{State, Shows}
use Rattle.store.specs.Steps.{content, read_step}
use Rattle.store.specs.Answers.{ReadOf}
use Rattle.admission.specs.declared.Denial.{Denial}
use Rattle.std.specs.Prelude.{Result, Ok, Err}
use Rattle.responder.specs.Respond.{named, given, all_reads, bulk_read_done}
use Rattle.responder.specs.Entry.{Sent, sent_of, Sends, Gives, picked, Picked, Chooses}
use Rattle.responder.specs.declared.Chosen.{Chosen}
use Rattle.responder.proofs.Grown.{with_more, picked_more, inside-more}
use Rattle.responder.proofs.Sends.{sends, described-so, version-is}
use Rattle.responder.proofs.Writable.{writable-short, Low, bulk-read-fine}

-- ---- whether there is room

module _ (hs : List Held) (x : ℕ) (xs : List ℕ) where
  -- the octets that the entries take with one more
  put-more : length (put_all (memory f.Plain) (hs ++ (named x, xs) ∷ [])) ≡ length (put_all (memory f.Plain) hs) + 8 + length (encode_length (length xs)) + length xs
  put-more =
      rw (put-snoc (memory f.Plain) hs (named x, xs))
      (omega (arith, length-append (put_all (memory f.Plain) hs) ((memory f.Plain).put (named x, xs)), length-memory f.Plain (named x, xs)))

  module _ (few : length hs < 127) where
    -- with one octet for their count
    body_more : length (body_put (b.bulk_read (hs ++ (named x, xs) ∷ []))) ≡ 1 + (length (put_all (memory f.Plain) hs) + 8 + length (encode_length (length xs)) + length xs)
    body_more =
        let es = hs ++ (named x, xs) ∷ [] in
        let n : length es < 128 = omega (arith, length-append hs ((named x, xs) ∷ [])) in
        omega (arith, length-append (encode_length (length es)) (put_all (memory f.Plain) es), ap length (encode-short (length es) n), put-more)

    -- there is room
    pub given-room : length (put_all (memory f.Plain) hs) + 8 + length (encode_length (length xs)) + length xs ≤ 2041 → given hs x (content xs) ≡ hs ++ (named x, xs) ∷ []
    given-room r = let n : length (body_put (b.bulk_read (hs ++ (named x, xs) ∷ []))) ≤ 2042 = omega (arith, body_more) in rw (le-leb _ _ n)

    -- there is none
    pub given-over : 2041 < length (put_all (memory f.Plain) hs) + 8 + length (encode_length (length xs)) + length xs → given hs x (content xs) ≡ hs
    given-over r = let n : 2042 < length (body_put (b.bulk_read (hs ++ (named x, xs) ∷ []))) = omega (arith, body_more) in rw (lt-leb _ _ n)

-- ---- one entry in the arrays

-- as many as are counted
picked-length : (c : Chosen) (pool : List ℕ) → c.count ≤ length c.tags → length (picked c pool) ≡ c.count
picked-length c pool h = length-listed (held_at f.Plain (take c.count c.tags) [] (take c.count c.starts)
    (take c.count c.lengths) pool) (length (take c.count c.tags)) ∙ length-take-le c.count c.tags h

-- a single command would be denied
pub chooses-denied : (x : ℕ) (c : Chosen) → c.size ≤ 2041 → (d : Denial) → Chooses (Err d) x c c
chooses-denied x c small d = record { few = omega arith; small = small; grown = λ pool l p k. (k, refl) }

module _ (x : ℕ) (c : Chosen) (small : c.size ≤ 2041) (p : Span) (t : length c.tags ≡ 16) (few : c.count < 16) where
  -- there is no room
  pub chooses-over : 2041 < c.size + 8 + length (encode_length p.len) + p.len → Chooses (Ok p) x c c
  chooses-over r = record {
    few = omega arith;
    small = small;
    grown = λ pool l q k.
        let n = picked-length c pool (omega arith) in
        let m : length (within pool p) ≡ p.len = span-length pool p q.0 in
        (k, sym (given-over (picked c pool) x (within pool p) (omega arith) (rw (m, k.size) r)));
  }

  -- there is
  pub chooses-one : (y e z : ℕ) → y ≡ bare x → e ≡ length (encode_length p.len) → length c.starts ≡ 16
      → length c.lengths ≡ 16 → z ≡ c.size + 8 + e + p.len → z ≤ 2041
      → Chooses (Ok p) x c (record {
        tags = set c.tags c.count y;
        starts = set c.starts c.count p.start;
        lengths = set c.lengths c.count p.len;
        count = c.count + 1;
        size = z;
      })
  chooses-one y e z ey ee i j ez r =
      let a : c.count < length c.tags = omega arith in
      let b : c.count < length c.starts = omega arith in
      let d : c.count < length c.lengths = omega arith in
      record {
        few = omega arith;
        small = r;
        grown = λ pool l q k.
            let hs = picked c pool in
            let n = picked-length c pool (omega arith) in
            let m : length (within pool p) ≡ p.len = span-length pool p q.0 in
            let g : picked (with_more c pool y p z a b d) pool ≡ hs ++ (named x, within pool p) ∷ [] = rw (← ey)
            (picked_more c pool y p z a b d) in
            let w : length (put_all (memory f.Plain) hs) + 8 + length
            (encode_length (length (within pool p))) + length (within pool p) ≡ z = rw (m, k.size, ez, ← ee) in (
              record {
                inside = inside-more c pool y p z a b d k.inside q.0;
                size = rw g (put-more hs x (within pool p) ∙ w);
              },
              g ∙ sym (given-room hs x (within pool p) (omega arith) (omega (arith, w))),
            );
      }

-- ---- the entries in turn

-- what was chosen so far lies in the memory, and what is left leads to the goal
pub record Going (u : State) (p : Port) (pool : List ℕ) (goal : List Held) (left : List Keyed) (c : Chosen) : Type 0
  where
    pub holds : Picked c pool
    pub rest : all_reads u p (picked c pool) left ≡ goal

-- at first what is left is the whole list
pub going-first : (u : State) (p : Port) (pool : List ℕ) (all left : List Keyed) (c : Chosen) → left ≡ all
    → Picked c pool → Going u p pool (all_reads u p (picked c pool) all) left c
going-first u p pool all left c e k = record { holds = k; rest = rw e }

module _ (u : State) (p : Port) (pool : List ℕ) (goal : List Held) (left : List Keyed) (c : Chosen) where
  -- an entry more
  pub going_next : (x : ℕ) (a : Access) (now : List Keyed) (b : Chosen) (r : Result Span Denial) → now ≡ (x, a) ∷ left
      → ReadOf u x p a pool r
      → Chooses r x b c → Going u p pool goal now b → Going u p pool goal left c
  unfolding all_reads
  going_next x a now b r e d s g =
      let k = s.grown pool u.limits d.place g.holds in
      let z : picked c pool ≡ given (picked b pool) x (read_step u x p a) = k.1 ∙ ap (given (picked b pool) x) d.says in
      record { holds = k.0; rest = rw z (rw e at g.rest) }

  -- none is left
  pub going-all : left ≡ [] → Going u p pool goal left c → Picked c pool × (picked c pool ≡ goal)
  unfolding all_reads
  going-all e g = (g.holds, rw e at g.rest)

-- ---- the answer

-- the first elements of the arrays, written as the answer that gives them
pub chosen-given : (c : Chosen) (version : ℕ) (form : Form) (pool old : List ℕ) {w : Written} {new : List ℕ}
    → c.count ≤ length c.tags → c.count ≤ length c.starts → c.count ≤ length c.lengths
    → Does (bulk_read_sent form version (take c.count c.tags) (take c.count c.starts) (take c.count c.lengths) pool
    old) w new → Picked c pool
    → Gives version form (b.bulk_read (picked c pool)) w old new
unfolding belong agrees
chosen-given c version form pool old et es el d i =
    described-so _ _ old
    (rw (
      length-take-le c.count c.tags et,
      eq-eqb _ _ (length-take-le c.count c.starts es),
      eq-eqb _ _ (length-take-le c.count c.lengths el),
      i.inside,
    ))
    d

-- it answers the list
pub bulk-read-sent : (u : State) (h : Head) (table pool : List ℕ) → Shows u h table pool
    → (p : Port) (form : Form) (ks : List Keyed) → Low ks → length ks ≤ 16
    → (hs : List Held) {w : Written} {r : Sent} {old new : List ℕ}
    → hs ≡ all_reads u p [] ks → 2048 ≤ length old → Gives h.version form (b.bulk_read hs) w old new → r ≡ sent_of w
    → Sends (bulk_read_done u p form ks).reply r old new
unfolding bulk_read_done
bulk-read-sent u h table pool s p form ks l n hs e room d er =
    let a = (bulk_read_done u p form ks).reply in
    let g : answer_writable a ≡ true = bulk-read-fine u p form s.valid ks l n in
    sends a g (writable-short a g) room (rw (version-is s, e) at d) er
