-- Arrays side by side as they grow by an entry: the first entries, and behind them one more. Used for what is told of
-- tags, for what a bulk read chooses and for the names that a bulk write notes.
use Prim.Native.Nat.{ℕ, zero, suc, ◌+◌, ◌-◌, ◌<◌, ◌≤◌}
use mathlib.Core.Path.{◌≡◌, refl}
use mathlib.Core.Bool.{true}
use mathlib.Core.List.{List, [], ◌∷◌, ◌++◌}
use native.Mathlib.Omega.{arith}
use native.Mathlib.Numerals.{add-one}
use lib.ListN.{length, get_or, set, take, length-set, get_or-append}
use lib.Seq.{length-take-le, take-suc-set, get_or_at}
use borrow.Author.Tests.{le-leb}
use Rattle.octets.specs.Layout.{listed, every}
use Rattle.octets.specs.declared.Access.TheVariants.{Plain}
use Rattle.octets.specs.declared.Form.TheVariants as f
use Rattle.octets.specs.declared.Span.{Span}
use Rattle.octets.specs.View.{within}
use Rattle.octets.proofs.Places.{both-are}
use Rattle.octets.proofs.Lists.{every-is, every-at}
use Rattle.lists.specs.Handed.{key_at, keys_of, held_at, inside_at}
use Rattle.resources.specs.Resource.{resource_at}
use Rattle.resources.specs.declared.Resource.{Resource}
use Rattle.responder.specs.Entry.{names_in, resources_in, picked}
use Rattle.responder.specs.declared.Names.{Names}
use Rattle.responder.specs.declared.Information.{Information}
use Rattle.responder.specs.declared.Chosen.{Chosen}

-- ---- one array

module _ (l : List ℕ) (k x : ℕ) (h : k < length l) where
  -- there is one more
  pub grown-length : length (take (suc k) (set l k x)) ≡ suc k
  grown-length = length-take-le (suc k) (set l k x) (rw (length-set l k x) h)

  -- before there were k
  first-length : length (take k l) ≡ k
  first-length = length-take-le k l (omega arith)

  -- an entry before is as it was
  pub grown-before : (i : ℕ) → i < k → get_or (take (suc k) (set l k x)) i 0 ≡ get_or (take k l) i 0
  grown-before i j = rw (take-suc-set l k x h) (get_or-append (take k l) (x ∷ []) 0 i (rw first-length j))

  -- the last is the new one
  pub grown-last : get_or (take (suc k) (set l k x)) k 0 ≡ x
  grown-last = rw (take-suc-set l k x h) (get_or_at (take k l) x [] 0 k first-length)

-- the part of an array that has so many entries
pub part_length : (l : List ℕ) (k : ℕ) → length l ≡ 16 → k ≤ 16 → length (take (k - 0) l) ≡ k
part_length l k e h = let q : k - 0 ≡ k = omega arith in rw q (length-take-le k l (omega arith))

-- ---- lists by their places

-- lists that agree at every place
listed_same : {A : Type 0} (f g : ℕ → A) (n : ℕ) → ((i : ℕ) → i < n → f i ≡ g i) → listed f n ≡ listed g n
listed_same f g zero h = refl
listed_same f g (suc n) h = rw (listed_same f g n (λ i k. h i (omega arith)), h n (omega arith))

-- lists that agree below k, the one with an entry more
listed_more : {A : Type 0} (f g : ℕ → A) (k : ℕ) (a : A) → ((i : ℕ) → i < k → f i ≡ g i) → f k ≡ a → listed f (suc k) ≡ listed g k ++ a ∷ []
listed_more f g k a h e = rw (listed_same f g k h, e)

-- ---- the names of tags

pub keys-more : (k : ℕ) (names : List ℕ) (x : ℕ) → k < length names
    → keys_of f.Plain (take (k + 1) (set names k x)) [] ≡ keys_of f.Plain (take k names) [] ++ (x, Plain) ∷ []
keys-more k names x h =
    rw (add-one k, grown-length names k x h, length-take-le k names (omega arith))
    (listed_more (key_at f.Plain (take (suc k) (set names k x)) []) (key_at f.Plain (take k names) []) k _
    (λ i j. rw (grown-before names k x h i j))
    (rw (grown-last names k x h)))

pub names-more : (c : Names) (x : ℕ) → c.count < length c.tags
    → names_in (record { tags = set c.tags c.count x; count = c.count + 1 }) ≡ names_in c ++ (x, Plain) ∷ []
names-more c x h =
    let k = c.count in
    rw (add-one k, grown-length c.tags k x h, length-take-le k c.tags (omega arith))
    (listed_more (key_at f.Plain (take (suc k) (set c.tags k x)) []) (key_at f.Plain (take k c.tags) []) k _
    (λ i j. rw (grown-before c.tags k x h i j))
    (rw (grown-last c.tags k x h)))

-- ---- what is told of tags

-- what is told of one tag more
pub resources-more : (c : Information) (r : Resource) → c.count < length c.tags → c.count < length c.modes
    → c.count < length c.held → c.count < length c.sizes
    → resources_in (record {
      tags = set c.tags c.count r.tag;
      modes = set c.modes c.count r.mode;
      held = set c.held c.count r.held;
      sizes = set c.sizes c.count r.size;
      count = c.count + 1;
    })
    ≡ resources_in c ++ r ∷ []
resources-more c r a b d e =
    let k = c.count in
    rw (add-one k, grown-length c.tags k r.tag a, length-take-le k c.tags (omega arith))
    (listed_more (resource_at (take (suc k) (set c.tags k r.tag)) (take (suc k) (set c.modes k r.mode))
    (take (suc k) (set c.held k r.held)) (take (suc k) (set c.sizes k r.size)))
    (resource_at (take k c.tags) (take k c.modes) (take k c.held) (take k c.sizes)) k _
    (λ i j. rw (
      grown-before c.tags k r.tag a i j,
      grown-before c.modes k r.mode b i j,
      grown-before c.held k r.held d i j,
      grown-before c.sizes k r.size e i j,
    ))
    (rw (
      grown-last c.tags k r.tag a,
      grown-last c.modes k r.mode b,
      grown-last c.held k r.held d,
      grown-last c.sizes k r.size e,
    )))

-- ---- data in the memory

module _ (c : Chosen) (pool : List ℕ) (x : ℕ) (i : Span) (z : ℕ) (g : c.count < length c.tags)
    (h : c.count < length c.starts) (j : c.count < length c.lengths) where
  -- the chosen entries and one more
  abbrev pub with_more : Chosen
  with_more = record {
    tags = set c.tags c.count x;
    starts = set c.starts c.count i.start;
    lengths = set c.lengths c.count i.len;
    count = c.count + 1;
    size = z;
  }

  -- what they describe
  pub picked_more : picked with_more pool ≡ picked c pool ++ ((x, Plain), within pool i) ∷ []
  picked_more =
      let k = c.count in
      rw (add-one k, grown-length c.tags k x g, length-take-le k c.tags (omega arith))
      (listed_more (held_at f.Plain (take (suc k) (set c.tags k x)) [] (take (suc k) (set c.starts k i.start))
      (take (suc k) (set c.lengths k i.len)) pool)
      (held_at f.Plain (take k c.tags) [] (take k c.starts) (take k c.lengths) pool) k _
      (λ y b. rw (
        grown-before c.tags k x g y b,
        grown-before c.starts k i.start h y b,
        grown-before c.lengths k i.len j y b,
      ))
      (rw (grown-last c.tags k x g, grown-last c.starts k i.start h, grown-last c.lengths k i.len j)))

  -- it lies within the memory too
  pub inside-more : every (inside_at (take c.count c.starts) (take c.count c.lengths) pool) c.count ≡ true
      → i.start + i.len ≤ length pool
      → every (inside_at (take with_more.count with_more.starts) (take with_more.count with_more.lengths) pool)
      with_more.count ≡ true
  inside-more e l =
      let k = c.count in
      let p = inside_at (take (suc k) (set c.starts k i.start)) (take (suc k) (set c.lengths k i.len)) pool in
      let q = inside_at (take k c.starts) (take k c.lengths) pool in
      rw (add-one k)
      (both-are (every p k) (p k)
      (every-is p k (λ y b. rw (grown-before c.starts k i.start h y b, grown-before c.lengths k i.len j y b)
      (every-at q k y e b)))
      (rw (grown-last c.starts k i.start h, grown-last c.lengths k i.len j) (le-leb (i.start + i.len) (length pool) l)))
