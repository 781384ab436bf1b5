-- By the way that an operation goes: its answer and what it leaves are the step's.
use Rattle.std.specs.Prelude.{Option, Some, None, Result, Ok, Err, IsErr, IsErrAnd}
use Rattle.std.specs.Option.{ok_or}
use Rattle.std.proofs.Common.{rules}
use Prim.Native.Nat.{ℕ, ◌+◌, ◌*◌, ◌≤◌, ◌<◌}
use mathlib.Core.Path.{◌≡◌, refl, sym, ap, ◌∙◌}
use mathlib.Core.Bool.{Bool}
use mathlib.Core.List.{List, []}
use native.Mathlib.Omega.{arith}
use lib.ListN.{length}
use lib.Seq.{sets}
use Rattle.octets.specs.Area.{laid, Laid}
use Rattle.octets.specs.Number.{bare}
use Rattle.octets.specs.declared.Access.{Access}
use Rattle.octets.specs.declared.Port.{Port}
use Rattle.octets.specs.declared.Port.TheVariants.{Secure}
use Rattle.octets.proofs.Areas.{laid-holds}
use Rattle.admission.specs.Admission.{admission}
use Rattle.admission.specs.Want.{Want, Allocate, Fit, Free, Read, Write}
use Rattle.admission.specs.Want as k
use Rattle.admission.specs.declared.Attributes.{Attributes}
use Rattle.admission.specs.declared.Head.{Head}
use Rattle.admission.specs.declared.Mode.{Mode}
use Rattle.admission.specs.Denial.{number, Verdict, Allowed, Denied}
use Rattle.admission.specs.declared.Denial.{Denial}
use Rattle.admission.proofs.Admitted
use Rattle.rows.specs.Keyed.{here, look, change, without}
use Rattle.rows.specs.Row.{empty, slot_tag, words, slot_at, with_held}
use Rattle.rows.specs.declared.Slot.{Slot}
use Rattle.rows.proofs.Keys
use Rattle.store.specs.Answers.{Did, found, held_at, ReadOf}
use Rattle.store.specs.Model.{Tag, State, tag_id, holding, arranged, Shows}
use Rattle.store.specs.Raw.{row_of, known_at, overwritten, head_with}
use Rattle.store.specs.Steps.{registered, verdict, acted, written, asked, more, write_step, free_step, allocate_step, fit_step, content, content_by, held_by, read_step}
use Rattle.store.proofs.Located
use Rattle.store.proofs.States
use Rattle.store.proofs.Told
use Rattle.store.proofs.Valid

-- the row that has to be there is
pub there : (o : Option ℕ) (i : ℕ) → Ok i ≡ ok_or o Denial.Tag → o ≡ Some i
there (Some j) i e = let z : i ≡ j = cc in ap Some (sym z)
there None i e = let z : ◌≡◌ {A = ℕ} 0 1 = cc in absurd (omega arith)

-- what `?` hands on is the error that it met
pub handed : {A : Type 0} (r : Result A Denial) (d : Denial) → IsErr r × IsErrAnd r (λ e. e ≡ d) → r ≡ Err d
handed r d h = search rules

-- ---- of any table

module _ (h : Head) (table : List ℕ) (x : ℕ) (w : Want) (p : Port) (a : Access) where
  -- the verdict is admission's, by what the table tells of the tag
  abbrev pub Judged : Verdict → Type 0
  Judged v = v ≡ admission h (known_at table (row_of h table x)) w p a

  -- a tag that has a row is known by its slot
  pub by_row : (i : ℕ) (q : Slot) (v : Verdict) → row_of h table x ≡ Some i → q ≡ slot_at table i → v ≡ admission h (k.Tag q.about) w p a → Judged v
  by_row i q v f eq e =
      e ∙ ap (λ (r : Slot). admission h (k.Tag r.about) w p a) eq ∙ ap (λ (g : Option ℕ). admission h (known_at table g) w p a) (sym f)

  -- a tag that has none is a stranger, which the number 6 denies
  pub by-none : (d : Denial) → Err d ≡ ok_or (row_of h table x) Denial.Tag → admission h k.Nothing w p a ≡ Denied 6 → Judged (Denied (number d))
  by-none d f e = go (row_of h table x) f
    where
      go : (o : Option ℕ) → Err d ≡ ok_or o Denial.Tag → Denied (number d) ≡ admission h (known_at table o) w p a
      go (Some i) g = let z : ◌≡◌ {A = ℕ} 0 1 = cc in absurd (omega arith)
      go None g = let z : d ≡ Denial.Tag = cc in rw z (sym e)

-- ---- of a table that stands for a unit

module _ (u : State) (h : Head) (table pool : List ℕ) (s : Shows u h table pool) (x : ℕ) where
  -- find

  pub find-there : (i : ℕ) → row_of h table x ≡ Some i → Some (record { about = (slot_at table i).about; held = (slot_at table i).held }) ≡ found (registered u x)
  find-there i e =
      let c = States.known u h table pool s i (States.row-found u h table pool s x i e).0 in
      ap (λ (q : Slot). Some (record { about = q.about; held = q.held })) c.is ∙ sym (ap found (States.found-tag u h table pool s x i e))

  pub find_none : row_of h table x ≡ None → None ≡ found (registered u x)
  find_none e = sym (ap found (States.not_found u h table pool s x e))

  module _ (w : Want) (p : Port) (a : Access) where
    told : (v : Verdict) → Judged h table x w p a v → verdict u x w p a ≡ v
    told v q = sym (States.verdict-is u h table pool s x w p a) ∙ sym q

    -- a denial leaves all as it was
    denied : (d : ℕ) (m : List Tag) → Judged h table x w p a (Denied d) → Did (acted u (verdict u x w p a) m) (Denied d) h table pool
    denied d m q = let v = told (Denied d) q in record { answered = rw v; left = rw v s }

    -- what is allowed leaves the step's tags
    allowed : (m : List Tag) (h' : Head) (table' pool' : List ℕ) → Judged h table x w p a Allowed → Shows (holding u m) h' table' pool'
        → Did (acted u (verdict u x w p a) m) Allowed h' table' pool'
    allowed m h' table' pool' q t = let v = told Allowed q in record { answered = rw v; left = rw v t }

  -- ---- what is denied of a tag that has a row or none

  module _ (p : Port) (a : Access) where
    pub read-denied : (d : Denial) → Judged h table x Read p a (Denied (number d)) → ReadOf u x p a pool (Err d)
    unfolding read_step
    read-denied d q =
        let v = told Read p a (Denied (number d)) q in
        record {
          exact = sym (ap (λ (r : Verdict). held_at r (look slot_tag (bare x) (arranged u.tags))) v);
          says = sym (ap (λ (r : Verdict). content_by r (held_by (registered u x))) v);
          place = tt;
        }

    pub write-denied : (xs : List ℕ) (d : ℕ) → Judged h table x (Write (length xs)) p a (Denied d) → Did (write_step u x xs p a) (Denied d) h table pool
    unfolding write_step
    write-denied xs d q = denied (Write (length xs)) p a d (change tag_id (bare x) (written xs) u.tags) q

    pub free-denied : (d : ℕ) → Judged h table x Free p a (Denied d) → Did (free_step u x p a) (Denied d) h table pool
    unfolding free_step
    free-denied d q = denied Free p a d (without tag_id (bare x) u.tags) q

    -- ---- what is allowed of a tag that has a row

    module _ (i : ℕ) (f : row_of h table x ≡ Some i) (q : Slot) (eq : q ≡ slot_at table i) where
      abbrev row : (i < h.count) × (slot_tag (slot_at table i) ≡ bare x)
      row = States.row-found u h table pool s x i f

      pub read-done : Allowed ≡ admission h (k.Tag q.about) Read p a → ReadOf u x p a pool (Ok (record { start = q.at; len = q.held }))
      unfolding read_step
      read-done y =
          let v = told Read p a Allowed (by_row h table x Read p a i q Allowed f eq y) in
          let b = States.slot_is u h table pool s i row.0 in
          let l : look slot_tag (bare x) (arranged u.tags) ≡ here (slot_at table i) =
          Keys.look_at slot_tag empty (bare x) (arranged u.tags) i (States.in_order u h table pool s i row.0)
          (Located.apart-arranged u.tags s.valid.apart) (ap slot_tag (sym b) ∙ row.1)
          ∙ ap here (sym b) in
          rw eq (record {
            exact = rw (v, l);
            says = rw v (ap content (States.data-there u h table pool s i row.0 ∙ sym (ap held_by (States.found-tag u h table pool s x i f))));
            place = (
              omega (arith, States.within-used u h table pool s i row.0, States.held_fits u h table pool s i row.0, States.used-there u h table pool s),
              omega (arith, States.held_fits u h table pool s i row.0, States.size_small u h table pool s i row.0),
            );
          })

      -- data that may be written fits the row's area
      fits : (n : ℕ) → Allowed ≡ admission h (k.Tag q.about) (Write n) p a → n ≤ (slot_at table i).about.size
      fits n y = rw eq at (Admitted.allowed-write h p a q.about n (sym y))

      -- and with what was held there lies in the memory
      pub write-room : (n : ℕ) → Allowed ≡ admission h (k.Tag q.about) (Write n) p a → (q.at + n ≤ length pool) × (q.at + q.held ≤ length pool)
      write-room n y =
          let w = States.within-used u h table pool s i row.0 in
          let r = States.used-there u h table pool s in
          rw eq (omega (arith, fits n y, w, r), omega (arith, States.held_fits u h table pool s i row.0, w, r))

      pub write-done : (xs table' pool' : List ℕ) → Allowed ≡ admission h (k.Tag q.about) (Write (length xs)) p a → table' ≡ with_held table i (length xs)
          → pool' ≡ overwritten pool q.at q.held xs → Did (write_step u x xs p a) Allowed h table' pool'
      unfolding write_step
      write-done xs table' pool' y et ep =
          allowed (Write (length xs)) p a (change tag_id (bare x) (written xs) u.tags) h table' pool'
          (by_row h table x (Write (length xs)) p a i q Allowed f eq y)
          (rw row.1 at (States.put-shows u h table pool s i xs table' pool' row.0 (fits (length xs) y) et
          (ep ∙ ap (λ (r : Slot). overwritten pool r.at r.held xs) eq)))

      pub free-done : (h' : Head) (table' pool' : List ℕ) → Allowed ≡ admission h (k.Tag q.about) Free p a
          → Shows (holding u (without tag_id (slot_tag q) u.tags)) h' table' pool' → Did (free_step u x p a) Allowed h' table' pool'
      unfolding free_step
      free-done h' table' pool' y t =
          allowed Free p a (without tag_id (bare x) u.tags) h' table' pool' (by_row h table x Free p a i q Allowed f eq y)
          (rw (ap slot_tag eq ∙ row.1) at t)

  -- ---- of a new tag

  module _ (size : ℕ) (mode : Mode) (spf : Bool) (a : Access) (new : Attributes) (en : new ≡ asked x size mode spf a) where
    -- a new tag's row and area
    grown : (xs : List ℕ) (h' : Head) (table' pool' : List ℕ) → Told.Room u x size → length xs ≤ size → h' ≡ head_with h new.size
        → table' ≡ laid table (h.count * 8) (words (record { about = new; at = h.used; held = length xs })) → pool' ≡ sets pool h.used xs
        → Shows (holding u (more u (asked x size mode spf a) xs)) h' table' pool'
    grown xs h' table' pool' r l eh et ep =
        States.more-shows u h table pool s (record { about = asked x size mode spf a; held = xs }) h' table' pool'
        (Valid.room-valid u x size mode spf a xs r l s.valid)
        (eh ∙ ap (λ (b : Attributes). head_with h b.size) en)
        (et ∙ ap (λ (b : Attributes). laid table (h.count * 8) (words (record { about = b; at = h.used; held = length xs }))) en)
        ep

    module _ (p : Port) where
      want : (v : Verdict) → Judged h table x (Allocate new) p a v → Judged h table x (Allocate (asked x size mode spf a)) p a v
      want v q = q ∙ ap (λ (b : Attributes). admission h (known_at table (row_of h table x)) (Allocate b) p a) en

      pub allocate-denied : (d : ℕ) → Judged h table x (Allocate new) p a (Denied d) → Did (allocate_step u x size mode spf p a) (Denied d) h table pool
      unfolding allocate_step
      allocate-denied d q = denied (Allocate (asked x size mode spf a)) p a d (more u (asked x size mode spf a) []) (want (Denied d) q)

      pub allocate-done : (h' : Head) (table' : List ℕ) → Judged h table x (Allocate new) p a Allowed → h' ≡ head_with h new.size
          → table' ≡ laid table (h.count * 8) (words (record { about = new; at = h.used; held = 0 })) → Did (allocate_step u x size mode spf p a) Allowed h' table' pool
      unfolding allocate_step
      allocate-done h' table' q eh et =
          let w : Want = Allocate (asked x size mode spf a) in
          let r = Told.allocate-room u x p a (asked x size mode spf a) (told w p a Allowed (want Allowed q)) in
          allowed w p a (more u (asked x size mode spf a) []) h' table' pool (want Allowed q) (grown [] h' table' pool r (omega arith) eh et refl)

    module _ (xs : List ℕ) where
      fitting : (v : Verdict) → Judged h table x (Fit new (length xs)) Secure a v → Judged h table x (Fit (asked x size mode spf a) (length xs)) Secure a v
      fitting v q = q ∙ ap (λ (b : Attributes). admission h (known_at table (row_of h table x)) (Fit b (length xs)) Secure a) en

      pub fit-denied : (d : ℕ) → Judged h table x (Fit new (length xs)) Secure a (Denied d) → Did (fit_step u x size mode spf a xs) (Denied d) h table pool
      unfolding fit_step
      fit-denied d q = denied (Fit (asked x size mode spf a) (length xs)) Secure a d (more u (asked x size mode spf a) xs) (fitting (Denied d) q)

      pub fit-done : (h' : Head) (table' pool' : List ℕ) (next : ℕ) → Judged h table x (Fit new (length xs)) Secure a Allowed → h' ≡ head_with h new.size
          → table' ≡ laid table (h.count * 8) (words (record { about = new; at = h.used; held = length xs })) → Laid pool h.used xs pool' next
          → Did (fit_step u x size mode spf a xs) Allowed h' table' pool'
      unfolding fit_step
      fit-done h' table' pool' next q eh et ep =
          let w : Want = Fit (asked x size mode spf a) (length xs) in
          let r = Told.fit-room u x Secure a (asked x size mode spf a) (length xs) (told w Secure a Allowed (fitting Allowed q)) in
          let room : h.used + length xs ≤ length pool = omega (arith, r.1, r.0.space.room, States.used-is u h table pool s, States.pool-long u h table pool s) in
          allowed w Secure a (more u (asked x size mode spf a) xs) h' table' pool' (fitting Allowed q)
          (grown xs h' table' pool' r.0 r.1 eh et (laid-holds pool h.used xs room ep))
