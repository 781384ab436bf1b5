-- Lists read in place: what was gone over entry by entry is the list behind its count.
use Prim.Native.Nat.{ℕ, ◌≤◌}
use mathlib.Core.Path.{◌≡◌, sym}
use mathlib.Core.List.{List}
use lib.ListN.{length, drop}
use Rattle.std.specs.Prelude.{Ok, Err}
use Rattle.octets.specs.Reading.{bad, ok, forget}
use Rattle.octets.specs.Layout.{Layout, entries}
use Rattle.octets.specs.View.{Reading, LengthAt, Walked, ListAt}
use Rattle.octets.specs.declared.Fault.{Fault}
use Rattle.octets.specs.declared.Entries.{Entries}
use Rattle.octets.proofs.Places.{forgot, forgot-bad}

module _ {A : Type 0} (L : Layout A) (s : List ℕ) where
  pub walked_to : (start n next : ℕ) → start ≤ length s → next ≤ length s → forget (entries L n (drop start s)) ≡ ok tt (drop next s)
      → Walked L s start n (Ok (record { value = record { start = start; count = n }; next = next }))
  walked_to start n next h k e = record { says = sym (forgot (entries L n (drop start s)) (drop next s) (sym e)); place = (h, k, e) }

  pub walked-bad : (start n : ℕ) (f : Fault) → forget (entries L n (drop start s)) ≡ bad f → Walked L s start n (Err f)
  walked-bad start n f e = record { says = sym (forgot-bad (entries L n (drop start s)) f (sym e)); place = tt }

  pub list-walked : {at n next : ℕ} {r : Reading Entries} → LengthAt s at (Ok (record { value = n; next = next })) → Walked L s next n r → ListAt L s at r
  list-walked e w = record { says = rw (← e.says) w.says; place = w.place }

  pub list-bad : {at : ℕ} {f : Fault} → LengthAt s at (Err f) → ListAt L s at (Err f)
  list-bad e = record { says = rw (← e.says); place = tt }
