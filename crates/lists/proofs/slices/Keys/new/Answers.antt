use mathlib.Core.Path.{refl, sym, ◌∙◌}
use borrow.Author.Tests.{eq-eqb, ne_eqb}
use Rattle.lists.specs.Handed.{agrees}
use Rattle.lists.proofs.slices.Keys.new.Goals as goal
use Rattle.lists.proofs.slices.Keys.new.Goals.{in-Plain, in-Password}

pub returns-then-passwords-wanted : goal.returns-then-passwords-wanted
unfolding agrees
returns-then-passwords-wanted c = (
  refl,
  elim c.match-form.branch [
    | in-Plain w ↦ rw w.in-Plain.is (ne_eqb _ _ (λ e. c.if-passwords-wanted.true (e ∙ sym w.wanted-is)))
    | in-Password w ↦ rw w.in-Password.is (ne_eqb _ _ (λ e. c.if-passwords-wanted.true (e ∙ sym w.wanted-is)))
  ],
)

pub invariant_of-result : goal.invariant_of-result
unfolding agrees
invariant_of-result c = record {
  agree = elim c.match-form.branch [
    | in-Plain w ↦ rw w.in-Plain.is (eq-eqb _ _ (c.if-passwords-wanted.false ∙ w.wanted-is))
    | in-Password w ↦ rw w.in-Password.is (eq-eqb _ _ (c.if-passwords-wanted.false ∙ w.wanted-is))
  ];
}
