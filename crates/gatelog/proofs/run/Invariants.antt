use Rattle.store.specs.Model.{Sound}
use Rattle.gatelog.specs.Place.{Within, Roomy}
use Rattle.gatelog.proofs.run.Given as goal

-- the unit stays sound, and the places stay within their buffers
abbrev pub invariant-loop : goal.invariant-loop
invariant-loop g l = Sound l.place.head l.table l.pool × Within l.place l.input l.out × Roomy l.input l.out
