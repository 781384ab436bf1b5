use mathlib.Core.Path.{refl}
use native.Mathlib.Omega.{arith}
use Rattle.octets.specs.declared.Form.TheVariants as f
use Rattle.admission.specs.declared.Denial.TheVariants as d
use Rattle.responder.specs.Respond.{act, resources_done, bulk_read_done}
use Rattle.responder.proofs.Performs.{forms, denies, performs-seven, performs}
use Rattle.responder.proofs.perform.Goals as goal

pub returns-then-head-entry_count : goal.returns-then-head-entry_count
returns-then-head-entry_count c = λ u v s.
    rw (performs-seven u _ _ _ s c.args.port c.args.s.now v c.args.operation (λ i. (c.type_inv.s i).fits)
    c.requires.operation_place (omega arith)) (denies u _ _ _ _ d.List s)

pub returns-in-Resources : goal.returns-in-Resources
unfolding act resources_done
returns-in-Resources c = λ u v s.
    rw (performs u _ _ _ s c.args.port c.args.s.now v c.args.operation (λ i. (c.type_inv.s i).fits)
    c.requires.operation_place _ f.Plain c.in-Resources.is (omega arith) refl)
    (record { sends = c.serve_resources.ensures u _ s; left = s })

pub returns-in-Allocate : goal.returns-in-Allocate
unfolding act
returns-in-Allocate c = λ u v s.
    rw (performs u _ _ _ s c.args.port c.args.s.now v c.args.operation (λ i. (c.type_inv.s i).fits)
    c.requires.operation_place _ _ c.in-Allocate.is (omega arith) (forms _).0)
    (c.serve_allocate.ensures u _ _ s)

pub returns-in-Free : goal.returns-in-Free
unfolding act
returns-in-Free c = λ u v s.
    rw (performs u _ _ _ s c.args.port c.args.s.now v c.args.operation (λ i. (c.type_inv.s i).fits)
    c.requires.operation_place _ _ c.in-Free.is (omega arith) (forms _).1)
    (c.serve_free.ensures u s)

pub returns-in-Read : goal.returns-in-Read
unfolding act
returns-in-Read c = λ u v s.
    rw (performs u _ _ _ s c.args.port c.args.s.now v c.args.operation (λ i. (c.type_inv.s i).fits)
    c.requires.operation_place _ _ c.in-Read.is (omega arith) (forms _).2)
    (c.serve_read.ensures u s)

pub returns-in-Write : goal.returns-in-Write
unfolding act
returns-in-Write c = λ u v s.
    rw (performs u _ _ _ s c.args.port c.args.s.now v c.args.operation (λ i. (c.type_inv.s i).fits)
    c.requires.operation_place _ _ c.in-Write.is (omega arith) (forms _).3)
    (rw c.part-src.ensures at (c.serve_write.ensures u s))

pub returns-in-BulkRead : goal.returns-in-BulkRead
unfolding act bulk_read_done
returns-in-BulkRead c = λ u v s.
    rw (performs u _ _ _ s c.args.port c.args.s.now v c.args.operation (λ i. (c.type_inv.s i).fits)
    c.requires.operation_place _ c.in-BulkRead.form c.in-BulkRead.is (omega arith) (forms _).4)
    (record { sends = c.bulk_read.ensures u s; left = s })

pub returns-in-BulkWrite : goal.returns-in-BulkWrite
unfolding act
returns-in-BulkWrite c = λ u v s.
    rw (performs u _ _ _ s c.args.port c.args.s.now v c.args.operation (λ i. (c.type_inv.s i).fits)
    c.requires.operation_place _ _ c.in-BulkWrite.is (omega arith) (forms _).5)
    (c.bulk_write.ensures u s)
