use Prim.Native.Nat.{◌*◌, ◌<◌, ◌≤◌}
use native.Mathlib.Omega.{arith}
use lib.ListN.{length}
use Rattle.model.specs.Layout.{record_count}
use Rattle.laguipy_c.proofs.ViewLaws.{records-short, record-starts, no_record}
use Rattle.laguipy_c.proofs.record_start.Goals as goal

pub overflow_mul-result : goal.overflow_mul-result
overflow_mul-result c =
    let counted : c.args.i < record_count c.args.m.now c.args.e = omega (arith, c.if-i-record_count.true, c.record_count.ensures) in
    let short : c.record_size.result * c.args.i ≤ length c.args.m.now = rw c.record_size.ensures.0 (records-short _ _ _ counted) in
    omega (arith, short)

pub overflow_add-result : goal.overflow_add-result
overflow_add-result c =
    let counted : c.args.i < record_count c.args.m.now c.args.e = omega (arith, c.if-i-record_count.true, c.record_count.ensures) in
    let short : c.record_size.result * c.args.i ≤ length c.args.m.now = rw c.record_size.ensures.0 (records-short _ _ _ counted) in
    omega (arith, short, c.start_of.ensures.1)

pub returns-then-i-record_count : goal.returns-then-i-record_count
returns-then-i-record_count c =
    let counted : c.args.i < record_count c.args.m.now c.args.e = omega (arith, c.if-i-record_count.true, c.record_count.ensures) in
    record-starts c.args.m.now c.args.e c.args.i c.requires.m_value c.requires.e_bound counted c.record_size.ensures.0 c.start_of.ensures.0

pub returns-else-i-record_count : goal.returns-else-i-record_count
returns-else-i-record_count c = no_record c.args.m.now c.args.e c.args.i c.requires.m_value c.requires.e_bound (omega (arith, c.if-i-record_count.false, c.record_count.ensures))
