use Rattle.view.proofs.ViewLaws.{viewed}
use Rattle.view.proofs.record_of.Goals as goal

pub returns : goal.returns
returns c =
    let seen = viewed c.args.m c.view_of.ensures c.args.e c.args.i c.record_in.ensures in
    record { result_value = seen.0; ref_ptr_value = seen.1 }
