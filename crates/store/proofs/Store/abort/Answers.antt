use Rattle.store.proofs.Finishing.{finish_asks}
use Rattle.store.proofs.Store.abort.Goals as goal

pub check_finish-requires : goal.check_finish-requires
check_finish-requires c = finish_asks c.args.self _ c.in_form-fine.ensures
