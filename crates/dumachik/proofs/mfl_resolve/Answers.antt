-- `dumachik::mfl_resolve` meets its contract, by the law of a call that stores records: what its work says is enough. Assumes nothing.
use Rattle.resolve_records.proofs.Storing.{enough}
use Rattle.dumachik.proofs.mfl_resolve.Goals as goal

pub call-requires : goal.call-requires
call-requires c = enough
