-- `host_build::put_data` meets its contract: an arm for each kind of data.
-- Assumes nothing.
use Rattle.buffers.specs.Page.{puts_of}
use Rattle.host_build.proofs.put_data.Goals as goal

pub returns-in-Nothing-clause-put : goal.returns-in-Nothing-clause-put
unfolding puts_of
returns-in-Nothing-clause-put c = rw c.in-Nothing.is
