use Rattle.window_mgr.proofs.tell.area_bytes.Goals as goal

pub returns-in-Visible-clause-bytes : goal.returns-in-Visible-clause-bytes
returns-in-Visible-clause-bytes c = rw c.in-Visible.is c.bytes_from.ensures.bytes

pub returns-in-Update-clause-bytes : goal.returns-in-Update-clause-bytes
returns-in-Update-clause-bytes c = rw c.in-Update.is c.bytes_from-in-Update.ensures.bytes
