use Rattle.nt_serve_rows.proofs.Seats.{served_same}
use Rattle.nt_serve_rows.proofs.rows.serve.Goals as goal

pub returns-in_err-served_lines : goal.returns-in_err-served_lines
returns-in_err-served_lines g c = served_same _ _ _ _ _ c.serve_connection-served.ensures.served

pub returns : goal.returns
returns g c = served_same _ _ _ _ _ c.serve_connection-served.ensures.served
