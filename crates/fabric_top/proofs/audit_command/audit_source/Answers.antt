use Rattle.fabric_top.proofs.Audited.{is_done}
use Rattle.fabric_top.proofs.audit_command.audit_source.Goals as goal

pub returns : goal.returns
returns g c =
    let e = c.audit.ensures in
    record {
      read = e.read;
      written = e.written;
      statuses = e.statuses;
      read_fault = e.read_fault;
      write_fault = e.write_fault;
      complete = λ bytes groups left good source sink.
          is_done c.audit.result bytes groups _ _ _ (e.written bytes left) good (λ r. source (e.read_fault r)) (λ w. sink (e.write_fault w));
    }
