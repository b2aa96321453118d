-- The status of the program where a call below it fails.
-- Cited by the conversions of errors (`From`) into `Status`.
use Rattle.lb_io.specs.declared.whole.ReadError.{ReadError}
use Rattle.lb_io.specs.declared.whole.ReadError.TheVariants as read_errors
use Rattle.lb_trace.specs.declared.trace.Code.TheVariants.{TooLong, BadLine}
use Rattle.lb_trace.specs.declared.trace.TraceError.{TraceError}
use Rattle.lb_trace.specs.declared.trace.TraceError.TheVariants as trace_errors
use Rattle.lb_read.specs.declared.written.RecordError.{RecordError}
use Rattle.lb_read.specs.declared.written.RecordError.TheVariants as record_errors
use Rattle.lb.specs.declared.status.Status.{Status}
use Rattle.lb.specs.declared.status.Status.TheVariants as status

-- by the reading of the source
abbrev pub status_of_read_error : ReadError → Status
status_of_read_error read_errors.ReadFault = status.ReadFault
status_of_read_error read_errors.TooLong = status.Refused 0 TooLong
status_of_read_error read_errors.NoMemory = status.NoMemory

-- by the reading of a trace
abbrev pub status_of_trace_error : TraceError → Status
status_of_trace_error (trace_errors.Refused line code) = status.Refused line code
status_of_trace_error trace_errors.NoMemory = status.NoMemory

-- by the reading of a history
abbrev pub status_of_record_error : RecordError → Status
status_of_record_error (record_errors.BadLine line) = status.Refused line BadLine
status_of_record_error record_errors.NoMemory = status.NoMemory
